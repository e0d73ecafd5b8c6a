use Rattle.std.proofs.Common.{[], ◌∷◌, ◌++◌, refl}
use Rattle.ep_transport.specs.Icmpv4.{icmpv4_code_u8, icmpv4_rest_with, icmpv4_type_u8}
use Rattle.ep_transport.specs.Icmpv6.{icmpv6_code_u8, icmpv6_rest_with, icmpv6_type_u8}
use Rattle.ep_transport.proofs.SumLemmas.{filled}
use Rattle.ep_transport.proofs.laws.icmp.checksums.Goals as goal

pub returns-clause-icmpv4 : goal.returns-clause-icmpv4
returns-clause-icmpv4 c = λ header payload.
    filled [] (icmpv4_type_u8 header.icmp_type ∷ icmpv4_code_u8 header.icmp_type ∷ [])
    (icmpv4_rest_with (0 ∷ 0 ∷ 0 ∷ 0 ∷ []) header.icmp_type ++ payload) refl refl

pub returns-clause-icmpv6 : goal.returns-clause-icmpv6
returns-clause-icmpv6 c = λ prefix header payload even.
    filled prefix (icmpv6_type_u8 header.icmp_type ∷ icmpv6_code_u8 header.icmp_type ∷ [])
    (icmpv6_rest_with (0 ∷ 0 ∷ 0 ∷ 0 ∷ []) header.icmp_type ++ payload) even refl
