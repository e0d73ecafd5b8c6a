use Rattle.std.proofs.Common.{[], ◌∷◌, refl}
use Rattle.ep_transport.specs.Icmpv4.{icmpv4_bytes}
use Rattle.ep_transport.specs.Icmpv6.{icmpv6_bytes}
use Rattle.ep_transport.proofs.laws.icmp.read_back.Goals as goal

pub returns-clause-icmpv4 : goal.returns-clause-icmpv4
returns-clause-icmpv4 c = λ header payload fits ends. record {
  encoded = icmpv4_bytes header;
  encodes = record { fits = fits; unused = 0 ∷ 0 ∷ 0 ∷ 0 ∷ []; four = refl; same = refl };
  parts = refl;
  ends = ends;
  whole = refl;
}

pub returns-clause-icmpv6 : goal.returns-clause-icmpv6
returns-clause-icmpv6 c = λ header payload fits. record {
  encoded = icmpv6_bytes header;
  encodes = record { fits = fits; unused = 0 ∷ 0 ∷ 0 ∷ 0 ∷ []; four = refl; same = refl };
  parts = refl;
  whole = refl;
}
