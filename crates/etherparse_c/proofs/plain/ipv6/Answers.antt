use Rattle.std.proofs.Common.{rules, ◌≡◌, ◌⊎◌, refl, subst, true}
use Rattle.etherparse.specs.IpNumbers.{icmpv6_number, tcp_number, udp_number}
use Rattle.etherparse.specs.Types.IpNumber.{IpNumber}
use Rattle.etherparse.specs.Ipv6Slices.{ipv6_header_slice_header}
use Rattle.etherparse_c.proofs.PlainLemmas.{has_ipv6}
use Rattle.etherparse_c.proofs.plain.ipv6.Goals as goal

pub returns : goal.returns
returns c =
    let ok = c.in-Ok.ensures.ok in
    let read : c.ends_chain.result ≡ true = search rules in
    let known = subst (λ (k : IpNumber). (k.0 ≡ udp_number) ⊎ (k.0 ≡ tcp_number) ⊎ (k.0 ≡ icmpv6_number)) c.next_header-number.ensures
    (c.ends_chain.ensures read) in
    has_ipv6 c.args.slice.now ok.0 (ipv6_header_slice_header c.in-Ok.header) _ ok.2 known refl refl refl
    c.next_header-number.ensures c.in-Ok.ensures.source
