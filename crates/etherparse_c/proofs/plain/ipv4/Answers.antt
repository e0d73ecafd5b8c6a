use Rattle.std.proofs.Common.{rules, ◌≡◌, length, drop, ap, refl, sym, ◌∙◌, arith}
use Rattle.std.proofs.lemmas.Bool.{eqb-false}
use Rattle.std.proofs.lemmas.List.{length-append}
use Rattle.etherparse.specs.IpNumbers.{authentication_number}
use Rattle.etherparse.specs.Types.IpNumber.{IpNumber}
use Rattle.etherparse.specs.Ipv4Slices.{ipv4_header_slice_bytes, ipv4_header_slice_header}
use Rattle.etherparse_c.proofs.PlainLemmas.{has_ipv4, limited_packet}
use Rattle.etherparse_c.proofs.plain.ipv4.Goals as goal

pub returns : goal.returns
returns c =
    let bytes = c.args.slice.now in
    let ok = c.in-Ok.ensures.ok in
    let header = ipv4_header_slice_header c.in-Ok.header in
    let n = c.header_len-len.result in
    let t = c.total_len-total_len.result in
    let cut = limited_packet bytes ok.0 header n t ok.2 c.header_len-len.ensures.value
    (omega (arith, ap length ok.1, length-append (ipv4_header_slice_bytes c.in-Ok.header) ok.0, c.header_len-len.ensures.bytes))
    c.total_len-total_len.ensures (omega arith) (omega arith) in
    let other : header.protocol.0 ≡ authentication_number → ⊥ =
    λ is. eqb-false _ _ (sym c.eq.ensures ∙ c.if-eq.false) (ap (λ (k : IpNumber). k.0) c.protocol-number.ensures ∙ is) in
    has_ipv4 bytes (drop t bytes) header _ cut other (search rules)
    refl c.header_len-len.ensures.value (c.from.ensures ∙ c.identification.ensures) c.protocol-number.ensures refl
