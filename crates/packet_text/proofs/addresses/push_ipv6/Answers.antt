use Rattle.std.proofs.Common.{◌≡◌, [], ◌∷◌, true, false, take, bytes_eq, refl, arith, codes}
use Rattle.std.proofs.lemmas.Slice.Eq.{bytes_eq-Decides}
use Rattle.std.specs.Net.Addr.{ipv6_segments}
use Rattle.std.specs.Net.Text.{ipv6_text}
use Rattle.line_io.proofs.ResultLemmas.{OnOk-appended_two}
use Rattle.packet_text.specs.Addresses.{ipv4_text}
use Rattle.packet_text.proofs.addresses.push_ipv6.Goals as goal

pub returns-in_ok-extend_from_slice-in-Some : goal.returns-in_ok-extend_from_slice-in-Some
unfolding ipv6_text ipv4_text
returns-in_ok-extend_from_slice-in-Some c =
    let mapped : bytes_eq (take 6 (ipv6_segments c.from_octets-address.result)) (0 ∷ 0 ∷ 0 ∷ 0 ∷ 0 ∷ 65535 ∷ []) ≡ true =
    (bytes_eq-Decides _ _).1 (c.in-Some.ensures.found.0 refl) in
    OnOk-appended_two c.push_ipv4.result c.args.output.now.items c.extend_from_slice.new.self.items
    c.push_ipv4.new.output.items (codes "::ffff:") (ipv4_text c.octets.result) _
    (c.in_ok-extend_from_slice-in-Some.ensures.items) c.push_ipv4.ensures
    (rw (← c.from_octets-address.ensures, mapped, c.octets.ensures, ← c.in-Some.ensures.value) refl)

pub returns-in-None : goal.returns-in-None
unfolding ipv6_text
returns-in-None c =
    let other : bytes_eq (take 6 (ipv6_segments c.from_octets-address.result)) (0 ∷ 0 ∷ 0 ∷ 0 ∷ 0 ∷ 65535 ∷ []) ≡ false =
    grind (
      arith,
      bytes_eq-Decides (take 6 (ipv6_segments c.from_octets-address.result)) (0 ∷ 0 ∷ 0 ∷ 0 ∷ 0 ∷ 0xffff ∷ []),
      c.in-None.ensures.found,
    ) in
    rw (← c.from_octets-address.ensures, other, ← c.segments.ensures) c.push_groups.ensures
