use Rattle.std.proofs.Common.{◌≡◌, ◌-◌, ◌%◌, ◌++◌, ℕ, List, [], ◌∷◌, length, ap, ◌∙◌, append_assoc, arith}
use Rattle.std.specs.Int.{w16, to_be_bytes}
use Rattle.std.proofs.lemmas.List.{length-append}
use Rattle.ep_base.specs.Checksum.{ones_sum, no_zero}
use Rattle.ep_base.proofs.SumLemmas.{sum_more}
use Rattle.ep_transport.proofs.SumLemmas.{sum_piece}
use Rattle.ep_transport.proofs.udp_header.UdpHeader.checksum_with_pseudo_header.Goals as goal

pub returns : goal.returns
returns c = λ prefix even sum.
    let header = c.args.self.now in
    let a = to_be_bytes w16 header.source_port in
    let b = to_be_bytes w16 header.destination_port in
    let d = to_be_bytes w16 header.length in
    let e : List ℕ = 0 ∷ 0 ∷ [] in
    let payload = c.args.payload.now in
    let even_a : length (prefix ++ a) % 2 ≡ 0 = omega (arith, even, length-append prefix a) in
    let even_b : length ((prefix ++ a) ++ b) % 2 ≡ 0 = omega (arith, even_a, length-append (prefix ++ a) b) in
    let even_d : length (((prefix ++ a) ++ b) ++ d) % 2 ≡ 0 =
    omega (arith, even_b, length-append ((prefix ++ a) ++ b) d) in
    let even_e : length ((((prefix ++ a) ++ b) ++ d) ++ e) % 2 ≡ 0 =
    omega (arith, even_d, length-append (((prefix ++ a) ++ b) ++ d) e) in
    let first = sum_piece prefix a _ _ _ sum even c.to_be_bytes.ensures c.add_2bytes.ensures in
    let second = sum_piece (prefix ++ a) b _ _ _ first even_a c.to_be_bytes-2.ensures c.add_2bytes-2.ensures in
    let third = sum_piece ((prefix ++ a) ++ b) d _ _ _ second even_b c.to_be_bytes-3.ensures c.add_2bytes-3.ensures in
    let fourth = sum_more (((prefix ++ a) ++ b) ++ d) e _ _ third even_d c.add_2bytes-4.ensures in
    let fifth = sum_more ((((prefix ++ a) ++ b) ++ d) ++ e) payload _ _ fourth even_e c.add_slice.ensures in
    let parts =
    append_assoc (((prefix ++ a) ++ b) ++ d) e payload ∙ append_assoc ((prefix ++ a) ++ b) d (e ++ payload)
    ∙ append_assoc (prefix ++ a) b (d ++ (e ++ payload)) ∙ append_assoc prefix a (b ++ (d ++ (e ++ payload))) in
    c.ones_complement_with_no_zero.ensures ∙ ap (λ (n : ℕ). no_zero (65535 - n)) (fifth ∙ ap ones_sum parts)
