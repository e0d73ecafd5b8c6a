use Rattle.std.proofs.Common.{◌≡◌, ◌≤◌, ◌-◌, ◌%◌, ◌++◌, ℕ, List, [], ◌∷◌, length, take, drop, ap, ◌∙◌, append_assoc, arith}
use Rattle.std.proofs.lemmas.List.{length-append, length-take, length-drop, take_all}
use Rattle.ep_base.specs.Checksum.{ones_sum, ones_add}
use Rattle.ep_base.proofs.SumLemmas.{sum_more}
use Rattle.ep_transport.proofs.tcp_slice.TcpSlice.checksum_with_pseudo_header.Goals as goal

pub returns : goal.returns
returns c = λ prefix even sum.
    let complete = c.args.self.now.bytes in
    let bytes = complete.slice.now in
    let long : 20 ≤ length bytes = omega (arith, complete.words, complete.whole) in
    let ports = take 16 bytes in
    let zero : List ℕ = 0 ∷ 0 ∷ [] in
    let rest = drop 18 bytes in
    let first = sum_more prefix ports _ _ sum even c.add_slice.ensures in
    let even_first : length (prefix ++ ports) % 2 ≡ 0 =
    omega (arith, even, length-append prefix ports, length-take 16 bytes, long) in
    let second = sum_more (prefix ++ ports) zero _ _ first even_first c.add_2bytes.ensures in
    let even_second : length ((prefix ++ ports) ++ zero) % 2 ≡ 0 =
    omega (arith, even_first, length-append (prefix ++ ports) zero) in
    let after : take (length bytes - 18) (drop 18 bytes) ≡ rest =
    take_all (length bytes - 18) (drop 18 bytes) (omega (arith, length-drop 18 bytes)) in
    let third =
    sum_more ((prefix ++ ports) ++ zero) rest _ _ second even_second
    (c.add_slice-2.ensures ∙ ap (λ (s : List ℕ). ones_add c.add_2bytes.result (ones_sum s)) after) in
    let parts = append_assoc (prefix ++ ports) zero rest ∙ append_assoc prefix ports (zero ++ rest) in
    c.ones_complement.ensures ∙ ap (λ (n : ℕ). 65535 - n) (third ∙ ap ones_sum parts)
