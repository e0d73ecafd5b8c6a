use Rattle.std.proofs.Common.{◌≡◌, ◌-◌, ◌%◌, ◌++◌, ℕ, List, length, sym, ap, ◌∙◌, append_assoc, arith}
use Rattle.std.proofs.lemmas.List.{length-append}
use Rattle.ep_base.specs.Checksum.{ones_sum, ones_add}
use Rattle.ep_base.proofs.SumLemmas.{sum_more}
use Rattle.ep_transport.proofs.tcp_header.TcpHeader.checksum_with_pseudo_header.Goals as goal

pub returns : goal.returns
returns c = λ prefix even sum.
    let fixed = c.fixed_bytes.result in
    let options = c.args.self.now.options in
    let payload = c.args.payload.now in
    let value = c.as_slice.ensures.value in
    let first = sum_more prefix fixed _ _ sum even c.add_slice.ensures in
    let len = length-append prefix fixed in
    let even_first : length (prefix ++ fixed) % 2 ≡ 0 = omega (arith, even, len, c.fixed_bytes.ensures.len) in
    let second =
    sum_more (prefix ++ fixed) options _ _ first even_first
    (c.add_slice-2.ensures ∙ ap (λ (s : List ℕ). ones_add c.add_slice.result (ones_sum s)) value) in
    let words : length options % 4 ≡ 0 = c.as_slice.ensures.words in
    let even_second : length ((prefix ++ fixed) ++ options) % 2 ≡ 0 =
    omega (arith, even_first, length-append (prefix ++ fixed) options, words) in
    let third = sum_more ((prefix ++ fixed) ++ options) payload _ _ second even_second c.add_slice-3.ensures in
    let header = ap (λ (s : List ℕ). prefix ++ (s ++ payload)) c.fixed_bytes.ensures.bytes in
    let parts =
    append_assoc (prefix ++ fixed) options payload ∙ append_assoc prefix fixed (options ++ payload)
    ∙ ap (λ (s : List ℕ). prefix ++ s) (sym (append_assoc fixed options payload)) in
    c.ones_complement.ensures ∙ ap (λ (n : ℕ). 65535 - n) (third ∙ ap ones_sum (parts ∙ header))
