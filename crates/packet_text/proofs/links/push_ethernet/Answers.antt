use Rattle.std.proofs.Common.{rules, ◌≡◌, ◌∙◌, ◌++◌, ℕ, List, length, ap, codes, arith}
use Rattle.std.proofs.lemmas.List.{length-append}
use Rattle.packet_text.specs.Addresses.{mac_text}
use Rattle.line_io.proofs.ResultLemmas.{OnOk-appended}
use Rattle.packet_text.proofs.LinkLemmas.{two_addresses}
use Rattle.packet_text.proofs.links.push_ethernet.Goals as goal

pub slice_bounds-extend_from_slice-end : goal.slice_bounds-extend_from_slice-end
slice_bounds-extend_from_slice-end c =
    let a = c.copy_from_slice.new.self in
    let b = c.copy_from_slice-2.new.self in
    let first : length a ≡ 17 = search rules in
    let second : length b ≡ 17 = search rules in
    let complete = ap length (two_addresses a b first) in
    omega (arith, complete, first, second, length-append a (codes " > " ++ b))

pub returns : goal.returns
unfolding mac_text
returns c =
    let a = c.copy_from_slice.new.self in
    let b = c.copy_from_slice-2.new.self in
    let first : length a ≡ 17 = search rules in
    let text = two_addresses a b first
    ∙ ap (λ (l : List ℕ). l ++ (codes " > " ++ b)) (c.copy_from_slice.ensures.after ∙ c.mac_text.ensures)
    ∙ ap (λ (l : List ℕ). mac_text c.args.source ++ (codes " > " ++ l))
    (c.copy_from_slice-2.ensures.after ∙ c.mac_text-2.ensures) in
    OnOk-appended c.extend_from_slice.result c.args.output.now.items c.extend_from_slice.new.self.items _ _
    c.extend_from_slice.ensures.items (ap (λ (l : List ℕ). codes " eth " ++ l) text)
