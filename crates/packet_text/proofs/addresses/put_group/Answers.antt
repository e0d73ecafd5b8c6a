use Rattle.std.proofs.Common.{◌≡◌, ◌+◌, ◌-◌, ◌/◌, ◌%◌, ◌≤◌, ◌++◌, drop, nat_le, ap, arith, ◌∙◌}
use Rattle.std.proofs.lemmas.Grind.{common_steps}
use Rattle.std.specs.Net.Text.{hex}
use Rattle.packet_text.specs.Addresses.{hex_pair}
use Rattle.packet_text.proofs.AddressLemmas.{drop_part, hex_is, skipped, skipped-most}
use Rattle.packet_text.proofs.addresses.put_group.Goals as goal

pub returns-clause-text : goal.returns-clause-text
returns-clause-text c =
    let text = c.args.text.now in
    let end = c.args.end in
    let group = c.args.group in
    let digits = hex_pair (group / 256) ++ hex_pair (group % 256) in
    let skip = skipped (nat_le 4096 group) (nat_le 256 group) (nat_le 16 group) in
    let few : skip ≤ 3 = skipped-most (nat_le 4096 group) (nat_le 256 group) (nat_le 16 group) in
    let start : end - 1 - (c.from.result + c.from-2.result + c.from-3.result) ≡ (end - 4) + skip =
    grind (arith, common_steps) in
    let written : c.copy_from_slice.new.self ≡ digits = grind (arith, common_steps) in
    let after = drop (end - (end - 4)) (drop (end - 4) text) in
    let following : after ≡ drop end text = grind (arith, common_steps) in
    rw (start, written)
    (drop_part text digits after (end - 4) skip (omega (arith, c.told-text, c.requires)) (omega (arith, few))
    ∙ ap (λ t. t ++ after) (hex_is group) ∙ ap (λ t. hex group ++ t) following)
