use Rattle.std.proofs.Common.{◌≡◌, ◌∷◌, ◌++◌, length, set, ap, arith, ◌∙◌}
use Rattle.std.proofs.lemmas.Grind.{common_steps}
use Rattle.std.proofs.lemmas.List.{length-append, set_at, take_at}
use Rattle.packet_times.specs.TimeTexts.{fraction_text}
use Rattle.packet_times.proofs.texts.push_fraction.Goals as goal

pub bounds-as_mut_slice-start : goal.bounds-as_mut_slice-start
bounds-as_mut_slice-start c =
    let items = c.args.output.now.items in
    let fraction = fraction_text c.args.fine c.args.nanos in
    let len : length items ≡ c.len-start.result = grind (arith, common_steps) in
    let pushed : c.as_mut_slice.result.now ≡ items ++ 49 ∷ fraction =
    c.as_mut_slice.ensures.value ∙ c.in_ok-push.ensures.text ∙ ap (λ t. items ++ t) c.one_and_fraction.ensures in
    omega (arith, len, ap length pushed, length-append items (49 ∷ fraction))

pub returns : goal.returns
returns c =
    let items = c.args.output.now.items in
    let start = c.len-start.result in
    let fraction = fraction_text c.args.fine c.args.nanos in
    let len : length items ≡ start = grind (arith, common_steps) in
    let pushed : c.as_mut_slice.result.now ≡ items ++ 49 ∷ fraction =
    c.as_mut_slice.ensures.value ∙ c.in_ok-push.ensures.text ∙ ap (λ t. items ++ t) c.one_and_fraction.ensures in
    let written : set c.as_mut_slice.result.now start 46 ≡ items ++ 46 ∷ fraction =
    ap (λ t. set t start 46) pushed ∙ set_at items 49 fraction 46 start len in
    let all : length (set c.as_mut_slice.result.now start 46) ≡ c.push.new.output.len = grind (arith, common_steps) in
    take_at (set c.as_mut_slice.result.now start 46) _ c.push.new.output.len all ∙ written
