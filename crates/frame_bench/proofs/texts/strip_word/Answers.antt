use Rattle.std.proofs.Common.{◌∷◌, [], Some, None}
use Rattle.std.proofs.lemmas.Bool.Decides.{Decides-eqb}
use Rattle.std.proofs.lemmas.Slice.Eq.{strip_prefix_is}
use Rattle.line_io.specs.Lines.{space}
use Rattle.frame_bench.proofs.RequestLemmas.{strip_word_found}
use Rattle.frame_bench.proofs.texts.strip_word.Goals as goal

pub returns-in_err-strip_prefix-clause-none : goal.returns-in_err-strip_prefix-clause-none
returns-in_err-strip_prefix-clause-none c =
    let other = strip_prefix_is Decides-eqb c.args.text.now c.args.word.now None c.in_err-strip_prefix.ensures.cases in
    rw c.from_residual.ensures (λ rest e. other (space ∷ rest) e)

pub returns : goal.returns
returns c =
    let text = c.args.text.now in
    let rest = c.in_ok-strip_prefix.field-0 in
    let found = c.strip_prefix-2.result in
    let word = strip_prefix_is Decides-eqb text c.args.word.now (Some rest) c.in_ok-strip_prefix.ensures.cases in
    let next = strip_prefix_is Decides-eqb rest.now (space ∷ []) found c.strip_prefix-2.ensures.cases in
    let both = strip_word_found text c.args.word.now rest.now found word next in
    record { some = both.0; none = both.1 }
