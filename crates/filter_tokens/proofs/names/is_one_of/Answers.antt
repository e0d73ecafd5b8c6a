use Rattle.std.proofs.Common.{true, false, ap, arith, sym, ◌∙◌}
use Rattle.filter_tokens.specs.Names.{is_text}
use Rattle.filter_tokens.proofs.TokenLemmas.{any_step}
use Rattle.filter_tokens.proofs.names.is_one_of.Goals as goal

pub returns-then-eq : goal.returns-then-eq
returns-then-eq c =
    sym (c.loop-name.invariant
    ∙ any_step c.args.word.now c.args.words.now c.loop-name.name-index _ true (omega arith)
    (ap (is_text c.args.word.now) (sym c.as_bytes.ensures.value) ∙ sym c.eq.ensures ∙ c.if-eq.true))

pub loop-name-preserved : goal.loop-name-preserved
loop-name-preserved c =
    c.loop-name.invariant
    ∙ any_step c.args.word.now c.args.words.now c.loop-name.name-index _ false (omega arith)
    (ap (is_text c.args.word.now) (sym c.as_bytes.ensures.value) ∙ sym c.eq.ensures ∙ c.if-eq.false)
