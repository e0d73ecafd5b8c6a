use Rattle.std.proofs.Common.{true, false, map, ap, arith, sym, ◌∙◌}
use Rattle.std.proofs.lemmas.List.{at_drop_all}
use Rattle.filter_tokens.specs.Names.{is_text, lookup_name}
use Rattle.filter_tokens.proofs.TokenLemmas.{lookup_step}
use Rattle.filter_tokens.proofs.names.find_name.Goals as goal

pub returns-then-eq : goal.returns-then-eq
returns-then-eq g c =
    sym (c.loop-name.invariant
    ∙ lookup_step c.args.word.now c.args.names.now c.loop-name.name-index c.loop-name-item.result true (omega arith)
    c.loop-name-item.is
    (ap (is_text c.args.word.now) (sym c.as_bytes.ensures.value) ∙ sym c.eq.ensures ∙ c.if-eq.true))

pub loop-name-preserved : goal.loop-name-preserved
loop-name-preserved g c =
    c.loop-name.invariant
    ∙ lookup_step c.args.word.now c.args.names.now c.loop-name.name-index c.loop-name-item.result false (omega arith)
    c.loop-name-item.is
    (ap (is_text c.args.word.now) (sym c.as_bytes.ensures.value) ∙ sym c.eq.ensures ∙ c.if-eq.false)

pub returns : goal.returns
returns g c =
    sym (c.loop-name.invariant
    ∙ at_drop_all (λ l. lookup_name c.args.word.now (map (λ row. (row.0.now, row.1)) l)) c.args.names.now
    c.loop-name.name-index (omega arith))
