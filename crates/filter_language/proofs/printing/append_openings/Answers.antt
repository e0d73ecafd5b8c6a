use Rattle.std.proofs.Common.{ℕ, List, ◌++◌, refl, ap, sym, ◌∙◌}
use Rattle.std.proofs.lemmas.List.{append-nil}
use Rattle.filter_language.specs.Printing.{openings}
use Rattle.filter_language.proofs.PrintingLemmas.{not_appended}
use Rattle.filter_language.proofs.printing.append_openings.Goals as goal

pub loop-len-init : goal.loop-len-init
loop-len-init c = λ e is. (e, is, refl)

pub loop-len-preserved : goal.loop-len-preserved
loop-len-preserved c =
    let l = c.loop-len in
    λ e is.
    let known = l.invariant e is in
    not_appended known.0 l.inner.now c.in-Some.len l.output.items c.extend_from_slice.new.self.items
    c.append_opening.new.output.items (c.args.output.now.items ++ openings e) c.ends_with_operator.result
    (c.in-Some.ensures.place known.0 known.1) (λ f taken. c.ends_with_operator.ensures f taken)
    c.in_ok-extend_from_slice.ensures.items c.in_ok-append_opening.ensures known.2

pub returns : goal.returns
returns c =
    let l = c.loop-len in
    λ e is.
    let known = l.invariant e is in
    sym (append-nil l.output.items)
    ∙ ap (λ (list : List ℕ). l.output.items ++ list) (sym (c.in_default.ensures.place known.0 known.1)) ∙ known.2
