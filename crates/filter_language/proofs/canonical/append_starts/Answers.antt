use Rattle.std.proofs.Common.{ℕ, Bool, List, ◌++◌, append_assoc, ap, sym, ◌∙◌}
use Rattle.filter_language.specs.Printing.{start_text, starts_text}
use Rattle.filter_language.proofs.CanonicalLemmas.{starts_last}
use Rattle.filter_language.proofs.canonical.append_starts.Goals as goal

pub loop-is_not-preserved : goal.loop-is_not-preserved
loop-is_not-preserved c =
    let l = c.loop-is_not in
    let before = c.pop.new.self.items in
    ap (λ (list : List ℕ). list ++ starts_text before) c.in_ok-append_start.ensures
    ∙ append_assoc l.output.items (start_text c.in-Some.is_not) (starts_text before)
    ∙ ap (λ (list : List ℕ). l.output.items ++ list) (sym (starts_last before c.in-Some.is_not))
    ∙ ap (λ (list : List Bool). l.output.items ++ starts_text list) (sym c.in-Some.ensures.items) ∙ l.invariant
