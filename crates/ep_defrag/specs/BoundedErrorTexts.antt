-- The texts of the errors of a bounded pool.
use Rattle.std.specs.Prelude.{ℕ, List, codes}
use Rattle.ep_defrag.specs.declared.bounded_defrag_error.BoundedDefragError.{BoundedDefragError}
use Rattle.ep_defrag.specs.declared.bounded_defrag_error.BoundedDefragError.TheVariants.{Rejected, Discarded, OverBudget}
use Rattle.ep_defrag.specs.IpDefragErrorTexts.{error_text}

-- bytes of an error's text
abbrev pub bounded_error_text : BoundedDefragError → List ℕ
bounded_error_text (Rejected error) = error_text error
bounded_error_text Discarded =
    codes "The stream of the IP fragment is discarded, since its fragments contradict each other."
bounded_error_text OverBudget =
    codes "The stream of the IP fragment needs more memory than all streams may use."
