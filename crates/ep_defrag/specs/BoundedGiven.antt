-- The fragments that a bounded pool was given for a name.
use Rattle.std.specs.Prelude.{ℕ, ◌+◌, Bool, false, if◌then◌else◌, Some, is_some, List, [], ◌∷◌, ◌++◌}
use Rattle.std.specs.List.{list_any}
use Rattle.ep_defrag.specs.declared.ip_frag_id.IpFragId.{IpFragId}
use Rattle.ep_defrag.specs.declared.bounded_limits.DefragLimits.{DefragLimits}
use Rattle.ep_defrag.specs.declared.bounded_defrag_error.BoundedDefragError.TheVariants.{Rejected, Discarded, OverBudget}
use Rattle.ep_defrag.specs.IpFragments.{IpFragment}
use Rattle.ep_defrag.specs.FragmentRefusals.{is_allocation_failure}
use Rattle.ep_defrag.specs.Streams.{same_stream}
use Rattle.ep_defrag.specs.BoundedSteps.{Row, row_named, Step, BoundedAnswer, fragment_rejected, payload_complete}
use Rattle.ep_defrag.specs.BoundedSteps.{nothing_complete, BoundedCall, gives_fragment, call_step}
use Rattle.ep_defrag.specs.BoundedRuns.{Made, is_own_expiry}

-- whether the answer is that an allocation failed
abbrev pub is_failed_allocation : BoundedAnswer → Bool
is_failed_allocation (fragment_rejected (Rejected error)) = is_allocation_failure error
is_failed_allocation (fragment_rejected Discarded) = false
is_failed_allocation (fragment_rejected OverBudget) = false
is_failed_allocation (payload_complete payload) = false
is_failed_allocation nothing_complete = false

-- fragments with the one of a call with this step, unless an allocation failed for it
abbrev pub given_with : {C : Type 0} → List IpFragment → Step C → IpFragment → List IpFragment
given_with given step fragment = if is_failed_allocation step.answer then given else given ++ fragment ∷ []

-- fragments that a name was given before a call with this step passed one more: none, if the name expired
abbrev pub given_before : {C : Type 0} → (C → C → Bool) → IpFragId C → List IpFragment → Step C → List IpFragment
given_before eq name given step = if list_any (is_own_expiry eq name) step.gone then [] else given

-- fragments that a name was given since it was last absent from the table, up to a call with this step, without
-- fragments for which an allocation failed. The first list is the one before the call.
abbrev pub given_at : {C : Type 0} → (C → C → Bool) → IpFragId C → List IpFragment → BoundedCall C → Step C
    → List IpFragment
given_at eq name given (gives_fragment (Some passed) now) step =
    if same_stream eq passed.0 name then given_with (given_before eq passed.0 given step) step passed.1 else given
given_at eq name given call step = given

-- fragments that it was given since it was last absent, after the call: none, if it is absent then
abbrev pub given_after : {C : Type 0} → (C → C → Bool) → IpFragId C → List IpFragment → BoundedCall C → Step C
    → List IpFragment
given_after eq name given call step =
    if is_some (row_named eq name step.rows) then given_at eq name given call step else []

-- fragments that a name was given since it was last absent, after a list of calls, from this table on
abbrev pub given_from : {C : Type 0} → DefragLimits → (C → C → Bool) → IpFragId C → List (Row C) → ℕ → List IpFragment
    → List (Made C) → List IpFragment
given_from limits eq name rows number given [] = given
given_from limits eq name rows number given (made ∷ later) =
    let step = call_step limits eq rows made.call number made.granted in
    given_from limits eq name step.rows (number + 1) (given_after eq name given made.call step) later
