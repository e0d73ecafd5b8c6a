-- A list of fragments added in turn to a new buffer.
use Rattle.std.proofs.Common.{◌≡◌, ◌≢◌, ℕ, Bool, true, false, cond, ltb, List, [], ◌∷◌, ◌++◌, Option, Some, None, Err}
use Rattle.std.proofs.Common.{sym, refl, ap, ◌∙◌, ◌⊎◌, inl, inr}
use Rattle.std.specs.List.{All}
use Rattle.std.proofs.lemmas.Bool.{false≢true}
use Rattle.std.proofs.lemmas.List.Elements.{All-nil, All-cons}
use Rattle.ep_defrag.specs.declared.ip_defrag_error.IpDefragError.{IpDefragError}
use Rattle.ep_defrag.specs.declared.ip_defrag_error.IpDefragError.TheVariants.{AllocationFailure}
use Rattle.ep_defrag.specs.IpFragments.{IpFragment, fragment_end, reach_of, end_of}
use Rattle.ep_defrag.specs.FragmentRefusals.{is_unaligned, end_row, refusal_at_within, refusal_of, is_allocation_failure}
use Rattle.ep_defrag.specs.Runs.{accepted_with, accepted_after, ok_unless, answers_after}

-- ---- an error of the refusal table is no allocation failure
from_cond : (test : Bool) (value error : IpDefragError) (other : Option IpDefragError)
    → cond test (Some value) other ≡ Some error → (error ≡ value) ⊎ (other ≡ Some error)
from_cond true value error other same = inl (cc)
from_cond false value error other same = inr same

no_memory_at : (known : Option ℕ) (reach : ℕ) (fragment : IpFragment)
    → is_allocation_failure (end_row known reach fragment).1 ≡ false
no_memory_at None reach fragment = refl
no_memory_at (Some end) reach fragment = refl

pub no_memory : (limit : ℕ) (known : Option ℕ) (reach : ℕ) (fragment : IpFragment) (error : IpDefragError)
    → refusal_at_within limit known reach fragment ≡ Some error → is_allocation_failure error ≡ false
no_memory limit known reach fragment error refused =
    elim (from_cond (ltb limit (fragment_end fragment)) _ error _ refused) [
      | inl long ↦ ap is_allocation_failure long
      | inr short ↦ elim (from_cond (is_unaligned fragment) _ error _ short) [
        | inl unaligned ↦ ap is_allocation_failure unaligned
        | inr aligned ↦ elim (from_cond (end_row known reach fragment).0 _ error None aligned) [
          | inl conflict ↦ ap is_allocation_failure conflict ∙ no_memory_at known reach fragment
          | inr none ↦ absurd (cc)
        ]
      ]
    ]

answer_no_memory : (refusal : Option IpDefragError)
    → ((error : IpDefragError) → refusal ≡ Some error → is_allocation_failure error ≡ false) → (len : ℕ)
    → ok_unless refusal ≢ Err (AllocationFailure len)
answer_no_memory None none len same = cc
answer_no_memory (Some error) none len same =
    let is : error ≡ AllocationFailure len = cc in
    false≢true (sym (none error refl) ∙ ap is_allocation_failure is)

pub answers_no_memory : (accepted fragments : List IpFragment)
    → All (λ answer. (len : ℕ) → answer ≢ Err (AllocationFailure len)) (answers_after accepted fragments)
answers_no_memory accepted [] = All-nil (λ answer. (len : ℕ) → answer ≢ Err (AllocationFailure len))
answers_no_memory accepted (fragment ∷ fragments) =
    All-cons (λ answer. (len : ℕ) → answer ≢ Err (AllocationFailure len)) _ _
    (answer_no_memory (refusal_of accepted fragment) (no_memory 65535 (end_of accepted) (reach_of accepted) fragment))
    (answers_no_memory (accepted_with accepted fragment) fragments)

-- ---- one more fragment
pub accepted_after-push : (accepted fragments : List IpFragment) (fragment : IpFragment)
    → accepted_after accepted (fragments ++ fragment ∷ []) ≡ accepted_with (accepted_after accepted fragments) fragment
accepted_after-push accepted [] fragment = refl
accepted_after-push accepted (first ∷ fragments) fragment =
    accepted_after-push (accepted_with accepted first) fragments fragment

pub answers_after-push : (accepted fragments : List IpFragment) (fragment : IpFragment)
    → answers_after accepted (fragments ++ fragment ∷ [])
    ≡ answers_after accepted fragments ++ ok_unless (refusal_of (accepted_after accepted fragments) fragment) ∷ []
answers_after-push accepted [] fragment = refl
answers_after-push accepted (first ∷ fragments) fragment =
    ap (λ answers. ok_unless (refusal_of accepted first) ∷ answers)
    (answers_after-push (accepted_with accepted first) fragments fragment)
