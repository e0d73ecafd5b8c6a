-- The grammar of filter expressions holds of what the parser reads.
use Rattle.std.proofs.Common.{◌≡◌, ℕ, ◌≤◌, inl, inr, Bool, true, List, ◌++◌, length, Option, Some, None, refl, sym, subst, subst₂, append_assoc, arith}
use Rattle.filter_tokens.specs.Tokens.{Token}
use Rattle.filter_language.specs.declared.head.Head.{Head}
use Rattle.filter_language.specs.Grammar.{IsFilter}
use Rattle.filter_language.specs.Refusals.{Awaits, BeginsFilter}
use Rattle.filter_language.specs.States.{State, IsAwaiting, Runs, expression_of, first_state, settled}
use Rattle.filter_language.specs.Trees.{Expr}
use Rattle.filter_language.proofs.ContextLemmas.{Context, context_awaits, context_levels, filled_ends, filled_filter}
use Rattle.filter_language.proofs.Standing.{HoldsIn}
use Rattle.filter_language.proofs.ReadLemmas.{IsComplete, settle}
use Rattle.filter_language.proofs.SideReadLemmas.{side_context}
use Rattle.filter_language.proofs.StandReadLemmas.{runs_stand}
use Rattle.filter_language.proofs.StandEndLemmas.{holds_ends}

settled_filter : (most : ℕ) (tokens : List Token) (found : Option State) (e : Expr)
    → ((final : State) → found ≡ Some final → IsComplete most tokens final) → expression_of found ≡ Some e
    → IsFilter most tokens (Some e)
settled_filter most tokens None e complete is = let never : ⊥ = cc in absurd never
settled_filter most tokens (Some final) e complete is =
    filled_filter most tokens final.frames final.head final.only_values e (complete final refl) is

-- Tokens after which the parser has an expression are a filter.
pub runs_filter : (most : ℕ) (tokens : List Token) (state : State) (e : Expr) → Runs most first_state tokens state
    → expression_of (settled state) ≡ Some e → IsFilter most tokens (Some e)
runs_filter most tokens state e runs is =
    settled_filter most tokens (settled state) e
    (λ final found. settle most tokens state state.mode final (runs_stand most tokens state runs) found) is

-- A filter begins with the tokens that the parser reads.
pub runs_begin : (most : ℕ) (tokens : List Token) (state : State) → Runs most first_state tokens state
    → BeginsFilter most tokens
runs_begin most tokens state runs =
    let (more, frames, q, group, is) = holds_ends most tokens state state.mode (runs_stand most tokens state runs) in
    let (closing, e, entire) = filled_ends (length frames) most (tokens ++ more) frames q group is (omega arith) in (
      more ++ closing,
      Some e,
      subst (λ list. IsFilter most list (Some e)) (append_assoc tokens more closing) entire,
    )

context_awaiting : (most levels : ℕ) (tokens : List Token) (state : State) (q : Option Head) (only : Bool)
    → Context most levels tokens state.frames state.head state.only_values only → state.head ≡ q
    → (levels : ℕ) × (levels ≤ most) × Awaits levels tokens q only
context_awaiting most levels tokens state q only present same = (
  levels,
  omega (arith, context_levels most levels tokens state.frames state.head state.only_values only present),
  subst (λ found. Awaits levels tokens found only) same
      (context_awaits most levels tokens state.frames state.head state.only_values only present),
)

-- Where the parser awaits an operand, the grammar does.
pub runs_await : (most : ℕ) (tokens : List Token) (state : State) (q : Option Head) (only : Bool)
    → Runs most first_state tokens state → IsAwaiting state q only
    → (levels : ℕ) × (levels ≤ most) × Awaits levels tokens q only
runs_await most tokens state q only runs (inl (mode_is, head_is)) =
    let (levels, present) = subst (HoldsIn most tokens state) mode_is (runs_stand most tokens state runs) in
    context_awaiting most levels tokens state q only present head_is
runs_await most tokens state q only runs (inr (sided, side, h, mode_is, head_is, q_is, only_is)) =
    let (levels, present) =
    side_context most tokens state sided side h head_is
    (subst (HoldsIn most tokens state) mode_is (runs_stand most tokens state runs)) in (
      levels,
      omega (arith, context_levels most levels tokens state.frames (Some h) state.only_values true present),
      subst₂ (λ found values. Awaits levels tokens found values) (sym q_is) (sym only_is)
          (context_awaits most levels tokens state.frames (Some h) state.only_values true present),
    )
