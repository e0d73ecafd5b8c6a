-- Lemmas about places where an operand is expected: the parser is in a state that expects one.
use Rattle.std.proofs.Common.{◌≡◌, ℕ, suc, ◌+◌, ◌≤◌, ◌<◌, inl, inr, Bool, true, false, List, [], ◌∷◌, ◌++◌, Option, Some, Ok, refl, ap, sym, ◌∙◌, subst, arith}
use Rattle.filter_tokens.specs.Tokens.{Token, not, left_parenthesis}
use Rattle.filter_language.specs.declared.head.Head.{Head}
use Rattle.filter_language.specs.declared.mode.Mode.{Mode}
use Rattle.filter_language.specs.declared.mode.Mode.TheVariants as mode
use Rattle.filter_language.specs.Grammar.{IsExpression, IsHead, IsJoinedValues, IsOperator}
use Rattle.filter_language.specs.Refusals
use Rattle.filter_language.specs.Refusals.{Awaits, AwaitsDirectly}
use Rattle.filter_language.specs.States.{State, Frame, Reading, Reads, Runs, IsAwaiting, first_state, levels_in, more_tokens, negating, no_tokens, opened, qualified, read_in, read_side_values}
use Rattle.filter_language.specs.Trees.{Expr}
use Rattle.filter_language.proofs.OperandLemmas.{head_runs, operand_state, opens, operator_reads, same_state}
use Rattle.filter_language.proofs.RunLemmas.{expression_goes_on, joined_goes_on, runs_joined, runs_more, runs_once, side_not, side_open}

-- Tokens after which the parser is in a state that expects an operand, directly after the start, `(` or an operator.
abbrev IsDirect : (levels : ℕ) → List Token → Option Head → Bool → Type 0
IsDirect levels prefix q only =
    (most : ℕ) × (frames : List Frame) × (levels + levels_in frames ≤ most)
    × Runs most first_state prefix (operand_state only q only frames)

-- Tokens after which the parser is in a state that expects an operand.
abbrev IsExpecting : (levels : ℕ) → List Token → Option Head → Bool → Type 0
IsExpecting levels prefix q only =
    (most : ℕ) × (state : State) × (levels + levels_in state.frames ≤ most) × Runs most first_state prefix state
    × IsAwaiting state q only

one_more_token : (most : ℕ) (state between after : State) (prefix : List Token) (token : Token)
    → Runs most state prefix between → Reads most between token after → Runs most state (prefix ++ token ∷ []) after
one_more_token most state between after prefix token runs reads =
    runs_joined most state between after prefix (token ∷ []) runs
    (more_tokens between after after token [] reads (no_tokens after))

-- `not` and `(` are read where an operand is expected.
with_head : (state : State) (only inner : Bool) (q : Option Head) (frames : List Frame) → state.head ≡ q
    → ◌≡◌ {A = Reading} (Ok (operand_state only state.head inner frames)) (Ok (operand_state only q inner frames))
with_head state only inner q frames same = ap (λ (h : Option Head). Ok (operand_state only h inner frames)) same

reads_not : (most : ℕ) (state : State) (q : Option Head) (only : Bool) → levels_in state.frames < most
    → IsAwaiting state q only
    → Reads most state not (operand_state only q state.only_values (negating ∷ state.frames))
reads_not most state q only space (inl (modes, heads)) =
    ap (λ (m : Mode). read_in most state m not) modes
    ∙ opens most state only negating state.only_values space
    ∙ with_head state only state.only_values q (negating ∷ state.frames) heads
reads_not most state q only space (inr (sided, side, h, modes, is, same, values)) =
    ap (λ (m : Mode). read_in most state m not) modes ∙ side_not most state sided side
    ∙ ap (λ (o : Option Head). read_side_values most state o not) is
    ∙ opens most (qualified state h) true negating state.only_values space
    ∙ (λ i. Ok (operand_state (sym values i) (sym same i) state.only_values (negating ∷ state.frames)))

reads_open : (most : ℕ) (state : State) (q : Option Head) (only : Bool) → levels_in state.frames < most
    → IsAwaiting state q only
    → (outer : Option Head)
    × Reads most state left_parenthesis (operand_state only q only (opened outer state.only_values ∷ state.frames))
reads_open most state q only space (inl (modes, heads)) = (
  state.head,
  ap (λ (m : Mode). read_in most state m left_parenthesis) modes
      ∙ opens most state only (opened state.head state.only_values) only space
      ∙ with_head state only only q (opened state.head state.only_values ∷ state.frames) heads,
)
reads_open most state q only space (inr (sided, side, h, modes, is, same, values)) = (
  Some h,
  ap (λ (m : Mode). read_in most state m left_parenthesis) modes ∙ side_open most state sided side
      ∙ ap (λ (o : Option Head). read_side_values most state o left_parenthesis) is
      ∙ opens most (qualified state h) true (opened (Some h) state.only_values) true space
      ∙ (λ i.
      Ok (operand_state (sym values i) (sym same i) (sym values i) (opened (Some h) state.only_values ∷ state.frames))),
)

-- Where an operand is expected after a head, no value was expected alone.
not_only : (state : State) (q : Option Head) → IsAwaiting state q false
    → state ≡ operand_state false q state.only_values state.frames
not_only state q (inl (modes, heads)) =
    same_state state (mode.Operand false) q state.only_values state.frames modes heads refl refl
not_only state q (inr (sided, side, h, modes, is, same, values)) = let never : ⊥ = cc in absurd never

after_head_runs : (levels : ℕ) (prefix tokens : List Token) (q : Option Head) (h : Head)
    → IsExpecting levels prefix q false → IsHead tokens h → IsExpecting levels (prefix ++ tokens) (Some h) true
after_head_runs levels prefix tokens q h (most, state, space, runs, awaiting) is_head =
    let (after, others, ready) = head_runs most q state.only_values state.frames tokens h is_head in (
      most,
      after,
      omega (arith, space, ap levels_in ready.2),
      runs_joined most first_state state after prefix tokens runs
          (subst (λ (s : State). Runs most s tokens after) (sym (not_only state q awaiting)) others),
      ready.0,
    )

after_open_runs : (levels : ℕ) (prefix : List Token) (q : Option Head) (only : Bool)
    → IsExpecting (suc levels) prefix q only → IsDirect levels (prefix ++ left_parenthesis ∷ []) q only
after_open_runs levels prefix q only (most, state, space, runs, awaiting) =
    let (outer, reads) = reads_open most state q only (omega (arith, space)) awaiting in (
      most,
      opened outer state.only_values ∷ state.frames,
      omega (arith, space),
      one_more_token most first_state state _ prefix left_parenthesis runs reads,
    )

after_not_runs : (levels : ℕ) (prefix : List Token) (q : Option Head) (only : Bool)
    → IsExpecting (suc levels) prefix q only → IsExpecting levels (prefix ++ not ∷ []) q only
after_not_runs levels prefix q only (most, state, space, runs, awaiting) = (
  most,
  operand_state only q state.only_values (negating ∷ state.frames),
  omega (arith, space),
  one_more_token most first_state state _ prefix not runs
      (reads_not most state q only (omega (arith, space)) awaiting),
  inl (refl, refl),
)

after_operator_runs : (levels : ℕ) (prefix tokens : List Token) (operator : Token) (join : Expr → Expr → Expr)
    (q after : Option Head) (e : Expr) → IsDirect levels prefix q false → IsExpression levels q tokens e after
    → IsOperator operator join → IsDirect levels (prefix ++ tokens ++ operator ∷ []) after false
after_operator_runs levels prefix tokens operator join q after e (most, frames, space, runs) is joins =
    let (f, base, below, (done, others, same)) = expression_goes_on most levels q after tokens e frames is space in
    let (left, reads, joined, levels_same) = operator_reads most done after false f base operator join joins same in (
      most,
      left ∷ base,
      omega (arith, space, below, levels_same),
      one_more_token most first_state done _ (prefix ++ tokens) operator
          (runs_joined most first_state _ done prefix tokens runs others) reads,
    )

after_value_operator_runs : (levels : ℕ) (prefix tokens : List Token) (operator : Token) (join : Expr → Expr → Expr)
    (h : Head) (e : Expr) → IsDirect levels prefix (Some h) true → IsJoinedValues levels h tokens e
    → IsOperator operator join → IsDirect levels (prefix ++ tokens ++ operator ∷ []) (Some h) true
after_value_operator_runs levels prefix tokens operator join h e (most, frames, space, runs) is joins =
    let (f, base, below, (done, others, same)) = joined_goes_on most levels h tokens e frames is space in
    let (left, reads, joined, levels_same) =
    operator_reads most done (Some h) true f base operator join joins same in (
      most,
      left ∷ base,
      omega (arith, space, below, levels_same),
      one_more_token most first_state done _ (prefix ++ tokens) operator
          (runs_joined most first_state _ done prefix tokens runs others) reads,
    )

mutual
  directly_runs : (levels : ℕ) (prefix : List Token) (q : Option Head) (only : Bool)
      → AwaitsDirectly levels prefix q only → IsDirect levels prefix q only
  directly_runs levels prefix q only (Refusals.at_start n) = (n, [], omega arith, no_tokens first_state)
  directly_runs levels prefix q only (Refusals.after_open n before q' only' awaits) =
      after_open_runs n before q' only' (awaits_runs _ before q' only' awaits)
  directly_runs levels prefix q only (Refusals.after_operator n before tokens operator join q' after e awaits is joins) =
      after_operator_runs n before tokens operator join q' after e (directly_runs n before q' false awaits) is joins
  directly_runs levels prefix q only (Refusals.after_value_operator n before tokens operator join h e awaits is joins) =
      after_value_operator_runs n before tokens operator join h e (directly_runs n before (Some h) true awaits) is joins

  awaits_runs : (levels : ℕ) (prefix : List Token) (q : Option Head) (only : Bool) → Awaits levels prefix q only
      → IsExpecting levels prefix q only
  awaits_runs levels prefix q only (Refusals.directly n prefix' q' only' awaits) =
      let (most, frames, space, runs) = directly_runs n prefix' q' only' awaits in
      (most, operand_state only' q' only' frames, space, runs, inl (refl, refl))
  awaits_runs levels prefix q only (Refusals.after_not n before q' only' awaits) =
      after_not_runs n before q' only' (awaits_runs _ before q' only' awaits)
  awaits_runs levels prefix q only (Refusals.after_head n before tokens q' h awaits is_head) =
      after_head_runs n before tokens q' h (awaits_runs n before q' false awaits) is_head

-- The tokens lead to the state that expects the operand.
pub awaits_state : (most levels : ℕ) (prefix : List Token) (state : State) (q : Option Head) (only : Bool)
    → Runs most first_state prefix state → Awaits levels prefix q only → IsAwaiting state q only
awaits_state most levels prefix state q only runs awaits =
    let (more, state', space, runs', awaiting) = awaits_runs levels prefix q only awaits in
    subst (λ (s : State). IsAwaiting s q only)
    (runs_once (most + more) first_state state' state prefix
    (runs_more more (most + more) first_state state' prefix (omega arith) runs')
    (runs_more most (most + more) first_state state prefix (omega arith) runs))
    awaiting
