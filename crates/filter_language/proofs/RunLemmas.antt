-- Lemmas about filter expressions: the parser reads what the grammar says.
use Rattle.std.proofs.Common.{◌≡◌, ℕ, ◌+◌, ◌≤◌, inl, inr, Bool, true, false, List, [], ◌∷◌, ◌++◌, Option, Some, None, refl, ap, sym, subst, ◌∙◌, arith}
use Rattle.filter_tokens.specs.declared.primitive.Primitive.{Primitive}
use Rattle.filter_tokens.specs.declared.primitive.Side.{Side}
use Rattle.filter_tokens.specs.declared.primitive.Side.TheVariants.{Source, Destination, Either, Both}
use Rattle.filter_tokens.specs.Tokens.{Token, word, not, left_parenthesis, right_parenthesis}
use Rattle.filter_language.specs.declared.head.Head.{Head}
use Rattle.filter_language.specs.declared.mode.Mode.TheVariants as mode
use Rattle.filter_language.specs.declared.mode.Sided.{Sided}
use Rattle.filter_language.specs.Grammar
use Rattle.filter_language.specs.Grammar.{IsExpression, IsFilter, IsJoinedValues, IsOperand, IsValue, IsValues}
use Rattle.filter_language.specs.Refusals.{BeginsFilter, IsAllowed}
use Rattle.filter_language.specs.States.{State, Frame, Reads, ReadsValue, Runs, completed, expression, expression_of, first_state, left_of_and, left_of_or, levels_in, more_tokens, negating, no_tokens, opened, read_side, read_side_values, settled, side_head}
use Rattle.filter_language.specs.Trees.{Expr, negated, both, either}
use Rattle.filter_language.proofs.OperandLemmas.{IsReady, Settles, bare_settles, close_reads, complete_state, head_runs, opens, operand_state, operator_reads, same_state, value_settles}
use Rattle.filter_language.proofs.RunOnceLemmas.{runs_apart, runs_first, runs_joined, runs_once}
pub use Rattle.filter_language.proofs.OperandLemmas.{head_runs}
pub use Rattle.filter_language.proofs.RunOnceLemmas.{reads_once, runs_apart, runs_joined, runs_more, runs_once, stops_apart}

-- ---- frames

-- Nothing is joined or negated directly around the operand.
abbrev pub IsOuter : List Frame → Type 0
IsOuter frames = (e : Expr) → completed frames e ≡ expression e ∷ frames

-- An operand within these frames makes an expression of them, with the frames `base` around it.
abbrev Fills : List Frame → List Frame → (Expr → Expr) → Type 0
Fills frames base fill =
    ((e : Expr) → completed frames e ≡ expression (fill e) ∷ base) × (levels_in base ≤ levels_in frames)

-- All frames are filled so.
filling : (frames : List Frame) → (base : List Frame) × (fill : Expr → Expr) × Fills frames base fill
filling [] = ([], λ e. e, (λ e. refl, omega arith))
filling (negating ∷ frames) =
    let (base, fill, fills) = filling frames in
    (base, λ e. fill (negated e), (λ e. fills.0 (negated e), omega (arith, fills.1)))
filling (left_of_and e ∷ frames) = (frames, λ f. both e f, (λ f. refl, omega arith))
filling (left_of_or e ∷ frames) = (frames, λ f. either e f, (λ f. refl, omega arith))
filling (frame ∷ frames) = (frame ∷ frames, λ e. e, (λ e. refl, omega arith))

-- ---- values

-- The first token of values.
abbrev pub BeginsValues : List Token → Type 0
BeginsValues (word text ∷ tokens) = Unit {0}
BeginsValues (not ∷ tokens) = Unit {0}
BeginsValues (left_parenthesis ∷ tokens) = Unit {0}
BeginsValues tokens = ⊥

value_begins : (h : Head) (tokens : List Token) (p : Primitive) → IsValue h tokens p → BeginsValues tokens
value_begins h tokens p (Grammar.one_word q text p' value) = tt
value_begins h tokens p (Grammar.with_length layer side text bits_text network bits is family fits clear) = tt
value_begins h tokens p (Grammar.with_mask layer side text mask network bits is family fits clear) = tt

pub values_begin : (levels : ℕ) (h : Head) (tokens : List Token) (e : Expr) → IsValues levels h tokens e
    → BeginsValues tokens
values_begin levels h tokens e (Grammar.value n q value p is) = value_begins q value p is
values_begin levels h tokens e (Grammar.not_values n q values f is) = tt
values_begin levels h tokens e (Grammar.values_in_parentheses n q values f is) = tt

-- `not` and `(` after a side are read as values of its qualifiers.
pub side_not : (most : ℕ) (state : State) (sided : Sided) (side : Side)
    → read_side most state sided side not ≡ read_side_values most state (side_head sided side) not
side_not most state sided Source = refl
side_not most state sided Destination = refl
side_not most state sided Either = refl
side_not most state sided Both = refl

pub side_open : (most : ℕ) (state : State) (sided : Sided) (side : Side)
    → read_side most state sided side left_parenthesis
    ≡ read_side_values most state (side_head sided side) left_parenthesis
side_open most state sided Source = refl
side_open most state sided Destination = refl
side_open most state sided Either = refl
side_open most state sided Both = refl

abbrev side_state : Sided → Side → Option Head → (inner : Bool) → List Frame → State
side_state sided side q inner frames = record {
  mode = mode.Side sided side;
  head = q;
  only_values = inner;
  frames = frames;
}

-- After a side, the first token of values is read as after qualifiers.
side_reads : (most : ℕ) (sided : Sided) (side : Side) (q : Option Head) (h : Head) (inner : Bool) (frames : List Frame)
    (first : Token) (tokens : List Token) (after : State) → side_head sided side ≡ Some h
    → BeginsValues (first ∷ tokens) → Reads most (operand_state true (Some h) inner frames) first after
    → Reads most (side_state sided side q inner frames) first after
side_reads most sided side q h inner frames (word text) tokens after is begins reads =
    subst (λ (o : Option Head). ReadsValue (side_state sided side q inner frames) o text after) (sym is) reads
side_reads most sided side q h inner frames not tokens after is begins reads =
    side_not most (side_state sided side q inner frames) sided side
    ∙ ap (λ (o : Option Head). read_side_values most (side_state sided side q inner frames) o not) is ∙ reads
side_reads most sided side q h inner frames left_parenthesis tokens after is begins reads =
    side_open most (side_state sided side q inner frames) sided side
    ∙ ap (λ (o : Option Head). read_side_values most (side_state sided side q inner frames) o left_parenthesis) is
    ∙ reads
side_reads most sided side q h inner frames first tokens after is begins reads = absurd begins

side_runs_values : (most : ℕ) (sided : Sided) (side : Side) (q : Option Head) (h : Head) (inner : Bool)
    (frames : List Frame) (tokens : List Token) (after : State) → side_head sided side ≡ Some h → BeginsValues tokens
    → Runs most (operand_state true (Some h) inner frames) tokens after
    → Runs most (side_state sided side q inner frames) tokens after
side_runs_values most sided side q h inner frames [] after is begins runs = absurd begins
side_runs_values most sided side q h inner frames (first ∷ tokens) after is begins runs =
    let (between, reads, others) = runs_first most _ after first tokens runs in
    more_tokens _ between after first tokens
    (side_reads most sided side q h inner frames first tokens between is begins reads) others

-- Values are read after qualifiers as in a state that expects them.
pub ready_runs : (most : ℕ) (state after : State) (h : Head) (inner : Bool) (frames : List Frame) (tokens : List Token)
    → IsReady state h inner frames → BeginsValues tokens
    → Runs most (operand_state true (Some h) inner frames) tokens after → Runs most state tokens after
ready_runs most state after h inner frames tokens (inl (modes, heads), inners, all) begins runs =
    subst (λ (s : State). Runs most s tokens after)
    (sym (same_state state (mode.Operand true) (Some h) inner frames modes heads inners all)) runs
ready_runs most state after h inner frames tokens (inr (sided, side, h', modes, is, same, only), inners, all) begins
    runs =
    subst (λ (s : State). Runs most s tokens after)
    (sym (same_state state (mode.Side sided side) state.head inner frames modes refl inners all))
    (side_runs_values most sided side state.head h inner frames tokens after (is ∙ sym same) begins runs)

-- From frames that change no expression, the expression itself is read.
exactly : (most : ℕ) (state : State) (tokens : List Token) (q : Option Head) (inner : Bool) (e : Expr)
    (frames : List Frame)
    → (f : Expr) × Settles most state tokens (complete_state q inner (expression f ∷ frames))
    × (((x : Expr) → x ≡ x) → f ≡ e)
    → Settles most state tokens (complete_state q inner (expression e ∷ frames))
exactly most state tokens q inner e frames (f, (after, runs, same), exact) =
    (after, runs, same ∙ ap (λ (x : Expr). Some (complete_state q inner (expression x ∷ frames))) (exact (λ x. refl)))

-- An expression in a parenthesis is an operand with `)` after it.
closes : (most : ℕ) (state : State) (tokens : List Token) (q outer : Option Head) (inner only : Bool) (e : Expr)
    (frames : List Frame)
    → Settles most state tokens (complete_state q inner (expression e ∷ opened outer only ∷ frames))
    → Runs most state (tokens ++ right_parenthesis ∷ []) (complete_state outer only (completed frames e))
closes most state tokens q outer inner only e frames (between, runs, same) =
    runs_joined most state between _ tokens (right_parenthesis ∷ []) runs
    (more_tokens between _ _ right_parenthesis [] (close_reads most between q outer inner only e frames same)
    (no_tokens (complete_state outer only (completed frames e))))

mutual
  -- Values are read in a state that expects them.
  pub values_runs : (most levels : ℕ) (h : Head) (tokens : List Token) (e : Expr) (inner : Bool) (frames : List Frame)
      → IsValues levels h tokens e → levels + levels_in frames ≤ most
      → Settles most (operand_state true (Some h) inner frames) tokens
      (complete_state (Some h) inner (completed frames e))
  values_runs most levels h tokens e inner frames (Grammar.value n q value p is) space =
      value_settles most true inner frames q value p is
  values_runs most levels h tokens e inner frames (Grammar.not_values n q values f is) space =
      let (after, runs, same) =
      values_runs most n q values f inner (negating ∷ frames) is (omega (arith, space)) in (
        after,
        more_tokens _ (operand_state true (Some q) inner (negating ∷ frames)) after not values
            (opens most (operand_state true (Some q) inner frames) true negating inner (omega (arith, space))) runs,
        same,
      )
  values_runs most levels h tokens e inner frames (Grammar.values_in_parentheses n q values f is) space =
      let around : List Frame = opened (Some q) inner ∷ frames in
      let inside : State = operand_state true (Some q) true around in (
        complete_state (Some q) inner (completed frames f),
        more_tokens _ inside _ left_parenthesis (values ++ right_parenthesis ∷ [])
            (opens most (operand_state true (Some q) inner frames) true (opened (Some q) inner) true
            (omega (arith, space)))
            (closes most inside values (Some q) (Some q) true inner f frames
            (exactly most inside values (Some q) true f around
            (joined_fills most n q values f around around (λ x. x) (λ x. refl, omega arith) is (omega (arith, space))))),
        refl,
      )

  joined_fills : (most levels : ℕ) (h : Head) (tokens : List Token) (e : Expr) (frames base : List Frame)
      (fill : Expr → Expr) → Fills frames base fill → IsJoinedValues levels h tokens e
      → levels + levels_in frames ≤ most
      → (f : Expr) × Settles most (operand_state true (Some h) true frames) tokens
      (complete_state (Some h) true (expression f ∷ base)) × (((x : Expr) → fill x ≡ x) → f ≡ e)
  joined_fills most levels h tokens e frames base fill fills (Grammar.first_values n q values f is) space =
      let (after, runs, same) = values_runs most n q values f true frames is space in (
        fill f,
        (after, runs, same ∙ ap (λ (fs : List Frame). Some (complete_state (Some q) true fs)) (fills.0 f)),
        λ exact. exact f,
      )
  joined_fills most levels h tokens e frames base fill fills
      (Grammar.more_values n q left right operator join e' f joined is values) space =
      let (g, (between, runs, same), exact) =
      joined_fills most n q left e' frames base fill fills joined space in
      let (left_frame, reads, joins, levels_same) =
      operator_reads most between (Some q) true g base operator join is same in
      let (after, others, end) =
      values_runs most n q right f true (left_frame ∷ base) values (omega (arith, space, levels_same, fills.1)) in (
        join g f,
        (
          after,
          runs_joined most _ between after left (operator ∷ right) runs
              (more_tokens between _ after operator right reads others),
          end ∙ ap (λ (fs : List Frame). Some (complete_state (Some q) true fs)) (joins f),
        ),
        λ same_fill. ap (λ (x : Expr). join x f) (exact same_fill),
      )

-- ---- expressions

mutual
  -- An operand is read where one is expected.
  pub operand_runs : (most levels : ℕ) (q after : Option Head) (tokens : List Token) (e : Expr) (frames : List Frame)
      → IsOperand levels q tokens e after → levels + levels_in frames ≤ most
      → Settles most (operand_state false q false frames) tokens (complete_state after false (completed frames e))
  operand_runs most levels q after tokens e frames (Grammar.negation n q' last operand f is) space =
      let (state, runs, same) = operand_runs most n q' last operand f (negating ∷ frames) is (omega (arith, space)) in (
        state,
        more_tokens _ (operand_state false q' false (negating ∷ frames)) state not operand
            (opens most (operand_state false q' false frames) false negating false (omega (arith, space))) runs,
        same,
      )
  operand_runs most levels q after tokens e frames (Grammar.parentheses n q' last inside f is) space =
      let around : List Frame = opened q' false ∷ frames in
      let within : State = operand_state false q' false around in (
        complete_state q' false (completed frames f),
        more_tokens _ within _ left_parenthesis (inside ++ right_parenthesis ∷ [])
            (opens most (operand_state false q' false frames) false (opened q' false) false (omega (arith, space)))
            (closes most within inside last q' false false f frames
            (exactly most within inside last false f around
            (expression_fills most n q' last inside f around around (λ x. x) (λ x. refl, omega arith) is
            (omega (arith, space))))),
        refl,
      )
  operand_runs most levels q after tokens e frames (Grammar.bare n q' operand p is) space =
      bare_settles most n (operand_state false q' false frames) operand p is space
  operand_runs most levels q after tokens e frames (Grammar.qualified n q' heads values h f is_head is) space =
      let (between, runs, ready) = head_runs most q' false frames heads h is_head in
      let (state, others, same) = values_runs most n h values f false frames is space in (
        state,
        runs_joined most _ between state heads values runs
            (ready_runs most between state h false frames values ready (values_begin n h values f is) others),
        same,
      )
  operand_runs most levels q after tokens e frames (Grammar.in_force n h value p is) space =
      value_settles most false false frames h value p is

  expression_fills : (most levels : ℕ) (q after : Option Head) (tokens : List Token) (e : Expr)
      (frames base : List Frame) (fill : Expr → Expr) → Fills frames base fill → IsExpression levels q tokens e after
      → levels + levels_in frames ≤ most
      → (f : Expr) × Settles most (operand_state false q false frames) tokens
      (complete_state after false (expression f ∷ base)) × (((x : Expr) → fill x ≡ x) → f ≡ e)
  expression_fills most levels q after tokens e frames base fill fills
      (Grammar.first_operand n q' last operand f is) space =
      let (state, runs, same) = operand_runs most n q' last operand f frames is space in (
        fill f,
        (state, runs, same ∙ ap (λ (fs : List Frame). Some (complete_state last false fs)) (fills.0 f)),
        λ exact. exact f,
      )
  expression_fills most levels q after tokens e frames base fill fills
      (Grammar.more_operands n q' middle last left right operator join e' f is joins operand) space =
      let (g, (between, runs, same), exact) =
      expression_fills most n q' middle left e' frames base fill fills is space in
      let (left_frame, reads, joined, levels_same) =
      operator_reads most between middle false g base operator join joins same in
      let (state, others, end) =
      operand_runs most n middle last right f (left_frame ∷ base) operand
      (omega (arith, space, levels_same, fills.1)) in (
        join g f,
        (
          state,
          runs_joined most _ between state left (operator ∷ right) runs
              (more_tokens between _ state operator right reads others),
          end ∙ ap (λ (fs : List Frame). Some (complete_state last false fs)) (joined f),
        ),
        λ same_fill. ap (λ (x : Expr). join x f) (exact same_fill),
      )

-- An expression is read where nothing is joined or negated around it.
pub expression_runs : (most levels : ℕ) (q after : Option Head) (tokens : List Token) (e : Expr) (frames : List Frame)
    → IsExpression levels q tokens e after → levels + levels_in frames ≤ most → IsOuter frames
    → Settles most (operand_state false q false frames) tokens (complete_state after false (expression e ∷ frames))
expression_runs most levels q after tokens e frames is space outer =
    exactly most (operand_state false q false frames) tokens after false e frames
    (expression_fills most levels q after tokens e frames frames (λ x. x) (outer, omega arith) is space)

-- An expression is read anywhere; it is joined with the frames before it.
pub expression_goes_on : (most levels : ℕ) (q after : Option Head) (tokens : List Token) (e : Expr)
    (frames : List Frame) → IsExpression levels q tokens e after → levels + levels_in frames ≤ most
    → (f : Expr) × (base : List Frame) × (levels_in base ≤ levels_in frames)
    × Settles most (operand_state false q false frames) tokens (complete_state after false (expression f ∷ base))
expression_goes_on most levels q after tokens e frames is space =
    let (base, fill, fills) = filling frames in
    let (f, settles, exact) = expression_fills most levels q after tokens e frames base fill fills is space in
    (f, base, fills.1, settles)

pub joined_goes_on : (most levels : ℕ) (h : Head) (tokens : List Token) (e : Expr) (frames : List Frame)
    → IsJoinedValues levels h tokens e → levels + levels_in frames ≤ most
    → (f : Expr) × (base : List Frame) × (levels_in base ≤ levels_in frames)
    × Settles most (operand_state true (Some h) true frames) tokens (complete_state (Some h) true (expression f ∷ base))
joined_goes_on most levels h tokens e frames is space =
    let (base, fill, fills) = filling frames in
    let (f, settles, exact) = joined_fills most levels h tokens e frames base fill fills is space in
    (f, base, fills.1, settles)

-- ---- filters

-- The tokens of a filter are read as its expression.
pub filter_runs : (most : ℕ) (tokens : List Token) (e : Expr) → IsFilter most tokens (Some e)
    → (state : State) × Runs most first_state tokens state × (expression_of (settled state) ≡ Some e)
filter_runs most tokens e (Grammar.expression n all f after is) =
    let (state, runs, same) = expression_runs n n None after all f [] is (omega arith) (λ x. refl) in
    (state, runs, ap expression_of same)

all_read : (most : ℕ) (tokens : List Token) (tree : Option Expr) → IsFilter most tokens tree
    → (state : State) × Runs most first_state tokens state
all_read most tokens tree (Grammar.empty n) = (first_state, no_tokens first_state)
all_read most tokens tree (Grammar.expression n all e after is) =
    let (state, runs, same) = filter_runs most all e (Grammar.expression n all e after is) in (state, runs)

-- Tokens that a filter begins with are read.
pub begins_runs : (most : ℕ) (tokens : List Token) → BeginsFilter most tokens
    → (state : State) × Runs most first_state tokens state
begins_runs most tokens (others, tree, is) =
    let (last, runs) = all_read most (tokens ++ others) tree is in
    let (state, before, later) = runs_apart most first_state last tokens others runs in
    (state, before)

-- A token that is allowed after others is read after them.
pub allowed_reads : (most : ℕ) (prefix : List Token) (token : Token) (state : State) → Runs most first_state prefix state
    → IsAllowed most prefix token → (next : State) × Reads most state token next
allowed_reads most prefix token state runs allowed =
    let (last, all) = begins_runs most (prefix ++ token ∷ []) allowed in
    let (between, before, later) = runs_apart most first_state last prefix (token ∷ []) all in
    let (after, reads, others) = runs_first most between last token [] later in (
      after,
      subst (λ (s : State). Reads most s token after) (runs_once most first_state between state prefix before runs)
          reads,
    )
