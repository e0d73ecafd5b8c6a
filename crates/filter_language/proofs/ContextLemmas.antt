-- Contexts of operands: the tokens before an operand, with the frames around it, and what they are with the operand.
use Rattle.std.proofs.Common.{◌≡◌, ℕ, zero, suc, ◌+◌, ◌≤◌, Bool, true, false, List, [], ◌∷◌, ◌++◌, length, Option, Some, None, refl, ap, sym, ◌∙◌, subst, append_assoc, arith}
use Rattle.std.proofs.lemmas.List.{append-nil}
use Rattle.filter_tokens.specs.Tokens.{Token, and, or, not, left_parenthesis, right_parenthesis}
use Rattle.filter_language.specs.declared.head.Head.{Head}
use Rattle.filter_language.specs.Grammar.{IsExpression, IsFilter, IsHead, IsJoinedValues, IsOperand, IsOperator, IsValues, conjunction, disjunction, first_operand, first_values, more_operands, more_values, negation, not_values, parentheses, qualified, values_in_parentheses, expression as complete}
use Rattle.filter_language.specs.Refusals.{Awaits, AwaitsDirectly, directly, at_start as begins_at_start, after_open as begins_after_open, after_operator, after_value_operator, after_not as awaits_after_not, after_head as awaits_after_head}
use Rattle.filter_language.specs.States.{Frame, expression, left_of_and, left_of_or, negating, opened, completed, expression_in, levels_in}
use Rattle.filter_language.specs.Trees.{Expr, both, either, negated}

-- An operand, or values if only values are allowed, with the qualifiers in force before and after them.
abbrev pub IsFilling : (only : Bool) → (levels : ℕ) → Option Head → List Token → Expr → Option Head → Type 0
IsFilling false levels q tokens e after = IsOperand levels q tokens e after
IsFilling true levels q tokens e after = (h : Head) × (q ≡ Some h) × (after ≡ Some h) × IsValues levels h tokens e

-- Operands with operators between, or values with operators between if only values are allowed.
abbrev pub IsInside : (only : Bool) → (levels : ℕ) → Option Head → List Token → Expr → Option Head → Type 0
IsInside false levels q tokens e after = IsExpression levels q tokens e after
IsInside true levels q tokens e after =
    (h : Head) × (q ≡ Some h) × (after ≡ Some h) × IsJoinedValues levels h tokens e

-- An operand is awaited after these tokens, with these frames around it and qualifiers in force. The first truth value
-- says whether only values are allowed in the innermost parenthesis, the second whether only values are allowed here.
-- `levels` more levels can be open. `Start`: at the start of the text or of a parenthesis.
mutual
  pub data Start (most : ℕ) : ℕ → List Token → List Frame → Option Head → Bool → Type 0 where
    at_start : Start most most [] [] None false
    after_open : (levels : ℕ) (prefix : List Token) (frames : List Frame) (q : Option Head) (group only : Bool)
        → Context most (suc levels) prefix frames q group only
        → Start most levels (prefix ++ left_parenthesis ∷ []) (opened q group ∷ frames) q only

  pub data Context (most : ℕ) : ℕ → List Token → List Frame → Option Head → Bool → Bool → Type 0 where
    at_once : (levels : ℕ) (prefix : List Token) (frames : List Frame) (q : Option Head) (group : Bool)
        → Start most levels prefix frames q group → Context most levels prefix frames q group group
    after_and : (levels : ℕ) (prefix part : List Token) (frames : List Frame) (q after : Option Head) (group : Bool)
        (e : Expr) → Start most levels prefix frames q group → IsInside group levels q part e after
        → Context most levels (prefix ++ part ++ and ∷ []) (left_of_and e ∷ frames) after group group
    after_or : (levels : ℕ) (prefix part : List Token) (frames : List Frame) (q after : Option Head) (group : Bool)
        (e : Expr) → Start most levels prefix frames q group → IsInside group levels q part e after
        → Context most levels (prefix ++ part ++ or ∷ []) (left_of_or e ∷ frames) after group group
    after_not : (levels : ℕ) (prefix : List Token) (frames : List Frame) (q : Option Head) (group only : Bool)
        → Context most (suc levels) prefix frames q group only
        → Context most levels (prefix ++ not ∷ []) (negating ∷ frames) q group only
    after_head : (levels : ℕ) (prefix heads : List Token) (frames : List Frame) (q : Option Head) (group : Bool)
        (h : Head) → Context most levels prefix frames q group false → IsHead heads h
        → Context most levels (prefix ++ heads) frames (Some h) group true

-- An expression is complete after these tokens, or values if only values are allowed in the innermost parenthesis.
pub data Filled (most : ℕ) : List Token → List Frame → Option Head → Bool → Type 0 where
  filled : (levels : ℕ) (prefix part : List Token) (frames : List Frame) (q after : Option Head) (group : Bool)
      (e : Expr) → Start most levels prefix frames q group → IsInside group levels q part e after
      → Filled most (prefix ++ part) (expression e ∷ frames) after group

-- ---- levels

mutual
  pub start_levels : (most levels : ℕ) (prefix : List Token) (frames : List Frame) (q : Option Head) (group : Bool)
      → Start most levels prefix frames q group → levels + levels_in frames ≡ most
  start_levels most _ _ _ _ _ at_start = omega arith
  start_levels most _ _ _ _ _ (after_open levels prefix frames q group only present) =
      omega (arith, context_levels most (suc levels) prefix frames q group only present)

  pub context_levels : (most levels : ℕ) (prefix : List Token) (frames : List Frame) (q : Option Head)
      (group only : Bool) → Context most levels prefix frames q group only → levels + levels_in frames ≡ most
  context_levels most _ _ _ _ _ _ (at_once levels prefix frames q group present) =
      start_levels most levels prefix frames q group present
  context_levels most _ _ _ _ _ _ (after_and levels prefix part frames q after group e present is) =
      start_levels most levels prefix frames q group present
  context_levels most _ _ _ _ _ _ (after_or levels prefix part frames q after group e present is) =
      start_levels most levels prefix frames q group present
  context_levels most _ _ _ _ _ _ (after_not levels prefix frames q group only present) =
      omega (arith, context_levels most (suc levels) prefix frames q group only present)
  context_levels most _ _ _ _ _ _ (after_head levels prefix heads frames q group h present is) =
      context_levels most levels prefix frames q group false present

-- ---- qualifiers

some_is : (h k : Head) → Some h ≡ Some k → h ≡ k
some_is h k is = cc

head_inside : (levels : ℕ) (q : Option Head) (part : List Token) (e : Expr) (after : Option Head) (group : Bool)
    → IsInside group levels q part e after → group ≡ true → (h : Head) × (after ≡ Some h)
head_inside levels q part e after false inside is = let never : ⊥ = cc in absurd never
head_inside levels q part e after true (h, before, following, inside) is = (h, following)

-- Where only values are allowed, qualifiers are in force.
mutual
  start_head : (most levels : ℕ) (prefix : List Token) (frames : List Frame) (q : Option Head) (group : Bool)
      → Start most levels prefix frames q group → group ≡ true → (h : Head) × (q ≡ Some h)
  start_head most _ _ _ _ _ at_start is = let never : ⊥ = cc in absurd never
  start_head most _ _ _ _ _ (after_open levels prefix frames q group only present) is =
      context_head most (suc levels) prefix frames q group only present is

  pub context_head : (most levels : ℕ) (prefix : List Token) (frames : List Frame) (q : Option Head)
      (group only : Bool) → Context most levels prefix frames q group only → only ≡ true
      → (h : Head) × (q ≡ Some h)
  context_head most _ _ _ _ _ _ (at_once levels prefix frames q group present) is =
      start_head most levels prefix frames q group present is
  context_head most _ _ _ _ _ _ (after_and levels prefix part frames q after group e present inside) is =
      head_inside levels q part e after group inside is
  context_head most _ _ _ _ _ _ (after_or levels prefix part frames q after group e present inside) is =
      head_inside levels q part e after group inside is
  context_head most _ _ _ _ _ _ (after_not levels prefix frames q group only present) is =
      context_head most (suc levels) prefix frames q group only present is
  context_head most _ _ _ _ _ _ (after_head levels prefix heads frames q group h present heads_is) is = (h, refl)

-- ---- operands that fill contexts

first_inside : (levels : ℕ) (q after : Option Head) (group : Bool) (part : List Token) (e : Expr)
    → IsFilling group levels q part e after → IsInside group levels q part e after
first_inside levels q after false part e is = first_operand levels q after part e is
first_inside levels q after true part e (h, before, following, is) = (h, before, following, first_values levels h part e is)

more_inside : (levels : ℕ) (q between after : Option Head) (group : Bool) (left right : List Token)
    (operator : Token) (join : Expr → Expr → Expr) (e f : Expr) → IsInside group levels q left e between
    → IsOperator operator join → IsFilling group levels between right f after
    → IsInside group levels q (left ++ operator ∷ right) (join e f) after
more_inside levels q between after false left right operator join e f is joins operand =
    more_operands levels q between after left right operator join e f is joins operand
more_inside levels q between after true left right operator join e f (h, before, middle, is) joins
    (k, middle', following, values) =
    let same : k ≡ h = some_is k h (sym middle' ∙ middle) in (
      h,
      before,
      following ∙ ap Some same,
      more_values levels h left right operator join e f is joins
          (subst (λ head. IsValues levels head right f) same values),
    )

negated_filling : (levels : ℕ) (q after : Option Head) (only : Bool) (part : List Token) (e : Expr)
    → IsFilling only levels q part e after → IsFilling only (suc levels) q (not ∷ part) (negated e) after
negated_filling levels q after false part e is = negation levels q after part e is
negated_filling levels q after true part e (h, before, following, is) =
    (h, before, following, not_values levels h part e is)

qualified_filling : (levels : ℕ) (q after : Option Head) (heads part : List Token) (h : Head) (e : Expr)
    → IsHead heads h → IsFilling true levels (Some h) part e after → IsOperand levels q (heads ++ part) e after
qualified_filling levels q after heads part h e heads_is (k, before, following, is) =
    let same : k ≡ h = sym (some_is h k before) in
    subst (λ head. IsOperand levels q (heads ++ part) e head) (sym (following ∙ ap Some same))
    (qualified levels q heads part h e heads_is (subst (λ head. IsValues levels head part e) same is))

enclosed_filling : (levels : ℕ) (q after : Option Head) (only : Bool) (part : List Token) (e : Expr)
    → IsInside only levels q part e after
    → IsFilling only (suc levels) q (left_parenthesis ∷ part ++ right_parenthesis ∷ []) e q
enclosed_filling levels q after false part e is = parentheses levels q after part e is
enclosed_filling levels q after true part e (h, before, following, is) =
    (h, before, before, values_in_parentheses levels h part e is)

-- At the start of a parenthesis an operand is an expression.
start_completed : (most levels : ℕ) (prefix : List Token) (frames : List Frame) (q : Option Head) (group : Bool)
    (e : Expr) → Start most levels prefix frames q group → expression e ∷ frames ≡ completed frames e
start_completed most _ _ _ _ _ e at_start = refl
start_completed most _ _ _ _ _ e (after_open levels prefix frames q group only present) = refl

three_parts : (prefix part back : List Token) (token : Token)
    → prefix ++ (part ++ token ∷ back) ≡ prefix ++ part ++ token ∷ [] ++ back
three_parts prefix part back token =
    sym (append_assoc (prefix ++ part) (token ∷ []) back ∙ append_assoc prefix part (token ∷ back))

-- An operand in a context completes an expression.
pub fill : (most levels : ℕ) (prefix : List Token) (frames : List Frame) (q : Option Head) (group only : Bool)
    (part : List Token) (e : Expr) (following : Option Head) → Context most levels prefix frames q group only
    → IsFilling only levels q part e following → Filled most (prefix ++ part) (completed frames e) following group
fill most _ _ _ _ _ _ part e following (at_once levels prefix frames q group present) is =
    subst (λ list. Filled most (prefix ++ part) list following group)
    (start_completed most levels prefix frames q group e present)
    (filled levels prefix part frames q following group e present (first_inside levels q following group part e is))
fill most _ _ _ _ _ _ part f following (after_and levels prefix left frames q after group e present inside) is =
    subst (λ list. Filled most list (expression (both e f) ∷ frames) following group)
    (three_parts prefix left part and)
    (filled levels prefix (left ++ and ∷ part) frames q following group (both e f) present
    (more_inside levels q after following group left part and both e f inside conjunction is))
fill most _ _ _ _ _ _ part f following (after_or levels prefix left frames q after group e present inside) is =
    subst (λ list. Filled most list (expression (either e f) ∷ frames) following group)
    (three_parts prefix left part or)
    (filled levels prefix (left ++ or ∷ part) frames q following group (either e f) present
    (more_inside levels q after following group left part or either e f inside disjunction is))
fill most _ _ _ _ _ _ part e following (after_not levels prefix frames q group only present) is =
    subst (λ list. Filled most list (completed frames (negated e)) following group)
    (sym (append_assoc prefix (not ∷ []) part))
    (fill most (suc levels) prefix frames q group only (not ∷ part) (negated e) following present
    (negated_filling levels q following only part e is))
fill most _ _ _ _ _ _ part e following (after_head levels prefix heads frames q group h present heads_is) is =
    subst (λ list. Filled most list (completed frames e) following group) (sym (append_assoc prefix heads part))
    (fill most levels prefix frames q group false (heads ++ part) e following present
    (qualified_filling levels q following heads part h e heads_is is))

-- ---- parentheses

-- `)` after an expression.
pub close : (most : ℕ) (tokens : List Token) (frames : List Frame) (q after : Option Head) (group only : Bool)
    (e : Expr) → Filled most tokens (expression e ∷ opened q only ∷ frames) after group
    → Filled most (tokens ++ right_parenthesis ∷ []) (completed frames e) q only
close most _ _ _ _ _ _ _
    (filled _ _ part _ _ after _ e (after_open levels prefix frames q only group present) inside) =
    subst (λ list. Filled most list (completed frames e) q only)
    (sym (append_assoc (prefix ++ left_parenthesis ∷ []) part (right_parenthesis ∷ [])
    ∙ append_assoc prefix (left_parenthesis ∷ []) (part ++ right_parenthesis ∷ [])))
    (fill most (suc levels) prefix frames q only group (left_parenthesis ∷ part ++ right_parenthesis ∷ []) e q present
    (enclosed_filling levels q after group part e inside))

-- An operand of a byte test that begins in a parenthesis.
pub unopened : (most levels : ℕ) (prefix : List Token) (frames : List Frame) (q after : Option Head)
    (group only : Bool) → Context most levels prefix (opened q only ∷ frames) after group false
    → (before : List Token) × (prefix ≡ before ++ left_parenthesis ∷ [])
    × Context most (suc levels) before frames q only false
unopened most _ _ _ _ _ _ _ (at_once _ _ _ _ _ (after_open levels prefix frames q only group present)) =
    (prefix, refl, present)

-- ---- ends of contexts and expressions

operator_awaits : (levels : ℕ) (prefix part : List Token) (operator : Token) (join : Expr → Expr → Expr)
    (q after : Option Head) (group : Bool) (e : Expr) → AwaitsDirectly levels prefix q group
    → IsInside group levels q part e after → IsOperator operator join
    → Awaits levels (prefix ++ part ++ operator ∷ []) after group
operator_awaits levels prefix part operator join q after false e present inside joins =
    directly levels (prefix ++ part ++ operator ∷ []) after false
    (after_operator levels prefix part operator join q after e present inside joins)
operator_awaits levels prefix part operator join q after true e present (h, before, following, inside) joins =
    subst (λ head. Awaits levels (prefix ++ part ++ operator ∷ []) head true) (sym following)
    (directly levels (prefix ++ part ++ operator ∷ []) (Some h) true
    (after_value_operator levels prefix part operator join h e
    (subst (λ head. AwaitsDirectly levels prefix head true) before present) inside joins))

mutual
  start_awaits : (most levels : ℕ) (prefix : List Token) (frames : List Frame) (q : Option Head) (group : Bool)
      → Start most levels prefix frames q group → AwaitsDirectly levels prefix q group
  start_awaits most _ _ _ _ _ at_start = begins_at_start most
  start_awaits most _ _ _ _ _ (after_open levels prefix frames q group only present) =
      begins_after_open levels prefix q only (context_awaits most (suc levels) prefix frames q group only present)

  pub context_awaits : (most levels : ℕ) (prefix : List Token) (frames : List Frame) (q : Option Head)
      (group only : Bool) → Context most levels prefix frames q group only → Awaits levels prefix q only
  context_awaits most _ _ _ _ _ _ (at_once levels prefix frames q group present) =
      directly levels prefix q group (start_awaits most levels prefix frames q group present)
  context_awaits most _ _ _ _ _ _ (after_and levels prefix part frames q after group e present inside) =
      operator_awaits levels prefix part and both q after group e
      (start_awaits most levels prefix frames q group present) inside conjunction
  context_awaits most _ _ _ _ _ _ (after_or levels prefix part frames q after group e present inside) =
      operator_awaits levels prefix part or either q after group e
      (start_awaits most levels prefix frames q group present) inside disjunction
  context_awaits most _ _ _ _ _ _ (after_not levels prefix frames q group only present) =
      awaits_after_not levels prefix q only (context_awaits most (suc levels) prefix frames q group only present)
  context_awaits most _ _ _ _ _ _ (after_head levels prefix heads frames q group h present is) =
      awaits_after_head levels prefix heads q h (context_awaits most levels prefix frames q group false present) is

-- The whole expression of a text.
pub filled_filter : (most : ℕ) (tokens : List Token) (frames : List Frame) (q : Option Head) (group : Bool) (e : Expr)
    → Filled most tokens frames q group → expression_in frames ≡ Some e → IsFilter most tokens (Some e)
filled_filter most _ _ _ _ e (filled _ _ part _ _ after _ f at_start inside) is =
    let same : f ≡ e = cc in
    subst (λ found. IsFilter most part (Some found)) same (complete most part f after inside)
filled_filter most _ _ _ _ e
    (filled _ _ part _ _ after _ f (after_open levels prefix frames q only group present) inside) is =
    let never : ⊥ = cc in absurd never

fewer_frames : (frames : List Frame) (e : Expr) → length (completed frames e) ≤ suc (length frames)
fewer_frames [] e = omega arith
fewer_frames (expression f ∷ frames) e = omega arith
fewer_frames (left_of_and f ∷ frames) e = omega arith
fewer_frames (left_of_or f ∷ frames) e = omega arith
fewer_frames (negating ∷ frames) e = omega (arith, fewer_frames frames (negated e))
fewer_frames (opened q only ∷ frames) e = omega arith

-- Every `(` before an expression can be closed.
pub filled_ends : (bound most : ℕ) (tokens : List Token) (frames : List Frame) (q : Option Head) (group : Bool)
    → Filled most tokens frames q group → length frames ≤ bound
    → (more : List Token) × (e : Expr) × IsFilter most (tokens ++ more) (Some e)
filled_ends bound most _ _ _ _ (filled _ _ part _ _ after _ e at_start inside) fits =
    ([], e, subst (λ list. IsFilter most list (Some e)) (sym (append-nil part)) (complete most part e after inside))
filled_ends zero most _ _ _ _
    (filled _ _ part _ _ after _ e (after_open levels prefix frames q group only present) inside) fits =
    absurd (omega (arith, fits))
filled_ends (suc bound) most _ _ _ _
    (filled _ _ part _ _ after _ e (after_open levels prefix frames q group only present) inside) fits =
    let before : List Token = prefix ++ left_parenthesis ∷ [] ++ part in
    let closed = close most before frames q after only group e
    (filled levels (prefix ++ left_parenthesis ∷ []) part (opened q group ∷ frames) q after only e
    (after_open levels prefix frames q group only present) inside) in
    let (more, f, is) = filled_ends bound most (before ++ right_parenthesis ∷ []) (completed frames e) q group closed
    (omega (arith, fits, fewer_frames frames e)) in (
      right_parenthesis ∷ more,
      f,
      subst (λ list. IsFilter most list (Some f)) (append_assoc before (right_parenthesis ∷ []) more) is,
    )
