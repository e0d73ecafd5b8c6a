-- Lemmas about levels and steps.
use Rattle.std.proofs.Common.{◌≡◌, ℕ, ◌-◌, Bool, List, [], ◌∷◌, ◌++◌, length, Option, Some, refl, ap, ap₂, sym, ◌∙◌, append_assoc, arith, length-append, get_or, set, subst}
use Rattle.std.proofs.Math.Seq.{get_or-append_seam, set-append_seam}
use Rattle.filter_language.specs.declared.head.Head.{Head}
use Rattle.filter_language.specs.declared.parser.stack.Level.{Level}
use Rattle.filter_language.specs.declared.parser.stack.Level.TheVariants as level
use Rattle.filter_language.specs.declared.parser.stack.Stack.{Stack}
use Rattle.filter_language.specs.declared.step.Step.{Step}
use Rattle.filter_language.specs.declared.step.Step.TheVariants as step
use Rattle.filter_language.specs.Parsing.{AreFrames, HasNoExpression, IsClosed, levels_of, steps_before, with_skip}
use Rattle.filter_language.specs.States.{Frame, expression, left_of_and, left_of_or, negating, opened, completed, levels_in}
use Rattle.filter_language.specs.Trees.{Expr, negated, steps_of}

-- Lists that end in one element have the same elements before it.
last_same : {A : Type 0} (xs ys : List A) (x y : A) → xs ++ x ∷ [] ≡ ys ++ y ∷ [] → (xs ≡ ys) × (x ≡ y)
last_same [] [] x y is = (refl, cc)
last_same [] (other ∷ ys) x y is =
    let len = ap length is in absurd (omega (arith, len, length-append ys (y ∷ [])))
last_same (first ∷ xs) [] x y is =
    let len = ap length is in absurd (omega (arith, len, length-append xs (x ∷ [])))
last_same {A = A} (first ∷ xs) (other ∷ ys) x y is =
    let tails : xs ++ x ∷ [] ≡ ys ++ y ∷ [] = cc in
    let heads : first ≡ other = cc in
    let present = last_same xs ys x y tails in
    (ap (λ (list : List A). first ∷ list) present.0 ∙ ap (λ (head : A). head ∷ ys) heads, present.1)

pub no_last : {A : Type 0} (xs : List A) (x : A) → [] ≡ xs ++ x ∷ [] → ⊥
no_last xs x is = let len = ap length is in omega (arith, len, length-append xs (x ∷ []))

-- The innermost level is that of a `not`.
pub not_on_top : (frames : List Frame) (rest : List Level) → HasNoExpression frames
    → levels_of frames ≡ rest ++ level.Not ∷ []
    → (inner : List Frame) × (frames ≡ negating ∷ inner) × (rest ≡ levels_of inner)
not_on_top [] rest none is = absurd (no_last rest level.Not is)
not_on_top (expression e ∷ frames) rest none is = absurd none
not_on_top (left_of_and e ∷ frames) rest none is =
    let tops = (last_same _ rest _ level.Not is).1 in absurd cc
not_on_top (left_of_or e ∷ frames) rest none is =
    let tops = (last_same _ rest _ level.Not is).1 in absurd cc
not_on_top (negating ∷ frames) rest none is = (frames, refl, sym (last_same (levels_of frames) rest level.Not level.Not is).0)
not_on_top (opened q only ∷ frames) rest none is =
    let tops = (last_same _ rest _ level.Not is).1 in absurd cc

-- An operand after `not` is negated.
pub negated_once : (frames : List Frame) (f : Expr) (steps more : List Step) (levels rest : List Level) (count : ℕ)
    → steps ≡ steps_before frames ++ steps_of f → levels ≡ levels_of frames → count ≡ levels_in frames
    → HasNoExpression frames → levels ≡ rest ++ level.Not ∷ [] → more ≡ steps ++ step.Negate ∷ []
    → (inner : List Frame) × (completed frames f ≡ completed inner (negated f))
    × (more ≡ steps_before inner ++ steps_of (negated f)) × (rest ≡ levels_of inner) × (count - 1 ≡ levels_in inner)
    × HasNoExpression inner
negated_once frames f steps more levels rest count steps_are levels_are count_is none top more_is =
    let (inner, is, rest_is) = not_on_top frames rest none (sym levels_are ∙ top) in
    let counted : count ≡ levels_in (negating ∷ inner) = count_is ∙ ap levels_in is in (
      inner,
      ap (λ (list : List Frame). completed list f) is,
      more_is ∙ ap (λ (list : List Step). list ++ step.Negate ∷ []) (steps_are ∙ ap (λ (list : List Frame). steps_before list ++ steps_of f) is)
          ∙ append_assoc (steps_before inner) (steps_of f) (step.Negate ∷ []),
      rest_is,
      omega (arith, counted),
      subst HasNoExpression is none,
    )

-- The step of an operator skips the right operand.
skipping : (before left right : List Step) (old new : Step)
    → ((before ++ left) ++ old ∷ []) ++ right ≡ (before ++ left) ++ old ∷ right
skipping before left right old new = append_assoc (before ++ left) (old ∷ []) right

pub ended : (frames : List Frame) (f : Expr) (steps more : List Step) (levels rest : List Level) (count place : ℕ)
    → steps ≡ steps_before frames ++ steps_of f → levels ≡ levels_of frames → count ≡ levels_in frames
    → HasNoExpression frames → levels ≡ rest ++ level.Operator place ∷ []
    → ((before right : List Step) (old : Step) → steps ≡ before ++ old ∷ right → place ≡ length before
    → more ≡ before ++ with_skip old (length right) ∷ right)
    → (more ≡ steps_before (completed frames f)) × (rest ≡ levels_of (completed frames f))
    × (count ≡ levels_in (completed frames f))
ended [] f steps more levels rest count place steps_are levels_are count_is none top set_is =
    absurd (no_last rest (level.Operator place) (sym levels_are ∙ top))
ended (expression e ∷ frames) f steps more levels rest count place steps_are levels_are count_is none top set_is = absurd none
ended (left_of_and e ∷ frames) f steps more levels rest count place steps_are levels_are count_is none top set_is =
    let left = steps_before frames ++ steps_of e in
    let tops = last_same (levels_of frames) rest (level.Operator (length left)) (level.Operator place) (sym levels_are ∙ top) in
    let top_is : level.Operator (length left) ≡ level.Operator place = tops.1 in
    let place_is : place ≡ length left = cc in (
      set_is left (steps_of f) (step.SkipIfFalse 0) (steps_are ∙ append_assoc left (step.SkipIfFalse 0 ∷ []) (steps_of f)) place_is
          ∙ append_assoc (steps_before frames) (steps_of e) (step.SkipIfFalse (length (steps_of f)) ∷ steps_of f),
      sym tops.0,
      count_is,
    )
ended (left_of_or e ∷ frames) f steps more levels rest count place steps_are levels_are count_is none top set_is =
    let left = steps_before frames ++ steps_of e in
    let tops = last_same (levels_of frames) rest (level.Operator (length left)) (level.Operator place) (sym levels_are ∙ top) in
    let top_is : level.Operator (length left) ≡ level.Operator place = tops.1 in
    let place_is : place ≡ length left = cc in (
      set_is left (steps_of f) (step.SkipIfTrue 0) (steps_are ∙ append_assoc left (step.SkipIfTrue 0 ∷ []) (steps_of f)) place_is
          ∙ append_assoc (steps_before frames) (steps_of e) (step.SkipIfTrue (length (steps_of f)) ∷ steps_of f),
      sym tops.0,
      count_is,
    )
ended (negating ∷ frames) f steps more levels rest count place steps_are levels_are count_is none top set_is =
    let tops = (last_same (levels_of frames) rest level.Not (level.Operator place) (sym levels_are ∙ top)).1 in absurd cc
ended (opened q only ∷ frames) f steps more levels rest count place steps_are levels_are count_is none top set_is =
    let tops = (last_same (levels_of frames) rest (level.Group q only) (level.Operator place) (sym levels_are ∙ top)).1 in
    absurd cc

-- Without an operator or `not` before it, an operand is an expression.
pub not_ended : (frames : List Frame) (f : Expr) (steps : List Step) (levels : List Level) (count : ℕ)
    → steps ≡ steps_before frames ++ steps_of f → levels ≡ levels_of frames → count ≡ levels_in frames
    → HasNoExpression frames → ((before : List Level) (place : ℕ) → levels ≡ before ++ level.Operator place ∷ [] → ⊥)
    → ((inner : List Frame) → frames ≡ negating ∷ inner → ⊥)
    → (steps ≡ steps_before (completed frames f)) × (levels ≡ levels_of (completed frames f))
    × (count ≡ levels_in (completed frames f))
not_ended [] f steps levels count steps_are levels_are count_is none no_operator no_not = (steps_are, levels_are, count_is)
not_ended (expression e ∷ frames) f steps levels count steps_are levels_are count_is none no_operator no_not = absurd none
not_ended (left_of_and e ∷ frames) f steps levels count steps_are levels_are count_is none no_operator no_not =
    absurd (no_operator (levels_of frames) (length (steps_before frames ++ steps_of e)) levels_are)
not_ended (left_of_or e ∷ frames) f steps levels count steps_are levels_are count_is none no_operator no_not =
    absurd (no_operator (levels_of frames) (length (steps_before frames ++ steps_of e)) levels_are)
not_ended (negating ∷ frames) f steps levels count steps_are levels_are count_is none no_operator no_not =
    absurd (no_not frames refl)
not_ended (opened q only ∷ frames) f steps levels count steps_are levels_are count_is none no_operator no_not =
    (steps_are, levels_are, count_is)

-- A parenthesis is closed after an expression.
pub closed : (stack : Stack) (e : Expr) (frames : List Frame) (levels rest : List Level) (group : Option Head × Bool)
    → levels ≡ levels_of frames → HasNoExpression frames → levels ≡ rest ++ level.Group group.0 group.1 ∷ []
    → ((inner : List Frame) → rest ≡ levels_of inner → steps_before frames ≡ steps_before inner
    → levels_in frames - 1 ≡ levels_in inner → HasNoExpression inner → AreFrames stack (completed inner e))
    → IsClosed stack e frames (Some group)
closed stack e [] levels rest group levels_are none top are = absurd (no_last rest _ (sym levels_are ∙ top))
closed stack e (expression f ∷ frames) levels rest group levels_are none top are = absurd none
closed stack e (left_of_and f ∷ frames) levels rest group levels_are none top are =
    let tops = (last_same _ rest _ (level.Group group.0 group.1) (sym levels_are ∙ top)).1 in absurd cc
closed stack e (left_of_or f ∷ frames) levels rest group levels_are none top are =
    let tops = (last_same _ rest _ (level.Group group.0 group.1) (sym levels_are ∙ top)).1 in absurd cc
closed stack e (negating ∷ frames) levels rest group levels_are none top are =
    let tops = (last_same _ rest _ (level.Group group.0 group.1) (sym levels_are ∙ top)).1 in absurd cc
closed stack e (opened q only ∷ frames) levels rest group levels_are none top are =
    let tops = last_same (levels_of frames) rest (level.Group q only) (level.Group group.0 group.1) (sym levels_are ∙ top) in
    let top_is : level.Group q only ≡ level.Group group.0 group.1 = tops.1 in
    let head_is : group.0 ≡ q = cc in
    let only_is : group.1 ≡ only = cc in
    (head_is, only_is, are frames (sym tops.0) refl (omega arith) none)

-- The step at the place of an operator is set.
pub step_set : (items before right : List Step) (old new found : Step) (place len : ℕ)
    → items ≡ before ++ old ∷ right → place ≡ length before → found ≡ get_or items place found
    → new ≡ with_skip found (len - place - 1) → len ≡ length items
    → set items place new ≡ before ++ with_skip old (length right) ∷ right
step_set items before right old new found place len is place_is found_is new_is len_is =
    let found_old : found ≡ old =
    found_is ∙ ap (λ (list : List Step). get_or list place found) is
    ∙ ap (λ n. get_or (before ++ old ∷ right) n found) place_is ∙ get_or-append_seam before old right found in
    let count : len - place - 1 ≡ length right =
    omega (arith, len_is, ap length is, length-append before (old ∷ right), place_is) in
    ap (λ (list : List Step). set list place new) is ∙ ap (λ n. set (before ++ old ∷ right) n new) place_is
    ∙ set-append_seam before old right new
    ∙ ap (λ (s : Step). before ++ s ∷ right)
    (new_is ∙ ap (λ (s : Step). with_skip s (len - place - 1)) found_old ∙ ap (λ n. with_skip old n) count)

-- The innermost level is that of a parenthesis.
pub group_on_top : (frames : List Frame) (rest : List Level) (q : Option Head) (only : Bool) → HasNoExpression frames
    → levels_of frames ≡ rest ++ level.Group q only ∷ []
    → (inner : List Frame) × (frames ≡ opened q only ∷ inner) × (rest ≡ levels_of inner)
group_on_top [] rest q only none is = absurd (no_last rest (level.Group q only) is)
group_on_top (expression e ∷ frames) rest q only none is = absurd none
group_on_top (left_of_and e ∷ frames) rest q only none is =
    let tops = (last_same _ rest _ (level.Group q only) is).1 in absurd cc
group_on_top (left_of_or e ∷ frames) rest q only none is =
    let tops = (last_same _ rest _ (level.Group q only) is).1 in absurd cc
group_on_top (negating ∷ frames) rest q only none is =
    let tops = (last_same _ rest _ (level.Group q only) is).1 in absurd cc
group_on_top (opened q' only' ∷ frames) rest q only none is =
    let tops = last_same (levels_of frames) rest (level.Group q' only') (level.Group q only) is in
    let top_is : level.Group q' only' ≡ level.Group q only = tops.1 in
    let head_is : q' ≡ q = cc in
    let only_is : only' ≡ only = cc in
    (frames, ap₂ (λ (h : Option Head) (b : Bool). opened h b ∷ frames) head_is only_is, sym tops.0)
