-- Lemmas about steps, and about reading their expression.
use Rattle.std.proofs.Common.{◌≡◌, false, is_none, ℕ, zero, suc, ◌≤◌, ◌-◌, List, [], ◌∷◌, ◌++◌, length, get_or, take, drop, Option, Some, None, refl, ap, sym, ◌∙◌, append_assoc, arith}
use Rattle.std.proofs.lemmas.List.{append-nil, length-append, length-take, length-drop, take_at, take_rest, drop_at}
use Rattle.filter_language.specs.declared.step.Step.{Step}
use Rattle.filter_language.specs.declared.step.Step.TheVariants as step
use Rattle.filter_language.specs.Trees.{Expr, test, negated, both, both_of, either, steps_of, steps_of_text, joined, negated_of, tree_after, tree_of}

-- Steps that are not empty begin with their first step.
pub begin_with : (steps : List Step) (item first : Step) → 1 ≤ length steps → item ≡ get_or steps 0 item → item ≡ first
    → steps ≡ first ∷ drop 1 steps
begin_with [] item first some at is = absurd (omega (arith, some))
begin_with (one ∷ steps) item first some at is = ap (λ (other : Step). other ∷ steps) (sym at ∙ is)

take_fits : (steps : List Step) (skipped most : ℕ) → length steps ≤ most → length (take skipped steps) ≤ most
take_fits steps skipped most fits = omega (arith, length-take skipped steps)

drop_fits : (steps : List Step) (skipped most : ℕ) → length steps ≤ most → length (drop skipped steps) ≤ most
drop_fits steps skipped most fits = omega (arith, length-drop skipped steps)

-- Steps that begin with an operator are the operator, its right operand, and the steps after it.
pub operand_parts : (steps first later : List Step) (item operator : Step) (skipped : ℕ) → 1 ≤ length steps
    → item ≡ get_or steps 0 item → item ≡ operator → first ≡ take skipped (take (length steps - 1) (drop 1 steps))
    → later ≡ drop skipped (take (length steps - 1) (drop 1 steps))
    → (steps ≡ operator ∷ drop 1 steps) × (first ≡ take skipped (drop 1 steps))
    × (later ≡ drop skipped (drop 1 steps)) × (length later ≡ length steps - 1 - skipped)
operand_parts steps first later item operator skipped some at is first_is later_is =
    let others : take (length steps - 1) (drop 1 steps) ≡ drop 1 steps = take_rest steps 1 in
    let left : later ≡ drop skipped (drop 1 steps) =
    later_is ∙ ap (λ (list : List Step). drop skipped list) others in (
      begin_with steps item operator some at is,
      first_is ∙ ap (λ (list : List Step). take skipped list) others,
      left,
      omega (arith, ap length left, length-drop skipped (drop 1 steps), length-drop 1 steps),
    )

-- The expression of steps is the same for every bound on their number.
same_tree : (most more : ℕ) (before : Option Expr) (steps : List Step) → length steps ≤ most → length steps ≤ more
    → tree_after most before steps ≡ tree_after more before steps
same_tree zero zero before steps fits fits_more = refl
same_tree zero (suc more) before [] fits fits_more = refl
same_tree zero (suc more) before (first ∷ steps) fits fits_more = absurd (omega (arith, fits))
same_tree (suc most) zero before [] fits fits_more = refl
same_tree (suc most) zero before (first ∷ steps) fits fits_more = absurd (omega (arith, fits_more))
same_tree (suc most) (suc more) before [] fits fits_more = refl
same_tree (suc most) (suc more) before (step.Test primitive ∷ steps) fits fits_more =
    same_tree most more (Some (test primitive)) steps (omega (arith, fits)) (omega (arith, fits_more))
same_tree (suc most) (suc more) before (step.Negate ∷ steps) fits fits_more =
    same_tree most more (negated_of before) steps (omega (arith, fits)) (omega (arith, fits_more))
same_tree (suc most) (suc more) before (step.SkipIfFalse skipped ∷ steps) fits fits_more =
    let fits_most : length steps ≤ most = omega (arith, fits) in
    let fits_more' : length steps ≤ more = omega (arith, fits_more) in
    ap (λ (right : Option Expr). tree_after most (joined both before right) (drop skipped steps))
    (same_tree most more None (take skipped steps) (take_fits steps skipped most fits_most)
    (take_fits steps skipped more fits_more'))
    ∙ same_tree most more (joined both before (tree_after more None (take skipped steps))) (drop skipped steps)
    (drop_fits steps skipped most fits_most) (drop_fits steps skipped more fits_more')
same_tree (suc most) (suc more) before (step.SkipIfTrue skipped ∷ steps) fits fits_more =
    let fits_most : length steps ≤ most = omega (arith, fits) in
    let fits_more' : length steps ≤ more = omega (arith, fits_more) in
    ap (λ (right : Option Expr). tree_after most (joined either before right) (drop skipped steps))
    (same_tree most more None (take skipped steps) (take_fits steps skipped most fits_most)
    (take_fits steps skipped more fits_more'))
    ∙ same_tree most more (joined either before (tree_after more None (take skipped steps))) (drop skipped steps)
    (drop_fits steps skipped most fits_most) (drop_fits steps skipped more fits_more')

-- One step fewer may be left.
fewer : (most : ℕ) (tree : Option Expr) (rest : List Step) → suc (length rest) ≤ suc most
    → tree_after most tree rest ≡ tree_after (suc most) tree rest
fewer most tree rest fits = same_tree most (suc most) tree rest (omega (arith, fits)) (omega (arith, fits))

-- Without steps left, the expression is the one before.
at_end : (most : ℕ) (e : Expr) → tree_after most (Some e) [] ≡ Some e
at_end zero e = refl
at_end (suc most) e = refl

-- The right operand of an operator is read, and the operator applied.
joins : (operator : Expr → Expr → Expr) (most : ℕ) (e f : Expr) (steps rest : List Step)
    → suc (length (steps ++ rest)) ≤ suc most → tree_after most None (steps ++ []) ≡ tree_after most (Some f) []
    → tree_after most (joined operator (Some e) (tree_after most None (take (length steps) (steps ++ rest))))
    (drop (length steps) (steps ++ rest))
    ≡ tree_after (suc most) (Some (operator e f)) rest
joins operator most e f steps rest fits right =
    let prefix : take (length steps) (steps ++ rest) ≡ steps = take_at steps rest (length steps) refl in
    let back : drop (length steps) (steps ++ rest) ≡ rest = drop_at steps rest (length steps) refl in
    let read : tree_after most None (take (length steps) (steps ++ rest)) ≡ Some f =
    ap (λ (list : List Step). tree_after most None list) (prefix ∙ sym (append-nil steps)) ∙ right ∙ at_end most f in
    ap (λ (list : List Step).
    tree_after most (joined operator (Some e) (tree_after most None (take (length steps) (steps ++ rest)))) list) back
    ∙ ap (λ (tree : Option Expr). tree_after most (joined operator (Some e) tree) rest) read
    ∙ fewer most (Some (operator e f)) rest (omega (arith, fits, length-append steps rest))

-- The right operand of `and` is read after the step that skips it.
joins_by_and : (most : ℕ) (e f : Expr) (steps rest : List Step) → suc (length (steps ++ rest)) ≤ most
    → ((bound : ℕ) → length (steps ++ []) ≤ bound
    → tree_after bound None (steps ++ []) ≡ tree_after bound (Some f) [])
    → tree_after most (Some e) (step.SkipIfFalse (length steps) ∷ (steps ++ rest))
    ≡ tree_after most (Some (both e f)) rest
joins_by_and zero e f steps rest fits right = absurd (omega (arith, fits))
joins_by_and (suc most) e f steps rest fits right =
    joins both most e f steps rest fits
    (right most (omega (arith, fits, length-append steps rest, ap length (append-nil steps))))

-- The right operand of `or` is read after the step that skips it.
joins_by_or : (most : ℕ) (e f : Expr) (steps rest : List Step) → suc (length (steps ++ rest)) ≤ most
    → ((bound : ℕ) → length (steps ++ []) ≤ bound
    → tree_after bound None (steps ++ []) ≡ tree_after bound (Some f) [])
    → tree_after most (Some e) (step.SkipIfTrue (length steps) ∷ (steps ++ rest))
    ≡ tree_after most (Some (either e f)) rest
joins_by_or zero e f steps rest fits right = absurd (omega (arith, fits))
joins_by_or (suc most) e f steps rest fits right =
    joins either most e f steps rest fits
    (right most (omega (arith, fits, length-append steps rest, ap length (append-nil steps))))

-- A step that negates is read.
negates : (most : ℕ) (e : Expr) (rest : List Step) → suc (length rest) ≤ most
    → tree_after most (Some e) (step.Negate ∷ rest) ≡ tree_after most (Some (negated e)) rest
negates zero e rest fits = absurd (omega (arith, fits))
negates (suc most) e rest fits = fewer most (Some (negated e)) rest fits

-- A part of a list of steps fits where the list does.
later_fits : (prefix later complete : List Step) (most : ℕ) → complete ≡ prefix ++ later → length complete ≤ most
    → length later ≤ most
later_fits prefix later complete most is fits = omega (arith, fits, ap length is, length-append prefix later)

same_fits : (part complete : List Step) (most : ℕ) → complete ≡ part → length complete ≤ most → length part ≤ most
same_fits part complete most is fits = omega (arith, fits, ap length is)

-- The steps of an expression are read as the expression.
pub reads : (e : Expr) (most : ℕ) (before : Option Expr) (rest : List Step) → length (steps_of e ++ rest) ≤ most
    → tree_after most before (steps_of e ++ rest) ≡ tree_after most (Some e) rest
reads (test primitive) zero before rest fits = absurd (omega (arith, fits))
reads (test primitive) (suc most) before rest fits = fewer most (Some (test primitive)) rest fits
reads (negated e) most before rest fits =
    let assoc : steps_of (negated e) ++ rest ≡ steps_of e ++ (step.Negate ∷ rest) =
    append_assoc (steps_of e) (step.Negate ∷ []) rest in
    ap (λ (list : List Step). tree_after most before list) assoc
    ∙ reads e most before (step.Negate ∷ rest) (same_fits _ _ most assoc fits)
    ∙ negates most e rest (later_fits (steps_of e) (step.Negate ∷ rest) _ most assoc fits)
reads (both e f) most before rest fits =
    let assoc : steps_of (both e f) ++ rest
    ≡ steps_of e ++ (step.SkipIfFalse (length (steps_of f)) ∷ (steps_of f ++ rest)) =
    append_assoc (steps_of e) (step.SkipIfFalse (length (steps_of f)) ∷ steps_of f) rest in
    ap (λ (list : List Step). tree_after most before list) assoc
    ∙ reads e most before (step.SkipIfFalse (length (steps_of f)) ∷ (steps_of f ++ rest))
    (same_fits _ _ most assoc fits)
    ∙ joins_by_and most e f (steps_of f) rest
    (later_fits (steps_of e) (step.SkipIfFalse (length (steps_of f)) ∷ (steps_of f ++ rest)) _ most assoc fits)
    (λ bound right_fits. reads f bound None [] right_fits)
reads (either e f) most before rest fits =
    let assoc : steps_of (either e f) ++ rest
    ≡ steps_of e ++ (step.SkipIfTrue (length (steps_of f)) ∷ (steps_of f ++ rest)) =
    append_assoc (steps_of e) (step.SkipIfTrue (length (steps_of f)) ∷ steps_of f) rest in
    ap (λ (list : List Step). tree_after most before list) assoc
    ∙ reads e most before (step.SkipIfTrue (length (steps_of f)) ∷ (steps_of f ++ rest))
    (same_fits _ _ most assoc fits)
    ∙ joins_by_or most e f (steps_of f) rest
    (later_fits (steps_of e) (step.SkipIfTrue (length (steps_of f)) ∷ (steps_of f ++ rest)) _ most assoc fits)
    (λ bound right_fits. reads f bound None [] right_fits)

-- The steps of a filter are read as its expression.
pub reads_back : (tree : Option Expr) → tree_of (steps_of_text tree) ≡ tree
reads_back None = refl
reads_back (Some e) =
    ap (λ (list : List Step). tree_after (length (steps_of e)) None list) (sym (append-nil (steps_of e)))
    ∙ reads e (length (steps_of e)) None [] (omega (arith, ap length (append-nil (steps_of e))))
    ∙ at_end (length (steps_of e)) e

-- ---- two filters

-- The steps of one filter, a step that skips those of the other, and those are the steps of both.
pub both_steps : (left right : Option Expr) (steps others : List Step) → steps ≡ steps_of_text left
    → others ≡ steps_of_text right → is_none left ≡ false → is_none right ≡ false
    → (steps ++ step.SkipIfFalse (length others) ∷ []) ++ others ≡ steps_of_text (both_of left right)
both_steps None right steps others are others_are some others_some = let never : ⊥ = cc in absurd never
both_steps (Some e) None steps others are others_are some others_some = let never : ⊥ = cc in absurd never
both_steps (Some e) (Some f) steps others are others_are some others_some =
    append_assoc steps (step.SkipIfFalse (length others) ∷ []) others
    ∙ ap (λ (list : List Step). list ++ step.SkipIfFalse (length others) ∷ others) are
    ∙ ap (λ (list : List Step). steps_of e ++ step.SkipIfFalse (length list) ∷ list) others_are
