-- Lemmas about the text of an expression, appended step by step.
use Rattle.std.proofs.Common.{◌≡◌, ℕ, zero, suc, ◌≤◌, ◌<◌, ◌-◌, Bool, true, false, List, [], ◌∷◌, ◌++◌, length, take, drop, codes, Option, Some, None, refl, ap, sym, ◌∙◌, append_assoc, arith, Result, Ok, Err}
use Rattle.std.specs.Prelude.{OnOk}
use Rattle.std.proofs.lemmas.List.{append-nil, length-append, take_at}
use Rattle.filter_tokens.specs.declared.primitive.Primitive.{Primitive}
use Rattle.filter_tokens.specs.PrimitiveTexts.{primitive_text}
use Rattle.filter_language.specs.declared.step.Step.{Step}
use Rattle.filter_language.specs.declared.step.Step.TheVariants as step
use Rattle.filter_language.specs.Printing.{grouped, expression_text, ends_with_operator, opening, closing, openings, IsOpened, printed}
use Rattle.filter_language.specs.Trees.{Expr, test, negated, both, either, steps_of, steps_of_text}

-- ---- the steps of an expression

-- An expression has a step.
pub steps_of-some : (e : Expr) → 1 ≤ length (steps_of e)
steps_of-some (test p) = omega arith
steps_of-some (negated e) = omega (arith, length-append (steps_of e) (step.Negate ∷ []))
steps_of-some (both e f) =
    omega (arith, length-append (steps_of e) (step.SkipIfFalse (length (steps_of f)) ∷ steps_of f))
steps_of-some (either e f) =
    omega (arith, length-append (steps_of e) (step.SkipIfTrue (length (steps_of f)) ∷ steps_of f))

-- ---- whether an expression ends with an operator

-- Whether the last of these steps is an operator, if the first `skipped` are skipped.
abbrev pub ends_after : List Step → (skipped : ℕ) → (ended : Bool) → Bool
ends_after [] skipped ended = ended
ends_after (first ∷ steps) (suc skipped) ended = ends_after steps skipped ended
ends_after (step.Test primitive ∷ steps) zero ended = ends_after steps zero false
ends_after (step.Negate ∷ steps) zero ended = ends_after steps zero false
ends_after (step.SkipIfFalse skipped ∷ steps) zero ended = ends_after steps skipped true
ends_after (step.SkipIfTrue skipped ∷ steps) zero ended = ends_after steps skipped true

pub ends_skipped : (steps : List Step) (skipped : ℕ) (ended : Bool)
    → ends_after steps skipped ended ≡ ends_after (drop skipped steps) 0 ended
ends_skipped steps zero ended = refl
ends_skipped [] (suc skipped) ended = refl
ends_skipped (first ∷ steps) (suc skipped) ended = ends_skipped steps skipped ended

ends_passed : (steps rest : List Step) (ended : Bool)
    → ends_after (steps ++ rest) (length steps) ended ≡ ends_after rest 0 ended
ends_passed [] rest ended = refl
ends_passed (first ∷ steps) rest ended = ends_passed steps rest ended

ends_of : (e : Expr) (rest : List Step) (ended : Bool)
    → ends_after (steps_of e ++ rest) 0 ended ≡ ends_after rest 0 (ends_with_operator e)
ends_of (test primitive) rest ended = refl
ends_of (negated e) rest ended =
    ap (λ (steps : List Step). ends_after steps 0 ended) (append_assoc (steps_of e) (step.Negate ∷ []) rest)
    ∙ ends_of e (step.Negate ∷ rest) ended
ends_of (both e f) rest ended =
    ap (λ (steps : List Step). ends_after steps 0 ended)
    (append_assoc (steps_of e) (step.SkipIfFalse (length (steps_of f)) ∷ steps_of f) rest)
    ∙ ends_of e (step.SkipIfFalse (length (steps_of f)) ∷ (steps_of f ++ rest)) ended
    ∙ ends_passed (steps_of f) rest true
ends_of (either e f) rest ended =
    ap (λ (steps : List Step). ends_after steps 0 ended)
    (append_assoc (steps_of e) (step.SkipIfTrue (length (steps_of f)) ∷ steps_of f) rest)
    ∙ ends_of e (step.SkipIfTrue (length (steps_of f)) ∷ (steps_of f ++ rest)) ended
    ∙ ends_passed (steps_of f) rest true

-- Without steps left, the expression before them decides.
pub ends_at_end : (left : List Step) (ended : Bool) → length left < 1 → ends_after left 0 ended ≡ ended
ends_at_end [] ended none = refl
ends_at_end (first ∷ steps) ended none = absurd (omega (arith, none))

-- Whether the steps of an expression end with an operator.
pub ends : (e : Expr) (ended : Bool) → ends_after (steps_of e) 0 ended ≡ ends_with_operator e
ends e ended =
    ap (λ (steps : List Step). ends_after steps 0 ended) (sym (append-nil (steps_of e))) ∙ ends_of e [] ended

-- ---- the `not` whose operand begins with the first step

-- The number of steps from the last `not` on that is not skipped.
abbrev pub last_after : List Step → (skipped : ℕ) → (last : Option ℕ) → Option ℕ
last_after [] skipped last = last
last_after (first ∷ steps) (suc skipped) last = last_after steps skipped last
last_after (step.Test primitive ∷ steps) zero last = last_after steps zero last
last_after (step.Negate ∷ steps) zero last = last_after steps zero (Some (suc (length steps)))
last_after (step.SkipIfFalse skipped ∷ steps) zero last = last_after steps skipped last
last_after (step.SkipIfTrue skipped ∷ steps) zero last = last_after steps skipped last

pub last_skipped : (steps : List Step) (skipped : ℕ) (last : Option ℕ)
    → last_after steps skipped last ≡ last_after (drop skipped steps) 0 last
last_skipped steps zero last = refl
last_skipped [] (suc skipped) last = refl
last_skipped (first ∷ steps) (suc skipped) last = last_skipped steps skipped last

last_passed : (steps rest : List Step) (last : Option ℕ)
    → last_after (steps ++ rest) (length steps) last ≡ last_after rest 0 last
last_passed [] rest last = refl
last_passed (first ∷ steps) rest last = last_passed steps rest last

-- The number of steps from the last `not` of an expression on, with those of `rest`.
abbrev found : Expr → (rest : List Step) → (last : Option ℕ) → Option ℕ
found (test primitive) rest last = last
found (negated e) rest last = Some (suc (length rest))
found (both e f) rest last = found e (step.SkipIfFalse (length (steps_of f)) ∷ (steps_of f ++ rest)) last
found (either e f) rest last = found e (step.SkipIfTrue (length (steps_of f)) ∷ (steps_of f ++ rest)) last

last_of : (e : Expr) (rest : List Step) (last : Option ℕ)
    → last_after (steps_of e ++ rest) 0 last ≡ last_after rest 0 (found e rest last)
last_of (test primitive) rest last = refl
last_of (negated e) rest last =
    ap (λ (steps : List Step). last_after steps 0 last) (append_assoc (steps_of e) (step.Negate ∷ []) rest)
    ∙ last_of e (step.Negate ∷ rest) last
last_of (both e f) rest last =
    ap (λ (steps : List Step). last_after steps 0 last)
    (append_assoc (steps_of e) (step.SkipIfFalse (length (steps_of f)) ∷ steps_of f) rest)
    ∙ last_of e (step.SkipIfFalse (length (steps_of f)) ∷ (steps_of f ++ rest)) last
    ∙ last_passed (steps_of f) rest (found e (step.SkipIfFalse (length (steps_of f)) ∷ (steps_of f ++ rest)) last)
last_of (either e f) rest last =
    ap (λ (steps : List Step). last_after steps 0 last)
    (append_assoc (steps_of e) (step.SkipIfTrue (length (steps_of f)) ∷ steps_of f) rest)
    ∙ last_of e (step.SkipIfTrue (length (steps_of f)) ∷ (steps_of f ++ rest)) last
    ∙ last_passed (steps_of f) rest (found e (step.SkipIfTrue (length (steps_of f)) ∷ (steps_of f ++ rest)) last)

-- Without steps left, the last `not` was found.
pub last_at_end : (left : List Step) (last : Option ℕ) → length left < 1 → last_after left 0 last ≡ last
last_at_end [] last none = refl
last_at_end (first ∷ steps) last none = absurd (omega (arith, none))

-- The number of steps before a `not`, by the number of those from it on.
abbrev pub before_last : (complete : List Step) → (last : Option ℕ) → Option ℕ
before_last complete None = None
before_last complete (Some len) = Some (length complete - len)

IsOpened-same : (text : List ℕ) (complete same : List Step) (last : Option ℕ) → complete ≡ same
    → IsOpened text same (before_last same last) → IsOpened text complete (before_last complete last)
IsOpened-same text complete same last is opened = rw is opened

opened_in : (e : Expr) (rest : List Step)
    → IsOpened (openings e) (steps_of e ++ rest) (before_last (steps_of e ++ rest) (found e rest None))
opened_in (test primitive) rest = refl
opened_in (negated e) rest =
    let assoc : (steps_of e ++ step.Negate ∷ []) ++ rest ≡ steps_of e ++ (step.Negate ∷ rest) =
    append_assoc (steps_of e) (step.Negate ∷ []) rest in
    let place : length (steps_of e) ≡ length (steps_of e ++ (step.Negate ∷ rest)) - suc (length rest) =
    omega (arith, length-append (steps_of e) (step.Negate ∷ rest)) in
    IsOpened-same (openings (negated e)) _ _ (Some (suc (length rest))) assoc
    (e, take_at (steps_of e) (step.Negate ∷ rest) _ place, refl)
opened_in (both e f) rest =
    IsOpened-same (openings e) _ _ (found e (step.SkipIfFalse (length (steps_of f)) ∷ (steps_of f ++ rest)) None)
    (append_assoc (steps_of e) (step.SkipIfFalse (length (steps_of f)) ∷ steps_of f) rest)
    (opened_in e (step.SkipIfFalse (length (steps_of f)) ∷ (steps_of f ++ rest)))
opened_in (either e f) rest =
    IsOpened-same (openings e) _ _ (found e (step.SkipIfTrue (length (steps_of f)) ∷ (steps_of f ++ rest)) None)
    (append_assoc (steps_of e) (step.SkipIfTrue (length (steps_of f)) ∷ steps_of f) rest)
    (opened_in e (step.SkipIfTrue (length (steps_of f)) ∷ (steps_of f ++ rest)))

-- The place of the last `not` of the steps of an expression.
pub opened : (e : Expr) (steps : List Step) (last : Option ℕ) → steps ≡ steps_of e → last ≡ last_after steps 0 None
    → IsOpened (openings e) steps (before_last steps last)
opened e steps last is found_last =
    let complete : steps ≡ steps_of e ++ [] = is ∙ sym (append-nil (steps_of e)) in
    let same : last ≡ found e [] None =
    found_last ∙ ap (λ (list : List Step). last_after list 0 None) complete ∙ last_of e [] None in
    rw (complete, same) (opened_in e [])

-- ---- the text after the openings

-- The text of an expression from its first primitive on.
abbrev pub body : Expr → List ℕ
body (test p) = primitive_text p
body (negated e) = body e ++ closing (ends_with_operator e)
body (both e f) = body e ++ (codes " and " ++ grouped f (expression_text f))
body (either e f) = body e ++ (codes " or " ++ grouped f (expression_text f))

pub grouped_is : (e : Expr) (text : List ℕ)
    → grouped e text ≡ opening (ends_with_operator e) ++ (text ++ closing (ends_with_operator e))
grouped_is (test p) text = sym (append-nil text)
grouped_is (negated e) text = sym (append-nil text)
grouped_is (both e f) text = refl
grouped_is (either e f) text = refl

-- Lists that are joined in another order.
regrouped : (before a b c d : List ℕ) → before ++ (a ++ ((b ++ c) ++ d)) ≡ (before ++ (a ++ b)) ++ (c ++ d)
regrouped before a b c d =
    ap (λ (list : List ℕ). before ++ (a ++ list)) (append_assoc b c d)
    ∙ ap (λ (list : List ℕ). before ++ list) (sym (append_assoc a b (c ++ d)))
    ∙ sym (append_assoc before (a ++ b) (c ++ d))

-- The text of an expression is its openings and its body.
pub text_is : (e : Expr) → expression_text e ≡ openings e ++ body e
text_is (test p) = refl
text_is (negated e) =
    let group = ends_with_operator e in
    ap (λ (list : List ℕ). codes "not " ++ list) (grouped_is e (expression_text e))
    ∙ ap (λ (list : List ℕ). codes "not " ++ (opening group ++ (list ++ closing group))) (text_is e)
    ∙ regrouped (codes "not ") (opening group) (openings e) (body e) (closing group)
text_is (both e f) =
    append_assoc (expression_text e) (codes " and ") (grouped f (expression_text f))
    ∙ ap (λ (list : List ℕ). list ++ (codes " and " ++ grouped f (expression_text f))) (text_is e)
    ∙ append_assoc (openings e) (body e) (codes " and " ++ grouped f (expression_text f))
text_is (either e f) =
    append_assoc (expression_text e) (codes " or ") (grouped f (expression_text f))
    ∙ ap (λ (list : List ℕ). list ++ (codes " or " ++ grouped f (expression_text f))) (text_is e)
    ∙ append_assoc (openings e) (body e) (codes " or " ++ grouped f (expression_text f))

-- Whether a text is that of steps without the first `skipped`. `ended` says whether the expression before
-- them ends with an operator.
abbrev pub IsBody : List Step → (skipped : ℕ) → (ended : Bool) → List ℕ → Type 0
IsBody [] skipped ended text = text ≡ []
IsBody (first ∷ steps) (suc skipped) ended text = IsBody steps skipped ended text
IsBody (step.Test primitive ∷ steps) zero ended text =
    (later : List ℕ) × IsBody steps zero false later × (text ≡ primitive_text primitive ++ later)
IsBody (step.Negate ∷ steps) zero ended text =
    (later : List ℕ) × IsBody steps zero false later × (text ≡ closing ended ++ later)
IsBody (step.SkipIfFalse skipped ∷ steps) zero ended text =
    (later : List ℕ) × IsBody steps skipped true later
    × ((right : Expr) × (take skipped steps ≡ steps_of right)
    × (text ≡ codes " and " ++ (grouped right (expression_text right) ++ later)))
IsBody (step.SkipIfTrue skipped ∷ steps) zero ended text =
    (later : List ℕ) × IsBody steps skipped true later
    × ((right : Expr) × (take skipped steps ≡ steps_of right)
    × (text ≡ codes " or " ++ (grouped right (expression_text right) ++ later)))

pub IsBody-skipped : (steps : List Step) (skipped : ℕ) (ended : Bool) (text : List ℕ)
    → IsBody steps skipped ended text → IsBody (drop skipped steps) 0 ended text
IsBody-skipped steps zero ended text is = is
IsBody-skipped [] (suc skipped) ended text is = is
IsBody-skipped (first ∷ steps) (suc skipped) ended text is = IsBody-skipped steps skipped ended text is

IsBody-passed : (steps rest : List Step) (ended : Bool) (text : List ℕ)
    → IsBody rest 0 ended text → IsBody (steps ++ rest) (length steps) ended text
IsBody-passed [] rest ended text is = is
IsBody-passed (first ∷ steps) rest ended text is = IsBody-passed steps rest ended text is

IsBody-same : (steps same : List Step) (ended : Bool) (text same_text : List ℕ) → steps ≡ same → text ≡ same_text
    → IsBody same 0 ended same_text → IsBody steps 0 ended text
IsBody-same steps same ended text same_text is is_text body = rw (is, is_text) body

body_of : (e : Expr) (rest : List Step) (ended : Bool) (later : List ℕ)
    → IsBody rest 0 (ends_with_operator e) later → IsBody (steps_of e ++ rest) 0 ended (body e ++ later)
body_of (test p) rest ended later is = (later, is, refl)
body_of (negated e) rest ended later is =
    IsBody-same _ _ ended _ _ (append_assoc (steps_of e) (step.Negate ∷ []) rest)
    (append_assoc (body e) (closing (ends_with_operator e)) later)
    (body_of e (step.Negate ∷ rest) ended (closing (ends_with_operator e) ++ later) (later, is, refl))
body_of (both e f) rest ended later is =
    let right = grouped f (expression_text f) in
    IsBody-same _ _ ended _ _ (append_assoc (steps_of e) (step.SkipIfFalse (length (steps_of f)) ∷ steps_of f) rest)
    (append_assoc (body e) (codes " and " ++ right) later)
    (body_of e (step.SkipIfFalse (length (steps_of f)) ∷ (steps_of f ++ rest)) ended (codes " and " ++ (right ++ later))
    (later, IsBody-passed (steps_of f) rest true later is, (f, take_at (steps_of f) rest _ refl, refl)))
body_of (either e f) rest ended later is =
    let right = grouped f (expression_text f) in
    IsBody-same _ _ ended _ _ (append_assoc (steps_of e) (step.SkipIfTrue (length (steps_of f)) ∷ steps_of f) rest)
    (append_assoc (body e) (codes " or " ++ right) later)
    (body_of e (step.SkipIfTrue (length (steps_of f)) ∷ (steps_of f ++ rest)) ended (codes " or " ++ (right ++ later))
    (later, IsBody-passed (steps_of f) rest true later is, (f, take_at (steps_of f) rest _ refl, refl)))

-- The text of all steps of an expression.
pub body_is : (e : Expr) (steps : List Step) → steps ≡ steps_of e → IsBody steps 0 false (body e)
body_is e steps is =
    IsBody-same _ _ false _ _ (is ∙ sym (append-nil (steps_of e))) (sym (append-nil (body e))) (body_of e [] false [] refl)

-- ---- the steps of the loops

-- `not` is appended, and the parenthesis of its operand.
pub not_appended : (operand : Expr) (inner : List Step) (len : ℕ) (out middle new total : List ℕ) (ended : Bool)
    → IsOpened (openings operand) inner (Some len)
    → ((f : Expr) → take len inner ≡ steps_of f → ended ≡ ends_with_operator f)
    → middle ≡ out ++ codes "not " → new ≡ middle ++ opening ended → out ++ openings operand ≡ total
    → (f : Expr) × (take len inner ≡ steps_of f) × (new ++ openings f ≡ total)
not_appended operand inner len out middle new total ended is_opened ends_is middle_is new_is total_is =
    let f = is_opened.0 in
    let group = ends_with_operator f in (
      f,
      is_opened.1,
      ap (λ (list : List ℕ). list ++ openings f) new_is
          ∙ ap (λ (list : List ℕ). (list ++ opening ended) ++ openings f) middle_is
          ∙ ap (λ (flag : Bool). ((out ++ codes "not ") ++ opening flag) ++ openings f) (ends_is f is_opened.1)
          ∙ append_assoc (out ++ codes "not ") (opening group) (openings f)
          ∙ append_assoc out (codes "not ") (opening group ++ openings f)
          ∙ ap (λ (list : List ℕ). out ++ list) (sym is_opened.2) ∙ total_is,
    )

-- A right operand is appended, after its operator.
right_appended : (right : Expr) (first : List Step) (out middle new word later text total : List ℕ)
    → middle ≡ out ++ word → ((e : Expr) → first ≡ steps_of e → new ≡ middle ++ grouped e (expression_text e))
    → first ≡ steps_of right → text ≡ word ++ (grouped right (expression_text right) ++ later) → out ++ text ≡ total
    → new ++ later ≡ total
right_appended right first out middle new word later text total middle_is new_is first_is text_is total_is =
    let group = grouped right (expression_text right) in
    ap (λ (list : List ℕ). list ++ later) (new_is right first_is)
    ∙ ap (λ (list : List ℕ). (list ++ group) ++ later) middle_is ∙ append_assoc (out ++ word) group later
    ∙ append_assoc out word (group ++ later) ∙ ap (λ (list : List ℕ). out ++ list) (sym text_is) ∙ total_is

-- After a part of a text is appended, the later parts lead to the same total.
pub part_appended : (part out new later text total : List ℕ) → new ≡ out ++ part → text ≡ part ++ later
    → out ++ text ≡ total → new ++ later ≡ total
part_appended part out new later text total new_is text_is total_is =
    ap (λ (list : List ℕ). list ++ later) new_is ∙ append_assoc out part later
    ∙ ap (λ (list : List ℕ). out ++ list) (sym text_is) ∙ total_is

IsBody-at : (left same : List Step) (ended : Bool) (text : List ℕ) → left ≡ same → IsBody left 0 ended text
    → IsBody same 0 ended text
IsBody-at left same ended text is body = rw (← is) body

-- A test is appended.
pub test_appended : (left rest next : List Step) (p : Primitive) (ended : Bool) (out new total : List ℕ)
    → left ≡ step.Test p ∷ rest → next ≡ rest → new ≡ out ++ primitive_text p
    → ((text : List ℕ) × IsBody left 0 ended text × (out ++ text ≡ total))
    → (text : List ℕ) × IsBody next 0 false text × (new ++ text ≡ total)
test_appended left rest next p ended out new total left_is next_is new_is known =
    let body : IsBody (step.Test p ∷ rest) 0 ended known.0 = IsBody-at left _ ended known.0 left_is known.1 in (
      body.0,
      IsBody-at rest next false body.0 (sym next_is) body.1,
      part_appended (primitive_text p) out new body.0 known.0 total new_is body.2 known.2,
    )

-- The parenthesis after the operand of `not` is appended, if there is one.
pub negate_appended : (left rest next : List Step) (ended : Bool) (out new total : List ℕ)
    → left ≡ step.Negate ∷ rest → next ≡ rest → new ≡ out ++ closing ended
    → ((text : List ℕ) × IsBody left 0 ended text × (out ++ text ≡ total))
    → (text : List ℕ) × IsBody next 0 false text × (new ++ text ≡ total)
negate_appended left rest next ended out new total left_is next_is new_is known =
    let body : IsBody (step.Negate ∷ rest) 0 ended known.0 = IsBody-at left _ ended known.0 left_is known.1 in (
      body.0,
      IsBody-at rest next false body.0 (sym next_is) body.1,
      part_appended (closing ended) out new body.0 known.0 total new_is body.2 known.2,
    )

pub and_appended : (left rest first next : List Step) (skipped : ℕ) (ended : Bool) (out middle new total : List ℕ)
    → left ≡ step.SkipIfFalse skipped ∷ rest → first ≡ take skipped rest → next ≡ drop skipped rest
    → middle ≡ out ++ codes " and " → ((e : Expr) → first ≡ steps_of e → new ≡ middle ++ grouped e (expression_text e))
    → ((text : List ℕ) × IsBody left 0 ended text × (out ++ text ≡ total))
    → (text : List ℕ) × IsBody next 0 true text × (new ++ text ≡ total)
and_appended left rest first next skipped ended out middle new total left_is first_is next_is middle_is new_is known =
    let body : IsBody (step.SkipIfFalse skipped ∷ rest) 0 ended known.0 =
    IsBody-at left _ ended known.0 left_is known.1 in (
      body.0,
      IsBody-at (drop skipped rest) next true body.0 (sym next_is) (IsBody-skipped rest skipped true body.0 body.1),
      right_appended body.2.0 first out middle new (codes " and ") body.0 known.0 total middle_is new_is
          (first_is ∙ body.2.1) body.2.2 known.2,
    )

pub or_appended : (left rest first next : List Step) (skipped : ℕ) (ended : Bool) (out middle new total : List ℕ)
    → left ≡ step.SkipIfTrue skipped ∷ rest → first ≡ take skipped rest → next ≡ drop skipped rest
    → middle ≡ out ++ codes " or " → ((e : Expr) → first ≡ steps_of e → new ≡ middle ++ grouped e (expression_text e))
    → ((text : List ℕ) × IsBody left 0 ended text × (out ++ text ≡ total))
    → (text : List ℕ) × IsBody next 0 true text × (new ++ text ≡ total)
or_appended left rest first next skipped ended out middle new total left_is first_is next_is middle_is new_is known =
    let body : IsBody (step.SkipIfTrue skipped ∷ rest) 0 ended known.0 =
    IsBody-at left _ ended known.0 left_is known.1 in (
      body.0,
      IsBody-at (drop skipped rest) next true body.0 (sym next_is) (IsBody-skipped rest skipped true body.0 body.1),
      right_appended body.2.0 first out middle new (codes " or ") body.0 known.0 total middle_is new_is
          (first_is ∙ body.2.1) body.2.2 known.2,
    )

-- ---- filters

-- The text of a filter is that of its expression, and it is empty without one.
pub filter_appended : {T E : Type 0} (done : Result T E) (tree : Option Expr) (steps : List Step) (old new : List ℕ)
    → steps ≡ steps_of_text tree → ((e : Expr) → steps ≡ steps_of e → OnOk done (new ≡ old ++ expression_text e))
    → (steps ≡ [] → OnOk done (new ≡ old)) → OnOk done (new ≡ old ++ printed tree)
filter_appended done (Some e) steps old new is text empty = text e is
filter_appended (Ok value) None steps old new is text empty = empty is ∙ sym (append-nil old)
filter_appended (Err error) None steps old new is text empty = tt
