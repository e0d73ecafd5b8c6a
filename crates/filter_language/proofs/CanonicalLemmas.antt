-- Lemmas about the canonical form of a filter, appended step by step.
use Rattle.std.proofs.Common.{◌≡◌, ℕ, zero, suc, ◌-◌, Bool, true, false, List, [], ◌∷◌, ◌++◌, length, take, drop, codes, Option, Some, None, refl, ap, sym, ◌∙◌, append_assoc, arith}
use Rattle.std.proofs.lemmas.List.{append-nil, take_all, take_at}
use Rattle.filter_language.specs.declared.step.Step.{Step}
use Rattle.filter_language.specs.declared.step.Step.TheVariants as step
use Rattle.filter_tokens.specs.declared.primitive.Primitive.{Primitive}
use Rattle.filter_tokens.specs.PrimitiveTexts.{primitive_text}
use Rattle.filter_language.specs.Printing.{canonical, canonical_text, nots_in, start_text, starts_text, right_text}
use Rattle.filter_language.specs.Trees.{Expr, test, negated, both, either, steps_of, steps_of_text}
use Rattle.filter_language.proofs.PrintingLemmas.{part_appended}

-- ---- the parentheses before the first primitive

pub nots_skipped : (steps : List Step) (skipped : ℕ) → nots_in steps skipped ≡ nots_in (drop skipped steps) 0
nots_skipped steps zero = refl
nots_skipped [] (suc skipped) = refl
nots_skipped (first ∷ steps) (suc skipped) = nots_skipped steps skipped

nots_passed : (steps rest : List Step) → nots_in (steps ++ rest) (length steps) ≡ nots_in rest 0
nots_passed [] rest = refl
nots_passed (first ∷ steps) rest = nots_passed steps rest

-- An operator is found, and its right operand is skipped.
pub operator_found : (left rest next : List Step) (skipped : ℕ) (before new total : List Bool)
    → nots_in left 0 ≡ false ∷ nots_in rest skipped → next ≡ drop skipped (take (length left - 1) rest)
    → length rest ≡ length left - 1 → new ≡ before ++ false ∷ [] → before ++ nots_in left 0 ≡ total
    → new ++ nots_in next 0 ≡ total
operator_found left rest next skipped before new total left_is next_is len_is new_is total_is =
    let next_nots : nots_in next 0 ≡ nots_in rest skipped =
    ap (λ (steps : List Step). nots_in steps 0)
    (next_is ∙ ap (λ (steps : List Step). drop skipped steps) (take_all (length left - 1) rest (omega (arith, len_is))))
    ∙ sym (nots_skipped rest skipped) in
    ap (λ (list : List Bool). list ++ nots_in next 0) new_is ∙ append_assoc before (false ∷ []) (nots_in next 0)
    ∙ ap (λ (list : List Bool). before ++ false ∷ list) next_nots
    ∙ ap (λ (list : List Bool). before ++ list) (sym left_is) ∙ total_is

-- For each `not`, `and` and `or` of an expression that is in no right operand, whether it is `not`.
abbrev nots : Expr → List Bool
nots (test p) = []
nots (negated e) = nots e ++ true ∷ []
nots (both e f) = nots e ++ false ∷ []
nots (either e f) = nots e ++ false ∷ []

nots_of : (e : Expr) (rest : List Step) → nots_in (steps_of e ++ rest) 0 ≡ nots e ++ nots_in rest 0
nots_of (test p) rest = refl
nots_of (negated e) rest =
    ap (λ (steps : List Step). nots_in steps 0) (append_assoc (steps_of e) (step.Negate ∷ []) rest)
    ∙ nots_of e (step.Negate ∷ rest) ∙ sym (append_assoc (nots e) (true ∷ []) (nots_in rest 0))
nots_of (both e f) rest =
    ap (λ (steps : List Step). nots_in steps 0)
    (append_assoc (steps_of e) (step.SkipIfFalse (length (steps_of f)) ∷ steps_of f) rest)
    ∙ nots_of e (step.SkipIfFalse (length (steps_of f)) ∷ (steps_of f ++ rest))
    ∙ ap (λ (list : List Bool). nots e ++ false ∷ list) (nots_passed (steps_of f) rest)
    ∙ sym (append_assoc (nots e) (false ∷ []) (nots_in rest 0))
nots_of (either e f) rest =
    ap (λ (steps : List Step). nots_in steps 0)
    (append_assoc (steps_of e) (step.SkipIfTrue (length (steps_of f)) ∷ steps_of f) rest)
    ∙ nots_of e (step.SkipIfTrue (length (steps_of f)) ∷ (steps_of f ++ rest))
    ∙ ap (λ (list : List Bool). nots e ++ false ∷ list) (nots_passed (steps_of f) rest)
    ∙ sym (append_assoc (nots e) (false ∷ []) (nots_in rest 0))

-- The last of several is the first in the text.
pub starts_last : (before : List Bool) (is_not : Bool)
    → starts_text (before ++ is_not ∷ []) ≡ start_text is_not ++ starts_text before
starts_last [] is_not = sym (append-nil (start_text is_not))
starts_last (first ∷ before) is_not =
    ap (λ (text : List ℕ). text ++ start_text first) (starts_last before is_not)
    ∙ append_assoc (start_text is_not) (starts_text before) (start_text first)

-- ---- the text from the first primitive on

-- The canonical form of an expression from its first primitive on.
abbrev body : Expr → List ℕ
body (test p) = primitive_text p
body (negated e) = body e ++ codes ")"
body (both e f) = body e ++ right_text (codes " and ") (Some f)
body (either e f) = body e ++ right_text (codes " or ") (Some f)

-- An expression that ends with `not`, or with an operator and its right operand.
ended : (before : List Bool) (is_not : Bool) (complete start end : List ℕ) → complete ≡ starts_text before ++ start
    → start_text is_not ++ (complete ++ end) ≡ starts_text (before ++ is_not ∷ []) ++ (start ++ end)
ended before is_not complete start end is =
    ap (λ (text : List ℕ). start_text is_not ++ (text ++ end)) is
    ∙ ap (λ (text : List ℕ). start_text is_not ++ text) (append_assoc (starts_text before) start end)
    ∙ sym (append_assoc (start_text is_not) (starts_text before) (start ++ end))
    ∙ ap (λ (text : List ℕ). text ++ (start ++ end)) (sym (starts_last before is_not))

-- An operator and its right operand, after the left one.
operand_joined : (left word right end : List ℕ) → ((left ++ word) ++ right) ++ end ≡ left ++ ((word ++ right) ++ end)
operand_joined left word right end =
    ap (λ (text : List ℕ). text ++ end) (append_assoc left word right) ∙ append_assoc left (word ++ right) end

-- The canonical form of an expression is the parentheses before its first primitive and the text from there on.
form_is : (e : Expr) → canonical_text e ≡ starts_text (nots e) ++ body e
form_is (test p) = refl
form_is (negated e) = ended (nots e) true (canonical_text e) (body e) (codes ")") (form_is e)
form_is (both e f) =
    ap (λ (text : List ℕ). codes "(" ++ text)
    (operand_joined (canonical_text e) (codes " and ") (canonical_text f) (codes ")"))
    ∙ ended (nots e) false (canonical_text e) (body e) (right_text (codes " and ") (Some f)) (form_is e)
form_is (either e f) =
    ap (λ (text : List ℕ). codes "(" ++ text)
    (operand_joined (canonical_text e) (codes " or ") (canonical_text f) (codes ")"))
    ∙ ended (nots e) false (canonical_text e) (body e) (right_text (codes " or ") (Some f)) (form_is e)

-- Whether a text is the text of steps without the first `skipped`.
abbrev pub IsForm : List Step → (skipped : ℕ) → List ℕ → Type 0
IsForm [] skipped text = text ≡ []
IsForm (first ∷ steps) (suc skipped) text = IsForm steps skipped text
IsForm (step.Test p ∷ steps) zero text =
    (later : List ℕ) × IsForm steps zero later × (text ≡ primitive_text p ++ later)
IsForm (step.Negate ∷ steps) zero text = (later : List ℕ) × IsForm steps zero later × (text ≡ codes ")" ++ later)
IsForm (step.SkipIfFalse skipped ∷ steps) zero text =
    (later : List ℕ) × IsForm steps skipped later
    × ((right : Option Expr) × (take skipped steps ≡ steps_of_text right)
    × (text ≡ right_text (codes " and ") right ++ later))
IsForm (step.SkipIfTrue skipped ∷ steps) zero text =
    (later : List ℕ) × IsForm steps skipped later
    × ((right : Option Expr) × (take skipped steps ≡ steps_of_text right)
    × (text ≡ right_text (codes " or ") right ++ later))

IsForm-skipped : (steps : List Step) (skipped : ℕ) (text : List ℕ) → IsForm steps skipped text
    → IsForm (drop skipped steps) 0 text
IsForm-skipped steps zero text is = is
IsForm-skipped [] (suc skipped) text is = is
IsForm-skipped (first ∷ steps) (suc skipped) text is = IsForm-skipped steps skipped text is

IsForm-passed : (steps rest : List Step) (text : List ℕ) → IsForm rest 0 text
    → IsForm (steps ++ rest) (length steps) text
IsForm-passed [] rest text is = is
IsForm-passed (first ∷ steps) rest text is = IsForm-passed steps rest text is

IsForm-same : (steps same : List Step) (text same_text : List ℕ) → steps ≡ same → text ≡ same_text
    → IsForm same 0 same_text → IsForm steps 0 text
IsForm-same steps same text same_text is is_text form = rw (is, is_text) form

form_of : (e : Expr) (rest : List Step) (later : List ℕ) → IsForm rest 0 later
    → IsForm (steps_of e ++ rest) 0 (body e ++ later)
form_of (test p) rest later is = (later, is, refl)
form_of (negated e) rest later is =
    IsForm-same _ _ _ _ (append_assoc (steps_of e) (step.Negate ∷ []) rest) (append_assoc (body e) (codes ")") later)
    (form_of e (step.Negate ∷ rest) (codes ")" ++ later) (later, is, refl))
form_of (both e f) rest later is =
    let right = right_text (codes " and ") (Some f) in
    IsForm-same _ _ _ _ (append_assoc (steps_of e) (step.SkipIfFalse (length (steps_of f)) ∷ steps_of f) rest)
    (append_assoc (body e) right later)
    (form_of e (step.SkipIfFalse (length (steps_of f)) ∷ (steps_of f ++ rest)) (right ++ later)
    (later, IsForm-passed (steps_of f) rest later is, (Some f, take_at (steps_of f) rest _ refl, refl)))
form_of (either e f) rest later is =
    let right = right_text (codes " or ") (Some f) in
    IsForm-same _ _ _ _ (append_assoc (steps_of e) (step.SkipIfTrue (length (steps_of f)) ∷ steps_of f) rest)
    (append_assoc (body e) right later)
    (form_of e (step.SkipIfTrue (length (steps_of f)) ∷ (steps_of f ++ rest)) (right ++ later)
    (later, IsForm-passed (steps_of f) rest later is, (Some f, take_at (steps_of f) rest _ refl, refl)))

-- ---- the steps of the loop

-- After the parentheses, the text of all steps is still to be appended.
pub starts_appended : (tree : Option Expr) (steps : List Step) (old new : List ℕ) → steps ≡ steps_of_text tree
    → new ≡ old ++ starts_text (nots_in steps 0)
    → (text : List ℕ) × IsForm steps 0 text × (new ++ text ≡ old ++ canonical tree)
starts_appended None steps old new is new_is =
    ([], rw is refl, append-nil new ∙ new_is ∙ ap (λ (list : List Step). old ++ starts_text (nots_in list 0)) is)
starts_appended (Some e) steps old new is new_is =
    let complete : steps ≡ steps_of e ++ [] = is ∙ sym (append-nil (steps_of e)) in
    let starts : nots_in steps 0 ≡ nots e =
    ap (λ (list : List Step). nots_in list 0) complete ∙ nots_of e [] ∙ append-nil (nots e) in (
      body e,
      IsForm-same _ _ _ _ complete (sym (append-nil (body e))) (form_of e [] [] refl),
      ap (λ (list : List ℕ). list ++ body e) new_is
          ∙ ap (λ (list : List Bool). (old ++ starts_text list) ++ body e) starts
          ∙ append_assoc old (starts_text (nots e)) (body e) ∙ ap (λ (list : List ℕ). old ++ list) (sym (form_is e)),
    )

-- A right operand is appended, after its operator.
right_appended : (right : Option Expr) (first : List Step) (word out new later text total : List ℕ)
    → ((tree : Option Expr) → first ≡ steps_of_text tree → new ≡ out ++ right_text word tree)
    → first ≡ steps_of_text right → text ≡ right_text word right ++ later → out ++ text ≡ total → new ++ later ≡ total
right_appended right first word out new later text total new_is first_is text_is total_is =
    ap (λ (list : List ℕ). list ++ later) (new_is right first_is) ∙ append_assoc out (right_text word right) later
    ∙ ap (λ (list : List ℕ). out ++ list) (sym text_is) ∙ total_is

IsForm-at : (left same : List Step) (text : List ℕ) → left ≡ same → IsForm left 0 text → IsForm same 0 text
IsForm-at left same text is form = rw (← is) form

-- A test is appended.
pub test_appended : (left rest next : List Step) (p : Primitive) (out new total : List ℕ)
    → left ≡ step.Test p ∷ rest → next ≡ rest → new ≡ out ++ primitive_text p
    → ((text : List ℕ) × IsForm left 0 text × (out ++ text ≡ total))
    → (text : List ℕ) × IsForm next 0 text × (new ++ text ≡ total)
test_appended left rest next p out new total left_is next_is new_is known =
    let form : IsForm (step.Test p ∷ rest) 0 known.0 = IsForm-at left _ known.0 left_is known.1 in (
      form.0,
      IsForm-at rest next form.0 (sym next_is) form.1,
      part_appended (primitive_text p) out new form.0 known.0 total new_is form.2 known.2,
    )

-- The parenthesis after `not` and its operand is appended.
pub negate_appended : (left rest next : List Step) (out new total : List ℕ)
    → left ≡ step.Negate ∷ rest → next ≡ rest → new ≡ out ++ codes ")"
    → ((text : List ℕ) × IsForm left 0 text × (out ++ text ≡ total))
    → (text : List ℕ) × IsForm next 0 text × (new ++ text ≡ total)
negate_appended left rest next out new total left_is next_is new_is known =
    let form : IsForm (step.Negate ∷ rest) 0 known.0 = IsForm-at left _ known.0 left_is known.1 in (
      form.0,
      IsForm-at rest next form.0 (sym next_is) form.1,
      part_appended (codes ")") out new form.0 known.0 total new_is form.2 known.2,
    )

pub and_appended : (left rest first next : List Step) (skipped : ℕ) (out new total : List ℕ)
    → left ≡ step.SkipIfFalse skipped ∷ rest → first ≡ take skipped rest → next ≡ drop skipped rest
    → ((tree : Option Expr) → first ≡ steps_of_text tree → new ≡ out ++ right_text (codes " and ") tree)
    → ((text : List ℕ) × IsForm left 0 text × (out ++ text ≡ total))
    → (text : List ℕ) × IsForm next 0 text × (new ++ text ≡ total)
and_appended left rest first next skipped out new total left_is first_is next_is new_is known =
    let form : IsForm (step.SkipIfFalse skipped ∷ rest) 0 known.0 = IsForm-at left _ known.0 left_is known.1 in (
      form.0,
      IsForm-at (drop skipped rest) next form.0 (sym next_is) (IsForm-skipped rest skipped form.0 form.1),
      right_appended form.2.0 first (codes " and ") out new form.0 known.0 total new_is (first_is ∙ form.2.1) form.2.2
          known.2,
    )

pub or_appended : (left rest first next : List Step) (skipped : ℕ) (out new total : List ℕ)
    → left ≡ step.SkipIfTrue skipped ∷ rest → first ≡ take skipped rest → next ≡ drop skipped rest
    → ((tree : Option Expr) → first ≡ steps_of_text tree → new ≡ out ++ right_text (codes " or ") tree)
    → ((text : List ℕ) × IsForm left 0 text × (out ++ text ≡ total))
    → (text : List ℕ) × IsForm next 0 text × (new ++ text ≡ total)
or_appended left rest first next skipped out new total left_is first_is next_is new_is known =
    let form : IsForm (step.SkipIfTrue skipped ∷ rest) 0 known.0 = IsForm-at left _ known.0 left_is known.1 in (
      form.0,
      IsForm-at (drop skipped rest) next form.0 (sym next_is) (IsForm-skipped rest skipped form.0 form.1),
      right_appended form.2.0 first (codes " or ") out new form.0 known.0 total new_is (first_is ∙ form.2.1) form.2.2
          known.2,
    )
