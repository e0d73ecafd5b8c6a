-- Filters as text: each primitive with its qualifiers, with no redundant parentheses or with all (the canonical form).
use Rattle.std.specs.Prelude.{ℕ, zero, suc, ◌≡◌, Bool, true, false, List, [], ◌∷◌, ◌++◌, codes, take, Option, Some, None}
use Rattle.std.specs.Fmt.{decimal}
use Rattle.filter_tokens.specs.PrimitiveTexts.{primitive_text}
use Rattle.filter_language.specs.declared.step.Step.{Step}
use Rattle.filter_language.specs.declared.step.Step.TheVariants as step
use Rattle.filter_language.specs.Trees.{Expr, test, negated, both, either, steps_of}

-- A text, in parentheses if it is that of `and` or `or`.
abbrev pub grouped : Expr → List ℕ → List ℕ
grouped (test p) text = text
grouped (negated e) text = text
grouped (both e f) text = codes "(" ++ text ++ codes ")"
grouped (either e f) text = codes "(" ++ text ++ codes ")"

abbrev pub expression_text : Expr → List ℕ
expression_text (test p) = primitive_text p
expression_text (negated e) = codes "not " ++ grouped e (expression_text e)
expression_text (both e f) = expression_text e ++ codes " and " ++ grouped f (expression_text f)
expression_text (either e f) = expression_text e ++ codes " or " ++ grouped f (expression_text f)

-- A filter; the empty one has no text.
abbrev pub printed : Option Expr → List ℕ
printed None = []
printed (Some e) = expression_text e

-- The canonical form of an expression: each primitive with its qualifiers, and each `not`, `and` and `or` in
-- parentheses.
abbrev pub canonical_text : Expr → List ℕ
canonical_text (test p) = primitive_text p
canonical_text (negated e) = codes "(not " ++ canonical_text e ++ codes ")"
canonical_text (both e f) = codes "(" ++ canonical_text e ++ codes " and " ++ canonical_text f ++ codes ")"
canonical_text (either e f) = codes "(" ++ canonical_text e ++ codes " or " ++ canonical_text f ++ codes ")"

-- The canonical form of a filter; the empty one has no text.
abbrev pub canonical : Option Expr → List ℕ
canonical None = []
canonical (Some e) = canonical_text e

-- The text of a step that skips steps if the value is this word.
abbrev pub skip_text : ℕ → List ℕ → List ℕ
skip_text skipped value = codes "skip " ++ decimal skipped ++ codes " if " ++ value

-- The text of a step of a filter: what it tests, or how many steps it skips.
abbrev pub step_text : Step → List ℕ
step_text (step.Test p) = codes "test " ++ primitive_text p
step_text step.Negate = codes "negate"
step_text (step.SkipIfFalse skipped) = skip_text skipped (codes "false")
step_text (step.SkipIfTrue skipped) = skip_text skipped (codes "true")

-- ---- how the text of an expression is appended: first the text before its first primitive

-- Whether an expression is `and` or `or` of two others.
abbrev pub ends_with_operator : Expr → Bool
ends_with_operator (test p) = false
ends_with_operator (negated e) = false
ends_with_operator (both e f) = true
ends_with_operator (either e f) = true

-- The parentheses of an operand, if it ends with an operator.
abbrev pub opening : Bool → List ℕ
opening true = codes "("
opening false = []

abbrev pub closing : Bool → List ℕ
closing true = codes ")"
closing false = []

-- The start of the text of an expression, before its first primitive: each `not` whose operand begins there, and the
-- parenthesis of the operand.
abbrev pub openings : Expr → List ℕ
openings (test p) = []
openings (negated e) = codes "not " ++ (opening (ends_with_operator e) ++ openings e)
openings (both e f) = openings e
openings (either e f) = openings e

-- Whether a text before the first primitive is that of a `not` whose operand has the first `len` steps, and the text of
-- the operand; it is empty without `not`.
abbrev pub IsOpened : List ℕ → List Step → (len : Option ℕ) → Type 0
IsOpened text steps None = text ≡ []
IsOpened text steps (Some len) =
    (operand : Expr) × (take len steps ≡ steps_of operand)
    × (text ≡ codes "not " ++ (opening (ends_with_operator operand) ++ openings operand))

-- ---- how the canonical form is appended: first the parentheses before its first primitive

-- For each `not`, `and` and `or` of steps that is in no right operand, whether it is `not`, in order. The first
-- `skipped` steps are left out.
abbrev pub nots_in : List Step → (skipped : ℕ) → List Bool
nots_in [] skipped = []
nots_in (first ∷ steps) (suc skipped) = nots_in steps skipped
nots_in (step.Test p ∷ steps) zero = nots_in steps zero
nots_in (step.Negate ∷ steps) zero = true ∷ nots_in steps zero
nots_in (step.SkipIfFalse skipped ∷ steps) zero = false ∷ nots_in steps skipped
nots_in (step.SkipIfTrue skipped ∷ steps) zero = false ∷ nots_in steps skipped

-- The parenthesis before an expression that ends with `not`, or with `and` or `or`.
abbrev pub start_text : (is_not : Bool) → List ℕ
start_text true = codes "(not "
start_text false = codes "("

-- The parentheses before the first primitive: that of the last `not`, `and` or `or` first.
abbrev pub starts_text : List Bool → List ℕ
starts_text [] = []
starts_text (is_not ∷ nots) = starts_text nots ++ start_text is_not

-- `and` or `or`, its right operand, and the parenthesis that ends its expression.
abbrev pub right_text : (operator : List ℕ) → Option Expr → List ℕ
right_text operator right = operator ++ canonical right ++ codes ")"
