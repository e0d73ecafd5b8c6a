-- Lemmas about running the steps of a filter.
use Rattle.std.proofs.Common.{◌≡◌, ℕ, zero, suc, ◌≤◌, Bool, true, false, ◌&&◌, ◌||◌, List, [], ◌∷◌, ◌++◌, length, get_or, drop, Option, Some, None, refl, ap, sym, ◌∙◌, append_assoc, arith}
use Rattle.std.proofs.lemmas.List.{append-nil}
use Rattle.filter_language.specs.declared.step.Step.{Step}
use Rattle.filter_language.specs.declared.step.Step.TheVariants as step
use Rattle.packet_filter.specs.Meaning.{matches_expr, meaning}
use Rattle.packet_filter.specs.Packets.{Packet}
use Rattle.packet_filter.specs.Running.{value_after}
use Rattle.filter_language.specs.Trees.{Expr, test, negated, both, either, steps_of, steps_of_text, tree_of}
use Rattle.filter_language.proofs.TreeLemmas.{begin_with}

-- The later steps lead to the same value, if the value before them is that after the first step.
pub first_runs : (steps : List Step) (item first : Step) (kept value : Bool) (packet : Packet)
    → 1 ≤ length steps → item ≡ get_or steps 0 item → item ≡ first
    → ((later : List Step) → value_after later 0 value packet ≡ value_after (first ∷ later) 0 kept packet)
    → value_after (drop 1 steps) 0 value packet ≡ value_after steps 0 kept packet
first_runs steps item first kept value packet some at is same =
    same (drop 1 steps)
    ∙ sym (ap (λ (list : List Step). value_after list 0 kept packet) (begin_with steps item first some at is))

-- Skipping steps is running those after them.
pub skips : (steps : List Step) (skipped : ℕ) (kept : Bool) (packet : Packet)
    → value_after steps skipped kept packet ≡ value_after (drop skipped steps) 0 kept packet
skips steps zero kept packet = refl
skips [] (suc skipped) kept packet = refl
skips (first ∷ steps) (suc skipped) kept packet = skips steps skipped kept packet

-- Running a step that skips others is running the steps after those.
skips_false : (steps : List Step) (item : Step) (skipped : ℕ) (packet : Packet)
    → 1 ≤ length steps → item ≡ get_or steps 0 item → item ≡ step.SkipIfFalse skipped
    → value_after (drop skipped (drop 1 steps)) 0 false packet ≡ value_after steps 0 false packet
skips_false [] item skipped packet some at is = absurd (omega (arith, some))
skips_false (first ∷ steps) item skipped packet some at is =
    sym (skips steps skipped false packet)
    ∙ ap (λ (one : Step). value_after (one ∷ steps) 0 false packet) (sym is ∙ at)

pub skips_if_false : (steps : List Step) (item : Step) (skipped : ℕ) (kept : Bool) (packet : Packet)
    → 1 ≤ length steps → item ≡ get_or steps 0 item → item ≡ step.SkipIfFalse skipped → kept ≡ false
    → value_after (drop skipped (drop 1 steps)) 0 kept packet ≡ value_after steps 0 kept packet
skips_if_false steps item skipped kept packet some at is kept_is =
    ap (λ (value : Bool). value_after (drop skipped (drop 1 steps)) 0 value packet) kept_is
    ∙ skips_false steps item skipped packet some at is
    ∙ sym (ap (λ (value : Bool). value_after steps 0 value packet) kept_is)

skips_true : (steps : List Step) (item : Step) (skipped : ℕ) (packet : Packet)
    → 1 ≤ length steps → item ≡ get_or steps 0 item → item ≡ step.SkipIfTrue skipped
    → value_after (drop skipped (drop 1 steps)) 0 true packet ≡ value_after steps 0 true packet
skips_true [] item skipped packet some at is = absurd (omega (arith, some))
skips_true (first ∷ steps) item skipped packet some at is =
    sym (skips steps skipped true packet)
    ∙ ap (λ (one : Step). value_after (one ∷ steps) 0 true packet) (sym is ∙ at)

pub skips_if_true : (steps : List Step) (item : Step) (skipped : ℕ) (kept : Bool) (packet : Packet)
    → 1 ≤ length steps → item ≡ get_or steps 0 item → item ≡ step.SkipIfTrue skipped → kept ≡ true
    → value_after (drop skipped (drop 1 steps)) 0 kept packet ≡ value_after steps 0 kept packet
skips_if_true steps item skipped kept packet some at is kept_is =
    ap (λ (value : Bool). value_after (drop skipped (drop 1 steps)) 0 value packet) kept_is
    ∙ skips_true steps item skipped packet some at is
    ∙ sym (ap (λ (value : Bool). value_after steps 0 value packet) kept_is)

-- A step that skips others if the value is true is passed over if it is false.
stays : (steps : List Step) (item : Step) (skipped : ℕ) (packet : Packet)
    → 1 ≤ length steps → item ≡ get_or steps 0 item → item ≡ step.SkipIfTrue skipped
    → value_after (drop 1 steps) 0 false packet ≡ value_after steps 0 false packet
stays [] item skipped packet some at is = absurd (omega (arith, some))
stays (first ∷ steps) item skipped packet some at is =
    ap (λ (one : Step). value_after (one ∷ steps) 0 false packet) (sym is ∙ at)

pub stays_if_false : (steps : List Step) (item : Step) (skipped : ℕ) (kept : Bool) (packet : Packet)
    → 1 ≤ length steps → item ≡ get_or steps 0 item → item ≡ step.SkipIfTrue skipped → kept ≡ false
    → value_after (drop 1 steps) 0 kept packet ≡ value_after steps 0 kept packet
stays_if_false steps item skipped kept packet some at is kept_is =
    ap (λ (value : Bool). value_after (drop 1 steps) 0 value packet) kept_is
    ∙ stays steps item skipped packet some at is
    ∙ sym (ap (λ (value : Bool). value_after steps 0 value packet) kept_is)

-- Skipping as many steps as there are leads to those after them.
passes : (steps rest : List Step) (kept : Bool) (packet : Packet)
    → value_after (steps ++ rest) (length steps) kept packet ≡ value_after rest 0 kept packet
passes [] rest kept packet = refl
passes (first ∷ steps) rest kept packet = passes steps rest kept packet

-- The steps of a right operand, which decides if the left one does not.
joins_by_and : (left right : Bool) (steps rest : List Step) (packet : Packet)
    → ((kept : Bool) → value_after (steps ++ rest) 0 kept packet ≡ value_after rest 0 right packet)
    → value_after (step.SkipIfFalse (length steps) ∷ (steps ++ rest)) 0 left packet
    ≡ value_after rest 0 (left && right) packet
joins_by_and true right steps rest packet decides = decides true
joins_by_and false right steps rest packet decides = passes steps rest false packet

joins_by_or : (left right : Bool) (steps rest : List Step) (packet : Packet)
    → ((kept : Bool) → value_after (steps ++ rest) 0 kept packet ≡ value_after rest 0 right packet)
    → value_after (step.SkipIfTrue (length steps) ∷ (steps ++ rest)) 0 left packet
    ≡ value_after rest 0 (left || right) packet
joins_by_or true right steps rest packet decides = passes steps rest true packet
joins_by_or false right steps rest packet decides = decides false

-- Running the steps of an expression makes the value its meaning.
pub runs : (e : Expr) (rest : List Step) (kept : Bool) (packet : Packet)
    → value_after (steps_of e ++ rest) 0 kept packet ≡ value_after rest 0 (matches_expr e packet) packet
runs (test primitive) rest kept packet = refl
runs (negated e) rest kept packet =
    ap (λ (steps : List Step). value_after steps 0 kept packet) (append_assoc (steps_of e) (step.Negate ∷ []) rest)
    ∙ runs e (step.Negate ∷ rest) kept packet
runs (both e f) rest kept packet =
    ap (λ (steps : List Step). value_after steps 0 kept packet)
    (append_assoc (steps_of e) (step.SkipIfFalse (length (steps_of f)) ∷ steps_of f) rest)
    ∙ runs e (step.SkipIfFalse (length (steps_of f)) ∷ (steps_of f ++ rest)) kept packet
    ∙ joins_by_and (matches_expr e packet) (matches_expr f packet) (steps_of f) rest packet
    (λ value. runs f rest value packet)
runs (either e f) rest kept packet =
    ap (λ (steps : List Step). value_after steps 0 kept packet)
    (append_assoc (steps_of e) (step.SkipIfTrue (length (steps_of f)) ∷ steps_of f) rest)
    ∙ runs e (step.SkipIfTrue (length (steps_of f)) ∷ (steps_of f ++ rest)) kept packet
    ∙ joins_by_or (matches_expr e packet) (matches_expr f packet) (steps_of f) rest packet
    (λ value. runs f rest value packet)

-- Running the steps of a filter gives its meaning.
pub means : (tree : Option Expr) (packet : Packet) → value_after (steps_of_text tree) 0 true packet ≡ meaning tree packet
means None packet = refl
means (Some e) packet =
    ap (λ (steps : List Step). value_after steps 0 true packet) (sym (append-nil (steps_of e))) ∙ runs e [] true packet

-- Running the steps of a filter gives the meaning of the expression that they have.
pub compiled_means : (steps : List Step) (packet : Packet) → steps ≡ steps_of_text (tree_of steps)
    → value_after steps 0 true packet ≡ meaning (tree_of steps) packet
compiled_means steps packet compiled =
    ap (λ (list : List Step). value_after list 0 true packet) compiled ∙ means (tree_of steps) packet
