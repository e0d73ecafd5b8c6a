-- Lemmas about equality tests of values with several parts.
use Rattle.std.proofs.Common.{◌≡◌, ◌&&◌, ℕ, ◌-◌, Bool, false, List, length, replicate, Option, Some, None, refl, sym, ap, ◌∙◌}
use Rattle.std.specs.Prelude.{nat_eq}
use Rattle.std.specs.Bool.{Decides}
use Rattle.std.specs.Option.{option_eq}
use Rattle.std.proofs.lemmas.Bool.{false≢true}
use Rattle.std.proofs.lemmas.Bool.Decides.{Decides-and, Decides-eqb, Decides-like}
use Rattle.std.specs.Cmp.Lexicographic.{pointwise}
use Rattle.std.proofs.lemmas.Slice.Eq.{slice_eq-Decides}
use Rattle.ep_base.specs.Padding.{padded}
use Rattle.ep_base.proofs.BytesLemmas.{same_parts}

-- A test that decides equality of two parts decides equality of the values made of them.
pub of_part : {P W : Type 0} {r : Bool} {a b : P} (complete : P → W) → (complete a ≡ complete b → a ≡ b) → Decides r (a ≡ b)
    → Decides r (complete a ≡ complete b)
of_part {r = r} complete part one = Decides-like r (λ same. ap complete same) part one

-- The answer false decides a proposition that never holds.
pub apart : {P : Type 0} → (P → ⊥) → Decides false P
apart never = (λ equal. absurd (false≢true equal), λ same. absurd (never same))

-- Equality of options is decided if equality of their values is.
pub same_option : {A : Type 0} (test : A → A → Bool) (a b : Option A)
    → ((x y : A) → a ≡ Some x → b ≡ Some y → Decides (test x y) (x ≡ y)) → Decides (option_eq test a b) (a ≡ b)
same_option test None None each = (λ equal. refl, λ same. refl)
same_option test None (Some y) each = (λ equal. absurd (false≢true equal), λ same. absurd (cc))
same_option test (Some x) None each = (λ equal. absurd (false≢true equal), λ same. absurd (cc))
same_option test (Some x) (Some y) each =
    let one = each x y refl refl in (λ equal. ap (λ z. Some z) (one.0 equal), λ same. one.1 (cc))

-- Parts that are compared in order. Long records are compared in groups of four fields.
abbrev pub two : {A B : Type 0} → A → B → A × B
two a b = (a, b)

abbrev pub five : {A B C D E : Type 0} → A → B → C → D → E → A × B × C × D × E
five a b c d e = (a, b, c, d, e)

pub five_same : {A B C D E : Type 0} {a b c d e : Bool} {p q : A × B × C × D × E} → Decides a (p.0 ≡ q.0)
    → Decides b (p.1 ≡ q.1) → Decides c (p.2 ≡ q.2) → Decides d (p.3 ≡ q.3) → Decides e (p.4 ≡ q.4)
    → Decides (a && (b && (c && (d && e)))) (p ≡ q)
five_same first second third fourth rest =
    Decides-like _ (λ all i. (all.0 i, all.1.0 i, all.1.1.0 i, all.1.1.1.0 i, all.1.1.1.1 i))
    (λ same. (ap (λ t. t.0) same, (ap (λ t. t.1) same, (ap (λ t. t.2) same, (ap (λ t. t.3) same, ap (λ t. t.4) same)))))
    (Decides-and _ _ first (Decides-and _ _ second (Decides-and _ _ third (Decides-and _ _ fourth rest))))

pub two_same : {A B : Type 0} {a b : Bool} {p q : A × B} → Decides a (p.0 ≡ q.0) → Decides b (p.1 ≡ q.1)
    → Decides (a && b) (p ≡ q)
two_same first second =
    Decides-like _ (λ both i. (both.0 i, both.1 i)) (λ same. (ap (λ t. t.0) same, ap (λ t. t.1) same))
    (Decides-and _ _ first second)

-- A test that decides equality of the parts of two values decides equality of the values.
pub made_same : {W P : Type 0} {r : Bool} (parts : W → P) (made : P → W) → ((w : W) → made (parts w) ≡ w) → (a b : W)
    → Decides r (parts a ≡ parts b) → Decides r (a ≡ b)
made_same parts made again a b =
    Decides-like _ (λ same. sym (again a) ∙ ap made same ∙ again b) (ap parts)

-- Comparing padded arrays and stored lengths decides equality of the stored bytes.
pub stored_same : (width : ℕ) (count : ℕ → ℕ) (a b : List ℕ)
    → (count (length a) ≡ count (length b) → length a ≡ length b)
    → Decides (pointwise nat_eq (padded width a) (padded width b) && nat_eq (count (length a)) (count (length b))) (a ≡ b)
stored_same width count a b lens =
    Decides-like _ (λ both. (same_parts a b (replicate (width - length a) 0) (replicate (width - length b) 0)
    (lens both.1) both.0).0)
    (λ same. (ap (padded width) same, ap (λ (s : List ℕ). count (length s)) same))
    (Decides-and _ _ (slice_eq-Decides Decides-eqb (padded width a) (padded width b) _ refl)
    (Decides-eqb (count (length a)) (count (length b))))
