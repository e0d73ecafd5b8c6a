-- Lemmas that combined relations have exactly one value or exactly one error, if the relations that they consist of do.
use Rattle.std.proofs.Common.{◌≡◌, ◌⊎◌, Result, Ok, Err, refl, sym, ap, subst, ◌∙◌, inl, inr}
use Rattle.std.specs.Prelude.{IfOk, IfErr, IsOkAnd}
use Rattle.ep_base.specs.Tables.{IsDecided, IsOne, RefusesAs}

-- One relation holds exactly for the images of the values of another relation.
pub record IsImage {V W : Type 0} (Of : V → Type 0) (Image : W → Type 0) (image : V → W) : Type 0 where
  pub present : (value : V) → Of value → Image (image value)
  pub back : (value : W) → Image value → (origin : V) × Of origin × (value ≡ image origin)

-- A relation that holds for the same values is the image under the identity.
pub same_image : {V : Type 0} {Of Image : V → Type 0} → ((value : V) → Of value → Image value)
    → ((value : V) → Image value → Of value)
    → IsImage Of Image (λ value. value)
same_image present back = record { present = present; back = λ value holds. (value, back value holds, refl) }

-- A single value without errors is decided.
pub decided_by : {V E : Type 0} {Is : V → Type 0} {Refuses : E → Type 0} → (value : V) → Is value
    → ((other : V) → Is other → other ≡ value)
    → ((error : E) → Refuses error → ⊥) → IsDecided Is Refuses
decided_by value is only never = record {
  some = inl (value, is);
  one_value = λ v w a b. only v a ∙ sym (only w b);
  one_error = λ e f a b. absurd (never e a);
  not_both = λ v e a b. never e b;
}

-- The images of decided values and errors are decided.
pub decided_as : {V W E F : Type 0} {Is : V → Type 0} {Refuses : E → Type 0} {IsImaged : W → Type 0}
    {RefusesImaged : F → Type 0}
    → (value : V → W) → (error : E → F) → IsDecided Is Refuses → IsImage Is IsImaged value
    → IsImage Refuses RefusesImaged error
    → IsDecided IsImaged RefusesImaged
decided_as value error decided values errors = record {
  some = elim decided.some [
    | inl found ↦ inl (value found.0, values.present found.0 found.1)
    | inr refused ↦ inr (error refused.0, errors.present refused.0 refused.1)
  ];
  one_value = λ v w a b.
      let x = values.back v a in
      let y = values.back w b in
      x.2 ∙ ap value (decided.one_value x.0 y.0 x.1 y.1) ∙ sym y.2;
  one_error = λ e f a b.
      let x = errors.back e a in
      let y = errors.back f b in
      x.2 ∙ ap error (decided.one_error x.0 y.0 x.1 y.1) ∙ sym y.2;
  not_both = λ v e a b.
      let x = values.back v a in
      let y = errors.back e b in
      decided.not_both x.0 y.0 x.1 y.1;
}

-- Converting the errors of a decided relation keeps it decided.
pub refused_as : {V E F : Type 0} {Is : V → Type 0} {Refuses : E → Type 0} → (name : E → F) → IsDecided Is Refuses
    → IsDecided Is (RefusesAs name Refuses)
refused_as name decided =
    decided_as (λ value. value) name decided (same_image (λ value is. is) (λ value is. is))
    (record { present = λ refusal refused. (refusal, refused, refl); back = λ error refused. refused })

-- A first value, and a second value that depends on the first.
abbrev pub IsBoth : {V W : Type 0} → (V → Type 0) → (V → W → Type 0) → V × W → Type 0
IsBoth Is Next values = Is values.0 × Next values.0 values.1

-- The errors of two steps: the first value is rejected, or there is a first value and the second is rejected.
abbrev pub RefusesEither : {V E : Type 0} → (V → Type 0) → (E → Type 0) → (V → E → Type 0) → E → Type 0
RefusesEither {V = V} Is Refuses RefusesNext error = Refuses error ⊎ ((value : V) × Is value × RefusesNext value error)

-- Two steps in sequence have at most one error.
then_one_error : {V W E : Type 0} {Is : V → Type 0} {Refuses : E → Type 0} {Next : V → W → Type 0}
    {RefusesNext : V → E → Type 0}
    → IsDecided Is Refuses → ((value : V) → Is value → IsDecided (Next value) (RefusesNext value))
    → (e f : E) → RefusesEither Is Refuses RefusesNext e → RefusesEither Is Refuses RefusesNext f → e ≡ f
then_one_error first next e f (inl a) (inl b) = first.one_error e f a b
then_one_error first next e f (inl a) (inr b) = absurd (first.not_both b.0 e b.1 a)
then_one_error first next e f (inr a) (inl b) = absurd (first.not_both a.0 f a.1 b)
then_one_error {RefusesNext = RefusesNext} first next e f (inr a) (inr b) =
    let same = first.one_value a.0 b.0 a.1 b.1 in
    (next b.0 b.1).one_error e f (subst (λ v. RefusesNext v e) same a.2) b.2

-- Two steps in sequence do not both succeed and fail.
then_not_both : {V W E : Type 0} {Is : V → Type 0} {Refuses : E → Type 0} {Next : V → W → Type 0}
    {RefusesNext : V → E → Type 0}
    → IsDecided Is Refuses → ((value : V) → Is value → IsDecided (Next value) (RefusesNext value))
    → (values : V × W) (e : E) → IsBoth Is Next values → RefusesEither Is Refuses RefusesNext e → ⊥
then_not_both first next values e a (inl b) = first.not_both values.0 e a.0 b
then_not_both {Next = Next} first next values e a (inr b) =
    let same = first.one_value values.0 b.0 a.0 b.1 in
    (next b.0 b.1).not_both values.1 e (subst (λ v. Next v values.1) same a.1) b.2

-- Two decided steps in sequence are decided.
pub decided_then : {V W E : Type 0} {Is : V → Type 0} {Refuses : E → Type 0} {Next : V → W → Type 0}
    {RefusesNext : V → E → Type 0}
    → IsDecided Is Refuses → ((value : V) → Is value → IsDecided (Next value) (RefusesNext value))
    → IsDecided (IsBoth Is Next) (RefusesEither Is Refuses RefusesNext)
decided_then {V = V} {W = W} {Next = Next} first next = record {
  some = elim first.some [
    | inl found ↦ elim (next found.0 found.1).some [
      | inl other ↦ inl ((found.0, other.0), (found.1, other.1))
      | inr refused ↦ inr (refused.0, inr (found.0, found.1, refused.1))
    ]
    | inr refused ↦ inr (refused.0, inl refused.1)
  ];
  one_value = λ v w a b.
      let same = first.one_value v.0 w.0 a.0 b.0 in
      let next_is : Next w.0 v.1 = subst (λ x. Next x v.1) same a.1 in
      let pair : V → W → V × W = λ x y. (x, y) in
      ap (λ x. pair x v.1) same ∙ ap (pair w.0) ((next w.0 b.0).one_value v.1 w.1 next_is b.1);
  one_error = then_one_error first next;
  not_both = then_not_both first next;
}

-- If a call's Ok and Err results are correct, and there is a value, the call returns Ok with this value.
pub only_of : {A V E : Type 0} {Is : V → Type 0} {Refuses : E → Type 0} (shown : A → V) → IsDecided Is Refuses
    → (answer : Result A E) → IfOk answer (λ a. Is (shown a)) → IfErr answer Refuses
    → (value : V) → Is value → IsOkAnd answer (λ a. shown a ≡ value)
only_of shown decided (Ok a) ok err value is = decided.one_value (shown a) value ok is
only_of shown decided (Err e) ok err value is = absurd (decided.not_both value e is err)

-- ---- relations without errors

-- The image of a unique value is unique.
pub one_as : {V W : Type 0} {Is : V → Type 0} {IsImaged : W → Type 0} → (value : V → W) → IsOne Is
    → IsImage Is IsImaged value → IsOne IsImaged
one_as value one image = record {
  value = value one.value;
  is = image.present one.value one.is;
  only = λ other is. let origin = image.back other is in origin.2 ∙ ap value (one.only origin.0 origin.1);
}

-- A unique value followed by a unique value is unique.
pub one_then : {V W : Type 0} {Is : V → Type 0} {Next : V → W → Type 0} → IsOne Is
    → ((value : V) → Is value → IsOne (Next value)) → IsOne (IsBoth Is Next)
one_then {V = V} {W = W} {Is = Is} {Next = Next} first next =
    let second = next first.value first.is in
    record {
      value = (first.value, second.value);
      is = (first.is, second.is);
      only = λ other is.
          let same : other.0 ≡ first.value = first.only other.0 is.0 in
          let present : Next first.value other.1 = subst (λ (v : V). Next v other.1) same is.1 in
          let last : other.1 ≡ second.value = second.only other.1 present in
          λ i. (same i, last i);
    }

-- A decided step followed by a step with a unique value is decided.
pub decided_after : {V W E : Type 0} {Is : V → Type 0} {Refuses : E → Type 0} {Next : V → W → Type 0}
    → IsDecided Is Refuses → ((value : V) → Is value → IsOne (Next value)) → IsDecided (IsBoth Is Next) Refuses
decided_after {V = V} {W = W} {Next = Next} first next = record {
  some = elim first.some [
    | inl found ↦ let second = next found.0 found.1 in inl ((found.0, second.value), (found.1, second.is))
    | inr refused ↦ inr refused
  ];
  one_value = λ v w a b.
      let same : v.0 ≡ w.0 = first.one_value v.0 w.0 a.0 b.0 in
      let present : Next w.0 v.1 = subst (λ (x : V). Next x v.1) same a.1 in
      let second = next w.0 b.0 in
      let last : v.1 ≡ w.1 = second.only v.1 present ∙ sym (second.only w.1 b.1) in
      λ i. (same i, last i);
  one_error = first.one_error;
  not_both = λ v e a b. first.not_both v.0 e a.0 b;
}

-- If a value is followed by a unique result, and an error is replaced by a unique result, there is exactly one result
-- in total.
pub one_either : {V E W : Type 0} {Is : V → Type 0} {Refuses : E → Type 0} {Present : V → W → Type 0}
    {Instead : E → W → Type 0} → IsDecided Is Refuses → ((value : V) → Is value → IsOne (Present value))
    → ((error : E) → Refuses error → IsOne (Instead error))
    → IsOne (λ (w : W). ((error : E) × Refuses error × Instead error w) ⊎ ((value : V) × Is value × Present value w))
one_either {V = V} {E = E} {W = W} {Present = Present} {Instead = Instead} decided present instead =
    elim decided.some [
      | inl found ↦
          let one = present found.0 found.1 in
          record {
            value = one.value;
            is = inr (found.0, found.1, one.is);
            only = λ other is. elim is [
              | inl refused ↦ absurd (decided.not_both found.0 refused.0 found.1 refused.1)
              | inr other_is ↦ one.only other (subst (λ (v : V). Present v other)
                  (decided.one_value other_is.0 found.0 other_is.1 found.1) other_is.2)
            ];
          }
      | inr refused ↦
          let one = instead refused.0 refused.1 in
          record {
            value = one.value;
            is = inl (refused.0, refused.1, one.is);
            only = λ other is. elim is [
              | inl other_is ↦ one.only other (subst (λ (e : E). Instead e other)
                  (decided.one_error other_is.0 refused.0 other_is.1 refused.1) other_is.2)
              | inr found ↦ absurd (decided.not_both found.0 refused.0 found.1 refused.1)
            ];
          }
    ]
