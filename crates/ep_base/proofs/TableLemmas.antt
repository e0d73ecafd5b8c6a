-- Lemmas that a layer is decided if its refusal table and its reading function agree with its definition.
use Rattle.std.proofs.Common.{◌≡◌, ◌⊎◌, ℕ, ◌-◌, Bool, true, false, List, [], ◌∷◌, ◌++◌, length, take, drop}
use Rattle.std.proofs.Common.{Option, Some, None, refl, sym, ap, subst, ◌∙◌, inl, inr}
use Rattle.std.proofs.lemmas.Option.{none-some}
use Rattle.std.proofs.lemmas.List.{take_at, drop_at}
use Rattle.ep_base.specs.Bytes.{AreBytes}
use Rattle.ep_base.proofs.BytesLemmas.{rest_of}
use Rattle.ep_base.specs.Tables.{IsDecided, Refuses, first_row, rows_as}

-- The value read from the first `len` bytes and the rest.
abbrev pub cut_at : {V : Type 0} → (List ℕ → ℕ) → (List ℕ → List ℕ → V) → List ℕ → V
cut_at len shown bytes = shown (take (len bytes) bytes) (drop (len bytes) bytes)

-- Bytes that no row rejects are the value that `read` returns, and bytes that are the layer are rejected by no row and
-- are no other value.
pub record IsReadBy {V E : Type 0} (Is : List ℕ → V → Type 0) (rows : List ℕ → List (Bool × E))
    (read : List ℕ → V) : Type 0 where
  pub reads : (bytes : List ℕ) → AreBytes bytes → first_row (rows bytes) ≡ None → Is bytes (read bytes)
  pub is_read : (bytes : List ℕ) (value : V) → Is bytes value → (first_row (rows bytes) ≡ None) × (value ≡ read bytes)

option_cases : {E : Type 0} → (answer : Option E) → (answer ≡ None) ⊎ ((error : E) × (answer ≡ Some error))
option_cases None = inl refl
option_cases (Some error) = inr (error, refl)

one_some : {E : Type 0} → (answer : Option E) → (e f : E) → answer ≡ Some e → answer ≡ Some f → e ≡ f
one_some answer e f a b = cc

-- Bytes are at most one value.
pub one_value : {V E : Type 0} {Is : List ℕ → V → Type 0} {rows : List ℕ → List (Bool × E)} {read : List ℕ → V}
    → IsReadBy Is rows read → (bytes : List ℕ) (value other : V) → Is bytes value → Is bytes other → value ≡ other
one_value layer bytes value other a b = (layer.is_read bytes value a).1 ∙ sym (layer.is_read bytes other b).1

-- Bytes that a row rejects are no value.
pub refused_is_not : {V E : Type 0} {Is : List ℕ → V → Type 0} {rows : List ℕ → List (Bool × E)} {read : List ℕ → V}
    → IsReadBy Is rows read → (bytes : List ℕ) (value : V) (error : E) → first_row (rows bytes) ≡ Some error
    → Is bytes value → ⊥
refused_is_not layer bytes value error refused is = none-some error (sym (layer.is_read bytes value is).0 ∙ refused)

-- A layer with such a table and reading function is decided.
pub decided : {V E : Type 0} {Is : List ℕ → V → Type 0} {rows : List ℕ → List (Bool × E)} {read : List ℕ → V}
    → IsReadBy Is rows read → (bytes : List ℕ) → AreBytes bytes → IsDecided (Is bytes) (Refuses (rows bytes))
decided {rows = rows} {read = read} layer bytes fits = record {
  some = elim (option_cases (first_row (rows bytes))) [
    | inl none ↦ inl (read bytes, layer.reads bytes fits none)
    | inr refused ↦ inr refused
  ];
  one_value = one_value layer bytes;
  one_error = λ e f a b. one_some (first_row (rows bytes)) e f a b;
  not_both = λ v e a b. refused_is_not layer bytes v e b a;
}

-- A prefix of the right length is the prefix that `cut_at` reads.
pub cut_same : {V : Type 0} (len : List ℕ → ℕ) (shown : List ℕ → List ℕ → V) (bytes seen left : List ℕ)
    → bytes ≡ seen ++ left → length seen ≡ len bytes → shown seen left ≡ cut_at len shown bytes
cut_same len shown bytes seen left parts same =
    let prefix : take (len bytes) bytes ≡ seen = ap (take (len bytes)) parts ∙ take_at seen left (len bytes) same in
    let after : drop (len bytes) bytes ≡ left = ap (drop (len bytes)) parts ∙ drop_at seen left (len bytes) same in
    sym (λ i. shown (prefix i) (after i))

-- Accepted bytes with a prefix of the right length are the value read from the prefix, and no other value.
pub shown_is : {V E : Type 0} {Is : List ℕ → V → Type 0} {rows : List ℕ → List (Bool × E)}
    (len : List ℕ → ℕ) (shown : List ℕ → List ℕ → V) → IsReadBy Is rows (cut_at len shown)
    → (bytes seen left : List ℕ) → AreBytes bytes → first_row (rows bytes) ≡ None
    → bytes ≡ seen ++ left → length seen ≡ len bytes
    → Is bytes (shown seen left) × ((value : V) → Is bytes value → value ≡ shown seen left)
shown_is {Is = Is} len shown layer bytes seen left fits none parts same =
    let read = cut_same len shown bytes seen left parts same in (
      subst (Is bytes) (sym read) (layer.reads bytes fits none),
      λ value is. (layer.is_read bytes value is).1 ∙ sym read,
    )

-- An owned header and the bytes after it, which are the only ones for the input.
pub record IsValue {H : Type 0} (Is : List ℕ → H × List ℕ → Type 0) (bytes : List ℕ) (value : H) (after : List ℕ)
    : Type 0 where
  pub ok : Is bytes (value, after)
  pub only : (header : H) (rest : List ℕ) → Is bytes (header, rest) → (value ≡ header) × (after ≡ rest)

-- The owned header of a slice is the only header of the bytes, and is followed by the bytes after its length.
pub value_shown : {H E : Type 0} {Is : List ℕ → H × List ℕ → Type 0} {rows : List ℕ → List (Bool × E)}
    {read : List ℕ → H × List ℕ} → IsReadBy Is rows read → (bytes prefix rest : List ℕ) (n : ℕ) (shown value : H)
    → bytes ≡ prefix ++ rest → n ≡ length prefix → value ≡ shown → Is bytes (shown, rest)
    → IsValue Is bytes value (take (length bytes - n) (drop n bytes))
value_shown {H = H} {Is = Is} layer bytes prefix rest n shown value parts len same is =
    let after = rest_of bytes prefix rest n parts len in
    let read : H × List ℕ = (value, take (length bytes - n) (drop n bytes)) in
    let here : Is bytes read = subst (Is bytes) (λ i. (sym same i, sym after i)) is in
    record {
      ok = here;
      only = λ header more other.
          let one = one_value layer bytes read (header, more) here other in
          (λ i. (one i).0, λ i. (one i).1);
    }

-- ---- properties of all errors of a table

-- The error of each row has the property `Such`.
abbrev pub AllErrors : {E : Type 0} → (E → Type 0) → List (Bool × E) → Type 0
AllErrors Such [] = Unit {0}
AllErrors Such (row ∷ rows) = Such row.1 × AllErrors Such rows

-- If this holds for all rows, the error of the first row that holds has the property.
pub refusal_is : {E : Type 0} (Such : E → Type 0) (rows : List (Bool × E)) → AllErrors Such rows
    → (error : E) → first_row rows ≡ Some error → Such error
refusal_is Such [] all error refused = absurd (none-some error refused)
refusal_is Such ((true, row_error) ∷ rows) all error refused =
    let same : row_error ≡ error = cc in subst Such same all.0
refusal_is Such ((false, row_error) ∷ rows) all error refused = refusal_is Such rows all.1 error refused

-- ---- concatenated tables

-- If the first table does not reject, the concatenation rejects exactly as the second table does.
pub first_row-append_none : {E : Type 0} (prefix back : List (Bool × E)) → first_row prefix ≡ None
    → first_row (prefix ++ back) ≡ first_row back
first_row-append_none [] back none = refl
first_row-append_none ((true, error) ∷ rows) back none = absurd (none-some error (sym none))
first_row-append_none ((false, error) ∷ rows) back none = first_row-append_none rows back none

-- If the first table rejects, the concatenation rejects with its error.
pub first_row-append_some : {E : Type 0} (prefix back : List (Bool × E)) (error : E) → first_row prefix ≡ Some error
    → first_row (prefix ++ back) ≡ Some error
first_row-append_some [] back error some = absurd (none-some error some)
first_row-append_some ((true, refusal) ∷ rows) back error some = some
first_row-append_some ((false, refusal) ∷ rows) back error some = first_row-append_some rows back error some

-- Converting the errors of a table that does not reject adds no rejection.
pub first_row-as_none : {E F : Type 0} (name : E → F) (rows : List (Bool × E)) → first_row rows ≡ None
    → first_row (rows_as name rows) ≡ None
first_row-as_none name [] none = refl
first_row-as_none name ((true, error) ∷ rows) none = absurd (none-some error (sym none))
first_row-as_none name ((false, error) ∷ rows) none = first_row-as_none name rows none

-- A table does not reject if the table with converted errors does not reject.
pub first_row-none_as : {E F : Type 0} (name : E → F) (rows : List (Bool × E)) → first_row (rows_as name rows) ≡ None
    → first_row rows ≡ None
first_row-none_as name [] none = refl
first_row-none_as name ((true, error) ∷ rows) none = absurd (none-some (name error) (sym none))
first_row-none_as name ((false, error) ∷ rows) none = first_row-none_as name rows none

-- A table with converted errors rejects with the converted error.
pub first_row-as_some : {E F : Type 0} (name : E → F) (rows : List (Bool × E)) (error : E)
    → first_row rows ≡ Some error → first_row (rows_as name rows) ≡ Some (name error)
first_row-as_some name [] error some = absurd (none-some error some)
first_row-as_some name ((true, refusal) ∷ rows) error some =
    let same : refusal ≡ error = cc in ap (λ e. Some (name e)) same
first_row-as_some name ((false, refusal) ∷ rows) error some = first_row-as_some name rows error some
