-- Refusal tables, and the property that bytes are either exactly one value or rejected with exactly one error.
use Rattle.std.specs.Prelude.{◌≡◌, ℕ, Bool, if◌then◌else◌, List, [], ◌∷◌, Option, Some, None, ◌⊎◌}

-- The error of the first row of a refusal table whose condition holds. Each row is a condition and its error.
abbrev pub first_row : {E : Type 0} → List (Bool × E) → Option E
first_row [] = None
first_row (row ∷ rows) = if row.0 then Some row.1 else first_row rows

-- The table rejects with this error.
abbrev pub Refuses : {E : Type 0} → List (Bool × E) → E → Type 0
Refuses rows error = first_row rows ≡ Some error

-- The rows of a table with their errors converted.
abbrev pub rows_as : {E F : Type 0} → (E → F) → List (Bool × E) → List (Bool × F)
rows_as name [] = []
rows_as name (row ∷ rows) = (row.0, name row.1) ∷ rows_as name rows

-- Rejects with the converted form of an error of `Refuses`.
abbrev pub RefusesAs : {E F : Type 0} → (E → F) → (E → Type 0) → F → Type 0
RefusesAs {E = E} name Refuses error = (refusal : E) × Refuses refusal × (error ≡ name refusal)

-- A layer split into its header, the payload after it, and the trailing bytes after the payload.
pub record Parts (H : Type 0) : Type 0 where
  pub header : H
  pub payload : List ℕ
  pub left : List ℕ

-- The parts with this header, payload and trailing bytes.
abbrev pub parts_of : {H : Type 0} → H → List ℕ → List ℕ → Parts H
parts_of header payload left = record { header = header; payload = payload; left = left }

-- Exactly one value exists.
pub record IsOne {V : Type 0} (Is : V → Type 0) : Type 0 where
  pub value : V
  pub is : Is value
  pub only : (other : V) → Is other → other ≡ value

-- Exactly one value or exactly one error exists, and never both.
pub record IsDecided {V E : Type 0} (Is : V → Type 0) (Refuses : E → Type 0) : Type 0 where
  pub some : ((value : V) × Is value) ⊎ ((error : E) × Refuses error)
  pub one_value : (value other : V) → Is value → Is other → value ≡ other
  pub one_error : (error other : E) → Refuses error → Refuses other → error ≡ other
  pub not_both : (value : V) (error : E) → Is value → Refuses error → ⊥
