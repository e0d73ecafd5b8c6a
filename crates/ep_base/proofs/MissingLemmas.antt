-- Lemmas about length errors and the bytes that they report as missing.
use Rattle.std.proofs.Common.{◌≡◌, ◌⊎◌, ℕ, ◌+◌, ◌≤◌, Bool, true, false, if◌then◌else◌, List, [], ◌∷◌, ◌++◌, length, Some, refl, subst, inl, inr, arith, length-append}
use Rattle.std.specs.Prelude.{nat_lt}
use Rattle.std.proofs.lemmas.Grind.{common_steps}
use Rattle.std.proofs.lemmas.Option.{none-some}
use Rattle.ep_base.specs.Readings.{len_error}
use Rattle.ep_base.specs.Missing.{CountsMissing, IsOfAvailableBytes, IsShortAt, ReportsMissing, that_row}
use Rattle.ep_base.specs.Tables.{first_row}
use Rattle.ep_base.specs.declared.err.layer.Layer.{Layer}
use Rattle.ep_base.specs.declared.err.len_error.LenError.{LenError}
use Rattle.ep_base.specs.declared.len_source.LenSource.{LenSource}
use Rattle.ep_base.specs.declared.len_source.LenSource.TheVariants as source

-- An error of two concatenated tables is an error of one of them.
pub first_row-either : {E : Type 0} (prefix back : List (Bool × E)) (error : E) → first_row (prefix ++ back) ≡ Some error
    → (first_row prefix ≡ Some error) ⊎ (first_row back ≡ Some error)
first_row-either [] back error refused = inr refused
first_row-either ((true, refusal) ∷ rows) back error refused = inl refused
first_row-either ((false, refusal) ∷ rows) back error refused = first_row-either rows back error refused

-- A row that counts the available bytes does not reject again once enough bytes are appended.
pub short_once : (limit further : ℕ) (more : List ℕ) (error : LenError) (len : ℕ) → IsShortAt limit error
    → IsShortAt further (that_row error len) → further ≡ limit + length more
    → error.required_len ≤ error.len + length more → ⊥
short_once limit further more error len first again longer enough =
    omega (arith, first.available, again.available, again.needed, longer)

-- `ReportsMissing` follows if all errors count the available bytes.
pub tells_missing : (Refuses : List ℕ → LenError → Type 0)
    → ((bytes : List ℕ) (error : LenError) → Refuses bytes error → CountsMissing (length bytes) error)
    → ReportsMissing Refuses
tells_missing Refuses counts = record {
  counts = counts;
  not_again = λ bytes more error len refused at_hand inexact enough again.
      short_once (length bytes) (length (bytes ++ more)) more error len (counts bytes error refused at_hand inexact)
      (counts (bytes ++ more) (that_row error len) again at_hand inexact) (length-append bytes more) enough;
}

-- ---- tables

-- The error of each row has the property `Such` if the row's condition holds.
abbrev pub AllWhere : {E : Type 0} → (E → Type 0) → List (Bool × E) → Type 0
AllWhere Such [] = Unit {0}
AllWhere Such (row ∷ rows) = (row.0 ≡ true → Such row.1) × AllWhere Such rows

-- If this holds for all rows, the error of the first row that holds has the property.
pub refusal_where : {E : Type 0} (Such : E → Type 0) (rows : List (Bool × E)) → AllWhere Such rows
    → (error : E) → first_row rows ≡ Some error → Such error
refusal_where Such [] all error refused = absurd (none-some error refused)
refusal_where Such ((true, row_error) ∷ rows) all error refused =
    let same : row_error ≡ error = cc in subst Such same (all.0 refl)
refusal_where Such ((false, row_error) ∷ rows) all error refused = refusal_where Such rows all.1 error refused

-- The condition of a row for too few bytes implies `IsShortAt`.
pub short_row : (bytes : List ℕ) (required : ℕ) (limit : LenSource) (place : Layer)
    → nat_lt (length bytes) required ≡ true → IsShortAt (length bytes) (len_error required (length bytes) limit place)
short_row bytes required limit place below =
    record { available = omega arith; needed = grind (arith, common_steps) }

-- A row for too few bytes counts the available bytes.
pub counted : (bytes : List ℕ) (required : ℕ) (limit : LenSource) (place : Layer)
    → nat_lt (length bytes) required ≡ true
    → CountsMissing (length bytes) (len_error required (length bytes) limit place)
counted bytes required limit place below at_hand inexact = short_row bytes required limit place below

-- The property holds for a conditional table if it holds for both branches.
pub either_where : {E : Type 0} (Such : E → Type 0) (condition : Bool) (rows others : List (Bool × E))
    → AllWhere Such rows → AllWhere Such others → AllWhere Such (if condition then rows else others)
either_where Such true rows others all also = all
either_where Such false rows others all also = also

-- A row whose limit is a length field counts no available bytes.
pub not_counted : (bound required len : ℕ) (limit : LenSource) (place : Layer) → (IsOfAvailableBytes limit → ⊥)
    → CountsMissing bound (len_error required len limit place)
not_counted bound required len limit place other at_hand inexact = absurd (other at_hand)

-- Length fields are not the end of the available bytes.
pub not_macsec : IsOfAvailableBytes source.MacsecShortLength → ⊥
not_macsec (inl same) = cc
not_macsec (inr same) = cc

pub not_total : IsOfAvailableBytes source.Ipv4HeaderTotalLen → ⊥
not_total (inl same) = cc
not_total (inr same) = cc

pub not_payload : IsOfAvailableBytes source.Ipv6HeaderPayloadLen → ⊥
not_payload (inl same) = cc
not_payload (inr same) = cc

pub not_udp : IsOfAvailableBytes source.UdpHeaderLen → ⊥
not_udp (inl same) = cc
not_udp (inr same) = cc
