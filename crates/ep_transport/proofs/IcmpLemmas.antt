-- Lemmas about bytes that ICMP and ICMPv6 messages share.
use Rattle.std.proofs.Common.{◌≡◌, ◌==◌, ◌&&◌, ℕ, ◌≤◌, List, [], ◌∷◌, ◌++◌, Option, Some, None, length, take, drop, slice_index, slice_range, refl, sym, ap, subst, ◌∙◌, inl, inr, arith}
use Rattle.std.specs.Prelude.{nat_le}
use Rattle.std.specs.Int.{w16, to_be_bytes}
use Rattle.std.proofs.lemmas.Bool.{cases_Bool, and_parts, cond-true, cond-false, eqb-true, leb-true}
use Rattle.std.proofs.lemmas.Option.{none-some}
use Rattle.ep_base.specs.Bytes.{AreBytes, word_at}
use Rattle.ep_transport.specs.declared.icmp_echo_header.IcmpEchoHeader.{IcmpEchoHeader}
use Rattle.ep_base.proofs.BytesLemmas.{elements, drop-elements, word_cells}
use Rattle.ep_transport.specs.Icmp.{kind_in, FitsEcho, echo_bytes, echo_of}

-- ---- table of kinds

-- Type and code match the row of this kind.
abbrev pub IsInRow : {K : Type 0} → (K → ℕ × ℕ) → Option K → ℕ → ℕ → Type 0
IsInRow row None type code = Unit {0}
IsInRow row (Some kind) type code = (type ≡ (row kind).0) × (code ≤ (row kind).1)

kind_in-found : {K : Type 0} (row : K → ℕ × ℕ) (kinds : List K) (type code : ℕ) (kind : K)
    → kind_in row kinds type code ≡ Some kind → (type ≡ (row kind).0) × (code ≤ (row kind).1)
kind_in-found row [] type code kind found = absurd (none-some kind found)
kind_in-found {K = K} row (first ∷ others) type code kind found =
    let same = type == (row first).0 in
    let low = nat_le code (row first).1 in
    elim (cases_Bool (same && low)) [
      | inl holds ↦
          let both = and_parts same low holds in
          let is : Some first ≡ Some kind =
          sym (cond-true (same && low) (Some first) (kind_in row others type code) holds) ∙ found in
          let here : first ≡ kind = cc in
          let P : K → Type 0 = λ k. (type ≡ (row k).0) × (code ≤ (row k).1) in
          subst P here (eqb-true type (row first).0 both.0, leb-true code (row first).1 both.1)
      | inr fails ↦
          kind_in-found row others type code kind
          (sym (cond-false (same && low) (Some first) (kind_in row others type code) fails) ∙ found)
    ]

-- The kind found in the table has a row that matches type and code.
pub kind_in-row : {K : Type 0} (row : K → ℕ × ℕ) (kinds : List K) (type code : ℕ) (found : Option K)
    → kind_in row kinds type code ≡ found → IsInRow row found type code
kind_in-row row kinds type code None found = tt
kind_in-row row kinds type code (Some kind) found = kind_in-found row kinds type code kind found

-- ---- bytes of a header

-- bytes 4 to 7
abbrev pub four_at : List ℕ → List ℕ
four_at bytes = slice_index bytes 4 ∷ slice_index bytes 5 ∷ slice_index bytes 6 ∷ slice_index bytes 7 ∷ []

pub four_present : (bytes : List ℕ) → 8 ≤ length bytes → drop 4 bytes ≡ four_at bytes ++ drop 8 bytes
unfolding elements
four_present bytes long = drop-elements 4 4 bytes long

pub four_range : (bytes : List ℕ) → 8 ≤ length bytes → slice_range bytes 4 8 ≡ four_at bytes
four_range bytes long = ap (take 4) (four_present bytes long)

-- The bytes of a message are its type, its code, its checksum and the bytes from 4 on.
pub message_prefix : (bytes rest : List ℕ) (type code : ℕ) → AreBytes bytes → 8 ≤ length bytes
    → slice_index bytes 0 ≡ type → slice_index bytes 1 ≡ code → drop 4 bytes ≡ rest
    → bytes ≡ type ∷ code ∷ (to_be_bytes w16 (word_at bytes 2) ++ rest)
unfolding elements
message_prefix bytes rest type code fits long is_type is_code is_rest =
    drop-elements 4 0 bytes (omega arith)
    ∙ (λ i. is_type i ∷ is_code i ∷ (word_cells bytes fits 2 refl i ++ is_rest i))

-- ---- echo messages

pub echo_same : (bytes : List ℕ) → AreBytes bytes → four_at bytes ≡ echo_bytes (echo_of bytes)
echo_same bytes fits = λ i. word_cells bytes fits 4 refl i ++ word_cells bytes fits 6 refl i

pub echo_fits : (bytes : List ℕ) → AreBytes bytes → FitsEcho (echo_of bytes)
echo_fits bytes fits = record { id = omega (arith, fits 4, fits 5); seq = omega (arith, fits 6, fits 7) }

-- the bytes of a header with this type, code and checksum, and the bytes `back` after them
abbrev pub message_bytes : ℕ → ℕ → ℕ → List ℕ → List ℕ
message_bytes type code checksum back = type ∷ code ∷ (to_be_bytes w16 checksum ++ back)

pub echo_read : (type checksum : ℕ) (echo : IcmpEchoHeader) (payload : List ℕ) → FitsEcho echo
    → echo ≡ echo_of (message_bytes type 0 checksum (echo_bytes echo) ++ payload)
echo_read type checksum echo payload fits =
    let bytes = message_bytes type 0 checksum (echo_bytes echo) ++ payload in
    let id : echo.id ≡ word_at bytes 4 = omega (arith, fits.id) in
    let seq : echo.seq ≡ word_at bytes 6 = omega (arith, fits.seq) in
    λ i. record { id = id i; seq = seq i }
