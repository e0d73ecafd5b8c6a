-- The wire format of an authentication header, and how it is parsed.
use Rattle.std.proofs.Common.{◌≡◌, ℕ, ◌+◌, ◌-◌, ◌/◌, ◌^◌, ◌<◌, ◌≤◌, List, None, [], ◌∷◌, ◌++◌, length, get_or, slice_range, take, drop, refl, sym, ap, subst, ◌∙◌, arith}
use Rattle.std.proofs.lemmas.Grind.{common_steps}
use Rattle.std.proofs.lemmas.List.{get_or-take, length-take, length-drop, length-append, take-append-drop}
use Rattle.std.proofs.lemmas.Nat.{from_be_bytes-to_be_bytes_4, be_bytes_4}
use Rattle.std.specs.Int.{w32, to_be_bytes, from_be_bytes}
use Rattle.ep_base.specs.Bytes.{AreBytes, word_at}
use Rattle.ep_base.specs.Tables.{first_row}
use Rattle.ep_base.proofs.BytesLemmas.{AreBytes-take, AreBytes-drop, word_cells}
use Rattle.ep_base.proofs.TableLemmas.{IsReadBy, cut_at, cut_same}
use Rattle.ep_ext.specs.declared.ip_auth_header.IpAuthHeader.{IpAuthHeader}
use Rattle.ep_ext.specs.IpAuth.{FitsIpAuth, EncodesIpAuth, IsIpAuth, ip_auth_bytes_with, ip_auth_len_of, ip_auth_of, ip_auth_rows}

-- The header that consists of all of the bytes, and the bytes after it.
abbrev pub ip_auth_parts : List ℕ → List ℕ → IpAuthHeader × List ℕ
ip_auth_parts bytes rest = (ip_auth_of bytes, rest)

-- The bytes are exactly one header: they have the length that their length field states, which is not 0.
pub record IsCompleteIpAuth (bytes : List ℕ) : Type 0 where
  pub field : 0 < get_or bytes 1 0
  pub whole : length bytes ≡ ip_auth_len_of bytes

-- ---- complete bytes are the wire format of the header parsed from them

-- A number of 4 bytes has 32 bits.
pub four_below : (xs : List ℕ) → length xs ≡ 4 → AreBytes xs → from_be_bytes w32 xs < 2 ^ 32
four_below (a ∷ b ∷ c ∷ d ∷ []) len fits = omega (arith, fits 0, fits 1, fits 2, fits 3)
four_below _ len fits = absurd (omega arith)

-- A chunk of 4 bytes within bytes has length 4.
pub four_len : (e : List ℕ) (i : ℕ) → i + 4 ≤ length e → length (take 4 (drop i e)) ≡ 4
four_len e i within = omega (arith, length-take 4 (drop i e), length-drop i e)

AreBytes-four : (e : List ℕ) (i : ℕ) → AreBytes e → AreBytes (take 4 (drop i e))
AreBytes-four e i fits = AreBytes-take 4 (drop i e) (AreBytes-drop i e fits)

pub complete_fits : (e : List ℕ) → AreBytes e → IsCompleteIpAuth e → FitsIpAuth (ip_auth_of e)
complete_fits e fits a = record {
  next_header = fits 0;
  spi = four_below (slice_range e 4 8) (four_len e 4 (omega (arith, a.field, a.whole))) (AreBytes-four e 4 fits);
  sequence_number =
      four_below (slice_range e 8 12) (four_len e 8 (omega (arith, a.field, a.whole))) (AreBytes-four e 8 fits);
  icv_len = omega (arith, length-drop 12 e, a.whole, fits 1);
  icv_words = omega (arith, length-drop 12 e, a.whole, a.field);
  icv = AreBytes-drop 12 e fits;
}

-- Encoding the number of a chunk of 4 bytes returns these bytes.
number_again : (e : List ℕ) (i : ℕ) → AreBytes e → i + 4 ≤ length e
    → take 4 (drop i e) ≡ to_be_bytes w32 (from_be_bytes w32 (take 4 (drop i e)))
number_again e i fits within =
    sym (be_bytes_4 (take 4 (drop i e)) _ (four_len e i within) (AreBytes-four e i fits) refl)

-- Bytes of at least 12 are their first 4 bytes, two chunks of 4 and the remaining bytes.
twelve : (e : List ℕ) → 12 ≤ length e
    → e ≡ get_or e 0 0 ∷ get_or e 1 0 ∷ get_or e 2 0 ∷ get_or e 3 0
    ∷ (take 4 (drop 4 e) ++ take 4 (drop 8 e) ++ drop 12 e)
twelve e long = grind (arith, common_steps)

pub complete_encodes : (e : List ℕ) → AreBytes e → IsCompleteIpAuth e → EncodesIpAuth e (ip_auth_of e)
complete_encodes e fits a =
    let long : 12 ≤ length e = omega (arith, a.field, a.whole) in
    let second : get_or e 1 0 ≡ (12 + length (drop 12 e)) / 4 - 2 = omega (arith, length-drop 12 e, a.whole, a.field) in
    let spi = number_again e 4 fits (omega (arith, long)) in
    let sequence_number = number_again e 8 fits (omega (arith, long)) in
    record {
      fits = complete_fits e fits a;
      reserved = word_at e 2;
      bits = omega (arith, fits 2, fits 3);
      same = twelve e long
          ∙ (λ i. get_or e 0 0 ∷ second i ∷ (word_cells e fits 2 refl i ++ spi i ++ sequence_number i ++ drop 12 e));
    }

-- ---- the wire format of a header is parsed as the header

pub encoded_read : (e : List ℕ) (h : IpAuthHeader) → EncodesIpAuth e h → h ≡ ip_auth_of e
encoded_read e h a =
    let spi = sym (from_be_bytes-to_be_bytes_4 h.spi a.fits.spi) in
    let sequence_number = sym (from_be_bytes-to_be_bytes_4 h.sequence_number a.fits.sequence_number) in
    let read : h ≡ ip_auth_of (ip_auth_bytes_with a.reserved h) =
    λ i. record { next_header = h.next_header; spi = spi i; sequence_number = sequence_number i; icv = h.icv } in
    read ∙ ap ip_auth_of (sym a.same)

pub encoded_complete : (e : List ℕ) (h : IpAuthHeader) → EncodesIpAuth e h → IsCompleteIpAuth e
encoded_complete e h a =
    let complete : IsCompleteIpAuth (ip_auth_bytes_with a.reserved h) = record {
      field = omega (arith, a.fits.icv_words);
      whole = omega (arith, a.fits.icv_words);
    } in
    subst IsCompleteIpAuth (sym a.same) complete

-- ---- parsing headers

abbrev pub ip_auth_read : List ℕ → IpAuthHeader × List ℕ
ip_auth_read bytes = cut_at ip_auth_len_of ip_auth_parts bytes

-- If the bytes begin with a header, the prefix of its length is exactly one header.
pub prefix_complete : (bytes : List ℕ) → 0 < get_or bytes 1 0 → ip_auth_len_of bytes ≤ length bytes
    → IsCompleteIpAuth (take (ip_auth_len_of bytes) bytes)
prefix_complete bytes field present =
    let n = ip_auth_len_of bytes in
    let same : get_or (take n bytes) 1 0 ≡ get_or bytes 1 0 = get_or-take n bytes 1 0 (omega arith) in
    record { field = omega (arith, same, field); whole = omega (arith, length-take n bytes, same, present) }

holds : (bytes : List ℕ) → first_row (ip_auth_rows bytes) ≡ None
    → (0 < get_or bytes 1 0) × (ip_auth_len_of bytes ≤ length bytes)
holds bytes none = grind (arith, common_steps)

reads : (bytes : List ℕ) → AreBytes bytes → first_row (ip_auth_rows bytes) ≡ None → IsIpAuth bytes (ip_auth_read bytes)
reads bytes fits none =
    let n = ip_auth_len_of bytes in
    let present = holds bytes none in
    record {
      encoded = take n bytes;
      encodes = complete_encodes (take n bytes) (AreBytes-take n bytes fits) (prefix_complete bytes present.0 present.1);
      parts = sym (take-append-drop n bytes);
    }

-- The length field of the first header does not depend on the bytes after it.
prefix_field : (e rest : List ℕ) → IsCompleteIpAuth e → get_or (e ++ rest) 1 0 ≡ get_or e 1 0
prefix_field e rest a = grind (arith, common_steps)

pub len_same : (bytes : List ℕ) (read : IpAuthHeader × List ℕ) (is : IsIpAuth bytes read)
    → (0 < get_or bytes 1 0) × (length is.encoded ≡ ip_auth_len_of bytes)
len_same bytes read is =
    let complete = encoded_complete is.encoded read.0 is.encodes in
    let field : get_or bytes 1 0 ≡ get_or is.encoded 1 0 =
    ap (λ (s : List ℕ). get_or s 1 0) is.parts ∙ prefix_field is.encoded read.1 complete in
    (omega (arith, field, complete.field), omega (arith, field, complete.whole))

none_refuses : (bytes : List ℕ) (read : IpAuthHeader × List ℕ) → IsIpAuth bytes read
    → first_row (ip_auth_rows bytes) ≡ None
none_refuses bytes read is =
    let len = len_same bytes read is in
    let within : ip_auth_len_of bytes ≤ length bytes =
    omega (arith, len.1, ap length is.parts, length-append is.encoded read.1) in
    let field = len.0 in
    grind (arith, within, field)

is_read : (bytes : List ℕ) (read : IpAuthHeader × List ℕ) → IsIpAuth bytes read
    → (first_row (ip_auth_rows bytes) ≡ None) × (read ≡ ip_auth_read bytes)
is_read bytes read is =
    let header = encoded_read is.encoded read.0 is.encodes in
    let same : read ≡ ip_auth_parts is.encoded read.1 = λ i. (header i, read.1) in
    let len = (len_same bytes read is).1 in
    (none_refuses bytes read is, same ∙ cut_same ip_auth_len_of ip_auth_parts bytes is.encoded read.1 is.parts len)

pub ip_auth_is_read : IsReadBy IsIpAuth ip_auth_rows ip_auth_read
ip_auth_is_read = record { reads = reads; is_read = is_read }
