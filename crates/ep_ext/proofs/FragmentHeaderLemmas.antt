-- The wire format of a fragment header, and how it is parsed.
use Rattle.std.proofs.Common.{◌≡◌, ℕ, ◌+◌, ◌*◌, ◌/◌, ◌%◌, ◌^◌, ◌<◌, ◌≤◌, ◌==◌, List, None, [], ◌∷◌, ◌++◌, length, get_or, take, drop, refl, sym, ap, ◌∙◌, arith}
use Rattle.std.proofs.lemmas.Grind.{common_steps}
use Rattle.std.proofs.lemmas.List.{length-take, length-append, take-append-drop}
use Rattle.std.proofs.lemmas.Nat.{from_be_bytes-to_be_bytes_4, be_bytes_4}
use Rattle.std.specs.Int.{w16, to_be_bytes}
use Rattle.ep_base.specs.Bytes.{AreBytes, word_at, bit}
use Rattle.ep_base.specs.Tables.{first_row}
use Rattle.ep_base.proofs.BytesLemmas.{AreBytes-take, AreBytes-drop, bit_le, bit_read, bit_of_read, word_cells}
use Rattle.ep_base.proofs.TableLemmas.{IsReadBy, cut_at, cut_same}
use Rattle.ep_ext.specs.declared.ipv6_fragment_header.Ipv6FragmentHeader.{Ipv6FragmentHeader}
use Rattle.ep_ext.specs.FragmentHeader.{FitsFragmentHeader, EncodesFragmentHeader, IsFragmentHeader, fragment_header_bytes_with, fragment_header_of, fragment_header_rows}

-- The header that consists of all of the bytes, and the bytes after it.
abbrev pub fragment_header_parts : List ℕ → List ℕ → Ipv6FragmentHeader × List ℕ
fragment_header_parts bytes rest = (fragment_header_of bytes, rest)

-- ---- 8 bytes are the wire format of the header parsed from them

eight_fits : (a b c d e f g h : ℕ) → AreBytes (a ∷ b ∷ c ∷ d ∷ e ∷ f ∷ g ∷ h ∷ [])
    → FitsFragmentHeader (fragment_header_of (a ∷ b ∷ c ∷ d ∷ e ∷ f ∷ g ∷ h ∷ []))
eight_fits a b c d e f g h fits = record {
  next_header = fits 0;
  fragment_offset = omega (arith, fits 2, fits 3);
  identification = omega (arith, fits 4, fits 5, fits 6, fits 7);
}

eight_encodes : (a b c d e f g h : ℕ) → AreBytes (a ∷ b ∷ c ∷ d ∷ e ∷ f ∷ g ∷ h ∷ [])
    → EncodesFragmentHeader (a ∷ b ∷ c ∷ d ∷ e ∷ f ∷ g ∷ h ∷ [])
    (fragment_header_of (a ∷ b ∷ c ∷ d ∷ e ∷ f ∷ g ∷ h ∷ []))
eight_encodes a b c d e f g h fits =
    let flag : bit (d % 2 == 1) ≡ d % 2 = bit_of_read (d % 2) (omega arith) in
    let word = 2 ^ 3 * ((256 * c + d) / 8) + 2 * (d / 2 % 4) + bit (d % 2 == 1) in
    let word_same : word ≡ 256 * c + d = omega (arith, flag, fits 2, fits 3) in
    let after : AreBytes (e ∷ f ∷ g ∷ h ∷ []) = AreBytes-drop 4 (a ∷ b ∷ c ∷ d ∷ e ∷ f ∷ g ∷ h ∷ []) fits in
    let identification = sym (be_bytes_4 (e ∷ f ∷ g ∷ h ∷ []) _ refl after refl) in
    record {
      fits = eight_fits a b c d e f g h fits;
      reserved_byte = b;
      byte = fits 1;
      reserved_bits = d / 2 % 4;
      bits = omega arith;
      same = λ i. a ∷ b ∷ (word_cells (a ∷ b ∷ c ∷ d ∷ e ∷ f ∷ g ∷ h ∷ []) fits 2 word_same i ++ identification i);
    }

pub complete_encodes : (e : List ℕ) → AreBytes e → length e ≡ 8 → EncodesFragmentHeader e (fragment_header_of e)
complete_encodes (a ∷ b ∷ c ∷ d ∷ e ∷ f ∷ g ∷ h ∷ []) fits complete = eight_encodes a b c d e f g h fits
complete_encodes _ fits complete = absurd (omega arith)

-- ---- the wire format of a header is parsed as the header

-- The fragment offset and the M flag are read back from bytes 2 and 3.
offset_read : (offset bits flag : ℕ) → offset < 2 ^ 13 → bits < 2 ^ 2 → flag ≤ 1
    → word_at (to_be_bytes w16 (2 ^ 3 * offset + 2 * bits + flag)) 0 / 8 ≡ offset
offset_read offset bits flag a b c = omega arith

flag_read : (offset bits flag : ℕ) → offset < 2 ^ 13 → bits < 2 ^ 2 → flag ≤ 1
    → get_or (to_be_bytes w16 (2 ^ 3 * offset + 2 * bits + flag)) 1 0 % 2 ≡ flag
flag_read offset bits flag a b c = omega arith

pub encoded_read : (e : List ℕ) (h : Ipv6FragmentHeader) → EncodesFragmentHeader e h → h ≡ fragment_header_of e
encoded_read e h a =
    let more = bit_le h.more_fragments in
    let offset = offset_read h.fragment_offset a.reserved_bits _ a.fits.fragment_offset a.bits more in
    let flag =
    bit_read _ h.more_fragments (flag_read h.fragment_offset a.reserved_bits _ a.fits.fragment_offset a.bits more) in
    let identification = from_be_bytes-to_be_bytes_4 h.identification a.fits.identification in
    let read : fragment_header_of (fragment_header_bytes_with a.reserved_byte a.reserved_bits h) ≡ h =
    λ i. record {
      next_header = h.next_header;
      fragment_offset = offset i;
      more_fragments = flag i;
      identification = identification i;
    } in
    sym read ∙ ap fragment_header_of (sym a.same)

pub encoded_len : (e : List ℕ) (h : Ipv6FragmentHeader) → EncodesFragmentHeader e h → length e ≡ 8
encoded_len e h a = ap length a.same

-- ---- parsing headers

abbrev pub fragment_header_len_of : List ℕ → ℕ
fragment_header_len_of bytes = 8

abbrev pub fragment_header_read : List ℕ → Ipv6FragmentHeader × List ℕ
fragment_header_read bytes = cut_at fragment_header_len_of fragment_header_parts bytes

holds : (bytes : List ℕ) → first_row (fragment_header_rows bytes) ≡ None → 8 ≤ length bytes
holds bytes none = grind (arith, common_steps)

-- The first 8 bytes are a header.
pub leading_is : (bytes : List ℕ) (n : ℕ) → n ≡ 8 → AreBytes bytes → n ≤ length bytes
    → IsFragmentHeader bytes (fragment_header_parts (take n bytes) (drop n bytes))
leading_is bytes n eight fits present = record {
  encoded = take n bytes;
  encodes = complete_encodes (take n bytes) (AreBytes-take n bytes fits) (omega (arith, length-take n bytes));
  parts = sym (take-append-drop n bytes);
}

reads : (bytes : List ℕ) → AreBytes bytes → first_row (fragment_header_rows bytes) ≡ None
    → IsFragmentHeader bytes (fragment_header_read bytes)
reads bytes fits none = leading_is bytes 8 refl fits (holds bytes none)

none_refuses : (bytes : List ℕ) (read : Ipv6FragmentHeader × List ℕ) → IsFragmentHeader bytes read
    → first_row (fragment_header_rows bytes) ≡ None
none_refuses bytes read is =
    let complete = encoded_len is.encoded read.0 is.encodes in
    let within : 8 ≤ length bytes = omega (arith, complete, ap length is.parts, length-append is.encoded read.1) in
    grind (arith, within)

is_read : (bytes : List ℕ) (read : Ipv6FragmentHeader × List ℕ) → IsFragmentHeader bytes read
    → (first_row (fragment_header_rows bytes) ≡ None) × (read ≡ fragment_header_read bytes)
is_read bytes read is =
    let header = encoded_read is.encoded read.0 is.encodes in
    let same : read ≡ fragment_header_parts is.encoded read.1 = λ i. (header i, read.1) in
    let complete = encoded_len is.encoded read.0 is.encodes in (
      none_refuses bytes read is,
      same ∙ cut_same fragment_header_len_of fragment_header_parts bytes is.encoded read.1 is.parts complete,
    )

pub fragment_header_is_read : IsReadBy IsFragmentHeader fragment_header_rows fragment_header_read
fragment_header_is_read = record { reads = reads; is_read = is_read }
