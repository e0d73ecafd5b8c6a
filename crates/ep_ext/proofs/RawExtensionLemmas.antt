-- The wire format of an extension header, and how it is parsed.
use Rattle.std.proofs.Common.{◌≡◌, ℕ, ◌+◌, ◌-◌, ◌/◌, ◌≤◌, List, None, ◌∷◌, ◌++◌, length, get_or, take, drop, sym, ap, ◌∙◌, arith}
use Rattle.std.proofs.lemmas.Grind.{common_steps}
use Rattle.std.proofs.lemmas.List.{get_or-take, length-take, length-drop, length-append, take-append-drop}
use Rattle.ep_base.specs.Bytes.{AreBytes}
use Rattle.ep_base.specs.Tables.{first_row}
use Rattle.ep_base.proofs.BytesLemmas.{elements, drop-elements, AreBytes-take, AreBytes-drop}
use Rattle.ep_base.proofs.TableLemmas.{IsReadBy, cut_at, cut_same}
use Rattle.ep_ext.specs.declared.ipv6_raw_ext_header.Ipv6RawExtHeader.{Ipv6RawExtHeader}
use Rattle.ep_ext.specs.RawExtension.{FitsRawExtension, IsRawExtension, raw_extension_bytes, raw_extension_len_of, raw_extension_of, raw_extension_rows}

-- The header that consists of all of the bytes, and the bytes after it.
abbrev pub raw_extension_parts : List ℕ → List ℕ → Ipv6RawExtHeader × List ℕ
raw_extension_parts bytes rest = (raw_extension_of bytes, rest)

-- ---- bytes of the stated length are the wire format of the header parsed from them

pub complete_fits : (e : List ℕ) → AreBytes e → length e ≡ raw_extension_len_of e → FitsRawExtension (raw_extension_of e)
complete_fits e fits complete = record {
  next_header = fits 0;
  payload_least = omega (arith, length-drop 2 e, complete);
  payload_len = omega (arith, length-drop 2 e, complete, fits 1);
  payload_units = omega (arith, length-drop 2 e, complete);
  payload = AreBytes-drop 2 e fits;
}

pub entire_same : (e : List ℕ) → length e ≡ raw_extension_len_of e → e ≡ raw_extension_bytes (raw_extension_of e)
unfolding elements
entire_same e complete =
    let second : get_or e 1 0 ≡ (2 + length (drop 2 e)) / 8 - 1 = omega (arith, length-drop 2 e, complete) in
    drop-elements 2 0 e (omega (arith, complete)) ∙ (λ i. get_or e 0 0 ∷ second i ∷ drop 2 e)

-- The prefix of the stated length states the same length.
pub prefix_complete : (bytes : List ℕ) → raw_extension_len_of bytes ≤ length bytes
    → length (take (raw_extension_len_of bytes) bytes) ≡ raw_extension_len_of (take (raw_extension_len_of bytes) bytes)
prefix_complete bytes present =
    let n = raw_extension_len_of bytes in
    let field : get_or (take n bytes) 1 0 ≡ get_or bytes 1 0 = get_or-take n bytes 1 0 (omega arith) in
    omega (arith, length-take n bytes, field, present)

-- ---- parsing headers

abbrev pub raw_extension_read : List ℕ → Ipv6RawExtHeader × List ℕ
raw_extension_read bytes = cut_at raw_extension_len_of raw_extension_parts bytes

holds : (bytes : List ℕ) → first_row (raw_extension_rows bytes) ≡ None → raw_extension_len_of bytes ≤ length bytes
holds bytes none = grind (arith, common_steps)

reads : (bytes : List ℕ) → AreBytes bytes → first_row (raw_extension_rows bytes) ≡ None
    → IsRawExtension bytes (raw_extension_read bytes)
reads bytes fits none =
    let n = raw_extension_len_of bytes in
    let complete = prefix_complete bytes (holds bytes none) in
    record {
      fits = complete_fits (take n bytes) (AreBytes-take n bytes fits) complete;
      parts = sym (take-append-drop n bytes) ∙ ap (λ (s : List ℕ). s ++ drop n bytes) (entire_same (take n bytes) complete);
    }

-- The length field counts the bytes of the header.
pub len_same : (bytes : List ℕ) (read : Ipv6RawExtHeader × List ℕ) → IsRawExtension bytes read
    → length (raw_extension_bytes read.0) ≡ raw_extension_len_of bytes
len_same bytes read is =
    let field : get_or bytes 1 0 ≡ (2 + length read.0.payload) / 8 - 1 = ap (λ (s : List ℕ). get_or s 1 0) is.parts in
    omega (arith, field, is.fits.payload_units, is.fits.payload_least)

none_refuses : (bytes : List ℕ) (read : Ipv6RawExtHeader × List ℕ) → IsRawExtension bytes read
    → first_row (raw_extension_rows bytes) ≡ None
none_refuses bytes read is =
    let len = len_same bytes read is in
    let within : raw_extension_len_of bytes ≤ length bytes =
    omega (arith, len, ap length is.parts, length-append (raw_extension_bytes read.0) read.1) in
    grind (arith, within)

is_read : (bytes : List ℕ) (read : Ipv6RawExtHeader × List ℕ) → IsRawExtension bytes read
    → (first_row (raw_extension_rows bytes) ≡ None) × (read ≡ raw_extension_read bytes)
is_read bytes read is =
    let len = len_same bytes read is in
    let seen = raw_extension_bytes read.0 in
    (none_refuses bytes read is, cut_same raw_extension_len_of raw_extension_parts bytes seen read.1 is.parts len)

pub raw_extension_is_read : IsReadBy IsRawExtension raw_extension_rows raw_extension_read
raw_extension_is_read = record { reads = reads; is_read = is_read }
