-- Lemmas about parsing the fields of a MACsec tag from its bytes.
use Rattle.std.proofs.Common.{◌≡◌, ℕ, zero, suc, ◌+◌, ◌*◌, ◌/◌, ◌%◌, ◌^◌, ◌<◌, ◌≤◌, Option}
use Rattle.std.proofs.Common.{Some, None, List, [], ◌∷◌, ◌++◌, length, drop, get_or, refl}
use Rattle.std.proofs.Common.{sym, ap, add-zero, subst, ◌∙◌, arith, slice_index, slice_range}
use Rattle.std.proofs.lemmas.Grind.{common_steps}
use Rattle.std.proofs.lemmas.Nat.{from_be_bytes-to_be_bytes_4, from_be_bytes-to_be_bytes_8, be_bytes_4, be_bytes_8}
use Rattle.std.proofs.lemmas.List.{length-take, length-drop, take-append-drop, drop-drop, drop_all, get_or-drop}
use Rattle.std.specs.Int.{w16, w32, w64, to_be_bytes, from_be_bytes}
use Rattle.ep_base.specs.Bytes.{AreBytes, word_at, bit}
use Rattle.ep_base.proofs.BytesLemmas.{AreBytes-take, AreBytes-drop, bit_le, bit_read, bit_of_read, word_cells}
use Rattle.ep_link.specs.declared.link_ext.macsec_ptype.MacsecPType.{MacsecPType}
use Rattle.ep_link.specs.declared.link_ext.macsec_ptype.MacsecPType.TheVariants as ptype
use Rattle.ep_link.specs.declared.link_ext.macsec_header.MacsecHeader.{MacsecHeader}
use Rattle.ep_link.specs.Macsec.{encryption_bit, changed_text_bit, ptype_bytes, sci_bit, sci_bytes}
use Rattle.ep_link.specs.Macsec.{macsec_bytes_with, ptype_len, sci_len, macsec_header_len, FitsPType, FitsSci}
use Rattle.ep_link.specs.Macsec.{FitsMacsec, EncodesMacsec, short_len_of, modification_of, sci_bit_of}
use Rattle.ep_link.specs.Macsec.{type_len_by, tag_len_of, IsTooShortForType, ptype_by, sci_by, macsec_header_of}

-- The bytes are a complete tag, as long as its flags determine.
pub record IsComplete (bytes : List ℕ) : Type 0 where
  pub fixed : 6 ≤ length bytes
  pub version : slice_index bytes 0 < 128
  pub room : ¬ IsTooShortForType bytes
  pub whole : length bytes ≡ tag_len_of bytes

-- ---- flags

encryption_bit_le : (p : MacsecPType) → encryption_bit p ≤ 1
encryption_bit_le (ptype.Unmodified type) = omega arith
encryption_bit_le ptype.Modified = omega arith
encryption_bit_le ptype.Encrypted = omega arith
encryption_bit_le ptype.EncryptedUnmodified = omega arith

changed_text_bit_le : (p : MacsecPType) → changed_text_bit p ≤ 1
changed_text_bit_le (ptype.Unmodified type) = omega arith
changed_text_bit_le ptype.Modified = omega arith
changed_text_bit_le ptype.Encrypted = omega arith
changed_text_bit_le ptype.EncryptedUnmodified = omega arith

sci_bit_le : (sci : Option ℕ) → sci_bit sci ≤ 1
sci_bit_le None = omega arith
sci_bit_le (Some sci) = omega arith

-- The first byte, built from the flags and the association number.
abbrev first_of : ℕ → ℕ → ℕ → ℕ → ℕ → ℕ → ℕ
first_of station sci single encrypted changed an =
    2 ^ 6 * station + 2 ^ 5 * sci + 2 ^ 4 * single + 2 ^ 3 * encrypted + 2 ^ 2 * changed + an

-- The first byte of a tag.
abbrev first_byte : MacsecHeader → ℕ
first_byte h =
    first_of (bit h.endstation_id) (sci_bit h.sci) (bit h.scb) (encryption_bit h.ptype) (changed_text_bit h.ptype) h.an

-- Each flag is one bit, and the association number has two bits.
record AreFlags (t s b e c a : ℕ) : Type 0 where
  station : t ≤ 1
  sci : s ≤ 1
  single : b ≤ 1
  encrypted : e ≤ 1
  changed : c ≤ 1
  an : a < 2 ^ 2

flags_of : (h : MacsecHeader) → FitsMacsec h
    → AreFlags (bit h.endstation_id) (sci_bit h.sci) (bit h.scb)
    (encryption_bit h.ptype) (changed_text_bit h.ptype) h.an
flags_of h fits = record {
  station = bit_le h.endstation_id;
  sci = sci_bit_le h.sci;
  single = bit_le h.scb;
  encrypted = encryption_bit_le h.ptype;
  changed = changed_text_bit_le h.ptype;
  an = fits.an;
}

-- The version, the flags and the association number can be parsed from the first byte.
first_apart : (t s b e c a : ℕ) → AreFlags t s b e c a → (n : ℕ) → n ≡ first_of t s b e c a
    → (n < 128) × (n / 64 % 2 ≡ t) × (n / 32 % 2 ≡ s) × (n / 16 % 2 ≡ b) × (n / 4 % 4 ≡ 2 * e + c) × (n % 4 ≡ a)
first_apart t s b e c a f n same = (omega arith, omega arith, omega arith, omega arith, omega arith, omega arith)

-- The first byte can be rebuilt from its flags and association number.
first_again : (n t s b e c a : ℕ) → n < 128 → t ≡ n / 64 % 2 → s ≡ n / 32 % 2 → b ≡ n / 16 % 2
    → 2 * e + c ≡ n / 4 % 4 → a ≡ n % 4 → n ≡ first_of t s b e c a
first_again n t s b e c a below station sci single modification an = omega arith

-- ---- the wire bytes of a tag are parsed as this tag

-- A number of 4 bytes has 32 bits.
four_below : (xs : List ℕ) → length xs ≡ 4 → AreBytes xs → from_be_bytes w32 xs < 2 ^ 32
four_below (a ∷ b ∷ c ∷ d ∷ []) len fits = omega (arith, fits 0, fits 1, fits 2, fits 3)
four_below _ len fits = absurd (omega arith)

-- A number of 8 bytes has 64 bits.
eight_below : (xs : List ℕ) → length xs ≡ 8 → AreBytes xs → from_be_bytes w64 xs < 2 ^ 64
eight_below (a ∷ b ∷ c ∷ d ∷ e ∷ f ∷ g ∷ h ∷ []) len fits =
    omega (arith, fits 0, fits 1, fits 2, fits 3, fits 4, fits 5, fits 6, fits 7)
eight_below _ len fits = absurd (omega arith)

-- The ether type is parsed from its two bytes.
type_read : (type : ℕ) → type < 2 ^ 16 → word_at (to_be_bytes w16 type) 0 ≡ type
type_read type below = omega arith

-- The ether type of a tag is parsed from the offset that the flag SC determines.
ptype_read : (a b c d e f : ℕ) (sci : Option ℕ) (p : MacsecPType) (short_len : ℕ) → FitsPType p short_len
    → ptype_by (2 * encryption_bit p + changed_text_bit p)
    (word_at (a ∷ b ∷ c ∷ d ∷ e ∷ f ∷ (sci_bytes sci ++ ptype_bytes p)) (6 + 8 * sci_bit sci)) ≡ p
ptype_read a b c d e f None (ptype.Unmodified type) short_len fits =
    ap (λ (n : ℕ). ptype.Unmodified (record { 0 = n })) (type_read type.0 fits.0)
ptype_read a b c d e f (Some sci) (ptype.Unmodified type) short_len fits =
    ap (λ (n : ℕ). ptype.Unmodified (record { 0 = n })) (type_read type.0 fits.0)
ptype_read a b c d e f sci ptype.Modified short_len fits = refl
ptype_read a b c d e f sci ptype.Encrypted short_len fits = refl
ptype_read a b c d e f sci ptype.EncryptedUnmodified short_len fits = refl

-- The secure channel identifier of a tag is parsed if its flag is set.
sci_read : (a b c d e f : ℕ) (sci : Option ℕ) (rest : List ℕ) → FitsSci sci →
    sci_by (sci_bit sci) (from_be_bytes w64 (slice_range (a ∷ b ∷ c ∷ d ∷ e ∷ f ∷ (sci_bytes sci ++ rest)) 6 14)) ≡ sci
sci_read a b c d e f None rest fits = refl
sci_read a b c d e f (Some sci) rest fits = ap Some (from_be_bytes-to_be_bytes_8 sci fits)

with_read : (r : ℕ) (h : MacsecHeader) → r < 4 → FitsMacsec h → h ≡ macsec_header_of (macsec_bytes_with r h)
with_read r h bits fits =
    let bytes = macsec_bytes_with r h in
    let at : ℕ → ℕ = slice_index bytes in
    let read = first_apart _ _ _ _ _ _ (flags_of h fits) (slice_index bytes 0) refl in
    let short_len : short_len_of bytes ≡ h.short_len = omega (arith, fits.short_len) in
    let packet_nr : from_be_bytes w32 (slice_range bytes 2 6) ≡ h.packet_nr =
    from_be_bytes-to_be_bytes_4 h.packet_nr fits.packet_nr in
    let type : ptype_by (modification_of bytes) (word_at bytes (6 + 8 * sci_bit_of bytes)) ≡ h.ptype =
    (λ i. ptype_by (read.4 i) (word_at bytes (6 + 8 * read.2 i)))
    ∙ ptype_read (at 0) (at 1) (at 2) (at 3) (at 4) (at 5) h.sci h.ptype h.short_len fits.ptype in
    let sci : sci_by (sci_bit_of bytes) (from_be_bytes w64 (slice_range bytes 6 14)) ≡ h.sci =
    ap (λ (n : ℕ). sci_by n (from_be_bytes w64 (slice_range bytes 6 14))) read.2
    ∙ sci_read (at 0) (at 1) (at 2) (at 3) (at 4) (at 5) h.sci (ptype_bytes h.ptype) fits.sci in
    sym (λ i. record {
      ptype = type i;
      endstation_id = bit_read _ h.endstation_id read.1 i;
      scb = bit_read _ h.scb read.3 i;
      an = read.5 i;
      short_len = short_len i;
      packet_nr = packet_nr i;
      sci = sci i;
    })

pub encoded_read : (e : List ℕ) (h : MacsecHeader) → EncodesMacsec e h → h ≡ macsec_header_of e
encoded_read e h a = with_read a.reserved h a.bits a.fits ∙ ap macsec_header_of (sym a.same)

-- The flags determine the length of the ether type.
type_len_same : (p : MacsecPType) → type_len_by (2 * encryption_bit p + changed_text_bit p) ≡ ptype_len p
type_len_same (ptype.Unmodified type) = refl
type_len_same ptype.Modified = refl
type_len_same ptype.Encrypted = refl
type_len_same ptype.EncryptedUnmodified = refl

sci_len_same : (sci : Option ℕ) → 8 * sci_bit sci ≡ sci_len sci
sci_len_same None = refl
sci_len_same (Some sci) = refl

tail_len : (sci : Option ℕ) (p : MacsecPType) → length (sci_bytes sci ++ ptype_bytes p) ≡ sci_len sci + ptype_len p
tail_len None (ptype.Unmodified type) = refl
tail_len None ptype.Modified = refl
tail_len None ptype.Encrypted = refl
tail_len None ptype.EncryptedUnmodified = refl
tail_len (Some sci) (ptype.Unmodified type) = refl
tail_len (Some sci) ptype.Modified = refl
tail_len (Some sci) ptype.Encrypted = refl
tail_len (Some sci) ptype.EncryptedUnmodified = refl

-- A short length that fits an unmodified payload is not 1.
space_of : (p : MacsecPType) (short_len : ℕ) → FitsPType p short_len
    → 2 * encryption_bit p + changed_text_bit p ≡ 0 → short_len ≡ 1 → ⊥
space_of (ptype.Unmodified type) short_len fits none one = fits.1 one
space_of ptype.Modified short_len fits none one = omega (arith, none)
space_of ptype.Encrypted short_len fits none one = omega (arith, none)
space_of ptype.EncryptedUnmodified short_len fits none one = omega (arith, none)

-- The length of a tag in bytes.
with_len : (r : ℕ) (h : MacsecHeader) → length (macsec_bytes_with r h) ≡ macsec_header_len h
with_len r h = omega (arith, tail_len h.sci h.ptype)

with_complete : (r : ℕ) (h : MacsecHeader) → r < 4 → FitsMacsec h → IsComplete (macsec_bytes_with r h)
with_complete r h bits fits =
    let bytes = macsec_bytes_with r h in
    let read = first_apart _ _ _ _ _ _ (flags_of h fits) (slice_index bytes 0) refl in
    let short_len : short_len_of bytes ≡ h.short_len = omega (arith, fits.short_len) in
    let len : length bytes ≡ 6 + sci_len h.sci + ptype_len h.ptype = with_len r h in
    let type_len : type_len_by (modification_of bytes) ≡ ptype_len h.ptype =
    ap type_len_by read.4 ∙ type_len_same h.ptype in
    let id_len = sci_len_same h.sci in
    record {
      fixed = omega (arith, len);
      version = read.0;
      room = λ none. space_of h.ptype h.short_len fits.ptype (sym read.4 ∙ none.0) (sym short_len ∙ none.1);
      whole = omega (arith, len, type_len, id_len, read.2);
    }

pub encoded_complete : (e : List ℕ) (h : MacsecHeader) → EncodesMacsec e h → IsComplete e
encoded_complete e h a = subst IsComplete (sym a.same) (with_complete a.reserved h a.bits a.fits)

-- The length of a tag in bytes, whatever its reserved bits.
pub encoded_len : (e : List ℕ) (h : MacsecHeader) → EncodesMacsec e h → length e ≡ macsec_header_len h
encoded_len e h a = ap length a.same ∙ with_len a.reserved h

-- ---- complete bytes are the wire bytes of the parsed tag

bits_by : (m type : ℕ) → m < 4 → 2 * encryption_bit (ptype_by m type) + changed_text_bit (ptype_by m type) ≡ m
bits_by zero type below = refl
bits_by (suc zero) type below = refl
bits_by (suc (suc zero)) type below = refl
bits_by (suc (suc (suc zero))) type below = refl
bits_by (suc (suc (suc (suc m)))) type below = absurd (omega arith)

sci_bit_by : (s sci : ℕ) → s < 2 → sci_bit (sci_by s sci) ≡ s
sci_bit_by zero sci below = refl
sci_bit_by (suc zero) sci below = refl
sci_bit_by (suc (suc s)) sci below = absurd (omega arith)

FitsPType_by : (m type short_len : ℕ) → type < 2 ^ 16 → ¬ ((m ≡ 0) × (short_len ≡ 1))
    → FitsPType (ptype_by m type) short_len
FitsPType_by zero type short_len below space = (below, λ one. space (refl, one))
FitsPType_by (suc zero) type short_len below space = tt
FitsPType_by (suc (suc zero)) type short_len below space = tt
FitsPType_by (suc (suc (suc m))) type short_len below space = tt

-- Two bytes are the big-endian bytes of their number.
two_again : (xs : List ℕ) → length xs ≡ 2 → AreBytes xs → to_be_bytes w16 (word_at xs 0) ≡ xs
two_again (a ∷ b ∷ []) len fits = sym (word_cells (a ∷ b ∷ []) fits 0 refl)
two_again _ len fits = absurd (omega arith)

none_left : (k : ℕ) (e : List ℕ) → length e ≡ k → [] ≡ drop k e
none_left k e len = sym (drop_all k e (omega arith))

-- The end of a tag consists of the bytes of the ether type that the flags determine.
type_again : (e : List ℕ) (k m : ℕ) → AreBytes e → length e ≡ k + type_len_by m
    → ptype_bytes (ptype_by m (word_at e k)) ≡ drop k e
type_again e k zero fits len =
    let upper : get_or (drop k e) 0 0 ≡ get_or e k 0 =
    get_or-drop k e 0 0 ∙ ap (λ (i : ℕ). get_or e i 0) (add-zero k) in
    let word : word_at e k ≡ word_at (drop k e) 0 = omega (arith, upper, get_or-drop k e 1 0) in
    ap (to_be_bytes w16) word ∙ two_again (drop k e) (omega (arith, length-drop k e)) (AreBytes-drop k e fits)
type_again e k (suc zero) fits len = none_left k e (omega arith)
type_again e k (suc (suc zero)) fits len = none_left k e (omega arith)
type_again e k (suc (suc (suc m))) fits len = none_left k e (omega arith)

-- The bytes of the secure channel identifier are the big-endian bytes of its number.
sci_again : (e : List ℕ) → AreBytes e → 14 ≤ length e
    → to_be_bytes w64 (from_be_bytes w64 (slice_range e 6 14)) ≡ slice_range e 6 14
sci_again e fits long =
    let eight : length (slice_range e 6 14) ≡ 8 = omega (arith, length-take 8 (drop 6 e), length-drop 6 e) in
    be_bytes_8 (slice_range e 6 14) _ eight (AreBytes-take 8 (drop 6 e) (AreBytes-drop 6 e fits)) refl

FitsSci_by : (s sci : ℕ) → (0 < s → sci < 2 ^ 64) → FitsSci (sci_by s sci)
FitsSci_by zero sci below = tt
FitsSci_by (suc s) sci below = below (omega arith)

-- The bytes after the first 6 are the secure channel identifier and the ether type.
tail_again : (e : List ℕ) (s m : ℕ) → AreBytes e → s < 2 → length e ≡ 6 + 8 * s + type_len_by m
    → sci_bytes (sci_by s (from_be_bytes w64 (slice_range e 6 14))) ++ ptype_bytes (ptype_by m (word_at e (6 + 8 * s)))
    ≡ drop 6 e
tail_again e zero m fits below len = type_again e 6 m fits len
tail_again e (suc zero) m fits below len =
    ap (λ (x : List ℕ). x ++ ptype_bytes (ptype_by m (word_at e 14))) (sci_again e fits (omega arith))
    ∙ ap (λ (x : List ℕ). slice_range e 6 14 ++ x) (type_again e 14 m fits len ∙ sym (drop-drop 8 6 e))
    ∙ take-append-drop 8 (drop 6 e)
tail_again e (suc (suc s)) m fits below len = absurd (omega arith)

-- The bytes of a tag are bytes 0 and 1, the packet number, and the bytes after the first 6.
six : (e : List ℕ) → 6 ≤ length e → e ≡ get_or e 0 0 ∷ get_or e 1 0 ∷ (slice_range e 2 6 ++ drop 6 e)
six e long = grind (arith, common_steps)

-- The packet number has 4 bytes.
four_long : (e : List ℕ) → 6 ≤ length e → length (slice_range e 2 6) ≡ 4
four_long e fixed = omega (arith, length-take 4 (drop 2 e), length-drop 2 e)

four_bytes : (e : List ℕ) → AreBytes e → AreBytes (slice_range e 2 6)
four_bytes e fits = AreBytes-take 4 (drop 2 e) (AreBytes-drop 2 e fits)

sci_below : (e : List ℕ) → AreBytes e → 14 ≤ length e → from_be_bytes w64 (slice_range e 6 14) < 2 ^ 64
sci_below e fits long =
    let eight : length (slice_range e 6 14) ≡ 8 = omega (arith, length-take 8 (drop 6 e), length-drop 6 e) in
    eight_below (slice_range e 6 14) eight (AreBytes-take 8 (drop 6 e) (AreBytes-drop 6 e fits))

pub complete_fits : (e : List ℕ) → AreBytes e → IsComplete e → FitsMacsec (macsec_header_of e)
complete_fits e fits a =
    let at = 6 + 8 * sci_bit_of e in
    let type : word_at e at < 2 ^ 16 = omega (arith, fits at, fits (at + 1)) in
    record {
      ptype = FitsPType_by (modification_of e) (word_at e at) (short_len_of e) type a.room;
      an = omega arith;
      short_len = omega arith;
      packet_nr = four_below (slice_range e 2 6) (four_long e a.fixed) (four_bytes e fits);
      sci = FitsSci_by (sci_bit_of e) _ (λ present. sci_below e fits (omega (arith, a.whole, present)));
    }

-- The first byte of a complete tag is the first byte of the parsed tag.
first_byte_again : (e : List ℕ) → IsComplete e → get_or e 0 0 ≡ first_byte (macsec_header_of e)
first_byte_again e a =
    let station = bit_of_read (get_or e 0 0 / 64 % 2) (omega arith) in
    let sci = sci_bit_by (sci_bit_of e) (from_be_bytes w64 (slice_range e 6 14)) (omega arith) in
    let single = bit_of_read (get_or e 0 0 / 16 % 2) (omega arith) in
    let modification = bits_by (modification_of e) (word_at e (6 + 8 * sci_bit_of e)) (omega arith) in
    first_again (get_or e 0 0) _ _ _ _ _ _ a.version station sci single modification refl

pub complete_encodes : (e : List ℕ) → AreBytes e → IsComplete e → EncodesMacsec e (macsec_header_of e)
complete_encodes e fits a =
    let h = macsec_header_of e in
    let packet_nr : slice_range e 2 6 ≡ to_be_bytes w32 h.packet_nr =
    sym (be_bytes_4 (slice_range e 2 6) _ (four_long e a.fixed) (four_bytes e fits) refl) in
    let tail : drop 6 e ≡ sci_bytes h.sci ++ ptype_bytes h.ptype =
    sym (tail_again e (sci_bit_of e) (modification_of e) fits (omega arith) a.whole) in
    let first = first_byte_again e a in
    let second : get_or e 1 0 ≡ 2 ^ 6 * (get_or e 1 0 / 64) + h.short_len = omega arith in
    record {
      fits = complete_fits e fits a;
      reserved = get_or e 1 0 / 64;
      bits = omega (arith, fits 1);
      same = six e a.fixed ∙ (λ i. first i ∷ second i ∷ (packet_nr i ++ tail i));
    }

pub type_len_by_same : (m type : ℕ) → type_len_by m ≡ ptype_len (ptype_by m type)
type_len_by_same zero type = refl
type_len_by_same (suc zero) type = refl
type_len_by_same (suc (suc zero)) type = refl
type_len_by_same (suc (suc (suc m))) type = refl

-- If both flags E and C are set, the payload is encrypted.
pub encrypted_by : (m type : ℕ) → 2 < m → ptype.Encrypted ≡ ptype_by m type
encrypted_by zero type both = absurd (omega arith)
encrypted_by (suc zero) type both = absurd (omega arith)
encrypted_by (suc (suc zero)) type both = absurd (omega arith)
encrypted_by (suc (suc (suc m))) type both = refl
