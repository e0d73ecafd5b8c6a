-- Lemmas about MACsec tags and packets at the start of bytes.
use Rattle.std.proofs.Common.{◌≡◌, ◌⊎◌, Bool, ltb, ℕ, zero, suc, ◌+◌, ◌-◌, ◌*◌, ◌/◌, ◌%◌, ◌<◌, ◌≤◌, List, [], ◌∷◌, None}
use Rattle.std.proofs.Common.{Some, ◌++◌, length, take, drop, get_or, refl, sym, ap, subst, ◌∙◌, arith, inl, inr}
use Rattle.std.proofs.lemmas.Bool.{cases_eq, lt-ltb}
use Rattle.std.proofs.lemmas.Grind.{common_steps}
use Rattle.std.proofs.lemmas.Option.{none-some}
use Rattle.std.proofs.lemmas.List.{get_or-take, get_or_append_left, length-take, length-drop, length-append}
use Rattle.std.proofs.lemmas.List.{take-append-drop, append_assoc, take_at, drop_at, drop-drop}
use Rattle.ep_base.specs.Bytes.{AreBytes, word_at}
use Rattle.ep_base.specs.Readings.{len_error}
use Rattle.ep_base.specs.Tables.{Parts, first_row, parts_of}
use Rattle.ep_base.proofs.BytesLemmas.{AreBytes-take}
use Rattle.ep_base.proofs.TableLemmas.{IsReadBy, cut_at, cut_same, shown_is, first_row-append_none}
use Rattle.ep_base.specs.declared.err.layer.Layer.TheVariants as layer
use Rattle.ep_base.specs.declared.err.macsec.HeaderSliceError.{HeaderSliceError}
use Rattle.ep_base.specs.declared.err.macsec.HeaderSliceError.TheVariants as header_error
use Rattle.ep_base.specs.declared.len_source.LenSource.{LenSource}
use Rattle.ep_base.specs.declared.len_source.LenSource.TheVariants as source
use Rattle.ep_link.specs.declared.link_ext.macsec_ptype.MacsecPType.{MacsecPType}
use Rattle.ep_link.specs.declared.link_ext.macsec_ptype.MacsecPType.TheVariants as ptype
use Rattle.ep_link.specs.declared.link_ext.macsec_header.MacsecHeader.{MacsecHeader}
use Rattle.ep_link.specs.Macsec.{ptype_len, macsec_len_of, IsMacsecHeader, IsMacsec, IsMacsecCut, macsec_header_rows}
use Rattle.ep_link.specs.Macsec.{macsec_rows, IsTooShortForType, short_len_of, modification_of, sci_bit_of, type_len_by}
use Rattle.ep_link.specs.Macsec.{tag_len_of, payload_len_of, macsec_header_of, macsec_payload_bytes, payload_by}
use Rattle.ep_link.proofs.MacsecReadLemmas.{IsComplete, encoded_read, encoded_complete, complete_encodes, type_len_by_same}

-- ---- complete tags at the start of bytes

-- The bytes start with a complete tag: no row of the table rejects them.
record BeginsMacsec (bytes : List ℕ) : Type 0 where
  fixed : 6 ≤ length bytes
  version : get_or bytes 0 0 < 128
  room : ¬ IsTooShortForType bytes
  whole : tag_len_of bytes ≤ length bytes

begins : (bytes : List ℕ) → first_row (macsec_header_rows bytes) ≡ None → BeginsMacsec bytes
begins bytes none = record {
  fixed = grind (arith, common_steps);
  version = grind (arith, common_steps);
  room = grind (arith, common_steps);
  whole = grind (arith, common_steps);
}

none_refuses_header : (bytes : List ℕ) → BeginsMacsec bytes → first_row (macsec_header_rows bytes) ≡ None
none_refuses_header bytes a = grind (arith, common_steps)

-- Two lists have the same bytes 0 and 1, and so the same flags and short length.
record SharesFlags (x y : List ℕ) : Type 0 where
  first : get_or x 0 0 ≡ get_or y 0 0
  second : get_or x 1 0 ≡ get_or y 1 0

same_tag_len : (x y : List ℕ) → SharesFlags x y → tag_len_of x ≡ tag_len_of y
same_tag_len x y a = ap (λ (n : ℕ). 6 + 8 * (n / 32 % 2) + type_len_by (n / 4 % 4)) a.first

same_payload_len : (x y : List ℕ) → SharesFlags x y → payload_len_of x ≡ payload_len_of y
same_payload_len x y a = λ i. a.second i % 64 - type_len_by (a.first i / 4 % 4)

same_space : (x y : List ℕ) → SharesFlags x y → IsTooShortForType x → IsTooShortForType y
same_space x y a none =
    (ap (λ (n : ℕ). n / 4 % 4) (sym a.first) ∙ none.0, ap (λ (n : ℕ). n % 64) (sym a.second) ∙ none.1)

prefix_shares : (e rest : List ℕ) → IsComplete e → SharesFlags (e ++ rest) e
prefix_shares e rest a = record {
  first = get_or_append_left e rest 0 0 (omega (arith, a.fixed));
  second = get_or_append_left e rest 0 1 (omega (arith, a.fixed));
}

take_shares : (bytes : List ℕ) (n : ℕ) → 6 ≤ n → SharesFlags (take n bytes) bytes
take_shares bytes n long = record {
  first = get_or-take n bytes 0 0 (omega arith);
  second = get_or-take n bytes 1 0 (omega arith);
}

prefix_begins : (e rest : List ℕ) → IsComplete e → BeginsMacsec (e ++ rest)
prefix_begins e rest a =
    let shares = prefix_shares e rest a in
    let same = same_tag_len (e ++ rest) e shares in
    record {
      fixed = omega (arith, a.fixed, length-append e rest);
      version = omega (arith, a.version, shares.first);
      room = λ none. a.room (same_space (e ++ rest) e shares none);
      whole = omega (arith, a.whole, same, length-append e rest);
    }

prefix_len : (e rest : List ℕ) → IsComplete e → length e ≡ tag_len_of (e ++ rest)
prefix_len e rest a = a.whole ∙ sym (same_tag_len (e ++ rest) e (prefix_shares e rest a))

-- If bytes start with a tag of n bytes, their first n bytes are a complete tag.
begins_complete : (bytes : List ℕ) (n : ℕ) → BeginsMacsec bytes → n ≡ tag_len_of bytes → IsComplete (take n bytes)
begins_complete bytes n a size =
    let shares : SharesFlags (take n bytes) bytes = take_shares bytes n (omega (arith, size)) in
    let same = same_tag_len (take n bytes) bytes shares in
    record {
      fixed = omega (arith, size, a.whole, length-take n bytes);
      version = omega (arith, a.version, shares.first);
      room = λ none. a.room (same_space (take n bytes) bytes shares none);
      whole = omega (arith, size, a.whole, same, length-take n bytes);
    }

-- ---- tags

-- The tag that the bytes are, and the bytes after it.
abbrev pub macsec_header_parts : List ℕ → List ℕ → MacsecHeader × List ℕ
macsec_header_parts bytes rest = (macsec_header_of bytes, rest)

-- The tag at the start of the bytes, and the bytes after it.
abbrev pub macsec_header_read : List ℕ → MacsecHeader × List ℕ
macsec_header_read bytes = cut_at tag_len_of macsec_header_parts bytes

header_reads : (bytes : List ℕ) → AreBytes bytes → first_row (macsec_header_rows bytes) ≡ None
    → IsMacsecHeader bytes (macsec_header_read bytes)
header_reads bytes fits none =
    let n = tag_len_of bytes in
    let complete = begins_complete bytes n (begins bytes none) refl in
    record {
      encoded = take n bytes;
      encodes = complete_encodes (take n bytes) (AreBytes-take n bytes fits) complete;
      parts = sym (take-append-drop n bytes);
    }

header_is_read : (bytes : List ℕ) (read : MacsecHeader × List ℕ) → IsMacsecHeader bytes read
    → (first_row (macsec_header_rows bytes) ≡ None) × (read ≡ macsec_header_read bytes)
header_is_read bytes read a =
    let e = a.encoded in
    let complete = encoded_complete e read.0 a.encodes in
    let len : length e ≡ tag_len_of bytes = prefix_len e read.1 complete ∙ ap tag_len_of (sym a.parts) in
    let header = encoded_read e read.0 a.encodes in
    let same : read ≡ macsec_header_parts e read.1 = λ i. (header i, read.1) in (
      none_refuses_header bytes (subst BeginsMacsec (sym a.parts) (prefix_begins e read.1 complete)),
      same ∙ cut_same tag_len_of macsec_header_parts bytes e read.1 a.parts len,
    )

-- The table and the reading function of tags agree with their definition.
pub macsec_header_is_read : IsReadBy IsMacsecHeader macsec_header_rows macsec_header_read
macsec_header_is_read = record { reads = header_reads; is_read = header_is_read }

-- ---- packets

-- The packet that the bytes are, and the trailing bytes.
abbrev macsec_parts : List ℕ → List ℕ → Parts MacsecHeader
macsec_parts bytes left =
    parts_of (macsec_header_of (take (tag_len_of bytes) bytes)) (drop (tag_len_of bytes) bytes) left

-- The packet at the start of the bytes.
abbrev pub macsec_read : List ℕ → Parts MacsecHeader
macsec_read bytes = cut_at macsec_len_of macsec_parts bytes

-- Properties of bytes that no row of the packet's table rejects.
record Holds (bytes : List ℕ) : Type 0 where
  header : first_row (macsec_header_rows bytes) ≡ None
  within : macsec_len_of bytes ≤ length bytes

holds : (bytes : List ℕ) → first_row (macsec_rows bytes) ≡ None → Holds bytes
holds bytes none = record {
  header = grind (arith, common_steps);
  within = grind (arith, common_steps);
}

none_refuses : (bytes : List ℕ) → first_row (macsec_header_rows bytes) ≡ None → macsec_len_of bytes ≤ length bytes
    → first_row (macsec_rows bytes) ≡ None
none_refuses bytes header within = grind (arith, common_steps)

-- Bytes have the tag length, short length and ether type length of a complete tag.
record HasLengthsOf (bytes tag : List ℕ) : Type 0 where
  tag_len : tag_len_of bytes ≡ length tag
  short_len : short_len_of bytes ≡ short_len_of tag
  type : type_len_by (modification_of bytes) ≡ ptype_len (macsec_header_of tag).ptype

stated : (tag rest : List ℕ) → IsComplete tag → HasLengthsOf (tag ++ rest) tag
stated tag rest complete =
    let shares = prefix_shares tag rest complete in
    record {
      tag_len = sym (prefix_len tag rest complete);
      short_len = ap (λ (n : ℕ). n % 64) shares.second;
      type = ap (λ (n : ℕ). type_len_by (n / 4 % 4)) shares.first ∙ type_len_by_same (modification_of tag) _;
    }

-- A packet has the length that its tag determines.
len_same : (bytes tag payload left : List ℕ) → bytes ≡ tag ++ (payload ++ left) → HasLengthsOf bytes tag
    → IsMacsecCut (parts_of (macsec_header_of tag) payload left) → length (tag ++ payload) ≡ macsec_len_of bytes
len_same bytes tag payload left parts a (inl cut) =
    grind (arith, common_steps, a.tag_len, a.short_len, a.type, cut.0, cut.1)
len_same bytes tag payload left parts a (inr all) = grind (arith, common_steps, a.short_len, all.0, all.1)

-- The tag and the payload can be parsed from the bytes of a packet.
shown_tag : (tag payload : List ℕ) → IsComplete tag
    → (take (tag_len_of (tag ++ payload)) (tag ++ payload) ≡ tag)
    × (drop (tag_len_of (tag ++ payload)) (tag ++ payload) ≡ payload)
shown_tag tag payload complete =
    let len = prefix_len tag payload complete in
    (take_at tag payload _ len, drop_at tag payload _ len)

is_read : (bytes : List ℕ) (packet : Parts MacsecHeader) → IsMacsec bytes packet
    → (first_row (macsec_rows bytes) ≡ None) × (packet ≡ macsec_read bytes)
is_read bytes packet a =
    let tag = a.encoded in
    let complete = encoded_complete tag packet.header a.encodes in
    let header = encoded_read tag packet.header a.encodes in
    let after = packet.payload ++ packet.left in
    let parts : bytes ≡ tag ++ after = a.parts ∙ append_assoc tag packet.payload packet.left in
    let Says : List ℕ → Type 0 = λ x. HasLengthsOf x tag in
    let prefix : HasLengthsOf bytes tag = subst Says (sym parts) (stated tag after complete) in
    let cut : IsMacsecCut (parts_of (macsec_header_of tag) packet.payload packet.left) =
    subst (λ h. IsMacsecCut (parts_of h packet.payload packet.left)) header a.cut in
    let len = len_same bytes tag packet.payload packet.left parts prefix cut in
    let shown = shown_tag tag packet.payload complete in
    let same : packet ≡ macsec_parts (tag ++ packet.payload) packet.left =
    λ i. record {
      header = (header ∙ ap macsec_header_of (sym shown.0)) i;
      payload = sym shown.1 i;
      left = packet.left;
    } in
    let begins : BeginsMacsec bytes = subst BeginsMacsec (sym parts) (prefix_begins tag after complete) in
    let within : macsec_len_of bytes ≤ length bytes =
    omega (arith, len, ap length a.parts, length-append (tag ++ packet.payload) packet.left) in (
      none_refuses bytes (none_refuses_header bytes begins) within,
      same ∙ cut_same macsec_len_of macsec_parts bytes (tag ++ packet.payload) packet.left a.parts len,
    )

-- A short length other than 0 includes the ether type, if it is not rejected as too small.
space_enough : (m short_len : ℕ) → ¬ ((m ≡ 0) × (short_len ≡ 1)) → 0 < short_len → type_len_by m ≤ short_len
space_enough zero zero space present = absurd (omega arith)
space_enough zero (suc zero) space present = absurd (space (refl, refl))
space_enough zero (suc (suc s)) space present = omega arith
space_enough (suc m) short_len space present = omega arith

none : (xs : List ℕ) → length xs ≡ 0 → xs ≡ []
none [] len = refl
none (x ∷ xs) len = absurd (omega arith)

-- The short length limits the payload to the length of the packet.
cuts : (bytes tag payload left : List ℕ) → IsComplete tag → bytes ≡ (tag ++ payload) ++ left
    → length (tag ++ payload) ≡ macsec_len_of bytes → IsMacsecCut (parts_of (macsec_header_of tag) payload left)
cuts bytes tag payload left complete parts len =
    let Says : List ℕ → Type 0 = λ x. HasLengthsOf x tag in
    let a : HasLengthsOf bytes tag =
    subst Says (sym (parts ∙ append_assoc tag payload left)) (stated tag (payload ++ left) complete) in
    elim (cases_eq (short_len_of bytes) 0) [
      | inl all ↦ inr (sym a.short_len ∙ all, none left (grind (arith, common_steps)))
      | inr some ↦
          let present : 0 < short_len_of tag = omega (arith, some, a.short_len) in
          let enough = space_enough (modification_of tag) (short_len_of tag) complete.room present in
          let type_len = type_len_by_same (modification_of tag) (word_at tag (6 + 8 * sci_bit_of tag)) in
          inl (present, grind (arith, common_steps, a.tag_len, a.short_len, a.type, enough, type_len))
    ]

-- The tag is not longer than the packet.
tag_within : (bytes : List ℕ) → BeginsMacsec bytes → tag_len_of bytes ≤ macsec_len_of bytes
tag_within bytes a = grind (arith, common_steps, a.whole)

-- A prefix that includes the tag starts with a complete tag.
begins_prefix : (bytes : List ℕ) (m : ℕ) → BeginsMacsec bytes → tag_len_of bytes ≤ m → BeginsMacsec (take m bytes)
begins_prefix bytes m a within =
    let shares : SharesFlags (take m bytes) bytes = take_shares bytes m (omega arith) in
    let same = same_tag_len (take m bytes) bytes shares in
    record {
      fixed = omega (arith, a.fixed, within, length-take m bytes);
      version = omega (arith, a.version, shares.first);
      room = λ none. a.room (same_space (take m bytes) bytes shares none);
      whole = omega (arith, a.whole, same, within, length-take m bytes);
    }

reads : (bytes : List ℕ) → AreBytes bytes → first_row (macsec_rows bytes) ≡ None → IsMacsec bytes (macsec_read bytes)
reads bytes fits none =
    let free = holds bytes none in
    let present = begins bytes free.header in
    let m = macsec_len_of bytes in
    let seen = take m bytes in
    let t = tag_len_of seen in
    let tag = take t seen in
    let payload = drop t seen in
    let left = drop m bytes in
    let complete = begins_complete seen t (begins_prefix bytes m present (tag_within bytes present)) refl in
    let parts : bytes ≡ (tag ++ payload) ++ left =
    sym (take-append-drop m bytes) ∙ ap (λ (x : List ℕ). x ++ left) (sym (take-append-drop t seen)) in
    let len : length (tag ++ payload) ≡ m =
    ap length (take-append-drop t seen) ∙ omega (arith, free.within, length-take m bytes) in
    record {
      encoded = tag;
      encodes = complete_encodes tag (AreBytes-take t seen (AreBytes-take m bytes fits)) complete;
      parts = parts;
      cut = cuts bytes tag payload left complete parts len;
    }

-- The table and the reading function of packets agree with their definition.
pub macsec_is_read : IsReadBy IsMacsec macsec_rows macsec_read
macsec_is_read = record { reads = reads; is_read = is_read }

-- Bytes whose tag is rejected are no packet.
pub tag_refused : (bytes : List ℕ) (packet : Parts MacsecHeader) (error : HeaderSliceError)
    → first_row (macsec_header_rows bytes) ≡ Some error → IsMacsec bytes packet → ⊥
tag_refused bytes packet error refused a =
    none-some error (sym (holds bytes (is_read bytes packet a).0).header ∙ refused)

-- ---- slices

-- The end of a packet in bytes, if its tag has n bytes and the slice has `all` bytes.
abbrev pub EndsAt : List ℕ → ℕ → ℕ → ℕ → Type 0
EndsAt tag n all end =
    ((0 < short_len_of tag) × (end ≡ n + payload_len_of tag)) ⊎ ((short_len_of tag ≡ 0) × (end ≡ all))

ends : (bytes tag rest : List ℕ) (n end : ℕ) → bytes ≡ tag ++ rest → IsComplete tag → n ≡ length tag
    → EndsAt tag n (length bytes) end → (n ≤ end) × (macsec_len_of bytes ≡ end)
ends bytes tag rest n end parts complete len at =
    let Shares : List ℕ → Type 0 = λ x. SharesFlags x tag in
    let shares : SharesFlags bytes tag = subst Shares (sym parts) (prefix_shares tag rest complete) in
    let short_len : short_len_of bytes ≡ short_len_of tag = ap (λ (k : ℕ). k % 64) shares.second in
    let tag_len = same_tag_len bytes tag shares in
    let payload_len = same_payload_len bytes tag shares in
    elim at [
      | inl some ↦ (
        omega (arith, some.1),
        grind (arith, common_steps, some.0, some.1, short_len, tag_len, payload_len, complete.whole),
      )
      | inr all ↦ (
        omega (arith, all.1, ap length parts, length-append tag rest),
        grind (arith, common_steps, all.0, all.1, short_len),
      )
    ]

-- Bytes that end before the packet of their tag are rejected.
pub cut_refused : (bytes tag rest : List ℕ) (n end : ℕ) → bytes ≡ tag ++ rest → IsComplete tag → n ≡ length tag
    → EndsAt tag n (length bytes) end → length bytes < end
    → first_row (macsec_rows bytes)
    ≡ Some (header_error.Len (len_error end (length bytes) source.Slice layer.MacsecPacket))
cut_refused bytes tag rest n end parts complete len at past =
    let begins : BeginsMacsec bytes = subst BeginsMacsec (sym parts) (prefix_begins tag rest complete) in
    let error : ℕ → HeaderSliceError =
    λ m. header_error.Len (len_error m (length bytes) source.Slice layer.MacsecPacket) in
    let row : ℕ → List (Bool × HeaderSliceError) = λ m. (ltb (length bytes) m, error m) ∷ [] in
    first_row-append_none (macsec_header_rows bytes) (row (macsec_len_of bytes)) (none_refuses_header bytes begins)
    ∙ ap (λ (m : ℕ). first_row (row m)) (ends bytes tag rest n end parts complete len at).1
    ∙ ap (λ (r : Bool). first_row ((r, error end) ∷ [])) (lt-ltb (length bytes) end past)

-- A packet in two slices: its tag, and the payload up to the end of the packet.
pub record IsSliced (bytes tag payload left : List ℕ) : Type 0 where
  pub parts : bytes ≡ (tag ++ payload) ++ left
  pub is : IsMacsec bytes (parts_of (macsec_header_of tag) payload left)

pub sliced_packet : (bytes tag rest : List ℕ) (n end : ℕ) → AreBytes bytes → bytes ≡ tag ++ rest → IsComplete tag
    → n ≡ length tag → EndsAt tag n (length bytes) end → end ≤ length bytes
    → IsSliced bytes tag (take (end - n) (drop n bytes)) (drop end bytes)
sliced_packet bytes tag rest n end fits parts complete len at within =
    let e = ends bytes tag rest n end parts complete len at in
    let after = drop n bytes in
    let payload = take (end - n) after in
    let left = drop end bytes in
    let prefix : take n bytes ≡ tag = ap (take n) parts ∙ take_at tag rest n (sym len) in
    let past : drop (end - n) after ≡ left =
    drop-drop (end - n) n bytes ∙ ap (λ (k : ℕ). drop k bytes) (omega (arith, e.0)) in
    let split : after ≡ payload ++ left =
    sym (take-append-drop (end - n) after) ∙ ap (λ (s : List ℕ). payload ++ s) past in
    let all : bytes ≡ (tag ++ payload) ++ left =
    sym (take-append-drop n bytes)
    ∙ (λ i. prefix i ++ split i)
    ∙ sym (append_assoc tag payload left) in
    let begins : BeginsMacsec bytes = subst BeginsMacsec (sym parts) (prefix_begins tag rest complete) in
    let free = none_refuses bytes (none_refuses_header bytes begins) (omega (arith, e.1, within)) in
    let payload_len : length payload ≡ end - n =
    omega (arith, within, length-take (end - n) after, length-drop n bytes) in
    let size : length (tag ++ payload) ≡ macsec_len_of bytes =
    omega (arith, e.0, e.1, len, length-append tag payload, payload_len) in
    let shown = shown_tag tag payload complete in
    let is = shown_is macsec_len_of macsec_parts macsec_is_read bytes (tag ++ payload) left fits free all size in
    record {
      parts = all;
      is = subst (IsMacsec bytes) (λ i. parts_of (macsec_header_of (shown.0 i)) (shown.1 i) left) is.0;
    }

-- The payload of a tag has the bytes that it was made from.
pub payload_by_bytes : (p : MacsecPType) (source : LenSource) (bytes : List ℕ)
    → macsec_payload_bytes (payload_by p source bytes) ≡ bytes
payload_by_bytes (ptype.Unmodified type) source bytes = refl
payload_by_bytes ptype.Modified source bytes = refl
payload_by_bytes ptype.Encrypted source bytes = refl
payload_by_bytes ptype.EncryptedUnmodified source bytes = refl
