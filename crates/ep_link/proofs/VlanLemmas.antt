-- Lemmas about parsing the bytes of VLAN tags.
use Rattle.std.proofs.Common.{◌≡◌, ℕ, ◌+◌, ◌*◌, ◌/◌, ◌%◌, ◌^◌, ◌<◌, ◌≤◌, ◌==◌, List, [], ◌∷◌}
use Rattle.std.proofs.Common.{◌++◌, None, length, slice_index, drop, sym, ap, ◌∙◌, arith, refl}
use Rattle.std.proofs.lemmas.Grind.{common_steps}
use Rattle.std.proofs.lemmas.List.{append-nil, append_assoc, length-append, length-drop}
use Rattle.ep_base.specs.Bytes.{AreBytes, word_at, bit}
use Rattle.ep_base.specs.Tables.{Parts, first_row, parts_of}
use Rattle.ep_base.proofs.BytesLemmas.{AreBytes-drop, bit_le, bit_read, bit_of_read, word_cells}
use Rattle.ep_base.proofs.TableLemmas.{IsReadBy}
use Rattle.ep_link.specs.declared.link_ext.single_vlan_header.SingleVlanHeader.{SingleVlanHeader}
use Rattle.ep_link.specs.declared.link_ext.double_vlan_header.DoubleVlanHeader.{DoubleVlanHeader}
use Rattle.ep_link.specs.Vlan.{FitsVlan, IsVlan, vlan_bytes, vlan_header_of, vlan_parts}
use Rattle.ep_link.specs.Vlan.{vlan_rows, IsDoubleVlan, double_vlan_rows}

-- The two tags at the start of at least 8 bytes.
abbrev pub double_vlan_header_of : List ℕ → DoubleVlanHeader
double_vlan_header_of bytes = record { outer = vlan_header_of bytes; inner = vlan_header_of (drop 4 bytes) }

-- ---- one tag

-- The wire bytes of a tag are parsed as this tag, whatever follows them.
header_read : (h : SingleVlanHeader) (rest : List ℕ) → FitsVlan h → h ≡ vlan_header_of (vlan_bytes h ++ rest)
header_read h rest fits =
    let bytes = vlan_bytes h ++ rest in
    let flag = bit_le h.drop_eligible_indicator in
    let pcp : h.pcp ≡ slice_index bytes 0 / 32 = omega (arith, fits.pcp, fits.vlan_id, flag) in
    let dei : slice_index bytes 0 / 16 % 2 ≡ bit h.drop_eligible_indicator =
    omega (arith, fits.pcp, fits.vlan_id, flag) in
    let vlan_id : h.vlan_id ≡ word_at bytes 0 % 4096 = omega (arith, fits.pcp, fits.vlan_id, flag) in
    let ether_type : h.ether_type.0 ≡ word_at bytes 2 = omega (arith, fits.ether_type) in
    λ i. record {
      pcp = pcp i;
      drop_eligible_indicator = sym (bit_read _ h.drop_eligible_indicator dei) i;
      vlan_id = vlan_id i;
      ether_type = record { 0 = ether_type i };
    }

-- Bytes 0 and 1 can be rebuilt from the priority code point, the drop eligible indicator and the VLAN identifier.
tag_same : (upper lower : ℕ) → lower < 256 → {d : ℕ} → d ≡ upper / 16 % 2
    → 2 ^ 13 * (upper / 32) + 2 ^ 12 * d + (256 * upper + lower) % 4096 ≡ 256 * upper + lower
tag_same upper lower below d = omega (arith, d, below)

-- The first 4 bytes are the wire bytes of the tag that is parsed from them.
vlan_prefix : (bytes : List ℕ) → AreBytes bytes → 4 ≤ length bytes
    → bytes ≡ vlan_bytes (vlan_header_of bytes) ++ drop 4 bytes
vlan_prefix bytes fits long =
    let dei = slice_index bytes 0 / 16 % 2 in
    let flag : bit (dei == 1) ≡ dei = bit_of_read dei (omega arith) in
    let tag = 2 ^ 13 * (slice_index bytes 0 / 32) + 2 ^ 12 * bit (dei == 1) + word_at bytes 0 % 4096 in
    let same : tag ≡ word_at bytes 0 = tag_same (slice_index bytes 0) (slice_index bytes 1) (fits 1) flag in
    let cells : bytes
    ≡ slice_index bytes 0 ∷ slice_index bytes 1 ∷ slice_index bytes 2 ∷ slice_index bytes 3 ∷ drop 4 bytes =
    grind (arith, common_steps) in
    cells ∙ (λ i. word_cells bytes fits 0 same i ++ word_cells bytes fits 2 refl i ++ drop 4 bytes)

vlan_fits : (bytes : List ℕ) → AreBytes bytes → FitsVlan (vlan_header_of bytes)
vlan_fits bytes fits = record {
  pcp = omega (arith, fits 0);
  vlan_id = omega arith;
  ether_type = omega (arith, fits 2, fits 3);
}

-- A payload without trailing bytes extends to the end.
all_parts : (bytes prefix payload left : List ℕ) → bytes ≡ (prefix ++ payload) ++ left → left ≡ []
    → bytes ≡ prefix ++ payload
all_parts bytes prefix payload left parts cut =
    parts ∙ ap (λ (l : List ℕ). (prefix ++ payload) ++ l) cut ∙ append-nil (prefix ++ payload)

-- A tag, and its payload up to the end of the bytes.
abbrev pub vlan_read : List ℕ → Parts SingleVlanHeader
vlan_read bytes = vlan_parts bytes []

vlan_complete : (bytes : List ℕ) → AreBytes bytes → 4 ≤ length bytes → IsVlan bytes (vlan_read bytes)
vlan_complete bytes fits long = record {
  fits = vlan_fits bytes fits;
  parts = vlan_prefix bytes fits long ∙ sym (append-nil (vlan_bytes (vlan_header_of bytes) ++ drop 4 bytes));
  cut = refl;
}

-- The tag and the payload are the parsed ones, and there are at least 4 bytes.
record ShowsVlan (bytes : List ℕ) (tagged : Parts SingleVlanHeader) : Type 0 where
  same : tagged ≡ vlan_read bytes
  long : 4 ≤ length bytes

vlan_shows : (bytes : List ℕ) (tagged : Parts SingleVlanHeader) → IsVlan bytes tagged → ShowsVlan bytes tagged
vlan_shows bytes tagged a =
    let parts = all_parts bytes (vlan_bytes tagged.header) tagged.payload tagged.left a.parts a.cut in
    let header : tagged.header ≡ vlan_header_of bytes =
    header_read tagged.header tagged.payload a.fits ∙ ap vlan_header_of (sym parts) in
    let payload : tagged.payload ≡ drop 4 bytes = ap (drop 4) (sym parts) in
    record {
      same = λ i. record { header = header i; payload = payload i; left = a.cut i };
      long = omega (arith, ap length parts, length-append (vlan_bytes tagged.header) tagged.payload);
    }

vlan_reads : (bytes : List ℕ) → AreBytes bytes → first_row (vlan_rows bytes) ≡ None → IsVlan bytes (vlan_read bytes)
vlan_reads bytes fits none = vlan_complete bytes fits (grind (arith, common_steps))

vlan_none : (bytes : List ℕ) → 4 ≤ length bytes → first_row (vlan_rows bytes) ≡ None
vlan_none bytes long = grind (arith, common_steps)

-- The table and the reading function of a tag agree with its definition.
pub vlan_is_read : IsReadBy IsVlan vlan_rows vlan_read
vlan_is_read = record {
  reads = vlan_reads;
  is_read = λ bytes tagged a. let shows = vlan_shows bytes tagged a in (vlan_none bytes shows.long, shows.same);
}

-- ---- two tags

-- Two tags, and their payload up to the end of the bytes.
abbrev pub double_vlan_read : List ℕ → Parts DoubleVlanHeader
double_vlan_read bytes = parts_of (double_vlan_header_of bytes) (drop 4 (drop 4 bytes)) []

-- A tag followed by a tag and its payload is two tags and a payload.
double_vlan_complete : (bytes : List ℕ) → AreBytes bytes → 8 ≤ length bytes → IsDoubleVlan bytes (double_vlan_read bytes)
double_vlan_complete bytes fits long =
    let tagged = drop 4 bytes in
    let tagged_fits = AreBytes-drop 4 bytes fits in
    let outer = vlan_bytes (vlan_header_of bytes) in
    let inner = vlan_bytes (vlan_header_of tagged) in
    record {
      outer = vlan_fits bytes fits;
      inner = vlan_fits tagged tagged_fits;
      parts = vlan_prefix bytes fits (omega (arith, long))
          ∙ ap (λ (l : List ℕ). outer ++ l) (vlan_prefix tagged tagged_fits (omega (arith, long, length-drop 4 bytes)))
          ∙ sym (append_assoc outer inner (drop 4 tagged)) ∙ sym (append-nil ((outer ++ inner) ++ drop 4 tagged));
      cut = refl;
    }

-- Two tags are a tag whose payload starts with the inner tag.
double_vlan_outer : (bytes : List ℕ) (tagged : Parts DoubleVlanHeader) → IsDoubleVlan bytes tagged
    → IsVlan bytes (parts_of tagged.header.outer (vlan_bytes tagged.header.inner ++ tagged.payload) [])
double_vlan_outer bytes tagged a =
    let outer = vlan_bytes tagged.header.outer in
    let inner = vlan_bytes tagged.header.inner in
    record {
      fits = a.outer;
      parts = all_parts bytes (outer ++ inner) tagged.payload tagged.left a.parts a.cut
          ∙ append_assoc outer inner tagged.payload ∙ sym (append-nil (outer ++ (inner ++ tagged.payload)));
      cut = refl;
    }

double_vlan_inner : (header : SingleVlanHeader) (payload : List ℕ) → FitsVlan header
    → IsVlan (vlan_bytes header ++ payload) (parts_of header payload [])
double_vlan_inner header payload fits =
    record { fits = fits; parts = sym (append-nil (vlan_bytes header ++ payload)); cut = refl }

-- The tags and the payload are the parsed ones, and there are at least 8 bytes.
record ShowsDoubleVlan (bytes : List ℕ) (tagged : Parts DoubleVlanHeader) : Type 0 where
  same : tagged ≡ double_vlan_read bytes
  long : 8 ≤ length bytes

double_vlan_shows : (bytes : List ℕ) (tagged : Parts DoubleVlanHeader) → IsDoubleVlan bytes tagged
    → ShowsDoubleVlan bytes tagged
double_vlan_shows bytes tagged a =
    let after = vlan_bytes tagged.header.inner ++ tagged.payload in
    let outer = vlan_shows bytes _ (double_vlan_outer bytes tagged a) in
    let inner = vlan_shows after _ (double_vlan_inner tagged.header.inner tagged.payload a.inner) in
    let same : after ≡ drop 4 bytes = λ i. (outer.same i).payload in
    let shown : parts_of tagged.header.inner tagged.payload [] ≡ vlan_read (drop 4 bytes) =
    inner.same ∙ ap vlan_read same in
    record {
      same = λ i. record {
        header = record { outer = (outer.same i).header; inner = (shown i).header };
        payload = (shown i).payload;
        left = a.cut i;
      };
      long = omega (arith, inner.long, outer.long, ap length same, length-drop 4 bytes);
    }

double_vlan_reads : (bytes : List ℕ) → AreBytes bytes → first_row (double_vlan_rows bytes) ≡ None
    → IsDoubleVlan bytes (double_vlan_read bytes)
double_vlan_reads bytes fits none = double_vlan_complete bytes fits (grind (arith, common_steps))

double_vlan_none : (bytes : List ℕ) → 8 ≤ length bytes → first_row (double_vlan_rows bytes) ≡ None
double_vlan_none bytes long = grind (arith, common_steps)

-- The table and the reading function of two tags agree with their definition.
pub double_vlan_is_read : IsReadBy IsDoubleVlan double_vlan_rows double_vlan_read
double_vlan_is_read = record {
  reads = double_vlan_reads;
  is_read = λ bytes tagged a.
      let shows = double_vlan_shows bytes tagged a in (double_vlan_none bytes shows.long, shows.same);
}
