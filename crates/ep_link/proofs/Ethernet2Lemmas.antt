-- Lemmas about parsing the bytes of an Ethernet II frame.
use Rattle.std.proofs.Common.{◌≡◌, ℕ, ◌≤◌, List, [], ◌∷◌, ◌++◌, None, length}
use Rattle.std.proofs.Common.{get_or, drop, sym, ap, subst, ◌∙◌, arith, refl}
use Rattle.std.proofs.lemmas.Grind.{common_steps}
use Rattle.std.proofs.lemmas.List.{append-nil}
use Rattle.ep_base.specs.Bytes.{AreBytes, word_at}
use Rattle.ep_base.specs.Tables.{Parts, first_row}
use Rattle.ep_base.proofs.BytesLemmas.{cells_6, AreBytes-take, AreBytes-drop}
use Rattle.ep_base.proofs.TableLemmas.{IsReadBy}
use Rattle.ep_link.specs.declared.link.ethernet2_header.Ethernet2Header.{Ethernet2Header}
use Rattle.ep_link.specs.Ethernet2.{FitsEthernet2, IsEthernet2, ethernet2_bytes}
use Rattle.ep_link.specs.Ethernet2.{ethernet2_header_of, ethernet2_parts, ethernet2_rows}

-- ---- bytes are the wire bytes of the parsed header

-- The parsed header has fields that fit.
ethernet2_fits : (bytes : List ℕ) → AreBytes bytes → 14 ≤ length bytes → FitsEthernet2 (ethernet2_header_of bytes)
ethernet2_fits bytes fits long = record {
  source_length = grind (arith, common_steps);
  source_bytes = AreBytes-take 6 (drop 6 bytes) (AreBytes-drop 6 bytes fits);
  destination_length = grind (arith, common_steps);
  destination_bytes = AreBytes-take 6 bytes fits;
  ether_type = omega (arith, fits 12, fits 13);
}

-- The wire bytes of the parsed header are the first 14 bytes.
ethernet2_prefix : (bytes : List ℕ) → AreBytes bytes → 14 ≤ length bytes
    → bytes ≡ ethernet2_bytes (ethernet2_header_of bytes) ++ drop 14 bytes
ethernet2_prefix bytes fits long = grind (arith, common_steps)

-- ---- the wire bytes of a header are parsed as this header

-- The elements of a list of length 6.
abbrev six_at : List ℕ → List ℕ
six_at xs = get_or xs 0 0 ∷ get_or xs 1 0 ∷ get_or xs 2 0 ∷ get_or xs 3 0 ∷ get_or xs 4 0 ∷ get_or xs 5 0 ∷ []

-- The header with its addresses written as lists of six elements.
abbrev pub with_cells : Ethernet2Header → Ethernet2Header
with_cells h = record h { source = six_at h.source; destination = six_at h.destination }

with_cells-same : (h : Ethernet2Header) → length h.source ≡ 6 → length h.destination ≡ 6 → with_cells h ≡ h
with_cells-same h source destination i =
    record h { source = sym (cells_6 h.source source) i; destination = sym (cells_6 h.destination destination) i }

-- Writing the addresses as lists of elements keeps the wire bytes.
pub cells_are_bytes : (h : Ethernet2Header) → length h.source ≡ 6 → length h.destination ≡ 6
    → ethernet2_bytes (with_cells h) ≡ ethernet2_bytes h
cells_are_bytes h source destination = ap ethernet2_bytes (with_cells-same h source destination)

-- Properties of bytes that are a header and its payload.
record IsRead (bytes : List ℕ) (h : Ethernet2Header) (payload : List ℕ) : Type 0 where
  long : 14 ≤ length bytes
  header : h ≡ ethernet2_header_of bytes
  after : payload ≡ drop 14 bytes

with_cells-read : (h : Ethernet2Header) (payload : List ℕ) → FitsEthernet2 h
    → IsRead (ethernet2_bytes (with_cells h) ++ payload) (with_cells h) payload
with_cells-read h payload fits =
    let bytes = ethernet2_bytes (with_cells h) ++ payload in
    let ether_type : h.ether_type.0 ≡ word_at bytes 12 = omega (arith, fits.ether_type) in
    record {
      long = omega arith;
      header = λ i. record {
        source = six_at h.source;
        destination = six_at h.destination;
        ether_type = record { 0 = ether_type i };
      };
      after = refl;
    }

-- The bytes of a frame have these properties.
frame_read : (bytes : List ℕ) (frame : Parts Ethernet2Header) → IsEthernet2 bytes frame
    → IsRead bytes frame.header frame.payload
frame_read bytes frame is =
    let h = frame.header in
    let payload = frame.payload in
    let prefix = ethernet2_bytes h ++ payload in
    let parts : bytes ≡ prefix = is.parts ∙ ap (λ (l : List ℕ). prefix ++ l) is.cut ∙ append-nil prefix in
    let OfHeader : Ethernet2Header → Type 0 = λ k. IsRead (ethernet2_bytes k ++ payload) k payload in
    let OfBytes : List ℕ → Type 0 = λ s. IsRead s h payload in
    let same = with_cells-same h is.fits.source_length is.fits.destination_length in
    subst OfBytes (sym parts) (subst OfHeader same (with_cells-read h payload is.fits))

-- ---- frames

abbrev pub ethernet2_read : List ℕ → Parts Ethernet2Header
ethernet2_read bytes = ethernet2_parts bytes []

reads : (bytes : List ℕ) → AreBytes bytes → first_row (ethernet2_rows bytes) ≡ None
    → IsEthernet2 bytes (ethernet2_read bytes)
reads bytes fits none =
    let long : 14 ≤ length bytes = grind (arith, common_steps) in
    record {
      fits = ethernet2_fits bytes fits long;
      parts = ethernet2_prefix bytes fits long
          ∙ sym (append-nil (ethernet2_bytes (ethernet2_header_of bytes) ++ drop 14 bytes));
      cut = refl;
    }

none_refuses : (bytes : List ℕ) → 14 ≤ length bytes → first_row (ethernet2_rows bytes) ≡ None
none_refuses bytes long = grind (arith, common_steps)

is_read : (bytes : List ℕ) (frame : Parts Ethernet2Header) → IsEthernet2 bytes frame
    → (first_row (ethernet2_rows bytes) ≡ None) × (frame ≡ ethernet2_read bytes)
is_read bytes frame is =
    let read = frame_read bytes frame is in
    let same : frame ≡ ethernet2_read bytes = λ i. record {
      header = read.header i;
      payload = read.after i;
      left = is.cut i;
    } in
    (none_refuses bytes read.long, same)

pub ethernet2_is_read : IsReadBy IsEthernet2 ethernet2_rows ethernet2_read
ethernet2_is_read = record { reads = reads; is_read = is_read }
