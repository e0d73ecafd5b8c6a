-- Lemmas about parsing the bytes of an ARP packet.
use Rattle.std.proofs.Common.{◌≡◌, ℕ, ◌+◌, ◌-◌, ◌*◌, ◌≤◌, List, [], ◌∷◌, ◌++◌}
use Rattle.std.proofs.Common.{None, length, get_or, take, drop, slice_range, refl, sym, ap, ◌∙◌, arith}
use Rattle.std.proofs.lemmas.Grind.{common_steps}
use Rattle.std.proofs.lemmas.List.Edits.{length-between}
use Rattle.std.proofs.lemmas.Slice.{between_to_end}
use Rattle.std.proofs.lemmas.List.{append_assoc, length-append, length-take, take-append-drop, drop-drop, get_or-take}
use Rattle.ep_base.specs.Bytes.{AreBytes, word_at}
use Rattle.ep_base.specs.Tables.{first_row}
use Rattle.ep_base.proofs.BytesLemmas.{same_parts, elements, drop-elements, AreBytes-take, AreBytes-drop, word_cells}
use Rattle.ep_base.proofs.TableLemmas.{IsReadBy, cut_at, cut_same}
use Rattle.ep_link.specs.Arp.{Arp, FitsArp, IsArp, arp_bytes, arp_len_of, arp_packet_of, arp_parts, arp_rows}
use Rattle.ep_link.specs.Arp.{arp_address_rows}

-- ---- parts of a list

-- The bytes from i on consist of the bytes from i to j and the bytes from j on.
drop_range : (i j : ℕ) (bytes : List ℕ) → i ≤ j → drop i bytes ≡ slice_range bytes i j ++ drop j bytes
drop_range i j bytes order =
    let after : drop (j - i) (drop i bytes) ≡ drop j bytes =
    drop-drop (j - i) i bytes ∙ ap (λ (k : ℕ). drop k bytes) (omega arith) in
    sym (take-append-drop (j - i) (drop i bytes)) ∙ ap (λ (s : List ℕ). slice_range bytes i j ++ s) after

-- The bytes from a on consist of four successive ranges.
four_parts : (bytes : List ℕ) (a b c d e : ℕ) → a ≤ b → b ≤ c → c ≤ d → length bytes ≤ e
    → drop a bytes
    ≡ slice_range bytes a b ++ slice_range bytes b c ++ slice_range bytes c d ++ slice_range bytes d e
four_parts bytes a b c d e ab bc cd end =
    let first = slice_range bytes a b in
    let second = slice_range bytes b c in
    let third = slice_range bytes c d in
    let fourth = slice_range bytes d e in
    let grouped : first ++ second ++ third ++ fourth ≡ first ++ (second ++ (third ++ fourth)) = simp append_assoc in
    drop_range a b bytes ab
    ∙ ap (λ (s : List ℕ). first ++ s) (drop_range b c bytes bc
    ∙ ap (λ (s : List ℕ). second ++ s) (drop_range c d bytes cd
    ∙ ap (λ (s : List ℕ). third ++ s) (sym (between_to_end bytes d e end))))
    ∙ sym grouped

AreBytes-range : (i j : ℕ) (bytes : List ℕ) → AreBytes bytes → AreBytes (slice_range bytes i j)
AreBytes-range i j bytes fits = AreBytes-take (j - i) (drop i bytes) (AreBytes-drop i bytes fits)

-- ---- addresses of a complete packet

-- The addresses have the lengths in bytes 4 and 5, and are all bytes after the first 8.
pub record HasAddresses (bytes : List ℕ) (p : Arp) : Type 0 where
  pub sender_hw : length p.sender_hw_addr ≡ get_or bytes 4 0
  pub sender_protocol : length p.sender_protocol_addr ≡ get_or bytes 5 0
  pub target_hw : length p.target_hw_addr ≡ get_or bytes 4 0
  pub target_protocol : length p.target_protocol_addr ≡ get_or bytes 5 0
  pub after : drop 8 bytes ≡ p.sender_hw_addr ++ p.sender_protocol_addr ++ p.target_hw_addr ++ p.target_protocol_addr

pub addresses : (bytes : List ℕ) → length bytes ≡ arp_len_of bytes → HasAddresses bytes (arp_packet_of bytes)
addresses bytes complete =
    let hw = get_or bytes 4 0 in
    let protocol = get_or bytes 5 0 in
    let a = 8 + hw in
    let b = 8 + hw + protocol in
    let c = 8 + 2 * hw + protocol in
    let d = 8 + 2 * hw + 2 * protocol in
    record {
      sender_hw = length-between bytes 8 a (omega (arith, complete)) ∙ omega arith;
      sender_protocol = length-between bytes a b (omega (arith, complete)) ∙ omega arith;
      target_hw = length-between bytes b c (omega (arith, complete)) ∙ omega arith;
      target_protocol = length-between bytes c d (omega (arith, complete)) ∙ omega arith;
      after = four_parts bytes 8 a b c d (omega arith) (omega arith) (omega arith) (omega (arith, complete));
    }

-- Addresses of equal lengths of at most 255 bytes are accepted for a new packet.
pub addresses_taken : (a b x y : List ℕ) → length x ≡ length a → length a ≤ 255 → length y ≡ length b
    → length b ≤ 255 → first_row (arp_address_rows a b x y) ≡ None
addresses_taken a b x y hw hw_len protocol protocol_len = grind (arith, common_steps)

-- ---- complete bytes are the wire bytes of the parsed packet

complete_fits : (bytes : List ℕ) → AreBytes bytes → length bytes ≡ arp_len_of bytes → FitsArp (arp_packet_of bytes)
complete_fits bytes fits complete =
    let hw = get_or bytes 4 0 in
    let protocol = get_or bytes 5 0 in
    let each = addresses bytes complete in
    record {
      hw_addr_type = omega (arith, fits 0, fits 1);
      proto_addr_type = omega (arith, fits 2, fits 3);
      operation = omega (arith, fits 6, fits 7);
      hw_addr_len = omega (arith, each.sender_hw, fits 4);
      same_hw_addr_len = each.target_hw ∙ sym each.sender_hw;
      protocol_addr_len = omega (arith, each.sender_protocol, fits 5);
      same_protocol_addr_len = each.target_protocol ∙ sym each.sender_protocol;
      sender_hw_addr = AreBytes-range 8 (8 + hw) bytes fits;
      sender_protocol_addr = AreBytes-range (8 + hw) (8 + hw + protocol) bytes fits;
      target_hw_addr = AreBytes-range (8 + hw + protocol) (8 + 2 * hw + protocol) bytes fits;
      target_protocol_addr = AreBytes-range (8 + 2 * hw + protocol) (8 + 2 * hw + 2 * protocol) bytes fits;
    }

complete_same : (bytes : List ℕ) → AreBytes bytes → length bytes ≡ arp_len_of bytes
    → bytes ≡ arp_bytes (arp_packet_of bytes)
unfolding elements
complete_same bytes fits complete =
    let each = addresses bytes complete in
    let hw = sym each.sender_hw in
    let protocol = sym each.sender_protocol in
    drop-elements 8 0 bytes (omega (arith, complete))
    ∙ (λ i. word_cells bytes fits 0 refl i ++ word_cells bytes fits 2 refl i ++ hw i ∷ protocol i ∷ []
    ++ word_cells bytes fits 6 refl i ++ each.after i)

-- ---- the wire bytes of a packet are parsed as this packet

-- Four parts with given lengths are determined by their concatenation.
same_four : (a b c d x y z w : List ℕ) → length a ≡ length x → length b ≡ length y → length c ≡ length z
    → a ++ b ++ c ++ d ≡ x ++ y ++ z ++ w → (a ≡ x) × (b ≡ y) × (c ≡ z) × (d ≡ w)
same_four a b c d x y z w first second third same =
    let of_two : length (a ++ b) ≡ length (x ++ y) = simp length-append (omega (arith, first, second)) in
    let of_three : length (a ++ b ++ c) ≡ length (x ++ y ++ z) =
    simp length-append (omega (arith, first, second, third)) in
    let three = same_parts (a ++ b ++ c) (x ++ y ++ z) d w of_three same in
    let two = same_parts (a ++ b) (x ++ y) c z of_two three.0 in
    let one = same_parts a x b y first two.0 in
    (one.0, one.1, two.1, three.1)

-- A packet has the length that its address lengths determine.
len_same : (p : Arp) → FitsArp p → length (arp_bytes p) ≡ arp_len_of (arp_bytes p)
len_same p fits = simp length-append (omega (arith, fits.same_hw_addr_len, fits.same_protocol_addr_len))

packet_same : (p : Arp) → FitsArp p → p ≡ arp_packet_of (arp_bytes p)
packet_same p fits =
    let bytes = arp_bytes p in
    let read = arp_packet_of bytes in
    let present = addresses bytes (len_same p fits) in
    let each = same_four p.sender_hw_addr p.sender_protocol_addr p.target_hw_addr p.target_protocol_addr
    read.sender_hw_addr read.sender_protocol_addr read.target_hw_addr read.target_protocol_addr
    (sym present.sender_hw) (sym present.sender_protocol) (fits.same_hw_addr_len ∙ sym present.target_hw) present.after in
    let hw_addr_type : p.hw_addr_type.0 ≡ word_at bytes 0 = omega (arith, fits.hw_addr_type) in
    let proto_addr_type : p.proto_addr_type.0 ≡ word_at bytes 2 = omega (arith, fits.proto_addr_type) in
    let operation : p.operation.0 ≡ word_at bytes 6 = omega (arith, fits.operation) in
    λ i. record {
      hw_addr_type = record { 0 = hw_addr_type i };
      proto_addr_type = record { 0 = proto_addr_type i };
      operation = record { 0 = operation i };
      sender_hw_addr = each.0 i;
      sender_protocol_addr = each.1 i;
      target_hw_addr = each.2 i;
      target_protocol_addr = each.3 i;
    }

-- ---- packets

abbrev pub arp_read : List ℕ → Arp × List ℕ
arp_read bytes = cut_at arp_len_of arp_parts bytes

-- Bytes that no row of the table rejects contain a complete packet.
holds : (bytes : List ℕ) → first_row (arp_rows bytes) ≡ None
    → (8 ≤ length bytes) × (arp_len_of bytes ≤ length bytes)
holds bytes none = grind (arith, common_steps)

none_refuses : (bytes : List ℕ) → 8 ≤ length bytes → arp_len_of bytes ≤ length bytes
    → first_row (arp_rows bytes) ≡ None
none_refuses bytes fixed within = grind (arith, common_steps)

reads : (bytes : List ℕ) → AreBytes bytes → first_row (arp_rows bytes) ≡ None → IsArp bytes (arp_read bytes)
reads bytes fits none =
    let present = holds bytes none in
    let n = arp_len_of bytes in
    let seen = take n bytes in
    let hw : get_or seen 4 0 ≡ get_or bytes 4 0 = get_or-take n bytes 4 0 (omega arith) in
    let protocol : get_or seen 5 0 ≡ get_or bytes 5 0 = get_or-take n bytes 5 0 (omega arith) in
    let seen_fits : AreBytes seen = AreBytes-take n bytes fits in
    let complete : length seen ≡ arp_len_of seen = omega (arith, length-take n bytes, hw, protocol, present) in
    record {
      fits = complete_fits seen seen_fits complete;
      parts = sym (take-append-drop n bytes)
          ∙ ap (λ (s : List ℕ). s ++ drop n bytes) (complete_same seen seen_fits complete);
    }

is_read : (bytes : List ℕ) (read : Arp × List ℕ) → IsArp bytes read
    → (first_row (arp_rows bytes) ≡ None) × (read ≡ arp_read bytes)
is_read bytes read is =
    let p = read.0 in
    let seen = arp_bytes p in
    let hw : get_or bytes 4 0 ≡ length p.sender_hw_addr = ap (λ (s : List ℕ). get_or s 4 0) is.parts in
    let protocol : get_or bytes 5 0 ≡ length p.sender_protocol_addr = ap (λ (s : List ℕ). get_or s 5 0) is.parts in
    let size : length seen ≡ arp_len_of bytes = omega (arith, len_same p is.fits, hw, protocol) in
    let len : length bytes ≡ length seen + length read.1 = ap length is.parts ∙ length-append seen read.1 in
    let same : read ≡ arp_parts seen read.1 = λ i. (packet_same p is.fits i, read.1) in (
      none_refuses bytes (omega (arith, len, size)) (omega (arith, len, size)),
      same ∙ cut_same arp_len_of arp_parts bytes seen read.1 is.parts size,
    )

pub arp_is_read : IsReadBy IsArp arp_rows arp_read
arp_is_read = record { reads = reads; is_read = is_read }
