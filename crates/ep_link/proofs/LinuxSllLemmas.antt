-- Lemmas about parsing the bytes of a Linux cooked capture.
use Rattle.std.proofs.Common.{◌≡◌, ℕ, ◌+◌, ◌/◌, ◌%◌, ◌^◌, ◌<◌, ◌≤◌, true, List, [], ◌∷◌, ◌++◌, None, length, get_or}
use Rattle.std.proofs.Common.{take, drop, sym, ap, ap₂, subst, ◌∙◌, slice_index, slice_range, arith, inl, inr, refl}
use Rattle.std.proofs.lemmas.Grind.{common_steps}
use Rattle.std.proofs.lemmas.Bool.Decides.{nat_tests}
use Rattle.std.proofs.lemmas.List.{append-nil}
use Rattle.std.specs.Int.{w16, to_be_bytes}
use Rattle.ep_base.specs.Bytes.{AreBytes, word_at}
use Rattle.ep_base.specs.Tables.{Parts, first_row}
use Rattle.ep_base.proofs.BytesLemmas.{elements, drop-elements, AreBytes-take, AreBytes-drop}
use Rattle.ep_base.proofs.TableLemmas.{IsReadBy}
use Rattle.ep_link.specs.declared.link.linux_sll_protocol_type.LinuxSllProtocolType.{LinuxSllProtocolType}
use Rattle.ep_link.specs.declared.link.linux_sll_protocol_type.LinuxSllProtocolType.TheVariants as protocol
use Rattle.ep_link.specs.declared.link.linux_sll_header.LinuxSllHeader.{LinuxSllHeader}
use Rattle.ep_link.specs.LinuxSll.{HasEtherTypes, HasNoProtocol, knows_hardware, IsProtocolOf}
use Rattle.ep_link.specs.LinuxSll.{protocol_number, protocol_of, FitsLinuxSll, IsLinuxSll}
use Rattle.ep_link.specs.LinuxSll.{linux_sll_bytes, linux_sll_header_of, linux_sll_parts, linux_sll_rows}

-- ---- the protocol field

-- The parsed protocol type has the number of the protocol field.
protocol_of-number : (hardware number : ℕ) → protocol_number (protocol_of hardware number) ≡ number
protocol_of-number hardware number = grind (arith, nat_tests)

-- The protocol type parsed for a supported hardware type is allowed for it.
protocol_of-kind : (hardware number : ℕ) → knows_hardware hardware ≡ true
    → IsProtocolOf hardware (protocol_of hardware number)
protocol_of-kind hardware number known = grind (arith, nat_tests)

-- An allowed protocol type is parsed from its number.
protocol_read : (hardware : ℕ) (p : LinuxSllProtocolType) → IsProtocolOf hardware p
    → p ≡ protocol_of hardware (protocol_number p)
protocol_read hardware (protocol.EtherType type) kind = grind (arith, nat_tests)
protocol_read hardware (protocol.LinuxNonstandardEtherType number) kind = grind (arith, nat_tests)
protocol_read hardware (protocol.Ignored number) kind = grind (arith, nat_tests)
protocol_read hardware (protocol.NetlinkProtocolType number) kind = grind (arith, nat_tests)
protocol_read hardware (protocol.GenericRoutingEncapsulationProtocolType number) kind = grind (arith, nat_tests)

-- Only supported hardware types allow protocol types.
knows_ether_types : (hardware : ℕ) → HasEtherTypes hardware → knows_hardware hardware ≡ true
knows_ether_types hardware (inl ethernet) = rw ethernet refl
knows_ether_types hardware (inr loopback) = rw loopback refl

knows_no_protocol : (hardware : ℕ) → HasNoProtocol hardware → knows_hardware hardware ≡ true
knows_no_protocol hardware (inl frame_relay) = rw frame_relay refl
knows_no_protocol hardware (inr radiotap) = rw radiotap refl

protocol_known : (hardware : ℕ) (p : LinuxSllProtocolType) → IsProtocolOf hardware p → knows_hardware hardware ≡ true
protocol_known hardware (protocol.EtherType type) kind = knows_ether_types hardware kind.0
protocol_known hardware (protocol.LinuxNonstandardEtherType number) kind = knows_ether_types hardware kind.0
protocol_known hardware (protocol.Ignored number) kind = knows_no_protocol hardware kind
protocol_known hardware (protocol.NetlinkProtocolType number) kind = rw kind refl
protocol_known hardware (protocol.GenericRoutingEncapsulationProtocolType number) kind = rw kind refl

-- ---- bytes are the wire bytes of the parsed header

-- The parsed header has fields that fit.
linux_sll_fits : (bytes : List ℕ) → AreBytes bytes → 16 ≤ length bytes → word_at bytes 0 ≤ 7
    → knows_hardware (word_at bytes 2) ≡ true → FitsLinuxSll (linux_sll_header_of bytes)
linux_sll_fits bytes fits long low known =
    let Word : ℕ → Type 0 = λ n. n < 2 ^ 16 in
    record {
      packet_type = low;
      arp_hrd_type = omega (arith, fits 2, fits 3);
      sender_address_valid_length = omega (arith, fits 4, fits 5);
      sender_address_length = grind (arith, common_steps);
      sender_address = AreBytes-take 8 (drop 6 bytes) (AreBytes-drop 6 bytes fits);
      protocol =
          subst Word (sym (protocol_of-number (word_at bytes 2) (word_at bytes 14))) (omega (arith, fits 14, fits 15));
      kind = protocol_of-kind (word_at bytes 2) (word_at bytes 14) known;
    }

-- The wire bytes of the header with this number in its protocol field.
abbrev bytes_with : List ℕ → ℕ → List ℕ
bytes_with bytes number =
    to_be_bytes w16 (word_at bytes 0) ++ to_be_bytes w16 (word_at bytes 2) ++ to_be_bytes w16 (word_at bytes 4)
    ++ slice_range bytes 6 14 ++ to_be_bytes w16 number

prefix_with : (bytes : List ℕ) → AreBytes bytes → 16 ≤ length bytes
    → bytes ≡ bytes_with bytes (word_at bytes 14) ++ drop 16 bytes
unfolding elements
prefix_with bytes fits long =
    let upper : (i : ℕ) → slice_index bytes i ≡ word_at bytes i / 256 ^ 1 % 256 =
    λ i. omega (arith, fits i, fits (i + 1)) in
    let lower : (i : ℕ) → slice_index bytes (i + 1) ≡ word_at bytes i % 256 =
    λ i. omega (arith, fits i, fits (i + 1)) in
    let address : elements 8 6 bytes ≡ slice_range bytes 6 14 =
    sym (ap (take 8) (drop-elements 8 6 bytes (omega arith))) in
    let after = drop 16 bytes in
    let joined : elements 16 0 bytes ++ after ≡ bytes_with bytes (word_at bytes 14) ++ after =
    λ i. upper 0 i ∷ lower 0 i ∷ upper 2 i ∷ lower 2 i ∷ upper 4 i ∷ lower 4 i
    ∷ ((address i ++ (upper 14 i ∷ lower 14 i ∷ [])) ++ after) in
    drop-elements 16 0 bytes (omega arith) ∙ joined

-- The wire bytes of the parsed header are the first 16 bytes.
linux_sll_prefix : (bytes : List ℕ) → AreBytes bytes → 16 ≤ length bytes
    → bytes ≡ linux_sll_bytes (linux_sll_header_of bytes) ++ drop 16 bytes
linux_sll_prefix bytes fits long =
    let number = protocol_of-number (word_at bytes 2) (word_at bytes 14) in
    prefix_with bytes fits long ∙ ap (λ (n : ℕ). bytes_with bytes n ++ drop 16 bytes) (sym number)

-- ---- the wire bytes of a header are parsed as this header

-- The elements of a list of length 8.
abbrev eight_at : List ℕ → List ℕ
eight_at xs =
    get_or xs 0 0 ∷ get_or xs 1 0 ∷ get_or xs 2 0 ∷ get_or xs 3 0
    ∷ get_or xs 4 0 ∷ get_or xs 5 0 ∷ get_or xs 6 0 ∷ get_or xs 7 0 ∷ []

cells_8 : (xs : List ℕ) → length xs ≡ 8 → xs ≡ eight_at xs
cells_8 (a ∷ b ∷ c ∷ d ∷ e ∷ f ∷ g ∷ h ∷ []) len = refl
cells_8 _ len = absurd (omega arith)

-- The header with its address written as a list of eight elements.
abbrev pub with_eight : LinuxSllHeader → LinuxSllHeader
with_eight h = record h { sender_address = eight_at h.sender_address }

with_eight-same : (h : LinuxSllHeader) → length h.sender_address ≡ 8 → with_eight h ≡ h
with_eight-same h len i = record h { sender_address = sym (cells_8 h.sender_address len) i }

-- Writing the address as a list of elements keeps the wire bytes.
pub cells_are_bytes : (h : LinuxSllHeader) → length h.sender_address ≡ 8
    → linux_sll_bytes (with_eight h) ≡ linux_sll_bytes h
cells_are_bytes h len = ap linux_sll_bytes (with_eight-same h len)

-- Properties of bytes that are a header and its payload.
record IsRead (bytes : List ℕ) (h : LinuxSllHeader) (payload : List ℕ) : Type 0 where
  long : 16 ≤ length bytes
  header : h ≡ linux_sll_header_of bytes
  after : payload ≡ drop 16 bytes

with_eight-read : (h : LinuxSllHeader) (payload : List ℕ) → FitsLinuxSll h
    → IsRead (linux_sll_bytes (with_eight h) ++ payload) (with_eight h) payload
with_eight-read h payload fits =
    let bytes = linux_sll_bytes (with_eight h) ++ payload in
    let packet_type : h.packet_type.0 ≡ word_at bytes 0 = omega (arith, fits.packet_type) in
    let hardware : h.arp_hrd_type.0 ≡ word_at bytes 2 = omega (arith, fits.arp_hrd_type) in
    let valid_length : h.sender_address_valid_length ≡ word_at bytes 4 =
    omega (arith, fits.sender_address_valid_length) in
    let number : protocol_number h.protocol_type ≡ word_at bytes 14 = omega (arith, fits.protocol) in
    let read : h.protocol_type ≡ protocol_of (word_at bytes 2) (word_at bytes 14) =
    protocol_read h.arp_hrd_type.0 h.protocol_type fits.kind ∙ ap₂ protocol_of hardware number in
    record {
      long = omega arith;
      header = λ i. record {
        packet_type = record { 0 = packet_type i };
        arp_hrd_type = record { 0 = hardware i };
        sender_address_valid_length = valid_length i;
        sender_address = eight_at h.sender_address;
        protocol_type = read i;
      };
      after = refl;
    }

-- The bytes of a packet have these properties.
packet_read : (bytes : List ℕ) (packet : Parts LinuxSllHeader) → IsLinuxSll bytes packet
    → IsRead bytes packet.header packet.payload
packet_read bytes packet is =
    let h = packet.header in
    let payload = packet.payload in
    let prefix = linux_sll_bytes h ++ payload in
    let parts : bytes ≡ prefix = is.parts ∙ ap (λ (l : List ℕ). prefix ++ l) is.cut ∙ append-nil prefix in
    let OfHeader : LinuxSllHeader → Type 0 = λ k. IsRead (linux_sll_bytes k ++ payload) k payload in
    let OfBytes : List ℕ → Type 0 = λ s. IsRead s h payload in
    let same = with_eight-same h is.fits.sender_address_length in
    subst OfBytes (sym parts) (subst OfHeader same (with_eight-read h payload is.fits))

-- ---- packets

abbrev pub linux_sll_read : List ℕ → Parts LinuxSllHeader
linux_sll_read bytes = linux_sll_parts bytes []

-- Properties of bytes that no row of the table rejects.
record IsUnrefused (bytes : List ℕ) : Type 0 where
  long : 16 ≤ length bytes
  packet_type : word_at bytes 0 ≤ 7
  hardware : knows_hardware (word_at bytes 2) ≡ true

holds : (bytes : List ℕ) → first_row (linux_sll_rows bytes) ≡ None → IsUnrefused bytes
holds bytes none = grind (arith, common_steps)

none_refuses : (bytes : List ℕ) → IsUnrefused bytes → first_row (linux_sll_rows bytes) ≡ None
none_refuses bytes present = grind (arith, common_steps)

reads : (bytes : List ℕ) → AreBytes bytes → first_row (linux_sll_rows bytes) ≡ None
    → IsLinuxSll bytes (linux_sll_read bytes)
reads bytes fits none =
    let present = holds bytes none in
    record {
      fits = linux_sll_fits bytes fits present.long present.packet_type present.hardware;
      parts = linux_sll_prefix bytes fits present.long
          ∙ sym (append-nil (linux_sll_bytes (linux_sll_header_of bytes) ++ drop 16 bytes));
      cut = refl;
    }

is_read : (bytes : List ℕ) (packet : Parts LinuxSllHeader) → IsLinuxSll bytes packet
    → (first_row (linux_sll_rows bytes) ≡ None) × (packet ≡ linux_sll_read bytes)
is_read bytes packet is =
    let h = packet.header in
    let read = packet_read bytes packet is in
    let packet_type : h.packet_type.0 ≡ word_at bytes 0 = λ i. (read.header i).packet_type.0 in
    let hardware : h.arp_hrd_type.0 ≡ word_at bytes 2 = λ i. (read.header i).arp_hrd_type.0 in
    let present : IsUnrefused bytes = record {
      long = read.long;
      packet_type = omega (arith, packet_type, is.fits.packet_type);
      hardware = ap knows_hardware (sym hardware) ∙ protocol_known h.arp_hrd_type.0 h.protocol_type is.fits.kind;
    } in
    let same : packet ≡ linux_sll_read bytes = λ i. record {
      header = read.header i;
      payload = read.after i;
      left = is.cut i;
    } in
    (none_refuses bytes present, same)

pub linux_sll_is_read : IsReadBy IsLinuxSll linux_sll_rows linux_sll_read
linux_sll_is_read = record { reads = reads; is_read = is_read }
