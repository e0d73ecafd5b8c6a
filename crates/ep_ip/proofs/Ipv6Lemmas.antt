-- The bytes of an IPv6 header and of a packet, and the header read from them.
use Rattle.std.proofs.Common.{◌≡◌, ℕ, ◌+◌, ◌-◌, ◌*◌, ◌/◌, ◌%◌, ◌^◌, ◌<◌, ◌≤◌, ◌==◌, None, if◌then◌else◌, slice_index}
use Rattle.std.proofs.Common.{List, [], ◌∷◌, ◌++◌, length, take, drop, refl, sym, ap, subst, ◌∙◌, arith, ◌⊎◌, inl, inr}
use Rattle.std.proofs.lemmas.Grind.{common_steps}
use Rattle.std.proofs.lemmas.List.{length-take, length-drop, length-append, take-append-drop, append_assoc}
use Rattle.std.proofs.lemmas.List.{take_at, drop_at, drop_all, drop-drop, get_or-take, append-nil}
use Rattle.std.proofs.lemmas.Bool.{cases_lt}
use Rattle.ep_base.specs.Bytes.{AreBytes, word_at}
use Rattle.ep_base.specs.Tables.{Parts, parts_of, first_row}
use Rattle.ep_base.proofs.BytesLemmas.{elements, drop-elements, long_cells, word_cells, AreBytes-take, AreBytes-drop}
use Rattle.ep_base.proofs.TableLemmas.{IsReadBy}
use Rattle.ep_ip.specs.declared.ipv6_header.Ipv6Header.{Ipv6Header}
use Rattle.ep_ip.specs.Ip.{version_of}
use Rattle.ep_ip.specs.Ipv6.{FitsIpv6, IsIpv6Header, IsIpv6Packet, ipv6_bytes, ipv6_header_of}
use Rattle.ep_ip.specs.Ipv6.{ipv6_header_rows, ipv6_packet_rows}
use Rattle.ep_ip.proofs.CutLemmas.{cut_parts}

-- ---- the bytes of a header, followed by any bytes, are read as this header

-- The first 40 bytes are read as this header.
record IsPrefix (bytes : List ℕ) (header : Ipv6Header) : Type 0 where
  pub fixed : 40 ≤ length bytes
  pub version : version_of bytes ≡ 6
  pub same : header ≡ ipv6_header_of bytes

bytes_len : (h : Ipv6Header) → FitsIpv6 h → length (ipv6_bytes h) ≡ 40
bytes_len h fits = omega (arith, fits.source_len, fits.destination_len, length-append h.source h.destination)

bytes_prefix : (h : Ipv6Header) (rest : List ℕ) → FitsIpv6 h → IsPrefix (ipv6_bytes h ++ rest) h
bytes_prefix h rest fits =
    let bytes = ipv6_bytes h ++ rest in
    let class : h.traffic_class ≡ 16 * (slice_index bytes 0 % 16) + slice_index bytes 1 / 16 =
    omega (arith, fits.traffic_class, fits.flow_label) in
    let label : h.flow_label ≡ (65536 * slice_index bytes 1 + word_at bytes 2) % 1048576 =
    omega (arith, fits.traffic_class, fits.flow_label) in
    let payload_length : h.payload_length ≡ word_at bytes 4 = omega (arith, fits.payload_length) in
    let after : (h.source ++ h.destination) ++ rest ≡ h.source ++ (h.destination ++ rest) =
    append_assoc h.source h.destination rest in
    let source : take 16 (drop 8 bytes) ≡ h.source =
    ap (take 16) after ∙ take_at h.source (h.destination ++ rest) 16 fits.source_len in
    let past : drop 24 bytes ≡ h.destination ++ rest =
    ap (drop 16) after ∙ drop_at h.source (h.destination ++ rest) 16 fits.source_len in
    let destination : take 16 (drop 24 bytes) ≡ h.destination =
    ap (take 16) past ∙ take_at h.destination rest 16 fits.destination_len in
    record {
      fixed = omega (arith, bytes_len h fits, length-append (ipv6_bytes h) rest);
      version = omega (arith, fits.traffic_class, fits.flow_label);
      same = λ i. record {
        traffic_class = class i;
        flow_label = label i;
        payload_length = payload_length i;
        next_header = h.next_header;
        hop_limit = h.hop_limit;
        source = sym source i;
        destination = sym destination i;
      };
    }

-- ---- bytes that begin with a header are the bytes of the header read, and the rest

header_fits : (bytes : List ℕ) → AreBytes bytes → 40 ≤ length bytes → FitsIpv6 (ipv6_header_of bytes)
header_fits bytes fits long = record {
  traffic_class = omega (arith, fits 1);
  flow_label = omega arith;
  payload_length = omega (arith, fits 4, fits 5);
  next_header = fits 6;
  hop_limit = fits 7;
  source_len = omega (arith, length-take 16 (drop 8 bytes), length-drop 8 bytes);
  source = AreBytes-take 16 (drop 8 bytes) (AreBytes-drop 8 bytes fits);
  destination_len = omega (arith, length-take 16 (drop 24 bytes), length-drop 24 bytes);
  destination = AreBytes-take 16 (drop 24 bytes) (AreBytes-drop 24 bytes fits);
}

header_bytes : (bytes : List ℕ) → AreBytes bytes → 40 ≤ length bytes → version_of bytes ≡ 6
    → bytes ≡ ipv6_bytes (ipv6_header_of bytes) ++ drop 40 bytes
unfolding elements
header_bytes s fits long version =
    let h = ipv6_header_of s in
    let first = 2 ^ 28 * 6 + 2 ^ 20 * h.traffic_class + h.flow_label in
    let known : first ≡ 2 ^ 16 * word_at s 0 + word_at s 2 = omega (arith, version, fits 2, fits 3) in
    let destination : drop 24 s ≡ h.destination ++ drop 40 s =
    sym (take-append-drop 16 (drop 24 s)) ∙ ap (λ (r : List ℕ). h.destination ++ r) (drop-drop 16 24 s) in
    let source : drop 8 s ≡ h.source ++ drop 24 s =
    sym (take-append-drop 16 (drop 8 s)) ∙ ap (λ (r : List ℕ). h.source ++ r) (drop-drop 16 8 s) in
    let after : drop 8 s ≡ (h.source ++ h.destination) ++ drop 40 s =
    source ∙ ap (λ (r : List ℕ). h.source ++ r) destination ∙ sym (append_assoc h.source h.destination (drop 40 s)) in
    let joined : elements 8 0 s ++ drop 8 s ≡ ipv6_bytes h ++ drop 40 s = λ i.
    long_cells s fits 0 known i ++ word_cells s fits 4 refl i ++ slice_index s 6 ∷ slice_index s 7 ∷ after i in
    drop-elements 8 0 s (omega arith) ∙ joined

-- ---- header

abbrev pub ipv6_header_read : List ℕ → Ipv6Header × List ℕ
ipv6_header_read bytes = (ipv6_header_of bytes, drop 40 bytes)

header_reads : (bytes : List ℕ) → AreBytes bytes → first_row (ipv6_header_rows bytes) ≡ None
    → IsIpv6Header bytes (ipv6_header_read bytes)
header_reads bytes fits none =
    let long : 40 ≤ length bytes = grind (arith, common_steps) in
    let version : version_of bytes ≡ 6 = grind (arith, common_steps) in
    record { fits = header_fits bytes fits long; parts = header_bytes bytes fits long version }

prefix_read : (bytes rest : List ℕ) (h : Ipv6Header) → FitsIpv6 h → bytes ≡ ipv6_bytes h ++ rest
    → IsPrefix bytes h × (drop 40 bytes ≡ rest)
prefix_read bytes rest h fits parts = (
  subst (λ (s : List ℕ). IsPrefix s h) (sym parts) (bytes_prefix h rest fits),
  ap (drop 40) parts ∙ drop_at (ipv6_bytes h) rest 40 (bytes_len h fits),
)

header_is_read : (bytes : List ℕ) (read : Ipv6Header × List ℕ) → IsIpv6Header bytes read
    → (first_row (ipv6_header_rows bytes) ≡ None) × (read ≡ ipv6_header_read bytes)
header_is_read bytes read is =
    let prefix = prefix_read bytes read.1 read.0 is.fits is.parts in
    let long = prefix.0.fixed in
    let version = prefix.0.version in
    (grind (arith, common_steps), λ i. (prefix.0.same i, sym prefix.1 i))

pub ipv6_header_is_read : IsReadBy IsIpv6Header ipv6_header_rows ipv6_header_read
ipv6_header_is_read = record { reads = header_reads; is_read = header_is_read }

-- ---- packets

-- the length of the packet in bytes; that of all bytes if the payload length is 0
abbrev pub ipv6_len_of : List ℕ → ℕ
ipv6_len_of bytes = if word_at bytes 4 == 0 then length bytes else 40 + word_at bytes 4

abbrev pub ipv6_packet_read : List ℕ → Parts Ipv6Header
ipv6_packet_read bytes =
    let t = ipv6_len_of bytes in
    parts_of (ipv6_header_of bytes) (take (t - 40) (drop 40 bytes)) (drop t bytes)

len_of_none : (bytes : List ℕ) → word_at bytes 4 ≡ 0 → ipv6_len_of bytes ≡ length bytes
len_of_none bytes none = grind (arith, common_steps)

len_of_some : (bytes : List ℕ) → 0 < word_at bytes 4 → ipv6_len_of bytes ≡ 40 + word_at bytes 4
len_of_some bytes some = grind (arith, common_steps)

-- Bytes that no row rejects have a valid payload length.
rows_none : (bytes : List ℕ) → first_row (ipv6_packet_rows bytes) ≡ None
    → (first_row (ipv6_header_rows bytes) ≡ None) × (40 ≤ ipv6_len_of bytes) × (ipv6_len_of bytes ≤ length bytes)
rows_none bytes none = (grind (arith, common_steps), grind (arith, common_steps), grind (arith, common_steps))

none_rows : (bytes : List ℕ) → first_row (ipv6_header_rows bytes) ≡ None → 40 + word_at bytes 4 ≤ length bytes
    → first_row (ipv6_packet_rows bytes) ≡ None
none_rows bytes none within = grind (arith, common_steps)

-- The payload length `field` matches this payload and these trailing bytes.
abbrev IsCut : ℕ → List ℕ → List ℕ → Type 0
IsCut field payload left = ((0 < field) × (field ≡ length payload)) ⊎ ((field ≡ 0) × (left ≡ []))

read_cut : (bytes : List ℕ) → 40 ≤ length bytes → ipv6_len_of bytes ≤ length bytes
    → IsCut (word_at bytes 4) (take (ipv6_len_of bytes - 40) (drop 40 bytes)) (drop (ipv6_len_of bytes) bytes)
read_cut bytes long within =
    let t = ipv6_len_of bytes in
    elim (cases_lt 0 (word_at bytes 4)) [
      | inl some ↦
          let cut = len_of_some bytes some in
          inl (some, omega (arith, cut, within, length-take (t - 40) (drop 40 bytes), length-drop 40 bytes))
      | inr none ↦
          let zero : word_at bytes 4 ≡ 0 = omega arith in
          inr (zero, drop_all t bytes (omega (arith, len_of_none bytes zero)))
    ]

cut_len : (bytes payload left : List ℕ) → IsCut (word_at bytes 4) payload left
    → length bytes ≡ 40 + (length payload + length left)
    → (ipv6_len_of bytes ≡ 40 + length payload) × (40 + word_at bytes 4 ≤ length bytes)
cut_len bytes payload left (inl some) len =
    (len_of_some bytes some.0 ∙ omega (arith, some.1), omega (arith, some.1, len))
cut_len bytes payload left (inr none) len =
    let nothing : length left ≡ 0 = ap length none.1 in
    (len_of_none bytes none.0 ∙ omega (arith, len, nothing), omega (arith, none.0, len))

reads : (bytes : List ℕ) → AreBytes bytes → first_row (ipv6_packet_rows bytes) ≡ None
    → IsIpv6Packet bytes (ipv6_packet_read bytes)
unfolding header_reads
reads bytes fits none =
    let holds = rows_none bytes none in
    let header = header_reads bytes fits holds.0 in
    let h = ipv6_header_of bytes in
    let size = sym (bytes_len h header.fits) in
    record {
      fits = header.fits;
      parts = cut_parts bytes (ipv6_bytes h) (drop 40 bytes) 40 (ipv6_len_of bytes) header.parts size holds.1;
      cut = read_cut bytes (omega (arith, holds.1, holds.2)) holds.2;
    }

is_read : (bytes : List ℕ) (packet : Parts Ipv6Header) → IsIpv6Packet bytes packet
    → (first_row (ipv6_packet_rows bytes) ≡ None) × (packet ≡ ipv6_packet_read bytes)
is_read bytes packet is =
    let h = packet.header in
    let payload = packet.payload in
    let left = packet.left in
    let parts : bytes ≡ ipv6_bytes h ++ (payload ++ left) = is.parts ∙ append_assoc (ipv6_bytes h) payload left in
    let prefix = prefix_read bytes (payload ++ left) h is.fits parts in
    let size = bytes_len h is.fits in
    let complete : length bytes ≡ 40 + (length payload + length left) =
    ap length parts ∙ omega (arith, size, length-append (ipv6_bytes h) (payload ++ left), length-append payload left) in
    let field : h.payload_length ≡ word_at bytes 4 = ap (λ (k : Ipv6Header). k.payload_length) prefix.0.same in
    let len = cut_len bytes payload left (subst (λ (n : ℕ). IsCut n payload left) field is.cut) complete in
    let t = ipv6_len_of bytes in
    let shown : take (t - 40) (drop 40 bytes) ≡ payload =
    ap (take (t - 40)) prefix.1 ∙ take_at payload left (t - 40) (omega (arith, len.0)) in
    let rest : drop t bytes ≡ left =
    ap (drop t) is.parts
    ∙ drop_at (ipv6_bytes h ++ payload) left t (omega (arith, len.0, size, length-append (ipv6_bytes h) payload)) in
    let after : IsIpv6Header bytes (h, payload ++ left) = record { fits = is.fits; parts = parts } in
    let none = (header_is_read bytes (h, payload ++ left) after).0 in
    (none_rows bytes none len.1, λ i. parts_of (prefix.0.same i) (sym shown i) (sym rest i))

pub ipv6_packet_is_read : IsReadBy IsIpv6Packet ipv6_packet_rows ipv6_packet_read
ipv6_packet_is_read = record { reads = reads; is_read = is_read }

-- ---- contents of slices, whose bytes are the 40 of the header

pub header_present : (bytes e rest : List ℕ) → AreBytes e → version_of e ≡ 6 → length e ≡ 40 → bytes ≡ e ++ rest
    → IsIpv6Header bytes (ipv6_header_of e, rest)
header_present bytes e rest fits version complete parts =
    let long : 40 ≤ length e = omega arith in
    let encoded = ipv6_bytes (ipv6_header_of e) in
    let none : drop 40 e ≡ [] = drop_all 40 e (omega arith) in
    let same : e ≡ encoded =
    header_bytes e fits long version ∙ ap (λ (s : List ℕ). encoded ++ s) none ∙ append-nil encoded in
    record { fits = header_fits e fits long; parts = parts ∙ ap (λ (s : List ℕ). s ++ rest) same }

-- The payload length of a header matches the bytes after it, split at the packet's end.
cut_by_length : (field t : ℕ) (bytes : List ℕ) → 40 ≤ t → t ≤ length bytes
    → ((0 < field) × (t ≡ 40 + field)) ⊎ ((field ≡ 0) × (t ≡ length bytes))
    → IsCut field (take (t - 40) (drop 40 bytes)) (drop t bytes)
cut_by_length field t bytes enough within (inl some) =
    inl (some.0, omega (arith, some.1, enough, within, length-take (t - 40) (drop 40 bytes), length-drop 40 bytes))
cut_by_length field t bytes enough within (inr none) = inr (none.0, drop_all t bytes (omega (arith, none.1)))

-- A header, the bytes up to byte t and the trailing bytes are a packet if the payload length sets its end to t.
pub packet_present : (bytes e rest : List ℕ) (t : ℕ) → bytes ≡ e ++ rest → length e ≡ 40
    → IsIpv6Header bytes (ipv6_header_of e, rest) → 40 ≤ t → t ≤ length bytes
    → ((0 < word_at e 4) × (t ≡ 40 + word_at e 4)) ⊎ ((word_at e 4 ≡ 0) × (t ≡ length bytes))
    → (left : List ℕ) × (bytes ≡ (e ++ take (t - 40) (drop 40 bytes)) ++ left)
    × IsIpv6Packet bytes (parts_of (ipv6_header_of e) (take (t - 40) (drop 40 bytes)) left)
packet_present bytes e rest t parts complete header enough within field =
    let h = ipv6_header_of e in (
      drop t bytes,
      cut_parts bytes e rest 40 t parts (sym complete) enough,
      record {
        fits = header.fits;
        parts = cut_parts bytes (ipv6_bytes h) rest 40 t header.parts (sym (bytes_len h header.fits)) enough;
        cut = cut_by_length (word_at e 4) t bytes enough within field;
      },
    )

-- The first n bytes have the version of all bytes.
pub prefix_version : (n : ℕ) (bytes : List ℕ) → 0 < n → version_of (take n bytes) ≡ version_of bytes
prefix_version n bytes some = ap (λ (k : ℕ). k / 16) (get_or-take n bytes 0 0 some)

-- ---- the addresses, element by element

all_elements : (n : ℕ) (bytes : List ℕ) → length bytes ≡ n → elements n 0 bytes ≡ bytes
all_elements n bytes len =
    let prefix = elements n 0 bytes in
    let none : drop (0 + n) bytes ≡ [] = drop_all (0 + n) bytes (omega arith) in
    sym (drop-elements n 0 bytes (omega arith) ∙ ap (λ (s : List ℕ). prefix ++ s) none ∙ append-nil prefix)

pub two_addresses : (a b : List ℕ) → length a ≡ 16 → length b ≡ 16 → elements 16 0 a ++ elements 16 0 b ≡ a ++ b
two_addresses a b a_len b_len i = all_elements 16 a a_len i ++ all_elements 16 b b_len i
