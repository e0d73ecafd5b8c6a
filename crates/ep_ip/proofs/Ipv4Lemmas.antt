-- The bytes of an IPv4 header and of a packet, and the header read from them.
use Rattle.std.proofs.Common.{◌≡◌, ℕ, zero, suc, ◌+◌, ◌-◌, ◌*◌, ◌/◌, ◌%◌, ◌^◌, ◌<◌, ◌≤◌}
use Rattle.std.proofs.Common.{None, slice_index}
use Rattle.std.proofs.Common.{List, [], ◌∷◌, ◌++◌, length, take, drop, refl, sym, ap, subst, ◌∙◌, arith}
use Rattle.std.proofs.lemmas.Grind.{common_steps}
use Rattle.std.proofs.lemmas.List.{length-take, length-drop, length-append, take-append-drop, append_assoc, append-nil}
use Rattle.std.proofs.lemmas.List.{take_at, drop_at, drop_all, drop-drop}
use Rattle.ep_base.specs.Bytes.{AreBytes, word_at, bit}
use Rattle.ep_base.specs.Tables.{Parts, parts_of, first_row}
use Rattle.ep_base.proofs.BytesLemmas.{elements, drop-elements, cells_4, word_cells, AreBytes-take, AreBytes-drop}
use Rattle.ep_base.proofs.BytesLemmas.{bit_le, bit_read, bit_of_read}
use Rattle.ep_base.proofs.TableLemmas.{IsReadBy}
use Rattle.ep_ip.specs.declared.ipv4_header.Ipv4Header.{Ipv4Header}
use Rattle.ep_ip.specs.Ip.{version_of}
use Rattle.ep_ip.specs.Ipv4.{FitsIpv4, EncodesIpv4, IsIpv4Header, IsIpv4Packet}
use Rattle.ep_ip.specs.Ipv4.{ipv4_flags_with, ipv4_bytes_with, ipv4_header_of, ihl_of, four_at}
use Rattle.ep_ip.specs.Ipv4.{ipv4_header_rows, ipv4_packet_rows}
use Rattle.ep_ip.proofs.CutLemmas.{cut_parts}

-- The bytes begin with a complete header.
record Begins (bytes : List ℕ) : Type 0 where
  pub fixed : 20 ≤ length bytes
  pub version : version_of bytes ≡ 4
  pub words : 5 ≤ ihl_of bytes
  pub whole : 4 * ihl_of bytes ≤ length bytes

-- ---- the bytes of a header, followed by any bytes, are read as this header

-- The bytes are read as this header, which is `len` bytes long.
record IsPrefix (bytes : List ℕ) (header : Ipv4Header) (len : ℕ) : Type 0 where
  pub begins : Begins bytes
  pub same : header ≡ ipv4_header_of bytes
  pub size : len ≡ 4 * ihl_of bytes

-- the header with its addresses written as lists of 4 bytes
with_four : Ipv4Header → Ipv4Header
with_four h = record h { source = four_at h.source 0; destination = four_at h.destination 0 }

with_four-same : (h : Ipv4Header) → FitsIpv4 h → h ≡ with_four h
unfolding with_four
with_four-same h fits i = record h {
  source = cells_4 h.source fits.source_len i;
  destination = cells_4 h.destination fits.destination_len i;
}

with_four-prefix : (r : ℕ) (h : Ipv4Header) (rest : List ℕ) → r < 2 → FitsIpv4 h
    → IsPrefix (ipv4_bytes_with r (with_four h) ++ rest) (with_four h) (length (ipv4_bytes_with r (with_four h)))
unfolding with_four
with_four-prefix r h rest flag fits =
    let bytes = ipv4_bytes_with r (with_four h) ++ rest in
    let upper = slice_index bytes 6 in
    let dont = bit_le h.dont_fragment in
    let more = bit_le h.more_fragments in
    let dont_bit : upper / 64 % 2 ≡ bit h.dont_fragment = omega (arith, fits.fragment_offset, dont, more) in
    let more_bit : upper / 32 % 2 ≡ bit h.more_fragments = omega (arith, fits.fragment_offset, dont, more) in
    let dscp : h.dscp ≡ (2 ^ 2 * h.dscp + h.ecn) / 4 = omega (arith, fits.ecn) in
    let ecn : h.ecn ≡ (2 ^ 2 * h.dscp + h.ecn) % 4 = omega (arith, fits.ecn) in
    let total_len : h.total_len ≡ word_at bytes 2 = omega (arith, fits.total_len) in
    let identification : h.identification ≡ word_at bytes 4 = omega (arith, fits.identification) in
    let offset : h.fragment_offset ≡ word_at bytes 6 % 8192 = omega (arith, fits.fragment_offset, dont, more) in
    let checksum : h.header_checksum ≡ word_at bytes 10 = omega (arith, fits.header_checksum) in
    let n = 4 * ihl_of bytes - 20 in
    let options_len : length h.options ≡ n = omega (arith, fits.options_len, fits.options_words) in
    let options : h.options ≡ take n (h.options ++ rest) = sym (take_at h.options rest n options_len) in
    record {
      begins = record {
        fixed = omega arith;
        version = omega (arith, fits.options_len);
        words = omega (arith, fits.options_len);
        whole = omega (arith, fits.options_len, fits.options_words, length-append h.options rest);
      };
      same = λ i. record {
        dscp = dscp i;
        ecn = ecn i;
        total_len = total_len i;
        identification = identification i;
        dont_fragment = sym (bit_read _ h.dont_fragment dont_bit) i;
        more_fragments = sym (bit_read _ h.more_fragments more_bit) i;
        fragment_offset = offset i;
        time_to_live = h.time_to_live;
        protocol = h.protocol;
        header_checksum = checksum i;
        source = four_at h.source 0;
        destination = four_at h.destination 0;
        options = options i;
      };
      size = omega (arith, fits.options_len, fits.options_words);
    }

prefix_read : (bytes encoded rest : List ℕ) (h : Ipv4Header) → EncodesIpv4 encoded h → bytes ≡ encoded ++ rest
    → IsPrefix bytes h (length encoded)
prefix_read bytes encoded rest h is parts =
    let r = is.reserved in
    let family : Ipv4Header → Type 0 = λ k. IsPrefix (ipv4_bytes_with r k ++ rest) k (length (ipv4_bytes_with r k)) in
    let prefix = subst family (sym (with_four-same h is.fits)) (with_four-prefix r h rest is.flag is.fits) in
    let complete : IsPrefix (encoded ++ rest) h (length encoded) =
    subst (λ (e : List ℕ). IsPrefix (e ++ rest) h (length e)) (sym is.same) prefix in
    subst (λ (s : List ℕ). IsPrefix s h (length encoded)) (sym parts) complete

-- ---- bytes that begin with a header are the bytes of the header read, and the rest

AreBytes-four_at : (bytes : List ℕ) (i : ℕ) → AreBytes bytes → AreBytes (four_at bytes i)
AreBytes-four_at bytes i fits zero = fits i
AreBytes-four_at bytes i fits (suc zero) = fits (i + 1)
AreBytes-four_at bytes i fits (suc (suc zero)) = fits (i + 2)
AreBytes-four_at bytes i fits (suc (suc (suc zero))) = fits (i + 3)
AreBytes-four_at bytes i fits (suc (suc (suc (suc n)))) = omega arith

options_len : (bytes : List ℕ) → Begins bytes → length (ipv4_header_of bytes).options ≡ 4 * ihl_of bytes - 20
options_len bytes begins =
    omega (arith, length-take (4 * ihl_of bytes - 20) (drop 20 bytes), length-drop 20 bytes, begins.whole)

header_fits : (bytes : List ℕ) → AreBytes bytes → Begins bytes → FitsIpv4 (ipv4_header_of bytes)
header_fits bytes fits begins =
    let len = options_len bytes begins in
    record {
      dscp = omega (arith, fits 1);
      ecn = omega arith;
      total_len = omega (arith, fits 2, fits 3);
      identification = omega (arith, fits 4, fits 5);
      fragment_offset = omega arith;
      time_to_live = fits 8;
      protocol = fits 9;
      header_checksum = omega (arith, fits 10, fits 11);
      source_len = refl;
      source = AreBytes-four_at bytes 12 fits;
      destination_len = refl;
      destination = AreBytes-four_at bytes 16 fits;
      options_len = omega (arith, len);
      options_words = omega (arith, len, begins.words);
      options = AreBytes-take (4 * ihl_of bytes - 20) (drop 20 bytes) (AreBytes-drop 20 bytes fits);
    }

-- The flags and the fragment offset read from bytes 6 and 7 give these bytes again.
flags_same : (upper lower : ℕ) → lower < 256 → {d m : ℕ} → d ≡ upper / 64 % 2 → m ≡ upper / 32 % 2
    → 2 ^ 15 * (upper / 128) + 2 ^ 14 * d + 2 ^ 13 * m + (256 * upper + lower) % 8192 ≡ 256 * upper + lower
flags_same upper lower below d m = omega (arith, d, m, below)

header_bytes : (bytes : List ℕ) → AreBytes bytes → Begins bytes
    → bytes ≡ ipv4_bytes_with (slice_index bytes 6 / 128) (ipv4_header_of bytes) ++ drop (4 * ihl_of bytes) bytes
unfolding elements
header_bytes s fits begins =
    let h = ipv4_header_of s in
    let n = 4 * ihl_of s in
    let len = options_len s begins in
    let left : drop (n - 20) (drop 20 s) ≡ drop n s =
    drop-drop (n - 20) 20 s ∙ ap (λ (k : ℕ). drop k s) (omega (arith, begins.words)) in
    let after : drop 20 s ≡ h.options ++ drop n s =
    sym (take-append-drop (n - 20) (drop 20 s)) ∙ ap (λ (r : List ℕ). h.options ++ r) left in
    let b0 : slice_index s 0 ≡ 2 ^ 4 * 4 + (20 + length h.options) / 4 =
    omega (arith, len, begins.version, begins.words) in
    let b1 : slice_index s 1 ≡ 2 ^ 2 * (slice_index s 1 / 4) + slice_index s 1 % 4 = omega arith in
    let upper = slice_index s 6 in
    let dont : bit h.dont_fragment ≡ upper / 64 % 2 = bit_of_read (upper / 64 % 2) (omega arith) in
    let more : bit h.more_fragments ≡ upper / 32 % 2 = bit_of_read (upper / 32 % 2) (omega arith) in
    let flags = ipv4_flags_with (upper / 128) h in
    let same_flags : flags ≡ word_at s 6 = flags_same upper (slice_index s 7) (fits 7) dont more in
    let joined : elements 20 0 s ++ drop 20 s ≡ ipv4_bytes_with (upper / 128) h ++ drop n s = λ i.
    b0 i ∷ b1 i ∷ (word_cells s fits 2 refl i ++ word_cells s fits 4 refl i ++ word_cells s fits 6 same_flags i
    ++ slice_index s 8 ∷ slice_index s 9 ∷ (word_cells s fits 10 refl i ++ four_at s 12 ++ four_at s 16 ++ after i)) in
    drop-elements 20 0 s begins.fixed ∙ joined

header_encodes : (bytes : List ℕ) → AreBytes bytes → Begins bytes
    → EncodesIpv4 (ipv4_bytes_with (slice_index bytes 6 / 128) (ipv4_header_of bytes)) (ipv4_header_of bytes)
header_encodes bytes fits begins = record {
  fits = header_fits bytes fits begins;
  reserved = slice_index bytes 6 / 128;
  flag = omega (arith, fits 6);
  same = refl;
}

-- The bytes are a complete header, with the length that the first byte states.
pub record IsComplete (e : List ℕ) : Type 0 where
  pub fits : AreBytes e
  pub version : version_of e ≡ 4
  pub words : 5 ≤ ihl_of e
  pub whole : length e ≡ 4 * ihl_of e

-- Bytes of a complete header are the wire bytes of the header read from them.
complete_encodes : (e : List ℕ) → IsComplete e → EncodesIpv4 e (ipv4_header_of e)
complete_encodes e a =
    let fits = a.fits in
    let begins : Begins e = record {
      fixed = omega (arith, a.words, a.whole);
      version = a.version;
      words = a.words;
      whole = omega (arith, a.whole);
    } in
    let encoded = ipv4_bytes_with (slice_index e 6 / 128) (ipv4_header_of e) in
    let none : drop (4 * ihl_of e) e ≡ [] = drop_all (4 * ihl_of e) e (omega (arith, a.whole)) in
    let same : e ≡ encoded = header_bytes e fits begins ∙ ap (λ (s : List ℕ). encoded ++ s) none ∙ append-nil encoded in
    subst (λ (s : List ℕ). EncodesIpv4 s (ipv4_header_of e)) (sym same) (header_encodes e fits begins)

-- ---- header

-- Bytes that no row rejects begin with a header, and bytes that begin with a header are rejected by no row.
none_begins : (bytes : List ℕ) → first_row (ipv4_header_rows bytes) ≡ None → Begins bytes
none_begins bytes none = record {
  fixed = grind (arith, common_steps);
  version = grind (arith, common_steps);
  words = grind (arith, common_steps);
  whole = grind (arith, common_steps);
}

begins_none : (bytes : List ℕ) → Begins bytes → first_row (ipv4_header_rows bytes) ≡ None
begins_none bytes a = grind (arith, common_steps)

abbrev pub ipv4_header_read : List ℕ → Ipv4Header × List ℕ
ipv4_header_read bytes = (ipv4_header_of bytes, drop (4 * ihl_of bytes) bytes)

header_reads : (bytes : List ℕ) → AreBytes bytes → first_row (ipv4_header_rows bytes) ≡ None
    → IsIpv4Header bytes (ipv4_header_read bytes)
header_reads bytes fits none =
    let begins = none_begins bytes none in
    record {
      encoded = ipv4_bytes_with (slice_index bytes 6 / 128) (ipv4_header_of bytes);
      encodes = header_encodes bytes fits begins;
      parts = header_bytes bytes fits begins;
    }

header_is_read : (bytes : List ℕ) (read : Ipv4Header × List ℕ) → IsIpv4Header bytes read
    → (first_row (ipv4_header_rows bytes) ≡ None) × (read ≡ ipv4_header_read bytes)
header_is_read bytes read is =
    let prefix = prefix_read bytes is.encoded read.1 read.0 is.encodes is.parts in
    let n = 4 * ihl_of bytes in
    let after : drop n bytes ≡ read.1 = ap (drop n) is.parts ∙ drop_at is.encoded read.1 n prefix.size in
    (begins_none bytes prefix.begins, λ i. (prefix.same i, sym after i))

pub ipv4_header_is_read : IsReadBy IsIpv4Header ipv4_header_rows ipv4_header_read
ipv4_header_is_read = record { reads = header_reads; is_read = header_is_read }

-- ---- packets

-- Bytes that no row rejects have a valid total length.
rows_none : (bytes : List ℕ) → first_row (ipv4_packet_rows bytes) ≡ None
    → (first_row (ipv4_header_rows bytes) ≡ None) × (4 * ihl_of bytes ≤ word_at bytes 2)
    × (word_at bytes 2 ≤ length bytes)
rows_none bytes none = (grind (arith, common_steps), grind (arith, common_steps), grind (arith, common_steps))

none_rows : (bytes : List ℕ) → Begins bytes → 4 * ihl_of bytes ≤ word_at bytes 2 → word_at bytes 2 ≤ length bytes
    → first_row (ipv4_packet_rows bytes) ≡ None
none_rows bytes begins enough within = grind (arith, common_steps)

abbrev pub ipv4_packet_read : List ℕ → Parts Ipv4Header
ipv4_packet_read bytes =
    let n = 4 * ihl_of bytes in
    let t = word_at bytes 2 in
    parts_of (ipv4_header_of bytes) (take (t - n) (drop n bytes)) (drop t bytes)

reads : (bytes : List ℕ) → AreBytes bytes → first_row (ipv4_packet_rows bytes) ≡ None
    → IsIpv4Packet bytes (ipv4_packet_read bytes)
unfolding header_reads
reads bytes fits none =
    let holds = rows_none bytes none in
    let n = 4 * ihl_of bytes in
    let t = word_at bytes 2 in
    let header = header_reads bytes fits holds.0 in
    let prefix = prefix_read bytes header.encoded (drop n bytes) (ipv4_header_of bytes) header.encodes header.parts in
    let size = prefix.size in
    record {
      encoded = header.encoded;
      encodes = header.encodes;
      parts = cut_parts bytes header.encoded (drop n bytes) n t header.parts (sym size) holds.1;
      cut = omega (arith, size, holds.1, holds.2, length-take (t - n) (drop n bytes), length-drop n bytes);
    }

is_read : (bytes : List ℕ) (packet : Parts Ipv4Header) → IsIpv4Packet bytes packet
    → (first_row (ipv4_packet_rows bytes) ≡ None) × (packet ≡ ipv4_packet_read bytes)
is_read bytes packet is =
    let e = is.encoded in
    let payload = packet.payload in
    let left = packet.left in
    let n = 4 * ihl_of bytes in
    let t = word_at bytes 2 in
    let parts : bytes ≡ e ++ (payload ++ left) = is.parts ∙ append_assoc e payload left in
    let prefix = prefix_read bytes e (payload ++ left) packet.header is.encodes parts in
    let total : t ≡ length e + length payload = sym (ap (λ (h : Ipv4Header). h.total_len) prefix.same) ∙ is.cut in
    let after : drop n bytes ≡ payload ++ left = ap (drop n) parts ∙ drop_at e (payload ++ left) n prefix.size in
    let shown : take (t - n) (drop n bytes) ≡ payload =
    ap (take (t - n)) after ∙ take_at payload left (t - n) (omega (arith, total, prefix.size)) in
    let rest : drop t bytes ≡ left =
    ap (drop t) is.parts ∙ drop_at (e ++ payload) left t (omega (arith, total, length-append e payload)) in
    let len = ap length is.parts in
    let within : t ≤ length bytes =
    omega (arith, total, len, length-append (e ++ payload) left, length-append e payload) in (
      none_rows bytes prefix.begins (omega (arith, total, prefix.size)) within,
      λ i. parts_of (prefix.same i) (sym shown i) (sym rest i),
    )

pub ipv4_packet_is_read : IsReadBy IsIpv4Packet ipv4_packet_rows ipv4_packet_read
ipv4_packet_is_read = record { reads = reads; is_read = is_read }

-- ---- contents of slices

-- Bytes of a complete header and the rest are the header read from them, and the rest.
pub header_present : (bytes e rest : List ℕ) → IsComplete e → bytes ≡ e ++ rest → IsIpv4Header bytes (ipv4_header_of e, rest)
header_present bytes e rest a parts =
    record { encoded = e; encodes = complete_encodes e a; parts = parts }

-- A complete header, a payload up to its total length and trailing bytes are a packet.
pub packet_present : (bytes e payload left : List ℕ) → IsComplete e → bytes ≡ (e ++ payload) ++ left
    → word_at e 2 ≡ length e + length payload → IsIpv4Packet bytes (parts_of (ipv4_header_of e) payload left)
packet_present bytes e payload left a parts cut =
    record { encoded = e; encodes = complete_encodes e a; parts = parts; cut = cut }
