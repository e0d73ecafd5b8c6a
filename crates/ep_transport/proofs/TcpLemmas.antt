-- The bytes of a TCP segment, and the header read from them.
use Rattle.std.proofs.Common.{◌≡◌, ℕ, ◌+◌, ◌-◌, ◌*◌, ◌/◌, ◌%◌, ◌^◌, ◌<◌, ◌≤◌, ◌==◌, None, slice_index}
use Rattle.std.proofs.Common.{List, ◌∷◌, ◌++◌, length, take, drop, get_or, refl, sym, ap, subst, ◌∙◌, arith}
use Rattle.std.proofs.lemmas.Grind.{common_steps}
use Rattle.std.proofs.lemmas.List.{get_or-take, get_or_append_left, length-take, length-drop, length-append, drop-append-le}
use Rattle.std.proofs.lemmas.List.{take-append-drop, take_all, take_at, drop_at}
use Rattle.ep_base.specs.Bytes.{AreBytes, word_at, long_at, bit}
use Rattle.ep_base.specs.Tables.{Parts, first_row}
use Rattle.ep_base.proofs.BytesLemmas.{elements, drop-elements, AreBytes-take, AreBytes-drop, bit_le, bit_read, bit_of_read, long_cells, word_cells}
use Rattle.ep_base.proofs.TableLemmas.{IsReadBy}
use Rattle.ep_transport.specs.declared.tcp_header.TcpHeader.{TcpHeader}
use Rattle.ep_transport.specs.Tcp.{FitsTcp, EncodesTcp, IsTcp, tcp_bytes_with, tcp_flags, tcp_header_of, tcp_parts, tcp_rows, data_offset_of, flag_at}

-- ---- the bytes of a header are read as this header

-- The bytes are a complete header: as long as their data offset states, and at least 20.
pub record IsComplete (bytes : List ℕ) : Type 0 where
  pub words : 5 ≤ data_offset_of bytes
  pub whole : length bytes ≡ 4 * data_offset_of bytes

-- Bits combined to a byte are read back from it.
bits_apart : (a b c d e f g h : ℕ) → a ≤ 1 → b ≤ 1 → c ≤ 1 → d ≤ 1 → e ≤ 1 → f ≤ 1 → g ≤ 1 → h ≤ 1
    → (n : ℕ) → n ≡ 2 ^ 7 * h + 2 ^ 6 * g + 2 ^ 5 * f + 2 ^ 4 * e + 2 ^ 3 * d + 2 ^ 2 * c + 2 ^ 1 * b + a
    → (n / 2 ^ 0 % 2 ≡ a) × (n / 2 ^ 1 % 2 ≡ b) × (n / 2 ^ 2 % 2 ≡ c) × (n / 2 ^ 3 % 2 ≡ d)
    × (n / 2 ^ 4 % 2 ≡ e) × (n / 2 ^ 5 % 2 ≡ f) × (n / 2 ^ 6 % 2 ≡ g) × (n / 2 ^ 7 % 2 ≡ h)
bits_apart a b c d e f g h a1 b1 c1 d1 e1 f1 g1 h1 n same =
    (omega arith, omega arith, omega arith, omega arith, omega arith, omega arith, omega arith, omega arith)

encoded_is_read : (r : ℕ) (h : TcpHeader) → r < 2 ^ 3 → FitsTcp h → h ≡ tcp_header_of (tcp_bytes_with r h)
encoded_is_read r h three fits =
    let bytes = tcp_bytes_with r h in
    let nonce = bit_le h.ns in
    let flags =
    bits_apart _ _ _ _ _ _ _ _ (bit_le h.fin) (bit_le h.syn) (bit_le h.rst) (bit_le h.psh) (bit_le h.ack)
    (bit_le h.urg) (bit_le h.ece) (bit_le h.cwr) (tcp_flags h) refl in
    let source_port : h.source_port ≡ word_at bytes 0 = omega (arith, fits.source_port) in
    let destination_port : h.destination_port ≡ word_at bytes 2 = omega (arith, fits.destination_port) in
    let sequence_number : h.sequence_number ≡ long_at bytes 4 = omega (arith, fits.sequence_number) in
    let acknowledgment_number : h.acknowledgment_number ≡ long_at bytes 8 = omega (arith, fits.acknowledgment_number) in
    let ns_bit : slice_index bytes 12 % 2 ≡ bit h.ns = omega (arith, nonce) in
    let window_size : h.window_size ≡ word_at bytes 14 = omega (arith, fits.window_size) in
    let checksum : h.checksum ≡ word_at bytes 16 = omega (arith, fits.checksum) in
    let urgent_pointer : h.urgent_pointer ≡ word_at bytes 18 = omega (arith, fits.urgent_pointer) in
    let options_len : length h.options ≡ 4 * data_offset_of bytes - 20 =
    omega (arith, fits.options_len, fits.options_words, nonce) in
    let options : h.options ≡ take (4 * data_offset_of bytes - 20) h.options =
    sym (take_all (4 * data_offset_of bytes - 20) h.options (omega arith)) in
    λ i. record {
      source_port = source_port i;
      destination_port = destination_port i;
      sequence_number = sequence_number i;
      acknowledgment_number = acknowledgment_number i;
      ns = sym (bit_read _ h.ns ns_bit) i;
      fin = sym (bit_read _ h.fin flags.0) i;
      syn = sym (bit_read _ h.syn flags.1) i;
      rst = sym (bit_read _ h.rst flags.2) i;
      psh = sym (bit_read _ h.psh flags.3) i;
      ack = sym (bit_read _ h.ack flags.4) i;
      urg = sym (bit_read _ h.urg flags.5) i;
      ece = sym (bit_read _ h.ece flags.6) i;
      cwr = sym (bit_read _ h.cwr flags.7) i;
      window_size = window_size i;
      checksum = checksum i;
      urgent_pointer = urgent_pointer i;
      options = options i;
    }

encoded_is_complete : (r : ℕ) (h : TcpHeader) → r < 2 ^ 3 → FitsTcp h → IsComplete (tcp_bytes_with r h)
encoded_is_complete r h three fits =
    let nonce = bit_le h.ns in
    record {
      words = omega (arith, fits.options_len, nonce);
      whole = omega (arith, fits.options_len, fits.options_words, nonce);
    }

encoded_read : (e : List ℕ) (h : TcpHeader) → EncodesTcp e h → h ≡ tcp_header_of e
encoded_read e h a = encoded_is_read a.reserved h a.three_bits a.fits ∙ ap tcp_header_of (sym a.same)

encoded_complete : (e : List ℕ) (h : TcpHeader) → EncodesTcp e h → IsComplete e
encoded_complete e h a = subst IsComplete (sym a.same) (encoded_is_complete a.reserved h a.three_bits a.fits)

-- ---- bytes of a complete header are those of the header read from them

complete_fits : (e : List ℕ) → AreBytes e → IsComplete e → FitsTcp (tcp_header_of e)
complete_fits e fits a =
    let n = 4 * data_offset_of e - 20 in
    let len : length (take n (drop 20 e)) ≡ n = omega (arith, length-take n (drop 20 e), length-drop 20 e, a.whole) in
    record {
      source_port = omega (arith, fits 0, fits 1);
      destination_port = omega (arith, fits 2, fits 3);
      sequence_number = omega (arith, fits 4, fits 5, fits 6, fits 7);
      acknowledgment_number = omega (arith, fits 8, fits 9, fits 10, fits 11);
      window_size = omega (arith, fits 14, fits 15);
      checksum = omega (arith, fits 16, fits 17);
      urgent_pointer = omega (arith, fits 18, fits 19);
      options_len = omega (arith, len, fits 12);
      options_words = omega (arith, len, a.words);
      options = AreBytes-take n (drop 20 e) (AreBytes-drop 20 e fits);
    }

-- The bits of a byte combined give the byte.
bits_together : (n : ℕ) → n < 256
    → n ≡ 2 ^ 7 * bit (n / 2 ^ 7 % 2 == 1) + 2 ^ 6 * bit (n / 2 ^ 6 % 2 == 1) + 2 ^ 5 * bit (n / 2 ^ 5 % 2 == 1)
    + 2 ^ 4 * bit (n / 2 ^ 4 % 2 == 1)
    + 2 ^ 3 * bit (n / 2 ^ 3 % 2 == 1) + 2 ^ 2 * bit (n / 2 ^ 2 % 2 == 1) + 2 ^ 1 * bit (n / 2 ^ 1 % 2 == 1)
    + bit (n / 2 ^ 0 % 2 == 1)
bits_together n byte =
    let b : (i : ℕ) → bit (n / 2 ^ i % 2 == 1) ≡ n / 2 ^ i % 2 = λ i. bit_of_read (n / 2 ^ i % 2) (omega arith) in
    omega (arith, byte, b 0, b 1, b 2, b 3, b 4, b 5, b 6, b 7)

pub complete_encodes : (e : List ℕ) → AreBytes e → IsComplete e → EncodesTcp e (tcp_header_of e)
unfolding elements
complete_encodes e fits a =
    let rest = drop 20 e in
    let options = take (4 * data_offset_of e - 20) rest in
    let all : options ≡ rest = take_all (4 * data_offset_of e - 20) rest (omega (arith, length-drop 20 e, a.whole)) in
    let len : length options ≡ 4 * data_offset_of e - 20 = omega (arith, ap length all, length-drop 20 e, a.whole) in
    let prefix : e ≡ elements 20 0 e ++ rest = drop-elements 20 0 e (omega (arith, a.whole, a.words)) in
    let reserved = slice_index e 12 / 2 % 8 in
    let ns : bit (slice_index e 12 % 2 == 1) ≡ slice_index e 12 % 2 =
    bit_of_read (slice_index e 12 % 2) (omega arith) in
    let b12 : slice_index e 12 ≡ 2 ^ 4 * ((20 + length options) / 4) + 2 ^ 1 * reserved
    + bit (slice_index e 12 % 2 == 1) = omega (arith, len, ns, a.words) in
    let b13 = bits_together (slice_index e 13) (fits 13) in
    let joined : elements 20 0 e ++ rest ≡ tcp_bytes_with reserved (tcp_header_of e) = λ i.
    word_cells e fits 0 refl i ++ word_cells e fits 2 refl i ++ long_cells e fits 4 refl i ++ long_cells e fits 8 refl i
    ++ b12 i ∷ b13 i ∷ (word_cells e fits 14 refl i ++ word_cells e fits 16 refl i ++ word_cells e fits 18 refl i
    ++ sym all i) in
    record { fits = complete_fits e fits a; reserved = reserved; three_bits = omega arith; same = prefix ∙ joined }

-- ---- a complete header at the start of bytes

-- The bytes begin with a complete header.
record Begins (bytes : List ℕ) : Type 0 where
  fixed : 20 ≤ length bytes
  words : 5 ≤ data_offset_of bytes
  whole : 4 * data_offset_of bytes ≤ length bytes

none_begins : (bytes : List ℕ) → first_row (tcp_rows bytes) ≡ None → Begins bytes
none_begins bytes none = record {
  fixed = grind (arith, common_steps);
  words = grind (arith, common_steps);
  whole = grind (arith, common_steps);
}

begins_none : (bytes : List ℕ) → Begins bytes → first_row (tcp_rows bytes) ≡ None
begins_none bytes a = grind (arith, common_steps)

-- The data offset of a complete header is that of all bytes.
prefix_offset : (e rest : List ℕ) → IsComplete e → slice_index (e ++ rest) 12 ≡ slice_index e 12
prefix_offset e rest a = get_or_append_left e rest 0 12 (omega (arith, a.words, a.whole))

prefix_begins : (e rest : List ℕ) → IsComplete e → Begins (e ++ rest)
prefix_begins e rest a =
    let same = prefix_offset e rest a in
    record {
      fixed = omega (arith, a.words, a.whole, length-append e rest);
      words = omega (arith, a.words, same);
      whole = omega (arith, a.whole, length-append e rest, same);
    }

begins_complete : (bytes : List ℕ) → Begins bytes → IsComplete (take (4 * data_offset_of bytes) bytes)
begins_complete bytes a =
    let n = 4 * data_offset_of bytes in
    let same : get_or (take n bytes) 12 0 ≡ get_or bytes 12 0 = get_or-take n bytes 12 0 (omega (arith, a.words)) in
    record { words = omega (arith, a.words, same); whole = omega (arith, a.whole, same, length-take n bytes) }

-- ---- the header at the start of a segment is that of its bytes

prefix_options : (e rest : List ℕ) → IsComplete e → (tcp_header_of (e ++ rest)).options ≡ (tcp_header_of e).options
prefix_options e rest a =
    let n = 4 * data_offset_of e - 20 in
    let len : length (drop 20 e) ≡ n = omega (arith, length-drop 20 e, a.whole) in
    ap (λ (b : ℕ). take (4 * (b / 16) - 20) (drop 20 (e ++ rest))) (prefix_offset e rest a)
    ∙ ap (take n) (drop-append-le 20 e rest (omega (arith, a.words, a.whole)))
    ∙ take_at (drop 20 e) rest n len
    ∙ sym (take_all n (drop 20 e) (omega (arith, len)))

prefix_header : (e rest : List ℕ) → IsComplete e → tcp_header_of (e ++ rest) ≡ tcp_header_of e
prefix_header e rest a =
    let s : (k : ℕ) → k < 20 → slice_index (e ++ rest) k ≡ slice_index e k =
    λ k below. get_or_append_left e rest 0 k (omega (arith, below, a.words, a.whole)) in
    let w : (k : ℕ) → k + 1 < 20 → word_at (e ++ rest) k ≡ word_at e k =
    λ k below. omega (arith, s k (omega arith), s (k + 1) below) in
    let flag : (k : ℕ) → flag_at (e ++ rest) k ≡ flag_at e k =
    λ k. ap (λ (b : ℕ). b / 2 ^ k % 2 == 1) (s 13 (omega arith)) in
    let options = prefix_options e rest a in
    λ i. record {
      source_port = w 0 (omega arith) i;
      destination_port = w 2 (omega arith) i;
      sequence_number = 2 ^ 16 * w 4 (omega arith) i + w 6 (omega arith) i;
      acknowledgment_number = 2 ^ 16 * w 8 (omega arith) i + w 10 (omega arith) i;
      ns = s 12 (omega arith) i % 2 == 1;
      fin = flag 0 i;
      syn = flag 1 i;
      rst = flag 2 i;
      psh = flag 3 i;
      ack = flag 4 i;
      urg = flag 5 i;
      ece = flag 6 i;
      cwr = flag 7 i;
      window_size = w 14 (omega arith) i;
      checksum = w 16 (omega arith) i;
      urgent_pointer = w 18 (omega arith) i;
      options = options i;
    }

-- ---- segments

reads : (bytes : List ℕ) → AreBytes bytes → first_row (tcp_rows bytes) ≡ None → IsTcp bytes (tcp_parts bytes)
reads bytes fits none =
    let n = 4 * data_offset_of bytes in
    let e = take n bytes in
    let complete = begins_complete bytes (none_begins bytes none) in
    let parts : bytes ≡ e ++ drop n bytes = sym (take-append-drop n bytes) in
    let same : tcp_header_of e ≡ tcp_header_of bytes =
    sym (prefix_header e (drop n bytes) complete) ∙ ap tcp_header_of (sym parts) in
    record {
      encoded = e;
      encodes = subst (EncodesTcp e) same (complete_encodes e (AreBytes-take n bytes fits) complete);
      parts = parts;
      whole = refl;
    }

is_read : (bytes : List ℕ) (segment : Parts TcpHeader) → IsTcp bytes segment → (first_row (tcp_rows bytes) ≡ None)
    × (segment ≡ tcp_parts bytes)
is_read bytes segment is =
    let e = is.encoded in
    let complete = encoded_complete e segment.header is.encodes in
    let begins : Begins bytes = subst Begins (sym is.parts) (prefix_begins e segment.payload complete) in
    let header : segment.header ≡ tcp_header_of bytes =
    encoded_read e segment.header is.encodes ∙ sym (prefix_header e segment.payload complete)
    ∙ ap tcp_header_of (sym is.parts) in
    let offset : data_offset_of bytes ≡ data_offset_of e =
    ap data_offset_of is.parts ∙ ap (λ (b : ℕ). b / 16) (prefix_offset e segment.payload complete) in
    let payload : drop (4 * data_offset_of bytes) bytes ≡ segment.payload =
    ap (drop (4 * data_offset_of bytes)) is.parts
    ∙ drop_at e segment.payload (4 * data_offset_of bytes) (omega (arith, offset, complete.whole)) in
    (begins_none bytes begins, λ i. record { header = header i; payload = sym payload i; left = is.whole i })

pub tcp_is_read : IsReadBy IsTcp tcp_rows tcp_parts
tcp_is_read = record { reads = reads; is_read = is_read }

-- Bytes that begin with a complete header are exactly one segment.
pub segment_present : (bytes : List ℕ) → AreBytes bytes → 20 ≤ length bytes → 5 ≤ data_offset_of bytes
    → 4 * data_offset_of bytes ≤ length bytes
    → IsTcp bytes (tcp_parts bytes) × ((segment : Parts TcpHeader) → IsTcp bytes segment → tcp_parts bytes ≡ segment)
segment_present bytes fits fixed words complete =
    let none = begins_none bytes (record { fixed = fixed; words = words; whole = complete }) in
    (reads bytes fits none, λ segment is. sym (is_read bytes segment is).1)
