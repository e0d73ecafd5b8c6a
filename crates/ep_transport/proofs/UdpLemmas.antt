-- The bytes of a UDP datagram, and the header read from them.
use Rattle.std.proofs.Common.{◌≡◌, ◌⊎◌, ℕ, ◌+◌, ◌-◌, ◌≤◌, ◌<◌, ◌==◌, ◌||◌, nat_lt, if◌then◌else◌, Bool, false, List, [], None, ◌++◌, length, take, drop, refl, sym, ap, subst, ◌∙◌, inl, inr, arith, append_assoc, length-append, length-drop}
use Rattle.std.proofs.lemmas.Grind.{common_steps}
use Rattle.std.proofs.lemmas.List.{append-nil, get_or-take, length-take, take-append-drop}
use Rattle.ep_base.specs.Bytes.{AreBytes, word_at}
use Rattle.ep_base.specs.LaxCut.{LaxCut, IsLaxCut}
use Rattle.ep_base.specs.Tables.{Parts, first_row}
use Rattle.ep_base.specs.declared.len_source.LenSource.TheVariants as source
use Rattle.ep_base.proofs.BytesLemmas.{AreBytes-take}
use Rattle.ep_base.proofs.LaxCutLemmas.{cut_present, cut_nowhere, one_lax_cut}
use Rattle.ep_base.proofs.TableLemmas.{IsReadBy, cut_at, cut_same, one_value}
use Rattle.ep_transport.specs.declared.udp_header.UdpHeader.{UdpHeader}
use Rattle.ep_transport.specs.Udp.{FitsUdp, IsLaxUdp, IsUdp, IsUdpHeader, udp_bytes, udp_header_of, udp_parts, udp_header_rows, udp_rows}

-- The fields of the header read fit their widths, and its wire bytes are the first 8 bytes.
udp_fits : (bytes : List ℕ) → AreBytes bytes → FitsUdp (udp_header_of bytes)
udp_fits bytes fits =
    record {
      source_port = omega (arith, fits 0, fits 1);
      destination_port = omega (arith, fits 2, fits 3);
      length = omega (arith, fits 4, fits 5);
      checksum = omega (arith, fits 6, fits 7);
    }

udp_prefix : (bytes : List ℕ) → AreBytes bytes → 8 ≤ length bytes
    → bytes ≡ udp_bytes (udp_header_of bytes) ++ drop 8 bytes
udp_prefix bytes fits long = grind (arith, common_steps)

-- ---- header

abbrev pub udp_header_read : List ℕ → UdpHeader × List ℕ
udp_header_read bytes = (udp_header_of bytes, drop 8 bytes)

header_reads : (bytes : List ℕ) → AreBytes bytes → first_row (udp_header_rows bytes) ≡ None
    → IsUdpHeader bytes (udp_header_read bytes)
header_reads bytes fits none = record { fits = udp_fits bytes fits; parts = grind (arith, common_steps) }

header_is_read : (bytes : List ℕ) (read : UdpHeader × List ℕ) → IsUdpHeader bytes read
    → (first_row (udp_header_rows bytes) ≡ None) × (read ≡ udp_header_read bytes)
header_is_read bytes read is = grind (arith, common_steps)

pub udp_header_is_read : IsReadBy IsUdpHeader udp_header_rows udp_header_read
udp_header_is_read = record { reads = header_reads; is_read = header_is_read }

-- ---- datagrams

-- the length of the datagram in bytes; that of all bytes if the length field is 0
abbrev pub udp_len_of : List ℕ → ℕ
udp_len_of bytes = if word_at bytes 4 == 0 then length bytes else word_at bytes 4

abbrev pub udp_read : List ℕ → Parts UdpHeader
udp_read bytes = cut_at udp_len_of udp_parts bytes

-- Bytes that no row rejects have a valid length field.
holds : (bytes : List ℕ) → first_row (udp_rows bytes) ≡ None → (8 ≤ udp_len_of bytes)
    × (udp_len_of bytes ≤ length bytes)
holds bytes none = grind (arith, common_steps)

reads : (bytes : List ℕ) → AreBytes bytes → first_row (udp_rows bytes) ≡ None → IsUdp bytes (udp_read bytes)
reads bytes fits none =
    let present = holds bytes none in
    let n = udp_len_of bytes in
    let seen_fits : AreBytes (take n bytes) = AreBytes-take n bytes fits in
    let prefix = udp_prefix (take n bytes) seen_fits (omega (arith, length-take n bytes)) in
    record {
      fits = udp_fits (take n bytes) seen_fits;
      parts = sym (take-append-drop n bytes) ∙ ap (λ (s : List ℕ). s ++ drop n bytes) prefix;
      cut = grind (arith, common_steps);
    }

header_same : (h : UdpHeader) (payload : List ℕ) → FitsUdp h → h ≡ udp_header_of (udp_bytes h ++ payload)
header_same h payload fits = grind (arith, common_steps)

len_same : (bytes : List ℕ) (datagram : Parts UdpHeader) → IsUdp bytes datagram
    → length (udp_bytes datagram.header ++ datagram.payload) ≡ udp_len_of bytes
len_same bytes datagram is = grind (arith, common_steps)

none_refuses : (bytes : List ℕ) (datagram : Parts UdpHeader) → IsUdp bytes datagram → first_row (udp_rows bytes) ≡ None
none_refuses bytes datagram is = grind (arith, common_steps)

is_read : (bytes : List ℕ) (datagram : Parts UdpHeader) → IsUdp bytes datagram → (first_row (udp_rows bytes) ≡ None)
    × (datagram ≡ udp_read bytes)
is_read bytes datagram is =
    let header = header_same datagram.header datagram.payload is.fits in
    let seen = udp_bytes datagram.header ++ datagram.payload in
    let same : datagram ≡ udp_parts seen datagram.left =
    λ i. record { header = header i; payload = datagram.payload; left = datagram.left } in (
      none_refuses bytes datagram is,
      same
          ∙ cut_same udp_len_of udp_parts bytes seen datagram.left is.parts (len_same bytes datagram is),
    )

pub udp_is_read : IsReadBy IsUdp udp_rows udp_read
udp_is_read = record { reads = reads; is_read = is_read }

-- ---- datagrams that may be truncated

-- The header read from the first `end` bytes, at least 8, is the header of all bytes.
prefix_holds : (bytes : List ℕ) (end : ℕ) → AreBytes bytes → 8 ≤ end → end ≤ length bytes
    → IsUdpHeader bytes (udp_header_of (take end bytes), drop 8 (take end bytes) ++ drop end bytes)
prefix_holds bytes end fits enough within =
    let seen = take end bytes in
    let seen_fits : AreBytes seen = AreBytes-take end bytes fits in
    let prefix = udp_prefix seen seen_fits (omega (arith, length-take end bytes)) in
    record {
      fits = udp_fits seen seen_fits;
      parts = sym (take-append-drop end bytes) ∙ ap (λ (s : List ℕ). s ++ drop end bytes) prefix
          ∙ append_assoc (udp_bytes (udp_header_of seen)) (drop 8 seen) (drop end bytes);
    }

-- The bytes `seen` are the datagram at the start of `bytes`, read laxly.
pub record ShowsLaxUdp (outer : Bool) (bytes seen : List ℕ) : Type 0 where
  pub cut : LaxCut
  pub parts : bytes ≡ seen ++ cut.left
  pub is : IsLaxUdp outer bytes (udp_header_of seen, cut)
  pub payload : drop 8 seen ≡ cut.payload

-- The length field of the first `end` bytes, at least 8, is that of all bytes.
length_present : (bytes : List ℕ) (end : ℕ) → 8 ≤ end → word_at (take end bytes) 4 ≡ word_at bytes 4
length_present bytes end enough =
    let high = get_or-take end bytes 4 0 (omega arith) in
    let low = get_or-take end bytes 5 0 (omega arith) in
    omega (arith, high, low)

-- If the length field applies, the datagram ends there.
pub lax_udp_cut : (outer : Bool) (bytes : List ℕ) (end : ℕ) → AreBytes bytes → end ≡ word_at bytes 4 → 8 ≤ end
    → end ≤ length bytes → ShowsLaxUdp outer bytes (take end bytes)
lax_udp_cut outer bytes end fits stated enough within =
    let seen = take end bytes in
    let field = length_present bytes end enough in
    let len = length-take end bytes in
    let payload_len = length-drop 8 seen in
    let all = length-append (drop 8 seen) (drop end bytes) in
    let left_len = length-drop end bytes in
    record {
      cut = record { payload = drop 8 seen; left = drop end bytes; source = source.UdpHeaderLen; incomplete = false };
      parts = sym (take-append-drop end bytes);
      is = record {
        rest = drop 8 seen ++ drop end bytes;
        header = prefix_holds bytes end fits enough within;
        cut = cut_present 8 (word_at seen 4) source.UdpHeaderLen outer 8 (drop 8 seen) (drop end bytes)
            (omega arith) (omega arith) (omega arith);
      };
      payload = refl;
    }

-- If the length field does not apply, the datagram has all bytes.
pub lax_udp_complete : (outer : Bool) (bytes : List ℕ) → AreBytes bytes → 8 ≤ length bytes
    → (word_at bytes 4 < 8) ⊎ (length bytes < word_at bytes 4) → ShowsLaxUdp outer bytes bytes
lax_udp_complete outer bytes fits enough why =
    let prefix = udp_prefix bytes fits enough in
    let none = append-nil (drop 8 bytes) in
    let present : length (drop 8 bytes ++ []) ≡ length bytes - 8 = ap length none ∙ length-drop 8 bytes in
    record {
      cut = record {
        payload = drop 8 bytes;
        left = [];
        source = source.Slice;
        incomplete = outer || nat_lt (8 + length (drop 8 bytes ++ [])) (word_at bytes 4);
      };
      parts = sym (append-nil bytes);
      is = record {
        rest = drop 8 bytes ++ [];
        header = record {
          fits = udp_fits bytes fits;
          parts = prefix ∙ ap (λ (s : List ℕ). udp_bytes (udp_header_of bytes) ++ s) (sym none);
        };
        cut = cut_nowhere 8 (word_at bytes 4) source.UdpHeaderLen outer 8 (drop 8 bytes) []
            (elim why [ inl short ↦ inl short | inr long ↦ inr (omega arith) ]) refl;
      };
      payload = refl;
    }

-- Bytes have exactly one header and one split when read laxly.
pub one_lax_udp : (outer : Bool) (bytes : List ℕ) (read other : UdpHeader × LaxCut) → IsLaxUdp outer bytes read
    → IsLaxUdp outer bytes other → read ≡ other
one_lax_udp outer bytes read other a b =
    let same = one_value udp_header_is_read bytes (read.0, a.rest) (other.0, b.rest) a.header b.header in
    let moved = subst (λ (h : UdpHeader × List ℕ). IsLaxCut 8 h.0.length source.UdpHeaderLen outer 8 h.1 read.1) same
    a.cut in
    let cut = one_lax_cut 8 other.0.length source.UdpHeaderLen outer 8 b.rest read.1 other.1 moved b.cut in
    λ i. ((same i).0, cut i)
