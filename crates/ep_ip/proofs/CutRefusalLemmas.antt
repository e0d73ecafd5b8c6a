-- A truncated IP packet is rejected for the missing bytes, and a packet at the start of bytes is still one after more
-- bytes are appended.
use Rattle.std.proofs.Common.{◌≡◌, ◌⊎◌, ℕ, ◌+◌, ◌*◌, ◌/◌, ◌%◌, ◌<◌, ◌≤◌, ◌==◌, if◌then◌else◌, true, false, not, List, [], ◌∷◌, ◌++◌, length, None, refl, sym, ap, subst, ◌∙◌, inl, inr, arith, length-append}
use Rattle.std.specs.Prelude.{◌&&◌, ◌||◌, nat_lt}
use Rattle.std.proofs.lemmas.Grind.{common_steps}
use Rattle.ep_base.specs.Bytes.{word_at}
use Rattle.ep_base.specs.Readings.{Reading, limited_by, len_error}
use Rattle.ep_base.specs.Missing.{IsTruncationError, IsTruncationLenError, ReportsTruncation, slice_end}
use Rattle.ep_base.specs.Tables.{Parts, Refuses, first_row, parts_of}
use Rattle.ep_base.proofs.BytesLemmas.{AreBytes-payload}
use Rattle.ep_base.proofs.CutRefusalLemmas.{byte_beside, cut_first, cut_then, further_short, longer_payload, longer_rest, refused_beside, renamed_cut, same_then, word_beside}
use Rattle.ep_base.proofs.TableLemmas.{one_value}
use Rattle.ep_base.specs.declared.err.len_error.LenError.{LenError}
use Rattle.ep_base.specs.declared.err.layer.Layer.TheVariants as layer
use Rattle.ep_base.specs.declared.len_source.LenSource.{LenSource}
use Rattle.ep_base.specs.declared.len_source.LenSource.TheVariants as source
use Rattle.ep_base.specs.declared.err.ip.SliceError.{SliceError as IpSliceError}
use Rattle.ep_base.specs.declared.err.ip.SliceError.TheVariants as ip_error
use Rattle.ep_base.specs.declared.err.ipv4.HeaderSliceError.TheVariants as ipv4_header_error
use Rattle.ep_base.specs.declared.err.ipv6.HeaderSliceError.TheVariants as ipv6_header_error
use Rattle.ep_base.specs.declared.err.ipv4.SliceError.{SliceError as Ipv4SliceError}
use Rattle.ep_base.specs.declared.err.ipv4.SliceError.TheVariants as ipv4_error
use Rattle.ep_base.specs.declared.err.ipv6.SliceError.{SliceError as Ipv6SliceError}
use Rattle.ep_base.specs.declared.err.ipv6.SliceError.TheVariants as ipv6_error
use Rattle.ep_base.specs.declared.err.ipv6_exts.HeaderSliceError.{HeaderSliceError as ExtsSliceError}
use Rattle.ep_ext.specs.Chains.{ipv6, chain_of, IsExtensionChain}
use Rattle.ep_ext.proofs.CutRefusalLemmas.{IsCut, chain_cut, longer_chain}
use Rattle.ep_ip.specs.declared.ipv4_header.Ipv4Header.{Ipv4Header}
use Rattle.ep_ip.specs.declared.ipv6_header.Ipv6Header.{Ipv6Header}
use Rattle.ep_ip.specs.Ip.{version_of}
use Rattle.ep_ip.specs.Ipv4.{IsIpv4Header, IsIpv4Packet, RefusesIpv4Header, RefusesIpv4Packet, ihl_of, ipv4_header_rows, ipv4_packet_rows}
use Rattle.ep_ip.specs.Ipv6.{IsIpv6Header, IsIpv6Packet, RefusesIpv6Header, RefusesIpv6Packet, ipv6_bytes, ipv6_truncation_limit, ipv6_header_rows, ipv6_packet_rows, ipv6_payload_source}
use Rattle.ep_ip.specs.IpPackets.{IpPacket, IsIp, IsIpv4, IsIpv6, RefusesIp, RefusesIpv4, RefusesIpv6, ip_truncation_limit, ip_version_rows, ipv4_part, ipv6_chain_refusal, ipv6_part, of_ipv4_error, of_ipv6_error}
use Rattle.ep_ip.proofs.Ipv4Lemmas.{ipv4_header_is_read, ipv4_packet_is_read}
use Rattle.ep_ip.proofs.Ipv6Lemmas.{ipv6_header_is_read, ipv6_packet_is_read}
use Rattle.ep_ip.proofs.IpBytesLemmas.{ipv6_len}
use Rattle.ep_ip.proofs.PacketLemmas.{ipv4_decided, ipv4_version, ipv6_decided, ipv6_version, version_rows_none}

-- ---- IPv4

abbrev Ipv4Cut : List ℕ → List ℕ → Ipv4SliceError → Type 0
Ipv4Cut prefix back = IsTruncationError ipv4_error.Len slice_end (length prefix) (length (prefix ++ back))

pub ipv4_packet_cut : ReportsTruncation IsIpv4Packet RefusesIpv4Packet ipv4_error.Len (λ packet. slice_end)
ipv4_packet_cut prefix back fits packet is error refused =
    refused_beside (Ipv4Cut prefix back) (ipv4_packet_rows prefix) (ipv4_packet_rows (prefix ++ back))
    (cut_first ipv4_error.Len slice_end prefix back 20 layer.Ipv4Header refl (λ present.
    let first = byte_beside prefix back 0 (omega (arith, present)) in
    let total = word_beside prefix back 2 (omega (arith, present)) in
    let header : 4 * ihl_of prefix ≡ 4 * ihl_of (prefix ++ back) = ap (λ (b : ℕ). 4 * (b % 16)) first in
    same_then (ap (λ (b : ℕ). not (b / 16 == 4)) first) (same_then (ap (λ (b : ℕ). nat_lt (b % 16) 5) first)
    (cut_then ipv4_error.Len slice_end prefix back (4 * ihl_of prefix) (4 * ihl_of (prefix ++ back)) layer.Ipv4Header refl
    header (same_then (λ i. nat_lt (total i) (header i))
    (cut_then ipv4_error.Len slice_end prefix back (word_at prefix 2) (word_at (prefix ++ back) 2) layer.Ipv4Packet refl
    total tt))))))
    (ipv4_packet_is_read.is_read (prefix ++ back) packet is).0 error refused

pub ipv4_header_cut : ReportsTruncation IsIpv4Header RefusesIpv4Header ipv4_header_error.Len (λ read. slice_end)
ipv4_header_cut prefix back fits read is error refused =
    let named = ipv4_header_error.Len in
    refused_beside (IsTruncationError named slice_end (length prefix) (length (prefix ++ back))) (ipv4_header_rows prefix)
    (ipv4_header_rows (prefix ++ back))
    (cut_first named slice_end prefix back 20 layer.Ipv4Header refl (λ present.
    let first = byte_beside prefix back 0 (omega (arith, present)) in
    same_then (ap (λ (b : ℕ). not (b / 16 == 4)) first) (same_then (ap (λ (b : ℕ). nat_lt (b % 16) 5) first)
    (cut_then named slice_end prefix back (4 * ihl_of prefix) (4 * ihl_of (prefix ++ back)) layer.Ipv4Header refl
    (ap (λ (b : ℕ). 4 * (b % 16)) first) tt))))
    (ipv4_header_is_read.is_read (prefix ++ back) read is).0 error refused

-- A packet followed by more bytes is the same packet with more trailing bytes.
longer_ipv4_packet : (bytes more : List ℕ) (packet : Parts Ipv4Header) → IsIpv4Packet bytes packet
    → IsIpv4Packet (bytes ++ more) (parts_of packet.header packet.payload (packet.left ++ more))
longer_ipv4_packet bytes more packet is = record {
  encoded = is.encoded;
  encodes = is.encodes;
  parts = longer_rest bytes (is.encoded ++ packet.payload) packet.left more is.parts;
  cut = is.cut;
}

-- the packet with these bytes appended to its trailing bytes
abbrev pub with_left : {Header : Type 0} → IpPacket Header → List ℕ → IpPacket Header
with_left packet more = record packet { left = packet.left ++ more }

pub longer_ipv4 : (reading : Reading) (bytes more : List ℕ) (packet : IpPacket Ipv4Header) → IsIpv4 reading bytes packet
    → IsIpv4 reading (bytes ++ more) (with_left packet more)
longer_ipv4 reading bytes more packet is = record {
  content = is.content;
  cut = longer_ipv4_packet bytes more (parts_of packet.header is.content packet.left) is.cut;
  chain = is.chain;
  fragmented = is.fragmented;
  source = is.source;
}

pub ipv4_cut : (reading : Reading) → ReportsTruncation (IsIpv4 reading) (RefusesIpv4 reading) ipv4_error.Len
    (λ packet. slice_end)
ipv4_cut reading prefix back fits packet is error (inl refused) =
    ipv4_packet_cut prefix back fits (parts_of packet.header is.content packet.left) is.cut error refused
ipv4_cut reading prefix back fits packet is error (inr (cut, cut_is, why)) =
    let longer = parts_of cut.header cut.payload (cut.left ++ back) in
    absurd ((ipv4_decided reading (prefix ++ back) fits).not_both packet error is
    (inr (longer, longer_ipv4_packet prefix back cut cut_is, why)))

-- ---- IPv6

abbrev Ipv6Cut : Ipv6Header → List ℕ → List ℕ → Ipv6SliceError → Type 0
Ipv6Cut header prefix back = IsTruncationError ipv6_error.Len (ipv6_truncation_limit 0 header) (length prefix)
    (length (prefix ++ back))

pub ipv6_packet_cut : ReportsTruncation IsIpv6Packet RefusesIpv6Packet ipv6_error.Len
    (λ packet. ipv6_truncation_limit 0 packet.header)
ipv6_packet_cut prefix back fits packet is error refused =
    let limit = ipv6_truncation_limit 0 packet.header in
    refused_beside (Ipv6Cut packet.header prefix back) (ipv6_packet_rows prefix) (ipv6_packet_rows (prefix ++ back))
    (cut_first ipv6_error.Len limit prefix back 40 layer.Ipv6Header refl (λ present.
    let first = byte_beside prefix back 0 (omega (arith, present)) in
    let field = word_beside prefix back 4 (omega (arith, present)) in
    same_then (ap (λ (b : ℕ). not (b / 16 == 6)) first)
    (cut_then ipv6_error.Len limit prefix back (40 + word_at prefix 4) (40 + word_at (prefix ++ back) 4) layer.Ipv6Packet
    refl (ap (λ (n : ℕ). 40 + n) field) tt)))
    (ipv6_packet_is_read.is_read (prefix ++ back) packet is).0 error refused

pub ipv6_header_cut : ReportsTruncation IsIpv6Header RefusesIpv6Header ipv6_header_error.Len (λ read. slice_end)
ipv6_header_cut prefix back fits read is error refused =
    let named = ipv6_header_error.Len in
    refused_beside (IsTruncationError named slice_end (length prefix) (length (prefix ++ back))) (ipv6_header_rows prefix)
    (ipv6_header_rows (prefix ++ back))
    (cut_first named slice_end prefix back 40 layer.Ipv6Header refl (λ present.
    same_then (ap (λ (b : ℕ). not (b / 16 == 6)) (byte_beside prefix back 0 (omega (arith, present)))) tt))
    (ipv6_header_is_read.is_read (prefix ++ back) read is).0 error refused

-- A packet with a payload length above 0, followed by more bytes, is the same packet with more trailing bytes.
longer_counted : (bytes more : List ℕ) (packet : Parts Ipv6Header) → IsIpv6Packet bytes packet
    → (0 < packet.header.payload_length) × (packet.header.payload_length ≡ length packet.payload)
    → IsIpv6Packet (bytes ++ more) (parts_of packet.header packet.payload (packet.left ++ more))
longer_counted bytes more packet is counted = record {
  fits = is.fits;
  parts = longer_rest bytes (ipv6_bytes packet.header ++ packet.payload) packet.left more is.parts;
  cut = inl counted;
}

-- A packet with the payload length 0, followed by more bytes, is a packet with these bytes in its payload.
longer_open : (bytes more : List ℕ) (packet : Parts Ipv6Header) → IsIpv6Packet bytes packet
    → (packet.header.payload_length ≡ 0) × (packet.left ≡ [])
    → IsIpv6Packet (bytes ++ more) (parts_of packet.header (packet.payload ++ more) [])
longer_open bytes more packet is zero_length = record {
  fits = is.fits;
  parts = longer_payload bytes (ipv6_bytes packet.header) packet.payload packet.left more is.parts zero_length.1;
  cut = inr (zero_length.0, refl);
}

-- If the payload length is 0 and an error counts the bytes up to the end, its limit is the one in
-- `ipv6_truncation_limit`.
pub open_limit : (start offset len present field : ℕ) → offset + len ≡ present → field ≡ 0
    → (if (field == 0) && nat_lt 0 present then source.Slice else source.Ipv6HeaderPayloadLen)
    ≡ (if (offset + (start + 40) == start + 40) && ((len == 0) && (field == 0))
    then source.Ipv6HeaderPayloadLen else source.Slice)
open_limit start offset len present field counted zero_is = grind (arith, common_steps)

-- An error of truncated extension headers in a packet with the payload length 0 is an error for the missing bytes.
open_cut : (prefix back : List ℕ) (header : Ipv6Header) (cut : Parts Ipv6Header) → IsIpv6Packet prefix cut
    → header ≡ cut.header → cut.header.payload_length ≡ 0 → cut.left ≡ [] → (refusal : ExtsSliceError)
    → IsCut (length cut.payload) (length (cut.payload ++ back)) refusal
    → Ipv6Cut header prefix back (ipv6_chain_refusal cut.header cut.payload refusal)
open_cut prefix back header cut is same none nothing refusal known =
    let missing = known.missing in
    let limit = ipv6_payload_source cut.header cut.payload in
    let here : 40 + length cut.payload ≡ length prefix =
    omega (
      arith,
      ap length is.parts,
      ap length nothing,
      length-append (ipv6_bytes cut.header ++ cut.payload) cut.left,
      length-append (ipv6_bytes cut.header) cut.payload,
      ipv6_len cut.header is.fits,
    ) in
    let complete : 40 + length (cut.payload ++ back) ≡ length (prefix ++ back) =
    omega (arith, here, length-append cut.payload back, length-append prefix back) in
    let moved = record missing { layer_start_offset = missing.layer_start_offset + 40; len_source = limit } in
    let limits : ipv6_payload_source cut.header cut.payload ≡ ipv6_truncation_limit 0 cut.header moved =
    open_limit 0 missing.layer_start_offset missing.len (length cut.payload) cut.header.payload_length
    known.short.available
    none in
    record {
      missing = moved;
      is = ap (ipv6_chain_refusal cut.header cut.payload) known.is
          ∙ ap (λ (s : LenSource). ipv6_error.Len (record missing {
            layer_start_offset = missing.layer_start_offset + 40;
            len_source = limited_by limit s;
          })) known.source;
      short = subst (λ (n : ℕ). IsTruncationLenError n (length (prefix ++ back)) moved) here
          (subst (λ (n : ℕ). IsTruncationLenError (40 + length cut.payload) n moved) complete
          (further_short 40 (length cut.payload) (length (cut.payload ++ back)) limit missing known.short));
      source = limits ∙ ap (λ (h : Ipv6Header). ipv6_truncation_limit 0 h moved) (sym same);
    }

pub ipv6_cut : (reading : Reading)
    → ReportsTruncation (IsIpv6 reading) (RefusesIpv6 reading) ipv6_error.Len
    (λ packet. ipv6_truncation_limit 0 packet.header)
ipv6_cut reading prefix back fits packet is error (inl refused) =
    ipv6_packet_cut prefix back fits (parts_of packet.header is.content packet.left) is.cut error refused
ipv6_cut reading prefix back fits packet is error (inr (cut, cut_is, why)) =
    elim cut_is.cut [
      | inl counted ↦
          let longer = parts_of cut.header cut.payload (cut.left ++ back) in
          absurd ((ipv6_decided reading (prefix ++ back) fits).not_both packet error is
          (inr (longer, longer_counted prefix back cut cut_is counted, why)))
      | inr zero_length ↦
          let content = cut.payload ++ back in
          let holds = longer_open prefix back cut cut_is zero_length in
          let same = one_value ipv6_packet_is_read (prefix ++ back) (parts_of packet.header is.content packet.left)
          (parts_of cut.header content []) is.cut holds in
          let chain = chain_of packet.extensions packet.payload.number packet.payload.bytes in
          let chain_is : IsExtensionChain ipv6 reading cut.header.next_header.0 content chain =
          subst (λ (p : Parts Ipv6Header). IsExtensionChain ipv6 reading p.header.next_header.0 p.payload chain) same
          is.chain in
          let content_fits = AreBytes-payload (prefix ++ back) (ipv6_bytes cut.header) content [] fits holds.parts in
          subst (Ipv6Cut packet.header prefix back) (sym why.2)
          (open_cut prefix back packet.header cut cut_is (ap (λ (p : Parts Ipv6Header). p.header) same) zero_length.0
          zero_length.1 why.0
          (chain_cut ipv6 reading cut.header.next_header.0 cut.payload back content_fits chain chain_is why.0 why.1))
    ]

-- the packet with `more` appended to its content, and so to its payload
abbrev pub with_more : IpPacket Ipv6Header → List ℕ → List ℕ → IpPacket Ipv6Header
with_more packet content more = record {
  header = packet.header;
  extensions = packet.extensions;
  payload = record {
    number = packet.payload.number;
    fragmented = packet.payload.fragmented;
    source = ipv6_payload_source packet.header (content ++ more);
    bytes = packet.payload.bytes ++ more;
  };
  left = [];
}

-- A packet followed by more bytes is a packet. They are trailing bytes, or payload if the payload length is 0.
pub longer_ipv6 : (reading : Reading) (bytes more : List ℕ) (packet : IpPacket Ipv6Header)
    (is : IsIpv6 reading bytes packet)
    → IsIpv6 reading (bytes ++ more) (with_left packet more)
    ⊎ ((packet.header.payload_length ≡ 0) × (packet.left ≡ [])
    × IsIpv6 reading (bytes ++ more) (with_more packet is.content more))
longer_ipv6 reading bytes more packet is =
    let cut = parts_of packet.header is.content packet.left in
    elim is.cut.cut [
      | inl counted ↦ inl (record {
        content = is.content;
        cut = longer_counted bytes more cut is.cut counted;
        chain = is.chain;
        fragmented = is.fragmented;
        source = is.source;
      })
      | inr zero_length ↦ inr (
        zero_length.0,
        zero_length.1,
        record {
          content = is.content ++ more;
          cut = longer_open bytes more cut is.cut zero_length;
          chain = longer_chain ipv6 reading packet.header.next_header.0 is.content more
              (chain_of packet.extensions packet.payload.number packet.payload.bytes) is.chain;
          fragmented = is.fragmented;
          source = refl;
        },
      )
    ]

-- ---- either version

abbrev IpCut : (LenError → LenSource) → List ℕ → List ℕ → IpSliceError → Type 0
IpCut limit prefix back = IsTruncationError ip_error.Len limit (length prefix) (length (prefix ++ back))

-- If there is no byte to read the version from, the error is one for the missing byte.
no_byte : (limit : LenError → LenSource) (prefix back : List ℕ)
    → source.Slice ≡ limit (len_error 1 0 source.Slice layer.IpHeader)
    → (length (prefix ++ back) == 0) ≡ false → (length prefix == 0) ≡ true
    → IpCut limit prefix back (ip_error.Len (len_error 1 0 source.Slice layer.IpHeader))
no_byte limit prefix back by some none = record {
  missing = len_error 1 0 source.Slice layer.IpHeader;
  is = refl;
  short = record {
    available = grind (arith, common_steps);
    needed = omega arith;
    within = grind (arith, common_steps);
  };
  source = by;
}

version_cut : (limit : LenError → LenSource) (prefix back : List ℕ)
    → source.Slice ≡ limit (len_error 1 0 source.Slice layer.IpHeader)
    → first_row (ip_version_rows (prefix ++ back)) ≡ None → (error : IpSliceError)
    → Refuses (ip_version_rows prefix) error → IpCut limit prefix back error
version_cut limit prefix back by none error refused =
    refused_beside (IpCut limit prefix back) (ip_version_rows prefix) (ip_version_rows (prefix ++ back))
    (λ some. (
      no_byte limit prefix back by some,
      λ byte.
          let present : 1 ≤ length prefix = grind (arith, common_steps) in
          let first = byte_beside prefix back 0 (omega (arith, present)) in
          same_then (ap (λ (b : ℕ). not (b / 16 == 4 || b / 16 == 6)) first) tt,
    ))
    none error refused

-- If the first bytes have a version, all bytes have that version.
same_version : (prefix back : List ℕ) → (version_of prefix ≡ 0 → ⊥) → version_of prefix ≡ version_of (prefix ++ back)
same_version [] back some = absurd (some refl)
same_version (byte ∷ prefix) back some = refl

pub ip_cut : (reading : Reading) → ReportsTruncation (IsIp reading) (RefusesIp reading) ip_error.Len
    (ip_truncation_limit 0)
ip_cut reading prefix back fits (ipv4_part packet) is error (inl refused) =
    version_cut slice_end prefix back refl
    (version_rows_none (prefix ++ back) (inl (ipv4_version reading (prefix ++ back) packet is))) error refused
ip_cut reading prefix back fits (ipv6_part packet) is error (inl refused) =
    version_cut (ipv6_truncation_limit 0 packet.header) prefix back refl
    (version_rows_none (prefix ++ back) (inr (ipv6_version reading (prefix ++ back) packet is))) error refused
ip_cut reading prefix back fits (ipv4_part packet) is error (inr (inl refused)) =
    renamed_cut of_ipv4_error ipv4_error.Len slice_end (length prefix) (length (prefix ++ back)) refused.1.0 error
    (ipv4_cut reading prefix back fits packet is refused.1.0 refused.1.1) refused.1.2
ip_cut reading prefix back fits (ipv6_part packet) is error (inr (inl refused)) =
    let same = same_version prefix back (λ none. omega (arith, refused.0, none)) in
    absurd (omega (arith, refused.0, same, ipv6_version reading (prefix ++ back) packet is))
ip_cut reading prefix back fits (ipv4_part packet) is error (inr (inr refused)) =
    let same = same_version prefix back (λ none. omega (arith, refused.0, none)) in
    absurd (omega (arith, refused.0, same, ipv4_version reading (prefix ++ back) packet is))
ip_cut reading prefix back fits (ipv6_part packet) is error (inr (inr refused)) =
    renamed_cut of_ipv6_error ipv6_error.Len (ipv6_truncation_limit 0 packet.header) (length prefix)
    (length (prefix ++ back))
    refused.1.0 error (ipv6_cut reading prefix back fits packet is refused.1.0 refused.1.1) refused.1.2
