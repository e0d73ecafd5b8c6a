-- A filled in transport header and its payload are read back.
use Rattle.std.proofs.Common.{◌≡◌, ℕ, ◌+◌, ◌≤◌, false, List, [], ◌∷◌, ◌++◌, length, Some, None}
use Rattle.std.proofs.Common.{refl, sym, ap, ◌∙◌, inl, arith}
use Rattle.std.proofs.lemmas.Bool.{true≢false}
use Rattle.std.proofs.lemmas.Grind.{common_steps}
use Rattle.std.proofs.lemmas.List.{append-nil, length-append}
use Rattle.ep_base.specs.Bytes.{AreBytes, word_at}
use Rattle.ep_base.specs.Checksum.{checksum_of}
use Rattle.ep_base.specs.IpNumbers.{tcp_number}
use Rattle.ep_base.specs.Readings.{Reading, slices, headers as by_value}
use Rattle.ep_base.specs.Tables.{Parts, first_row, parts_of}
use Rattle.ep_base.proofs.TableLemmas.{one_value}
use Rattle.ep_packet.specs.declared.ip_headers.IpHeaders.{IpHeaders}
use Rattle.ep_packet.specs.declared.ip_headers.IpHeaders.TheVariants as version
use Rattle.ep_packet.specs.Verdicts.{verdict_ipv4, verdict_ipv6}
use Rattle.ep_transport.specs.Icmpv4.{FitsIcmpv4, IsIcmpv4, icmpv4_bytes, icmpv4_message, icmpv4_parts, icmpv4_rows}
use Rattle.ep_transport.specs.Icmpv6.{FitsIcmpv6, IsIcmpv6, icmpv6_bytes, icmpv6_checksum, icmpv6_parts, icmpv6_rows}
use Rattle.ep_transport.specs.PseudoHeaders.{pseudo_header_ipv4, pseudo_header_ipv6, segment_checksum_ipv4}
use Rattle.ep_transport.specs.PseudoHeaders.{segment_checksum_ipv6, tcp_bytes_without_checksum, tcp_checksum_ipv4}
use Rattle.ep_transport.specs.PseudoHeaders.{tcp_checksum_ipv6, tcp_message}
use Rattle.ep_transport.specs.Tcp.{FitsTcp, IsTcp, tcp_bytes, tcp_header_len}
use Rattle.ep_transport.specs.TransportHeaders.{EncodesTransportHeader, transport_bytes}
use Rattle.ep_transport.specs.TransportParts.{IsTransportPart, IsUdpPart, TransportLayer, transport_layer}
use Rattle.ep_transport.specs.Udp.{FitsUdp, udp_bytes}
use Rattle.ep_transport.specs.declared.icmpv4_header.Icmpv4Header.{Icmpv4Header}
use Rattle.ep_transport.specs.declared.icmpv6_header.Icmpv6Header.{Icmpv6Header}
use Rattle.ep_transport.specs.declared.tcp_header.TcpHeader.{TcpHeader}
use Rattle.ep_transport.specs.declared.transport_header.TransportHeader.{TransportHeader}
use Rattle.ep_transport.specs.declared.transport_header.TransportHeader.TheVariants as transport
use Rattle.ep_transport.specs.declared.udp_header.UdpHeader.{UdpHeader}
use Rattle.ep_transport.proofs.Icmpv4Lemmas.{icmpv4_is_read}
use Rattle.ep_transport.proofs.Icmpv6Lemmas.{icmpv6_is_read}
use Rattle.ep_build.specs.BuildErrors.{is_icmpv6_in_ipv4}
use Rattle.ep_build.specs.BuiltFrames.{transport_between, transport_number}
use Rattle.ep_build.specs.Fits.{FitsTransport}
use Rattle.ep_build.specs.KeptFields.{KeepsIcmpv4, KeepsIcmpv6, KeepsTransport, tcp_checksum_between}
use Rattle.ep_build.specs.KeptFields.{udp_checksum_between}
use Rattle.ep_build.specs.ReadBack.{HasItsLength, SumsUp, message_of}

-- The transport layer of a message with this header. The verdict about its checksum is that about the header.
pub record TransportOf (reading : Reading) (number : ℕ) (headers : IpHeaders) (given : TransportHeader)
    (payload : List ℕ) (written : TransportHeader) (message : List ℕ) : Type 0 where
  pub layer : TransportLayer
  pub part : IsTransportPart reading number false message (Some layer)
  pub header : List ℕ
  pub encodes : EncodesTransportHeader layer.header header
  pub parts : message ≡ header ++ layer.payload
  pub sums : SumsUp headers layer.header message
  pub kept : is_icmpv6_in_ipv4 headers given ≡ false
      → KeepsTransport headers given payload number message layer.header layer.payload
  pub same_ipv4 : (source destination : List ℕ)
      → verdict_ipv4 source destination layer.header message ≡ verdict_ipv4 source destination written message
  pub same_ipv6 : (source destination : List ℕ)
      → verdict_ipv6 source destination layer.header message ≡ verdict_ipv6 source destination written message

-- ---- UDP

is_udp : (reading : Reading) (header : UdpHeader) (payload : List ℕ) → FitsUdp header
    → header.length ≡ 8 + length payload → IsUdpPart reading (udp_bytes header ++ payload) header payload
is_udp slices header payload fits counts =
    ([], record { fits = fits; parts = sym (append-nil (udp_bytes header ++ payload)); cut = inl counts })
is_udp by_value header payload fits counts = record { fits = fits; parts = refl }

-- ---- TCP

is_tcp : (header : TcpHeader) (payload : List ℕ) → FitsTcp header
    → IsTcp (tcp_bytes header ++ payload) (parts_of header payload [])
is_tcp header payload fits = record {
  encoded = tcp_bytes header;
  encodes = record { fits = fits; reserved = 0; three_bits = omega arith; same = refl };
  parts = refl;
  whole = refl;
}

pub tcp_len : (header : TcpHeader) (payload : List ℕ)
    → length (tcp_bytes header ++ payload) ≡ tcp_header_len header + length payload
tcp_len header payload = grind (arith, common_steps)

without_checksum : (header : TcpHeader) (payload : List ℕ)
    → tcp_bytes_without_checksum (tcp_bytes header ++ payload) ≡ tcp_message header payload
without_checksum header payload = refl

-- The checksum of a segment's bytes is that of its header and payload.
sum_4 : (source destination : List ℕ) (header : TcpHeader) (payload : List ℕ)
    → tcp_checksum_ipv4 source destination header payload
    ≡ segment_checksum_ipv4 source destination (tcp_bytes header ++ payload)
sum_4 source destination header payload =
    ap (λ (n : ℕ). checksum_of (pseudo_header_ipv4 source destination tcp_number n ++ tcp_message header payload))
    (sym (tcp_len header payload))
    ∙ ap (λ (b : List ℕ). checksum_of
    (pseudo_header_ipv4 source destination tcp_number (length (tcp_bytes header ++ payload)) ++ b))
    (sym (without_checksum header payload))

sum_6 : (source destination : List ℕ) (header : TcpHeader) (payload : List ℕ)
    → tcp_checksum_ipv6 source destination header payload
    ≡ segment_checksum_ipv6 source destination (tcp_bytes header ++ payload)
sum_6 source destination header payload =
    ap (λ (n : ℕ). checksum_of (pseudo_header_ipv6 source destination tcp_number n ++ tcp_message header payload))
    (sym (tcp_len header payload))
    ∙ ap (λ (b : List ℕ). checksum_of
    (pseudo_header_ipv6 source destination tcp_number (length (tcp_bytes header ++ payload)) ++ b))
    (sym (without_checksum header payload))

-- ---- ICMP

enough : (message : List ℕ) → 8 ≤ length message → first_row (icmpv6_rows message) ≡ None
enough message fits = grind (arith, common_steps)

-- A message that is no TCP segment has no checksum to match.
sums_4 : (headers : IpHeaders) (message : List ℕ)
    → SumsUp headers (transport.Icmpv4 (icmpv4_parts message).header) message
sums_4 (version.Ipv4 ip extensions) message = tt
sums_4 (version.Ipv6 ip extensions) message = tt

sums_6 : (headers : IpHeaders) (message : List ℕ)
    → SumsUp headers (transport.Icmpv6 (icmpv6_parts message).header) message
sums_6 (version.Ipv4 ip extensions) message = tt
sums_6 (version.Ipv6 ip extensions) message = tt

icmpv4_kept : (given : Icmpv4Header) (payload : List ℕ)
    → let filled = record given { checksum = checksum_of (icmpv4_message given payload) } in
    let message = icmpv4_bytes filled ++ payload in IsIcmpv4 message (icmpv4_parts message)
    → KeepsIcmpv4 given payload message (icmpv4_parts message).header (icmpv4_parts message).payload
icmpv4_kept given payload is =
    let sum = checksum_of (icmpv4_message given payload) in
    let filled = record given { checksum = sum } in
    let message = icmpv4_bytes filled ++ payload in
    let same_sum : word_at message 2 ≡ sum = omega arith in record {
      checksum = same_sum;
      bytes = ap (λ (n : ℕ). icmpv4_bytes (record given { checksum = n }) ++ payload) (sym same_sum);
      fields = λ fits ends.
          let valid : FitsIcmpv4 filled =
          record { checksum = omega arith; fields = fits.fields; kind = fits.kind } in
          let written : IsIcmpv4 message (parts_of filled payload []) = record {
            encoded = icmpv4_bytes filled;
            encodes = record { fits = valid; unused = 0 ∷ 0 ∷ 0 ∷ 0 ∷ []; four = refl; same = refl };
            parts = refl;
            ends = ends;
            whole = refl;
          } in
          let same : icmpv4_parts message ≡ parts_of filled payload [] =
          one_value icmpv4_is_read message (icmpv4_parts message) (parts_of filled payload []) is written in (
            ap (λ (p : Parts Icmpv4Header). p.header.icmp_type) same,
            ap (λ (p : Parts Icmpv4Header). p.payload) same,
          );
    }

icmpv6_kept : (source destination : List ℕ) (given : Icmpv6Header) (payload : List ℕ)
    → let filled = record given { checksum = icmpv6_checksum source destination given payload } in
    let message = icmpv6_bytes filled ++ payload in IsIcmpv6 message (icmpv6_parts message)
    → KeepsIcmpv6 source destination given payload message (icmpv6_parts message).header
    (icmpv6_parts message).payload
icmpv6_kept source destination given payload is =
    let sum = icmpv6_checksum source destination given payload in
    let filled = record given { checksum = sum } in
    let message = icmpv6_bytes filled ++ payload in
    let same_sum : word_at message 2 ≡ sum = omega arith in record {
      checksum = same_sum;
      bytes = ap (λ (n : ℕ). icmpv6_bytes (record given { checksum = n }) ++ payload) (sym same_sum);
      fields = λ fits.
          let valid : FitsIcmpv6 filled =
          record { checksum = omega arith; fields = fits.fields; kind = fits.kind } in
          let written : IsIcmpv6 message (parts_of filled payload []) = record {
            encoded = icmpv6_bytes filled;
            encodes = record { fits = valid; unused = 0 ∷ 0 ∷ 0 ∷ 0 ∷ []; four = refl; same = refl };
            parts = refl;
            whole = refl;
          } in
          let same : icmpv6_parts message ≡ parts_of filled payload [] =
          one_value icmpv6_is_read message (icmpv6_parts message) (parts_of filled payload []) is written in (
            ap (λ (p : Parts Icmpv6Header). p.header.icmp_type) same,
            ap (λ (p : Parts Icmpv6Header). p.payload) same,
          );
    }

icmpv4_of : (reading : Reading) (headers : IpHeaders) (given : Icmpv4Header) (payload : List ℕ)
    → let filled = record given { checksum = checksum_of (icmpv4_message given payload) } in
    let message = icmpv4_bytes filled ++ payload in AreBytes message
    → first_row (icmpv4_rows message) ≡ None
    → TransportOf reading 1 headers (transport.Icmpv4 given) payload (transport.Icmpv4 filled) message
icmpv4_of reading headers given payload bytes none =
    let filled = record given { checksum = checksum_of (icmpv4_message given payload) } in
    let message = icmpv4_bytes filled ++ payload in
    let is = icmpv4_is_read.reads message bytes none in record {
      layer = transport_layer (transport.Icmpv4 (icmpv4_parts message).header) (icmpv4_parts message).payload;
      part = (refl, (refl, is));
      header = is.encoded;
      encodes = is.encodes;
      parts = is.parts;
      sums = sums_4 headers message;
      kept = λ other. (icmpv4_kept given payload is, refl);
      same_ipv4 = λ source destination. refl;
      same_ipv6 = λ source destination. refl;
    }

-- An ICMPv6 message that is kept, or follows IPv4.
icmpv6_of : (reading : Reading) (headers : IpHeaders) (given written : Icmpv6Header) (payload message : List ℕ)
    → AreBytes message → first_row (icmpv6_rows message) ≡ None
    → (is_icmpv6_in_ipv4 headers (transport.Icmpv6 given) ≡ false → IsIcmpv6 message (icmpv6_parts message)
    → KeepsTransport headers (transport.Icmpv6 given) payload 58 message
    (transport.Icmpv6 (icmpv6_parts message).header) (icmpv6_parts message).payload)
    → TransportOf reading 58 headers (transport.Icmpv6 given) payload (transport.Icmpv6 written) message
icmpv6_of reading headers given written payload message bytes none kept =
    let is = icmpv6_is_read.reads message bytes none in record {
      layer = transport_layer (transport.Icmpv6 (icmpv6_parts message).header) (icmpv6_parts message).payload;
      part = (refl, (refl, is));
      header = is.encoded;
      encodes = is.encodes;
      parts = is.parts;
      sums = sums_6 headers message;
      kept = λ other. kept other is;
      same_ipv4 = λ source destination. refl;
      same_ipv6 = λ source destination. refl;
    }

-- ---- all transport headers

-- The checksum of a header does not depend on its checksum field.
udp_sum_again : (headers : IpHeaders) (header : UdpHeader) (payload : List ℕ)
    → let sum = udp_checksum_between headers header payload in
    sum ≡ udp_checksum_between headers (record header { checksum = sum }) payload
udp_sum_again (version.Ipv4 ip extensions) header payload = refl
udp_sum_again (version.Ipv6 ip extensions) header payload = refl

tcp_sum_again : (headers : IpHeaders) (header : TcpHeader) (payload : List ℕ)
    → let sum = tcp_checksum_between headers header payload in
    sum ≡ tcp_checksum_between headers (record header { checksum = sum }) payload
tcp_sum_again (version.Ipv4 ip extensions) header payload = refl
tcp_sum_again (version.Ipv6 ip extensions) header payload = refl

udp_sums : (headers : IpHeaders) (header : UdpHeader) (message : List ℕ) → SumsUp headers (transport.Udp header) message
udp_sums (version.Ipv4 ip extensions) header message = tt
udp_sums (version.Ipv6 ip extensions) header message = tt

udp_of : (reading : Reading) (headers : IpHeaders) (given : UdpHeader) (payload : List ℕ)
    → let counted = record given { length = 8 + length payload } in
    let filled = record counted { checksum = udp_checksum_between headers counted payload } in FitsUdp filled
    → TransportOf reading 17 headers (transport.Udp given) payload (transport.Udp filled) (udp_bytes filled ++ payload)
udp_of reading headers given payload fits =
    let counted = record given { length = 8 + length payload } in
    let filled = record counted { checksum = udp_checksum_between headers counted payload } in record {
      layer = transport_layer (transport.Udp filled) payload;
      part = (refl, (refl, is_udp reading filled payload fits refl));
      header = udp_bytes filled;
      encodes = (fits, refl);
      parts = refl;
      sums = udp_sums headers filled (udp_bytes filled ++ payload);
      kept = λ other. (
        record {
          source_port = refl;
          destination_port = refl;
          length = refl;
          checksum = udp_sum_again headers counted payload;
        },
        refl,
        refl,
        refl,
      );
      same_ipv4 = λ source destination. refl;
      same_ipv6 = λ source destination. refl;
    }

tcp_of : (reading : Reading) (headers : IpHeaders) (given : TcpHeader) (payload : List ℕ)
    → let filled = record given { checksum = tcp_checksum_between headers given payload } in FitsTcp filled
    → SumsUp headers (transport.Tcp filled) (tcp_bytes filled ++ payload)
    → TransportOf reading 6 headers (transport.Tcp given) payload (transport.Tcp filled) (tcp_bytes filled ++ payload)
tcp_of reading headers given payload fits sums =
    let filled = record given { checksum = tcp_checksum_between headers given payload } in record {
      layer = transport_layer (transport.Tcp filled) payload;
      part = (refl, (refl, is_tcp filled payload fits));
      header = tcp_bytes filled;
      encodes = record { fits = fits; reserved = 0; three_bits = omega arith; same = refl };
      parts = refl;
      sums = sums;
      kept = λ other. (
        record {
          source_port = refl;
          destination_port = refl;
          sequence_number = refl;
          acknowledgment_number = refl;
          ns = refl;
          fin = refl;
          syn = refl;
          rst = refl;
          psh = refl;
          ack = refl;
          urg = refl;
          ece = refl;
          cwr = refl;
          window_size = refl;
          checksum = tcp_sum_again headers given payload;
          urgent_pointer = refl;
          options = refl;
        },
        refl,
        refl,
        refl,
      );
      same_ipv4 = λ source destination. refl;
      same_ipv6 = λ source destination. refl;
    }

pub transport_of : (reading : Reading) (headers : IpHeaders) (after : TransportHeader) (payload : List ℕ)
    → FitsTransport (transport_between headers payload after) → AreBytes (message_of headers after payload)
    → HasItsLength after (message_of headers after payload)
    → TransportOf reading (transport_number after) headers after payload (transport_between headers payload after)
    (message_of headers after payload)
transport_of reading (version.Ipv4 ip extensions) (transport.Udp header) payload fits bytes its_length =
    udp_of reading (version.Ipv4 ip extensions) header payload fits
transport_of reading (version.Ipv6 ip extensions) (transport.Udp header) payload fits bytes its_length =
    udp_of reading (version.Ipv6 ip extensions) header payload fits
transport_of reading (version.Ipv4 ip extensions) (transport.Tcp header) payload fits bytes its_length =
    let present = record header { checksum = tcp_checksum_ipv4 ip.source ip.destination header payload } in
    tcp_of reading (version.Ipv4 ip extensions) header payload fits (sum_4 ip.source ip.destination present payload)
transport_of reading (version.Ipv6 ip extensions) (transport.Tcp header) payload fits bytes its_length =
    let present = record header { checksum = tcp_checksum_ipv6 ip.source ip.destination header payload } in
    tcp_of reading (version.Ipv6 ip extensions) header payload fits (sum_6 ip.source ip.destination present payload)
transport_of reading (version.Ipv4 ip extensions) (transport.Icmpv4 header) payload fits bytes its_length =
    icmpv4_of reading (version.Ipv4 ip extensions) header payload bytes its_length
transport_of reading (version.Ipv6 ip extensions) (transport.Icmpv4 header) payload fits bytes its_length =
    icmpv4_of reading (version.Ipv6 ip extensions) header payload bytes its_length
transport_of reading (version.Ipv4 ip extensions) (transport.Icmpv6 header) payload fits bytes its_length =
    let headers = version.Ipv4 ip extensions in
    let message = message_of headers (transport.Icmpv6 header) payload in
    let filled = transport_bytes (transport_between headers payload (transport.Icmpv6 header)) in
    icmpv6_of reading headers header header payload message bytes
    (enough message (omega (arith, fits, length-append filled payload))) (λ other is. absurd (true≢false other))
transport_of reading (version.Ipv6 ip extensions) (transport.Icmpv6 header) payload fits bytes its_length =
    let headers = version.Ipv6 ip extensions in
    let message = message_of headers (transport.Icmpv6 header) payload in
    let filled = transport_bytes (transport_between headers payload (transport.Icmpv6 header)) in
    icmpv6_of reading headers header _ payload message bytes
    (enough message (omega (arith, fits, length-append filled payload)))
    (λ other is. (icmpv6_kept ip.source ip.destination header payload is, refl))
