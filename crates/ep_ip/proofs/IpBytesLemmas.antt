-- The bytes of an IP packet are its headers, its payload, and its trailing bytes.
use Rattle.std.proofs.Common.{◌≡◌, ℕ, List, ◌++◌, length, refl, ap, ◌∙◌, append_assoc, length-append, arith}
use Rattle.std.proofs.lemmas.Grind.{common_steps}
use Rattle.ep_base.specs.Readings.{Reading}
use Rattle.ep_ext.proofs.ChainBytesLemmas.{chain_encoded, chain_len}
use Rattle.ep_ext.specs.Chains.{chain_of, ipv4, ipv6}
use Rattle.ep_ip.specs.declared.ipv4_header.Ipv4Header.{Ipv4Header}
use Rattle.ep_ip.specs.declared.ipv6_header.Ipv6Header.{Ipv6Header}
use Rattle.ep_ip.specs.Ipv4.{EncodesIpv4, ipv4_header_len}
use Rattle.ep_ip.specs.Ipv6.{FitsIpv6, ipv6_bytes}
use Rattle.ep_ip.specs.IpPackets.{IpPacket, IsIpv4, IsIpv6}
use Rattle.ep_ip.specs.IpBytes.{AreIpv4Bytes, AreIpv6Bytes}

-- Regroups a header, extension headers, a payload and trailing bytes.
regroup : (bytes prefix content after payload left : List ℕ) → bytes ≡ (prefix ++ content) ++ left
    → content ≡ after ++ payload → bytes ≡ ((prefix ++ after) ++ payload) ++ left
regroup bytes prefix content after payload left parts inside =
    parts ∙ ap (λ (x : List ℕ). (prefix ++ x) ++ left) inside
    ∙ ap (λ (x : List ℕ). x ++ left) (simp append_assoc)

-- The wire bytes of a header have the header's length.
pub encoded_len : (encoded : List ℕ) (header : Ipv4Header) → EncodesIpv4 encoded header
    → length encoded ≡ ipv4_header_len header
encoded_len encoded header is =
    ap length is.same ∙ grind (arith, common_steps, is.fits.source_len, is.fits.destination_len)

pub ipv6_len : (header : Ipv6Header) → FitsIpv6 header → length (ipv6_bytes header) ≡ 40
ipv6_len header fits = grind (arith, common_steps, fits.source_len, fits.destination_len)

-- The bytes of an IPv4 packet are its parts in order.
pub ipv4_packet_bytes : (reading : Reading) (bytes : List ℕ) (packet : IpPacket Ipv4Header)
    → IsIpv4 reading bytes packet → AreIpv4Bytes bytes packet
ipv4_packet_bytes reading bytes packet is =
    let cut = is.cut in
    let chain = chain_of packet.extensions packet.payload.number packet.payload.bytes in
    let after = chain_encoded ipv4 reading packet.header.protocol.0 is.content chain is.chain in
    let len = chain_len ipv4 reading packet.header.protocol.0 is.content chain is.chain in
    record {
      headers = cut.encoded ++ after.0;
      encodes = (cut.encoded, after.0, cut.encodes, after.1, refl);
      len_is = omega (
        arith,
        length-append cut.encoded after.0,
        encoded_len cut.encoded packet.header cut.encodes,
        len,
        ap length after.2,
        length-append after.0 packet.payload.bytes,
      );
      parts = regroup bytes cut.encoded is.content after.0 packet.payload.bytes packet.left cut.parts after.2;
    }

-- The bytes of an IPv6 packet are its parts in order.
pub ipv6_packet_bytes : (reading : Reading) (bytes : List ℕ) (packet : IpPacket Ipv6Header)
    → IsIpv6 reading bytes packet → AreIpv6Bytes bytes packet
ipv6_packet_bytes reading bytes packet is =
    let cut = is.cut in
    let prefix = ipv6_bytes packet.header in
    let chain = chain_of packet.extensions packet.payload.number packet.payload.bytes in
    let after = chain_encoded ipv6 reading packet.header.next_header.0 is.content chain is.chain in
    let len = chain_len ipv6 reading packet.header.next_header.0 is.content chain is.chain in
    record {
      headers = prefix ++ after.0;
      encodes = (cut.fits, (after.0, after.1, refl));
      len_is = omega (
        arith,
        length-append prefix after.0,
        ipv6_len packet.header cut.fits,
        len,
        ap length after.2,
        length-append after.0 packet.payload.bytes,
      );
      parts = regroup bytes prefix is.content after.0 packet.payload.bytes packet.left cut.parts after.2;
    }
