-- Whole packets: lax slicing rejects no layer of them, and their length fields fit their headers and bytes. Of a packet
-- that lax slicing read without a stop and without missing bytes, only the lengths of IPv4 and UDP may not fit.
use Rattle.std.specs.Prelude.{ℕ, ◌+◌, ◌==◌, ◌&&◌, ◌||◌, not, nat_le, is_none, Bool, true, List, [], ◌∷◌, length, Option, Some, None}
use Rattle.ep_base.specs.LaxCut.{cuts}
use Rattle.ep_ip.specs.Ipv4.{ipv4_header_len}
use Rattle.ep_link.specs.LinkExtensions.{LinkExtension}
use Rattle.ep_transport.specs.declared.transport_header.TransportHeader.{TransportHeader}
use Rattle.ep_transport.specs.declared.transport_header.TransportHeader.TheVariants as header
use Rattle.ep_transport.specs.TransportParts.{TransportLayer}
use Rattle.ep_packet.specs.Layers.{NetLayer, arp, ipv4, ipv6}
use Rattle.ep_lax.specs.LaxLayers.{LaxLayers}

-- True if no byte of the payload of these link extensions is missing.
abbrev pub are_complete : List (LinkExtension × Bool) → Bool
are_complete [] = true
are_complete (tagged ∷ others) = not tagged.1 && are_complete others

-- True if no byte of the payload of IP is missing, and the total length of IPv4 includes the header (RFC 791, 3.1).
-- `incomplete` states whether bytes of the payload are missing.
abbrev pub is_whole_net : Option NetLayer → Bool → Bool
is_whole_net None incomplete = true
is_whole_net (Some (ipv4 header extensions payload)) incomplete =
    not incomplete && nat_le (ipv4_header_len header) header.total_len
is_whole_net (Some (ipv6 header extensions payload)) incomplete = not incomplete
is_whole_net (Some (arp packet)) incomplete = true

-- True if the length of UDP is 0, which states no length, or includes the header and is at most the number of available
-- bytes (RFC 768). Other transport headers have no length field.
abbrev pub is_whole_header : TransportHeader → List ℕ → Bool
is_whole_header (header.Udp udp) payload = udp.length == 0 || cuts 8 udp.length (8 + length payload)
is_whole_header (header.Tcp tcp) payload = true
is_whole_header (header.Icmpv4 icmp) payload = true
is_whole_header (header.Icmpv6 icmp) payload = true

-- True if the length of UDP, if present, applies or states no length.
abbrev pub is_whole_transport : Option TransportLayer → Bool
is_whole_transport None = true
is_whole_transport (Some layer) = is_whole_header layer.header layer.payload

-- True if slicing did not stop at an error, no byte of a payload is missing, and the length fields of IPv4 and UDP
-- include their headers.
abbrev pub is_whole_frame : LaxLayers → Bool
is_whole_frame read =
    is_none read.net.inside.stop
    && (are_complete read.link_exts
    && (is_whole_net read.net.layer read.net.incomplete && is_whole_transport read.net.inside.layer))
