-- Owned IP headers read laxly: the headers up to the first invalid extension header, and the payload after them.
use Rattle.std.specs.Prelude.{◌≡◌, ◌≤◌, ℕ, Bool, false, List, length, Option, Some}
use Rattle.std.specs.Option.{option_map}
use Rattle.ep_base.specs.IpPayload.{lax_ip_payload_of}
use Rattle.ep_base.specs.Readings.{Reading}
use Rattle.ep_base.specs.declared.err.ip_auth.HeaderSliceError.{HeaderSliceError as AuthSliceError}
use Rattle.ep_base.specs.declared.err.ip_exts.HeaderError.TheVariants as exts_content
use Rattle.ep_base.specs.declared.err.ip_exts.HeadersSliceError.{HeadersSliceError as ExtsSliceError}
use Rattle.ep_base.specs.declared.err.ip_exts.HeadersSliceError.TheVariants as exts_error
use Rattle.ep_base.specs.declared.err.ipv6_exts.HeaderError.TheVariants as content
use Rattle.ep_base.specs.declared.err.ipv6_exts.HeaderSliceError.{HeaderSliceError}
use Rattle.ep_base.specs.declared.err.ipv6_exts.HeaderSliceError.TheVariants as header_error
use Rattle.ep_base.specs.declared.err.layer.Layer.{Layer}
use Rattle.ep_base.specs.declared.lax_ip_payload_slice.LaxIpPayloadSlice.{LaxIpPayloadSlice}
use Rattle.ep_ext.specs.Chains.{IpVersion, ipv4, ipv6}
use Rattle.ep_ext.specs.ChainPrefixes.{chain_stop, chain_stop_layer}
use Rattle.ep_ext.specs.ExtensionParts.{auth_refusal}
use Rattle.ep_ip.specs.declared.ipv4_header.Ipv4Header.{Ipv4Header}
use Rattle.ep_ip.specs.declared.ipv6_header.Ipv6Header.{Ipv6Header}
use Rattle.ep_ip.specs.IpPackets.{IpPart, ipv4_part, ipv6_part}
use Rattle.ep_ip.specs.LaxIp.{LaxIp, IsLaxIpv4In, IsLaxIpv6In}
use Rattle.ep_packet.specs.declared.ip_headers.IpHeaders.{IpHeaders}
use Rattle.ep_packet.specs.declared.net_headers.NetHeaders.{NetHeaders}
use Rattle.ep_packet.specs.FrameRefusals.{net_payload_offset}
use Rattle.ep_packet.specs.IpHeaders.{ip_headers_of, ip_part_payload}
use Rattle.ep_packet.specs.Layers.{ip_layer}
use Rattle.ep_packet.specs.NetHeaders.{net_headers_of}

-- The headers and the payload are those of the packet; `incomplete` states whether bytes of the payload are missing.
abbrev pub AreOfLaxPart : IpPart → Bool → IpHeaders → LaxIpPayloadSlice → Type 0
AreOfLaxPart part incomplete headers payload =
    (headers ≡ ip_headers_of part) × (lax_ip_payload_of payload ≡ ip_part_payload part)
    × (payload.incomplete ≡ incomplete)

-- The headers, the payload and the error of an invalid authentication header, if any, are those of an IPv4 packet.
abbrev pub ShowsLaxIpv4 : LaxIp Ipv4Header → IpHeaders × LaxIpPayloadSlice × Option AuthSliceError → Type 0
ShowsLaxIpv4 lax read =
    AreOfLaxPart (ipv4_part lax.packet) lax.incomplete read.0 read.1 × (option_map auth_refusal read.2 ≡ lax.stop)

-- The headers, the payload and the error of the first invalid extension header with its layer, if any, are those of an
-- IPv6 packet.
abbrev pub ShowsLaxIpv6 : LaxIp Ipv6Header → IpHeaders × LaxIpPayloadSlice × Option (HeaderSliceError × Layer) → Type 0
ShowsLaxIpv6 lax read =
    AreOfLaxPart (ipv6_part lax.packet) lax.incomplete read.0 read.1 × (read.2 ≡ option_map chain_stop lax.stop)

-- ---- either version

-- An IP packet of version 4 or 6, read laxly.
pub data LaxIpPart : Type 0 where
  lax_ipv4_part : LaxIp Ipv4Header → LaxIpPart
  lax_ipv6_part : LaxIp Ipv6Header → LaxIpPart

-- The bytes begin with an IP header of version 4 or 6 and are this packet. The first 4 bits are the version.
abbrev pub IsLaxIp : Reading → List ℕ → LaxIpPart → Type 0
IsLaxIp reading bytes (lax_ipv4_part lax) = IsLaxIpv4In reading false bytes lax
IsLaxIp reading bytes (lax_ipv6_part lax) = IsLaxIpv6In reading false bytes lax

-- The error of an extension header of a packet of this version, as an error of extension headers of either version.
abbrev pub extension_stop : IpVersion → HeaderSliceError → ExtsSliceError
extension_stop version (header_error.Len error) = exts_error.Len error
extension_stop version (header_error.Content content.HopByHopNotAtStart) =
    exts_error.Content (exts_content.Ipv6Ext content.HopByHopNotAtStart)
extension_stop ipv4 (header_error.Content (content.IpAuth error)) = exts_error.Content (exts_content.Ipv4Ext error)
extension_stop ipv6 (header_error.Content (content.IpAuth error)) =
    exts_error.Content (exts_content.Ipv6Ext (content.IpAuth error))

-- The error of an extension header of a packet of this version, with the layer of the header.
abbrev pub stop_with_layer : IpVersion → HeaderSliceError → ExtsSliceError × Layer
stop_with_layer version error = (extension_stop version error, chain_stop_layer error)

-- The headers, the payload and the error of the first invalid extension header with its layer, if any, are those of the
-- packet.
abbrev pub ShowsLaxIp : LaxIpPart → IpHeaders × LaxIpPayloadSlice × Option (ExtsSliceError × Layer) → Type 0
ShowsLaxIp (lax_ipv4_part lax) read =
    AreOfLaxPart (ipv4_part lax.packet) lax.incomplete read.0 read.1
    × (read.2 ≡ option_map (stop_with_layer ipv4) lax.stop)
ShowsLaxIp (lax_ipv6_part lax) read =
    AreOfLaxPart (ipv6_part lax.packet) lax.incomplete read.0 read.1
    × (read.2 ≡ option_map (stop_with_layer ipv6) lax.stop)

-- ---- decoding in place

-- The IP headers at the start of the bytes were decoded into `net`, and the payload is at this offset; `incomplete`
-- states whether bytes of it are missing.
pub record FillsLaxIp (part : IpPart) (incomplete : Bool) (bytes : List ℕ) (net : Option NetHeaders)
    (payload : LaxIpPayloadSlice) (offset : ℕ) : Type 0 where
  pub filled : net ≡ Some (net_headers_of (ip_headers_of part))
  pub same_payload : lax_ip_payload_of payload ≡ ip_part_payload part
  pub same_incomplete : payload.incomplete ≡ incomplete
  pub place : offset ≡ net_payload_offset (ip_layer part)
  pub within : offset ≤ length bytes
