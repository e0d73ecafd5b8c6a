-- Errors of lax slicing, compared with those of strict slicing, and the errors of the layer at which lax reading stops.
use Rattle.std.specs.Prelude.{◌≡◌, ◌⊎◌, ◌<◌, Bool, true, false, List, [], length, map, reverse, ℕ, Option, Some, None}
use Rattle.ep_base.specs.IpPayload.{IpPayload}
use Rattle.ep_base.specs.Readings.{Reading, headers, slices}
use Rattle.ep_base.specs.Tables.{RefusesAs}
use Rattle.ep_base.specs.declared.ether_type.EtherType.{EtherType}
use Rattle.ep_base.specs.declared.err.layer.Layer.{Layer}
use Rattle.ep_base.specs.declared.err.layer.Layer.TheVariants as layer
use Rattle.ep_base.specs.declared.len_source.LenSource.{LenSource}
use Rattle.ep_base.specs.declared.len_source.LenSource.TheVariants as source
use Rattle.ep_ext.specs.Chains.{IpVersion, ipv4 as version_4, ipv6 as version_6, RefusesChainAfter}
use Rattle.ep_ext.specs.ExtensionParts.{ExtensionPart, part_number}
use Rattle.ep_ip.specs.Ipv4.{RefusesIpv4Header, of_header_error}
use Rattle.ep_ip.specs.Ipv6.{RefusesIpv6Header, of_header_error as of_ipv6_header_error}
use Rattle.ep_link.specs.Arp.{RefusesArp}
use Rattle.ep_transport.specs.TransportParts.{TransportLayer}
use Rattle.ep_packet.specs.declared.entry.Entry.{Entry}
use Rattle.ep_packet.specs.declared.err.slice_error.SliceError.{SliceError}
use Rattle.ep_packet.specs.declared.err.slice_error.SliceError.TheVariants.{Len}
use Rattle.ep_packet.specs.Frame.{NetKind, only_ipv4, only_ipv6, only_arp, any_ip, net_kind, most_link_exts}
use Rattle.ep_packet.specs.FrameBytes.{last_payload}
use Rattle.ep_packet.specs.FrameRefusals.{RefusesFrame, RefusesTransportIn, ipv4_refusal, ipv6_refusal, len_refusal}
use Rattle.ep_packet.specs.Layers.{Layers, NetLayer, ipv4, ipv6, arp}
use Rattle.ep_packet.specs.Offsets.{payload_offset}
use Rattle.ep_packet.specs.Payloads.{payload_ether_type_in}
use Rattle.ep_lax.specs.Lax.{IsLax, RefusesLaxExtension, chain_refusal}
use Rattle.ep_ip.specs.LaxIp.{stop_after}
use Rattle.ep_lax.specs.LaxLayers.{LaxLayers, error_with_layer}

-- True if the length field of UDP is the source of this length.
abbrev pub is_udp_length : LenSource → Bool
is_udp_length source.UdpHeaderLen = true
is_udp_length end = false

-- True if the check for too few bytes of this layer, with this source of their length, is the check of a length field:
-- the field is above the available bytes, or below the length of its header.
abbrev pub is_length_row : Layer → LenSource → Bool
is_length_row layer.MacsecPacket end = true
is_length_row layer.Ipv4Packet end = true
is_length_row layer.Ipv6Packet end = true
is_length_row layer.UdpPayload end = true
is_length_row layer.UdpHeader end = is_udp_length end
is_length_row other end = false

-- True if an error is caused by such a check. Only strict slicing has these errors.
abbrev pub is_by_length : SliceError → Bool
is_by_length (Len error) = is_length_row error.layer error.len_source
is_by_length error = false

-- Lax slicing of the bytes stops at this error.
abbrev pub StopsFor : Entry → List ℕ → SliceError → Type 0
StopsFor entry bytes error =
    (read : LaxLayers) × IsLax entry bytes read × (read.net.inside.stop ≡ Some (error_with_layer error))

-- Strict slicing rejects the bytes with this error, or with the error of a length field.
abbrev pub RefusesWithErrorOrByLength : Entry → List ℕ → SliceError → Type 0
RefusesWithErrorOrByLength entry bytes error =
    (refusal : SliceError) × RefusesFrame entry bytes refusal × ((refusal ≡ error) ⊎ (is_by_length refusal ≡ true))

-- The error at which lax slicing stops comes with its layer and is not that of a length field. Strict slicing rejects
-- the bytes with the same error, or with that of a length field, which prevents later checks.
pub record IsStrictStop (entry : Entry) (bytes : List ℕ) (stop : SliceError × Layer) : Type 0 where
  pub layer : stop ≡ error_with_layer stop.0
  pub row : is_by_length stop.0 ≡ false
  pub strict : RefusesWithErrorOrByLength entry bytes stop.0

-- ---- next layer

-- The errors of bytes that do not begin with a valid header of this kind of network layer. The bytes start at `offset`.
abbrev pub RefusesNetHeader : Option NetKind → ℕ → List ℕ → SliceError → Type 0
RefusesNetHeader (Some only_ipv4) offset bytes error =
    RefusesAs (λ e. ipv4_refusal offset (of_header_error e)) (RefusesIpv4Header bytes) error
RefusesNetHeader (Some only_ipv6) offset bytes error =
    RefusesAs (λ e. ipv6_refusal offset (of_ipv6_header_error e)) (RefusesIpv6Header bytes) error
RefusesNetHeader (Some only_arp) offset bytes error = RefusesAs (len_refusal offset) (RefusesArp bytes) error
RefusesNetHeader (Some any_ip) offset bytes error = ⊥
RefusesNetHeader None offset bytes error = ⊥

-- The errors of bytes with this ether type after this number of link extensions: the ether type requires a link
-- extension or a network layer, and the bytes do not begin with a valid header of it. The bytes start at `offset`.
abbrev pub RefusesAfterLink : ℕ → Option EtherType → ℕ → List ℕ → SliceError → Type 0
RefusesAfterLink count None offset bytes error = ⊥
RefusesAfterLink count (Some type) offset bytes error =
    ((count < most_link_exts) × RefusesLaxExtension offset type bytes error)
    ⊎ RefusesNetHeader (net_kind type) offset bytes error

-- The errors of the extension header that a payload of IP begins with, after these extension headers, in the given
-- reading: it is invalid, or Hop-by-Hop options that are not first. In the reading as owned headers, a second header of
-- any other kind is not an extension header, and has no errors. The payload starts at `offset`.
abbrev pub RefusesNextExtensionIn : Reading → IpVersion → List ExtensionPart → IpPayload → ℕ → SliceError → Type 0
RefusesNextExtensionIn reading version extensions payload offset = RefusesAs
    (λ e. chain_refusal version offset (stop_after 0 payload.source e))
    (RefusesChainAfter version reading (reverse (map part_number extensions)) 0 payload.number payload.bytes [])

-- The errors of a payload of IP in which no transport layer was read: it begins with a rejected extension header, or
-- lacks the valid transport header that its protocol number requires. The payload starts at `offset`.
abbrev pub RefusesIpPayloadIn : Reading → IpVersion → List ExtensionPart → IpPayload → Option TransportLayer → ℕ
    → SliceError → Type 0
RefusesIpPayloadIn reading version extensions payload (Some transport) offset error = ⊥
RefusesIpPayloadIn reading version extensions payload None offset error =
    RefusesNextExtensionIn reading version extensions payload offset error
    ⊎ RefusesTransportIn headers offset payload error

-- The errors of the payload of a network layer, which starts at `offset`. An ARP packet has no payload.
abbrev pub RefusesAfterNetIn : Reading → Option NetLayer → Option TransportLayer → ℕ → SliceError → Type 0
RefusesAfterNetIn reading None transport offset error = ⊥
RefusesAfterNetIn reading (Some (ipv4 header extensions payload)) transport offset error =
    RefusesIpPayloadIn reading version_4 extensions payload transport offset error
RefusesAfterNetIn reading (Some (ipv6 header extensions payload)) transport offset error =
    RefusesIpPayloadIn reading version_6 extensions payload transport offset error
RefusesAfterNetIn reading (Some (arp packet)) transport offset error = ⊥

-- The errors of the layer that follows these layers in the payload of the last one, in the given reading.
abbrev pub RefusesNextLayerIn : Reading → Layers → SliceError → Type 0
RefusesNextLayerIn reading layers error =
    RefusesAfterLink (length layers.link_exts) (payload_ether_type_in layers) (payload_offset layers)
    (last_payload layers) error
    ⊎ RefusesAfterNetIn reading layers.net layers.transport (payload_offset layers) error

-- The errors of the layer that follows these layers in the payload of the last one, by the refusal tables of strict
-- slicing, without those of length fields that limit a payload. `RefusesLaxExtension`, `chain_refusal` and
-- `stop_after`, which place the errors, are those of the definition of lax slicing.
abbrev pub RefusesNextLayer : Layers → SliceError → Type 0
RefusesNextLayer = RefusesNextLayerIn slices
