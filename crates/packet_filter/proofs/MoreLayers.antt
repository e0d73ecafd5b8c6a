-- How the layers of the first bytes of a packet are those of the whole packet.
use Rattle.std.specs.Prelude.{◌≡◌, ◌⊎◌, ◌==◌, ◌||◌, ℕ, Bool, false, List, [], ◌∷◌, ◌++◌, Option, Some, None}
use Rattle.ep_base.specs.EtherTypes.{ipv4_type, ipv6_type, arp_type}
use Rattle.ep_base.specs.IpNumbers.{icmpv4_number, tcp_number, udp_number, icmpv6_number}
use Rattle.ep_base.specs.IpPayload.{IpPayload}
use Rattle.ep_ext.specs.ExtensionParts.{ExtensionPart}
use Rattle.ep_link.specs.LinkExtensions.{LinkExtension, extension_header}
use Rattle.ep_link.specs.LinkSlices.{LinkLayer}
use Rattle.ep_lax.specs.LaxLayers.{LaxLayers}
use Rattle.ep_packet.specs.Layers.{NetLayer, ipv4, ipv6, arp}
use Rattle.ep_packet.specs.Offsets.{link_len}
use Rattle.filter_tokens.specs.declared.primitive.Side.{Side}
use Rattle.packet_filter.specs.Meaning.{has_station}
use Rattle.packet_filter.specs.Packets.{Packet, Transport, ethernet_bytes, is_type, link_type, sctp_number, tag_type, tags_in}

-- ---- network layer

-- True if this is the IP number of a transport protocol that primitives are about.
abbrev pub is_transport : ℕ → Bool
is_transport number =
    number == tcp_number || (number == udp_number || (number == sctp_number
    || (number == icmpv4_number || number == icmpv6_number)))

-- An IP payload with the number of another one, whose bytes begin with the bytes of the other one.
pub record MorePayload (payload more : IpPayload) : Type 0 where
  pub number : more.number ≡ payload.number
  pub rest : List ℕ
  pub bytes : more.bytes ≡ payload.bytes ++ rest

-- Extension headers that begin with others. If the payload after the others has the number of a transport protocol,
-- there are no further extension headers, and the payload begins with the other one.
pub record MoreParts (parts : List ExtensionPart) (payload : IpPayload) (others : List ExtensionPart) (more : IpPayload)
    : Type 0 where
  pub further : List ExtensionPart
  pub begins : others ≡ parts ++ further
  pub end : ((further ≡ []) × MorePayload payload more) ⊎ (is_transport payload.number ≡ false)

-- A network layer with the header of another one, and its extension headers and payload or more.
abbrev pub MoreNet : NetLayer → NetLayer → Type 0
MoreNet (ipv4 header parts payload) (ipv4 same others more) = (same ≡ header) × MoreParts parts payload others more
MoreNet (ipv6 header parts payload) (ipv6 same others more) = (same ≡ header) × MoreParts parts payload others more
MoreNet (arp packet) (arp same) = same ≡ packet
MoreNet net more = ⊥

-- The network layers of the first bytes and of the whole packet, if present.
abbrev pub MoreNets : Option NetLayer → Option NetLayer → Type 0
MoreNets None more = Unit {0}
MoreNets (Some net) None = ⊥
MoreNets (Some net) (Some more) = MoreNet net more

-- ---- tags

-- The ether type, if known, is not that of IP or ARP.
pub record IsNoNetType (type : Option ℕ) : Type 0 where
  pub ipv4 : is_type ipv4_type type ≡ false
  pub ipv6 : is_type ipv6_type type ≡ false
  pub arp : is_type arp_type type ≡ false

-- Tags that begin with other tags, and the network layers after both. Only tags without a network layer after them have
-- further tags. `type` is the ether type before the tags.
abbrev pub MoreTags : Option ℕ → List LinkExtension → List LinkExtension → Option NetLayer → Option NetLayer → Type 0
MoreTags type [] [] net more = MoreNets net more
MoreTags type [] (further ∷ others) net more = (net ≡ None) × IsNoNetType type
MoreTags type (tag ∷ tags) [] net more = ⊥
MoreTags type (tag ∷ tags) (same ∷ others) net more =
    (extension_header same ≡ extension_header tag) × (tag_type same ≡ tag_type tag)
    × MoreTags (tag_type tag) tags others net more

-- ---- link layer

-- The first bytes have no Ethernet II header, or both they and the whole packet begin with one.
abbrev pub IsEthernetOrNot : Option LinkLayer → Option LinkLayer → Type 0
IsEthernetOrNot link more =
    ((packet : Packet) → ethernet_bytes packet link ≡ None)
    ⊎ (((packet : Packet) → ethernet_bytes packet link ≡ Some packet.bytes)
    × ((packet : Packet) → ethernet_bytes packet more ≡ Some packet.bytes))

-- A link layer with the header of another one.
pub record MoreLink (link more : Option LinkLayer) : Type 0 where
  pub len : link_len more ≡ link_len link
  pub station : (side : Side) (station : List ℕ) → has_station side station more ≡ has_station side station link
  pub ethernet : IsEthernetOrNot link more

-- ---- packets

-- The layers of a packet that begins with the bytes of other layers.
pub record MoreLayers (layers more : LaxLayers) : Type 0 where
  pub link : MoreLink layers.link more.link
  pub type : link_type more.link more.net.layer ≡ link_type layers.link layers.net.layer
  pub tags : MoreTags (link_type layers.link layers.net.layer) (tags_in layers) (tags_in more) layers.net.layer
      more.net.layer

-- Two transport headers with the bytes after them, if present: unless the first has the number of no transport
-- protocol, the second has its number, and its bytes and more.
abbrev pub MoreTransport : Option Transport → Option Transport → Type 0
MoreTransport None more = Unit {0}
MoreTransport (Some transport) None = is_transport transport.number ≡ false
MoreTransport (Some transport) (Some more) =
    (is_transport transport.number ≡ false)
    ⊎ ((more.number ≡ transport.number) × ((rest : List ℕ) × (more.bytes ≡ transport.bytes ++ rest)))

-- The bytes of a layer, if present, in the first bytes and in the whole packet, which may have more.
abbrev pub MoreBytes : Option (List ℕ) → Option (List ℕ) → Type 0
MoreBytes None more = Unit {0}
MoreBytes (Some bytes) None = ⊥
MoreBytes (Some bytes) (Some more) = (rest : List ℕ) × (more ≡ bytes ++ rest)
