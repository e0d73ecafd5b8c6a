-- The bytes of a frame, part by part.
use Rattle.std.specs.Prelude.{◌≡◌, ℕ, List, [], ◌∷◌, ◌++◌, Option, Some, None}
use Rattle.ep_link.specs.Arp.{FitsArp, arp_bytes}
use Rattle.ep_link.specs.Ethernet2.{FitsEthernet2, ethernet2_bytes}
use Rattle.ep_link.specs.LinuxSll.{FitsLinuxSll, linux_sll_bytes}
use Rattle.ep_link.specs.LinkSlices.{LinkLayer, ethernet2, linux_sll, ether_payload, linux_sll_payload, link_layer_payload}
use Rattle.ep_link.specs.LinkExtensions.{LinkExtension, EncodesTag, extension_payload}
use Rattle.ep_ip.specs.IpBytes.{EncodesIpv4Headers, EncodesIpv6Headers}
use Rattle.ep_transport.specs.TransportParts.{TransportLayer, EncodesTransport, payload_in}
use Rattle.ep_packet.specs.Layers.{NetLayer, ipv4, ipv6, arp, Layers}

-- The bytes encode the link header, or are empty if there is none.
abbrev pub EncodesLink : Option LinkLayer → List ℕ → Type 0
EncodesLink None bytes = bytes ≡ []
EncodesLink (Some (ethernet2 header payload)) bytes = FitsEthernet2 header × (bytes ≡ ethernet2_bytes header)
EncodesLink (Some (linux_sll header payload)) bytes = FitsLinuxSll header × (bytes ≡ linux_sll_bytes header)
EncodesLink (Some (ether_payload type source payload)) bytes = bytes ≡ []
EncodesLink (Some (linux_sll_payload protocol payload)) bytes = bytes ≡ []

-- The bytes encode the tags of a list of link extensions, from the outside in.
abbrev pub EncodesTags : List LinkExtension → List ℕ → Type 0
EncodesTags [] bytes = bytes ≡ []
EncodesTags (extension ∷ others) bytes =
    (tag rest : List ℕ) × EncodesTag extension tag × EncodesTags others rest × (bytes ≡ tag ++ rest)

-- The bytes encode the network header and its extension headers, except for reserved bits, or are empty if there is
-- none.
abbrev pub EncodesNet : Option NetLayer → List ℕ → Type 0
EncodesNet None bytes = bytes ≡ []
EncodesNet (Some (ipv4 header extensions payload)) bytes = EncodesIpv4Headers bytes header extensions
EncodesNet (Some (ipv6 header extensions payload)) bytes = EncodesIpv6Headers bytes header extensions
EncodesNet (Some (arp packet)) bytes = FitsArp packet × (bytes ≡ arp_bytes packet)

-- Payload of a link layer, or no bytes if there is none.
abbrev pub link_payload : Option LinkLayer → List ℕ
link_payload None = []
link_payload (Some layer) = link_layer_payload layer

-- Payload of the last link extension of a list, whose first one is in the given bytes.
abbrev pub payload_after_exts : List ℕ → List LinkExtension → List ℕ
payload_after_exts bytes [] = bytes
payload_after_exts bytes (extension ∷ others) = payload_after_exts (extension_payload extension) others

-- The bytes after the headers of a network layer, or the given bytes if there is none.
abbrev pub after_net : List ℕ → Option NetLayer → List ℕ
after_net bytes None = bytes
after_net bytes (Some (ipv4 header extensions payload)) = payload.bytes
after_net bytes (Some (ipv6 header extensions payload)) = payload.bytes
after_net bytes (Some (arp packet)) = []

-- Payload of the transport layer, or else of the network layer, or else the given bytes.
abbrev pub inner_payload : List ℕ → Option NetLayer → Option TransportLayer → List ℕ
inner_payload bytes net transport = payload_in (after_net bytes net) transport

-- Payload of the last layer.
abbrev pub last_payload : Layers → List ℕ
last_payload layers =
    inner_payload (payload_after_exts (link_payload layers.link) layers.link_exts) layers.net layers.transport

-- The bytes are the headers from the outside in, the payload of the last layer, and trailing bytes that length fields
-- exclude.
pub record AreInOrder (bytes : List ℕ) (layers : Layers) : Type 0 where
  pub link : List ℕ
  pub tags : List ℕ
  pub net : List ℕ
  pub transport : List ℕ
  pub left : List ℕ
  pub link_header : EncodesLink layers.link link
  pub tag_headers : EncodesTags layers.link_exts tags
  pub net_header : EncodesNet layers.net net
  pub transport_header : EncodesTransport layers.transport transport
  pub parts : bytes ≡ link ++ (tags ++ (net ++ (transport ++ (last_payload layers ++ left))))
