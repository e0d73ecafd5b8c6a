-- The payload after the link layer and its extensions.
use Rattle.std.specs.Prelude.{◌||◌, nat_lt, if◌then◌else◌, Bool, false, List, [], ◌∷◌, Option, Some, None}
use Rattle.std.specs.Option.{option_map, option_and_then}
use Rattle.ep_base.specs.declared.ether_type.EtherType.{EtherType}
use Rattle.ep_base.specs.declared.len_source.LenSource.{LenSource}
use Rattle.ep_base.specs.declared.len_source.LenSource.TheVariants as source
use Rattle.ep_link.specs.EtherPayloads.{EtherPayload}
use Rattle.ep_link.specs.LinkSlices.{LinkLayer, link_ether_payload}
use Rattle.ep_link.specs.LinkExtensions.{LinkExtension, vlan, macsec, extension_ether_payload}
use Rattle.ep_transport.specs.TransportParts.{TransportLayer}
use Rattle.ep_packet.specs.Layers.{Layers, NetLayer}

-- True if the link extension is a MACsec tag with a short length above 0.
abbrev pub has_short_len : LinkExtension → Bool
has_short_len (vlan tag payload) = false
has_short_len (macsec tag payload) = nat_lt 0 tag.short_len

-- True if a link extension in the list is a MACsec tag with a short length above 0.
abbrev pub have_short_len : List LinkExtension → Bool
have_short_len [] = false
have_short_len (extension ∷ others) = has_short_len extension || have_short_len others

-- Source of the end of the payload after link extensions.
abbrev pub extensions_len_source : List LinkExtension → LenSource
extensions_len_source extensions = if have_short_len extensions then source.MacsecShortLength else source.Slice

-- The payload of the last link extension in a payload, if its type is known.
abbrev pub ether_payload_after : Option EtherPayload → List LinkExtension → Option EtherPayload
ether_payload_after payload [] = payload
ether_payload_after payload (extension ∷ others) = ether_payload_after (extension_ether_payload extension) others

-- The payload of the last link extension, or else of the link layer, if its type is known. After extensions the source
-- of its end is the short length of a MACsec tag among them, or else the slice.
abbrev pub ether_payload_of_parts : Option LinkLayer → List LinkExtension → Option EtherPayload
ether_payload_of_parts link [] = option_and_then link_ether_payload link
ether_payload_of_parts link (extension ∷ others) =
    option_map
    (λ (payload : EtherPayload). record payload { len_source = extensions_len_source (extension ∷ others) })
    (ether_payload_after (extension_ether_payload extension) others)

-- The payload after the link layer and its extensions, if its type is known.
abbrev pub ether_payload_in : Layers → Option EtherPayload
ether_payload_in layers = ether_payload_of_parts layers.link layers.link_exts

-- The ether type of a payload in which no further layer is read.
abbrev pub open_type : Option NetLayer → Option TransportLayer → Option EtherPayload → Option EtherType
open_type None None payload = option_map (λ (inside : EtherPayload). inside.ether_type) payload
open_type (Some net) transport payload = None
open_type None (Some transport) payload = None

-- The ether type of the payload after the link layer and its extensions, if it is known and no layer in the payload is
-- read.
abbrev pub payload_ether_type_in : Layers → Option EtherType
payload_ether_type_in layers = open_type layers.net layers.transport (ether_payload_in layers)
