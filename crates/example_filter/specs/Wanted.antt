-- The frames that the filter prints.
use Rattle.std.specs.Prelude.{ℕ, Bool, false, ◌==◌, ◌||◌, ◌&&◌, Option}
use Rattle.std.specs.List.{list_any}
use Rattle.std.specs.Option.{option_and_then, option_map_or}
use Rattle.etherparse.specs.Layers.{Layers}
use Rattle.etherparse.specs.TransportHeaders.{udp_header_in}
use Rattle.etherparse.specs.TransportParts.{TransportLayer}
use Rattle.etherparse.specs.Types.UdpHeader.{UdpHeader}
use Rattle.etherparse.specs.VlanTags.{vlan_ids_in}

-- the UDP header of a frame with these layers, or `None`
abbrev pub udp_in : Layers → Option UdpHeader
udp_in layers = option_and_then (λ (layer : TransportLayer). udp_header_in layer.header) layers.transport

-- whether the source or the destination port of a UDP header is this port
abbrev pub has_port : ℕ → UdpHeader → Bool
has_port port udp = udp.source_port == port || udp.destination_port == port

-- whether a frame with these layers has UDP from or to this port and a tag of this VLAN
abbrev pub is_wanted : ℕ → ℕ → Layers → Bool
is_wanted vlan port layers =
    option_map_or (has_port port) (udp_in layers) false && list_any (λ id. id == vlan) (vlan_ids_in layers.link_exts)
