-- Fragments: which IP packets have the start of their payload.
use Rattle.std.specs.Prelude.{◌==◌, ◌&&◌, Bool, true, false, List, [], ◌∷◌}
use Rattle.ep_ext.specs.ExtensionParts.{ExtensionPart, fragment}
use Rattle.ep_packet.specs.Layers.{NetLayer, ipv4, ipv6, arp}

-- True if an extension header has no fragment offset other than 0.
abbrev pub is_first : ExtensionPart → Bool
is_first (fragment header) = header.fragment_offset == 0
is_first other = true

-- True if no extension header has a fragment offset other than 0.
abbrev pub are_first : List ExtensionPart → Bool
are_first [] = true
are_first (part ∷ others) = is_first part && are_first others

-- True if an IP packet is no fragment or a first one (offset 0), so that its payload begins with a transport header.
abbrev pub begins_payload : NetLayer → Bool
begins_payload (ipv4 header extensions payload) = header.fragment_offset == 0
begins_payload (ipv6 header extensions payload) = are_first extensions
begins_payload (arp packet) = false
