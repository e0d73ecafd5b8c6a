-- Text of network layers, each after a space.
use Rattle.std.specs.Prelude.{ℕ, ◌*◌, ◌==◌, ◌&&◌, Bool, if◌then◌else◌, List, [], ◌∷◌, ◌++◌, length, Option, Some, None, codes}
use Rattle.std.specs.Fmt.{decimal}
use Rattle.etherparse.specs.ExtensionParts.{ExtensionPart, hop_by_hop, destination_options, routing, fragment, authentication}
use Rattle.etherparse.specs.Ipv4.{is_ipv4_fragment}
use Rattle.etherparse.specs.Types.Ipv4Header.{Ipv4Header}
use Rattle.etherparse.specs.Types.Ipv6Header.{Ipv6Header}
use Rattle.etherparse.specs.Arp.{Arp}
use Rattle.etherparse.specs.Layers.{NetLayer, ipv4, ipv6, arp}
use Rattle.packet_text.specs.Addresses.{ipv4_text, ipv6_text, octets_text}

-- a word if more fragments follow
abbrev pub more_text : Bool → List ℕ
more_text more = if more then codes " more" else []

-- a fragment: its identification, its offset in bytes, and whether more fragments follow
abbrev pub fragment_text : ℕ → ℕ → Bool → List ℕ
fragment_text identification offset more =
    (codes " fragment id " ++ decimal identification) ++ (codes " offset " ++ decimal (8 * offset))
    ++ more_text more

-- the fragment fields of an IPv4 header, if the packet is a fragment
abbrev pub ipv4_fragment_text : Ipv4Header → List ℕ
ipv4_fragment_text header =
    if is_ipv4_fragment header
    then fragment_text header.identification header.fragment_offset header.more_fragments else []

-- an extension header: its name, and the fields of a fragment header
abbrev pub part_text : ExtensionPart → List ℕ
part_text (hop_by_hop header) = codes " hop-by-hop"
part_text (destination_options header) = codes " destination-options"
part_text (routing header) = codes " routing"
part_text (fragment header) = fragment_text header.identification header.fragment_offset header.more_fragments
part_text (authentication header) = codes " authentication"

-- extension headers, in their order
abbrev pub parts_text : List ExtensionPart → List ℕ
parts_text [] = []
parts_text (part ∷ others) = part_text part ++ parts_text others

-- a protocol address of an ARP packet: as IPv4 if the protocol type and length are those of IPv4, else its bytes
abbrev pub protocol_address_text : ℕ → List ℕ → List ℕ
protocol_address_text type address =
    if (type == 0x0800) && (length address == 4) then ipv4_text address else octets_text address

-- an ARP request: the target and the sender protocol address
unfoldable pub who_has_text : Arp → List ℕ
who_has_text packet =
    codes " arp who-has " ++ protocol_address_text packet.proto_addr_type.0 packet.target_protocol_addr
    ++ codes " tell " ++ protocol_address_text packet.proto_addr_type.0 packet.sender_protocol_addr

-- an ARP reply: the sender protocol address and its hardware address
unfoldable pub reply_text : Arp → List ℕ
reply_text packet =
    codes " arp reply " ++ protocol_address_text packet.proto_addr_type.0 packet.sender_protocol_addr
    ++ codes " is-at " ++ octets_text packet.sender_hw_addr

-- an ARP request or reply, or the number of another operation
abbrev pub operation_text : ℕ → Arp → List ℕ
operation_text operation packet =
    if operation == 1 then who_has_text packet else
    (if operation == 2 then reply_text packet else codes " arp operation " ++ decimal operation)

-- an ARP packet (RFC 826)
abbrev pub arp_text : Arp → List ℕ
arp_text packet = operation_text packet.operation.0 packet

-- an IPv4 header: its addresses and its fragment fields
abbrev pub ipv4_header_text : Ipv4Header → List ℕ
ipv4_header_text header =
    codes " ipv4 " ++ ipv4_text header.source ++ codes " > " ++ ipv4_text header.destination
    ++ ipv4_fragment_text header

-- an IPv6 header: its addresses
abbrev pub ipv6_header_text : Ipv6Header → List ℕ
ipv6_header_text header = codes " ipv6 " ++ ipv6_text header.source ++ codes " > " ++ ipv6_text header.destination

-- a network layer: IP with its addresses, fragment fields and extension headers, or ARP
abbrev pub net_text : Option NetLayer → List ℕ
net_text (Some (ipv4 ip extensions payload)) = ipv4_header_text ip ++ parts_text extensions
net_text (Some (ipv6 ip extensions payload)) = ipv6_header_text ip ++ parts_text extensions
net_text (Some (arp packet)) = arp_text packet
net_text None = []
