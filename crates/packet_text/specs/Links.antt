-- Text of link layers and link extensions, each after a space.
use Rattle.std.specs.Prelude.{ℕ, ◌==◌, ◌&&◌, min, if◌then◌else◌, List, [], ◌∷◌, ◌++◌, slice_index, slice_range, take}
use Rattle.std.specs.Prelude.{Option, Some, None, codes}
use Rattle.std.specs.Fmt.{decimal}
use Rattle.std.specs.Int.{w64, to_be_bytes}
use Rattle.etherparse.specs.Bytes.{long_at, word_at}
use Rattle.etherparse.specs.LinkExtensions.{LinkExtension, vlan, macsec}
use Rattle.etherparse.specs.LinkSlices.{LinkLayer, ethernet2, linux_sll, ether_payload, linux_sll_payload}
use Rattle.etherparse.specs.Types.LinuxSllHeader.{LinuxSllHeader}
use Rattle.etherparse.specs.Types.MacsecHeader.{MacsecHeader}
use Rattle.etherparse.specs.Types.MacsecPType.{MacsecPType}
use Rattle.etherparse.specs.Types.MacsecPType.TheVariants.{Unmodified, Modified, Encrypted, EncryptedUnmodified}
use Rattle.link_types.specs.Openings.{skips_sll, skips_sll2}
use Rattle.packet_text.specs.Addresses.{hex_text, mac_text, octets_text}

-- the direction of a packet of a Linux cooked capture, by its packet type
abbrev pub way_name : ℕ → List ℕ
way_name type =
    if type == 0 then codes "host" else
    (if type == 1 then codes "broadcast" else
    (if type == 2 then codes "multicast" else
    (if type == 3 then codes "other-host" else
    (if type == 4 then codes "outgoing" else
    (if type == 5 then codes "loopback" else
    (if type == 6 then codes "user" else codes "kernel"))))))

-- the address of the sender, up to 8 bytes
abbrev pub sll_sender : LinuxSllHeader → List ℕ
sll_sender header = take (min header.sender_address_valid_length 8) header.sender_address

-- an address, if it is not empty
abbrev pub sender_text : List ℕ → List ℕ
sender_text [] = []
sender_text (byte ∷ bytes) = codes " from " ++ octets_text (byte ∷ bytes)

-- a Linux cooked capture: the direction of the packet, and the address of the sender
abbrev pub sll_text : LinuxSllHeader → List ℕ
sll_text header = codes " sll " ++ way_name header.packet_type.0 ++ sender_text (sll_sender header)

-- a link layer: Ethernet with its addresses, or a Linux cooked capture; empty without a header
abbrev pub link_text : Option LinkLayer → List ℕ
link_text (Some (ethernet2 ethernet payload)) =
    codes " eth " ++ mac_text ethernet.source ++ codes " > " ++ mac_text ethernet.destination
link_text (Some (linux_sll sll payload)) = sll_text sll
link_text (Some (ether_payload type source payload)) = []
link_text (Some (linux_sll_payload protocol payload)) = []
link_text None = []

-- the change to the payload of a MACsec packet, if there is one
abbrev pub change_text : MacsecPType → List ℕ
change_text (Unmodified type) = []
change_text Modified = codes " modified"
change_text Encrypted = codes " encrypted"
change_text EncryptedUnmodified = codes " encrypted-unmodified"

-- a secure channel identifier (SCI), if present
abbrev pub channel_text : Option ℕ → List ℕ
channel_text (Some sci) = codes " sci " ++ hex_text (to_be_bytes w64 sci)
channel_text None = []

-- a MACsec tag: its packet number, its channel and the change to its payload
abbrev pub macsec_text : MacsecHeader → List ℕ
macsec_text tag =
    codes " macsec pn " ++ decimal tag.packet_nr ++ channel_text tag.sci ++ change_text tag.ptype

-- a link extension: a VLAN tag with its identifier, or a MACsec tag
abbrev pub extension_text : LinkExtension → List ℕ
extension_text (vlan tag payload) = codes " vlan:" ++ decimal tag.vlan_id
extension_text (macsec tag payload) = macsec_text tag

-- link extensions, from the outermost inwards
abbrev pub extensions_text : List LinkExtension → List ℕ
extensions_text [] = []
extensions_text (extension ∷ others) = extension_text extension ++ extensions_text others

-- ---- headers of cooked captures that the library does not parse

-- the fields of a header of version 1: the direction of the packet, and the address of the sender
unfoldable pub sll_header_text : List ℕ → List ℕ
sll_header_text bytes =
    codes " sll " ++ way_name (word_at bytes 0) ++ sender_text (take (min (word_at bytes 4) 8) (slice_range bytes 6 14))

-- the interface index
abbrev pub sll2_interface : List ℕ → ℕ
sll2_interface bytes = long_at bytes 4

-- the direction of the packet
abbrev pub way_text : ℕ → List ℕ
way_text way = codes " " ++ way_name way

unfoldable pub sll2_header_text : List ℕ → List ℕ
sll2_header_text bytes =
    (codes " sll2 interface " ++ decimal (sll2_interface bytes)) ++ way_text (slice_index bytes 10)
    ++ sender_text (take (min (slice_index bytes 11) 8) (slice_range bytes 12 20))

abbrev pub skipped_header_text : ℕ → List ℕ → List ℕ
skipped_header_text link bytes =
    if (link == 113) && skips_sll bytes then sll_header_text bytes else
    (if (link == 276) && skips_sll2 bytes then sll2_header_text bytes else [])
