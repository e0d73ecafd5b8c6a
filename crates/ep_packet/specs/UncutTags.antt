-- Frames in which no MACsec tag has a short length above 0, as far as their tags are valid.
use Rattle.std.specs.Prelude.{◌≡◌, ⊤, ℕ, zero, suc, List, Option, Some, None}
use Rattle.ep_base.specs.Tables.{Parts}
use Rattle.ep_base.specs.declared.ether_type.EtherType.{EtherType}
use Rattle.ep_link.specs.declared.link.ethernet2_header.Ethernet2Header.{Ethernet2Header}
use Rattle.ep_link.specs.declared.link.linux_sll_header.LinuxSllHeader.{LinuxSllHeader}
use Rattle.ep_link.specs.Ethernet2.{IsEthernet2}
use Rattle.ep_link.specs.LinuxSll.{IsLinuxSll, protocol_ether_type}
use Rattle.ep_link.specs.LinkExtensions.{LinkExtension, vlan, macsec, IsLinkExtension, extension_payload, extension_type}
use Rattle.ep_packet.specs.declared.entry.Entry.{Entry}
use Rattle.ep_packet.specs.declared.entry.Entry.TheVariants.{Ethernet as ethernet, LinuxSll as linux_sll, EtherType as ether_type, Ip as ip}
use Rattle.ep_packet.specs.Frame.{most_link_exts}

-- The link extension has no short length above 0.
abbrev pub CutsNothing : LinkExtension → Type 0
CutsNothing (vlan tag payload) = ⊤
CutsNothing (macsec tag payload) = tag.short_len ≡ 0

-- In bytes of an ether type, none of the consecutive link extensions, up to the given number, has a short length above
-- 0. If the bytes are rejected, these are the extensions before the rejected layer.
abbrev pub AreUncut : ℕ → Option EtherType → List ℕ → Type 0
AreUncut exts_left None bytes = ⊤
AreUncut zero (Some type) bytes = ⊤
AreUncut (suc exts_left) (Some type) bytes =
    (extension : LinkExtension) (left : List ℕ) → IsLinkExtension type bytes (extension, left)
    → CutsNothing extension × AreUncut exts_left (extension_type extension) (extension_payload extension)

-- No link extension of the frame has a short length above 0.
abbrev pub HasNoShortLength : Entry → List ℕ → Type 0
HasNoShortLength ethernet bytes = (frame : Parts Ethernet2Header) → IsEthernet2 bytes frame
    → AreUncut most_link_exts (Some frame.header.ether_type) frame.payload
HasNoShortLength linux_sll bytes = (frame : Parts LinuxSllHeader) → IsLinuxSll bytes frame
    → AreUncut most_link_exts (protocol_ether_type frame.header.protocol_type) frame.payload
HasNoShortLength (ether_type type) bytes = AreUncut most_link_exts (Some type) bytes
HasNoShortLength ip bytes = ⊤
