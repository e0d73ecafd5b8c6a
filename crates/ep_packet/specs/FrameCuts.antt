-- Source of the limit in the error that rejects a truncated frame.
use Rattle.std.specs.Prelude.{ℕ, ◌+◌, List, [], ◌∷◌, Option, Some, None}
use Rattle.ep_base.specs.declared.err.len_error.LenError.{LenError}
use Rattle.ep_base.specs.declared.len_source.LenSource.{LenSource}
use Rattle.ep_base.specs.declared.len_source.LenSource.TheVariants as source
use Rattle.ep_link.specs.Arp.{arp_truncation_limit}
use Rattle.ep_link.specs.Ethernet2.{ethernet2_header_len}
use Rattle.ep_link.specs.LinuxSll.{linux_sll_header_len}
use Rattle.ep_link.specs.LinkExtensions.{LinkExtension, extension_header, link_ext_header_len}
use Rattle.ep_ip.specs.Ipv6.{ipv6_truncation_limit}
use Rattle.ep_packet.specs.declared.entry.Entry.{Entry}
use Rattle.ep_packet.specs.declared.entry.Entry.TheVariants.{Ethernet as ethernet, LinuxSll as linux_sll, EtherType as ether_type, Ip as ip}
use Rattle.ep_packet.specs.Layers.{Layers, NetLayer, arp, ipv4, ipv6}

-- Number of bytes before the link extensions of a frame.
abbrev pub inside_start : Entry → ℕ
inside_start ethernet = ethernet2_header_len
inside_start linux_sll = linux_sll_header_len
inside_start (ether_type type) = 0
inside_start ip = 0

-- Offset of the network layer after a list of link extensions, whose first one is at the given offset.
abbrev pub net_start : ℕ → List LinkExtension → ℕ
net_start offset [] = offset
net_start offset (extension ∷ others) = net_start (offset + link_ext_header_len (extension_header extension)) others

-- Source of the limit in the length error of a truncated frame whose network layer is at the given offset. It is the
-- end of the slice, with two exceptions: the address lengths of ARP, if these are there, and the payload length of
-- IPv6, if it is 0 and no byte of the layer after the IPv6 header is there. For a link extension before the network
-- layer it is the end of the slice.
abbrev pub net_truncation_limit : Option NetLayer → ℕ → LenError → LenSource
net_truncation_limit None start error = source.Slice
net_truncation_limit (Some (ipv4 header extensions payload)) start error = source.Slice
net_truncation_limit (Some (ipv6 header extensions payload)) start error = ipv6_truncation_limit start header error
net_truncation_limit (Some (arp packet)) start error = arp_truncation_limit start error

-- Source of the limit in the length error of a truncated frame with these layers.
abbrev pub frame_truncation_limit : Entry → Layers → LenError → LenSource
frame_truncation_limit entry layers = net_truncation_limit layers.net (net_start (inside_start entry) layers.link_exts)
