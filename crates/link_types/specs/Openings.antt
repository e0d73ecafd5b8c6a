-- Start of packets by link type. Some link types have a header that the library does not parse, and the library parses
-- the bytes after it.
use Rattle.std.specs.Prelude.{ℕ, ◌==◌, ◌&&◌, ◌||◌, not, nat_le, if◌then◌else◌, Bool, List, Option, Some}
use Rattle.std.specs.Prelude.{None, drop, length, slice_index}
use Rattle.ep_base.specs.Bytes.{word_at}
use Rattle.ep_base.specs.EtherTypes.{ipv4_type, ipv6_type}
use Rattle.ep_packet.specs.declared.entry.Entry.{Entry}
use Rattle.ep_packet.specs.declared.entry.Entry.TheVariants.{Ethernet, LinuxSll, EtherType, Ip}
use Rattle.link_types.specs.declared.openings.Opening.{Opening}

-- the opening of a packet whose bytes are all parsed by the library
abbrev pub opening_at_start : Entry → Opening
opening_at_start entry = record { entry = entry; skipped = 0 }

-- the opening of a packet whose payload of the given ether type starts after `skipped` bytes
abbrev pub opening_after_header : ℕ → ℕ → Opening
opening_after_header skipped type = record { entry = EtherType (record { 0 = type }); skipped = skipped }

-- True if the header of a Linux cooked capture is skipped.
abbrev pub is_cooked : Opening → Bool
is_cooked opening = nat_le 16 opening.skipped

-- True for link types of IP without a link header: of either version (12 and 14 on BSD, 101), IPv4 (228) or IPv6 (229).
abbrev pub is_bare_ip : ℕ → Bool
is_bare_ip link = (link == 12) || (link == 14) || (link == 101) || (link == 228) || (link == 229)

-- ---- BSD loopback (0, and 108 of OpenBSD): four bytes with the address family

-- the address family, in the last or in the first byte, by the byte order of the machine
abbrev pub loopback_family : List ℕ → ℕ
loopback_family bytes =
    if (word_at bytes 0 == 0) && (slice_index bytes 2 == 0) then slice_index bytes 3 else
    (if (slice_index bytes 1 == 0) && (word_at bytes 2 == 0) then slice_index bytes 0 else 0)

-- True for the address family of IPv6, whose number differs by system: Linux, NetBSD and OpenBSD, FreeBSD, macOS.
abbrev pub is_ipv6_family : ℕ → Bool
is_ipv6_family family = (family == 10) || (family == 24) || (family == 28) || (family == 30)

-- the opening of a packet after its address family: IPv4 for 2, or IPv6
abbrev pub family_opening : ℕ → Option Opening
family_opening family =
    if family == 2 then Some (opening_after_header 4 ipv4_type) else
    (if is_ipv6_family family then Some (opening_after_header 4 ipv6_type) else None)

abbrev pub loopback_opening : List ℕ → Option Opening
loopback_opening bytes = if nat_le 4 (length bytes) then family_opening (loopback_family bytes) else None

-- ---- Linux cooked captures

-- True for the hardware types whose protocol field is no ether type: Frame Relay, IEEE 802.11 with a radiotap header,
-- netlink.
abbrev pub has_no_type : ℕ → Bool
has_no_type hardware = (hardware == 770) || (hardware == 803) || (hardware == 824)

-- True for the hardware types whose headers are skipped, since their protocol field is an ether type, as that of a GRE
-- tunnel (778; RFC 2784, 2.4). Ethernet (1), the loopback device (772) and the types without ether types are left to
-- the library.
abbrev pub skips_hardware : ℕ → Bool
skips_hardware hardware = not ((hardware == 1) || (hardware == 772) || has_no_type hardware)

-- True if the header of a capture of version 1 is skipped.
abbrev pub skips_sll : List ℕ → Bool
skips_sll bytes = nat_le 16 (length bytes) && (nat_le (word_at bytes 0) 7 && skips_hardware (word_at bytes 2))

abbrev pub sll_opening : List ℕ → Opening
sll_opening bytes = if skips_sll bytes then opening_after_header 16 (word_at bytes 14) else opening_at_start LinuxSll

-- True if the header of a capture of version 2 (276) is supported. It has 20 bytes: protocol (2), reserved (2),
-- interface index (4), hardware type (2), packet type (1), and the length (1) and bytes (8) of an address.
abbrev pub skips_sll2 : List ℕ → Bool
skips_sll2 bytes = nat_le 20 (length bytes) && not (has_no_type (word_at bytes 8))

abbrev pub sll2_opening : List ℕ → Option Opening
sll2_opening bytes = if skips_sll2 bytes then Some (opening_after_header 20 (word_at bytes 0)) else None

-- ---- all link types

abbrev pub opening_of : ℕ → List ℕ → Option Opening
opening_of link bytes =
    if link == 1 then Some (opening_at_start Ethernet) else
    (if is_bare_ip link then Some (opening_at_start Ip) else
    (if link == 113 then Some (sll_opening bytes) else
    (if (link == 0) || (link == 108) then loopback_opening bytes else
    (if link == 276 then sll2_opening bytes else None))))

-- the bytes that the library parses after an opening; all bytes without one
abbrev pub bytes_after_opening : Option Opening → List ℕ → List ℕ
bytes_after_opening (Some opening) bytes = drop opening.skipped bytes
bytes_after_opening None bytes = bytes

-- the bytes of a packet of a link type that the library parses
abbrev pub read_bytes : ℕ → List ℕ → List ℕ
read_bytes link bytes = bytes_after_opening (opening_of link bytes) bytes
