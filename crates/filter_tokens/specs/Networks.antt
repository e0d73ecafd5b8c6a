-- Networks: addresses with the same prefix (RFC 4632, 3.1; RFC 4291, 2.3).
use Rattle.std.specs.Prelude.{ℕ, zero, suc, ◌+◌, ◌-◌, ◌*◌, ◌/◌, ◌%◌, ◌^◌, min, Bool, List, [], ◌∷◌, length}
use Rattle.std.specs.Net.Addr.{ipv4_octets, ipv6_octets}
use Rattle.std.specs.Str.{bytes_eq}
use Rattle.std.specs.declared.net.ip_addr.IpAddr.{IpAddr}
use Rattle.std.specs.declared.net.ip_addr.IpAddr.TheVariants.{V4, V6}
use Rattle.filter_tokens.specs.declared.network.Network.{Network}

-- the bytes of an IPv4 or IPv6 address
abbrev pub address_bytes : IpAddr → List ℕ
address_bytes (V4 address) = ipv4_octets address
address_bytes (V6 address) = ipv6_octets address

-- the number of bits of an address
abbrev pub address_width : IpAddr → ℕ
address_width (V4 address) = 32
address_width (V6 address) = 128

-- a byte whose bits after the highest `bits` are set to 0
abbrev pub kept_bits : ℕ → ℕ → ℕ
kept_bits bits byte = byte - byte % (256 / 2 ^ bits)

-- bytes whose bits after the first `bits` are set to 0
abbrev pub network_bytes : ℕ → List ℕ → List ℕ
network_bytes bits [] = []
network_bytes bits (byte ∷ bytes) = kept_bits (min bits 8) byte ∷ network_bytes (bits - 8) bytes

-- bytes as a big-endian number
abbrev pub big_endian : List ℕ → ℕ
big_endian [] = 0
big_endian (byte ∷ bytes) = byte * 256 ^ length bytes + big_endian bytes

-- a number as this many big-endian bytes
abbrev pub bytes_of : ℕ → ℕ → List ℕ
bytes_of zero number = []
bytes_of (suc len) number = number / 256 ^ len ∷ bytes_of len (number % 256 ^ len)

-- whether a network contains an address, given by its bytes; false if the network's own address has a bit set after the
-- prefix
abbrev pub is_within : Network → List ℕ → Bool
is_within network address = bytes_eq (network_bytes network.bits address) (address_bytes network.address)

-- whether the bits of a network's address after the prefix are 0
abbrev pub has_no_host_bits : Network → Bool
has_no_host_bits network = is_within network (address_bytes network.address)
