-- Values of filter expressions: which words are numbers, addresses, networks and ports.
use Rattle.std.specs.Prelude.{◌≡◌, ℕ, ◌-◌, ◌*◌, ◌≤◌, ◌⊎◌, min, max, List, [], ◌∷◌, ◌++◌, length, codes, replicate, Some, None}
use Rattle.std.specs.Fmt.{decimal}
use Rattle.std.specs.Net.Grammar.{IsIpText}
use Rattle.std.specs.Str.Parse.{IsNumeral, digits_value}
use Rattle.std.specs.Net.Addr.{ipv4_octets}
use Rattle.std.specs.declared.net.ipv4_addr.Ipv4Addr.{Ipv4Addr}
use Rattle.std.specs.declared.net.ip_addr.IpAddr.{IpAddr}
use Rattle.std.specs.declared.net.ip_addr.IpAddr.TheVariants.{V4, V6}
use Rattle.filter_tokens.specs.declared.network.Network.{Network}
use Rattle.filter_tokens.specs.declared.primitive.AddressLayer.{AddressLayer}
use Rattle.filter_tokens.specs.declared.primitive.AddressLayer.TheVariants as of
use Rattle.filter_tokens.specs.declared.primitive.Width.{Width}
use Rattle.filter_tokens.specs.declared.primitive.Width.TheVariants.{One, Two, Four}
use Rattle.filter_tokens.specs.Names.{constant_names, lookup_name, port_names}
use Rattle.filter_tokens.specs.Networks.{address_bytes, address_width, network_bytes}

-- A decimal number without leading zeros, at most `most`.
abbrev pub IsDecimal : ℕ → List ℕ → ℕ → Type 0
IsDecimal most text number = (text ≡ decimal number) × (number ≤ most)

-- The text is `0x` or `0X`, and then `digits`.
abbrev pub IsAfterHexadecimalMark : List ℕ → List ℕ → Type 0
IsAfterHexadecimalMark text digits = (text ≡ codes "0x" ++ digits) ⊎ (text ≡ codes "0X" ++ digits)

-- A hexadecimal number after `0x` or `0X`, at most `most`.
abbrev pub IsHexadecimal : ℕ → List ℕ → ℕ → Type 0
IsHexadecimal most text number =
    (digits : List ℕ) × IsAfterHexadecimalMark text digits × IsNumeral 16 digits
    × (digits_value 16 digits ≡ number) × (number ≤ most)

-- A number, at most `most`.
abbrev pub IsNumberText : ℕ → List ℕ → ℕ → Type 0
IsNumberText most text number = IsDecimal most text number ⊎ IsHexadecimal most text number

-- The greatest number of 32 bits.
abbrev pub most_number : ℕ
most_number = 0xffff_ffff

-- A constant of byte tests: a name, or a number.
abbrev pub IsConstant : List ℕ → ℕ → Type 0
IsConstant text number =
    (lookup_name text constant_names ≡ Some number)
    ⊎ ((lookup_name text constant_names ≡ None) × IsNumberText most_number text number)

-- A port: a name, or a number.
abbrev pub IsPortText : List ℕ → ℕ → Type 0
IsPortText text port =
    (lookup_name text port_names ≡ Some port)
    ⊎ ((lookup_name text port_names ≡ None) × IsNumberText 65535 text port)

-- A range of ports: a decimal number, or two with `-` between. `low` is the lower and `high` the higher port.
abbrev pub IsRangeText : List ℕ → ℕ → ℕ → Type 0
IsRangeText text low high =
    (IsDecimal 65535 text low × (high ≡ low))
    ⊎ ((first second : ℕ) × (text ≡ decimal first ++ codes "-" ++ decimal second) × (first ≤ 65535)
    × (second ≤ 65535) × (low ≡ min first second) × (high ≡ max first second))

-- The size of a number in bytes.
abbrev pub IsSizeText : List ℕ → Width → Type 0
IsSizeText text One = IsNumberText most_number text 1
IsSizeText text Two = IsNumberText most_number text 2
IsSizeText text Four = IsNumberText most_number text 4

-- An IP address can be one of the layer: IPv4 for IPv4 and ARP, IPv6 for IPv6.
abbrev pub IsFamily : AddressLayer → IpAddr → Type 0
IsFamily of.Any address = Unit {0}
IsFamily of.Ipv4 (V4 address) = Unit {0}
IsFamily of.Arp (V4 address) = Unit {0}
IsFamily of.Ipv6 (V6 address) = Unit {0}
IsFamily layer address = ⊥

-- One to three numbers up to 255 with dots between. A single number is not 0.
abbrev pub IsLeadingNumbers : List ℕ → List ℕ → Type 0
IsLeadingNumbers text (a ∷ []) = (text ≡ decimal a) × (1 ≤ a) × (a ≤ 255)
IsLeadingNumbers text (a ∷ b ∷ []) = (text ≡ decimal a ++ codes "." ++ decimal b) × (a ≤ 255) × (b ≤ 255)
IsLeadingNumbers text (a ∷ b ∷ c ∷ []) =
    (text ≡ decimal a ++ codes "." ++ decimal b ++ codes "." ++ decimal c) × (a ≤ 255) × (b ≤ 255) × (c ≤ 255)
IsLeadingNumbers text numbers = ⊥

-- The IPv4 network of these octets.
abbrev pub ipv4_network : List ℕ → ℕ → Network
ipv4_network octets bits = record { address = V4 (record { octets = octets }); bits = bits }

-- The IPv4 network of the first numbers of an address, with 8 bits for each.
abbrev pub leading_network : List ℕ → Network
leading_network numbers = ipv4_network (numbers ++ replicate (4 - length numbers) 0) (8 * length numbers)

-- An address with all its bits, or the first numbers of an IPv4 address with 8 bits for each.
abbrev pub IsNetworkText : List ℕ → Network → Type 0
IsNetworkText text network =
    (IsIpText text network.address × (network.bits ≡ address_width network.address))
    ⊎ ((numbers : List ℕ) × (address : Ipv4Addr) × IsLeadingNumbers text numbers × (network.bits ≡ 8 * length numbers)
    × (network.address ≡ V4 address) × (ipv4_octets address ≡ numbers ++ replicate (4 - length numbers) 0))

-- A prefix length of an address.
abbrev pub IsLength : IpAddr → List ℕ → ℕ → Type 0
IsLength address text bits = IsDecimal (address_width address) text bits

-- The four bytes of this many ones, followed by zeros.
abbrev pub mask_bytes : ℕ → List ℕ
mask_bytes bits = network_bytes bits (255 ∷ 255 ∷ 255 ∷ 255 ∷ [])

-- The text is this IPv4 mask, of this many ones followed by zeros.
abbrev pub IsMaskOf : List ℕ → IpAddr → ℕ → Type 0
IsMaskOf text mask bits = IsIpText text mask × (bits ≤ 32) × (address_bytes mask ≡ mask_bytes bits)

-- A mask of an IPv4 address.
abbrev pub IsMask : IpAddr → List ℕ → ℕ → Type 0
IsMask (V4 address) text bits = (mask : IpAddr) × IsMaskOf text mask bits
IsMask (V6 address) text bits = ⊥

-- One or two hexadecimal digits.
abbrev pub IsOctet : List ℕ → ℕ → Type 0
IsOctet text number = IsNumeral 16 text × (length text ≤ 2) × (digits_value 16 text ≡ number)

-- Octets with colons between.
abbrev pub IsOctets : List ℕ → List ℕ → Type 0
IsOctets text [] = ⊥
IsOctets text (octet ∷ []) = IsOctet text octet
IsOctets text (octet ∷ octets) =
    (first rest : List ℕ) × (text ≡ first ++ codes ":" ++ rest) × IsOctet first octet × IsOctets rest octets

-- A MAC address.
abbrev pub IsStation : List ℕ → List ℕ → Type 0
IsStation text octets = IsOctets text octets × (length octets ≡ 6)
