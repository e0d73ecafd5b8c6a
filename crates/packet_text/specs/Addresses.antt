-- Bytes and addresses as text.
use Rattle.std.specs.Prelude.{ℕ, ◌+◌, ◌/◌, ◌%◌, nat_lt, if◌then◌else◌, List, [], ◌∷◌, ◌++◌, slice_index, codes}
use Rattle.std.specs.Fmt.{decimal}
use Rattle.std.specs.Net.Addr.{segments_of}
use Rattle.std.specs.Net.Text as Text

-- the hexadecimal digit of a number below 16
abbrev pub hex_digit : ℕ → ℕ
hex_digit number = if nat_lt number 10 then 48 + number else 87 + number

-- the two hexadecimal digits of a byte
abbrev pub hex_pair : ℕ → List ℕ
hex_pair byte = hex_digit (byte / 16) ∷ hex_digit (byte % 16) ∷ []

-- two hexadecimal digits for each byte
abbrev pub hex_text : List ℕ → List ℕ
hex_text [] = []
hex_text (byte ∷ bytes) = hex_pair byte ++ hex_text bytes

-- the separator of a hardware address, `:`
abbrev pub colon : ℕ
colon = 58

-- a colon and two hexadecimal digits for each byte
abbrev pub further_octets_text : List ℕ → List ℕ
further_octets_text [] = []
further_octets_text (byte ∷ bytes) = (colon ∷ hex_pair byte) ++ further_octets_text bytes

-- two hexadecimal digits for each byte, separated by colons
abbrev pub octets_text : List ℕ → List ℕ
octets_text [] = []
octets_text (byte ∷ bytes) = hex_pair byte ++ further_octets_text bytes

-- a 6-byte hardware address
unfoldable pub mac_text : List ℕ → List ℕ
mac_text address =
    hex_pair (slice_index address 0) ++ colon ∷ hex_pair (slice_index address 1) ++ colon ∷ hex_pair (slice_index address 2)
    ++ colon ∷ hex_pair (slice_index address 3) ++ colon ∷ hex_pair (slice_index address 4)
    ++ colon ∷ hex_pair (slice_index address 5)

-- an IPv4 address in dotted decimal notation
unfoldable pub ipv4_text : List ℕ → List ℕ
ipv4_text address =
    decimal (slice_index address 0) ++ codes "." ++ decimal (slice_index address 1) ++ codes "."
    ++ decimal (slice_index address 2) ++ codes "." ++ decimal (slice_index address 3)

-- an IPv6 address in its recommended form (RFC 5952)
abbrev pub ipv6_text : List ℕ → List ℕ
ipv6_text address = Text.ipv6_text (segments_of address)
