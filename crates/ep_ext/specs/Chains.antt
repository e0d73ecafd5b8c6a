-- Chains of extension headers of IP (RFC 4302, 3.1.1; RFC 8200, 4): the next header field of each header is the IP
-- number of the next header or of the payload.
use Rattle.std.specs.Prelude.{◌≡◌, ℕ, ◌+◌, ◌==◌, ◌||◌, ◌&&◌, not, ◌⊎◌, Bool, true, false, if◌then◌else◌, List, [], ◌∷◌, ◌++◌}
use Rattle.ep_base.specs.IpNumbers.{hop_by_hop_number, routing_number, fragment_number, authentication_number, destination_options_number}
use Rattle.ep_base.specs.Readings.{Reading, slices, headers}
use Rattle.ep_base.specs.declared.err.ipv6_exts.HeaderError.TheVariants as content
use Rattle.ep_base.specs.declared.err.ipv6_exts.HeaderSliceError.{HeaderSliceError}
use Rattle.ep_base.specs.declared.err.ipv6_exts.HeaderSliceError.TheVariants as header_error
use Rattle.ep_ext.specs.ExtensionParts.{ExtensionPart, part_number, part_next, part_len, part_bytes, part_fragments, FitsPart, EncodesPart, IsExtensionPart, RefusesExtensionPart}

-- Version of the IP header before the chain.
pub data IpVersion : Type 0 where
  ipv4 : IpVersion
  ipv6 : IpVersion

-- A chain: its headers, the IP number of the payload, and the bytes after the headers.
pub record ExtensionChain : Type 0 where
  pub parts : List ExtensionPart
  pub last : ℕ
  pub rest : List ℕ

-- The chain with these headers, payload number and remaining bytes.
abbrev pub chain_of : List ExtensionPart → ℕ → List ℕ → ExtensionChain
chain_of parts last rest = record { parts = parts; last = last; rest = rest }

-- ---- numbers of extension headers

-- True if the number is that of an IPv6 extension header.
abbrev pub is_ipv6_extension : ℕ → Bool
is_ipv6_extension number =
    number == hop_by_hop_number || number == routing_number || number == fragment_number
    || number == authentication_number || number == destination_options_number

-- True if a header of this kind is among the visited ones, which are given by their numbers, latest first. Destination
-- options after a routing header are a kind of their own.
abbrev pub is_taken : List ℕ → ℕ → Bool
is_taken [] number = false
is_taken (nearest ∷ taken) number =
    if nearest == number then true
    else if nearest == routing_number && number == destination_options_number then false
    else is_taken taken number

-- True if no header has been visited.
abbrev pub is_first : List ℕ → Bool
is_first [] = true
is_first (nearest ∷ taken) = false

-- True if a chain ends before a second header of a kind.
abbrev pub ends_at_second : Reading → Bool
ends_at_second slices = false
ends_at_second headers = true

-- Meaning of an IP number in a chain: the chain ends, a header of this kind is read, or a header of this kind is
-- misplaced.
pub data Demand : Type 0 where
  ends : Demand
  takes : Demand
  misplaced : Demand

-- The meaning of an IP number after the visited headers. IPv4 has one authentication header. In IPv6, Hop-by-Hop
-- options are valid only as the first header; other headers are all read as slices, but at most one of a kind as owned
-- headers.
abbrev pub demand_of : IpVersion → Reading → List ℕ → ℕ → Demand
demand_of ipv4 reading taken number = if is_first taken && number == authentication_number then takes else ends
demand_of ipv6 reading taken number =
    if number == hop_by_hop_number then (if is_first taken then takes else misplaced)
    else if not (is_ipv6_extension number) then ends
    else if ends_at_second reading && is_taken taken number then ends
    else takes

-- ---- chains

-- The bytes, starting with the header of this IP number, are a chain that continues after the visited headers.
abbrev pub IsChainAfter : IpVersion → Reading → List ℕ → ℕ → List ℕ → List ExtensionPart → ℕ → List ℕ → Type 0
IsChainAfter version reading taken number bytes [] last rest =
    (demand_of version reading taken number ≡ ends) × (last ≡ number) × (rest ≡ bytes)
IsChainAfter version reading taken number bytes (part ∷ parts) last rest =
    (demand_of version reading taken number ≡ takes)
    × ((after : List ℕ) × IsExtensionPart number bytes part after
    × IsChainAfter version reading (number ∷ taken) (part_next part) after parts last rest)

-- The bytes are a chain that starts with the header of this IP number: the bytes of its headers, followed by the rest.
-- Each header is of the kind that the number before it names; `last` is the IP number of the payload.
abbrev pub IsExtensionChain : IpVersion → Reading → ℕ → List ℕ → ExtensionChain → Type 0
IsExtensionChain version reading number bytes chain =
    IsChainAfter version reading [] number bytes chain.parts chain.last chain.rest

-- True if a fragment header of the chain states that the packet carries a fragment.
abbrev pub chain_fragments : List ExtensionPart → Bool
chain_fragments [] = false
chain_fragments (part ∷ parts) = part_fragments part || chain_fragments parts

-- The wire format of the headers, one after another, with reserved bits 0.
abbrev pub parts_bytes : List ExtensionPart → List ℕ
parts_bytes [] = []
parts_bytes (part ∷ parts) = part_bytes part ++ parts_bytes parts

-- The bytes are the wire format of the headers, with any reserved bits.
abbrev pub EncodesParts : List ℕ → List ExtensionPart → Type 0
EncodesParts bytes [] = bytes ≡ []
EncodesParts bytes (part ∷ parts) =
    (front after : List ℕ) × EncodesPart front part × EncodesParts after parts × (bytes ≡ front ++ after)

-- Each field of the headers fits its width on the wire.
abbrev pub FitParts : List ExtensionPart → Type 0
FitParts [] = Unit {0}
FitParts (part ∷ parts) = FitsPart part × FitParts parts

-- No kind of header is repeated, counting the visited headers too.
abbrev pub NoKindTwice : List ℕ → List ExtensionPart → Type 0
NoKindTwice taken [] = Unit {0}
NoKindTwice taken (part ∷ parts) =
    (is_taken taken (part_number part) ≡ false) × NoKindTwice (part_number part ∷ taken) parts

-- Holds if the number after the headers is that of a kind visited before.
abbrev pub StopsAtSecond : List ℕ → List ExtensionPart → ℕ → Type 0
StopsAtSecond taken [] last = is_taken taken last ≡ true
StopsAtSecond taken (part ∷ parts) last = StopsAtSecond (part_number part ∷ taken) parts last

-- ---- invalid chains

-- The error with `offset` added to the layer start offset of a length error.
abbrev pub with_offset_in : ℕ → HeaderSliceError → HeaderSliceError
with_offset_in offset (header_error.Len error) =
    header_error.Len (record error { layer_start_offset = error.layer_start_offset + offset })
with_offset_in offset (header_error.Content error) = header_error.Content error

-- Layer start offset of an error: 0 if it is not a length error.
abbrev pub offset_of : HeaderSliceError → ℕ
offset_of (header_error.Len error) = error.layer_start_offset
offset_of (header_error.Content error) = 0

-- The bytes at this offset, starting with the header of this IP number, are rejected with the error after the visited
-- headers and the headers of the list.
abbrev pub RefusesChainAfter : IpVersion → Reading → List ℕ → ℕ → ℕ → List ℕ → List ExtensionPart
    → HeaderSliceError → Type 0
RefusesChainAfter version reading taken offset number bytes [] error =
    ((demand_of version reading taken number ≡ misplaced)
    × (error ≡ header_error.Content content.HopByHopNotAtStart))
    ⊎ ((demand_of version reading taken number ≡ takes)
    × ((refusal : HeaderSliceError) × RefusesExtensionPart number bytes refusal × (error ≡ with_offset_in offset refusal)))
RefusesChainAfter version reading taken offset number bytes (part ∷ parts) error =
    (demand_of version reading taken number ≡ takes)
    × ((after : List ℕ) × IsExtensionPart number bytes part after
    × RefusesChainAfter version reading (number ∷ taken) (offset + part_len part) (part_next part) after parts error)

-- The bytes are not a chain that starts with the header of this IP number, for this reason: after some valid headers,
-- the next one is rejected, with the length of the headers before it as its offset, or Hop-by-Hop options are not
-- first.
abbrev pub RefusesExtensionChain : IpVersion → Reading → ℕ → List ℕ → HeaderSliceError → Type 0
RefusesExtensionChain version reading number bytes error =
    (parts : List ExtensionPart) × RefusesChainAfter version reading [] 0 number bytes parts error
