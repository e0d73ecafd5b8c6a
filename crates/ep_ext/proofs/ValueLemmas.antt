-- Relation of a value of extension headers to the headers collected in it.
use Rattle.std.proofs.Common.{◌≡◌, ℕ, ◌+◌, ◌-◌, ◌≤◌, ◌<◌, true, false, List, [], ◌∷◌, ◌++◌, length, Option, Some, None, refl, sym, ap, subst, ◌∙◌, arith, length-append}
use Rattle.std.proofs.lemmas.Bool.{false≢true}
use Rattle.std.proofs.lemmas.Grind.{common_steps}
use Rattle.std.proofs.lemmas.List.{append-nil}
use Rattle.std.specs.Option.{option_map_or, option_map}
use Rattle.ep_base.specs.Readings.{headers}
use Rattle.ep_base.specs.declared.err.ipv6_exts.HeaderError.TheVariants as content
use Rattle.ep_base.specs.declared.err.ipv6_exts.HeaderSliceError.{HeaderSliceError}
use Rattle.ep_base.specs.declared.err.ipv6_exts.HeaderSliceError.TheVariants as header_error
use Rattle.ep_ext.specs.declared.ip_auth_header.IpAuthHeader.{IpAuthHeader}
use Rattle.ep_ext.specs.declared.ipv6_fragment_header.Ipv6FragmentHeader.{Ipv6FragmentHeader}
use Rattle.ep_ext.specs.declared.ipv6_raw_ext_header.Ipv6RawExtHeader.{Ipv6RawExtHeader}
use Rattle.ep_ext.specs.declared.ipv6_exts.Ipv6Extensions.{Ipv6Extensions}
use Rattle.ep_ext.specs.declared.ipv6_routing_exts.Ipv6RoutingExtensions.{Ipv6RoutingExtensions}
use Rattle.ep_ext.specs.ExtensionParts.{ExtensionPart, hop_by_hop, destination_options, routing, fragment, authentication, part_number, part_next, part_bytes, optional_part, IsExtensionPart, RefusesExtensionPart}
use Rattle.ep_ext.specs.IpAuth.{ip_auth_bytes, ip_auth_len}
use Rattle.ep_ext.specs.FragmentHeader.{fragment_header_bytes}
use Rattle.ep_ext.specs.RawExtension.{raw_extension_bytes, raw_extension_len}
use Rattle.ep_ext.specs.Chains.{ipv6, chain_of, ends, takes, demand_of, is_first, is_taken, is_ipv6_extension, parts_bytes, IsExtensionChain, RefusesExtensionChain, with_offset_in}
use Rattle.ep_ext.specs.Ipv6Chains.{no_ipv6_extensions, extensions_of, with_part, with_parts, with_destination, has_kind, ipv6_parts, routing_header, final_by}
use Rattle.ep_ext.proofs.PartLemmas.{part_numbered, auth_len}
use Rattle.ep_ext.proofs.ReadLemmas.{IsRead, read_nothing, read_part, read_all, read_refused, read_misplaced, read_as, misplaced_0, at_start, past_start, start_len}

-- The kinds of headers of the value are those visited.
abbrev pub HasTaken : List ℕ → Ipv6Extensions → Type 0
HasTaken taken walked = (number : ℕ) → is_taken taken number ≡ has_kind walked number

pub none_taken : HasTaken [] no_ipv6_extensions
none_taken number = grind (arith, common_steps)

-- The value with these fields.
abbrev pub value_of : Option Ipv6RawExtHeader → Option Ipv6RawExtHeader → Option Ipv6RoutingExtensions
    → Option Ipv6FragmentHeader → Option IpAuthHeader → Ipv6Extensions
value_of hop destination following fragmenting auth = record {
  hop_by_hop_options = hop;
  destination_options = destination;
  routing = following;
  fragment = fragmenting;
  auth = auth;
}

destination_taken : (hop destination : Option Ipv6RawExtHeader) (following : Option Ipv6RoutingExtensions)
    (fragmenting : Option Ipv6FragmentHeader) (auth : Option IpAuthHeader) (taken : List ℕ) (header : Ipv6RawExtHeader)
    → HasTaken taken (value_of hop destination following fragmenting auth)
    → HasTaken (60 ∷ taken) (with_destination (value_of hop destination following fragmenting auth) header following)
destination_taken hop destination None fragmenting auth taken header has number = grind
    (arith, common_steps, has number)
destination_taken hop destination (Some following) fragmenting auth taken header has number = grind
    (arith, common_steps, has number)

-- A visited header is of a kind that the value then has.
pub taken_more : (taken : List ℕ) (walked : Ipv6Extensions) (part : ExtensionPart) → HasTaken taken walked
    → HasTaken (part_number part ∷ taken) (with_part walked part)
taken_more taken walked (hop_by_hop header) has number = grind (arith, common_steps, has number)
taken_more taken walked (destination_options header) has number =
    destination_taken walked.hop_by_hop_options walked.destination_options walked.routing walked.fragment walked.auth
    taken header has number
taken_more taken walked (routing header) has number = grind (arith, common_steps, has number)
taken_more taken walked (fragment header) has number = grind (arith, common_steps, has number)
taken_more taken walked (authentication header) has number = grind (arith, common_steps, has number)

-- Headers appended to a list are added to the value one after another.
pub with_parts-append : (walked : Ipv6Extensions) (parts : List ExtensionPart) (part : ExtensionPart)
    → with_parts walked (parts ++ part ∷ []) ≡ with_part (with_parts walked parts) part
with_parts-append walked [] part = refl
with_parts-append walked (other ∷ parts) part = with_parts-append (with_part walked other) parts part

-- ---- demands of IP numbers, read as owned headers

pub first_none_taken : (taken : List ℕ) (number : ℕ) → is_first taken ≡ true → is_taken taken number ≡ false
first_none_taken [] number start = refl
first_none_taken (nearest ∷ taken) number start = absurd (false≢true start)

pub headers_take : (taken : List ℕ) (number : ℕ) → is_ipv6_extension number ≡ true → (number ≡ 0
    → is_first taken ≡ true) → is_taken taken number ≡ false
    → demand_of ipv6 headers taken number ≡ takes
headers_take taken number kind start none = grind (arith, common_steps)

pub headers_end : (taken : List ℕ) (number : ℕ) → is_ipv6_extension number ≡ false
    → demand_of ipv6 headers taken number ≡ ends
headers_end taken number none = grind (arith, common_steps)

pub headers_end_taken : (taken : List ℕ) (number : ℕ) → (number ≡ 0 → is_first taken ≡ true)
    → is_ipv6_extension number ≡ true → is_taken taken number ≡ true → demand_of ipv6 headers taken number ≡ ends
headers_end_taken taken number start kind present =
    let other : number ≡ 0 → ⊥ = λ is. false≢true (sym (first_none_taken taken number (start is)) ∙ present) in
    grind (arith, common_steps)

-- ---- state of the loop over owned headers

pub record HeadersRead (first : ℕ) (bytes : List ℕ) (number : ℕ) (rest : List ℕ)
    (extensions : Ipv6Extensions) : Type 0 where
  pub taken : List ℕ
  pub parts : List ExtensionPart
  pub read : IsRead ipv6 headers first bytes taken parts number rest
  pub value : extensions ≡ extensions_of parts
  pub has : HasTaken taken extensions

pub headers_nothing : (first : ℕ) (bytes : List ℕ) (extensions : Ipv6Extensions) → extensions ≡ no_ipv6_extensions
    → HeadersRead first bytes first bytes extensions
headers_nothing first bytes extensions none = record {
  taken = [];
  parts = [];
  read = read_nothing ipv6 headers first bytes;
  value = none;
  has = subst (HasTaken []) (sym none) none_taken;
}

-- If no byte is before the rest, no header has been visited.
headers_start : (first : ℕ) (bytes : List ℕ) (number : ℕ) (rest : List ℕ) (extensions : Ipv6Extensions)
    → (read : HeadersRead first bytes number rest extensions)
    → (number ≡ 0 → length bytes - length rest ≤ 0) → number ≡ 0 → is_first read.taken ≡ true
headers_start first bytes number rest extensions read start zero_is = at_start ipv6 headers first bytes read.taken
    read.parts number rest read.read (start zero_is)

pub headers_more : (first : ℕ) (bytes : List ℕ) (number : ℕ) (rest : List ℕ) (extensions : Ipv6Extensions)
    (part : ExtensionPart) (following : List ℕ) (next : ℕ) (after : Ipv6Extensions)
    → HeadersRead first bytes number rest extensions → is_ipv6_extension number ≡ true → (number ≡ 0
    → length bytes - length rest ≤ 0) → has_kind extensions number ≡ false
    → IsExtensionPart number rest part following → next ≡ part_next part → after ≡ with_part extensions part
    → HeadersRead first bytes next following after
headers_more first bytes number rest extensions part following next after read kind start none is next_is after_is =
    let numbered = part_numbered number rest part following is in
    record {
      taken = number ∷ read.taken;
      parts = read.parts ++ part ∷ [];
      read = read_as ipv6 headers first bytes (number ∷ read.taken) (read.parts ++ part ∷ [])
          (part_next part) next following following
          (read_part ipv6 headers first bytes read.taken read.parts number rest part following read.read
          (headers_take read.taken number kind (headers_start first bytes number rest extensions read start)
          (read.has number ∙ none)) is) next_is refl;
      value = after_is ∙ ap (λ (e : Ipv6Extensions). with_part e part) read.value
          ∙ sym (with_parts-append no_ipv6_extensions read.parts part);
      has = subst (HasTaken (number ∷ read.taken)) (sym after_is)
          (subst (λ (n : ℕ). HasTaken (n ∷ read.taken) (with_part extensions part)) (sym numbered)
          (taken_more read.taken extensions part read.has));
    }

pub headers_refused : (first : ℕ) (bytes : List ℕ) (number : ℕ) (rest : List ℕ) (extensions : Ipv6Extensions)
    (error shown : HeaderSliceError)
    → HeadersRead first bytes number rest extensions → is_ipv6_extension number ≡ true → (number ≡ 0
    → length bytes - length rest ≤ 0) → has_kind extensions number ≡ false
    → RefusesExtensionPart number rest error → shown ≡ with_offset_in (length bytes - length rest) error
    → RefusesExtensionChain ipv6 headers first bytes shown
headers_refused first bytes number rest extensions error shown read kind start none refused same =
    subst (RefusesExtensionChain ipv6 headers first bytes) (ap (λ (n : ℕ). with_offset_in n error)
    (start_len bytes read.read.prefix rest read.read.split) ∙ sym same)
    (read_refused ipv6 headers first bytes read.taken read.parts number rest error read.read
    (headers_take read.taken number kind (headers_start first bytes number rest extensions read start)
    (read.has number ∙ none)) refused)

pub headers_misplaced : (first : ℕ) (bytes : List ℕ) (number : ℕ) (rest : List ℕ) (extensions : Ipv6Extensions)
    → HeadersRead first bytes number rest extensions → number ≡ 0 → 0 < length bytes - length rest
    → RefusesExtensionChain ipv6 headers first bytes (header_error.Content content.HopByHopNotAtStart)
headers_misplaced first bytes number rest extensions read zero_is some =
    read_misplaced ipv6 headers first bytes read.taken read.parts number rest read.read
    (misplaced_0 headers read.taken number zero_is
    (past_start ipv6 headers first bytes read.taken read.parts number rest read.read some))

-- The value of a chain.
abbrev pub IsValueOf : ℕ → List ℕ → ℕ → List ℕ → Ipv6Extensions → Type 0
IsValueOf first bytes number rest extensions =
    (parts : List ExtensionPart) × (extensions ≡ extensions_of parts) × IsExtensionChain ipv6 headers first bytes
    (chain_of parts number rest)

pub headers_end_read : (first : ℕ) (bytes : List ℕ) (number : ℕ) (rest : List ℕ) (extensions : Ipv6Extensions)
    → HeadersRead first bytes number rest extensions
    → is_ipv6_extension number ≡ false → IsValueOf first bytes number rest extensions
headers_end_read first bytes number rest extensions read none = (
  read.parts,
  read.value,
  read_all ipv6 headers first bytes read.taken read.parts number rest read.read
      (headers_end read.taken number none),
)

pub headers_second_read : (first : ℕ) (bytes : List ℕ) (number : ℕ) (rest : List ℕ) (extensions : Ipv6Extensions)
    → HeadersRead first bytes number rest extensions
    → is_ipv6_extension number ≡ true → (number ≡ 0 → length bytes - length rest ≤ 0)
    → has_kind extensions number ≡ true → IsValueOf first bytes number rest extensions
headers_second_read first bytes number rest extensions read kind start present = (
  read.parts,
  read.value,
  read_all ipv6 headers first bytes read.taken read.parts number rest read.read
      (headers_end_taken read.taken number (headers_start first bytes number rest extensions read start) kind
      (read.has number ∙ present)),
)

-- ---- length of the headers of a value

pub bytes-append : (parts more : List ExtensionPart)
    → length (parts_bytes (parts ++ more)) ≡ length (parts_bytes parts) + length (parts_bytes more)
bytes-append [] more = omega arith
bytes-append (part ∷ parts) more = omega (
  arith,
  length-append (part_bytes part) (parts_bytes
      (parts ++ more)),
  length-append (part_bytes part) (parts_bytes parts),
  bytes-append parts more,
)

hop_by_hop_len : (header : Option Ipv6RawExtHeader)
    → length (parts_bytes (optional_part hop_by_hop header)) ≡ option_map_or raw_extension_len header 0
hop_by_hop_len None = refl
hop_by_hop_len (Some header) = ap length (append-nil (raw_extension_bytes header)) ∙ omega arith

destination_len : (header : Option Ipv6RawExtHeader)
    → length (parts_bytes (optional_part destination_options header)) ≡ option_map_or raw_extension_len header 0
destination_len None = refl
destination_len (Some header) = ap length (append-nil (raw_extension_bytes header)) ∙ omega arith

routing_len : (header : Option Ipv6RawExtHeader)
    → length (parts_bytes (optional_part routing header)) ≡ option_map_or raw_extension_len header 0
routing_len None = refl
routing_len (Some header) = ap length (append-nil (raw_extension_bytes header)) ∙ omega arith

fragment_len : (header : Option Ipv6FragmentHeader)
    → length (parts_bytes (optional_part fragment header)) ≡ option_map_or (λ _. 8) header 0
fragment_len None = refl
fragment_len (Some header) = ap length (append-nil (fragment_header_bytes header))

auth_present_len : (header : Option IpAuthHeader)
    → length (parts_bytes (optional_part authentication header)) ≡ option_map_or ip_auth_len header 0
auth_present_len None = refl
auth_present_len (Some header) = ap length (append-nil (ip_auth_bytes header)) ∙ auth_len 0 header

-- The length of a value is the sum of the lengths of its headers.
pub value_len : (extensions : Ipv6Extensions) → length (parts_bytes (ipv6_parts extensions))
    ≡ option_map_or raw_extension_len extensions.hop_by_hop_options 0 + option_map_or raw_extension_len
    extensions.destination_options 0
    + (option_map_or raw_extension_len (option_map routing_header extensions.routing) 0 + option_map_or
    raw_extension_len (final_by extensions.routing) 0)
    + option_map_or (λ _. 8) extensions.fragment 0 + option_map_or ip_auth_len extensions.auth 0
value_len extensions =
    let a = optional_part hop_by_hop extensions.hop_by_hop_options in
    let b = optional_part destination_options extensions.destination_options in
    let c = optional_part routing (option_map routing_header extensions.routing) in
    let d = optional_part fragment extensions.fragment in
    let e = optional_part authentication extensions.auth in
    let f = optional_part destination_options (final_by extensions.routing) in
    omega (
      arith,
      bytes-append (a ++ b ++ c ++ d ++ e) f,
      bytes-append (a ++ b ++ c ++ d) e,
      bytes-append (a ++ b ++ c) d,
      bytes-append (a ++ b) c,
      bytes-append a b,
      hop_by_hop_len extensions.hop_by_hop_options,
      destination_len extensions.destination_options,
      routing_len (option_map routing_header extensions.routing),
      fragment_len extensions.fragment,
      auth_present_len extensions.auth,
      destination_len (final_by extensions.routing),
    )
