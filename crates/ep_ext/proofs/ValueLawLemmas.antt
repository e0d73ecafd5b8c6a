-- The value of a chain of IPv6 extension headers: its length, and whether it states a fragment.
use Rattle.std.proofs.Common.{◌≡◌, ℕ, ◌+◌, ◌||◌, Bool, true, false, List, [], ◌∷◌, ◌++◌, length, Option, Some, None, refl, sym, ap, subst, ◌∙◌, inl, inr, arith, length-append}
use Rattle.std.proofs.lemmas.Bool.{cases_Bool, true≢false}
use Rattle.std.proofs.lemmas.Grind.{common_steps}
use Rattle.std.specs.Option.{option_map, option_map_or, is_some}
use Rattle.ep_base.specs.Readings.{headers}
use Rattle.ep_base.specs.declared.err.ipv6_exts.HeaderSliceError.{HeaderSliceError}
use Rattle.ep_ext.specs.declared.ip_auth_header.IpAuthHeader.{IpAuthHeader}
use Rattle.ep_ext.specs.declared.ipv6_fragment_header.Ipv6FragmentHeader.{Ipv6FragmentHeader}
use Rattle.ep_ext.specs.declared.ipv6_raw_ext_header.Ipv6RawExtHeader.{Ipv6RawExtHeader}
use Rattle.ep_ext.specs.declared.ipv6_exts.Ipv6Extensions.{Ipv6Extensions}
use Rattle.ep_ext.specs.declared.ipv6_routing_exts.Ipv6RoutingExtensions.{Ipv6RoutingExtensions}
use Rattle.ep_ext.specs.IpAuth.{ip_auth_len}
use Rattle.ep_ext.specs.FragmentHeader.{is_ipv6_fragment}
use Rattle.ep_ext.specs.RawExtension.{raw_extension_len}
use Rattle.ep_ext.specs.ExtensionParts.{ExtensionPart, hop_by_hop, destination_options, routing, fragment, authentication, optional_part, part_number, part_next, part_len, part_bytes, part_fragments}
use Rattle.ep_ext.specs.Chains.{ipv6, ExtensionChain, takes, demand_of, is_taken, IsChainAfter, IsExtensionChain, RefusesChainAfter, parts_bytes, chain_fragments}
use Rattle.ep_ext.specs.ChainPrefixes.{IsLaxChainIn}
use Rattle.ep_ext.specs.Ipv6Chains.{no_ipv6_extensions, extensions_of, with_part, with_parts, with_destination, has_kind, has_destination, ipv6_parts, routing_header, final_by}
use Rattle.ep_ext.proofs.PartLemmas.{part_numbered, auth_len}
use Rattle.ep_ext.proofs.ValueLemmas.{HasTaken, none_taken, taken_more, value_of, value_len}
use Rattle.ep_ext.proofs.ChainBytesLemmas.{chain_len}

-- A header that a chain of owned headers continues with has not been visited before.
takes_untaken : (taken : List ℕ) (number : ℕ) → demand_of ipv6 headers taken number ≡ takes
    → is_taken taken number ≡ false
takes_untaken [] number demand = refl
takes_untaken (nearest ∷ taken) number demand =
    elim (cases_Bool (is_taken (nearest ∷ taken) number)) [
      | inl again ↦ absurd (grind (arith, common_steps, again, demand))
      | inr fresh ↦ fresh
    ]

-- A header of a chain whose kind is not yet in the value.
record Fresh (taken : List ℕ) (walked : Ipv6Extensions) (number : ℕ) (part : ExtensionPart) : Type 0 where
  numbered : number ≡ part_number part
  free : has_kind walked (part_number part) ≡ false

fresh : (taken : List ℕ) (walked : Ipv6Extensions) (number : ℕ) (part : ExtensionPart) → HasTaken taken walked
    → demand_of ipv6 headers taken number ≡ takes → number ≡ part_number part → Fresh taken walked number part
fresh taken walked number part has demand same = record {
  numbered = same;
  free = sym (has (part_number part)) ∙ ap (is_taken taken) (sym same) ∙ takes_untaken taken number demand;
}

-- ---- length of a value

abbrev pub total : Ipv6Extensions → ℕ
total extensions = option_map_or raw_extension_len extensions.hop_by_hop_options 0
    + option_map_or raw_extension_len extensions.destination_options 0
    + (option_map_or raw_extension_len (option_map routing_header extensions.routing) 0
    + option_map_or raw_extension_len (final_by extensions.routing) 0)
    + option_map_or (λ _. 8) extensions.fragment 0 + option_map_or ip_auth_len extensions.auth 0

absent : {H : Type 0} (len : H → ℕ) (header : Option H) → is_some header ≡ false → option_map_or len header 0 ≡ 0
absent len None none = refl
absent len (Some header) none = absurd (true≢false none)

routing_absent : (present : Option Ipv6RoutingExtensions) → is_some present ≡ false
    → (option_map_or raw_extension_len (option_map routing_header present) 0 ≡ 0)
    × (option_map_or raw_extension_len (final_by present) 0 ≡ 0)
routing_absent None none = (refl, refl)
routing_absent (Some after) none = absurd (true≢false none)

destination_longer : (hop destination : Option Ipv6RawExtHeader) (after : Option Ipv6RoutingExtensions)
    (fragmenting : Option Ipv6FragmentHeader) (auth : Option IpAuthHeader) (header : Ipv6RawExtHeader)
    → has_destination (value_of hop destination after fragmenting auth) after ≡ false
    → total (with_destination (value_of hop destination after fragmenting auth) header after)
    ≡ total (value_of hop destination after fragmenting auth) + raw_extension_len header
destination_longer hop destination None fragmenting auth header free =
    omega (arith, absent raw_extension_len destination free)
destination_longer hop destination (Some after) fragmenting auth header free =
    omega (arith, absent raw_extension_len after.final_destination_options free)

-- A header added to a value adds its length.
pub longer : (walked : Ipv6Extensions) (part : ExtensionPart) → has_kind walked (part_number part) ≡ false
    → total (with_part walked part) ≡ total walked + length (part_bytes part)
longer walked (hop_by_hop header) free = omega (arith, absent raw_extension_len walked.hop_by_hop_options free)
longer walked (destination_options header) free =
    destination_longer walked.hop_by_hop_options walked.destination_options walked.routing walked.fragment walked.auth
    header free ∙ omega arith
longer walked (routing header) free =
    let none = routing_absent walked.routing free in omega (arith, none.0, none.1)
longer walked (fragment header) free = omega (arith, absent (λ _. 8) walked.fragment free)
longer walked (authentication header) free =
    omega (arith, absent ip_auth_len walked.auth free, auth_len 0 header)

-- ---- fragment state of a value

abbrev fragments_by : Option Ipv6FragmentHeader → Bool
fragments_by None = false
fragments_by (Some header) = is_ipv6_fragment header

or_false : (test : Bool) → test ≡ (test || false)
or_false true = refl
or_false false = refl

or_assoc : (a b c : Bool) → ((a || b) || c) ≡ (a || (b || c))
or_assoc true b c = refl
or_assoc false b c = refl

not_present : (present : Option Ipv6FragmentHeader) (test : Bool) → is_some present ≡ false
    → test ≡ (fragments_by present || test)
not_present None test none = refl
not_present (Some header) test none = absurd (true≢false none)

destination_fragments : (hop destination : Option Ipv6RawExtHeader) (after : Option Ipv6RoutingExtensions)
    (fragmenting : Option Ipv6FragmentHeader) (auth : Option IpAuthHeader) (header : Ipv6RawExtHeader)
    → fragments_by (with_destination (value_of hop destination after fragmenting auth) header after).fragment
    ≡ (fragments_by fragmenting || false)
destination_fragments hop destination None fragmenting auth header = or_false (fragments_by fragmenting)
destination_fragments hop destination (Some after) fragmenting auth header = or_false (fragments_by fragmenting)

-- A header added to a value adds its fragment state.
fragments_with : (walked : Ipv6Extensions) (part : ExtensionPart) → has_kind walked (part_number part) ≡ false
    → fragments_by (with_part walked part).fragment ≡ (fragments_by walked.fragment || part_fragments part)
fragments_with walked (hop_by_hop header) free = or_false (fragments_by walked.fragment)
fragments_with walked (destination_options header) free =
    destination_fragments walked.hop_by_hop_options walked.destination_options walked.routing walked.fragment
    walked.auth header
fragments_with walked (routing header) free = or_false (fragments_by walked.fragment)
fragments_with walked (fragment header) free = not_present walked.fragment (is_ipv6_fragment header) free
fragments_with walked (authentication header) free = or_false (fragments_by walked.fragment)

fragments-append : (parts more : List ExtensionPart)
    → chain_fragments (parts ++ more) ≡ (chain_fragments parts || chain_fragments more)
fragments-append [] more = refl
fragments-append (part ∷ parts) more =
    ap (λ (b : Bool). part_fragments part || b) (fragments-append parts more)
    ∙ sym (or_assoc (part_fragments part) (chain_fragments parts) (chain_fragments more))

-- Headers other than fragment headers never state a fragment.
none_fragments : {H : Type 0} (kind : H → ExtensionPart) → ((header : H) → part_fragments (kind header) ≡ false)
    → (present : Option H) → chain_fragments (optional_part kind present) ≡ false
none_fragments kind never None = refl
none_fragments kind never (Some header) = ap (λ (b : Bool). b || false) (never header)

one_fragments : (present : Option Ipv6FragmentHeader) → chain_fragments (optional_part fragment present) ≡ fragments_by present
one_fragments None = refl
one_fragments (Some header) = sym (or_false (is_ipv6_fragment header))

-- A value states a fragment if its fragment header does.
value_fragments : (extensions : Ipv6Extensions)
    → chain_fragments (ipv6_parts extensions) ≡ fragments_by extensions.fragment
value_fragments extensions =
    let a = optional_part hop_by_hop extensions.hop_by_hop_options in
    let b = optional_part destination_options extensions.destination_options in
    let c = optional_part routing (option_map routing_header extensions.routing) in
    let d = optional_part fragment extensions.fragment in
    let e = optional_part authentication extensions.auth in
    let f = optional_part destination_options (final_by extensions.routing) in
    fragments-append (a ++ b ++ c ++ d ++ e) f
    ∙ (λ i. fragments-append (a ++ b ++ c ++ d) e i
    || none_fragments destination_options (λ h. refl) (final_by extensions.routing) i)
    ∙ sym (or_false (chain_fragments (a ++ b ++ c ++ d) || chain_fragments e))
    ∙ (λ i. fragments-append (a ++ b ++ c) d i || none_fragments authentication (λ h. refl) extensions.auth i)
    ∙ sym (or_false (chain_fragments (a ++ b ++ c) || chain_fragments d))
    ∙ (λ i. fragments-append (a ++ b) c i || one_fragments extensions.fragment i)
    ∙ (λ i. (fragments-append a b i
    || none_fragments routing (λ h. refl) (option_map routing_header extensions.routing) i)
    || fragments_by extensions.fragment)
    ∙ (λ i. ((none_fragments hop_by_hop (λ h. refl) extensions.hop_by_hop_options i
    || none_fragments destination_options (λ h. refl) extensions.destination_options i) || false)
    || fragments_by extensions.fragment)

-- ---- value of a chain

record ValueIs (walked : Ipv6Extensions) (parts : List ExtensionPart) : Type 0 where
  len : total (with_parts walked parts) ≡ total walked + length (parts_bytes parts)
  fragments : fragments_by (with_parts walked parts).fragment
      ≡ (fragments_by walked.fragment || chain_fragments parts)

value_after : (taken : List ℕ) (walked : Ipv6Extensions) (number : ℕ) (bytes : List ℕ) (parts : List ExtensionPart)
    (last : ℕ) (rest : List ℕ)
    → HasTaken taken walked → IsChainAfter ipv6 headers taken number bytes parts last rest → ValueIs walked parts
value_after taken walked number bytes [] last rest has is = record {
  len = omega arith;
  fragments = or_false (fragments_by walked.fragment);
}
value_after taken walked number bytes (part ∷ parts) last rest has is =
    let here = fresh taken walked number part has is.0 (part_numbered number bytes part is.1.0 is.1.1) in
    let more_taken = subst (λ (n : ℕ). HasTaken (n ∷ taken) (with_part walked part)) (sym here.numbered)
    (taken_more taken walked part has) in
    let more = value_after (number ∷ taken) (with_part walked part) (part_next part) is.1.0 parts last rest more_taken
    is.1.2 in
    record {
      len = omega (
        arith,
        more.len,
        longer walked part here.free,
        length-append (part_bytes part) (parts_bytes parts),
      );
      fragments = more.fragments
          ∙ ap (λ (b : Bool). b || chain_fragments parts) (fragments_with walked part here.free)
          ∙ or_assoc (fragments_by walked.fragment) (part_fragments part) (chain_fragments parts);
    }

-- The value of a chain has the length of the chain before its rest.
pub chain_value_len : (number : ℕ) (bytes : List ℕ) (chain : ExtensionChain)
    → IsExtensionChain ipv6 headers number bytes chain
    → length bytes ≡ length (parts_bytes (ipv6_parts (extensions_of chain.parts))) + length chain.rest
chain_value_len number bytes chain is =
    let value = value_after [] no_ipv6_extensions number bytes chain.parts chain.last chain.rest none_taken is in
    omega (arith, chain_len ipv6 headers number bytes chain is, value_len (extensions_of chain.parts), value.len)

-- The value of a chain states a fragment if the chain does.
pub chain_value_fragments : (number : ℕ) (bytes : List ℕ) (chain : ExtensionChain)
    → IsExtensionChain ipv6 headers number bytes chain
    → chain_fragments (ipv6_parts (extensions_of chain.parts)) ≡ chain_fragments chain.parts
chain_value_fragments number bytes chain is =
    let value = value_after [] no_ipv6_extensions number bytes chain.parts chain.last chain.rest none_taken is in
    value_fragments (extensions_of chain.parts) ∙ value.fragments

-- ---- value of the headers before a rejected one

value_before : (taken : List ℕ) (walked : Ipv6Extensions) (offset number : ℕ) (bytes : List ℕ)
    (parts : List ExtensionPart) (error : HeaderSliceError)
    → HasTaken taken walked → RefusesChainAfter ipv6 headers taken offset number bytes parts error
    → fragments_by (with_parts walked parts).fragment ≡ (fragments_by walked.fragment || chain_fragments parts)
value_before taken walked offset number bytes [] error has is = or_false (fragments_by walked.fragment)
value_before taken walked offset number bytes (part ∷ parts) error has is =
    let here = fresh taken walked number part has is.0 (part_numbered number bytes part is.1.0 is.1.1) in
    let more_taken = subst (λ (n : ℕ). HasTaken (n ∷ taken) (with_part walked part)) (sym here.numbered)
    (taken_more taken walked part has) in
    value_before (number ∷ taken) (with_part walked part) (offset + part_len part) (part_next part) is.1.0 parts error
    more_taken is.1.2
    ∙ ap (λ (b : Bool). b || chain_fragments parts) (fragments_with walked part here.free)
    ∙ or_assoc (fragments_by walked.fragment) (part_fragments part) (chain_fragments parts)

-- The value of the headers parsed up to the first invalid one states a fragment if they do.
pub lax_value_fragments : (number : ℕ) (bytes : List ℕ) (chain : ExtensionChain) (stop : Option HeaderSliceError)
    → IsLaxChainIn ipv6 headers number bytes chain stop
    → chain_fragments (ipv6_parts (extensions_of chain.parts)) ≡ chain_fragments chain.parts
lax_value_fragments number bytes chain None is = chain_value_fragments number bytes chain is
lax_value_fragments number bytes chain (Some error) is =
    value_fragments (extensions_of chain.parts)
    ∙ value_before [] no_ipv6_extensions 0 number bytes chain.parts error none_taken is.0
