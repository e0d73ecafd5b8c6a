-- The extension headers in the first bytes of a packet are the first ones of the whole packet.
use Rattle.std.proofs.Common.{◌≡◌, ◌⊎◌, ℕ, ◌+◌, Bool, true, false, ◌&&◌, ◌==◌, not, if◌then◌else◌, List, [], ◌∷◌, ◌++◌, length, Option, Some, None, refl, ap, sym, subst, ◌∙◌, inl, inr, arith}
use Rattle.std.proofs.lemmas.List.{append-nil}
use Rattle.ep_base.specs.Bytes.{AreBytes}
use borrow.Author.Tests.{eqb-true}
use Rattle.ep_base.specs.IpNumbers.{authentication_number, hop_by_hop_number}
use Rattle.ep_base.specs.Readings.{slices}
use Rattle.ep_base.specs.declared.err.ipv6_exts.HeaderSliceError.{HeaderSliceError}
use Rattle.ep_base.specs.declared.len_source.LenSource.{LenSource}
use Rattle.ep_ext.specs.Chains.{IpVersion, ipv4, ipv6, ExtensionChain, chain_of, demand_of, is_first, is_ipv6_extension, is_taken, ends_at_second, ends, takes, misplaced, IsChainAfter, RefusesChainAfter}
use Rattle.ep_ext.specs.ChainPrefixes.{BeginWithParts, IsLaxChain}
use Rattle.ep_ext.specs.ExtensionParts.{ExtensionPart, part_len, part_next, IsExtensionPart}
use Rattle.ep_ext.proofs.ChainLemmas.{after_decided, taken_is_kind}
use Rattle.ep_ext.proofs.HeaderLawLemmas.{header_laws}
use Rattle.ep_ext.proofs.PartLemmas.{IsKind, ReadPart, is_hop_by_hop, is_routing, is_fragment, is_authentication, is_destination, part_after_fits, part_decided}
use Rattle.ep_lax.proofs.MoreIpLemmas.{chain_more, part_more}
use Rattle.packet_filter.proofs.MoreLayers.{is_transport, MoreParts}

-- ---- numbers

-- The number of an extension header is that of no transport protocol.
kind_no_transport : (number : ℕ) → IsKind number → is_transport number ≡ false
kind_no_transport number is_hop_by_hop = refl
kind_no_transport number is_routing = refl
kind_no_transport number is_fragment = refl
kind_no_transport number is_authentication = refl
kind_no_transport number is_destination = refl

demand_by : (a b c d : Bool)
    → (if a then (if b then takes else misplaced) else if c then ends else if d then ends else takes) ≡ misplaced
    → a ≡ true
demand_by true b c d is = refl
demand_by false b true d is = absurd (let no : ends ≡ misplaced = is in cc no)
demand_by false b false true is = absurd (let no : ends ≡ misplaced = is in cc no)
demand_by false b false false is = absurd (let no : takes ≡ misplaced = is in cc no)

-- Only Hop-by-Hop options are misplaced.
misplaced_no_transport : (version : IpVersion) (taken : List ℕ) (number : ℕ)
    → demand_of version slices taken number ≡ misplaced → is_transport number ≡ false
misplaced_no_transport ipv4 taken number is =
    demand_none (is_first taken && number == authentication_number) is
  where
    demand_none : (b : Bool) → (if b then takes else ends) ≡ misplaced → is_transport number ≡ false
    demand_none true same = absurd (let no : takes ≡ misplaced = same in cc no)
    demand_none false same = absurd (let no : ends ≡ misplaced = same in cc no)
misplaced_no_transport ipv6 taken number is =
    let zero_is : number ≡ hop_by_hop_number = eqb-true number hop_by_hop_number
    (demand_by (number == hop_by_hop_number) (is_first taken) (not (is_ipv6_extension number))
    (ends_at_second slices && is_taken taken number) is) in
    subst (λ (n : ℕ). is_transport n ≡ false) (sym zero_is) refl

-- The IP number after these headers.
abbrev last_of : ℕ → List ExtensionPart → ℕ
last_of number [] = number
last_of number (part ∷ parts) = last_of (part_next part) parts

last_is : (number : ℕ) (bytes : List ℕ) (parts : List ExtensionPart) (last : ℕ) (rest : List ℕ)
    → BeginWithParts number bytes parts last rest → last ≡ last_of number parts
last_is number bytes [] last rest is = is.0
last_is number bytes (part ∷ parts) last rest is = last_is (part_next part) is.0 parts last rest is.2

-- The number of a rejected extension header is that of no transport protocol.
refused_no_transport : (version : IpVersion) (taken : List ℕ) (offset number : ℕ) (bytes : List ℕ)
    (parts : List ExtensionPart) (error : HeaderSliceError)
    → RefusesChainAfter version slices taken offset number bytes parts error
    → is_transport (last_of number parts) ≡ false
refused_no_transport version taken offset number bytes [] error (inl refused) =
    misplaced_no_transport version taken number refused.0
refused_no_transport version taken offset number bytes [] error (inr refused) =
    kind_no_transport number (taken_is_kind version slices taken number refused.0)
refused_no_transport version taken offset number bytes (part ∷ parts) error refused =
    refused_no_transport version (number ∷ taken) (offset + part_len part) (part_next part) refused.1.0 parts error
    refused.1.2

-- ---- more bytes

-- The bytes begin with these headers, after which the chain ends or a header is rejected.
abbrev Begins : IpVersion → List ℕ → ℕ → ℕ → List ℕ → List ExtensionPart → Type 0
Begins version taken offset number bytes parts =
    ((chain : ExtensionChain) × (chain.parts ≡ parts)
    × IsChainAfter version slices taken number bytes parts chain.last chain.rest)
    ⊎ ((error : HeaderSliceError) × RefusesChainAfter version slices taken offset number bytes parts error)

-- The first of the headers, and what comes after it.
abbrev BeginsWith : IpVersion → List ℕ → ℕ → ℕ → List ℕ → ExtensionPart → List ExtensionPart → Type 0
BeginsWith version taken offset number bytes part parts =
    (after : List ℕ) × IsExtensionPart number bytes part after
    × Begins version (number ∷ taken) (offset + part_len part) (part_next part) after parts

begins_with : (version : IpVersion) (taken : List ℕ) (offset number : ℕ) (bytes : List ℕ) (part : ExtensionPart)
    (parts : List ExtensionPart) → Begins version taken offset number bytes (part ∷ parts)
    → BeginsWith version taken offset number bytes part parts
begins_with version taken offset number bytes part parts (inl is) =
    (is.2.1.0, is.2.1.1, inl (chain_of parts is.0.last is.0.rest, refl, is.2.1.2))
begins_with version taken offset number bytes part parts (inr is) = (is.1.1.0, is.1.1.1, inr (is.0, is.1.1.2))

-- Bytes that begin with an extension header are not a chain without headers.
begins_none : (version : IpVersion) (taken : List ℕ) (offset number : ℕ) (bytes : List ℕ) → AreBytes bytes
    → demand_of version slices taken number ≡ takes → (part : ExtensionPart) (after : List ℕ)
    → IsExtensionPart number bytes part after → Begins version taken offset number bytes [] → ⊥
begins_none version taken offset number bytes fits demand part after is (inl present) =
    let no : takes ≡ ends = sym demand ∙ present.2.0 in cc no
begins_none version taken offset number bytes fits demand part after is (inr (error, inl present)) =
    let no : takes ≡ misplaced = sym demand ∙ present.0 in cc no
begins_none version taken offset number bytes fits demand part after is (inr (error, inr present)) =
    (part_decided header_laws number bytes fits (taken_is_kind version slices taken number demand)).not_both
    (part, after) present.1.0 is present.1.1

-- The headers before a rejected one are the first headers of more bytes.
refused_more : (version : IpVersion) (taken : List ℕ) (offset place number : ℕ) (bytes more : List ℕ)
    (parts others : List ExtensionPart) (error : HeaderSliceError) → AreBytes (bytes ++ more)
    → RefusesChainAfter version slices taken offset number bytes parts error
    → Begins version taken place number (bytes ++ more) others
    → (further : List ExtensionPart) × (others ≡ parts ++ further)
refused_more version taken offset place number bytes more [] others error fits refused present = (others, refl)
refused_more version taken offset place number bytes more (part ∷ parts) [] error fits refused present =
    absurd (begins_none version taken place number (bytes ++ more) fits refused.0 part (refused.1.0 ++ more)
    (part_more number bytes more part refused.1.0 refused.1.1) present)
refused_more version taken offset place number bytes more (part ∷ parts) (same ∷ others) error fits refused present =
    let after = refused.1.0 in
    let is = part_more number bytes more part after refused.1.1 in
    let next = begins_with version taken place number (bytes ++ more) same others present in
    let equal : (same, next.0) ≡ (part, after ++ more) =
    (part_decided header_laws number (bytes ++ more) fits (taken_is_kind version slices taken number refused.0)).one_value
    (same, next.0) (part, after ++ more) next.1 is in
    let rest = refused_more version (number ∷ taken) (offset + part_len part) (place + part_len part) (part_next part)
    after more parts others error (part_after_fits number (bytes ++ more) part (after ++ more) is fits) refused.1.2
    (subst (λ (r : ReadPart). Begins version (number ∷ taken) (place + part_len r.0) (part_next r.0) r.1 others) equal
    next.2) in
    (rest.0, λ i. (equal i).0 ∷ rest.1 i)

-- ---- chains

-- The chain of more bytes, whose headers are those of a chain and further ones.
pub record MoreChain (chain more : ExtensionChain) : Type 0 where
  pub further : List ExtensionPart
  pub begins : more.parts ≡ chain.parts ++ further
  pub end : ((further ≡ []) × (more.last ≡ chain.last) × ((rest : List ℕ) × (more.rest ≡ chain.rest ++ rest)))
      ⊎ (is_transport chain.last ≡ false)

begun_more : (version : IpVersion) (number : ℕ) (bytes more : List ℕ) (chain other : ExtensionChain)
    (error : HeaderSliceError) → AreBytes (bytes ++ more) → IsLaxChain version number bytes chain (Some error)
    → Begins version [] 0 number (bytes ++ more) other.parts → MoreChain chain other
begun_more version number bytes more chain other error fits is present =
    let begins = refused_more version [] 0 0 number bytes more chain.parts other.parts error fits is.0 present in
    record {
      further = begins.0;
      begins = begins.1;
      end = inr (ap is_transport (last_is number bytes chain.parts chain.last chain.rest is.1)
          ∙ refused_no_transport version [] 0 number bytes chain.parts error is.0);
    }

pub lax_chain_more : (version : IpVersion) (number : ℕ) (bytes more : List ℕ) (chain other : ExtensionChain)
    (stop other_stop : Option HeaderSliceError) → AreBytes (bytes ++ more)
    → IsLaxChain version number bytes chain stop → IsLaxChain version number (bytes ++ more) other other_stop
    → MoreChain chain other
lax_chain_more version number bytes more chain other None None fits is present =
    let law = after_decided header_laws (length (bytes ++ more) + 1) version slices [] 0 number (bytes ++ more)
    (omega arith) fits in
    let equal : other ≡ chain_of chain.parts chain.last (chain.rest ++ more) =
    law.one_value other (chain_of chain.parts chain.last (chain.rest ++ more)) present
    (chain_more version [] number bytes more chain.parts chain.last chain.rest is) in
    record {
      further = [];
      begins = ap (λ (c : ExtensionChain). c.parts) equal ∙ sym (append-nil chain.parts);
      end = inl (
        refl,
        ap (λ (c : ExtensionChain). c.last) equal,
        (more, ap (λ (c : ExtensionChain). c.rest) equal),
      );
    }
lax_chain_more version number bytes more chain other None (Some error) fits is present =
    let law = after_decided header_laws (length (bytes ++ more) + 1) version slices [] 0 number (bytes ++ more)
    (omega arith) fits in
    absurd (law.not_both (chain_of chain.parts chain.last (chain.rest ++ more)) error
    (chain_more version [] number bytes more chain.parts chain.last chain.rest is) (other.parts, present.0))
lax_chain_more version number bytes more chain other (Some error) None fits is present =
    begun_more version number bytes more chain other error fits is (inl (other, refl, present))
lax_chain_more version number bytes more chain other (Some error) (Some refused) fits is present =
    begun_more version number bytes more chain other error fits is (inr (refused, present.0))

-- The extension headers and the payload of an IP packet.
pub parts_of_chain : (chain other : ExtensionChain) (fragmented again : Bool) (source end : LenSource)
    → MoreChain chain other
    → MoreParts chain.parts
    (record { number = chain.last; fragmented = fragmented; source = source; bytes = chain.rest }) other.parts
    (record { number = other.last; fragmented = again; source = end; bytes = other.rest })
parts_of_chain chain other fragmented again source end more = record {
  further = more.further;
  begins = more.begins;
  end = elim more.end [
    | inl all ↦ inl (all.0, record { number = all.1; rest = all.2.0; bytes = all.2.1 })
    | inr none ↦ inr none
  ];
}
