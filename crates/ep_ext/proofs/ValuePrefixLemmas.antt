-- Owned extension headers of IPv6 parsed up to the first invalid header: how they are parsed, and the result.
use Rattle.std.proofs.Common.{◌≡◌, ℕ, ◌-◌, ◌≤◌, ◌<◌, Bool, true, false, List, [], ◌∷◌, length, Option, Some, None, refl, sym, ap, subst, ◌∙◌, inl, inr}
use Rattle.std.proofs.lemmas.List.{append-nil}
use Rattle.std.specs.Option.{option_map}
use Rattle.ep_base.specs.Bytes.{AreBytes}
use Rattle.ep_base.specs.Readings.{headers}
use Rattle.ep_base.specs.declared.err.ipv6_exts.HeaderError.TheVariants as content
use Rattle.ep_base.specs.declared.err.ipv6_exts.HeaderSliceError.{HeaderSliceError}
use Rattle.ep_base.specs.declared.err.ipv6_exts.HeaderSliceError.TheVariants as header_error
use Rattle.ep_base.specs.declared.err.layer.Layer.{Layer}
use Rattle.ep_ext.specs.declared.ipv6_exts.Ipv6Extensions.{Ipv6Extensions}
use Rattle.ep_ext.specs.ExtensionParts.{ExtensionPart, part_next, IsExtensionPart, RefusesExtensionPart}
use Rattle.ep_ext.specs.Chains.{ipv6, ExtensionChain, chain_of, ends, is_first, is_ipv6_extension, demand_of, IsChainAfter, RefusesChainAfter, with_offset_in}
use Rattle.ep_ext.specs.ChainPrefixes.{BeginWithParts, IsLaxChainIn, chain_stop}
use Rattle.ep_ext.specs.Ipv6Chains.{no_ipv6_extensions, extensions_of, with_part, has_kind}
use Rattle.ep_ext.proofs.PrefixLemmas.{PrefixRead, prefix_nothing, prefix_part, prefix_past, prefix_start, one_lax_chain}
use Rattle.ep_ext.proofs.PartLemmas.{part_numbered}
use Rattle.ep_ext.proofs.ReadLemmas.{start_len, misplaced_0}
use Rattle.ep_ext.proofs.ValueLemmas.{HasTaken, none_taken, taken_more, with_parts-append, headers_take, headers_end, headers_end_taken}

-- State of the loop: the headers parsed so far are those of the value.
pub record ValueRead (first : ℕ) (bytes : List ℕ) (number : ℕ) (rest : List ℕ)
    (extensions : Ipv6Extensions) : Type 0 where
  pub fragmented : Bool
  pub prefix : PrefixRead headers first bytes number rest fragmented
  pub value : extensions ≡ extensions_of prefix.parts
  pub has : HasTaken prefix.taken extensions

pub value_nothing : (first : ℕ) (bytes : List ℕ) (extensions : Ipv6Extensions) → extensions ≡ no_ipv6_extensions
    → ValueRead first bytes first bytes extensions
unfolding prefix_nothing
value_nothing first bytes extensions none = record {
  fragmented = false;
  prefix = prefix_nothing headers first bytes;
  value = none;
  has = subst (HasTaken []) (sym none) none_taken;
}

-- Hop-by-Hop options are first if no byte is before them.
value_start : (first : ℕ) (bytes : List ℕ) (number : ℕ) (rest : List ℕ) (extensions : Ipv6Extensions)
    → (read : ValueRead first bytes number rest extensions) → (number ≡ 0 → length bytes - length rest ≤ 0)
    → number ≡ 0 → is_first read.prefix.taken ≡ true
value_start first bytes number rest extensions read start zero_is =
    prefix_start headers first bytes number rest read.fragmented read.prefix (start zero_is)

-- The state after one more header is parsed.
pub value_more : (first : ℕ) (bytes : List ℕ) (number : ℕ) (rest : List ℕ) (extensions : Ipv6Extensions)
    (part : ExtensionPart) (following : List ℕ) (next : ℕ) (after : Ipv6Extensions)
    → ValueRead first bytes number rest extensions → is_ipv6_extension number ≡ true
    → (number ≡ 0 → length bytes - length rest ≤ 0) → has_kind extensions number ≡ false
    → IsExtensionPart number rest part following → next ≡ part_next part → after ≡ with_part extensions part
    → ValueRead first bytes next following after
unfolding prefix_part
value_more first bytes number rest extensions part following next after read kind start none is next_is after_is =
    let numbered = part_numbered number rest part following is in
    let demand = headers_take read.prefix.taken number kind (value_start first bytes number rest extensions read start)
    (read.has number ∙ none) in
    subst (λ (n : ℕ). ValueRead first bytes n following after) (sym next_is) (record {
      fragmented = _;
      prefix = prefix_part headers first bytes number rest read.fragmented part following read.prefix demand is;
      value = after_is ∙ ap (λ (e : Ipv6Extensions). with_part e part) read.value
          ∙ sym (with_parts-append no_ipv6_extensions read.prefix.parts part);
      has = subst (HasTaken (number ∷ read.prefix.taken)) (sym after_is)
          (subst (λ (n : ℕ). HasTaken (n ∷ read.prefix.taken) (with_part extensions part)) (sym numbered)
          (taken_more read.prefix.taken extensions part read.has));
    })

-- The value of the headers up to the first invalid one, and the error and layer of that one.
abbrev pub IsLaxValueOf : ℕ → List ℕ → ℕ → List ℕ → Ipv6Extensions → Option (HeaderSliceError × Layer) → Type 0
IsLaxValueOf first bytes number rest extensions reported =
    (parts : List ExtensionPart) × (stop : Option HeaderSliceError) × (extensions ≡ extensions_of parts)
    × (reported ≡ option_map chain_stop stop) × IsLaxChainIn ipv6 headers first bytes (chain_of parts number rest) stop

-- The chain ends at this IP number.
value_complete : (first : ℕ) (bytes : List ℕ) (number : ℕ) (rest : List ℕ) (extensions : Ipv6Extensions)
    → (read : ValueRead first bytes number rest extensions)
    → demand_of ipv6 headers read.prefix.taken number ≡ ends → IsLaxValueOf first bytes number rest extensions None
value_complete first bytes number rest extensions read end = (
  read.prefix.parts,
  None,
  read.value,
  refl,
  subst (λ (all : List ExtensionPart). IsChainAfter ipv6 headers [] first bytes all number rest)
      (append-nil read.prefix.parts) (read.prefix.chain [] number rest (end, refl, refl)),
)

-- Parsing ends without error at a number that is not that of an extension header.
pub value_ends : (first : ℕ) (bytes : List ℕ) (number : ℕ) (rest : List ℕ) (extensions : Ipv6Extensions)
    → ValueRead first bytes number rest extensions → is_ipv6_extension number ≡ false
    → IsLaxValueOf first bytes number rest extensions None
value_ends first bytes number rest extensions read none =
    value_complete first bytes number rest extensions read (headers_end read.prefix.taken number none)

-- Parsing ends without error before a second header of a kind.
pub value_second : (first : ℕ) (bytes : List ℕ) (number : ℕ) (rest : List ℕ) (extensions : Ipv6Extensions)
    → ValueRead first bytes number rest extensions → is_ipv6_extension number ≡ true
    → (number ≡ 0 → length bytes - length rest ≤ 0) → has_kind extensions number ≡ true
    → IsLaxValueOf first bytes number rest extensions None
value_second first bytes number rest extensions read kind start present =
    value_complete first bytes number rest extensions read
    (headers_end_taken read.prefix.taken number (value_start first bytes number rest extensions read start) kind
    (read.has number ∙ present))

-- Parsing stops at a rejected header.
value_stopped : (first : ℕ) (bytes : List ℕ) (number : ℕ) (rest : List ℕ) (extensions : Ipv6Extensions)
    (error : HeaderSliceError) → (read : ValueRead first bytes number rest extensions)
    → RefusesChainAfter ipv6 headers read.prefix.taken (length read.prefix.prefix) number rest [] error
    → IsLaxValueOf first bytes number rest extensions (Some (chain_stop error))
value_stopped first bytes number rest extensions error read refused = (
  read.prefix.parts,
  Some error,
  read.value,
  refl,
  (
    subst (λ (all : List ExtensionPart). RefusesChainAfter ipv6 headers [] 0 first bytes all error)
        (append-nil read.prefix.parts) (read.prefix.refused [] error refused),
    subst (λ (all : List ExtensionPart). BeginWithParts first bytes all number rest) (append-nil read.prefix.parts)
        (read.prefix.stand [] number rest (refl, refl)),
  ),
)

-- Parsing stops if the next header is rejected.
pub value_refused : (first : ℕ) (bytes : List ℕ) (number : ℕ) (rest : List ℕ) (extensions : Ipv6Extensions)
    (error shown : HeaderSliceError) (reported : HeaderSliceError × Layer)
    → ValueRead first bytes number rest extensions → is_ipv6_extension number ≡ true
    → (number ≡ 0 → length bytes - length rest ≤ 0) → has_kind extensions number ≡ false
    → RefusesExtensionPart number rest error → shown ≡ with_offset_in (length bytes - length rest) error
    → reported ≡ chain_stop shown → IsLaxValueOf first bytes number rest extensions (Some reported)
value_refused first bytes number rest extensions error shown reported read kind start none refused same reported_is =
    let here = ap (λ (n : ℕ). with_offset_in n error) (start_len bytes read.prefix.prefix rest read.prefix.split)
    ∙ sym same in
    let demand = headers_take read.prefix.taken number kind (value_start first bytes number rest extensions read start)
    (read.has number ∙ none) in
    subst (λ (t : HeaderSliceError × Layer). IsLaxValueOf first bytes number rest extensions (Some t)) (sym reported_is)
    (value_stopped first bytes number rest extensions shown read (inr (demand, (error, refused, sym here))))

-- Parsing stops at Hop-by-Hop options that are not first.
pub value_misplaced : (first : ℕ) (bytes : List ℕ) (number : ℕ) (rest : List ℕ) (extensions : Ipv6Extensions)
    → ValueRead first bytes number rest extensions → number ≡ 0 → 0 < length bytes - length rest
    → IsLaxValueOf first bytes number rest extensions
    (Some (chain_stop (header_error.Content content.HopByHopNotAtStart)))
value_misplaced first bytes number rest extensions read zero_is some =
    value_stopped first bytes number rest extensions (header_error.Content content.HopByHopNotAtStart) read
    (inl (
      misplaced_0 headers read.prefix.taken number zero_is
          (prefix_past headers first bytes number rest read.fragmented read.prefix some),
      refl,
    ))

-- The value has the headers of each result of lax parsing, which is unique.
pub one_lax_value : (first : ℕ) (bytes : List ℕ) → AreBytes bytes → (number : ℕ) (rest : List ℕ)
    (extensions : Ipv6Extensions) (reported : Option (HeaderSliceError × Layer))
    → IsLaxValueOf first bytes number rest extensions reported
    → (chain : ExtensionChain) (stop : Option HeaderSliceError) → IsLaxChainIn ipv6 headers first bytes chain stop
    → (extensions ≡ extensions_of chain.parts) × (number ≡ chain.last) × (rest ≡ chain.rest)
    × (reported ≡ option_map chain_stop stop)
one_lax_value first bytes fits number rest extensions reported found chain stop is =
    let same = one_lax_chain ipv6 headers first bytes fits (chain_of found.0 number rest) chain found.1 stop found.4 is
    in (
      found.2 ∙ (λ i. extensions_of (same.0 i).parts),
      (λ i. (same.0 i).last),
      (λ i. (same.0 i).rest),
      found.3 ∙ ap (option_map chain_stop) same.1,
    )
