-- State while a chain is parsed: the first headers, and how a chain or an error after them extends to all bytes.
use Rattle.std.proofs.Common.{◌≡◌, ℕ, ◌+◌, ◌-◌, ◌≤◌, ◌<◌, ◌==◌, Bool, true, false, ◌||◌, List, [], ◌∷◌, ◌++◌, length, take, refl, sym, ap, subst, ◌∙◌, inl, inr, arith, append_assoc, length-append}
use Rattle.std.proofs.lemmas.Grind.{common_steps}
use Rattle.std.proofs.lemmas.Bool.{eq-eqb, ne_eqb}
use Rattle.std.proofs.lemmas.List.{append-nil, take_at}
use Rattle.ep_ext.specs.ShownChains.{shown_parts}
use Rattle.ep_ext.proofs.ShownLemmas.{prefix_shown}
use Rattle.ep_base.specs.Readings.{Reading, slices}
use Rattle.ep_base.specs.declared.err.ipv6_exts.HeaderError.TheVariants as content
use Rattle.ep_base.specs.declared.err.ipv6_exts.HeaderSliceError.{HeaderSliceError}
use Rattle.ep_base.specs.declared.err.ipv6_exts.HeaderSliceError.TheVariants as header_error
use Rattle.ep_ext.specs.ExtensionParts.{ExtensionPart, part_next, part_len, part_fragments, IsExtensionPart, RefusesExtensionPart}
use Rattle.ep_ext.specs.Chains.{IpVersion, ipv6, chain_of, ends, takes, misplaced, demand_of, is_first, is_ipv6_extension, chain_fragments, IsChainAfter, IsExtensionChain, RefusesChainAfter, RefusesExtensionChain, with_offset_in}
use Rattle.ep_ext.proofs.PartLemmas.{part_cut}

-- The headers parsed so far, which are followed by the rest, with this IP number.
pub record IsRead (version : IpVersion) (reading : Reading) (first : ℕ) (bytes : List ℕ) (taken : List ℕ)
    (parts : List ExtensionPart) (number : ℕ) (rest : List ℕ) : Type 0 where
  pub prefix : List ℕ
  pub split : bytes ≡ prefix ++ rest
  pub start : is_first taken ≡ (length prefix == 0)
  pub chain : (more : List ExtensionPart) (last : ℕ) (following : List ℕ)
      → IsChainAfter version reading taken number rest more last following
      → IsExtensionChain version reading first bytes (chain_of (parts ++ more) last following)
  pub refused : (more : List ExtensionPart) (error : HeaderSliceError)
      → RefusesChainAfter version reading taken (length prefix) number rest more error
      → RefusesExtensionChain version reading first bytes error

-- Initially, no header is parsed.
pub read_nothing : (version : IpVersion) (reading : Reading) (first : ℕ) (bytes : List ℕ)
    → IsRead version reading first bytes [] [] first bytes
read_nothing version reading first bytes = record {
  prefix = [];
  split = refl;
  start = refl;
  chain = λ more last following is. is;
  refused = λ more error refused. (more, refused);
}

-- The state after one more header is parsed.
pub read_part : (version : IpVersion) (reading : Reading) (first : ℕ) (bytes : List ℕ) (taken : List ℕ)
    (parts : List ExtensionPart) (number : ℕ) (rest : List ℕ)
    (part : ExtensionPart) (following : List ℕ) → IsRead version reading first bytes taken parts number rest
    → demand_of version reading taken number ≡ takes → IsExtensionPart number rest part following
    → IsRead version reading first bytes (number ∷ taken) (parts ++ part ∷ []) (part_next part) following
read_part version reading first bytes taken parts number rest part following read demand is =
    let cut = part_cut number rest part following is in
    let len : length (read.prefix ++ cut.prefix) ≡ length read.prefix + part_len part = omega
    (arith, length-append read.prefix cut.prefix, cut.len_is) in
    record {
      prefix = read.prefix ++ cut.prefix;
      split = read.split ∙ ap (λ (s : List ℕ). read.prefix ++ s) cut.parts
          ∙ sym (append_assoc read.prefix cut.prefix following);
      start = not_start (length (read.prefix ++ cut.prefix)) (omega (arith, len, cut.least));
      chain = λ more last after more_is. subst (λ
          (all : List ExtensionPart). IsExtensionChain version reading first bytes (chain_of all last after))
          (sym (append_assoc parts (part ∷ []) more)) (read.chain (part ∷ more) last after (
            demand,
            (following, is, more_is),
          ));
      refused = λ more error refused. read.refused (part ∷ more) error (
        demand,
        (
          following,
          is,
          subst (λ (n : ℕ). RefusesChainAfter version reading (number ∷ taken) n
              (part_next part) following more error) len refused,
        ),
      );
    }
  where
    not_start : (n : ℕ) → 0 < n → false ≡ (n == 0)
    not_start n some = grind (arith, common_steps)

-- If the chain ends at this IP number, the bytes are a chain.
pub read_all : (version : IpVersion) (reading : Reading) (first : ℕ) (bytes : List ℕ) (taken : List ℕ)
    (parts : List ExtensionPart) (number : ℕ) (rest : List ℕ)
    → IsRead version reading first bytes taken parts number rest → demand_of version reading taken number ≡ ends
    → IsExtensionChain version reading first bytes (chain_of parts number rest)
read_all version reading first bytes taken parts number rest read end =
    subst (λ (all : List ExtensionPart). IsExtensionChain version reading first bytes (chain_of all number rest))
    (append-nil parts)
    (read.chain [] number rest (end, refl, refl))

-- If the next header is rejected, the bytes are rejected.
pub read_refused : (version : IpVersion) (reading : Reading) (first : ℕ) (bytes : List ℕ) (taken : List ℕ)
    (parts : List ExtensionPart) (number : ℕ) (rest : List ℕ) (error : HeaderSliceError)
    → (read : IsRead version reading first bytes taken parts number rest)
    → demand_of version reading taken number ≡ takes
    → RefusesExtensionPart number rest error → RefusesExtensionChain version reading first bytes (with_offset_in
    (length read.prefix) error)
read_refused version reading first bytes taken parts number rest error read demand refused =
    read.refused [] (with_offset_in (length read.prefix) error) (inr (demand, (error, refused, refl)))

-- If the next header is misplaced Hop-by-Hop options, the bytes are rejected.
pub read_misplaced : (version : IpVersion) (reading : Reading) (first : ℕ) (bytes : List ℕ) (taken : List ℕ)
    (parts : List ExtensionPart) (number : ℕ) (rest : List ℕ)
    → IsRead version reading first bytes taken parts number rest → demand_of version reading taken number ≡ misplaced
    → RefusesExtensionChain version reading first bytes (header_error.Content content.HopByHopNotAtStart)
read_misplaced version reading first bytes taken parts number rest read wrong =
    read.refused [] (header_error.Content content.HopByHopNotAtStart) (inl (wrong, refl))

-- The length of the bytes read so far.
pub start_len : (bytes prefix rest : List ℕ) → bytes ≡ prefix ++ rest → length prefix ≡ length bytes - length rest
start_len bytes prefix rest split = omega (arith, ap length split, length-append prefix rest)

-- ---- demands of IP numbers, read as slices

pub slices_take : (taken : List ℕ) (number : ℕ) → is_ipv6_extension number ≡ true → (number ≡ 0
    → is_first taken ≡ true) → demand_of ipv6 slices taken number ≡ takes
slices_take taken number kind start = grind (arith, common_steps)

pub slices_end : (taken : List ℕ) (number : ℕ) → is_ipv6_extension number ≡ false
    → demand_of ipv6 slices taken number ≡ ends
slices_end taken number none = grind (arith, common_steps)

pub misplaced_0 : (reading : Reading) (taken : List ℕ) (number : ℕ) → number ≡ 0 → is_first taken ≡ false
    → demand_of ipv6 reading taken number ≡ misplaced
misplaced_0 reading taken number is start = grind (arith, common_steps)

-- Adding a header to a list adds its fragment state.
pub fragments_more : (parts : List ExtensionPart) (part : ExtensionPart)
    → chain_fragments (parts ++ part ∷ []) ≡ (chain_fragments parts || part_fragments part)
fragments_more [] part = grind (arith, common_steps)
fragments_more (other ∷ parts) part = grind (arith, common_steps, fragments_more parts part)

-- State of the loop over slices: the headers parsed so far, and whether a fragment header among them states a fragment.
pub record SlicesRead (first : ℕ) (bytes : List ℕ) (number : ℕ) (rest : List ℕ) (fragmented : Bool) : Type 0 where
  pub taken : List ℕ
  pub parts : List ExtensionPart
  pub read : IsRead ipv6 slices first bytes taken parts number rest
  pub fragments : fragmented ≡ chain_fragments parts

-- ---- position in the bytes

-- If no byte is before the rest, no header has been visited.
pub at_start : (version : IpVersion) (reading : Reading) (first : ℕ) (bytes : List ℕ) (taken : List ℕ)
    (parts : List ExtensionPart) (number : ℕ) (rest : List ℕ)
    → IsRead version reading first bytes taken parts number rest → length bytes - length rest ≤ 0
    → is_first taken ≡ true
at_start version reading first bytes taken parts number rest read none =
    read.start ∙ eq-eqb (length read.prefix) 0 (omega (arith, start_len bytes read.prefix rest read.split))

-- If bytes are before the rest, a header has been visited.
pub past_start : (version : IpVersion) (reading : Reading) (first : ℕ) (bytes : List ℕ) (taken : List ℕ)
    (parts : List ExtensionPart) (number : ℕ) (rest : List ℕ)
    → IsRead version reading first bytes taken parts number rest → 0 < length bytes - length rest
    → is_first taken ≡ false
past_start version reading first bytes taken parts number rest read some =
    read.start ∙ ne_eqb (length read.prefix) 0 (λ none. omega (arith, start_len bytes read.prefix rest read.split))

-- The state is preserved if the IP number and the rest are replaced by equal ones.
pub read_as : (version : IpVersion) (reading : Reading) (first : ℕ) (bytes : List ℕ) (taken : List ℕ)
    (parts : List ExtensionPart) (number other : ℕ) (rest after : List ℕ)
    → IsRead version reading first bytes taken parts number rest → other ≡ number → after ≡ rest
    → IsRead version reading first bytes taken parts other after
read_as version reading first bytes taken parts number other rest after read same_number same_rest =
    subst (λ (r : List ℕ). IsRead version reading first bytes taken parts other r) (sym same_rest)
    (subst (λ (n : ℕ). IsRead version reading first bytes taken parts n rest) (sym same_number) read)

-- The bytes before the rest are those parsed so far.
pub read_prefix : (version : IpVersion) (reading : Reading) (first : ℕ) (bytes : List ℕ) (taken : List ℕ)
    (parts : List ExtensionPart) (number : ℕ) (rest : List ℕ)
    → (read : IsRead version reading first bytes taken parts number rest)
    → take (length bytes - length rest) bytes ≡ read.prefix
read_prefix version reading first bytes taken parts number rest read =
    ap (take (length bytes - length rest)) read.split
    ∙ take_at read.prefix rest (length bytes - length rest) (start_len bytes read.prefix rest read.split)

-- The state after one more slice.
pub slice_more : (first : ℕ) (bytes : List ℕ) (number : ℕ) (rest : List ℕ) (fragmented : Bool) (part : ExtensionPart)
    (following : List ℕ) (next : ℕ) (after : List ℕ) (fragments : Bool)
    → (read : SlicesRead first bytes number rest fragmented) → is_ipv6_extension number ≡ true → (number ≡ 0
    → length bytes - length rest ≤ 0) → IsExtensionPart number rest part following
    → next ≡ part_next part → after ≡ following → fragments ≡ (fragmented || part_fragments part)
    → SlicesRead first bytes next after fragments
slice_more first bytes number rest fragmented part following next after fragments read kind start is next_is after_is
    fragments_is = record {
      taken = number ∷ read.taken;
      parts = read.parts ++ part ∷ [];
      read = read_as ipv6 slices first bytes (number ∷ read.taken) (read.parts ++ part ∷ [])
          (part_next part) next following after
          (read_part ipv6 slices first bytes read.taken read.parts number rest part following read.read
          (slices_take read.taken number kind (λ zero_is. at_start ipv6 slices first bytes read.taken read.parts number
          rest read.read (start zero_is))) is)
          next_is after_is;
      fragments = fragments_is ∙ ap (λ (b : Bool). b || part_fragments part) read.fragments
          ∙ sym (fragments_more read.parts part);
    }

-- If the next slice is rejected, the chain is rejected.
pub slice_refused : (first : ℕ) (bytes : List ℕ) (number : ℕ) (rest : List ℕ) (fragmented : Bool)
    (error shown : HeaderSliceError)
    → SlicesRead first bytes number rest fragmented → is_ipv6_extension number ≡ true → (number ≡ 0
    → length bytes - length rest ≤ 0) → RefusesExtensionPart number rest error
    → shown ≡ with_offset_in (length bytes - length rest) error → RefusesExtensionChain ipv6 slices first bytes shown
slice_refused first bytes number rest fragmented error shown read kind start refused same =
    subst (RefusesExtensionChain ipv6 slices first bytes) (ap (λ (n : ℕ). with_offset_in n error)
    (start_len bytes read.read.prefix rest read.read.split) ∙ sym same)
    (read_refused ipv6 slices first bytes read.taken read.parts number rest error read.read
    (slices_take read.taken number kind (λ zero_is. at_start ipv6 slices first bytes read.taken read.parts number rest
    read.read (start zero_is))) refused)

-- Hop-by-Hop options that are not first are rejected.
pub slice_misplaced : (first : ℕ) (bytes : List ℕ) (number : ℕ) (rest : List ℕ) (fragmented : Bool)
    → SlicesRead first bytes number rest fragmented → number ≡ 0 → 0 < length bytes - length rest
    → RefusesExtensionChain ipv6 slices first bytes (header_error.Content content.HopByHopNotAtStart)
slice_misplaced first bytes number rest fragmented read zero_is some =
    read_misplaced ipv6 slices first bytes read.taken read.parts number rest read.read
    (misplaced_0 slices read.taken number zero_is
    (past_start ipv6 slices first bytes read.taken read.parts number rest read.read some))

-- The parsed slices: the chain, the bytes of the headers and the rest.
pub record AllSlices (first : ℕ) (bytes : List ℕ) (number : ℕ) (rest prefix : List ℕ) (fragmented : Bool) : Type 0 where
  pub split : bytes ≡ prefix ++ rest
  pub chain : IsExtensionChain ipv6 slices first bytes (chain_of (shown_parts first prefix) number rest)
  pub fragments : fragmented ≡ chain_fragments (shown_parts first prefix)

pub all_slices : (first : ℕ) (bytes : List ℕ) (number : ℕ) (rest : List ℕ) (fragmented : Bool)
    → SlicesRead first bytes number rest fragmented → is_ipv6_extension number ≡ false
    → AllSlices first bytes number rest (take (length bytes - length rest) bytes) fragmented
all_slices first bytes number rest fragmented read none =
    let prefix_is = read_prefix ipv6 slices first bytes read.taken read.parts number rest read.read in
    let chain = read_all ipv6 slices first bytes read.taken read.parts number rest read.read
    (slices_end read.taken number none) in
    let shown = ap (shown_parts first) prefix_is
    ∙ prefix_shown first bytes read.read.prefix read.parts number rest chain read.read.split in
    record {
      split = read.read.split ∙ ap (λ (s : List ℕ). s ++ rest) (sym prefix_is);
      chain = subst (λ (all : List ExtensionPart). IsExtensionChain ipv6 slices first bytes
          (chain_of all number rest)) (sym shown) chain;
      fragments = read.fragments ∙ ap chain_fragments (sym shown);
    }
