-- Chains read up to the first invalid header: how they are read, and that the result is unique.
use Rattle.std.proofs.Common.{◌≡◌, ℕ, ◌+◌, ◌-◌, ◌≤◌, ◌<◌, ◌==◌, Bool, true, false, ◌||◌, List, [], ◌∷◌, ◌++◌, length, take, Option, Some, None, refl, sym, ap, subst, ◌∙◌, inl, inr, arith, append_assoc, length-append}
use Rattle.std.proofs.lemmas.Bool.{eq-eqb, ne_eqb}
use Rattle.std.proofs.lemmas.List.{append-nil, take_at}
use Rattle.std.specs.Option.{option_map}
use Rattle.ep_base.specs.Bytes.{AreBytes}
use Rattle.ep_base.specs.Readings.{Reading, slices}
use Rattle.ep_base.specs.Tables.{IsOne}
use Rattle.ep_base.proofs.TableLemmas.{first_row-as_some}
use Rattle.ep_base.specs.declared.err.ip_auth.HeaderSliceError.{HeaderSliceError as AuthSliceError}
use Rattle.ep_base.specs.declared.err.ip_auth.HeaderSliceError.TheVariants as auth_error
use Rattle.ep_base.specs.declared.err.ipv6_exts.HeaderError.TheVariants as content
use Rattle.ep_base.specs.declared.err.ipv6_exts.HeaderSliceError.{HeaderSliceError}
use Rattle.ep_base.specs.declared.err.ipv6_exts.HeaderSliceError.TheVariants as header_error
use Rattle.ep_ext.specs.IpAuth.{RefusesIpAuth, ip_auth_rows}
use Rattle.ep_ext.specs.ExtensionParts.{ExtensionPart, auth_refusal, part_next, part_len, part_fragments, IsExtensionPart, RefusesExtensionPart}
use Rattle.ep_ext.specs.Chains.{IpVersion, ipv4, ipv6, ExtensionChain, chain_of, chain_fragments, takes, demand_of, is_first, is_ipv6_extension, IsChainAfter, RefusesChainAfter, with_offset_in}
use Rattle.ep_ext.specs.ChainPrefixes.{BeginWithParts, IsLaxChain, IsLaxChainIn}
use Rattle.ep_ext.specs.ShownChains.{shown_parts}
use Rattle.ep_ext.proofs.ChainLemmas.{chain_decided, further_zero, taken_is_kind}
use Rattle.ep_ext.proofs.HeaderLawLemmas.{header_laws}
use Rattle.ep_ext.proofs.PartLemmas.{ReadPart, part_after_fits, part_cut, part_decided}
use Rattle.ep_ext.proofs.ReadLemmas.{fragments_more, start_len, misplaced_0, slices_end, slices_take}
use Rattle.ep_ext.proofs.ShownLemmas.{no_bytes, part_moved, shown_next, shown_none}

-- ---- the result is unique

-- Two errors of the same bytes are those of the same header, and the headers and bytes around it are equal.
one_prefix : (version : IpVersion) (reading : Reading) (taken : List ℕ) (offset number : ℕ) (bytes : List ℕ) → AreBytes bytes
    → (parts others : List ExtensionPart) (error other : HeaderSliceError) (last end : ℕ) (rest after : List ℕ)
    → RefusesChainAfter version reading taken offset number bytes parts error → BeginWithParts number bytes parts last rest
    → RefusesChainAfter version reading taken offset number bytes others other → BeginWithParts number bytes others end after
    → chain_of parts last rest ≡ chain_of others end after
one_prefix version reading taken offset number bytes fits [] [] error other last end rest after a prefix b following =
    λ i. chain_of [] ((prefix.0 ∙ sym following.0) i) ((prefix.1 ∙ sym following.1) i)
one_prefix version reading taken offset number bytes fits [] (part ∷ others) error other last end rest after (inl a) prefix b
    following =
    absurd (let one = sym a.0 ∙ b.0 in cc)
one_prefix version reading taken offset number bytes fits [] (part ∷ others) error other last end rest after (inr a) prefix b
    following =
    absurd ((part_decided header_laws number bytes fits (taken_is_kind version reading taken number a.0)).not_both
    (part, b.1.0) a.1.0 b.1.1 a.1.1)
one_prefix version reading taken offset number bytes fits (part ∷ parts) [] error other last end rest after a prefix (inl b)
    following =
    absurd (let one = sym b.0 ∙ a.0 in cc)
one_prefix version reading taken offset number bytes fits (part ∷ parts) [] error other last end rest after a prefix (inr b)
    following =
    absurd ((part_decided header_laws number bytes fits (taken_is_kind version reading taken number a.0)).not_both
    (part, a.1.0) b.1.0 a.1.1 b.1.1)
one_prefix version reading taken offset number bytes fits (part ∷ parts) (second ∷ others) error other last end rest after a
    prefix b following =
    let decided = part_decided header_laws number bytes fits (taken_is_kind version reading taken number a.0) in
    let here : ReadPart = (second, b.1.0) in
    let same = decided.one_value (part, a.1.0) here a.1.1 b.1.1 in
    let same_prefix = decided.one_value (part, prefix.0) here prefix.1 b.1.1 in
    let same_after = decided.one_value (second, following.0) here following.1 b.1.1 in
    let refused = subst (λ (r : ReadPart). RefusesChainAfter version reading (number ∷ taken) (offset + part_len r.0)
    (part_next r.0) r.1 parts error) same a.1.2 in
    let stand = subst (λ (r : ReadPart). BeginWithParts (part_next r.0) r.1 parts last rest) same_prefix prefix.2 in
    let others_stand =
    subst (λ (r : ReadPart). BeginWithParts (part_next r.0) r.1 others end after) same_after following.2 in
    let more = one_prefix version reading (number ∷ taken) (offset + part_len second) (part_next second) b.1.0
    (part_after_fits number bytes second b.1.0 b.1.1 fits) parts others error other last end rest after refused stand
    b.1.2 others_stand in
    λ i. chain_of ((same i).0 ∷ (more i).parts) (more i).last (more i).rest

-- For the headers before a rejected one there are a next IP number and remaining bytes.
prefix_present : (version : IpVersion) (reading : Reading) (taken : List ℕ) (offset number : ℕ) (bytes : List ℕ) (parts : List ExtensionPart)
    (error : HeaderSliceError) → RefusesChainAfter version reading taken offset number bytes parts error
    → (last : ℕ) × (rest : List ℕ) × BeginWithParts number bytes parts last rest
prefix_present version reading taken offset number bytes [] error refused = (number, bytes, (refl, refl))
prefix_present version reading taken offset number bytes (part ∷ parts) error refused =
    let more = prefix_present version reading (number ∷ taken) (offset + part_len part) (part_next part) refused.1.0 parts error
    refused.1.2 in
    (more.0, more.1, (refused.1.0, refused.1.1, more.2))

-- The result of lax parsing: a chain and the error, if any, that stopped it.
abbrev pub LaxChain : Type 0
LaxChain = ExtensionChain × Option HeaderSliceError

-- The bytes have this result of lax parsing, in the given reading.
abbrev pub HasPrefixIn : IpVersion → Reading → ℕ → List ℕ → LaxChain → Type 0
HasPrefixIn version reading number bytes prefix = IsLaxChainIn version reading number bytes prefix.0 prefix.1

-- The bytes have this result of lax parsing, in the reading as slices.
abbrev pub HasPrefix : IpVersion → ℕ → List ℕ → LaxChain → Type 0
HasPrefix version = HasPrefixIn version slices

-- The result of lax parsing is unique.
pub one_lax_chain : (version : IpVersion) (reading : Reading) (number : ℕ) (bytes : List ℕ) → AreBytes bytes
    → (chain other : ExtensionChain) (stop end : Option HeaderSliceError)
    → IsLaxChainIn version reading number bytes chain stop → IsLaxChainIn version reading number bytes other end
    → (chain ≡ other) × (stop ≡ end)
one_lax_chain version reading number bytes fits chain other None None a b =
    ((chain_decided header_laws version reading number bytes fits).one_value chain other a b, refl)
one_lax_chain version reading number bytes fits chain other None (Some error) a b =
    absurd ((chain_decided header_laws version reading number bytes fits).not_both chain error a (other.parts, b.0))
one_lax_chain version reading number bytes fits chain other (Some error) None a b =
    absurd ((chain_decided header_laws version reading number bytes fits).not_both other error b (chain.parts, a.0))
one_lax_chain version reading number bytes fits chain other (Some error) (Some refusal) a b = (
  one_prefix version reading [] 0 number bytes fits chain.parts other.parts error refusal chain.last other.last
      chain.rest other.rest a.0 a.1 b.0 b.1,
  ap Some ((chain_decided header_laws version reading number bytes fits).one_error error refusal (chain.parts, a.0)
      (other.parts, b.0)),
)

pub one_prefix_chain : (version : IpVersion) (number : ℕ) (bytes : List ℕ) → AreBytes bytes
    → (chain other : ExtensionChain) (stop end : Option HeaderSliceError) → IsLaxChain version number bytes chain stop
    → IsLaxChain version number bytes other end → (chain ≡ other) × (stop ≡ end)
one_prefix_chain version = one_lax_chain version slices

pub lax_chain_is_one : (version : IpVersion) (reading : Reading) (number : ℕ) (bytes : List ℕ) → AreBytes bytes
    → IsOne (HasPrefixIn version reading number bytes)
lax_chain_is_one version reading number bytes fits =
    elim (chain_decided header_laws version reading number bytes fits).some [
      | inl found ↦ record {
        value = (found.0, None);
        is = found.1;
        only = λ other is.
            let same = one_lax_chain version reading number bytes fits other.0 found.0 other.1 None is found.1 in
            λ i. (same.0 i, same.1 i);
      }
      | inr refused ↦
          let present = prefix_present version reading [] 0 number bytes refused.1.0 refused.0 refused.1.1 in
          let chain = chain_of refused.1.0 present.0 present.1 in
          let here : IsLaxChainIn version reading number bytes chain (Some refused.0) = (refused.1.1, present.2) in
          record {
            value = (chain, Some refused.0);
            is = here;
            only = λ other is.
                let same = one_lax_chain version reading number bytes fits other.0 chain other.1 (Some refused.0) is
                here in
                λ i. (same.0 i, same.1 i);
          }
    ]

pub prefix_is_one : (version : IpVersion) (number : ℕ) (bytes : List ℕ) → AreBytes bytes
    → IsOne (HasPrefix version number bytes)
prefix_is_one version = lax_chain_is_one version slices

-- ---- authentication header of IPv4

-- Lax parsing of IPv4 stops before a rejected authentication header.
pub auth_stops : (reading : Reading) (number : ℕ) (bytes : List ℕ) (error : AuthSliceError) → number ≡ 51
    → RefusesIpAuth bytes error
    → IsLaxChainIn ipv4 reading number bytes (chain_of [] number bytes) (Some (auth_refusal error))
auth_stops reading number bytes error is refused = (
  subst (λ (n : ℕ). RefusesChainAfter ipv4 reading [] 0 n bytes [] (auth_refusal error)) (sym is)
      (inr (
        refl,
        (
          auth_refusal error,
          first_row-as_some auth_refusal (ip_auth_rows bytes) error refused,
          further_zero (auth_refusal error),
        ),
      )),
  (refl, refl),
)

-- Errors of authentication headers that are equal as errors of extension headers are equal.
same_auth : (error other : AuthSliceError) → auth_refusal error ≡ auth_refusal other → error ≡ other
same_auth (auth_error.Len error) (auth_error.Len other) same = cc
same_auth (auth_error.Len error) (auth_error.Content other) same = cc
same_auth (auth_error.Content error) (auth_error.Len other) same = cc
same_auth (auth_error.Content error) (auth_error.Content other) same = cc

pub same_auth_stop : (stop other : Option AuthSliceError) → option_map auth_refusal stop ≡ option_map auth_refusal other
    → stop ≡ other
same_auth_stop None None same = refl
same_auth_stop None (Some other) same = cc
same_auth_stop (Some error) None same = cc
same_auth_stop (Some error) (Some other) same = ap Some (same_auth error other cc)

-- ---- state while a chain of IPv6 is parsed

-- The headers parsed so far, which are followed by the rest, with this IP number.
pub record PrefixRead (reading : Reading) (first : ℕ) (bytes : List ℕ) (number : ℕ) (rest : List ℕ)
    (fragmented : Bool) : Type 0 where
  pub taken : List ℕ
  pub parts : List ExtensionPart
  pub prefix : List ℕ
  pub split : bytes ≡ prefix ++ rest
  pub start : is_first taken ≡ (length prefix == 0)
  pub chain : (more : List ExtensionPart) (last : ℕ) (following : List ℕ)
      → IsChainAfter ipv6 reading taken number rest more last following
      → IsChainAfter ipv6 reading [] first bytes (parts ++ more) last following
  pub refused : (more : List ExtensionPart) (error : HeaderSliceError)
      → RefusesChainAfter ipv6 reading taken (length prefix) number rest more error
      → RefusesChainAfter ipv6 reading [] 0 first bytes (parts ++ more) error
  pub stand : (more : List ExtensionPart) (last : ℕ) (following : List ℕ) → BeginWithParts number rest more last following
      → BeginWithParts first bytes (parts ++ more) last following
  pub fragments : fragmented ≡ chain_fragments parts

-- Initially, no header is parsed.
unfoldable pub prefix_nothing : (reading : Reading) (first : ℕ) (bytes : List ℕ) → PrefixRead reading first bytes first bytes false
prefix_nothing reading first bytes = record {
  taken = [];
  parts = [];
  prefix = [];
  split = refl;
  start = refl;
  chain = λ more last following is. is;
  refused = λ more error refused. refused;
  stand = λ more last following is. is;
  fragments = refl;
}

-- If no byte is before the rest, no header has been visited.
pub prefix_start : (reading : Reading) (first : ℕ) (bytes : List ℕ) (number : ℕ) (rest : List ℕ) (fragmented : Bool)
    → (read : PrefixRead reading first bytes number rest fragmented) → length bytes - length rest ≤ 0
    → is_first read.taken ≡ true
prefix_start reading first bytes number rest fragmented read none =
    read.start ∙ eq-eqb (length read.prefix) 0 (omega (arith, start_len bytes read.prefix rest read.split))

pub prefix_past : (reading : Reading) (first : ℕ) (bytes : List ℕ) (number : ℕ) (rest : List ℕ) (fragmented : Bool)
    → (read : PrefixRead reading first bytes number rest fragmented) → 0 < length bytes - length rest
    → is_first read.taken ≡ false
prefix_past reading first bytes number rest fragmented read some =
    read.start ∙ ne_eqb (length read.prefix) 0 (λ none. omega (arith, start_len bytes read.prefix rest read.split))

-- The IP number is that of a header that parsing continues with.
prefix_takes : (first : ℕ) (bytes : List ℕ) (number : ℕ) (rest : List ℕ) (fragmented : Bool)
    → (read : PrefixRead slices first bytes number rest fragmented) → is_ipv6_extension number ≡ true
    → (number ≡ 0 → length bytes - length rest ≤ 0) → demand_of ipv6 slices read.taken number ≡ takes
prefix_takes first bytes number rest fragmented read kind start =
    slices_take read.taken number kind (λ zero_is. prefix_start slices first bytes number rest fragmented read (start zero_is))

-- The state after one more header is parsed.
unfoldable pub prefix_part : (reading : Reading) (first : ℕ) (bytes : List ℕ) (number : ℕ) (rest : List ℕ) (fragmented : Bool) (part : ExtensionPart)
    (following : List ℕ) → (read : PrefixRead reading first bytes number rest fragmented)
    → demand_of ipv6 reading read.taken number ≡ takes → IsExtensionPart number rest part following
    → PrefixRead reading first bytes (part_next part) following (fragmented || part_fragments part)
prefix_part reading first bytes number rest fragmented part following read demand is =
    let cut = part_cut number rest part following is in
    let prefix = read.prefix ++ cut.prefix in
    let len : length prefix ≡ length read.prefix + part_len part =
    omega (arith, length-append read.prefix cut.prefix, cut.len_is) in
    let joined : (more : List ExtensionPart) → read.parts ++ part ∷ more ≡ (read.parts ++ part ∷ []) ++ more =
    λ more. sym (append_assoc read.parts (part ∷ []) more) in
    record {
      taken = number ∷ read.taken;
      parts = read.parts ++ part ∷ [];
      prefix = prefix;
      split = read.split ∙ ap (λ (s : List ℕ). read.prefix ++ s) cut.parts
          ∙ sym (append_assoc read.prefix cut.prefix following);
      start = sym (ne_eqb (length prefix) 0 (λ none. omega (arith, len, cut.least)));
      chain = λ more last after more_is.
          subst (λ (all : List ExtensionPart). IsChainAfter ipv6 reading [] first bytes all last after) (joined more)
          (read.chain (part ∷ more) last after (demand, (following, is, more_is)));
      refused = λ more error refused.
          subst (λ (all : List ExtensionPart). RefusesChainAfter ipv6 reading [] 0 first bytes all error) (joined more)
          (read.refused (part ∷ more) error (
            demand,
            (
              following,
              is,
              subst (λ (n : ℕ). RefusesChainAfter ipv6 reading (number ∷ read.taken) n (part_next part) following more error)
                  len refused,
            ),
          ));
      stand = λ more last after more_is.
          subst (λ (all : List ExtensionPart). BeginWithParts first bytes all last after) (joined more)
          (read.stand (part ∷ more) last after (following, is, more_is));
      fragments = ap (λ (b : Bool). b || part_fragments part) read.fragments ∙ sym (fragments_more read.parts part);
    }

-- The state after one more header, stated with the contracts of the calls.
pub prefix_more : (first : ℕ) (bytes : List ℕ) (number : ℕ) (rest : List ℕ) (fragmented : Bool) (part : ExtensionPart)
    (following : List ℕ) (next : ℕ) (after : List ℕ) (fragments : Bool)
    → PrefixRead slices first bytes number rest fragmented → is_ipv6_extension number ≡ true
    → (number ≡ 0 → length bytes - length rest ≤ 0) → IsExtensionPart number rest part following
    → next ≡ part_next part → after ≡ following → fragments ≡ (fragmented || part_fragments part)
    → PrefixRead slices first bytes next after fragments
prefix_more first bytes number rest fragmented part following next after fragments read kind start is next_is after_is
    fragments_is =
    let demand = prefix_takes first bytes number rest fragmented read kind start in
    subst (λ (n : ℕ). PrefixRead slices first bytes n after fragments) (sym next_is)
    (subst (λ (r : List ℕ). PrefixRead slices first bytes (part_next part) r fragments) (sym after_is)
    (subst (λ (f : Bool). PrefixRead slices first bytes (part_next part) following f) (sym fragments_is)
    (prefix_part slices first bytes number rest fragmented part following read demand is)))

-- ---- end of parsing

-- The headers found in the bytes of headers do not depend on the bytes after them.
prefix_shows : (number : ℕ) (bytes : List ℕ) (parts : List ExtensionPart) (last : ℕ) (rest : List ℕ)
    → BeginWithParts number bytes parts last rest
    → (prefix : List ℕ) × (bytes ≡ prefix ++ rest) × (shown_parts number prefix ≡ parts)
prefix_shows number bytes [] last rest stand =
    ([], sym stand.1, shown_none number [] (no_bytes number [] (omega arith)))
prefix_shows number bytes (part ∷ parts) last rest stand =
    let more = prefix_shows (part_next part) stand.0 parts last rest stand.2 in
    let moved = part_moved number bytes part stand.0 more.0 stand.1 in (
      moved.0 ++ more.0,
      moved.1 ∙ ap (λ (s : List ℕ). moved.0 ++ s) more.1 ∙ sym (append_assoc moved.0 more.0 rest),
      shown_next number (moved.0 ++ more.0) part more.0 moved.2
          ∙ ap (λ (all : List ExtensionPart). part ∷ all) more.2,
    )

-- The headers found in the bytes before the rest are those parsed so far.
shown_before : (first : ℕ) (bytes : List ℕ) (number : ℕ) (rest : List ℕ) (fragmented : Bool)
    → (read : PrefixRead slices first bytes number rest fragmented)
    → shown_parts first (take (length bytes - length rest) bytes) ≡ read.parts
shown_before first bytes number rest fragmented read =
    let stand = subst (λ (all : List ExtensionPart). BeginWithParts first bytes all number rest) (append-nil read.parts)
    (read.stand [] number rest (refl, refl)) in
    let shows = prefix_shows first bytes read.parts number rest stand in
    let before : take (length bytes - length rest) bytes ≡ shows.0 =
    ap (take (length bytes - length rest)) shows.1
    ∙ take_at shows.0 rest (length bytes - length rest) (start_len bytes shows.0 rest shows.1) in
    ap (shown_parts first) before ∙ shows.2

-- The parsed headers and the error that stopped parsing.
pub record PrefixSlices (first : ℕ) (bytes : List ℕ) (number : ℕ) (rest : List ℕ) (fragmented : Bool)
    (stop : Option HeaderSliceError) : Type 0 where
  pub split : bytes ≡ take (length bytes - length rest) bytes ++ rest
  pub chain : IsLaxChain ipv6 first bytes
      (chain_of (shown_parts first (take (length bytes - length rest) bytes)) number rest) stop
  pub fragments : fragmented ≡ chain_fragments (shown_parts first (take (length bytes - length rest) bytes))

-- The bytes before the rest, followed by the rest, are all bytes.
prefix_split : (bytes prefix rest : List ℕ) → bytes ≡ prefix ++ rest
    → bytes ≡ take (length bytes - length rest) bytes ++ rest
prefix_split bytes prefix rest split =
    let n = length bytes - length rest in
    let same : take n bytes ≡ prefix =
    ap (take n) split ∙ take_at prefix rest n (start_len bytes prefix rest split) in
    split ∙ ap (λ (s : List ℕ). s ++ rest) (sym same)

-- The parsed headers can be replaced by the headers found in the bytes.
prefix_as_shown : (first : ℕ) (bytes : List ℕ) (number : ℕ) (rest : List ℕ) (fragmented : Bool)
    (stop : Option HeaderSliceError) → (read : PrefixRead slices first bytes number rest fragmented)
    → IsLaxChain ipv6 first bytes (chain_of read.parts number rest) stop
    → PrefixSlices first bytes number rest fragmented stop
prefix_as_shown first bytes number rest fragmented stop read chain =
    let shown = sym (shown_before first bytes number rest fragmented read) in
    record {
      split = prefix_split bytes read.prefix rest read.split;
      chain = subst (λ (all : List ExtensionPart). IsLaxChain ipv6 first bytes (chain_of all number rest) stop) shown
          chain;
      fragments = read.fragments ∙ ap chain_fragments shown;
    }

-- Parsing ends without error at a number that is not that of an extension header.
pub prefix_ends : (first : ℕ) (bytes : List ℕ) (number : ℕ) (rest : List ℕ) (fragmented : Bool)
    → PrefixRead slices first bytes number rest fragmented → is_ipv6_extension number ≡ false
    → PrefixSlices first bytes number rest fragmented None
prefix_ends first bytes number rest fragmented read none =
    prefix_as_shown first bytes number rest fragmented None read
    (subst (λ (all : List ExtensionPart). IsChainAfter ipv6 slices [] first bytes all number rest)
    (append-nil read.parts) (read.chain [] number rest (slices_end read.taken number none, refl, refl)))

-- Parsing stops at a rejected header.
stopped : (first : ℕ) (bytes : List ℕ) (number : ℕ) (rest : List ℕ) (fragmented : Bool) (error : HeaderSliceError)
    → (read : PrefixRead slices first bytes number rest fragmented)
    → RefusesChainAfter ipv6 slices read.taken (length read.prefix) number rest [] error
    → PrefixSlices first bytes number rest fragmented (Some error)
stopped first bytes number rest fragmented error read refused =
    prefix_as_shown first bytes number rest fragmented (Some error) read (
      subst (λ (all : List ExtensionPart). RefusesChainAfter ipv6 slices [] 0 first bytes all error)
          (append-nil read.parts) (read.refused [] error refused),
      subst (λ (all : List ExtensionPart). BeginWithParts first bytes all number rest) (append-nil read.parts)
          (read.stand [] number rest (refl, refl)),
    )

-- Parsing stops if the next header is rejected.
pub prefix_refused : (first : ℕ) (bytes : List ℕ) (number : ℕ) (rest : List ℕ) (fragmented : Bool)
    (error shown : HeaderSliceError)
    → PrefixRead slices first bytes number rest fragmented → is_ipv6_extension number ≡ true
    → (number ≡ 0 → length bytes - length rest ≤ 0) → RefusesExtensionPart number rest error
    → shown ≡ with_offset_in (length bytes - length rest) error
    → PrefixSlices first bytes number rest fragmented (Some shown)
prefix_refused first bytes number rest fragmented error shown read kind start refused same =
    let here = ap (λ (n : ℕ). with_offset_in n error) (start_len bytes read.prefix rest read.split) ∙ sym same in
    let demand = prefix_takes first bytes number rest fragmented read kind start in
    stopped first bytes number rest fragmented shown read (inr (demand, (error, refused, sym here)))

-- Parsing stops at Hop-by-Hop options that are not first.
pub prefix_misplaced : (first : ℕ) (bytes : List ℕ) (number : ℕ) (rest : List ℕ) (fragmented : Bool)
    → PrefixRead slices first bytes number rest fragmented → number ≡ 0 → 0 < length bytes - length rest
    → PrefixSlices first bytes number rest fragmented (Some (header_error.Content content.HopByHopNotAtStart))
prefix_misplaced first bytes number rest fragmented read zero_is some =
    stopped first bytes number rest fragmented (header_error.Content content.HopByHopNotAtStart) read
    (inl (misplaced_0 slices read.taken number zero_is (prefix_past slices first bytes number rest fragmented read some), refl))

-- ---- contracts of the calls

-- Whether the packet carries a fragment is decided by the headers in the bytes before the rest.
pub prefix_fragments : (first : ℕ) (bytes : List ℕ) (number : ℕ) (rest : List ℕ) (fragmented : Bool)
    → PrefixRead slices first bytes number rest fragmented
    → fragmented ≡ chain_fragments (shown_parts first (take (length bytes - length rest) bytes))
prefix_fragments first bytes number rest fragmented read =
    read.fragments ∙ ap chain_fragments (sym (shown_before first bytes number rest fragmented read))

-- The rest is not longer than all bytes.
pub prefix_within : (first : ℕ) (bytes : List ℕ) (number : ℕ) (rest : List ℕ) (fragmented : Bool)
    → PrefixRead slices first bytes number rest fragmented → length rest ≤ length bytes
prefix_within first bytes number rest fragmented read =
    omega (arith, ap length read.split, length-append read.prefix rest)

-- The bytes are those of the parsed headers, followed by the rest, and this result is unique.
pub prefix_answered : (first : ℕ) (bytes : List ℕ) (number : ℕ) (rest : List ℕ) (fragmented : Bool)
    (stop : Option HeaderSliceError) → AreBytes bytes → PrefixSlices first bytes number rest fragmented stop
    → (shown : List ℕ) → shown ≡ take (length bytes - length rest) bytes → (from : ℕ) → from ≡ first
    → (bytes ≡ shown ++ rest) × IsLaxChain ipv6 first bytes (chain_of (shown_parts from shown) number rest) stop
    × ((chain : ExtensionChain) (end : Option HeaderSliceError) → IsLaxChain ipv6 first bytes chain end
    → (chain_of (shown_parts from shown) number rest ≡ chain) × (stop ≡ end))
prefix_answered first bytes number rest fragmented stop fits prefix shown shown_is from from_is =
    let before = take (length bytes - length rest) bytes in
    let parts : shown_parts first before ≡ shown_parts from shown =
    ap (shown_parts first) (sym shown_is) ∙ ap (λ (n : ℕ). shown_parts n shown) (sym from_is) in
    let here : IsLaxChain ipv6 first bytes (chain_of (shown_parts from shown) number rest) stop =
    subst (λ (all : List ExtensionPart). IsLaxChain ipv6 first bytes (chain_of all number rest) stop) parts
    prefix.chain in (
      prefix.split ∙ ap (λ (s : List ℕ). s ++ rest) (sym shown_is),
      here,
      λ chain end is. one_prefix_chain ipv6 first bytes fits (chain_of (shown_parts from shown) number rest) chain stop
          end here is,
    )
