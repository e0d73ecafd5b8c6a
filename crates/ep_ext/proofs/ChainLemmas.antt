-- Bytes are either exactly one chain of extension headers or rejected with exactly one error; the relation of the two
-- readings.
use Rattle.std.proofs.Common.{◌≡◌, ◌⊎◌, add-zero, ℕ, zero, suc, ◌+◌, ◌<◌, ◌==◌, Bool, true, false, not, List, [], ◌∷◌, length, refl, sym, ap, subst, ◌∙◌, inl, inr, arith}
use Rattle.std.proofs.lemmas.Grind.{common_steps}
use Rattle.std.proofs.lemmas.Bool.{cases_eq}
use Rattle.ep_base.specs.Bytes.{AreBytes}
use Rattle.ep_base.specs.Readings.{Reading, slices, headers}
use Rattle.ep_base.specs.Tables.{IsDecided}
use Rattle.ep_base.proofs.DecidedLemmas.{IsBoth, RefusesEither, same_image, decided_as, decided_by, decided_then, refused_as}
use Rattle.ep_base.proofs.TableLemmas.{first_row-as_some}
use Rattle.ep_base.specs.declared.err.ip_auth.HeaderSliceError.{HeaderSliceError as AuthSliceError}
use Rattle.ep_base.specs.declared.err.ipv6_exts.HeaderError.TheVariants as content
use Rattle.ep_base.specs.declared.err.ipv6_exts.HeaderSliceError.{HeaderSliceError}
use Rattle.ep_base.specs.declared.err.ipv6_exts.HeaderSliceError.TheVariants as header_error
use Rattle.ep_ext.specs.declared.ip_auth_header.IpAuthHeader.{IpAuthHeader}
use Rattle.ep_ext.specs.ExtensionParts.{ExtensionPart, authentication, part_next, part_len, RefusesExtensionPart, auth_refusal}
use Rattle.ep_ext.specs.IpAuth.{IsIpAuth, RefusesIpAuth, ip_auth_rows}
use Rattle.ep_ext.specs.Chains.{IpVersion, ipv4, ipv6, ExtensionChain, chain_of, Demand, ends, takes, misplaced, demand_of, is_taken, IsChainAfter, IsExtensionChain, RefusesChainAfter, RefusesExtensionChain, NoKindTwice, with_offset_in}
use Rattle.ep_ext.proofs.PartLemmas.{HeaderLaws, ReadPart, IsReadPart, IsKind, is_hop_by_hop, is_routing, is_fragment, is_authentication, is_destination, part_decided, part_lens, part_after_fits, part_numbered}

-- The bytes, starting with the header of this IP number, are a chain that continues after the visited headers.
abbrev pub IsFollowing : IpVersion → Reading → List ℕ → ℕ → List ℕ → ExtensionChain → Type 0
IsFollowing version reading taken number bytes chain = IsChainAfter version reading taken number bytes chain.parts
    chain.last chain.rest

-- The bytes are rejected with this error after the visited headers.
abbrev pub RefusesAfter : IpVersion → Reading → List ℕ → ℕ → ℕ → List ℕ → HeaderSliceError → Type 0
RefusesAfter version reading taken offset number bytes error =
    (parts : List ExtensionPart) × RefusesChainAfter version reading taken offset number bytes parts error

pub demand_cases : (demand : Demand) → (demand ≡ ends) ⊎ ((demand ≡ takes) ⊎ (demand ≡ misplaced))
demand_cases ends = inl refl
demand_cases takes = inr (inl refl)
demand_cases misplaced = inr (inr refl)

-- An IP number that demands a header is the number of a kind of extension header.
pub taken_is_kind : (version : IpVersion) (reading : Reading) (taken : List ℕ) (number : ℕ)
    → demand_of version reading taken number ≡ takes → IsKind number
taken_is_kind version reading taken number demand =
    elim (cases_eq number 0) [
      | inl is ↦ subst IsKind (sym is) is_hop_by_hop
      | inr not_0 ↦ elim (cases_eq number 43) [
        | inl is ↦ subst IsKind (sym is) is_routing
        | inr not_43 ↦ elim (cases_eq number 44) [
          | inl is ↦ subst IsKind (sym is) is_fragment
          | inr not_44 ↦ elim (cases_eq number 51) [
            | inl is ↦ subst IsKind (sym is) is_authentication
            | inr not_51 ↦ elim (cases_eq number 60) [
              | inl is ↦ subst IsKind (sym is) is_destination
              | inr not_60 ↦ absurd (none_taken version reading taken number not_0 not_43 not_44 not_51 not_60 demand)
            ]
          ]
        ]
      ]
    ]
  where
    none_taken : (version : IpVersion) (reading : Reading) (taken : List ℕ) (number : ℕ) → (number ≡ 0 → ⊥)
        → (number ≡ 43 → ⊥) → (number ≡ 44 → ⊥) → (number ≡ 51 → ⊥) → (number ≡ 60 → ⊥)
        → demand_of version reading taken number ≡ takes → ⊥
    none_taken ipv4 reading taken number a b c d e demand = grind (arith, common_steps)
    none_taken ipv6 reading taken number a b c d e demand = grind (arith, common_steps)

-- ---- each demand decides between chain and error

only_end : (version : IpVersion) (reading : Reading) (taken : List ℕ) (number : ℕ) (bytes : List ℕ)
    → demand_of version reading taken number ≡ ends
    → (parts : List ExtensionPart) (last : ℕ) (rest : List ℕ)
    → IsChainAfter version reading taken number bytes parts last rest
    → chain_of parts last rest ≡ chain_of [] number bytes
only_end version reading taken number bytes end [] last rest is = λ i. chain_of [] (is.1 i) (is.2 i)
only_end version reading taken number bytes end (part ∷ parts) last rest is = absurd (let one = sym end ∙ is.0 in cc)

end_not_refused : (version : IpVersion) (reading : Reading) (taken : List ℕ) (offset number : ℕ) (bytes : List ℕ)
    → demand_of version reading taken number ≡ ends
    → (parts : List ExtensionPart) (error : HeaderSliceError)
    → RefusesChainAfter version reading taken offset number bytes parts error → ⊥
end_not_refused version reading taken offset number bytes end [] error (inl refused) = let one = sym end
    ∙ refused.0 in cc
end_not_refused version reading taken offset number bytes end [] error (inr refused) = let one = sym end
    ∙ refused.0 in cc
end_not_refused version reading taken offset number bytes end (part ∷ parts) error refused = let one = sym end
    ∙ refused.0 in cc

misplaced_is_none : (version : IpVersion) (reading : Reading) (taken : List ℕ) (number : ℕ) (bytes : List ℕ)
    → demand_of version reading taken number ≡ misplaced
    → (parts : List ExtensionPart) (last : ℕ) (rest : List ℕ)
    → IsChainAfter version reading taken number bytes parts last rest → ⊥
misplaced_is_none version reading taken number bytes wrong [] last rest is = let one = sym wrong ∙ is.0 in cc
misplaced_is_none version reading taken number bytes wrong (part ∷ parts) last rest is = let one = sym wrong
    ∙ is.0 in cc

only_misplaced : (version : IpVersion) (reading : Reading) (taken : List ℕ) (offset number : ℕ) (bytes : List ℕ)
    → demand_of version reading taken number ≡ misplaced
    → (parts : List ExtensionPart) (error : HeaderSliceError)
    → RefusesChainAfter version reading taken offset number bytes parts error
    → error ≡ header_error.Content content.HopByHopNotAtStart
only_misplaced version reading taken offset number bytes wrong [] error (inl refused) = refused.1
only_misplaced version reading taken offset number bytes wrong [] error (inr refused) = absurd (let one = sym wrong
    ∙ refused.0 in cc)
only_misplaced version reading taken offset number bytes wrong (part ∷ parts) error refused = absurd
    (let one = sym wrong ∙ refused.0 in cc)

-- A header and the chain after it, as one chain.
abbrev with_part : ReadPart × ExtensionChain → ExtensionChain
with_part read = chain_of (read.0.0 ∷ read.1.parts) read.1.last read.1.rest

-- The chain after the first header.
abbrev IsNext : IpVersion → Reading → List ℕ → ℕ → ReadPart → ExtensionChain → Type 0
IsNext version reading taken number read chain = IsFollowing version reading (number ∷ taken)
    (part_next read.0) read.1 chain

abbrev RefusesNext : IpVersion → Reading → List ℕ → ℕ → ℕ → ReadPart → HeaderSliceError → Type 0
RefusesNext version reading taken offset number read error =
    RefusesAfter version reading (number ∷ taken) (offset + part_len read.0) (part_next read.0) read.1 error

-- The first header is rejected with this error.
abbrev RefusesFirst : ℕ → ℕ → List ℕ → HeaderSliceError → Type 0
RefusesFirst offset number bytes error = (refusal : HeaderSliceError) × RefusesExtensionPart number bytes refusal ×
    (error ≡ with_offset_in offset refusal)

taken_back : (version : IpVersion) (reading : Reading) (taken : List ℕ) (number : ℕ) (bytes : List ℕ)
    → demand_of version reading taken number ≡ takes
    → (parts : List ExtensionPart) (last : ℕ) (rest : List ℕ)
    → IsChainAfter version reading taken number bytes parts last rest
    → (read : ReadPart × ExtensionChain) × IsBoth (IsReadPart number bytes)
    (IsNext version reading taken number) read × (chain_of parts last rest ≡ with_part read)
taken_back version reading taken number bytes demand [] last rest is = absurd (let one = sym demand ∙ is.0 in cc)
taken_back version reading taken number bytes demand (part ∷ parts) last rest is =
    (((part, is.1.0), chain_of parts last rest), (is.1.1, is.1.2), refl)

refused_back : (version : IpVersion) (reading : Reading) (taken : List ℕ) (offset number : ℕ) (bytes : List ℕ)
    → demand_of version reading taken number ≡ takes
    → (parts : List ExtensionPart) (error : HeaderSliceError)
    → RefusesChainAfter version reading taken offset number bytes parts error
    → RefusesEither (IsReadPart number bytes) (RefusesFirst offset number bytes)
    (RefusesNext version reading taken offset number) error
refused_back version reading taken offset number bytes demand [] error (inl refused) = absurd (let one = sym demand
    ∙ refused.0 in cc)
refused_back version reading taken offset number bytes demand [] error (inr refused) = inl refused.1
refused_back version reading taken offset number bytes demand (part ∷ parts) error refused =
    inr ((part, refused.1.0), refused.1.1, (parts, refused.1.2))

refuses_part : (version : IpVersion) (reading : Reading) (taken : List ℕ) (offset number : ℕ) (bytes : List ℕ)
    → demand_of version reading taken number ≡ takes
    → (error : HeaderSliceError) → RefusesEither (IsReadPart number bytes) (RefusesFirst offset number bytes)
    (RefusesNext version reading taken offset number) error
    → RefusesAfter version reading taken offset number bytes error
refuses_part version reading taken offset number bytes demand error (inl refused) = ([], inr (demand, refused))
refuses_part version reading taken offset number bytes demand error (inr refused) =
    (refused.0.0 ∷ refused.2.0, (demand, (refused.0.1, refused.1, refused.2.1)))

-- Bytes shorter than `most` are either exactly one chain after the visited headers or rejected with exactly one error.
pub after_decided : HeaderLaws → (most : ℕ) (version : IpVersion) (reading : Reading) (taken : List ℕ)
    (offset number : ℕ) (bytes : List ℕ) → length bytes < most → AreBytes bytes
    → IsDecided (IsFollowing version reading taken number bytes) (RefusesAfter version reading taken offset number bytes)
after_decided laws zero version reading taken offset number bytes within fits = absurd (omega arith)
after_decided laws (suc most) version reading taken offset number bytes within fits =
    elim (demand_cases (demand_of version reading taken number)) [
      | inl end ↦ decided_by (chain_of [] number bytes) (end, refl, refl)
          (λ chain is. only_end version reading taken number bytes end chain.parts chain.last chain.rest is)
          (λ error refused. end_not_refused version reading taken offset number bytes end refused.0 error refused.1)
      | inr (inl demand) ↦ decided_as with_part (λ error. error)
          (decided_then (refused_as (with_offset_in offset) (part_decided laws number bytes fits
          (taken_is_kind version reading taken number demand)))
          (λ read is. after_decided laws most version reading (number ∷ taken) (offset + part_len read.0)
          (part_next read.0) read.1
          (omega (arith, part_lens number bytes read.0 read.1 is))
          (part_after_fits number bytes read.0 read.1 is fits)))
          (record {
            present = λ read is. (demand, (read.0.1, is.0, is.1));
            back = λ chain is. taken_back version reading
                taken number bytes demand chain.parts chain.last chain.rest is;
          })
          (same_image (refuses_part version reading taken offset number bytes demand)
          (λ error refused. refused_back version reading taken offset number bytes demand refused.0 error refused.1))
      | inr (inr wrong) ↦ record {
        some = inr (header_error.Content content.HopByHopNotAtStart, ([], inl (wrong, refl)));
        one_value = λ v w a b. absurd (misplaced_is_none version reading taken number bytes wrong v.parts v.last
            v.rest a);
        one_error = λ e f a b. only_misplaced version reading taken offset number bytes wrong a.0 e a.1
            ∙ sym (only_misplaced version reading taken offset number bytes wrong b.0 f b.1);
        not_both = λ v e a b. misplaced_is_none version reading taken number bytes wrong v.parts v.last v.rest a;
      }
    ]

-- Bytes are either exactly one chain or rejected with exactly one error.
pub chain_decided : HeaderLaws → (version : IpVersion) (reading : Reading) (number : ℕ) (bytes : List ℕ)
    → AreBytes bytes
    → IsDecided (IsExtensionChain version reading number bytes) (RefusesExtensionChain version reading number bytes)
chain_decided laws version reading number bytes fits =
    after_decided laws (length bytes + 1) version reading [] 0 number bytes (omega arith) fits

-- ---- the two readings

-- A chain of owned headers continues with the same header as a chain of slices, if its kind has not been visited
-- before.
takes_as_header : (version : IpVersion) (taken : List ℕ) (number : ℕ)
    → demand_of version slices taken number ≡ takes → is_taken taken number ≡ false
    → demand_of version headers taken number ≡ takes
takes_as_header ipv4 taken number demand none = demand
takes_as_header ipv6 taken number demand none = grind (arith, common_steps)

-- An IP number that ends a chain of slices ends a chain of owned headers.
ends_as_header : (version : IpVersion) (taken : List ℕ) (number : ℕ) → demand_of version slices taken number ≡ ends
    → demand_of version headers taken number ≡ ends
ends_as_header ipv4 taken number demand = demand
ends_as_header ipv6 taken number demand = grind (arith, common_steps)

-- A chain of slices without a repeated kind is a chain of owned headers.
pub once_each : (version : IpVersion) (taken : List ℕ) (number : ℕ) (bytes : List ℕ) (parts : List ExtensionPart)
    (last : ℕ) (rest : List ℕ)
    → IsChainAfter version slices taken number bytes parts last rest → NoKindTwice taken parts
    → IsChainAfter version headers taken number bytes parts last rest
once_each version taken number bytes [] last rest is once = (ends_as_header version taken number is.0, is.1, is.2)
once_each version taken number bytes (part ∷ parts) last rest is once =
    let same = part_numbered number bytes part is.1.0 is.1.1 in (
      takes_as_header version taken number is.0 (ap (is_taken taken) same ∙ once.0),
      (
        is.1.0,
        is.1.1,
        once_each version (number ∷ taken) (part_next part) is.1.0 parts last rest is.1.2
            (subst (λ (n : ℕ). NoKindTwice (n ∷ taken) parts) (sym same) once.1),
      ),
    )

-- ---- contracts of calls that read a chain

-- Two chains of the same bytes are equal.
pub one_chain : HeaderLaws → (version : IpVersion) (reading : Reading) (number : ℕ) (bytes : List ℕ)
    → AreBytes bytes → (chain other : ExtensionChain)
    → IsExtensionChain version reading number bytes chain → IsExtensionChain version reading number bytes other
    → chain ≡ other
one_chain laws version reading number bytes fits chain other a b =
    (chain_decided laws version reading number bytes fits).one_value chain other a b

-- Rejected bytes are not a chain.
pub refused_no_chain : HeaderLaws → (version : IpVersion) (reading : Reading) (number : ℕ) (bytes : List ℕ)
    → AreBytes bytes → (error : HeaderSliceError)
    → RefusesExtensionChain version reading number bytes error → (chain : ExtensionChain)
    → IsExtensionChain version reading number bytes chain → ⊥
refused_no_chain laws version reading number bytes fits error refused chain is =
    (chain_decided laws version reading number bytes fits).not_both chain error is refused

-- Adding an offset of 0 does not change an error.
pub further_zero : (error : HeaderSliceError) → error ≡ with_offset_in 0 error
further_zero (header_error.Len error) = ap header_error.Len (sym
    (λ i. record error { layer_start_offset = add-zero error.layer_start_offset i }))
further_zero (header_error.Content error) = refl

-- A rejected authentication header makes the IPv4 chain rejected with its error.
pub auth_refused : (reading : Reading) (number : ℕ) (bytes : List ℕ) (error : AuthSliceError) → number ≡ 51
    → RefusesIpAuth bytes error
    → RefusesExtensionChain ipv4 reading number bytes (auth_refusal error)
auth_refused reading number bytes error is refused =
    subst (λ (n : ℕ). RefusesExtensionChain ipv4 reading n bytes (auth_refusal error)) (sym is) (
      [],
      inr (
        refl,
        (
          auth_refusal error,
          first_row-as_some auth_refusal
              (ip_auth_rows bytes) error refused,
          further_zero (auth_refusal error),
        ),
      ),
    )

-- ---- chains of IPv4

-- An IP number other than that of the authentication header ends the chain.
pub ends_at_once : (reading : Reading) (number : ℕ) (bytes : List ℕ) → (number ≡ 51 → ⊥)
    → IsExtensionChain ipv4 reading number bytes (chain_of [] number bytes)
ends_at_once reading number bytes other = (grind (arith, common_steps), refl, refl)

-- An authentication header is a complete IPv4 chain.
pub one_authentication : (reading : Reading) (number : ℕ) (bytes : List ℕ) (header : IpAuthHeader) (rest : List ℕ)
    → number ≡ 51 → IsIpAuth bytes (header, rest)
    → IsExtensionChain ipv4 reading number bytes (chain_of (authentication header ∷ []) header.next_header.0 rest)
one_authentication reading number bytes header rest is header_is =
    subst (λ (n : ℕ). IsExtensionChain ipv4 reading n bytes (chain_of
    (authentication header ∷ []) header.next_header.0 rest)) (sym is)
    (refl, (rest, (refl, header_is), (refl, refl, refl)))

-- If the test that two numbers differ is true, they differ.
pub number_other : (test : Bool) (n m : ℕ) → test ≡ not (n == m) → test ≡ true → n ≡ m → ⊥
number_other test n m is true_is same = grind (arith, common_steps)

-- If the test that two numbers differ is false, they are equal.
pub number_same : (test : Bool) (n m : ℕ) → test ≡ not (n == m) → test ≡ false → n ≡ m
number_same test n m is false_is = grind (arith, common_steps)
