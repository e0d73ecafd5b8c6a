-- Relation of a chain read as owned headers to the chain read as slices.
use Rattle.std.proofs.Common.{◌≡◌, ◌⊎◌, ℕ, ◌+◌, Bool, true, false, List, [], ◌∷◌, refl, ap, subst, ◌∙◌, inl, inr, arith}
use Rattle.std.proofs.lemmas.Grind.{common_steps}
use Rattle.ep_base.specs.Readings.{slices, headers}
use Rattle.ep_base.specs.declared.err.ipv6_exts.HeaderSliceError.{HeaderSliceError}
use Rattle.ep_ext.specs.ExtensionParts.{ExtensionPart, part_len, part_next}
use Rattle.ep_ext.specs.Chains.{IpVersion, ipv4, ipv6, ends, takes, misplaced, demand_of, is_ipv6_extension, is_taken, IsChainAfter, RefusesChainAfter, StopsAtSecond}
use Rattle.ep_ext.proofs.PartLemmas.{part_numbered}

flag_cases : (flag : Bool) → (flag ≡ true) ⊎ (flag ≡ false)
flag_cases true = inl refl
flag_cases false = inr refl

-- ---- demands of IP numbers

other_ends : (taken : List ℕ) (number : ℕ) → demand_of ipv6 headers taken number ≡ ends
    → is_ipv6_extension number ≡ false → demand_of ipv6 slices taken number ≡ ends
other_ends taken number demand other = grind (arith, common_steps)

new_ends : (taken : List ℕ) (number : ℕ) → demand_of ipv6 headers taken number ≡ ends
    → is_taken taken number ≡ false → demand_of ipv6 slices taken number ≡ ends
new_ends taken number demand new = grind (arith, common_steps)

-- The end of a chain of owned headers ends a chain of slices too, unless the IP number is that of an extension header
-- of a kind visited before.
pub ends_in_slices : (version : IpVersion) (taken : List ℕ) (number : ℕ)
    → demand_of version headers taken number ≡ ends
    → (demand_of version slices taken number ≡ ends)
    ⊎ ((version ≡ ipv6) × (is_taken taken number ≡ true) × (is_ipv6_extension number ≡ true))
ends_in_slices ipv4 taken number demand = inl demand
ends_in_slices ipv6 taken number demand =
    elim (flag_cases (is_taken taken number)) [
      | inl second ↦ elim (flag_cases (is_ipv6_extension number)) [
        | inl extension ↦ inr (refl, second, extension)
        | inr other ↦ inl (other_ends taken number demand other)
      ]
      | inr new ↦ inl (new_ends taken number demand new)
    ]

-- A chain of slices continues with every header that a chain of owned headers continues with.
pub takes_in_slices : (version : IpVersion) (taken : List ℕ) (number : ℕ)
    → demand_of version headers taken number ≡ takes → demand_of version slices taken number ≡ takes
takes_in_slices ipv4 taken number demand = demand
takes_in_slices ipv6 taken number demand = grind (arith, common_steps)

-- A misplaced header in a chain of owned headers is misplaced in a chain of slices.
pub misplaced_in_slices : (version : IpVersion) (taken : List ℕ) (number : ℕ)
    → demand_of version headers taken number ≡ misplaced → demand_of version slices taken number ≡ misplaced
misplaced_in_slices ipv4 taken number demand = demand
misplaced_in_slices ipv6 taken number demand = grind (arith, common_steps)

-- ---- chains

-- A chain of owned headers is a chain of slices, or stops before a second header of a kind.
pub chain_in_slices : (version : IpVersion) (taken : List ℕ) (number : ℕ) (bytes : List ℕ) (parts : List ExtensionPart)
    (last : ℕ) (rest : List ℕ)
    → IsChainAfter version headers taken number bytes parts last rest
    → IsChainAfter version slices taken number bytes parts last rest
    ⊎ ((version ≡ ipv6) × StopsAtSecond taken parts last × (is_ipv6_extension last ≡ true))
chain_in_slices version taken number bytes [] last rest is =
    elim (ends_in_slices version taken number is.0) [
      | inl end ↦ inl (end, is.1, is.2)
      | inr second ↦ inr (
        second.0,
        ap (λ (n : ℕ). is_taken taken n) is.1 ∙ second.1,
        ap is_ipv6_extension is.1 ∙ second.2,
      )
    ]
chain_in_slices version taken number bytes (part ∷ parts) last rest is =
    let same = part_numbered number bytes part is.1.0 is.1.1 in
    elim (chain_in_slices version (number ∷ taken) (part_next part) is.1.0 parts last rest is.1.2) [
      | inl chain ↦ inl (takes_in_slices version taken number is.0, (is.1.0, is.1.1, chain))
      | inr second ↦ inr (
        second.0,
        subst (λ (n : ℕ). StopsAtSecond (n ∷ taken) parts last) same second.1,
        second.2,
      )
    ]

-- Bytes rejected as owned headers are rejected as slices.
pub refused_in_slices : (version : IpVersion) (taken : List ℕ) (offset number : ℕ) (bytes : List ℕ)
    (parts : List ExtensionPart) (error : HeaderSliceError)
    → RefusesChainAfter version headers taken offset number bytes parts error
    → RefusesChainAfter version slices taken offset number bytes parts error
refused_in_slices version taken offset number bytes [] error (inl refused) =
    inl (misplaced_in_slices version taken number refused.0, refused.1)
refused_in_slices version taken offset number bytes [] error (inr refused) =
    inr (takes_in_slices version taken number refused.0, refused.1)
refused_in_slices version taken offset number bytes (part ∷ parts) error refused = (
  takes_in_slices version taken number refused.0,
  (
    refused.1.0,
    refused.1.1,
    refused_in_slices version (number ∷ taken) (offset + part_len part) (part_next part) refused.1.0 parts error
        refused.1.2,
  ),
)
