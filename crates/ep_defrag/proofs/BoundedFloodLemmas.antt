-- The table of a bounded pool after a fragment that is accepted and returns no payload.
use Rattle.std.proofs.Common.{◌≡◌, ℕ, ◌+◌, ◌/◌, ◌<◌, ◌≤◌, Bool, true, false, not, cond, nat_lt, length, List, [], ◌∷◌, ◌++◌}
use Rattle.std.proofs.Common.{Option, Some, None, IfSome, refl, sym, ap, subst, ◌∙◌, inl, inr, arith, append_assoc}
use Rattle.std.specs.Cmp.{IsEquivalence}
use Rattle.std.specs.List.{All, filter}
use Rattle.std.proofs.lemmas.Bool.{cases_Bool}
use Rattle.std.proofs.lemmas.List.Elements.{All-append, All-cons, All-filter, All-nil, filter-append, recursion_from_All, All-from_recursion}
use Rattle.std.proofs.lemmas.Grind.{common_steps}
use Rattle.ep_defrag.specs.declared.ip_frag_id.IpFragId.{IpFragId}
use Rattle.ep_defrag.specs.declared.bounded_limits.DefragLimits.{DefragLimits}
use Rattle.ep_defrag.specs.IpFragments.{IpFragment, is_complete}
use Rattle.ep_defrag.specs.Streams.{same_stream}
use Rattle.ep_defrag.specs.BoundedLimits.{most_names}
use Rattle.ep_defrag.specs.BoundedSteps.{Row, row_named, other_rows, remaining, expires_for, is_expired}
use Rattle.ep_defrag.specs.BoundedSteps.{nothing_complete, Step, Fate, is_rejected, discards, is_accepted, fate_at}
use Rattle.ep_defrag.specs.BoundedSteps.{accepted_before, row_with, fated_step, fragment_step}
use Rattle.ep_defrag.proofs.BoundedRowLemmas.{named_alike, found_alike}
use Rattle.ep_defrag.proofs.BoundedLimitLemmas.{remaining-end, are_within-shares}

module _ {C : Type 0} (eq : C → C → Bool) (laws : IsEquivalence eq) where
  -- Holds if the name became the newest with the granted memory, and the limits decided which others stay.
  abbrev IsNewest : DefragLimits → List (Row C) → IpFragId C → ℕ → Option ℕ → List (Row C) → Row C → Type 0
  IsNewest limits rows name number granted after own =
      (same_stream eq own.id name ≡ true) × (own.number ≡ number) × (granted ≡ Some own.room)
      × (own.room ≤ limits.bytes) × (after ≡ remaining limits (other_rows eq name rows ++ own ∷ []))

  -- Holds if the own name became the newest, if the step returns nothing.
  record AcceptsOwn (limits : DefragLimits) (rows : List (Row C)) (name : IpFragId C) (number : ℕ) (granted : Option ℕ)
      (step : Step C) : Type 0 where
    accepted : step.answer ≡ nothing_complete
        → (own : Row C) × IsNewest limits rows name number granted step.rows own

  pub own_name : (old : Option (Row C)) (name : IpFragId C) (fragment : IpFragment) (now number space : ℕ)
      → ((row : Row C) → old ≡ Some row → same_stream eq row.id name ≡ true)
      → same_stream eq (row_with old name fragment now number space).id name ≡ true
  own_name None name fragment now number space alike = (named_alike eq laws).refl name
  own_name (Some row) name fragment now number space alike = alike row refl

  fated_accepted : (limits : DefragLimits) (rows : List (Row C)) (name : IpFragId C) (fragment : IpFragment)
      (now number : ℕ) (granted : Option ℕ) (fate : Fate)
      → AcceptsOwn limits rows name number granted (fated_step limits eq rows name fragment now number granted fate)
  fated_accepted limits rows name fragment now number granted (is_rejected error) =
      record { accepted = λ answer. absurd (cc) }
  fated_accepted limits rows name fragment now number granted discards = record { accepted = λ answer. absurd (cc) }
  fated_accepted limits rows name fragment now number None is_accepted = record { accepted = λ answer. absurd (cc) }
  fated_accepted limits rows name fragment now number (Some space) is_accepted =
      let old = row_named eq name rows in
      let own = row_with old name fragment now number space in
      choose (is_complete (accepted_before old ++ fragment ∷ [])) (nat_lt limits.bytes space)
      (record { accepted = λ answer. absurd (cc) })
      (record { accepted = λ answer. absurd (cc) })
      (λ few. record {
        accepted = λ answer. (
          own,
          (
            own_name old name fragment now number space (found_alike eq laws name rows),
            refl,
            refl,
            grind (arith, few, common_steps),
            refl,
          ),
        );
      })
    where
      choose : {x y z : Step C} (a b : Bool) → AcceptsOwn limits rows name number (Some space) x
          → AcceptsOwn limits rows name number (Some space) y
          → (b ≡ false → AcceptsOwn limits rows name number (Some space) z)
          → AcceptsOwn limits rows name number (Some space) (cond a x (cond b y z))
      choose true b first second third = first
      choose false true first second third = second
      choose false false first second third = third refl

  -- Whether the own name expired makes no difference for the others.
  pub others_unexpired : (limits : DefragLimits) (now : ℕ) (name : IpFragId C) (rows : List (Row C))
      → other_rows eq name (filter (λ row. not (expires_for limits eq now name row)) rows) ≡ other_rows eq name rows
  others_unexpired limits now name [] = refl
  others_unexpired limits now name (row ∷ rows) =
      let rest = others_unexpired limits now name rows in
      elim (cases_Bool (same_stream eq row.id name)) [
        | inl own ↦ elim (cases_Bool (is_expired limits now row)) [
          | inl old ↦ rw (own, old) rest
          | inr young ↦ rw (own, young, own) rest
        ]
        | inr not_own ↦ rw (not_own, not_own) (ap (λ others. row ∷ others) rest)
      ]

  -- A fragment that is accepted and completes nothing makes its name the newest.
  pub own_accepted : (limits : DefragLimits) (rows : List (Row C)) (name : IpFragId C) (fragment : IpFragment)
      (now number : ℕ) (granted : Option ℕ)
      → (fragment_step limits eq rows name fragment now number granted).answer ≡ nothing_complete
      → (own : Row C) × IsNewest limits rows name number granted
      (fragment_step limits eq rows name fragment now number granted).rows own
  own_accepted limits rows name fragment now number granted answer =
      let left = filter (λ row. not (expires_for limits eq now name row)) rows in
      let step =
      fated_accepted limits left name fragment now number granted (fate_at limits (row_named eq name left) fragment)
      in
      let found = step.accepted answer in (
        found.0,
        (
          found.1.0,
          found.1.1,
          found.1.2,
          found.1.3,
          found.1.4
              ∙ ap (λ others. remaining limits (others ++ found.0 ∷ [])) (others_unexpired limits now name rows),
        ),
      )

  -- Holds if a stream uses at most its share of the memory.
  abbrev IsSmall : DefragLimits → Row C → Type 0
  IsSmall limits row = row.room ≤ limits.bytes / most_names limits

  -- A name stays if it and the later ones are few, and no stream uses more than its share of the memory.
  pub outlasts : (limits : DefragLimits) (earlier later : List (Row C)) (row : Row C) (name : IpFragId C)
      (fragment : IpFragment) (now number : ℕ) (granted : Option ℕ) → same_stream eq row.id name ≡ false
      → length (other_rows eq name later) + 1 < most_names limits
      → All (λ other. other.room ≤ limits.bytes / most_names limits) (row ∷ later)
      → IfSome granted (λ space. space ≤ limits.bytes / most_names limits)
      → (fragment_step limits eq (earlier ++ row ∷ later) name fragment now number granted).answer ≡ nothing_complete
      → (kept : List (Row C)) × (own : Row C) × (same_stream eq own.id name ≡ true)
      × ((fragment_step limits eq (earlier ++ row ∷ later) name fragment now number granted).rows
      ≡ kept ++ row ∷ other_rows eq name later ++ own ∷ [])
  outlasts limits earlier later row name fragment now number granted differs few shares share answer =
      let rows = earlier ++ row ∷ later in
      let found = own_accepted limits rows name fragment now number granted answer in
      let own = found.0 in
      let others = other_rows eq name later in
      let within = are_within-shares limits (row ∷ others ++ own ∷ []) (small found.0 found.1.2) (short own) in
      let end = remaining-end limits (other_rows eq name earlier) (row ∷ others ++ own ∷ []) within in (
        end.0,
        own,
        found.1.0,
        found.1.4 ∙ ap (remaining limits) (split own) ∙ end.1 ∙ sym (append_assoc end.0 (row ∷ others) (own ∷ [])),
      )
    where
      split : (own : Row C) → other_rows eq name (earlier ++ row ∷ later) ++ own ∷ []
          ≡ other_rows eq name earlier ++ (row ∷ other_rows eq name later ++ own ∷ [])
      split own =
          ap (λ others. others ++ own ∷ []) (filter-append (λ other. not (same_stream eq other.id name)) earlier (row ∷ later))
          ∙ rw differs (append_assoc (other_rows eq name earlier) (row ∷ other_rows eq name later) (own ∷ []))

      short : (own : Row C) → length (row ∷ other_rows eq name later ++ own ∷ []) ≤ most_names limits
      short own = grind (arith, few, common_steps)

      small : (own : Row C) → granted ≡ Some own.room
          → All (IsSmall limits) (row ∷ other_rows eq name later ++ own ∷ [])
      small own grant =
          let few_bytes = IsSmall limits in
          let all = recursion_from_All few_bytes (row ∷ later) shares in
          let own_small : few_bytes own =
          subst (λ given. IfSome given (λ space. space ≤ limits.bytes / most_names limits)) grant share in
          let others = other_rows eq name later in
          All-cons few_bytes row (others ++ own ∷ []) all.0
          (All-append few_bytes others (own ∷ [])
          (All-filter (λ other. not (same_stream eq other.id name)) few_bytes later
          (All-from_recursion few_bytes later all.1))
          (All-cons few_bytes own [] own_small (All-nil few_bytes)))
