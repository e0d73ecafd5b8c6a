-- A walk along the IPv6 extension headers, and the marks it sets.
use Rattle.std.proofs.Common.{◌≡◌, ℕ, ◌+◌, ◌<◌, ◌≤◌, ◌&&◌, Bool, true, false, not, if◌then◌else◌, List, [], ◌∷◌, ◌++◌, Option, Some, None, refl, sym, ap, subst, ◌∙◌, inl, inr, arith, length, length-append, append_assoc, vec_len, vec_capacity}
use Rattle.std.specs.Option.{option_map, is_some}
use Rattle.std.specs.Prelude.{Result, Ok, Err, OnOk, OnErr, IsOk, is_err, is_ok}
use Rattle.std.specs.Global.{Vec}
use Rattle.std.proofs.lemmas.Bool.{cases_eq, false≢true, true≢false}
use Rattle.std.proofs.lemmas.Option.{none-some}
use Rattle.std.proofs.lemmas.Grind.{common_steps}
use Rattle.std.proofs.lemmas.List.{append-nil}
use Rattle.ep_ext.specs.declared.ipv6_raw_ext_header.Ipv6RawExtHeader.{Ipv6RawExtHeader}
use Rattle.ep_ext.specs.declared.ipv6_exts.Ipv6Extensions.{Ipv6Extensions}
use Rattle.ep_ext.specs.declared.ipv6_routing_exts.Ipv6RoutingExtensions.{Ipv6RoutingExtensions}
use Rattle.ep_ext.specs.declared.ipv6_exts_walk.VisitedHeaders.{VisitedHeaders}
use Rattle.ep_base.specs.declared.err.ipv6_exts.ExtsWalkError.{ExtsWalkError}
use Rattle.ep_ext.specs.ExtensionParts.{ExtensionPart, hop_by_hop, destination_options, routing, fragment, authentication, part_number, part_next, part_bytes, FitsPart}
use Rattle.ep_ext.specs.Chains.{is_first, is_taken, parts_bytes, FitParts}
use Rattle.ep_ext.specs.Ipv6Chains.{no_ipv6_extensions, extensions_of, with_part, with_destination, has_destination, final_by, ipv6_parts, header_for, IsWalkAfter, missing_number, walk_refusal, WalksAll, RefusesWalk}
use Rattle.ep_ext.specs.Walks.{marked, header_at, missing_at}
use Rattle.ep_ext.proofs.ValueLemmas.{HasTaken, none_taken, taken_more, with_parts-append, bytes-append}
use Rattle.ep_ext.proofs.WalkMarkLemmas.{no_marks, marks_left, unmarked}

-- The marks are those of the visited headers.
pub record IsMarked (taken : List ℕ) (walked : Ipv6Extensions) (marks : VisitedHeaders) : Type 0 where
  pub any : is_first taken ≡ not marks.any
  pub has : HasTaken taken walked
  pub hop_by_hop : is_some walked.hop_by_hop_options ≡ marks.hop_by_hop
  pub destination : is_some walked.destination_options ≡ marks.destination_options
  pub routing : is_some walked.routing ≡ marks.routing
  pub fragment : is_some walked.fragment ≡ marks.fragment
  pub auth : is_some walked.auth ≡ marks.auth
  pub final : is_some (final_by walked.routing) ≡ marks.final_destination_options

pub marked_none : IsMarked [] no_ipv6_extensions no_marks
marked_none = record {
  any = refl;
  has = none_taken;
  hop_by_hop = refl;
  destination = refl;
  routing = refl;
  fragment =
      refl;
  auth = refl;
  final = refl;
}

-- The marks of destination options for a value with a known routing header.
record DestinationMarks (walked : Ipv6Extensions) (following : Option Ipv6RoutingExtensions) (header : Ipv6RawExtHeader)
    (marks new : VisitedHeaders) : Type 0 where
  hop_by_hop : is_some (with_destination walked header following).hop_by_hop_options ≡ new.hop_by_hop
  destination : is_some (with_destination walked header following).destination_options ≡ new.destination_options
  routing : is_some (with_destination walked header following).routing ≡ new.routing
  fragment : is_some (with_destination walked header following).fragment ≡ new.fragment
  auth : is_some (with_destination walked header following).auth ≡ new.auth
  final : is_some (final_by (with_destination walked header following).routing) ≡ new.final_destination_options

destination_marks : (walked : Ipv6Extensions) (following : Option Ipv6RoutingExtensions) (header : Ipv6RawExtHeader)
    (marks : VisitedHeaders) (present : Bool)
    → is_some walked.hop_by_hop_options ≡ marks.hop_by_hop
    → is_some walked.destination_options ≡ marks.destination_options → walked.routing ≡ following
    → is_some following ≡ present
    → is_some walked.fragment ≡ marks.fragment → is_some walked.auth ≡ marks.auth
    → is_some (final_by following) ≡ marks.final_destination_options → marks.routing ≡ present
    → DestinationMarks walked following header marks
    (if present then record marks { any = true; final_destination_options = true } else record marks {
      any = true;
      destination_options = true;
    })
destination_marks walked None header marks true hop destination same is_present frag auth final present_is = absurd
    (false≢true is_present)
destination_marks walked None header marks false hop destination same is_present frag auth final present_is = record {
  hop_by_hop = hop;
  destination = refl;
  routing = ap is_some same ∙ sym present_is;
  fragment = frag;
  auth = auth;
  final = ap (λ (b : Option Ipv6RoutingExtensions). is_some (final_by b)) same ∙ final;
}
destination_marks walked (Some following) header marks false hop destination same is_present frag auth final present_is =
    absurd (true≢false is_present)
destination_marks walked (Some following) header marks true hop destination same is_present frag auth final present_is =
    record {
      hop_by_hop = hop;
      destination = destination;
      routing = sym present_is;
      fragment = frag;
      auth = auth;
      final = refl;
    }

any_marked : (marks : VisitedHeaders) → (if marks.routing then record marks { any = true; final_destination_options = true }
    else record marks { any = true; destination_options = true }).any ≡ true
any_marked marks = elim marks.routing as (λ r.
    (if r then record marks { any = true; final_destination_options = true } else record marks {
      any = true;
      destination_options = true;
    }).any ≡ true) [
      | true ↦ refl
      | false ↦ refl
    ]

-- The marks after one more header is visited.
pub mark_more : (taken : List ℕ) (walked : Ipv6Extensions) (marks : VisitedHeaders) (part : ExtensionPart)
    → IsMarked taken walked marks
    → IsMarked (part_number part ∷ taken) (with_part walked part) (marked marks part)
mark_more taken walked marks (hop_by_hop header) m = record {
  any = refl;
  has = taken_more taken walked (hop_by_hop header) m.has;
  hop_by_hop = refl;
  destination = m.destination;
  routing = m.routing;
  fragment = m.fragment;
  auth = m.auth;
  final = m.final;
}
mark_more taken walked marks (destination_options header) m =
    let d = destination_marks walked walked.routing header marks marks.routing m.hop_by_hop m.destination refl
    m.routing m.fragment m.auth m.final refl in
    record {
      any = sym (ap not (any_marked marks));
      has = taken_more taken walked (destination_options header) m.has;
      hop_by_hop = d.hop_by_hop;
      destination = d.destination;
      routing = d.routing;
      fragment = d.fragment;
      auth = d.auth;
      final = d.final;
    }
mark_more taken walked marks (routing header) m = record {
  any = refl;
  has = taken_more taken walked (routing header) m.has;
  hop_by_hop = m.hop_by_hop;
  destination = m.destination;
  routing = refl;
  fragment = m.fragment;
  auth = m.auth;
  final = refl;
}
mark_more taken walked marks (fragment header) m = record {
  any = refl;
  has = taken_more taken walked (fragment header) m.has;
  hop_by_hop = m.hop_by_hop;
  destination = m.destination;
  routing = m.routing;
  fragment = refl;
  auth = m.auth;
  final = m.final;
}
mark_more taken walked marks (authentication header) m = record {
  any = refl;
  has = taken_more taken walked (authentication header) m.has;
  hop_by_hop = m.hop_by_hop;
  destination = m.destination;
  routing = m.routing;
  fragment = m.fragment;
  auth = refl;
  final = m.final;
}

-- ---- the unmarked header found is the next of the walk

by_routing : (walked : Ipv6Extensions) (following : Option Ipv6RoutingExtensions)
    → has_destination walked following ≡ (if is_some following then is_some
    (final_by following) else is_some walked.destination_options)
by_routing walked None = refl
by_routing walked (Some following) = refl

taken_destination : (taken : List ℕ) (walked : Ipv6Extensions) (marks : VisitedHeaders) → IsMarked taken walked marks
    → is_taken taken 60 ≡ (if marks.routing then marks.final_destination_options else marks.destination_options)
taken_destination taken walked marks m =
    m.has 60 ∙ by_routing walked walked.routing ∙ (λ i. if m.routing i then m.final i else m.destination i)

hop_found : (extensions : Ipv6Extensions) (taken : List ℕ) (any : Bool) → is_first taken ≡ not any
    → header_for extensions taken 0 ≡ (if any then None else option_map hop_by_hop extensions.hop_by_hop_options)
hop_found extensions [] true first = absurd (true≢false first)
hop_found extensions [] false first = refl
hop_found extensions (nearest ∷ taken) false first = absurd (false≢true first)
hop_found extensions (nearest ∷ taken) true first = grind (arith, common_steps)

-- Two choices by equal tests are equal.
choice_as : (test other : Bool) (choice : Option ExtensionPart) → test ≡ other
    → ◌≡◌ {A = Option ExtensionPart} (if test then None else choice) (if other then None else choice)
choice_as test other choice same = λ i. if same i then None else choice

destination_found : (test in_routing final destination : Bool) (choice other : Option ExtensionPart)
    → test ≡ (if in_routing then final else destination)
    → ◌≡◌ {A = Option ExtensionPart} (if test then None else (if in_routing then choice else other))
    (if in_routing then (if final then None else choice) else (if destination then None else other))
destination_found test true final destination choice other same = choice_as test final choice same
destination_found test false final destination choice other same = choice_as test destination other same

pub found_is : (extensions : Ipv6Extensions) (taken : List ℕ) (walked : Ipv6Extensions) (marks : VisitedHeaders) (number : ℕ)
    → IsMarked taken walked marks
    → header_for extensions taken number ≡ header_at extensions marks number
found_is extensions taken walked marks number m =
    elim (cases_eq number 0) [
      | inl is ↦ subst (λ (n : ℕ). header_for extensions taken n ≡ header_at extensions marks n) (sym is)
          (hop_found extensions taken marks.any m.any)
      | inr not_0 ↦ elim (cases_eq number 43) [
        | inl is ↦ subst (λ (n : ℕ). header_for extensions taken n ≡ header_at extensions marks n) (sym is)
            (choice_as _ _ _ (m.has 43 ∙ m.routing))
        | inr not_43 ↦ elim (cases_eq number 44) [
          | inl is ↦ subst (λ (n : ℕ). header_for extensions taken n ≡ header_at extensions marks n) (sym is)
              (choice_as _ _ _ (m.has 44 ∙ m.fragment))
          | inr not_44 ↦ elim (cases_eq number 51) [
            | inl is ↦ subst (λ (n : ℕ). header_for extensions taken n ≡ header_at extensions marks n) (sym is)
                (choice_as _ _ _ (m.has 51 ∙ m.auth))
            | inr not_51 ↦ elim (cases_eq number 60) [
              | inl is ↦ subst (λ (n : ℕ). header_for extensions taken n ≡ header_at extensions marks n) (sym is)
                  (at_60 extensions taken walked marks m)
              | inr not_60 ↦ nowhere extensions taken marks number not_0 not_43 not_44 not_51 not_60
            ]
          ]
        ]
      ]
    ]
  where
    at_60 : (extensions : Ipv6Extensions) (taken : List ℕ) (walked : Ipv6Extensions) (marks : VisitedHeaders)
        → IsMarked taken walked marks → header_for extensions taken 60 ≡ header_at extensions marks 60
    at_60 extensions taken walked marks m =
        let first = option_map destination_options extensions.destination_options in
        let final = option_map destination_options (final_by extensions.routing) in
        (λ i. if is_taken taken 60 then None else (if (m.has 43 ∙ m.routing) i then final else first))
        ∙ destination_found (is_taken taken 60) marks.routing marks.final_destination_options
        marks.destination_options final first (taken_destination taken walked marks m)

    nowhere : (extensions : Ipv6Extensions) (taken : List ℕ) (marks : VisitedHeaders) (number : ℕ) → (number ≡ 0 → ⊥)
        → (number ≡ 43 → ⊥) → (number ≡ 44 → ⊥) → (number ≡ 51 → ⊥) → (number ≡ 60 → ⊥)
        → header_for extensions taken number ≡ header_at extensions marks number
    nowhere extensions taken marks number a b c d e = grind (arith, common_steps)

-- ---- the header found

of_kind : {H : Type 0} (kind : H → ExtensionPart) (number : ℕ) → ((header : H) → number ≡ part_number (kind header))
    → (present : Option H) (part : ExtensionPart) → option_map kind present ≡ Some part
    → number ≡ part_number part
of_kind kind number numbered None part found = absurd (none-some part found)
of_kind kind number numbered (Some header) part found = let same : kind header ≡ part = cc in numbered header
    ∙ ap part_number same

pub untaken : (test : Bool) (choice : Option ExtensionPart) (part : ExtensionPart)
    → (if test then None else choice) ≡ Some part → (test ≡ false) × (choice ≡ Some part)
untaken true choice part found = absurd (none-some part found)
untaken false choice part found = (refl, found)

pub one_of : (test : Bool) (choice other : Option ExtensionPart) (P : Type 0) (part : ExtensionPart)
    → (choice ≡ Some part → P) → (other ≡ Some part → P) → (if test then choice else other) ≡ Some part → P
one_of true choice other P part a b found = a found
one_of false choice other P part a b found = b found

-- The header found is of the IP number's kind and has not been visited.
pub found_kind : (extensions : Ipv6Extensions) (taken : List ℕ) (number : ℕ) (part : ExtensionPart)
    → header_for extensions taken number ≡ Some part
    → (number ≡ part_number part) × (is_taken taken number ≡ false)
found_kind extensions taken number part found =
    let free = untaken _ _ part found in (
      elim (cases_eq number 0) [
        | inl is ↦ is ∙ at_0 extensions taken part (subst (λ (n : ℕ). header_for extensions taken n
            ≡ Some part) is found)
        | inr not_0 ↦ elim (cases_eq number 43) [
          | inl is ↦ is ∙ of_kind routing 43 (λ h. refl) _ part (untaken _ _ part (subst (λ
              (n : ℕ). header_for extensions taken n ≡ Some part) is found)).1
          | inr not_43 ↦ elim (cases_eq number 44) [
            | inl is ↦ is ∙ of_kind fragment 44 (λ h. refl) _ part (untaken _ _ part (subst (λ
                (n : ℕ). header_for extensions taken n ≡ Some part) is found)).1
            | inr not_44 ↦ elim (cases_eq number 51) [
              | inl is ↦ is ∙ of_kind authentication 51 (λ h. refl) _ part (untaken _ _ part (subst (λ
                  (n : ℕ). header_for extensions taken n ≡ Some part) is found)).1
              | inr not_51 ↦ elim (cases_eq number 60) [
                | inl is ↦ is ∙ at_60 extensions taken part (subst (λ (n : ℕ). header_for extensions taken n
                    ≡ Some part) is found)
                | inr not_60 ↦ absurd (none-some part (sym
                    (nowhere extensions taken number not_0 not_43 not_44 not_51 not_60) ∙ found))
              ]
            ]
          ]
        ]
      ],
      free.0,
    )
  where
    at_0 : (extensions : Ipv6Extensions) (taken : List ℕ) (part : ExtensionPart)
        → header_for extensions taken 0 ≡ Some part → 0 ≡ part_number part
    at_0 extensions taken part found =
        let hop = option_map hop_by_hop extensions.hop_by_hop_options in
        one_of (is_first taken) hop None (0 ≡ part_number part) part (of_kind hop_by_hop 0
        (λ h. refl) extensions.hop_by_hop_options part) (λ none. absurd (none-some part none))
        (untaken (is_taken taken 0) (if is_first taken then hop else None) part found).1

    at_60 : (extensions : Ipv6Extensions) (taken : List ℕ) (part : ExtensionPart)
        → header_for extensions taken 60 ≡ Some part → 60 ≡ part_number part
    at_60 extensions taken part found =
        let final = option_map destination_options (final_by extensions.routing) in
        let first = option_map destination_options extensions.destination_options in
        one_of (is_taken taken 43) final first (60 ≡ part_number part) part
        (of_kind destination_options 60 (λ h. refl) (final_by extensions.routing) part)
        (of_kind destination_options 60 (λ h. refl) extensions.destination_options part)
        (untaken (is_taken taken 60) (if is_taken taken 43 then final else first) part found).1

    nowhere : (extensions : Ipv6Extensions) (taken : List ℕ) (number : ℕ) → (number ≡ 0 → ⊥) → (number ≡ 43 → ⊥)
        → (number ≡ 44 → ⊥) → (number ≡ 51 → ⊥) → (number ≡ 60 → ⊥)
        → header_for extensions taken number ≡ None
    nowhere extensions taken number a b c d e = grind (arith, common_steps)

-- ---- a visited header leaves fewer unmarked

destination_fewer : (marks : VisitedHeaders) (present : Bool) → marks.routing ≡ present
    → (if present then marks.final_destination_options else marks.destination_options) ≡ false
    → marks_left (if present then record marks { any = true; final_destination_options = true } else record marks {
      any
          = true;
      destination_options = true;
    }) < marks_left marks
destination_fewer marks true is free =
    let before : (if marks.routing then unmarked marks.final_destination_options else 2) ≡ 1 =
    (λ i. if is i then unmarked (free i) else 2) in
    let after : (if marks.routing then unmarked true else 2) ≡ 0 = ap (λ
    (r : Bool). if r then unmarked true else 2) is in
    omega (arith, before, after)
destination_fewer marks false is free =
    let before : unmarked marks.destination_options ≡ 1 = ap unmarked free in
    omega (arith, before)

pub fewer_after : (taken : List ℕ) (walked : Ipv6Extensions) (marks : VisitedHeaders) (part : ExtensionPart)
    → IsMarked taken walked marks → is_taken taken (part_number part) ≡ false
    → marks_left (marked marks part) < marks_left marks
fewer_after taken walked marks (hop_by_hop header) m free =
    let before : unmarked marks.hop_by_hop ≡ 1 = ap unmarked (sym m.hop_by_hop ∙ sym (m.has 0)
    ∙ free) in omega (arith, before)
fewer_after taken walked marks (destination_options header) m free = destination_fewer marks marks.routing refl (sym
    (taken_destination taken walked marks m) ∙ free)
fewer_after taken walked marks (routing header) m free =
    let before : (if marks.routing then unmarked marks.final_destination_options else 2) ≡ 2
    = ap (λ (r : Bool). if r then unmarked marks.final_destination_options else 2) (sym m.routing ∙ sym (m.has 43)
    ∙ free) in omega (arith, before)
fewer_after taken walked marks (fragment header) m free =
    let before : unmarked marks.fragment ≡ 1 = ap unmarked (sym m.fragment ∙ sym (m.has 44)
    ∙ free) in omega (arith, before)
fewer_after taken walked marks (authentication header) m free =
    let before : unmarked marks.auth ≡ 1 = ap unmarked (sym m.auth ∙ sym (m.has 51) ∙ free) in omega (arith, before)

-- ---- progress of a walk

-- The next header fields lead from the first IP number through these headers to this number.
pub record WalkedBy (extensions : Ipv6Extensions) (first : ℕ) (parts : List ExtensionPart) (number : ℕ)
    (marks : VisitedHeaders) : Type 0 where
  pub taken : List ℕ
  pub is_marked : IsMarked taken (extensions_of parts) marks
  pub walk : (more : List ExtensionPart) (last : ℕ) → IsWalkAfter extensions taken number more last
      → IsWalkAfter extensions [] first (parts ++ more) last

pub record HasWalked (extensions : Ipv6Extensions) (first number : ℕ) (marks : VisitedHeaders) : Type 0 where
  pub parts : List ExtensionPart
  pub by : WalkedBy extensions first parts number marks

pub walk_start : (extensions : Ipv6Extensions) (first : ℕ) → WalkedBy extensions first [] first no_marks
walk_start extensions first = record { taken = []; is_marked = marked_none; walk = λ more last is. is }

-- The walk visits the unmarked header that is found.
found_for : (extensions : Ipv6Extensions) (first : ℕ) (parts : List ExtensionPart) (number : ℕ) (marks : VisitedHeaders)
    (answer : Option ExtensionPart) → (w : WalkedBy extensions first parts number marks)
    → answer ≡ header_at extensions marks number → header_for extensions w.taken number ≡ answer
found_for extensions first parts number marks answer w found = found_is extensions w.taken
    (extensions_of parts) marks number w.is_marked ∙ sym found

pub walk_more : (extensions : Ipv6Extensions) (first : ℕ) (parts : List ExtensionPart) (number : ℕ) (marks : VisitedHeaders)
    (part : ExtensionPart) (next : ℕ) (new : VisitedHeaders)
    → WalkedBy extensions first parts number marks → Some part ≡ header_at extensions marks number
    → next ≡ part_next part → new ≡ marked marks part
    → WalkedBy extensions first (parts ++ part ∷ []) next new
walk_more extensions first parts number marks part next new w found next_is new_is =
    let here = found_for extensions first parts number marks (Some part) w found in
    let kind = found_kind extensions w.taken number part here in
    let walked_is : extensions_of (parts ++ part ∷ []) ≡ with_part
    (extensions_of parts) part = with_parts-append no_ipv6_extensions parts part in
    let more : IsMarked (number ∷ w.taken) (with_part (extensions_of parts) part) (marked marks part)
    = subst (λ (n : ℕ). IsMarked (n ∷ w.taken) (with_part (extensions_of parts) part) (marked marks part))
    (sym kind.0) (mark_more w.taken (extensions_of parts) marks part w.is_marked) in
    record {
      taken = number ∷ w.taken;
      is_marked = subst (λ (e : Ipv6Extensions). IsMarked (number ∷ w.taken) e new) (sym walked_is)
          (subst (λ (m : VisitedHeaders). IsMarked (number ∷ w.taken) (with_part (extensions_of parts) part) m)
          (sym new_is) more);
      walk = λ rest last is. subst (λ (all : List ExtensionPart). IsWalkAfter extensions [] first all last) (sym
          (append_assoc parts (part ∷ []) rest))
          (w.walk (part ∷ rest) last (
            here,
            subst (λ (n : ℕ). IsWalkAfter extensions
                (number ∷ w.taken) n rest last) next_is is,
          ));
    }

pub walk_fewer : (extensions : Ipv6Extensions) (first : ℕ) (parts : List ExtensionPart) (number : ℕ) (marks : VisitedHeaders)
    (part : ExtensionPart) (new : VisitedHeaders)
    → WalkedBy extensions first parts number marks → Some part ≡ header_at extensions marks number
    → new ≡ marked marks part → marks_left new < marks_left marks
walk_fewer extensions first parts number marks part new w found new_is =
    let kind = found_kind extensions w.taken number part (found_for extensions first parts number marks
    (Some part) w found) in
    subst (λ (m : VisitedHeaders). marks_left m < marks_left marks) (sym new_is)
    (fewer_after w.taken (extensions_of parts) marks part w.is_marked (ap (is_taken w.taken) (sym kind.0) ∙ kind.1))

-- The walk ends if no unmarked header is found.
pub walk_end : (extensions : Ipv6Extensions) (first : ℕ) (parts : List ExtensionPart) (number : ℕ) (marks : VisitedHeaders)
    → WalkedBy extensions first parts number marks
    → None ≡ header_at extensions marks number → IsWalkAfter extensions [] first parts number
walk_end extensions first parts number marks w found =
    subst (λ (all : List ExtensionPart). IsWalkAfter extensions [] first all number) (append-nil parts)
    (w.walk [] number (found_for extensions first parts number marks None w found, refl))

-- The first unmarked header is the first one missing from the walk.
pub left_is : (extensions : Ipv6Extensions) (taken : List ℕ) (walked : Ipv6Extensions) (marks : VisitedHeaders)
    → IsMarked taken walked marks
    → missing_number extensions walked ≡ missing_at extensions marks
left_is extensions taken walked marks m = λ i.
    if is_some extensions.hop_by_hop_options && not (m.hop_by_hop i) then Some 0
    else if is_some extensions.destination_options && not (m.destination i) then Some 60
    else if is_some extensions.routing && not (m.routing i) then Some 43
    else if is_some extensions.fragment && not (m.fragment i) then Some 44
    else if is_some extensions.auth && not (m.auth i) then Some 51
    else if is_some (final_by extensions.routing) && not (m.final i) then Some 60
    else None

-- ---- a walk is unique

pub one_walk : (extensions : Ipv6Extensions) (taken : List ℕ) (number : ℕ) (parts other : List ExtensionPart)
    (last end : ℕ)
    → IsWalkAfter extensions taken number parts last → IsWalkAfter extensions taken number other end
    → (parts ≡ other) × (last ≡ end)
one_walk extensions taken number [] [] last end a b = (refl, a.1 ∙ sym b.1)
one_walk extensions taken number [] (part ∷ other) last end a b = absurd (none-some part (sym a.0 ∙ b.0))
one_walk extensions taken number (part ∷ parts) [] last end a b = absurd (none-some part (sym b.0 ∙ a.0))
one_walk extensions taken number (part ∷ parts) (also ∷ other) last end a b =
    let both : Some part ≡ Some also = sym a.0 ∙ b.0 in
    let same : part ≡ also = cc in
    let more = one_walk extensions (number ∷ taken) (part_next also) parts other last end
    (subst (λ (p : ExtensionPart). IsWalkAfter extensions (number ∷ taken) (part_next p) parts last) same a.1) b.1 in
    ((λ i. same i ∷ more.0 i), more.1)

-- A walk through all headers is not rejected.
pub walks_not_refused : (extensions : Ipv6Extensions) (first : ℕ) (parts : List ExtensionPart) (last : ℕ)
    (error : ExtsWalkError)
    → WalksAll extensions first parts last → RefusesWalk extensions first error → ⊥
walks_not_refused extensions first parts last error walks refused =
    let same = one_walk extensions [] first parts refused.0 last refused.1 walks.0 refused.3 in
    none-some refused.2 (sym walks.1 ∙ (λ i. missing_number extensions (extensions_of (same.0 i))) ∙ refused.4)

-- The error of a walk is unique.
pub one_walk_refusal : (extensions : Ipv6Extensions) (first : ℕ) (error other : ExtsWalkError)
    → RefusesWalk extensions first error → RefusesWalk extensions first other → error ≡ other
one_walk_refusal extensions first error other a b =
    let same = one_walk extensions [] first a.0 b.0 a.1 b.1 a.3 b.3 in
    let both : Some a.2 ≡ Some b.2 = sym a.4 ∙ (λ i. missing_number extensions (extensions_of (same.0 i))) ∙ b.4 in
    let missing : a.2 ≡ b.2 = cc in
    a.5 ∙ (λ i. walk_refusal (missing i) (same.1 i)) ∙ sym b.5

-- All walks through all headers end at one IP number.
pub one_walk_end : (extensions : Ipv6Extensions) (first : ℕ) (parts other : List ExtensionPart) (last end : ℕ)
    → WalksAll extensions first parts last → WalksAll extensions first other end → last ≡ end
one_walk_end extensions first parts other last end a b = (one_walk extensions [] first parts other last end a.0 b.0).1

-- ---- bytes written by a walk

parts_bytes-append : (parts : List ExtensionPart) (part : ExtensionPart)
    → parts_bytes (parts ++ part ∷ []) ≡ parts_bytes parts ++ part_bytes part
parts_bytes-append [] part = append-nil (part_bytes part)
parts_bytes-append (other ∷ parts) part =
    ap (λ (s : List ℕ). part_bytes other ++ s) (parts_bytes-append parts part)
    ∙ sym (append_assoc (part_bytes other) (parts_bytes parts) (part_bytes part))

pub record HasWritten (extensions : Ipv6Extensions) (first number : ℕ) (marks : VisitedHeaders)
    (start now : Vec ℕ) : Type 0 where
  pub parts : List ExtensionPart
  pub by : WalkedBy extensions first parts number marks
  pub fit : FitParts parts
  pub written : now.items ≡ start.items ++ parts_bytes parts
  pub capacity : vec_capacity start ≤ vec_capacity now
  pub room : vec_len start + length (parts_bytes (ipv6_parts extensions)) ≤ vec_capacity now

pub written_more : (start items more : List ℕ) (parts : List ExtensionPart) (part : ExtensionPart)
    → items ≡ start ++ parts_bytes parts → more ≡ items ++ part_bytes part
    → more ≡ start ++ parts_bytes (parts ++ part ∷ [])
written_more start items more parts part written more_is =
    more_is ∙ ap (λ (s : List ℕ). s ++ part_bytes part) written
    ∙ append_assoc start (parts_bytes parts) (part_bytes part)
    ∙ ap (λ (s : List ℕ). start ++ s) (sym (parts_bytes-append parts part))

pub fit_more : (parts : List ExtensionPart) (part : ExtensionPart) → FitParts parts → FitsPart part
    → FitParts (parts ++ part ∷ [])
fit_more [] part fit here = (here, tt)
fit_more (other ∷ parts) part fit here = (fit.0, fit_more parts part fit.1 here)

-- If the capacity suffices for all headers of a walk, it suffices for each.
pub space_for : (space len size all : ℕ) (parts : List ExtensionPart) (part : ExtensionPart) (rest : List ExtensionPart)
    → len + all ≤ space → length (parts_bytes ((parts ++ part ∷ []) ++ rest)) ≡ all
    → size ≡ len + length (parts_bytes parts) → size + length (part_bytes part) ≤ space
space_for space len size all parts part rest enough complete written = omega (
  arith,
  enough,
  complete,
  written,
  bytes-append (parts ++ part ∷ []) rest,
  ap length (parts_bytes-append parts part),
  length-append (parts_bytes parts) (part_bytes part),
)

-- A fact about error results holds for a result that is an error.
pub on_err : {A E : Type 0} (answer : Result A E) (P : Type 0) → is_err answer ≡ true → OnErr answer P → P
on_err (Ok value) P error holds = absurd (false≢true error)
on_err (Err error) P is holds = holds

-- A fact about Ok results holds for a result that is not an error.
pub on_ok : {A E : Type 0} (answer : Result A E) (P : Type 0) → is_err answer ≡ false → OnOk answer P → P
on_ok (Ok value) P none holds = holds
on_ok (Err error) P none holds = absurd (true≢false none)

-- A fact about Ok results holds for a result that is Ok.
pub when_ok : {A E : Type 0} (answer : Result A E) (P : Type 0) → is_ok answer ≡ true → OnOk answer P → P
when_ok (Ok value) P is holds = holds
when_ok (Err error) P is holds = absurd (false≢true is)

-- A call that fails only if the capacity is too small succeeds if it suffices.
pub succeeds : {A E : Type 0} (answer : Result A E) (space needed : ℕ) → OnErr answer (space < needed) → needed ≤ space
    → IsOk answer
succeeds (Ok value) space needed full enough = refl
succeeds (Err error) space needed full enough = absurd (omega (arith, full, enough))
