-- A walk along the IPv6 extension headers reaches exactly one end or is rejected with exactly one error.
use Rattle.std.proofs.Common.{◌≡◌, ◌⊎◌, ℕ, zero, suc, ◌<◌, List, [], ◌∷◌, Option, Some, None, refl, sym, ap, subst, ◌∙◌, inl, inr, arith}
use Rattle.ep_base.specs.Tables.{IsDecided}
use Rattle.ep_base.specs.declared.err.ipv6_exts.ExtsWalkError.{ExtsWalkError}
use Rattle.ep_base.specs.declared.ip_number.IpNumber.{IpNumber}
use Rattle.ep_ext.specs.declared.ipv6_exts.Ipv6Extensions.{Ipv6Extensions}
use Rattle.ep_ext.specs.declared.ipv6_exts_walk.VisitedHeaders.{VisitedHeaders}
use Rattle.ep_ext.specs.ExtensionParts.{ExtensionPart, part_next}
use Rattle.ep_ext.specs.Chains.{is_taken}
use Rattle.ep_ext.specs.Ipv6Chains.{no_ipv6_extensions, extensions_of, with_part, header_for, IsWalkAfter, missing_number, walk_refusal, IsWalk, RefusesWalk, ipv6_first, ipv6_linked, ipv6_parts}
use Rattle.ep_ext.specs.Walks.{marked}
use Rattle.ep_ext.proofs.WalkLemmas.{IsMarked, marked_none, mark_more, fewer_after, found_kind, one_walk, one_walk_refusal, walks_not_refused}
use Rattle.ep_ext.proofs.LinkLemmas.{linked_walk}
use Rattle.ep_ext.proofs.WalkMarkLemmas.{no_marks, marks_left}

option_cases : {A : Type 0} (answer : Option A) → (answer ≡ None) ⊎ ((some : A) × (answer ≡ Some some))
option_cases None = inl refl
option_cases (Some some) = inr (some, refl)

-- A walk from any IP number visits at most the headers not yet marked.
pub walk_present : (most : ℕ) (extensions : Ipv6Extensions) (taken : List ℕ) (walked : Ipv6Extensions) (marks : VisitedHeaders)
    (number : ℕ) → marks_left marks < most → IsMarked taken walked marks
    → (parts : List ExtensionPart) × (last : ℕ) × IsWalkAfter extensions taken number parts last
walk_present zero extensions taken walked marks number within m = absurd (omega arith)
walk_present (suc most) extensions taken walked marks number within m =
    elim (option_cases (header_for extensions taken number)) [
      | inl none ↦ ([], number, (none, refl))
      | inr found ↦
          let part = found.0 in
          let kind = found_kind extensions taken number part found.1 in
          let fewer = fewer_after taken walked marks part m (ap (is_taken taken) (sym kind.0) ∙ kind.1) in
          let more = subst (λ (n : ℕ). IsMarked (n ∷ taken) (with_part walked part) (marked marks part)) (sym kind.0)
          (mark_more taken walked marks part m) in
          let walk = walk_present most extensions (number ∷ taken) (with_part walked part) (marked marks part)
          (part_next part) (omega (arith, fewer, within)) more in
          (part ∷ walk.0, walk.1, (found.1, walk.2))
    ]

pub walk_decided : (extensions : Ipv6Extensions) (first : ℕ)
    → IsDecided (IsWalk extensions first) (RefusesWalk extensions first)
walk_decided extensions first =
    let walk = walk_present 7 extensions [] no_ipv6_extensions no_marks first (omega arith) marked_none in
    record {
      some = elim (option_cases (missing_number extensions (extensions_of walk.0))) [
        | inl none ↦ inl ((walk.0, walk.1), (walk.2, none))
        | inr missing ↦ inr (
          walk_refusal missing.0 walk.1,
          (walk.0, walk.1, missing.0, walk.2, missing.1, refl),
        )
      ];
      one_value = λ walk other a b.
          let same = one_walk extensions [] first walk.0 other.0 walk.1 other.1 a.0 b.0 in
          λ i. (same.0 i, same.1 i);
      one_error = λ error other a b. one_walk_refusal extensions first error other a b;
      not_both = λ walk error a b. walks_not_refused extensions first walk.0 walk.1 error a b;
    }

-- Linked headers are not rejected by a walk.
pub linked_not_refused : (extensions : Ipv6Extensions) (last : IpNumber) (error : ExtsWalkError)
    → RefusesWalk (ipv6_linked extensions last) (ipv6_first extensions last).0 error → ⊥
linked_not_refused extensions last error refused =
    let all = ipv6_linked extensions last in
    walks_not_refused all (ipv6_first extensions last).0 (ipv6_parts all) last.0 error (linked_walk extensions last)
    refused
