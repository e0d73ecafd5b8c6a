-- All headers of a value that the next header fields lead to have the length of the value.
use Rattle.std.proofs.Common.{◌≡◌, ℕ, ◌+◌, ◌&&◌, Bool, true, false, not, if◌then◌else◌, List, [], ◌∷◌, length, Option, Some, None, refl, sym, ap, subst, ◌∙◌, arith, length-append}
use Rattle.std.proofs.lemmas.Bool.{false≢true, true≢false}
use Rattle.std.proofs.lemmas.Option.{none-some}
use Rattle.std.specs.Option.{option_map, option_map_or, is_some}
use Rattle.ep_ext.specs.declared.ipv6_raw_ext_header.Ipv6RawExtHeader.{Ipv6RawExtHeader}
use Rattle.ep_ext.specs.declared.ipv6_exts.Ipv6Extensions.{Ipv6Extensions}
use Rattle.ep_ext.specs.declared.ipv6_routing_exts.Ipv6RoutingExtensions.{Ipv6RoutingExtensions}
use Rattle.ep_ext.specs.ExtensionParts.{ExtensionPart, hop_by_hop, destination_options, routing, fragment, authentication, part_number, part_next, part_bytes}
use Rattle.ep_ext.specs.IpAuth.{ip_auth_len}
use Rattle.ep_ext.specs.RawExtension.{raw_extension_len}
use Rattle.ep_ext.specs.Chains.{is_first, is_taken, parts_bytes}
use Rattle.ep_ext.specs.Ipv6Chains.{no_ipv6_extensions, extensions_of, with_part, with_parts, with_destination, ipv6_parts, routing_header, final_by, header_for, IsWalkAfter, is_left, missing_number, WalksAll}
use Rattle.ep_ext.proofs.ValueLemmas.{HasTaken, none_taken, taken_more, value_len}
use Rattle.ep_ext.proofs.ValueLawLemmas.{total, longer}
use Rattle.ep_ext.proofs.WalkLemmas.{found_kind, untaken, one_of}
use Rattle.ep_ext.proofs.LinkLemmas.{no_row}

-- ---- visited headers are those of the value

-- A visited header is equal to the present header.
abbrev From : {H : Type 0} → Option H → Option H → Type 0
From taken present = is_some taken ≡ true → taken ≡ present

none_from : {H : Type 0} (present : Option H) → From None present
none_from present some = absurd (false≢true some)

-- All visited headers are equal to the present headers.
record AreFrom (walked extensions : Ipv6Extensions) : Type 0 where
  hop : From walked.hop_by_hop_options extensions.hop_by_hop_options
  destination : From walked.destination_options extensions.destination_options
  route : From (option_map routing_header walked.routing) (option_map routing_header extensions.routing)
  fragmenting : From walked.fragment extensions.fragment
  authenticating : From walked.auth extensions.auth
  final : From (final_by walked.routing) (final_by extensions.routing)

none_are_from : (extensions : Ipv6Extensions) → AreFrom no_ipv6_extensions extensions
none_are_from extensions = record {
  hop = none_from extensions.hop_by_hop_options;
  destination = none_from extensions.destination_options;
  route = none_from (option_map routing_header extensions.routing);
  fragmenting = none_from extensions.fragment;
  authenticating = none_from extensions.auth;
  final = none_from (final_by extensions.routing);
}

-- A header found as one of a kind is present.
place : {H : Type 0} (kind : H → ExtensionPart) (present : Option H) (header : H)
    → ((other : H) → kind other ≡ kind header → other ≡ header) → option_map kind present ≡ Some (kind header)
    → present ≡ Some header
place kind None header one found = absurd (none-some (kind header) found)
place kind (Some other) header one found = let same : kind other ≡ kind header = cc in ap Some (one other same)

-- Destination options found are those after the routing header if it has been visited, else those before it.
destination_place : (after : Bool) (final first : Option Ipv6RawExtHeader) (header : Ipv6RawExtHeader)
    → (if after then option_map destination_options final else option_map destination_options first)
    ≡ Some (destination_options header)
    → (if after then final else first) ≡ Some header
destination_place true final first header found = place destination_options final header (λ other same. cc) found
destination_place false final first header found = place destination_options first header (λ other same. cc) found

destination_from : (walked extensions : Ipv6Extensions) (after : Option Ipv6RoutingExtensions)
    (header : Ipv6RawExtHeader) → walked.routing ≡ after → AreFrom walked extensions
    → (if is_some after then final_by extensions.routing else extensions.destination_options) ≡ Some header
    → AreFrom (with_destination walked header after) extensions
destination_from walked extensions None header same from found = record {
  hop = from.hop;
  destination = λ some. sym found;
  route = from.route;
  fragmenting = from.fragmenting;
  authenticating = from.authenticating;
  final = from.final;
}
destination_from walked extensions (Some after) header same from found = record {
  hop = from.hop;
  destination = from.destination;
  route = subst (λ (b : Option Ipv6RoutingExtensions). From (option_map routing_header b)
      (option_map routing_header extensions.routing)) same from.route;
  fragmenting = from.fragmenting;
  authenticating = from.authenticating;
  final = λ some. sym found;
}

-- Visited headers of the value stay so after one more header.
from_more : (extensions : Ipv6Extensions) (taken : List ℕ) (walked : Ipv6Extensions) (part : ExtensionPart)
    → HasTaken taken walked → AreFrom walked extensions
    → header_for extensions taken (part_number part) ≡ Some part → AreFrom (with_part walked part) extensions
from_more extensions taken walked (hop_by_hop header) has from found =
    let hop = option_map hop_by_hop extensions.hop_by_hop_options in
    let is = one_of (is_first taken) hop None (hop ≡ Some (hop_by_hop header)) (hop_by_hop header) (λ here. here)
    (λ none. absurd (none-some (hop_by_hop header) none))
    (untaken (is_taken taken 0) (if is_first taken then hop else None) (hop_by_hop header) found).1 in
    record {
      hop = λ some. sym (place hop_by_hop extensions.hop_by_hop_options header (λ other same. cc) is);
      destination = from.destination;
      route = from.route;
      fragmenting = from.fragmenting;
      authenticating = from.authenticating;
      final = from.final;
    }
from_more extensions taken walked (destination_options header) has from found =
    let final = final_by extensions.routing in
    let first = extensions.destination_options in
    let is = (untaken (is_taken taken 60) (if is_taken taken 43 then option_map destination_options final
    else option_map destination_options first) (destination_options header) found).1 in
    destination_from walked extensions walked.routing header refl from
    (destination_place (is_some walked.routing) final first header
    (subst (λ (b : Bool). (if b then option_map destination_options final
    else option_map destination_options first) ≡ Some (destination_options header)) (has 43) is))
from_more extensions taken walked (routing header) has from found =
    let is = (untaken (is_taken taken 43) (option_map routing (option_map routing_header extensions.routing))
    (routing header) found).1 in
    record {
      hop = from.hop;
      destination = from.destination;
      route = λ some. sym (place routing (option_map routing_header extensions.routing) header (λ other same. cc) is);
      fragmenting = from.fragmenting;
      authenticating = from.authenticating;
      final = none_from (final_by extensions.routing);
    }
from_more extensions taken walked (fragment header) has from found =
    let is = (untaken (is_taken taken 44) (option_map fragment extensions.fragment) (fragment header) found).1 in
    record {
      hop = from.hop;
      destination = from.destination;
      route = from.route;
      fragmenting = λ some. sym (place fragment extensions.fragment header (λ other same. cc) is);
      authenticating = from.authenticating;
      final = from.final;
    }
from_more extensions taken walked (authentication header) has from found =
    let is = (untaken (is_taken taken 51) (option_map authentication extensions.auth) (authentication header)
    found).1 in
    record {
      hop = from.hop;
      destination = from.destination;
      route = from.route;
      fragmenting = from.fragmenting;
      authenticating = λ some. sym (place authentication extensions.auth header (λ other same. cc) is);
      final = from.final;
    }

-- All headers of a walk are from the value, and their length is that of the value they make.
walk_from : (extensions : Ipv6Extensions) (taken : List ℕ) (walked : Ipv6Extensions) (number : ℕ)
    (parts : List ExtensionPart) (last : ℕ)
    → HasTaken taken walked → AreFrom walked extensions → IsWalkAfter extensions taken number parts last
    → AreFrom (with_parts walked parts) extensions
    × (total (with_parts walked parts) ≡ total walked + length (parts_bytes parts))
walk_from extensions taken walked number [] last has from is = (from, omega arith)
walk_from extensions taken walked number (part ∷ parts) last has from is =
    let kind = found_kind extensions taken number part is.0 in
    let found = subst (λ (n : ℕ). header_for extensions taken n ≡ Some part) kind.0 is.0 in
    let free = sym (has (part_number part)) ∙ ap (is_taken taken) (sym kind.0) ∙ kind.1 in
    let more_taken = subst (λ (n : ℕ). HasTaken (n ∷ taken) (with_part walked part)) (sym kind.0)
    (taken_more taken walked part has) in
    let more = walk_from extensions (number ∷ taken) (with_part walked part) (part_next part) parts last more_taken
    (from_more extensions taken walked part has from found) is.1 in (
      more.0,
      omega (
        arith,
        more.1,
        longer walked part free,
        length-append (part_bytes part) (parts_bytes parts),
      ),
    )

-- ---- all headers are visited if none is left

same_len : {H : Type 0} (len : H → ℕ) (taken present : Option H) → From taken present
    → (is_some present && not (is_some taken)) ≡ false → option_map_or len taken 0 ≡ option_map_or len present 0
same_len len (Some header) present from none = ap (λ (t : Option _). option_map_or len t 0) (from refl)
same_len len None None from none = refl
same_len len None (Some header) from none = absurd (true≢false none)

-- A routing header that is not left is visited.
header_left : (present taken : Option Ipv6RoutingExtensions) → (is_some present && not (is_some taken)) ≡ false
    → (is_some (option_map routing_header present) && not (is_some (option_map routing_header taken))) ≡ false
header_left None taken none = refl
header_left (Some after) None none = none
header_left (Some after) (Some other) none = none

-- No header of the first value is left by the second.
record NoneLeft (extensions walked : Ipv6Extensions) : Type 0 where
  hop : is_left extensions.hop_by_hop_options walked.hop_by_hop_options ≡ false
  destination : is_left extensions.destination_options walked.destination_options ≡ false
  route : is_left extensions.routing walked.routing ≡ false
  fragmenting : is_left extensions.fragment walked.fragment ≡ false
  authenticating : is_left extensions.auth walked.auth ≡ false
  final : is_left (final_by extensions.routing) (final_by walked.routing) ≡ false

none_left : (extensions walked : Ipv6Extensions) → missing_number extensions walked ≡ None
    → NoneLeft extensions walked
none_left extensions walked none =
    let a = no_row _ _ _ none in
    let b = no_row _ _ _ a.1 in
    let c = no_row _ _ _ b.1 in
    let d = no_row _ _ _ c.1 in
    let e = no_row _ _ _ d.1 in
    let f = no_row _ _ _ e.1 in
    record {
      hop = a.0;
      destination = b.0;
      route = c.0;
      fragmenting = d.0;
      authenticating = e.0;
      final = f.0;
    }

-- The headers that the next header fields lead to have the length of the value.
pub walk_len : (extensions : Ipv6Extensions) (first : ℕ) (parts : List ExtensionPart) (last : ℕ)
    → WalksAll extensions first parts last
    → length (parts_bytes parts) ≡ length (parts_bytes (ipv6_parts extensions))
walk_len extensions first parts last walks =
    let walked = extensions_of parts in
    let walk = walk_from extensions [] no_ipv6_extensions first parts last none_taken (none_are_from extensions)
    walks.0 in
    let from = walk.0 in
    let none = none_left extensions walked walks.1 in
    omega (
      arith,
      walk.1,
      value_len extensions,
      same_len raw_extension_len walked.hop_by_hop_options extensions.hop_by_hop_options from.hop none.hop,
      same_len raw_extension_len walked.destination_options extensions.destination_options from.destination
          none.destination,
      same_len raw_extension_len (option_map routing_header walked.routing)
          (option_map routing_header extensions.routing) from.route
          (header_left extensions.routing walked.routing none.route),
      same_len (λ _. 8) walked.fragment extensions.fragment from.fragmenting none.fragmenting,
      same_len ip_auth_len walked.auth extensions.auth from.authenticating none.authenticating,
      same_len raw_extension_len (final_by walked.routing) (final_by extensions.routing) from.final none.final,
    )
