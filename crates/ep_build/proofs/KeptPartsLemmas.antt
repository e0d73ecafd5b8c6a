-- Linked extension headers keep what was given, except for their next headers.
use Rattle.std.proofs.Common.{◌≡◌, ℕ, List, [], ◌∷◌, ◌++◌, map, Option, Some, None, refl, sym, ap, subst, ◌∙◌, inl, inr}
use Rattle.std.specs.Option.{option_map}
use Rattle.ep_base.specs.IpNumbers.{authentication_number, destination_options_number, fragment_number}
use Rattle.ep_base.specs.IpNumbers.{hop_by_hop_number, routing_number}
use Rattle.ep_base.specs.declared.ip_number.IpNumber.{IpNumber}
use Rattle.ep_ext.specs.ExtensionParts.{ExtensionPart, authentication, destination_options, fragment, hop_by_hop}
use Rattle.ep_ext.specs.ExtensionParts.{optional_part, part_next, part_number, routing}
use Rattle.ep_ext.specs.Ipv4Chains.{ip_auth_leading_to, ipv4_first, ipv4_linked, ipv4_parts}
use Rattle.ep_ext.specs.Ipv6Chains.{after_auth, after_destination, after_fragment, after_hop_by_hop, after_routing}
use Rattle.ep_ext.specs.Ipv6Chains.{final_by, fragment_leading_to, ipv6_first, ipv6_linked, ipv6_parts, number_before}
use Rattle.ep_ext.specs.Ipv6Chains.{raw_leading_to, routing_header, routing_leading_to}
use Rattle.ep_ext.specs.declared.ip_auth_header.IpAuthHeader.{IpAuthHeader}
use Rattle.ep_ext.specs.declared.ipv4_exts.Ipv4Extensions.{Ipv4Extensions}
use Rattle.ep_ext.specs.declared.ipv6_exts.Ipv6Extensions.{Ipv6Extensions}
use Rattle.ep_ext.specs.declared.ipv6_routing_exts.Ipv6RoutingExtensions.{Ipv6RoutingExtensions}
use Rattle.ep_build.specs.KeptFields.{AreInOrder, KeepParts, KeepsPart, ipv6_order, number_of_first}
use Rattle.ep_build.proofs.HeaderListLemmas.{header_lists}

-- Headers are kept before others with this first number, and start with the number of the first one.
record AreKept (given : List ExtensionPart) (next : IpNumber) (first : IpNumber) (linked : List ExtensionPart)
    : Type 0 where
  pub kept : KeepParts given next.0 linked
  pub starts : number_of_first given next.0 ≡ first.0

first_append : (parts more : List ExtensionPart) (last : ℕ)
    → number_of_first (parts ++ more) last ≡ number_of_first parts (number_of_first more last)
first_append [] more last = refl
first_append (part ∷ parts) more last = refl

kept_append : (given more linked others : List ExtensionPart) (last : ℕ)
    → KeepParts given (number_of_first more last) linked → KeepParts more last others
    → KeepParts (given ++ more) last (linked ++ others)
kept_append [] more [] others last first second = second
kept_append [] more (part ∷ linked) others last first second = absurd first
kept_append (part ∷ given) more [] others last first second = absurd first
kept_append (part ∷ given) more (new ∷ linked) others last first second = (
  first.0,
  first.1 ∙ sym (first_append given more last),
  kept_append given more linked others last first.2 second,
)

-- Kept headers before kept headers are kept.
kept_both : (given more linked others : List ExtensionPart) (last between first : IpNumber)
    → AreKept given between first linked → AreKept more last between others
    → AreKept (given ++ more) last first (linked ++ others)
kept_both given more linked others last between first prefix back = record {
  kept = kept_append given more linked others last.0
      (subst (λ (n : ℕ). KeepParts given n linked) (sym back.starts) prefix.kept) back.kept;
  starts = first_append given more last.0 ∙ ap (number_of_first given) back.starts ∙ prefix.starts;
}

-- An optional header is kept if linking keeps it.
kept_optional : {H : Type 0} (kind : H → ExtensionPart) (number : ℕ) (leading_to : IpNumber → H → H) (next : IpNumber)
    → ((header : H) → part_number (kind header) ≡ number)
    → ((header : H) → KeepsPart (kind header) (kind (leading_to next header)))
    → ((header : H) → part_next (kind (leading_to next header)) ≡ next.0) → (found : Option H)
    → AreKept (optional_part kind found) next (number_before found number next)
    (optional_part kind (option_map (leading_to next) found))
kept_optional kind number leading_to next numbered keeps leads None = record { kept = tt; starts = refl }
kept_optional kind number leading_to next numbered keeps leads (Some header) =
    record { kept = (keeps header, leads header, tt); starts = numbered header }

kept_routing : (next last : IpNumber) (found : Option Ipv6RoutingExtensions)
    → AreKept (optional_part routing (option_map routing_header found)) next (number_before found routing_number next)
    (optional_part routing (option_map routing_header (option_map (routing_leading_to next last) found)))
kept_routing next last None = record { kept = tt; starts = refl }
kept_routing next last (Some exts) = record { kept = (refl, refl, tt); starts = refl }

kept_final : (next last : IpNumber) (found : Option Ipv6RoutingExtensions)
    → AreKept (optional_part destination_options (final_by found)) last
    (number_before (final_by found) destination_options_number last)
    (optional_part destination_options (final_by (option_map (routing_leading_to next last) found)))
kept_final next last None = record { kept = tt; starts = refl }
kept_final next last (Some exts) = kept_optional destination_options destination_options_number raw_leading_to last
    (λ header. refl) (λ header. refl) (λ header. refl) exts.final_destination_options

-- The first next header value leads to the first header.
pub record PartsKept (given : List ExtensionPart) (first last : ℕ) (linked : List ExtensionPart) : Type 0 where
  pub kept : KeepParts given last linked
  pub starts : first ≡ number_of_first given last

kept_auth : (last : IpNumber) (found : Option IpAuthHeader)
    → PartsKept (optional_part authentication found) (ipv4_first (record { auth = found }) last).0 last.0
    (optional_part authentication (option_map (ip_auth_leading_to last) found))
kept_auth last None = record { kept = tt; starts = refl }
kept_auth last (Some header) = record { kept = ((refl, refl, refl), refl, tt); starts = refl }

-- ---- order

-- Numbers in an order are in the order with one more number before it.
after_more : (numbers order : List ℕ) (first : ℕ) → AreInOrder numbers order → AreInOrder numbers (first ∷ order)
after_more [] order first in_order = tt
after_more (number ∷ numbers) order first in_order = inr in_order

order_append : (parts more : List ExtensionPart) (order others : List ℕ) → AreInOrder (map part_number parts) order
    → AreInOrder (map part_number more) others → AreInOrder (map part_number (parts ++ more)) (order ++ others)
order_append [] more [] others first second = second
order_append [] more (number ∷ order) others first second =
    after_more (map part_number more) (order ++ others) number (order_append [] more order others tt second)
order_append (part ∷ parts) more [] others first second = absurd first
order_append (part ∷ parts) more (number ∷ order) others (inl first) second =
    inl (first.0, order_append parts more order others first.1 second)
order_append (part ∷ parts) more (number ∷ order) others (inr first) second =
    inr (order_append (part ∷ parts) more order others first second)

optional_in_order : {H : Type 0} (kind : H → ExtensionPart) (number : ℕ) (found : Option H)
    → ((header : H) → part_number (kind header) ≡ number)
    → AreInOrder (map part_number (optional_part kind found)) (number ∷ [])
optional_in_order kind number None numbered = tt
optional_in_order kind number (Some header) numbered = inl (numbered header, tt)

-- The extension headers of owned IPv6 headers are in their order.
pub in_ipv6_order : (extensions : Ipv6Extensions) → AreInOrder (map part_number (ipv6_parts extensions)) ipv6_order
in_ipv6_order extensions =
    let lists = header_lists extensions in
    let ab = order_append lists.hop lists.destination (0 ∷ []) (60 ∷ [])
    (optional_in_order hop_by_hop 0 extensions.hop_by_hop_options (λ header. refl))
    (optional_in_order destination_options 60 extensions.destination_options (λ header. refl)) in
    let abc = order_append (lists.hop ++ lists.destination) lists.after (0 ∷ 60 ∷ []) (43 ∷ []) ab
    (optional_in_order routing 43 (option_map routing_header extensions.routing) (λ header. refl)) in
    let abcd = order_append (lists.hop ++ lists.destination ++ lists.after) lists.fragments (0 ∷ 60 ∷ 43 ∷ [])
    (44 ∷ []) abc (optional_in_order fragment 44 extensions.fragment (λ header. refl)) in
    let abcde = order_append (lists.hop ++ lists.destination ++ lists.after ++ lists.fragments) lists.auth
    (0 ∷ 60 ∷ 43 ∷ 44 ∷ []) (51 ∷ []) abcd
    (optional_in_order authentication 51 extensions.auth (λ header. refl)) in
    order_append (lists.hop ++ lists.destination ++ lists.after ++ lists.fragments ++ lists.auth) lists.final
    (0 ∷ 60 ∷ 43 ∷ 44 ∷ 51 ∷ []) (60 ∷ []) abcde
    (optional_in_order destination_options 60 (final_by extensions.routing) (λ header. refl))

-- ---- all headers

pub kept_4 : (extensions : Ipv4Extensions) (last : IpNumber)
    → PartsKept (ipv4_parts extensions) (ipv4_first extensions last).0 last.0 (ipv4_parts (ipv4_linked extensions last))
kept_4 extensions last = kept_auth last extensions.auth

pub kept_6 : (extensions : Ipv6Extensions) (last : IpNumber)
    → PartsKept (ipv6_parts extensions) (ipv6_first extensions last).0 last.0 (ipv6_parts (ipv6_linked extensions last))
kept_6 extensions last =
    let old = header_lists extensions in
    let new = header_lists (ipv6_linked extensions last) in
    let ab = kept_both old.hop old.destination new.hop new.destination (after_destination extensions last)
    (after_hop_by_hop extensions last) (ipv6_first extensions last)
    (kept_optional hop_by_hop hop_by_hop_number raw_leading_to (after_hop_by_hop extensions last)
    (λ header. refl) (λ header. refl) (λ header. refl) extensions.hop_by_hop_options)
    (kept_optional destination_options destination_options_number raw_leading_to (after_destination extensions last)
    (λ header. refl) (λ header. refl) (λ header. refl) extensions.destination_options) in
    let abc = kept_both (old.hop ++ old.destination) old.after (new.hop ++ new.destination) new.after
    (after_routing extensions last) (after_destination extensions last) (ipv6_first extensions last) ab
    (kept_routing (after_routing extensions last) last extensions.routing) in
    let abcd = kept_both (old.hop ++ old.destination ++ old.after) old.fragments
    (new.hop ++ new.destination ++ new.after) new.fragments
    (after_fragment extensions last) (after_routing extensions last) (ipv6_first extensions last) abc
    (kept_optional fragment fragment_number fragment_leading_to (after_fragment extensions last)
    (λ header. refl) (λ header. (refl, refl, refl)) (λ header. refl) extensions.fragment) in
    let abcde = kept_both (old.hop ++ old.destination ++ old.after ++ old.fragments) old.auth
    (new.hop ++ new.destination ++ new.after ++ new.fragments) new.auth
    (after_auth extensions last) (after_fragment extensions last) (ipv6_first extensions last) abcd
    (kept_optional authentication authentication_number ip_auth_leading_to (after_auth extensions last)
    (λ header. refl) (λ header. (refl, refl, refl)) (λ header. refl) extensions.auth) in
    let all = kept_both (old.hop ++ old.destination ++ old.after ++ old.fragments ++ old.auth) old.final
    (new.hop ++ new.destination ++ new.after ++ new.fragments ++ new.auth) new.final
    last (after_auth extensions last) (ipv6_first extensions last) abcde
    (kept_final (after_routing extensions last) last extensions.routing) in
    record { kept = all.kept; starts = sym all.starts }
