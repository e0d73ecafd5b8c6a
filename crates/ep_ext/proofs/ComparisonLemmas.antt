-- Comparison of headers compares all fields; of a padded array it compares the used bytes.
use Rattle.std.proofs.Common.{◌≡◌, ◌/◌, ◌&&◌, Bool, List, [], ◌∷◌, ◌++◌, length, Option, Some, None, refl, ap, subst, arith}
use Rattle.std.specs.Bool.{Decides}
use Rattle.std.specs.Option.{option_eq, option_map}
use Rattle.std.specs.Prelude.{nat_eq}
use Rattle.std.specs.Cmp.{booleans_Decides}
use Rattle.std.specs.Cmp.Lexicographic.{pointwise}
use Rattle.std.proofs.Math.Bool.{beq}
use Rattle.std.proofs.lemmas.Bool.Decides.{Decides-eqb}
use Rattle.std.proofs.lemmas.Option.{none-some}
use Rattle.ep_base.specs.Padding.{padded}
use Rattle.ep_base.proofs.ComparisonLemmas.{made_same, same_option, stored_same, two, two_same}
use Rattle.ep_ext.specs.declared.ip_auth_header.IpAuthHeader.{IpAuthHeader}
use Rattle.ep_ext.specs.declared.ipv6_fragment_header.Ipv6FragmentHeader.{Ipv6FragmentHeader}
use Rattle.ep_ext.specs.declared.ipv6_raw_ext_header.Ipv6RawExtHeader.{Ipv6RawExtHeader}
use Rattle.ep_ext.specs.IpAuth.{FitsIpAuth}
use Rattle.ep_ext.specs.RawExtension.{FitsRawExtension}
use Rattle.ep_ext.specs.declared.ipv6_exts.Ipv6Extensions.{Ipv6Extensions}
use Rattle.ep_ext.specs.declared.ipv6_routing_exts.Ipv6RoutingExtensions.{Ipv6RoutingExtensions}
use Rattle.ep_ext.specs.ExtensionParts.{ExtensionPart, hop_by_hop, destination_options, routing, fragment, authentication, FitsPart, optional_part}
use Rattle.ep_ext.specs.Chains.{FitParts}
use Rattle.ep_ext.specs.Ipv6Chains.{FitRouting, ipv6_parts, routing_header, final_by}

pub same_ip_auth : (a b : IpAuthHeader) → FitsIpAuth a → FitsIpAuth b
    → Decides (nat_eq a.next_header.0 b.next_header.0 && (nat_eq a.spi b.spi
    && (nat_eq a.sequence_number b.sequence_number && (pointwise nat_eq (padded 1016 a.icv) (padded 1016 b.icv)
    && nat_eq (length a.icv / 4) (length b.icv / 4))))) (a ≡ b)
same_ip_auth a b fits other =
    made_same (λ (h : IpAuthHeader). two h.next_header.0 (two h.spi (two h.sequence_number h.icv)))
    (λ p. record { next_header = record { 0 = p.0 }; spi = p.1.0; sequence_number = p.1.1.0; icv = p.1.1.1 }) (λ h. refl)
    a b
    (two_same (Decides-eqb a.next_header.0 b.next_header.0) (two_same (Decides-eqb a.spi b.spi)
    (two_same (Decides-eqb a.sequence_number b.sequence_number)
    (stored_same 1016 (λ n. n / 4) a.icv b.icv (λ words. omega (arith, words, fits.icv_words, other.icv_words))))))

-- Comparison of options or routing headers.
abbrev raw_extension_eq : Ipv6RawExtHeader → Ipv6RawExtHeader → Bool
raw_extension_eq a b = nat_eq a.next_header.0 b.next_header.0
    && (pointwise nat_eq (padded 2046 a.payload) (padded 2046 b.payload)
    && nat_eq (length a.payload / 8) (length b.payload / 8))

pub same_raw_extension : (a b : Ipv6RawExtHeader) → FitsRawExtension a → FitsRawExtension b
    → Decides (raw_extension_eq a b) (a ≡ b)
same_raw_extension a b fits other =
    made_same (λ (h : Ipv6RawExtHeader). two h.next_header.0 h.payload)
    (λ p. record { next_header = record { 0 = p.0 }; payload = p.1 }) (λ h. refl) a b
    (two_same (Decides-eqb a.next_header.0 b.next_header.0)
    (stored_same 2046 (λ n. n / 8) a.payload b.payload
    (λ units. omega (arith, units, fits.payload_units, other.payload_units))))

pub same_fragment : (a b : Ipv6FragmentHeader)
    → Decides (nat_eq a.next_header.0 b.next_header.0 && (nat_eq a.fragment_offset b.fragment_offset
    && (beq a.more_fragments b.more_fragments && nat_eq a.identification b.identification))) (a ≡ b)
same_fragment a b =
    made_same
    (λ (h : Ipv6FragmentHeader). two h.next_header.0 (two h.fragment_offset (two h.more_fragments h.identification)))
    (λ p. record {
      next_header = record { 0 = p.0 };
      fragment_offset = p.1.0;
      more_fragments = p.1.1.0;
      identification = p.1.1.1;
    }) (λ h. refl) a b
    (two_same (Decides-eqb a.next_header.0 b.next_header.0)
    (two_same (Decides-eqb a.fragment_offset b.fragment_offset)
    (two_same (booleans_Decides a.more_fragments b.more_fragments) (Decides-eqb a.identification b.identification))))

-- A present header of a list that fits also fits.
pub present_fits : {H : Type 0} (kind : H → ExtensionPart) (present : Option H) (header : H)
    → FitParts (optional_part kind present) → present ≡ Some header → FitsPart (kind header)
present_fits kind None header fit same = absurd (none-some header same)
present_fits kind (Some other) header fit same =
    let one : other ≡ header = cc in subst (λ h. FitsPart (kind h)) one fit.0

pub same_routing : (a b : Ipv6RoutingExtensions)
    → FitRouting a → FitRouting b
    → Decides (raw_extension_eq a.routing b.routing
    && option_eq raw_extension_eq a.final_destination_options b.final_destination_options) (a ≡ b)
same_routing a b fits other =
    made_same (λ (r : Ipv6RoutingExtensions). two r.routing r.final_destination_options)
    (λ p. record { routing = p.0; final_destination_options = p.1 }) (λ r. refl) a b
    (two_same (same_raw_extension a.routing b.routing fits.0 other.0)
    (same_option raw_extension_eq a.final_destination_options b.final_destination_options
    (λ x y is_x is_y. same_raw_extension x y
    (present_fits destination_options a.final_destination_options x fits.1 is_x)
    (present_fits destination_options b.final_destination_options y other.1 is_y))))

fit_prefix : (parts more : List ExtensionPart) → FitParts (parts ++ more) → FitParts parts
fit_prefix [] more fit = tt
fit_prefix (part ∷ parts) more fit = (fit.0, fit_prefix parts more fit.1)

fit_back : (parts more : List ExtensionPart) → FitParts (parts ++ more) → FitParts more
fit_back [] more fit = fit
fit_back (part ∷ parts) more fit = fit_back parts more fit.1

-- Each header of the value fits.
pub record FitEach (extensions : Ipv6Extensions) : Type 0 where
  pub hop : FitParts (optional_part hop_by_hop extensions.hop_by_hop_options)
  pub destination : FitParts (optional_part destination_options extensions.destination_options)
  pub after : FitParts (optional_part routing (option_map routing_header extensions.routing))
  pub auth : FitParts (optional_part authentication extensions.auth)
  pub final : FitParts (optional_part destination_options (final_by extensions.routing))

-- If each header of a value fits, so do its routing header and the destination options after it.
pub fit_routing : (extensions : Ipv6Extensions) (after : Ipv6RoutingExtensions) → FitEach extensions
    → extensions.routing ≡ Some after → FitRouting after
fit_routing extensions after fit is = (
  present_fits routing (option_map routing_header extensions.routing) after.routing fit.after
      (ap (option_map routing_header) is),
  subst (λ (r : Option Ipv6RoutingExtensions). FitParts (optional_part destination_options (final_by r))) is fit.final,
)

pub fit_each : (extensions : Ipv6Extensions) → FitParts (ipv6_parts extensions) → FitEach extensions
fit_each extensions fit =
    let a = optional_part hop_by_hop extensions.hop_by_hop_options in
    let b = optional_part destination_options extensions.destination_options in
    let c = optional_part routing (option_map routing_header extensions.routing) in
    let d = optional_part fragment extensions.fragment in
    let e = optional_part authentication extensions.auth in
    let f = optional_part destination_options (final_by extensions.routing) in
    let to_e = fit_prefix (a ++ b ++ c ++ d ++ e) f fit in
    let to_c = fit_prefix (a ++ b ++ c) d (fit_prefix (a ++ b ++ c ++ d) e to_e) in
    let to_b = fit_prefix (a ++ b) c to_c in
    record {
      hop = fit_prefix a b to_b;
      destination = fit_back a b to_b;
      after = fit_back (a ++ b) c to_c;
      auth = fit_back (a ++ b ++ c ++ d) e to_e;
      final = fit_back (a ++ b ++ c ++ d ++ e) f fit;
    }
