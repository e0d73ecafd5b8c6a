-- Header fields that fit still do after linking and setting the length, if no row of the table is met.
use Rattle.std.proofs.Common.{◌≡◌, ℕ, ◌+◌, ◌-◌, ◌^◌, ◌<◌, ◌≤◌, List, [], ◌∷◌, ◌++◌, Option, Some, None, arith}
use Rattle.std.specs.Prelude.{nat_lt}
use Rattle.std.specs.Option.{option_map}
use Rattle.std.proofs.lemmas.Grind.{common_steps}
use Rattle.ep_base.specs.IpNumbers.{authentication_number, destination_options_number, fragment_number}
use Rattle.ep_base.specs.IpNumbers.{hop_by_hop_number, routing_number}
use Rattle.ep_base.specs.Tables.{first_row}
use Rattle.ep_base.specs.declared.ip_number.IpNumber.{IpNumber}
use Rattle.ep_ext.specs.Chains.{FitParts}
use Rattle.ep_ext.specs.ExtensionParts.{ExtensionPart, FitsPart, authentication, destination_options, fragment}
use Rattle.ep_ext.specs.ExtensionParts.{hop_by_hop}
use Rattle.ep_ext.specs.ExtensionParts.{optional_part, routing}
use Rattle.ep_ext.specs.FragmentHeader.{FitsFragmentHeader}
use Rattle.ep_ext.specs.IpAuth.{FitsIpAuth}
use Rattle.ep_ext.specs.Ipv4Chains.{ip_auth_leading_to, ipv4_first}
use Rattle.ep_ext.specs.Ipv6Chains.{after_auth, after_destination, after_fragment, after_hop_by_hop, after_routing}
use Rattle.ep_ext.specs.Ipv6Chains.{final_by, fragment_leading_to, ipv6_first, ipv6_linked, ipv6_parts, number_before}
use Rattle.ep_ext.specs.Ipv6Chains.{raw_leading_to, routing_header, routing_leading_to}
use Rattle.ep_ext.specs.RawExtension.{FitsRawExtension}
use Rattle.ep_ext.specs.declared.ip_auth_header.IpAuthHeader.{IpAuthHeader}
use Rattle.ep_ext.specs.declared.ipv6_exts.Ipv6Extensions.{Ipv6Extensions}
use Rattle.ep_ext.specs.declared.ipv6_fragment_header.Ipv6FragmentHeader.{Ipv6FragmentHeader}
use Rattle.ep_ext.specs.declared.ipv6_raw_ext_header.Ipv6RawExtHeader.{Ipv6RawExtHeader}
use Rattle.ep_ext.specs.declared.ipv6_routing_exts.Ipv6RoutingExtensions.{Ipv6RoutingExtensions}
use Rattle.ep_packet.specs.IpHeaders.{FitIpHeaders, headers_for, ip_extensions_len, most_after_header}
use Rattle.ep_packet.specs.declared.ip_headers.IpHeaders.{IpHeaders}
use Rattle.ep_packet.specs.declared.ip_headers.IpHeaders.TheVariants as version
use Rattle.ep_build.specs.BuildErrors.{IsBuildable}
use Rattle.ep_build.specs.BuiltFrames.{ip_frame_headers}
use Rattle.ep_build.specs.declared.link_part.LinkPart.{LinkPart}
use Rattle.ep_build.proofs.LengthLemmas.{linked_len}
use Rattle.ep_build.proofs.HeaderListLemmas.{header_lists}

-- ---- next header values

-- The next header value before an optional header is a byte.
before_fits : {H : Type 0} (present : Option H) (number : ℕ) (next : IpNumber) → number < 2 ^ 8 → next.0 < 2 ^ 8
    → (number_before present number next).0 < 2 ^ 8
before_fits None number next small fits = fits
before_fits (Some header) number next small fits = small

first_fits_4 : (auth : Option IpAuthHeader) (last : IpNumber) → last.0 < 2 ^ 8
    → (ipv4_first (record { auth = auth }) last).0 < 2 ^ 8
first_fits_4 None last small = small
first_fits_4 (Some header) last small = omega arith

-- The next header values of linked headers are bytes.
record NumbersFit (extensions : Ipv6Extensions) (last : IpNumber) : Type 0 where
  pub auth : (after_auth extensions last).0 < 2 ^ 8
  pub fragment : (after_fragment extensions last).0 < 2 ^ 8
  pub routing : (after_routing extensions last).0 < 2 ^ 8
  pub destination : (after_destination extensions last).0 < 2 ^ 8
  pub hop_by_hop : (after_hop_by_hop extensions last).0 < 2 ^ 8
  pub first : (ipv6_first extensions last).0 < 2 ^ 8

numbers_fit : (extensions : Ipv6Extensions) (last : IpNumber) → last.0 < 2 ^ 8 → NumbersFit extensions last
numbers_fit extensions last small =
    let a = before_fits (final_by extensions.routing) destination_options_number last (omega arith) small in
    let f = before_fits extensions.auth authentication_number (after_auth extensions last) (omega arith) a in
    let r = before_fits extensions.fragment fragment_number (after_fragment extensions last) (omega arith) f in
    let d = before_fits extensions.routing routing_number (after_routing extensions last) (omega arith) r in
    let h = before_fits extensions.destination_options destination_options_number (after_destination extensions last)
    (omega arith) d in record {
      auth = a;
      fragment = f;
      routing = r;
      destination = d;
      hop_by_hop = h;
      first = before_fits extensions.hop_by_hop_options hop_by_hop_number (after_hop_by_hop extensions last)
          (omega arith) h;
    }

-- ---- extension headers

raw_fits : (next : IpNumber) (header : Ipv6RawExtHeader) → next.0 < 2 ^ 8 → FitsRawExtension header
    → FitsRawExtension (raw_leading_to next header)
raw_fits next header small fits = record {
  next_header = small;
  payload_least = fits.payload_least;
  payload_len = fits.payload_len;
  payload_units = fits.payload_units;
  payload = fits.payload;
}

fragment_fits : (next : IpNumber) (header : Ipv6FragmentHeader) → next.0 < 2 ^ 8 → FitsFragmentHeader header
    → FitsFragmentHeader (fragment_leading_to next header)
fragment_fits next header small fits = record {
  next_header = small;
  fragment_offset = fits.fragment_offset;
  identification = fits.identification;
}

auth_fits : (next : IpNumber) (header : IpAuthHeader) → next.0 < 2 ^ 8 → FitsIpAuth header
    → FitsIpAuth (ip_auth_leading_to next header)
auth_fits next header small fits = record {
  next_header = small;
  spi = fits.spi;
  sequence_number = fits.sequence_number;
  icv_len = fits.icv_len;
  icv_words = fits.icv_words;
  icv = fits.icv;
}

-- A change that keeps a header's fields fitting does so for an optional header.
present_fits : {H : Type 0} (kind : H → ExtensionPart) (change : H → H)
    → ((header : H) → FitsPart (kind header) → FitsPart (kind (change header))) → (present : Option H)
    → FitParts (optional_part kind present) → FitParts (optional_part kind (option_map change present))
present_fits kind change each None fit = tt
present_fits kind change each (Some header) fit = (each header fit.0, tt)

routing_fits : (next last : IpNumber) (after : Option Ipv6RoutingExtensions) → next.0 < 2 ^ 8
    → FitParts (optional_part routing (option_map routing_header after))
    → FitParts (optional_part routing (option_map routing_header (option_map (routing_leading_to next last) after)))
routing_fits next last None small fit = tt
routing_fits next last (Some after) small fit = (raw_fits next after.routing small fit.0, tt)

final_fits : (next last : IpNumber) (after : Option Ipv6RoutingExtensions) → last.0 < 2 ^ 8
    → FitParts (optional_part destination_options (final_by after))
    → FitParts (optional_part destination_options (final_by (option_map (routing_leading_to next last) after)))
final_fits next last None small fit = tt
final_fits next last (Some after) small fit = present_fits destination_options (raw_leading_to last)
    (λ header fits. raw_fits last header small fits) after.final_destination_options fit

-- The fields of two concatenated lists of headers fit.
fit_append : (parts more : List ExtensionPart) → FitParts parts → FitParts more → FitParts (parts ++ more)
fit_append [] more fit other = other
fit_append (part ∷ parts) more fit other = (fit.0, fit_append parts more fit.1 other)

fit_prefix : (parts more : List ExtensionPart) → FitParts (parts ++ more) → FitParts parts
fit_prefix [] more fit = tt
fit_prefix (part ∷ parts) more fit = (fit.0, fit_prefix parts more fit.1)

fit_back : (parts more : List ExtensionPart) → FitParts (parts ++ more) → FitParts more
fit_back [] more fit = fit
fit_back (part ∷ parts) more fit = fit_back parts more fit.1

fit_both : (parts new more others : List ExtensionPart) → (FitParts parts → FitParts new)
    → (FitParts more → FitParts others) → FitParts (parts ++ more) → FitParts (new ++ others)
fit_both parts new more others first second fit =
    fit_append new others (first (fit_prefix parts more fit)) (second (fit_back parts more fit))

parts_fit_6 : (extensions : Ipv6Extensions) (last : IpNumber) → last.0 < 2 ^ 8 → FitParts (ipv6_parts extensions)
    → FitParts (ipv6_parts (ipv6_linked extensions last))
parts_fit_6 extensions last small =
    let old = header_lists extensions in
    let new = header_lists (ipv6_linked extensions last) in
    let numbers = numbers_fit extensions last small in
    let ab = fit_both old.hop new.hop old.destination new.destination
    (present_fits hop_by_hop (raw_leading_to (after_hop_by_hop extensions last))
    (λ header fits. raw_fits (after_hop_by_hop extensions last) header numbers.hop_by_hop fits)
    extensions.hop_by_hop_options)
    (present_fits destination_options (raw_leading_to (after_destination extensions last))
    (λ header fits. raw_fits (after_destination extensions last) header numbers.destination fits)
    extensions.destination_options) in
    let abc = fit_both (old.hop ++ old.destination) (new.hop ++ new.destination) old.after new.after ab
    (routing_fits (after_routing extensions last) last extensions.routing numbers.routing) in
    let fit_before_auth = fit_both (old.hop ++ old.destination ++ old.after) (new.hop ++ new.destination ++ new.after)
    old.fragments new.fragments abc
    (present_fits fragment (fragment_leading_to (after_fragment extensions last))
    (λ header fits. fragment_fits (after_fragment extensions last) header numbers.fragment fits) extensions.fragment) in
    let abcde = fit_both (old.hop ++ old.destination ++ old.after ++ old.fragments)
    (new.hop ++ new.destination ++ new.after ++ new.fragments) old.auth new.auth fit_before_auth
    (present_fits authentication (ip_auth_leading_to (after_auth extensions last))
    (λ header fits. auth_fits (after_auth extensions last) header numbers.auth fits) extensions.auth) in
    fit_both (old.hop ++ old.destination ++ old.after ++ old.fragments ++ old.auth)
    (new.hop ++ new.destination ++ new.after ++ new.fragments ++ new.auth) old.final new.final abcde
    (final_fits (after_routing extensions last) last extensions.routing small)

-- ---- length

within : {E : Type 0} (total most : ℕ) (first second : E)
    → first_row ((nat_lt (2 ^ 64 - 1) total, first) ∷ (nat_lt most total, second) ∷ []) ≡ None → total ≤ most
within total most first second none = grind (arith, common_steps)

-- The length field can count the length if no row of the table is met.
counts : (part : LinkPart) (headers : IpHeaders) (last : IpNumber) (len : ℕ)
    → IsBuildable (ip_frame_headers part headers last) len → len + ip_extensions_len headers ≤ most_after_header headers
counts part headers last len buildable =
    within (len + ip_extensions_len headers) (most_after_header headers) _ _ buildable

-- ---- all headers

pub linked_fit : (part : LinkPart) (headers : IpHeaders) (last : IpNumber) (len : ℕ) → FitIpHeaders headers
    → last.0 < 2 ^ 8 → IsBuildable (ip_frame_headers part headers last) len → FitIpHeaders (headers_for headers last len)
linked_fit part (version.Ipv4 header extensions) last len fit small buildable = (
  record {
    dscp = fit.0.dscp;
    ecn = fit.0.ecn;
    total_len = omega (
      arith,
      counts part (version.Ipv4 header extensions) last len buildable,
      linked_len (version.Ipv4 header extensions) last,
      fit.0.options_len,
    );
    identification = fit.0.identification;
    fragment_offset = fit.0.fragment_offset;
    time_to_live = fit.0.time_to_live;
    protocol = first_fits_4 extensions.auth last small;
    header_checksum = fit.0.header_checksum;
    source_len = fit.0.source_len;
    source = fit.0.source;
    destination_len = fit.0.destination_len;
    destination = fit.0.destination;
    options_len = fit.0.options_len;
    options_words = fit.0.options_words;
    options = fit.0.options;
  },
  present_fits authentication (ip_auth_leading_to last) (λ auth fits. auth_fits last auth small fits) extensions.auth
      fit.1,
)
linked_fit part (version.Ipv6 header extensions) last len fit small buildable = (
  record {
    traffic_class = fit.0.traffic_class;
    flow_label = fit.0.flow_label;
    payload_length = omega (
      arith,
      counts part (version.Ipv6 header extensions) last len buildable,
      linked_len (version.Ipv6 header extensions) last,
    );
    next_header = (numbers_fit extensions last small).first;
    hop_limit = fit.0.hop_limit;
    source_len = fit.0.source_len;
    source = fit.0.source;
    destination_len = fit.0.destination_len;
    destination = fit.0.destination;
  },
  parts_fit_6 extensions last small fit.1,
)
