use Rattle.std.proofs.Common.{refl, ap}
use Rattle.std.proofs.lemmas.Bool.Decides.{Decides-like}
use Rattle.ep_base.proofs.ComparisonLemmas.{five, five_same, made_same, same_option}
use Rattle.ep_ext.specs.declared.ipv6_exts.Ipv6Extensions.{Ipv6Extensions}
use Rattle.ep_ext.specs.ExtensionParts.{hop_by_hop, destination_options, authentication}
use Rattle.ep_ext.proofs.ComparisonLemmas.{same_fragment, same_ip_auth, same_raw_extension, same_routing, present_fits, fit_each, fit_routing}
use Rattle.ep_ext.proofs.laws.comparisons.Goals as goal

pub returns-clause-fragment_header : goal.returns-clause-fragment_header
returns-clause-fragment_header c = same_fragment

pub returns-clause-ip_auth : goal.returns-clause-ip_auth
returns-clause-ip_auth c = same_ip_auth

pub returns-clause-raw_extension : goal.returns-clause-raw_extension
returns-clause-raw_extension c = same_raw_extension

pub returns-clause-ipv4 : goal.returns-clause-ipv4
returns-clause-ipv4 c a b fits other =
    Decides-like _ (λ same i. record { auth = same i }) (λ same. ap (λ e. e.auth) same)
    (same_option _ a.auth b.auth (λ x y is_x is_y. same_ip_auth x y (present_fits authentication a.auth x fits is_x)
    (present_fits authentication b.auth y other is_y)))

pub returns-clause-routing : goal.returns-clause-routing
returns-clause-routing c = same_routing

pub returns-clause-ipv6 : goal.returns-clause-ipv6
returns-clause-ipv6 c a b fits other =
    let f = fit_each a fits in
    let g = fit_each b other in
    made_same (λ (e : Ipv6Extensions). five e.hop_by_hop_options e.destination_options e.routing e.fragment e.auth)
    (λ p. record {
      hop_by_hop_options = p.0;
      destination_options = p.1;
      routing = p.2;
      fragment = p.3;
      auth = p.4;
    }) (λ e. refl) a b
    (five_same (same_option _ a.hop_by_hop_options b.hop_by_hop_options
    (λ x y is_x is_y. same_raw_extension x y (present_fits hop_by_hop a.hop_by_hop_options x f.hop is_x)
    (present_fits hop_by_hop b.hop_by_hop_options y g.hop is_y)))
    (same_option _ a.destination_options b.destination_options
    (λ x y is_x is_y. same_raw_extension x y (present_fits destination_options a.destination_options x f.destination is_x)
    (present_fits destination_options b.destination_options y g.destination is_y)))
    (same_option _ a.routing b.routing
    (λ x y is_x is_y. same_routing x y (fit_routing a x f is_x) (fit_routing b y g is_y)))
    (same_option _ a.fragment b.fragment (λ x y is_x is_y. same_fragment x y))
    (same_option _ a.auth b.auth
    (λ x y is_x is_y. same_ip_auth x y (present_fits authentication a.auth x f.auth is_x)
    (present_fits authentication b.auth y g.auth is_y))))
