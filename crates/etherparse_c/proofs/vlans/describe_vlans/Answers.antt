use Rattle.std.proofs.Common.{rules, ◌≡◌, ℕ, List, [], ◌∷◌, true, refl, subst}
use Rattle.etherparse.specs.LinkExtensions.{IsVlanType, vlan}
use Rattle.etherparse.specs.Vlan.{IsVlan}
use Rattle.etherparse.specs.VlanSlices.{vlan_slice_header, vlan_slice_parts, vlan_slice_payload}
use Rattle.etherparse_c.proofs.PlainLemmas.{one_vlan, two_vlans}
use Rattle.etherparse_c.proofs.vlans.describe_vlans.Goals as goal

pub returns-then-not-is_vlan-2 : goal.returns-then-not-is_vlan-2
returns-then-not-is_vlan-2 c =
    let tagged : c.is_vlan.result ≡ true = search rules in
    let ok = c.in-Ok.ensures.ok in
    let outer = c.in-Ok.outer in (
      vlan (vlan_slice_header outer) (vlan_slice_payload outer) ∷ [],
      one_vlan c.args.ether_type c.args.slice.now ok.0 outer _ (c.is_vlan.ensures tagged) ok.2 refl
          c.ether_type-then-not-is_vlan-2.ensures c.payload_slice.ensures,
      (λ i. c.vlan_part-first.ensures i ∷ c.no_tag-then-not-is_vlan-2-2.ensures i
          ∷ c.no_tag-then-not-is_vlan-2-3.ensures i ∷ []),
      refl,
    )

pub returns : goal.returns
returns c =
    let tagged : c.is_vlan.result ≡ true = search rules in
    let tagged_inside : c.is_vlan-2.result ≡ true = search rules in
    let ok = c.in-Ok.ensures.ok in
    let outer = c.in-Ok.outer in
    let inside = c.in-Ok-from_slice.ensures.ok in
    let inner = c.in-Ok-from_slice.inner in
    let of_type : IsVlanType (vlan_slice_header outer).ether_type =
    subst IsVlanType c.ether_type.ensures (c.is_vlan-2.ensures tagged_inside) in
    let is : IsVlan (vlan_slice_payload outer) (vlan_slice_parts inner inside.0) =
    subst (λ (b : List ℕ). IsVlan b (vlan_slice_parts inner inside.0)) c.payload_slice-2.ensures inside.2 in (
      vlan (vlan_slice_header outer) (vlan_slice_payload outer)
          ∷ vlan (vlan_slice_header inner) (vlan_slice_payload inner) ∷ [],
      two_vlans c.args.ether_type c.args.slice.now ok.0 inside.0 outer inner _ (c.is_vlan.ensures tagged) ok.2 of_type is
          refl c.ether_type-2.ensures c.payload_slice-3.ensures,
      (λ i. c.vlan_part-first.ensures i ∷ c.vlan_part-second.ensures i ∷ c.no_tag-2.ensures i ∷ []),
      refl,
    )
