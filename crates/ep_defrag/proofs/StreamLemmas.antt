-- Equality of stream identifiers is an equivalence, if that of channels is.
use Rattle.std.proofs.Common.{◌≡◌, Bool, true, ◌&&◌, eqb, List, ℕ, refl}
use Rattle.std.specs.Cmp.{IsEquivalence}
use Rattle.std.proofs.lemmas.Bool.{and_parts, false≢true}
use Rattle.std.proofs.lemmas.Cmp.{nat_list_eq_equiv, nat_eq_equiv}
use Rattle.ep_defrag.specs.declared.ip_frag_id.IpFragVersionSpecId.{IpFragVersionSpecId}
use Rattle.ep_defrag.specs.declared.ip_frag_id.IpFragVersionSpecId.TheVariants.{Ipv4, Ipv6}
use Rattle.ep_defrag.specs.Streams.{same_numbers, same_version, same_stream}

and_congr : (a b c d e f : Bool) → (a ≡ true → b ≡ c) → (d ≡ true → e ≡ f) → (a && d) ≡ true → (b && e) ≡ (c && f)
and_congr a b c d e f first second both =
    let parts = and_parts a d both in
    rw (first parts.0, second parts.1) refl

version_refl : (a : IpFragVersionSpecId) → same_version a a ≡ true
version_refl (Ipv4 source destination number) =
    rw (nat_list_eq_equiv.refl source, nat_list_eq_equiv.refl destination, nat_eq_equiv.refl number) refl
version_refl (Ipv6 source destination number) =
    rw (nat_list_eq_equiv.refl source, nat_list_eq_equiv.refl destination, nat_eq_equiv.refl number) refl

version_symm : (a b : IpFragVersionSpecId) → same_version a b ≡ same_version b a
version_symm (Ipv4 source destination number) (Ipv4 source' destination' number') =
    rw (
      nat_list_eq_equiv.symm source source',
      nat_list_eq_equiv.symm destination destination',
      nat_eq_equiv.symm number number',
    ) refl
version_symm (Ipv6 source destination number) (Ipv6 source' destination' number') =
    rw (
      nat_list_eq_equiv.symm source source',
      nat_list_eq_equiv.symm destination destination',
      nat_eq_equiv.symm number number',
    ) refl
version_symm (Ipv4 source destination number) (Ipv6 source' destination' number') = refl
version_symm (Ipv6 source destination number) (Ipv4 source' destination' number') = refl

address_congr : (s d s' d' s'' d'' : List ℕ) (n n' n'' : ℕ)
    → (same_numbers s s' && same_numbers d d' && eqb n n') ≡ true
    → (same_numbers s s'' && same_numbers d d'' && eqb n n'')
    ≡ (same_numbers s' s'' && same_numbers d' d'' && eqb n' n'')
address_congr s d s' d' s'' d'' n n' n'' =
    and_congr (same_numbers s s' && same_numbers d d') (same_numbers s s'' && same_numbers d d'')
    (same_numbers s' s'' && same_numbers d' d'') (eqb n n') (eqb n n'') (eqb n' n'')
    (and_congr (same_numbers s s') (same_numbers s s'') (same_numbers s' s'') (same_numbers d d') (same_numbers d d'')
    (same_numbers d' d'') (nat_list_eq_equiv.congr s s' s'') (nat_list_eq_equiv.congr d d' d''))
    (nat_eq_equiv.congr n n' n'')

version_congr : (a b c : IpFragVersionSpecId) → same_version a b ≡ true → same_version a c ≡ same_version b c
version_congr (Ipv4 s d n) (Ipv4 s' d' n') (Ipv4 s'' d'' n'') alike = address_congr s d s' d' s'' d'' n n' n'' alike
version_congr (Ipv6 s d n) (Ipv6 s' d' n') (Ipv6 s'' d'' n'') alike = address_congr s d s' d' s'' d'' n n' n'' alike
version_congr (Ipv4 s d n) (Ipv4 s' d' n') (Ipv6 s'' d'' n'') alike = refl
version_congr (Ipv6 s d n) (Ipv6 s' d' n') (Ipv4 s'' d'' n'') alike = refl
version_congr (Ipv4 s d n) (Ipv6 s' d' n') c alike = absurd (false≢true alike)
version_congr (Ipv6 s d n) (Ipv4 s' d' n') c alike = absurd (false≢true alike)

pub same_stream_laws : {C : Type 0} (eq : C → C → Bool) → IsEquivalence eq → IsEquivalence (same_stream eq)
same_stream_laws eq laws = record {
  refl = λ a.
      rw (
        nat_list_eq_equiv.refl a.vlan_ids.items,
        version_refl a.ip,
        nat_eq_equiv.refl a.payload_ip_number.0,
        laws.refl a.channel_id,
      ) refl;
  symm = λ a b.
      rw (
        nat_list_eq_equiv.symm a.vlan_ids.items b.vlan_ids.items,
        version_symm a.ip b.ip,
        nat_eq_equiv.symm a.payload_ip_number.0 b.payload_ip_number.0,
        laws.symm a.channel_id b.channel_id,
      ) refl;
  congr = λ a b c.
      and_congr
      (same_numbers a.vlan_ids.items b.vlan_ids.items && same_version a.ip b.ip
      && eqb a.payload_ip_number.0 b.payload_ip_number.0)
      _ _ (eq a.channel_id b.channel_id) _ _
      (and_congr (same_numbers a.vlan_ids.items b.vlan_ids.items && same_version a.ip b.ip)
      _ _ (eqb a.payload_ip_number.0 b.payload_ip_number.0) _ _
      (and_congr (same_numbers a.vlan_ids.items b.vlan_ids.items) _ _ (same_version a.ip b.ip) _ _
      (nat_list_eq_equiv.congr a.vlan_ids.items b.vlan_ids.items c.vlan_ids.items) (version_congr a.ip b.ip c.ip))
      (nat_eq_equiv.congr a.payload_ip_number.0 b.payload_ip_number.0 c.payload_ip_number.0))
      (laws.congr a.channel_id b.channel_id c.channel_id);
}
