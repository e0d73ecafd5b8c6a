-- Equal identifiers have equal keyed hashes.
use Rattle.std.proofs.Common.{◌≡◌, ℕ, Bool, true, List, refl}
use Rattle.std.specs.Hash.{HashWrites}
use Rattle.std.specs.declared.hash.RandomState.{RandomState}
use Rattle.std.proofs.lemmas.Bool.{and_parts, false≢true, eqb-true}
use Rattle.std.proofs.lemmas.Slice.Eq.{bytes_eq-Decides}
use Rattle.ep_defrag.specs.declared.ip_frag_id.IpFragVersionSpecId.{IpFragVersionSpecId}
use Rattle.ep_defrag.specs.declared.ip_frag_id.IpFragVersionSpecId.TheVariants.{Ipv4, Ipv6}
use Rattle.ep_defrag.specs.declared.ip_frag_id.IpFragId.{IpFragId}
use Rattle.ep_defrag.specs.Streams.{same_numbers, same_version, same_stream}
use Rattle.ep_defrag.specs.KeyedHashes.{name_writes, name_hash}

same_lists : (a b : List ℕ) → same_numbers a b ≡ true → a ≡ b
same_lists a b same = (bytes_eq-Decides a b).0 same

version_is : (a b : IpFragVersionSpecId) → same_version a b ≡ true → a ≡ b
version_is (Ipv4 source destination number) (Ipv4 source' destination' number') same =
    let parts = and_parts _ _ same in
    let lists = and_parts _ _ parts.0 in
    λ i. Ipv4 (same_lists source source' lists.0 i) (same_lists destination destination' lists.1 i)
    (eqb-true number number' parts.1 i)
version_is (Ipv6 source destination number) (Ipv6 source' destination' number') same =
    let parts = and_parts _ _ same in
    let lists = and_parts _ _ parts.0 in
    λ i. Ipv6 (same_lists source source' lists.0 i) (same_lists destination destination' lists.1 i)
    (eqb-true number number' parts.1 i)
version_is (Ipv4 source destination number) (Ipv6 source' destination' number') same = absurd (false≢true same)
version_is (Ipv6 source destination number) (Ipv4 source' destination' number') same = absurd (false≢true same)

-- Equal identifiers have equal hashes under the same keys, if equal channels make the same writes.
pub same_hash : {C : Type 0} (eq : C → C → Bool) (channel : C → HashWrites)
    → ((x y : C) → eq x y ≡ true → channel x ≡ channel y) → (keys : RandomState) (a b : IpFragId C)
    → same_stream eq a b ≡ true → name_hash channel keys a ≡ name_hash channel keys b
same_hash eq channel respects keys a b same =
    let last = and_parts _ _ same in
    let third = and_parts _ _ last.0 in
    let second = and_parts _ _ third.0 in
    let tags = same_lists a.vlan_ids.items b.vlan_ids.items second.0 in
    let version = version_is a.ip b.ip second.1 in
    let number = eqb-true a.payload_ip_number.0 b.payload_ip_number.0 third.1 in
    let writes : name_writes channel a ≡ name_writes channel b =
    rw (tags, version, number, respects a.channel_id b.channel_id last.1) refl in
    rw writes refl
