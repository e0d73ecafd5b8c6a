use Rattle.std.proofs.Common.{◌≡◌, drop, fold}
use Rattle.std.specs.List.{flat_map}
use Rattle.std.specs.Hash.{u64}
use Rattle.ep_defrag.proofs.keyed_hash.write_tags.Given as goal

abbrev pub invariant-loop-vlan_id : goal.invariant-loop-vlan_id
invariant-loop-vlan_id g l =
    fold g.H.Hasher.write l.hasher (flat_map u64 (drop l.vlan_id-index l.vlan_id-items))
    ≡ fold g.H.Hasher.write l.initial.hasher (flat_map u64 l.vlan_id-items)
