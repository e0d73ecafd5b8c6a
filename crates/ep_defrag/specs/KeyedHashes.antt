-- Keyed hash of a stream identifier: SipHash of words of eight bytes, and of the channel as it hashes itself. Equal
-- identifiers have equal hashes; no answer of a pool depends on more.
use Rattle.std.specs.Prelude.{ℕ, ◌+◌, ◌*◌, ◌^◌, [], ◌∷◌, ◌++◌, length, fold}
use Rattle.std.specs.Int.{w32, from_le_bytes}
use Rattle.std.specs.List.{flat_map}
use Rattle.std.specs.Hash.{HashWrites, u64}
use Rattle.std.specs.Hash.DefaultHasher as sip
use Rattle.std.specs.RandomState.{initial_hasher}
use Rattle.std.specs.declared.hash.RandomState.{RandomState}
use Rattle.ep_defrag.specs.declared.ip_frag_id.IpFragVersionSpecId.{IpFragVersionSpecId}
use Rattle.ep_defrag.specs.declared.ip_frag_id.IpFragVersionSpecId.TheVariants.{Ipv4, Ipv6}
use Rattle.ep_defrag.specs.declared.ip_frag_id.IpFragId.{IpFragId}

-- version and identification as one number: the version in the byte above the protocol number, the identification in
-- the upper half
abbrev pub version_word : IpFragVersionSpecId → ℕ
version_word (Ipv4 source destination identification) = identification * 2 ^ 32 + 4 * 2 ^ 8
version_word (Ipv6 source destination identification) = identification * 2 ^ 32 + 6 * 2 ^ 8

-- first word of an identifier: with the number of VLAN identifiers and the protocol number
abbrev pub first_word : {C : Type 0} → IpFragId C → ℕ
first_word id = version_word id.ip + length id.vlan_ids.items * 2 ^ 16 + id.payload_ip_number.0

-- writes of the addresses
abbrev pub address_writes : IpFragVersionSpecId → HashWrites
address_writes (Ipv4 source destination identification) =
    u64 (from_le_bytes w32 source * 2 ^ 32 + from_le_bytes w32 destination)
address_writes (Ipv6 source destination identification) = source ∷ destination ∷ []

-- writes of an identifier, if a channel makes the writes `channel`
abbrev pub name_writes : {C : Type 0} → (C → HashWrites) → IpFragId C → HashWrites
name_writes channel id =
    u64 (first_word id) ++ flat_map u64 id.vlan_ids.items ++ address_writes id.ip ++ channel id.channel_id

-- hash of an identifier under the keys
abbrev pub name_hash : {C : Type 0} → (C → HashWrites) → RandomState → IpFragId C → ℕ
name_hash channel keys id = sip.finish (fold sip.write (initial_hasher keys) (name_writes channel id))
