-- Sets of hosts in the steps of a filter: hosts that are joined by `or`.
use Rattle.std.specs.Prelude.{◌≡◌, ◌≢◌, ℕ, ◌≤◌, Bool, false, List, ◌++◌, length, map, drop}
use Rattle.std.specs.List.{All, list_any}
use Rattle.std.specs.List.Sorted.{IsPermutation}
use Rattle.std.specs.Option.{option_map_or}
use Rattle.std.specs.Str.{bytes_eq}
use Rattle.filter_tokens.specs.declared.network.Network.{Network}
use Rattle.filter_tokens.specs.declared.primitive.Side.TheVariants.{Both}
use Rattle.filter_tokens.specs.Networks.{bytes_of}
use Rattle.packet_filter.specs.declared.host_set.HostSet.{HostSet}
use Rattle.filter_language.specs.declared.step.Step.{Step}
use Rattle.packet_filter.specs.HostRuns.{IsHost, host_number, or_hosts}
use Rattle.packet_filter.specs.Meaning.{at_side_of}
use Rattle.packet_filter.specs.Packets.{Packet, addresses_of}

-- Steps that begin with the hosts of a set.
pub record BeginsHostSet (steps : List Step) (set : HostSet) : Type 0 where
  pub hosts : List Network
  pub after : List Step
  pub are : steps ≡ or_hosts set.layer set.side hosts ++ after
  pub left : set.left ≡ length steps
  pub len : set.len ≡ length (or_hosts set.layer set.side hosts)
  pub some : 1 ≤ set.len
  pub all : All (IsHost set.width) hosts
  pub numbers : IsPermutation (map host_number hosts) set.numbers.items
  pub one_side : set.side ≢ Both

-- The steps of a filter have the hosts of a set.
abbrev pub HasHostSet : List Step → HostSet → Type 0
HasHostSet steps set = (n : ℕ) × BeginsHostSet (drop n steps) set

-- Whether an address, given by its bytes, is one of a set.
abbrev pub is_one_of : HostSet → List ℕ → Bool
is_one_of set address = list_any (λ number. bytes_eq address (bytes_of set.width number)) set.numbers.items

-- Whether a host of a set matches a packet.
abbrev pub matches_set : HostSet → Packet → Bool
matches_set set packet =
    option_map_or (λ net. at_side_of set.side (is_one_of set) (addresses_of set.layer net)) packet.layers.net.layer
    false
