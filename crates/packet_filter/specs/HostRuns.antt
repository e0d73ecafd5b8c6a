-- Hosts in the steps of a filter that are joined by `or`.
use Rattle.std.specs.Prelude.{◌≡◌, ℕ, ◌*◌, ◌≤◌, List, [], ◌∷◌, length}
use Rattle.ep_base.specs.Bytes.{AreBytes}
use Rattle.filter_tokens.specs.declared.network.Network.{Network}
use Rattle.filter_tokens.specs.declared.primitive.AddressLayer.{AddressLayer}
use Rattle.filter_tokens.specs.declared.primitive.Primitive.TheVariants as primitive
use Rattle.filter_tokens.specs.declared.primitive.Side.{Side}
use Rattle.filter_tokens.specs.Networks.{address_bytes, big_endian}
use Rattle.filter_language.specs.declared.step.Step.{Step}
use Rattle.filter_language.specs.declared.step.Step.TheVariants as step

-- The steps that `or` with each of these hosts appends.
abbrev pub or_hosts : AddressLayer → Side → List Network → List Step
or_hosts layer side [] = []
or_hosts layer side (host ∷ hosts) =
    step.SkipIfTrue 1 ∷ step.Test (primitive.Address layer side host) ∷ or_hosts layer side hosts

-- A network of one address, of this length in bytes.
abbrev pub IsHost : ℕ → Network → Type 0
IsHost width host =
    (length (address_bytes host.address) ≡ width) × (8 * width ≤ host.bits) × AreBytes (address_bytes host.address)

-- The address of a network as a number.
abbrev pub host_number : Network → ℕ
host_number host = big_endian (address_bytes host.address)

-- Steps that begin with `or` and a host with this number.
abbrev pub BeginsHost : AddressLayer → Side → ℕ → List Step → ℕ → Type 0
BeginsHost layer side width steps number =
    (host : Network) × (after : List Step)
    × (steps ≡ step.SkipIfTrue 1 ∷ step.Test (primitive.Address layer side host) ∷ after)
    × IsHost width host × (number ≡ host_number host)
