use Rattle.ep_defrag.proofs.NameHashLemmas.{hash_is_given, given_alike}
use Rattle.ep_defrag.proofs.laws.pools.name_hashes.Goals as goal

pub returns : goal.returns
returns c = record { std = hash_is_given; injective = given_alike }
