use Rattle.lru_table.proofs.LawLemmas.{place_of, free_unchanged}
use Rattle.lru_table.proofs.laws.places.Goals as goal

pub returns : goal.returns
returns g c = record { taken = place_of; free = free_unchanged }
