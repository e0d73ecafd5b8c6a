use Rattle.lru_table.proofs.LawLemmas.{from_without, from_newest, from_written, from_drop, vacant_still}
use Rattle.lru_table.proofs.laws.stays_vacant.Goals as goal

pub returns : goal.returns
returns g c = record {
  removed = λ entries slot other key. vacant_still g.K.PartialEq.eq entries _ slot key (from_without other entries);
  touched = λ entries slot other key. vacant_still g.K.PartialEq.eq entries _ slot key (from_newest other entries);
  written = λ entries slot other value key. vacant_still g.K.PartialEq.eq entries _ slot key
      (from_written other value entries);
  popped = λ entries slot key. vacant_still g.K.PartialEq.eq entries _ slot key (from_drop entries);
}
