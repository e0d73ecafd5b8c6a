use Rattle.lru_table.proofs.LawLemmas.{first_found, first_used, first_removed, walked_partly, walked_wholly}
use Rattle.lru_table.proofs.laws.walks.Goals as goal

pub returns : goal.returns
returns g c = record {
  found = first_found;
  touched = first_used;
  removed = first_removed;
  in_part = λ entries n. walked_partly n entries;
  whole = walked_wholly;
}
