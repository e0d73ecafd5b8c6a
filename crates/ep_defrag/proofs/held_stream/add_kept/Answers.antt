use Rattle.std.proofs.Common.{inl, inr}
use Rattle.ep_defrag.proofs.held_stream.add_kept.Goals as goal

pub returns-in-LastWins : goal.returns-in-LastWins
returns-in-LastWins c = elim c.in-LastWins.is [
  | inl last ↦ rw (← c.fragment.view_is, last) (record {
    fits = c.add.ensures.fits;
    holds = c.add.ensures.holds;
    refused = c.add.ensures.refused;
    err = c.add.ensures.err;
    err_capacity = c.add.ensures.err_capacity;
  })
  | inr undisputed ↦ rw (← c.fragment.view_is, undisputed) (record {
    fits = c.add.ensures.fits;
    holds = c.add.ensures.holds;
    refused = c.add.ensures.refused;
    err = c.add.ensures.err;
    err_capacity = c.add.ensures.err_capacity;
  })
]

pub returns-in-FirstWins-clause-refused : goal.returns-in-FirstWins-clause-refused
returns-in-FirstWins-clause-refused c = rw (← c.fragment.view_is) c.add_missing.ensures.refused
