use Rattle.etherparse_c.proofs.FilterLemmas.{Matching}
use Rattle.etherparse_c.proofs.filtering.match_many.Given as goal

abbrev pub invariant-frames : goal.invariant-frames
invariant-frames l =
    Matching l.filter l.entry l.bytes l.ends l.wire_lens l.initial.matches l.matches l.start l.index l.matched
