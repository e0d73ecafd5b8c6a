use Rattle.std.proofs.Common.{refl, rules}
use Rattle.std.specs.Prelude.{nat_eq}
use Rattle.std.proofs.lemmas.Bool.Decides.{Decides-eqb}
use Rattle.std.proofs.lemmas.Slice.Eq.{slice_eq-Decides}
use Rattle.ep_base.proofs.ComparisonLemmas.{five, five_same, made_same, same_option}
use Rattle.capture_reader.specs.Captures.{PlainShown}
use Rattle.capture_reader.specs.Readers.{shown_of}
use Rattle.capture_reader.proofs.laws.comparisons.Goals as goal

pub returns-clause-times : goal.returns-clause-times
returns-clause-times c = search rules

pub returns-clause-shown : goal.returns-clause-shown
returns-clause-shown c a b =
    made_same (λ (s : PlainShown). five s.link s.interface s.time s.original_len s.bytes)
    (λ p. record { link = p.0; interface = p.1; time = p.2; original_len = p.3; bytes = p.4 }) (λ s. refl)
    (shown_of a) (shown_of b)
    (five_same (Decides-eqb a.link_type b.link_type)
    (same_option nat_eq a.interface b.interface (λ x y _ _. Decides-eqb x y))
    (same_option _ a.time b.time (λ x y _ _. returns-clause-times c x y))
    (Decides-eqb a.original_len b.original_len) (slice_eq-Decides Decides-eqb a.bytes.now b.bytes.now _ refl))
