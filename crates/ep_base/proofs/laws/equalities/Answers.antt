use Rattle.std.proofs.Common.{refl, rules}
use Rattle.std.proofs.lemmas.Bool.{and_parts, and_from}
use Rattle.std.proofs.lemmas.Bool.Decides.{Decides-eqb}
use Rattle.ep_base.specs.declared.err.len_error.LenError.{LenError}
use Rattle.ep_base.proofs.ComparisonLemmas.{five, five_same, made_same}
use Rattle.ep_base.proofs.laws.equalities.Goals as goal

pub returns-clause-len_sources : goal.returns-clause-len_sources
returns-clause-len_sources c = search rules

pub returns-clause-layers : goal.returns-clause-layers
returns-clause-layers c = search rules

pub returns-clause-ip_payloads : goal.returns-clause-ip_payloads
returns-clause-ip_payloads c a b = (
  λ equal.
      let number = and_parts _ _ equal in
      let fragmented = and_parts _ _ number.1 in
      let source = and_parts _ _ fragmented.1 in (
        search (rules, number.0),
        search (rules, fragmented.0),
        (returns-clause-len_sources c a.len_source b.len_source).0 source.0,
        search (rules, source.1),
      ),
  λ same.
      and_from _ _ (search (rules, same.0))
      (and_from _ _ (search (rules, same.1))
      (and_from _ _ ((returns-clause-len_sources c a.len_source b.len_source).1 same.2) (search (rules, same.3)))),
)

pub returns-clause-len_errors : goal.returns-clause-len_errors
returns-clause-len_errors c a b =
    made_same (λ (e : LenError). five e.required_len e.len e.len_source e.layer e.layer_start_offset)
    (λ p. record { required_len = p.0; len = p.1; len_source = p.2; layer = p.3; layer_start_offset = p.4 }) (λ e. refl)
    a b
    (five_same (Decides-eqb a.required_len b.required_len) (Decides-eqb a.len b.len)
    (returns-clause-len_sources c a.len_source b.len_source) (returns-clause-layers c a.layer b.layer)
    (Decides-eqb a.layer_start_offset b.layer_start_offset))
