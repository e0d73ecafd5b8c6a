use Rattle.std.proofs.lemmas.Grind.{common_steps}
use Rattle.std.proofs.Common.{rules, arith}
use Rattle.ep_ext.proofs.ipv6_fragment_header.Ipv6FragmentHeader.to_bytes.Goals as goal

pub returns-clause-fits : goal.returns-clause-fits
returns-clause-fits c = record {
  next_header = search rules;
  fragment_offset = search rules;
  identification = search rules;
}

pub returns-clause-bytes : goal.returns-clause-bytes
returns-clause-bytes c = grind (arith, common_steps)
