use Rattle.ep_lax.proofs.TruncationLemmas.{prefix_reports}
use Rattle.ep_lax.proofs.laws.truncated_payloads.Goals as goal

pub returns : goal.returns
returns c = prefix_reports
