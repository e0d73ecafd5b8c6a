use Rattle.ep_lax.proofs.MoreBytesLemmas.{more_bytes}
use Rattle.ep_lax.proofs.laws.more_bytes.Goals as goal

pub returns : goal.returns
returns c = more_bytes
