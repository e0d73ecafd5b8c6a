use Rattle.ep_ext.proofs.ShownLemmas.{chain_shown, shown_within}
use Rattle.std.proofs.Common.{[]}
use Rattle.ep_ext.proofs.laws.chains.shown_headers.Goals as goal

pub returns : goal.returns
returns c = record { chain = chain_shown []; bound = shown_within }
