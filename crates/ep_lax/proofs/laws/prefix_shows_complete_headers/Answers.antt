use Rattle.ep_lax.proofs.MoreBytesLemmas.{prefix_shows_complete}
use Rattle.ep_lax.proofs.laws.prefix_shows_complete_headers.Goals as goal

pub returns : goal.returns
returns c = prefix_shows_complete
