use Rattle.ep_ext.proofs.HeaderLawLemmas.{header_laws}
use Rattle.ep_ext.proofs.ChainLemmas.{chain_decided}
use Rattle.ep_ext.proofs.laws.chains.extension_chain.Goals as goal

pub returns : goal.returns
returns c = chain_decided header_laws
