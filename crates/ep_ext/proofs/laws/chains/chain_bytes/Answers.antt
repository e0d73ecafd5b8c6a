use Rattle.ep_ext.proofs.ChainBytesLemmas.{chain_encoded, chain_len}
use Rattle.ep_ext.proofs.laws.chains.chain_bytes.Goals as goal

pub returns : goal.returns
returns c = record { parts = chain_encoded; len = chain_len }
