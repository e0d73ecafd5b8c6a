use Rattle.ep_ext.proofs.ValueLawLemmas.{chain_value_len, chain_value_fragments}
use Rattle.ep_ext.proofs.laws.chains.chain_value.Goals as goal

pub returns : goal.returns
returns c = record { len = chain_value_len; fragments = chain_value_fragments }
