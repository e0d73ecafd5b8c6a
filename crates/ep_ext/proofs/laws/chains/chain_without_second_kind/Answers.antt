use Rattle.std.proofs.Common.{[]}
use Rattle.ep_ext.proofs.ChainLemmas.{once_each}
use Rattle.ep_ext.proofs.laws.chains.chain_without_second_kind.Goals as goal

pub returns : goal.returns
returns c = λ version number bytes chain is once. once_each version [] number bytes chain.parts chain.last chain.rest
    is once
