use Rattle.std.proofs.Common.{[]}
use Rattle.ep_ext.proofs.ReadingLemmas.{chain_in_slices, refused_in_slices}
use Rattle.ep_ext.proofs.laws.chains.chain_of_headers.Goals as goal

pub returns : goal.returns
returns c = record {
  chain = λ version number bytes chain is.
      chain_in_slices version [] number bytes chain.parts chain.last chain.rest is;
  refused = λ version number bytes error refused.
      (refused.0, refused_in_slices version [] 0 number bytes refused.0 error refused.1);
}
