use Rattle.ep_ext.proofs.CutRefusalLemmas.{chain_cut, fragment_header_cut, ip_auth_cut, raw_extension_cut}
use Rattle.ep_ext.proofs.laws.truncation.Goals as goal

pub returns : goal.returns
returns c = record {
  ip_auth = ip_auth_cut;
  raw_extension = raw_extension_cut;
  fragment_header = fragment_header_cut;
  chain = chain_cut;
}
