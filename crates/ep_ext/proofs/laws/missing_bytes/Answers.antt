use Rattle.ep_base.specs.declared.err.ipv6_exts.HeaderSliceError.TheVariants as exts_error
use Rattle.ep_ext.proofs.MissingLemmas.{chain_misses, chain_tells, fragment_header_tells, ip_auth_tells, raw_extension_tells}
use Rattle.ep_ext.proofs.laws.missing_bytes.Goals as goal

pub returns : goal.returns
returns c = record {
  ip_auth = ip_auth_tells;
  raw_extension = raw_extension_tells;
  fragment_header = fragment_header_tells;
  chain = chain_tells;
  limit = λ version reading number bytes error refused.
      chain_misses version reading number bytes (exts_error.Len error) refused;
}
