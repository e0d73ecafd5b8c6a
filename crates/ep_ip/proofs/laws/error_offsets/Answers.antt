use Rattle.ep_base.specs.declared.err.ipv4.SliceError.TheVariants as ipv4_error
use Rattle.ep_base.specs.declared.err.ipv6.SliceError.TheVariants as ipv6_error
use Rattle.ep_ip.proofs.RefusalPlaceLemmas.{ipv4_within, ipv6_within}
use Rattle.ep_ip.proofs.laws.error_offsets.Goals as goal

pub returns : goal.returns
returns c = record {
  ipv4 = λ reading bytes error refused. ipv4_within reading bytes (ipv4_error.Len error) refused;
  ipv6 = λ reading bytes error refused. ipv6_within reading bytes (ipv6_error.Len error) refused;
}
