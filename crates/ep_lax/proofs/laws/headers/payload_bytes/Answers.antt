use Rattle.ep_base.specs.Readings.{headers}
use Rattle.ep_lax.proofs.PayloadBytesLemmas.{lax_payloads}
use Rattle.ep_lax.proofs.laws.headers.payload_bytes.Goals as goal

pub returns : goal.returns
returns c = lax_payloads headers
