use Rattle.std.proofs.Common.{arith}
use Rattle.ep_packet.proofs.IpHeadersLemmas.{empty_refused, version_refused}
use Rattle.ep_packet.proofs.net_headers_fill.fill_ip.Goals as goal

pub returns-then-slice-eq0-clause-err : goal.returns-then-slice-eq0-clause-err
returns-then-slice-eq0-clause-err c = empty_refused c.args.slice.now _ (omega arith) c.empty_slice_error.ensures

pub returns-clause-err : goal.returns-clause-err
returns-clause-err c =
    version_refused c.args.slice.now _ _ c.unsupported.ensures (omega arith) (omega arith) (λ e. omega (arith, e))
    (λ e. omega (arith, e))
