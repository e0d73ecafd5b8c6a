use Rattle.std.proofs.Common.{ℕ, ◌+◌, length, ap}
use Rattle.ep_build.proofs.WritingLemmas.{are_prepared}
use Rattle.ep_build.proofs.writing.prepared.Goals as goal

pub returns : goal.returns
returns g c =
    let payload = c.args.payload.now in
    let counts = ap (λ (n : ℕ). n + length payload) c.header_len.ensures.value in
    let summed = c.in_ok-set_checksum.ensures in
    let headers = g.Headers.IsIpHeaders.headers in
    are_prepared c.args.link.now (headers c.args.headers.now) (headers c.link.new.self) c.args.transport.now
    c.set_length.new.transport c.set_checksum.new.transport c.number_of-last.result
    (c.header_len.result + length payload) c.in-Ok.ether_type payload c.header_len-2.result c.headers_len.result
    c.in-Ok.ensures.1 c.number_of-last.ensures c.set_length.ensures summed.0 summed.1 counts c.transport_fits.ensures
    c.in-Ok.ensures.2 c.in-Ok.ensures.0 c.link_fits.ensures c.headers_len.ensures.fits c.header_len-2.ensures.value
    c.headers_len.ensures.value
