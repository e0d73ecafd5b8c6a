use Rattle.std.proofs.Common.{refl, arith}
use Rattle.ep_build.specs.Steps.{plain_ipv4}
use Rattle.ep_build.proofs.WritingLemmas.{too_long_alone}
use Rattle.ep_build.proofs.ip_part.Ipv4HeaderIsIpHeaders.link.Goals as goal

pub returns-in-Err : goal.returns-in-Err
returns-in-Err c =
    let small = c.header_len-header_len.ensures in
    too_long_alone (plain_ipv4 c.args.self.now) c.args.len c.in-Err.error refl c.ranges.len.fits
    (omega (arith, c.in-Err.ensures.0, small.value, small.bound)) c.in-Err.ensures.2
