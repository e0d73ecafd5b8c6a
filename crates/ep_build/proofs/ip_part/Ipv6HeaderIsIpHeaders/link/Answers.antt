use Rattle.std.proofs.Common.{refl, arith}
use Rattle.ep_build.specs.Steps.{plain_ipv6}
use Rattle.ep_build.proofs.WritingLemmas.{too_long_alone}
use Rattle.ep_build.proofs.ip_part.Ipv6HeaderIsIpHeaders.link.Goals as goal

pub returns-in-Err : goal.returns-in-Err
returns-in-Err c =
    too_long_alone (plain_ipv6 c.args.self.now) c.args.len c.in-Err.error refl c.ranges.len.fits
    (omega (arith, c.in-Err.ensures.0)) c.in-Err.ensures.2
