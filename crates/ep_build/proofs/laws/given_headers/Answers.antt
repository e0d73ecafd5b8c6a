use Rattle.std.proofs.Common.{refl}
use Rattle.ep_build.proofs.laws.given_headers.Goals as goal

pub returns-clause-ipv4 : goal.returns-clause-ipv4
returns-clause-ipv4 c source destination time_to_live =
    (refl, refl, refl, refl, refl, refl, refl, refl, refl, refl, refl)

pub returns-clause-ipv6 : goal.returns-clause-ipv6
returns-clause-ipv6 c source destination hop_limit = (refl, refl, refl, refl, refl, refl)

pub returns-clause-tags : goal.returns-clause-tags
returns-clause-tags c identifier = (refl, refl, refl)
