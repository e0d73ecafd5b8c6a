use Rattle.std.proofs.Common.{◌*◌, ◌/◌, ap, length, arith}
use Rattle.ep_base.proofs.BytesLemmas.{stored_copy}
use Rattle.ep_ext.proofs.ip_auth_icv.IpAuthIcv.fill.Goals as goal

pub invariant_of-self : goal.invariant_of-self
invariant_of-self c =
    let n = length c.args.slice.now in
    let stored = stored_copy c.copy_from_slice.new.self n (4 * (n / 4)) 1016
    (ap length c.copy_from_slice.ensures.after) c.requires.bound (omega (arith, c.requires.words)) in
    (stored.0, omega (arith, c.requires.bound), stored.1)
