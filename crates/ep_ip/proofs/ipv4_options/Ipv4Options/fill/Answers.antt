use Rattle.std.proofs.Common.{ap, length, refl}
use Rattle.ep_base.proofs.BytesLemmas.{stored_copy}
use Rattle.ep_ip.proofs.ipv4_options.Ipv4Options.fill.Goals as goal

pub invariant_of-self : goal.invariant_of-self
invariant_of-self c =
    let n = length c.args.slice.now in
    let stored = stored_copy c.copy_from_slice.new.self n n 40 (ap length c.copy_from_slice.ensures.after)
    c.requires.bound refl in
    (stored.0, c.requires.bound, c.requires.words, stored.1)
