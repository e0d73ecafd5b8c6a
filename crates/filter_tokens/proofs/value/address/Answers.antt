use Rattle.std.proofs.Common.{Some, ap}
use Rattle.std.proofs.NetLemmas.Theorems.{IsIpText_unique}
use Rattle.filter_tokens.proofs.value.address.Goals as goal

pub returns-in-Ok-clause-only : goal.returns-in-Ok-clause-only
returns-in-Ok-clause-only c =
    λ value stated. ap Some (IsIpText_unique c.args.word.now c.in-Ok.address value c.in-Ok.ensures stated)
