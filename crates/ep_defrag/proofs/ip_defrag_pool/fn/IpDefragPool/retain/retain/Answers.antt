use Rattle.std.proofs.Common.{refl}
use Rattle.std.proofs.lemmas.Bool.{false≢true}
use Rattle.std.proofs.lemmas.Fn.{says_at}
use Rattle.ep_defrag.proofs.ip_defrag_pool.fn.IpDefragPool.retain.retain.Goals as goal

pub returns-then-keep : goal.returns-then-keep
returns-then-keep g c = record {
  asked = says_at g.F.Fn c.keep.ensures c.if-keep.true;
  stays = λ same. refl;
}

pub returns : goal.returns
returns g c = record {
  asked = says_at g.F.Fn c.keep.ensures c.if-keep.false;
  stays = λ same. absurd (false≢true same);
}
