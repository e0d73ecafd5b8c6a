use Rattle.std.proofs.Common.{reverse, sym, ap, ◌∙◌}
use Rattle.lru_table.proofs.TableLemmas.{reversed, promoted_first}
use Rattle.lru_table.proofs.table.LruTable.is_newest.Goals as goal

pub returns-in-Some : goal.returns-in-Some
returns-in-Some g c = λ same.
    let at = reversed c.args.slot c.self.inside.cache.entries c.self.invariant.0.distinct in
    let first = promoted_first c.in-Some.newest.now c.args.slot c.in-Some.field-0-1.now c.self.inside.cache.entries
    (sym c.eq.ensures ∙ same) c.in-Some.ensures in
    rw (← c.self.view_is, ← at.newest) (ap reverse first)
