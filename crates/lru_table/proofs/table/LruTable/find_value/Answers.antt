use Rattle.std.proofs.Common.{◌≡◌, Bool, true, Some, ◌^◌, ◌<◌, length, reverse, option_map, refl, sym, subst, arith}
use Rattle.std.proofs.lemmas.List.{length-reverse}
use Rattle.lru_table.specs.declared.slot.Slot.{Slot}
use Rattle.lru_table.specs.LruTable.{Entries, entry_at, IsPresent}
use Rattle.lru_table.proofs.TableLemmas.{reversed}
use Rattle.lru_table.proofs.SearchLemmas.{slot_of, IsSearched, searched_other, searched_free, searched_all}
use Rattle.lru_table.proofs.table.LruTable.find_value.Goals.{in-Some+else-eq, in-None}
use Rattle.lru_table.proofs.table.LruTable.find_value.Goals as goal

present_in : {K V : Type 0} (eq : K → K → Bool) (es : Entries K V) (slot : Slot) (key : K) (e : K × V)
    → Some e ≡ entry_at slot es → eq key e.0 ≡ true → IsPresent eq es slot key
present_in eq es slot key e found same = (e, sym found, same)

value_in : {K V : Type 0} (es : Entries K V) (slot : Slot) (e : K × V) → Some e ≡ entry_at slot es
    → Some e.1 ≡ option_map (λ e. e.1) (entry_at slot es)
value_in es slot e found = rw (← found) refl

pub returns-then-eq-clause-found : goal.returns-then-eq-clause-found
returns-then-eq-clause-found g c =
    let at = reversed (slot_of c.args.hash c.loop-number.number) c.self.inside.cache.entries
    c.self.invariant.0.distinct in
    rw (← c.self.view_is) (
      refl,
      present_in g.K.PartialEq.eq (reverse c.self.inside.cache.entries)
          (slot_of c.args.hash c.loop-number.number) c.args.key.now c.in-Some.field-0.now
          (rw (← at.value) c.in-Some.ensures) (rw (← c.eq.ensures) c.if-eq.true),
    )

pub returns-then-eq-clause-value : goal.returns-then-eq-clause-value
returns-then-eq-clause-value g c =
    let at = reversed (slot_of c.args.hash c.loop-number.number) c.self.inside.cache.entries
    c.self.invariant.0.distinct in
    rw (← c.self.view_is) (value_in (reverse c.self.inside.cache.entries)
    (slot_of c.args.hash c.loop-number.number) c.in-Some.field-0.now (rw (← at.value) c.in-Some.ensures))

pub loop-number-preserved : goal.loop-number-preserved
loop-number-preserved g c =
    let at = reversed (slot_of c.args.hash c.loop-number.number) c.self.inside.cache.entries
    c.self.invariant.0.distinct in
    elim c.match-peek.branch [
      | in-Some+else-eq w ↦ rw w.free-is
          (searched_other _ _ c.args.hash c.args.key.now c.self.inside.numbers c.loop-number.number c.loop-number.free
          w.in-Some.field-0.now c.self.invariant.0.distinct c.loop-number.invariant
          (rw (← at.value) w.in-Some.ensures) (rw (← w.eq.ensures) w.if-eq.false))
      | in-None w ↦ rw (w.free-is, w.min-free.ensures)
          (searched_free _ _ c.args.hash c.args.key.now c.self.inside.numbers c.loop-number.number c.loop-number.free
          c.self.invariant.0.distinct c.loop-number.invariant c.loop-number-test.true
          (rw (← at.value) w.in-None.ensures))
    ]

pub returns-clause-found : goal.returns-clause-found
returns-clause-found g c =
    let es = reverse c.self.inside.cache.entries in
    let last : c.loop-number.number ≡ c.self.inside.numbers =
    omega (arith, c.loop-number.auto.number-end, c.loop-number-test.false) in
    let all = subst (λ n. IsSearched g.K.PartialEq.eq es c.args.hash c.args.key.now c.self.inside.numbers n
    c.loop-number.free) last c.loop-number.invariant in
    let short : length es < 2 ^ 63 =
    omega (arith, c.len.ensures.len, c.len.ensures.fits, length-reverse c.self.inside.cache.entries) in
    let fits : c.self.inside.numbers < 2 ^ 64 = omega arith in
    let vacant = searched_all g.K.PartialEq.eq es c.args.hash c.args.key.now c.self.inside.numbers c.loop-number.free
    c.self.invariant.0 c.self.invariant.3 short fits all in
    rw (← c.self.view_is) (refl, vacant.0, vacant.1)
