-- `none` stores a null pointer.
use Rattle.std.proofs.Common.{◌≡◌, [], ◌∷◌, refl}
use mir.Val.{vint}
use mir.Syntax.{w64}
use base.Logic.{emp}
use base.Fml.{ftrue}
use types.Kit.{‵, raw, ◌⊛◌, ◌$◌, ◌∵◌, !, qed, by, move, keep, split, fsplit, fjoin, suffices, use0}
use contract.Monad.{fact, fact_i}
use denote.Exit.{yes}
use denote.RattleType.{owns}
use denote.Signature.{types_at, plain}
use denote.RawPtr.{null_ptr}
use denote.Steps.{nothing}
use denote.Triple.Walked.{Stays, stay_dropped, walk_of, Goes-dropped}
use Rattle.std.proofs.alloc.Calls.{handle_tells}
use Rattle.std.proofs.raw_atomic.Walks.{proved_at, leaves}
use Rattle.std.specs.Prelude.{None}
use Rattle.etherparse_c.proofs.PointerStepLemmas.{Heap, both, heap_al, state_pointer_in}
use Rattle.etherparse_c.proofs.PointerWalkLemmas.{stores_null}
use Rattle.etherparse_c.specs.contracts.state_pointer.StatePointer.none.{ended, clauses}
use Rattle.etherparse_c.specs.contracts.state_pointer.StatePointer.none.Key.{name as #self}
use Rattle.etherparse_c.proofs.state_pointer.StatePointer.none.Statement.{statement}
use Rattle.etherparse_c.proofs.state_pointer.StatePointer.none.Code as code

pub none_spec : {M : Type 1} → statement M
none_spec 𝓤 𝓛 𝓜 𝓡 wired =
    let c = clauses 𝓛 𝓜.mem 𝓡.returns in let hs : Stays ended.signature.params ended.kept = (stay_dropped (plain (λ _. Heap)) yes, tt) in
    proved_at 𝓛 ended hs c 𝓜 𝓡 (Goes-dropped 𝓛 0 (plain (λ _. Heap)) yes (λ κs x w. refl), tt) #self code.function (code.unfolded 𝓤 𝓛.H 𝓜 𝓡 wired) (λ z are. let v = z.0.3.0 in let Post = (walk_of 𝓛 ended hs c).post z in
    qed 𝓛 ((‵ ftrue ⊛ ‵ (owns (types_at ended.signature.params z.0.0) z.0.3 z.0.4)) ∷ raw ((c z.0.0 z.0.3).requires z.1) ∷ []) ∵ split ! $ move ! (1 ∷ []) $ fsplit ! $
    handle_tells heap_al ! v z.0.4.0 (λ h ws fits. nothing ! $ state_pointer_in ! null_ptr (vint w64 0) h refl v None $
    suffices ! (Post (both (vint w64 0) h)) (stores_null 𝓛 𝓜 𝓡 Post _ h z.0.4.0 ws fits) $
    use0 𝓛 (raw (fact 𝓤 (None ≡ None))) (fact_i 𝓤 (None ≡ None) (emp 𝓤) refl) $ nothing ! $ nothing ! $ fjoin ! $ keep ! (4 ∷ 0 ∷ 2 ∷ 1 ∷ []) $
    by ! (leaves 𝓛 ended hs c z (both (vint w64 0) h) (record { at = null_ptr; alloc = v; state = None }) _ (tt, tt))))
