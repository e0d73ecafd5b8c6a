-- `of` stores the pointer.
use Rattle.std.proofs.Common.{◌≡◌, [], ◌∷◌, refl}
use mir.Val.{vptr}
use base.Logic.{emp}
use base.Fml.{ftrue}
use types.Kit.{‵, raw, ◌⊛◌, ◌$◌, ◌∵◌, !, qed, by, move, keep, split, fsplit, fjoin, suffices, use0}
use contract.Monad.{fact, fact_i}
use denote.Exit.{yes}
use denote.RattleType.{owns}
use denote.Signature.{types_at, plain}
use denote.RawPtr.{block_ptr}
use denote.Steps.{nothing}
use denote.Triple.Walked.{Stays, stay_dropped, walk_of}
use Rattle.std.proofs.alloc.Calls.{Goes-blank}
use Rattle.std.proofs.raw_atomic.Walks.{proved_at, leaves}
use Rattle.std.specs.Prelude.{Some}
use Rattle.std.proofs.alloc.Global.TheLaws as heap_laws
use Rattle.std.specs.contracts.impls.GlobalAllocator.TheImpl.{ghosts}
use Rattle.packet_filter.specs.contracts.filter.Filter.{the_row}
use Rattle.etherparse_c.proofs.PointerStepLemmas.{Heap, RawBox, both, raw_box_out}
use Rattle.etherparse_c.proofs.FilterPointerLemmas.{filter_pointer_in}
use Rattle.etherparse_c.proofs.PointerWalkLemmas.{moves_pointer}
use Rattle.etherparse_c.specs.contracts.filter_pointer.FilterPointer.of.{ended, clauses}
use Rattle.etherparse_c.specs.contracts.filter_pointer.FilterPointer.of.Key.{name as #self}
use Rattle.etherparse_c.proofs.filter_pointer.FilterPointer.of.Statement.{statement}
use Rattle.etherparse_c.proofs.filter_pointer.FilterPointer.of.Code as code

pub of_spec : {M : Type 1} → statement M
of_spec 𝓤 𝓛 𝓜 𝓡 wired =
    let c = clauses 𝓛 𝓜.mem 𝓡.returns in let hs : Stays ended.signature.params ended.kept = (stay_dropped (plain (λ _. RawBox the_row Heap heap_laws.the_row_laws ghosts)) yes, tt) in
    proved_at 𝓛 ended hs c 𝓜 𝓡 (Goes-blank 𝓛 0 (plain (λ _. RawBox the_row Heap heap_laws.the_row_laws ghosts)) yes (λ κs x f. tt), tt) #self code.function (code.unfolded 𝓤 𝓛.H 𝓜 𝓡 wired) (λ z are. let v = z.0.3.0 in let Post = (walk_of 𝓛 ended hs c).post z in
    qed 𝓛 ((‵ ftrue ⊛ ‵ (owns (types_at ended.signature.params z.0.0) z.0.3 z.0.4)) ∷ raw ((c z.0.0 z.0.3).requires z.1) ∷ []) ∵ split ! $ move ! (1 ∷ []) $ fsplit ! $
    raw_box_out the_row Heap heap_laws.the_row_laws ghosts ! v z.0.4.0 (λ b o h e ws fits. filter_pointer_in ! (block_ptr b o) (vptr b o) h refl v.alloc (Some v.value) $
    suffices ! (Post (both (vptr b o) h)) (moves_pointer 𝓛 𝓜 𝓡 Post _ _ b o h z.0.4.0 ws fits) $
    use0 𝓛 (raw (fact 𝓤 (Some v.value ≡ Some v.value))) (fact_i 𝓤 (Some v.value ≡ Some v.value) (emp 𝓤) refl) $ nothing ! $ nothing ! $ fjoin ! $ keep ! (4 ∷ 0 ∷ 2 ∷ 1 ∷ []) $
    by ! (leaves 𝓛 ended hs c z (both (vptr b o) h) (record { at = block_ptr b o; alloc = v.alloc; filter = Some v.value }) _ (tt, tt))))
