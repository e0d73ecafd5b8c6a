-- Machine values of a `RawBox`, a `StatePointer` and a `Handle`.
use Rattle.std.proofs.Common.{◌≡◌, ℕ, List, [], ◌∷◌, ◌++◌, refl, subst, sym}
use mathlib.Core.Bool.{true, ◌&&◌}
use lib.Dec.{T}
use seplogic.Ra.Ura.{Ura}
use mir.Syntax.{impl, tnil, dnil}
use mir.Raw.{raw as bare}
use mir.Val.{Val, vptr, vstruct, vcons, vnil, of_list, has_ty, WT}
use base.Logic.{never, fst∗}
use types.Logic.{Logic, sem}
use types.Kit.{Item, Goal, Seq, Step, step, ‵, ◌$◌, move, drop, fsplit, fjoin, fpick, fpack, rewrite, feq_i, feq_l}
use denote.RattleType.{RattleType, Valss}
use denote.Builtin.{RawPtr}
use denote.Memory.{lone}
use denote.RawPtr.{Ptr, block_ptr, null_ptr, ptr_val, in_a_block}
use denote.Steps.{nothing}
use denote.Param.{layout}
use denote.Param.Laws.{Laws}
use denote.Struct.Struct.{within}
use denote.Struct.Owning.{shape}
use Rattle.std.specs.declared.alloc.Allocator.{Ghosts}
use Rattle.std.proofs.alloc.Calls.{Al, handle_tells}
use Rattle.std.proofs.cell.Inside.{Good}
use Rattle.std.specs.Box.Ownership.{box_owns}
use Rattle.std.proofs.ResultValues.{and_tt}
use Rattle.std.specs.Prelude.{Option, Some, None, is_some}
use Rattle.std.specs.contracts.alloc.Global as heap
use Rattle.std.proofs.alloc.Global.TheLaws as heap_laws
use Rattle.std.specs.contracts.impls.GlobalAllocator.TheImpl.{ghosts}
use Rattle.etherparse_c.specs.StateOwnership.{owns_state}
use Rattle.etherparse_c.specs.PoolOwnership.{owns_pool}
use Rattle.etherparse_c.specs.declared.pool.Pool.{Pool}
use Rattle.etherparse_c.specs.declared.state.State.{State}
use Rattle.etherparse_c.specs.contracts.pool.Pool.{the_row as pool_row}
use Rattle.etherparse_c.specs.contracts.state.State.{the_row}
use Rattle.etherparse_c.specs.contracts.handle.Handle as handle
use Rattle.etherparse_c.specs.contracts.state_pointer.StatePointer as state_pointer
use Rattle.etherparse_c.specs.contracts.raw_box.RawBox as raw_box

abbrev pub both : Val → Val → Val
both v w = vstruct (vcons v (vcons w vnil))

module _ (R Z : RattleType) (L : Laws Z) (g : Ghosts Z.Denot) where
  abbrev pub RawBox : RattleType
  RawBox = raw_box.the_row R Z g

  abbrev al : Al
  al = record { row = Z; laws = L; g = g; d = impl [] tnil dnil; drops = impl [] tnil dnil }

  pub raw_box_fits : (b o : ℕ) (h : Val) → Good (layout Z) h → T (has_ty (layout Z) h && true) × WT (both (vptr b o) h)
  raw_box_fits b o h fits = (and_tt (has_ty (layout Z) h) fits.0, (tt, (fits.1, tt)))

  module _ {M : Type 1} {𝓤 : Ura M} {𝓛 : Logic 𝓤} {K : Type 0} {Γ : List (Item 𝓤)} {G : Goal 𝓤 𝓛.H} where
    pub raw_box_out : K → (d : RawBox.Denot) (vs : List Val)
        → ((b o : ℕ) (h : Val) → d.at ≡ block_ptr b o → vs ≡ both (vptr b o) h ∷ [] → Good (layout Z) h → Seq K 𝓛 (‵ (box_owns (g.dealloc_token d.alloc) R (block_ptr b o) d.value) ∷ ‵ (Z.own_val d.alloc (h ∷ [])) ∷ Γ) G)
        → Seq K 𝓛 (‵ (RawBox.own_val d vs) ∷ Γ) G
    raw_box_out t d vs k =
        fsplit t $ fpick t (λ vss. fsplit t $ feq_l t (λ ev. fsplit t $ feq_l t (λ ep. fsplit t $ handle_tells al t d.alloc vss.1.0 (λ h ea fits. move t (1 ∷ []) $ drop t $ move t (1 ∷ []) $
        in_a_block t d.at (λ p. box_owns (g.dealloc_token d.alloc) R p d.value) (fst∗ 𝓤 (never 𝓤) (sem 𝓛 (g.dealloc_token d.alloc (bare (lone R.mir)) null_ptr))) (λ b o e. k b o h e
        (subst (λ (p : Ptr). vs ≡ vstruct (of_list (ptr_val p ∷ h ∷ [])) ∷ []) e
        (subst (λ (ws : List Val). vs ≡ vstruct (of_list (ptr_val d.at ∷ (ws ++ []))) ∷ []) ea (subst (λ (ps : List Val). vs ≡ vstruct (of_list (ps ++ (vss.1.0 ++ []))) ∷ []) ep ev))) fits)))))

    pub raw_box_in : K → (b o : ℕ) (h : Val) (a : Z.Denot) (x : R.Denot)
        → Step K 𝓛 (‵ (RawBox.own_val (record { at = block_ptr b o; alloc = a; value = x }) (both (vptr b o) h ∷ [])) ∷ Γ) G (‵ (box_owns (g.dealloc_token a) R (block_ptr b o) x) ∷ ‵ (Z.own_val a (h ∷ [])) ∷ Γ) G
    raw_box_in t b o h a x = step (λ s. let v : Val = both (vptr b o) h in
        nothing t $ move t (2 ∷ 0 ∷ []) $ fjoin t $ feq_i t (List Val) (vptr b o ∷ []) (vptr b o ∷ []) refl $ fjoin t $ feq_i t (List Val) (v ∷ []) (v ∷ []) refl $ fjoin t $
        fpack t (Valss (RawPtr ∷ Z ∷ [])) (within (shape (raw_box.the_type R Z g)) (block_ptr b o, (a, tt)) (v ∷ [])) (vptr b o ∷ [], (h ∷ [], tt)) $ fjoin t $ s)

-- An option for which `is_some` is true has a value.
pub some_value : {X : Type 0} (s : Option X) → is_some s ≡ true → (x : X) × (s ≡ Some x)
some_value (Some x) e = (x, refl)
some_value None e = absurd (subst T (sym e) tt)

-- The types of the pointers that C holds, and of the heap's handle.
abbrev pub Heap : RattleType
Heap = heap.the_row

abbrev pub StatePointer : RattleType
StatePointer = state_pointer.the_row

abbrev pub Handle : RattleType
Handle = handle.the_row

abbrev pub heap_al : Al
heap_al = record { row = Heap; laws = heap_laws.the_row_laws; g = ghosts; d = impl [] tnil dnil; drops = impl [] tnil dnil }

module _ {M : Type 1} {𝓤 : Ura M} {𝓛 : Logic 𝓤} {K : Type 0} {Γ : List (Item 𝓤)} {G : Goal 𝓤 𝓛.H} where
  pub state_pointer_in : K → (p : Ptr) (v h : Val) → v ∷ [] ≡ ptr_val p ∷ [] → (a : Heap.Denot) (x : Option State)
      → Step K 𝓛 (‵ (StatePointer.own_val (record { at = p; alloc = a; state = x }) (both v h ∷ [])) ∷ Γ) G (‵ (owns_state x a p) ∷ ‵ (Heap.own_val a (h ∷ [])) ∷ Γ) G
  state_pointer_in t p v h e a x = step (λ s. let w : Val = both v h in
      nothing t $ move t (2 ∷ 0 ∷ []) $ fjoin t $ feq_i t (List Val) (v ∷ []) (ptr_val p ∷ []) e $ fjoin t $ feq_i t (List Val) (w ∷ []) (w ∷ []) refl $ fjoin t $
      fpack t (Valss (RawPtr ∷ (heap.the_field).row ∷ [])) (within (shape state_pointer.the_type) (p, ((heap.the_field).into a, tt)) (w ∷ [])) (v ∷ [], (h ∷ [], tt)) $ fjoin t $ s)

  pub handle_in : K → (p : Ptr) (v h : Val) → v ∷ [] ≡ ptr_val p ∷ [] → (a : Heap.Denot) (x : Option Pool)
      → Step K 𝓛 (‵ (Handle.own_val (record { at = p; alloc = a; pool = x }) (both v h ∷ [])) ∷ Γ) G (‵ (owns_pool x a p) ∷ ‵ (Heap.own_val a (h ∷ [])) ∷ Γ) G
  handle_in t p v h e a x = step (λ s. let w : Val = both v h in
      nothing t $ move t (2 ∷ 0 ∷ []) $ fjoin t $ feq_i t (List Val) (v ∷ []) (ptr_val p ∷ []) e $ fjoin t $ feq_i t (List Val) (w ∷ []) (w ∷ []) refl $ fjoin t $
      fpack t (Valss (RawPtr ∷ (heap.the_field).row ∷ [])) (within (shape handle.the_type) (p, ((heap.the_field).into a, tt)) (w ∷ [])) (v ∷ [], (h ∷ [], tt)) $ fjoin t $ s)

  pub state_pointer_out : K → (d : StatePointer.Denot) (x : State) → d.state ≡ Some x → (vs : List Val)
      → ((b o : ℕ) (h : Val) → d.at ≡ block_ptr b o → vs ≡ both (vptr b o) h ∷ [] → Good (layout Heap) h → Seq K 𝓛 (‵ (box_owns (ghosts.dealloc_token d.alloc) the_row (block_ptr b o) x) ∷ ‵ (Heap.own_val d.alloc (h ∷ [])) ∷ Γ) G)
      → Seq K 𝓛 (‵ (StatePointer.own_val d vs) ∷ Γ) G
  state_pointer_out t d x is vs k =
      fsplit t $ move t (1 ∷ []) $ rewrite t 0 (λ (s : Option State). ‵ (owns_state s d.alloc d.at)) is refl $ move t (1 ∷ []) $
      fpick t (λ vss. fsplit t $ feq_l t (λ ev. fsplit t $ feq_l t (λ ep. fsplit t $ handle_tells heap_al t d.alloc vss.1.0 (λ h ea fits. move t (1 ∷ []) $ drop t $ move t (1 ∷ []) $
      in_a_block t d.at (λ p. box_owns (ghosts.dealloc_token d.alloc) the_row p x) (fst∗ 𝓤 (never 𝓤) (sem 𝓛 (ghosts.dealloc_token d.alloc (bare (lone the_row.mir)) null_ptr))) (λ b o e. k b o h e
      (subst (λ (p : Ptr). vs ≡ vstruct (of_list (ptr_val p ∷ h ∷ [])) ∷ []) e
      (subst (λ (ws : List Val). vs ≡ vstruct (of_list (ptr_val d.at ∷ (ws ++ []))) ∷ []) ea (subst (λ (ps : List Val). vs ≡ vstruct (of_list (ps ++ (vss.1.0 ++ []))) ∷ []) ep ev))) fits)))))

  pub handle_out : K → (d : Handle.Denot) (x : Pool) → d.pool ≡ Some x → (vs : List Val)
      → ((b o : ℕ) (h : Val) → d.at ≡ block_ptr b o → vs ≡ both (vptr b o) h ∷ [] → Good (layout Heap) h → Seq K 𝓛 (‵ (box_owns (ghosts.dealloc_token d.alloc) pool_row (block_ptr b o) x) ∷ ‵ (Heap.own_val d.alloc (h ∷ [])) ∷ Γ) G)
      → Seq K 𝓛 (‵ (Handle.own_val d vs) ∷ Γ) G
  handle_out t d x is vs k =
      fsplit t $ move t (1 ∷ []) $ rewrite t 0 (λ (s : Option Pool). ‵ (owns_pool s d.alloc d.at)) is refl $ move t (1 ∷ []) $
      fpick t (λ vss. fsplit t $ feq_l t (λ ev. fsplit t $ feq_l t (λ ep. fsplit t $ handle_tells heap_al t d.alloc vss.1.0 (λ h ea fits. move t (1 ∷ []) $ drop t $ move t (1 ∷ []) $
      in_a_block t d.at (λ p. box_owns (ghosts.dealloc_token d.alloc) pool_row p x) (fst∗ 𝓤 (never 𝓤) (sem 𝓛 (ghosts.dealloc_token d.alloc (bare (lone pool_row.mir)) null_ptr))) (λ b o e. k b o h e
      (subst (λ (p : Ptr). vs ≡ vstruct (of_list (ptr_val p ∷ h ∷ [])) ∷ []) e
      (subst (λ (ws : List Val). vs ≡ vstruct (of_list (ptr_val d.at ∷ (ws ++ []))) ∷ []) ea (subst (λ (ps : List Val). vs ≡ vstruct (of_list (ps ++ (vss.1.0 ++ []))) ∷ []) ep ev))) fits)))))
