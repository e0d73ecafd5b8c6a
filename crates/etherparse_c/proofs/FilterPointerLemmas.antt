-- Machine values of the pointers that C holds to a filter.
use Rattle.std.proofs.Common.{◌≡◌, ℕ, List, [], ◌∷◌, ◌++◌, refl, subst}
use seplogic.Ra.Ura.{Ura}
use mir.Raw.{raw as bare}
use mir.Val.{Val, vptr, vstruct, of_list}
use base.Logic.{never, fst∗}
use types.Logic.{Logic, sem}
use types.Kit.{Item, Goal, Seq, Step, step, ‵, ◌$◌, move, drop, fsplit, fjoin, fpick, fpack, rewrite, feq_i, feq_l}
use denote.RattleType.{RattleType, Valss}
use denote.Builtin.{RawPtr}
use denote.Memory.{lone}
use denote.RawPtr.{Ptr, block_ptr, null_ptr, ptr_val, in_a_block}
use denote.Steps.{nothing}
use denote.Param.{layout}
use denote.Struct.Struct.{within}
use denote.Struct.Owning.{shape}
use Rattle.std.proofs.alloc.Calls.{handle_tells}
use Rattle.std.proofs.cell.Inside.{Good}
use Rattle.std.specs.Box.Ownership.{box_owns}
use Rattle.std.specs.Prelude.{Option, Some}
use Rattle.std.specs.contracts.alloc.Global as heap
use Rattle.std.specs.contracts.impls.GlobalAllocator.TheImpl.{ghosts}
use Rattle.etherparse_c.specs.FilterOwnership.{owns_filter}
use Rattle.etherparse_c.specs.HeldFilterOwnership.{owns_held_filter}
use Rattle.etherparse_c.specs.declared.held_filter.HeldFilter.{HeldFilter}
use Rattle.packet_filter.specs.Step.{Step as FilterStep}
use Rattle.etherparse_c.specs.contracts.held_filter.HeldFilter.{the_row as kept_row}
use Rattle.packet_filter.specs.contracts.filter.Filter.{the_row}
use Rattle.etherparse_c.specs.contracts.filter_handle.FilterHandle as handle
use Rattle.etherparse_c.specs.contracts.filter_pointer.FilterPointer as filter_pointer
use Rattle.etherparse_c.proofs.PointerStepLemmas.{both, Heap, heap_al}

-- The types of the pointers to a filter.
abbrev pub FilterPointer : RattleType
FilterPointer = filter_pointer.the_row

abbrev pub FilterHandle : RattleType
FilterHandle = handle.the_row

module _ {M : Type 1} {𝓤 : Ura M} {𝓛 : Logic 𝓤} {K : Type 0} {Γ : List (Item 𝓤)} {G : Goal 𝓤 𝓛.H} where
  pub filter_pointer_in : K → (p : Ptr) (v h : Val) → v ∷ [] ≡ ptr_val p ∷ [] → (a : Heap.Denot) (x : Option (List FilterStep))
      → Step K 𝓛 (‵ (FilterPointer.own_val (record { at = p; alloc = a; filter = x }) (both v h ∷ [])) ∷ Γ) G (‵ (owns_filter x a p) ∷ ‵ (Heap.own_val a (h ∷ [])) ∷ Γ) G
  filter_pointer_in t p v h e a x = step (λ s. let w : Val = both v h in
      nothing t $ move t (2 ∷ 0 ∷ []) $ fjoin t $ feq_i t (List Val) (v ∷ []) (ptr_val p ∷ []) e $ fjoin t $ feq_i t (List Val) (w ∷ []) (w ∷ []) refl $ fjoin t $
      fpack t (Valss (RawPtr ∷ (heap.the_field).row ∷ [])) (within (shape filter_pointer.the_type) (p, ((heap.the_field).into a, tt)) (w ∷ [])) (v ∷ [], (h ∷ [], tt)) $ fjoin t $ s)

  pub filter_handle_in : K → (p : Ptr) (v h : Val) → v ∷ [] ≡ ptr_val p ∷ [] → (a : Heap.Denot) (x : Option HeldFilter)
      → Step K 𝓛 (‵ (FilterHandle.own_val (record { at = p; alloc = a; filter = x }) (both v h ∷ [])) ∷ Γ) G (‵ (owns_held_filter x a p) ∷ ‵ (Heap.own_val a (h ∷ [])) ∷ Γ) G
  filter_handle_in t p v h e a x = step (λ s. let w : Val = both v h in
      nothing t $ move t (2 ∷ 0 ∷ []) $ fjoin t $ feq_i t (List Val) (v ∷ []) (ptr_val p ∷ []) e $ fjoin t $ feq_i t (List Val) (w ∷ []) (w ∷ []) refl $ fjoin t $
      fpack t (Valss (RawPtr ∷ (heap.the_field).row ∷ [])) (within (shape handle.the_type) (p, ((heap.the_field).into a, tt)) (w ∷ [])) (v ∷ [], (h ∷ [], tt)) $ fjoin t $ s)

  pub filter_pointer_out : K → (d : FilterPointer.Denot) (x : List FilterStep) → d.filter ≡ Some x → (vs : List Val)
      → ((b o : ℕ) (h : Val) → d.at ≡ block_ptr b o → vs ≡ both (vptr b o) h ∷ [] → Good (layout Heap) h → Seq K 𝓛 (‵ (box_owns (ghosts.dealloc_token d.alloc) the_row (block_ptr b o) x) ∷ ‵ (Heap.own_val d.alloc (h ∷ [])) ∷ Γ) G)
      → Seq K 𝓛 (‵ (FilterPointer.own_val d vs) ∷ Γ) G
  filter_pointer_out t d x is vs k =
      fsplit t $ move t (1 ∷ []) $ rewrite t 0 (λ (s : Option (List FilterStep)). ‵ (owns_filter s d.alloc d.at)) is refl $ move t (1 ∷ []) $
      fpick t (λ vss. fsplit t $ feq_l t (λ ev. fsplit t $ feq_l t (λ ep. fsplit t $ handle_tells heap_al t d.alloc vss.1.0 (λ h ea fits. move t (1 ∷ []) $ drop t $ move t (1 ∷ []) $
      in_a_block t d.at (λ p. box_owns (ghosts.dealloc_token d.alloc) the_row p x) (fst∗ 𝓤 (never 𝓤) (sem 𝓛 (ghosts.dealloc_token d.alloc (bare (lone the_row.mir)) null_ptr))) (λ b o e. k b o h e
      (subst (λ (p : Ptr). vs ≡ vstruct (of_list (ptr_val p ∷ h ∷ [])) ∷ []) e
      (subst (λ (ws : List Val). vs ≡ vstruct (of_list (ptr_val d.at ∷ (ws ++ []))) ∷ []) ea (subst (λ (ps : List Val). vs ≡ vstruct (of_list (ps ++ (vss.1.0 ++ []))) ∷ []) ep ev))) fits)))))

  pub filter_handle_out : K → (d : FilterHandle.Denot) (x : HeldFilter) → d.filter ≡ Some x → (vs : List Val)
      → ((b o : ℕ) (h : Val) → d.at ≡ block_ptr b o → vs ≡ both (vptr b o) h ∷ [] → Good (layout Heap) h → Seq K 𝓛 (‵ (box_owns (ghosts.dealloc_token d.alloc) kept_row (block_ptr b o) x) ∷ ‵ (Heap.own_val d.alloc (h ∷ [])) ∷ Γ) G)
      → Seq K 𝓛 (‵ (FilterHandle.own_val d vs) ∷ Γ) G
  filter_handle_out t d x is vs k =
      fsplit t $ move t (1 ∷ []) $ rewrite t 0 (λ (s : Option HeldFilter). ‵ (owns_held_filter s d.alloc d.at)) is refl $ move t (1 ∷ []) $
      fpick t (λ vss. fsplit t $ feq_l t (λ ev. fsplit t $ feq_l t (λ ep. fsplit t $ handle_tells heap_al t d.alloc vss.1.0 (λ h ea fits. move t (1 ∷ []) $ drop t $ move t (1 ∷ []) $
      in_a_block t d.at (λ p. box_owns (ghosts.dealloc_token d.alloc) kept_row p x) (fst∗ 𝓤 (never 𝓤) (sem 𝓛 (ghosts.dealloc_token d.alloc (bare (lone kept_row.mir)) null_ptr))) (λ b o e. k b o h e
      (subst (λ (p : Ptr). vs ≡ vstruct (of_list (ptr_val p ∷ h ∷ [])) ∷ []) e
      (subst (λ (ws : List Val). vs ≡ vstruct (of_list (ptr_val d.at ∷ (ws ++ []))) ∷ []) ea (subst (λ (ps : List Val). vs ≡ vstruct (of_list (ps ++ (vss.1.0 ++ []))) ∷ []) ep ev))) fits)))))
