-- Walks of the functions that store the address and the allocator of a box in another struct.
use Rattle.std.proofs.Common.{◌≡◌, ℕ, List, [], ◌∷◌, ◌++◌, refl, sym, subst, lit<, T, ◌&&◌, true}
use seplogic.Ra.Ura.{Ura}
use mir.Syntax.{Sym, Fn, Ty, w64, ty_ptr, ty_struct, tnil, tcons, local, value_local, place, field, copy, int, rv_opd, aggregate, seq, assign, return}
use mir.Val.{Val, vptr, vint, has_ty, WT}
use base.Logic.{SProp, ent}
use prog.Model.{Model}
use prog.Wp.{WpFn}
use types.Logic.{Logic}
use types.Kit.{raw, ◌$◌, ◌∵◌, !, qed, done}
use types.Run.{stop, fld, of_opd, lit, no_more, and_then, returns, enter}
use types.ByLocal.{alloc_all, pass_all, free_all, look_at, get, get_in, sets}
use types.Part.{agg, sub, whole}
use contract.Running.{Running, MachineTables, tables}
use denote.Param.{layout}
use Rattle.std.proofs.cell.Inside.{Good}
use Rattle.std.proofs.alloc.Global.TheLaws as heap_laws
use Rattle.std.specs.contracts.impls.GlobalAllocator.TheImpl.{ghosts}
use Rattle.etherparse_c.proofs.PointerStepLemmas.{Heap, both, raw_box_fits}

-- the type of a struct of an address and an allocator, with this name
abbrev pointer_type : Sym → Ty
pointer_type name = ty_struct name (tcons ty_ptr (tcons (layout Heap) tnil))

-- the code of a function that moves an address and an allocator from a struct to another
abbrev pub moving : Sym → Sym → Fn
moving target source = record {
  lifetimes = 0;
  outlives = [];
  ty_params = [];
  givens = 0;
  params = 1;
  locals = local (pointer_type target) value_local ∷ local (pointer_type source) value_local ∷ local ty_ptr value_local
      ∷ local (layout Heap) value_local ∷ local ty_ptr value_local ∷ [];
  body = seq (assign (place 2 []) (rv_opd (copy (place 1 (field 0 ∷ [])))))
      (seq (assign (place 3 []) (rv_opd (copy (place 1 (field 1 ∷ [])))))
      (seq (assign (place 4 []) (rv_opd (copy (place 2 []))))
      (seq (assign (place 0 []) (aggregate (copy (place 4 []) ∷ copy (place 3 []) ∷ []))) return)));
}

-- the code of a function that stores a null pointer and an allocator in a struct
abbrev pub nulling : Sym → Fn
nulling target = record {
  lifetimes = 0;
  outlives = [];
  ty_params = [];
  givens = 0;
  params = 1;
  locals = local (pointer_type target) value_local ∷ local (layout Heap) value_local ∷ [];
  body = seq (assign (place 0 []) (aggregate (int w64 0 ∷ copy (place 1 []) ∷ []))) return;
}

module _ {M : Type 1} {𝓤 : Ura M} (𝓛 : Logic 𝓤) where
  open 𝓛 use {H}

  module _ (𝓜 : Model 𝓤 H) (𝓡 : Running 𝓤 H 𝓜) (Post : Val → SProp 𝓤) where
    abbrev 𝓣 : MachineTables 𝓤 H 𝓜
    𝓣 = tables 𝓤 H 𝓜 𝓡 𝓡.env

    -- Such a move returns the address and the allocator.
    pub moves_pointer : (target source : Sym) (b o : ℕ) (h : Val) (vs : List Val) → vs ≡ both (vptr b o) h ∷ [] → Good (layout Heap) h
        → ent 𝓤 (Post (both (vptr b o) h)) (WpFn 𝓤 H 𝓣.C 𝓣.Λ (moving target source) (vs ++ []) Post)
    moves_pointer target source b o h vs is fits =
        let w : Val = both (vptr b o) h in let fn = moving target source in let typed = raw_box_fits Heap Heap heap_laws.the_row_laws ghosts b o h fits in
        subst (λ (us : List Val). ent 𝓤 (Post w) (WpFn 𝓤 H 𝓣.C 𝓣.Λ fn (us ++ []) Post)) (sym is) (
        qed 𝓛 (raw (Post w) ∷ []) ∵ enter ! 𝓣.C 𝓣.Λ fn (w ∷ []) Post $ alloc_all ! (λ l. pass_all ! refl (typed, tt) $
        sets ! (of_opd ! (get_in ! (fld ! refl (stop !)) (sub ! 0 refl (whole !)))) refl (tt, tt) $
        sets ! (of_opd ! (get_in ! (fld ! refl (stop !)) (sub ! 1 refl (whole !)))) refl fits $
        sets ! (of_opd ! (get ! refl)) refl (tt, tt) $
        sets ! (agg ! (and_then ! (get ! refl) (and_then ! (get ! refl) (no_more !)))) refl typed $
        returns ! (look_at ! 0 refl) $ free_all ! refl $ done !))

    -- Such a store returns a null pointer and the allocator.
    pub stores_null : (target : Sym) (h : Val) (vs : List Val) → vs ≡ h ∷ [] → Good (layout Heap) h
        → ent 𝓤 (Post (both (vint w64 0) h)) (WpFn 𝓤 H 𝓣.C 𝓣.Λ (nulling target) (vs ++ []) Post)
    stores_null target h vs is fits =
        let w : Val = both (vint w64 0) h in let fn = nulling target in
        let typed : T (has_ty (layout Heap) h && true) × WT w = ((raw_box_fits Heap Heap heap_laws.the_row_laws ghosts 0 0 h fits).0, (record { fits = lit< tt }, (fits.1, tt))) in
        subst (λ (us : List Val). ent 𝓤 (Post w) (WpFn 𝓤 H 𝓣.C 𝓣.Λ fn (us ++ []) Post)) (sym is) (
        qed 𝓛 (raw (Post w) ∷ []) ∵ enter ! 𝓣.C 𝓣.Λ fn (h ∷ []) Post $ alloc_all ! (λ l. pass_all ! refl (fits, tt) $
        sets ! (agg ! (and_then ! (lit ! tt) (and_then ! (get ! refl) (no_more !)))) refl typed $
        returns ! (look_at ! 0 refl) $ free_all ! refl $ done !))
