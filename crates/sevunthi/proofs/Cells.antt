-- The machine values of a cell, and what it owns. Assumes `Logic`.
use Rattle.std.proofs.Common.{◌≡◌, ℕ, List, [], ◌∷◌, ◌++◌, refl, subst, lit<}
use mathlib.Core.Bool.{Bool, true, false, ◌&&◌}
use lib.Dec.{T}
use seplogic.Ra.Ura.{Ura}
use mir.Syntax.{impl, tnil, dnil, ty_ptr}
use mir.Raw.{raw as bare}
use mir.Val.{Val, vptr, vstruct, vcons, vnil, of_list, has_ty, WT}
use base.Logic.{never, fst∗, id⊢}
use types.Logic.{Logic, sem}
use types.Kit.{Item, Goal, Seq, Step, step, use1, ‵, ◌$◌, move, drop, fsplit, fjoin, fpick, fpack, rewrite, feq_i, feq_l}
use denote.RattleType.{RattleType, Valss}
use denote.Builtin.{RawPtr}
use denote.Memory.{lone}
use denote.RawPtr.{Ptr, block_ptr, null_ptr, ptr_val, in_a_block}
use denote.Signature.{Slot, plain}
use denote.Builtin.{unit}
use denote.Steps.{nothing}
use denote.Param.{layout}
use denote.Struct.Struct.{within}
use Prim.Native.Nat.{zero, suc}
use Rattle.core.proofs.alloc.Calls.{Al, handle_tells}
use Rattle.core.proofs.cell.Inside.{Good}
use Rattle.std_alloc.specs.Box.Ownership.{box_owns}
use Rattle.std_alloc.proofs.ResultValues.{and_tt}
use Rattle.std.specs.contracts.alloc.Global as heap
use Rattle.std.proofs.alloc.Global.TheLaws as heap_laws
use Rattle.std.specs.contracts.impls.GlobalAllocator.TheImpl.{ghosts}
use Rattle.rc_session.specs.contracts.session.Session as session
use Rattle.rc_handles.proofs.Values.{loose_in}
use Rattle.sevunthi.specs.Held.{held}
use Rattle.sevunthi.specs.contracts.cell.Cell as cell

abbrev pub slot_at : {n : ℕ} → ℕ → List (Slot n) → Slot n
slot_at k [] = plain (λ _. unit)
slot_at zero (s ∷ ss) = s
slot_at (suc k) (s ∷ ss) = slot_at k ss

abbrev pub R : RattleType
R = session.the_row

abbrev pub Z : RattleType
Z = heap.the_row

abbrev pub al : Al
al = record { row = Z; laws = heap_laws.the_row_laws; g = ghosts; d = impl [] tnil dnil; drops = impl [] tnil dnil }

abbrev pub both : Val → Val → Val
both v w = vstruct (vcons v (vcons w vnil))

pub ptr_typed : (p : Ptr) → Good ty_ptr (ptr_val p)
ptr_typed (block_ptr b o) = (tt, tt)
ptr_typed null_ptr = (tt, record { fits = lit< tt })

and2 : (x y : Bool) → T x → T y → T (x && y)
and2 true y s t = t
and2 false y s t = absurd s

pub cell_typed : (p : Ptr) (h : Val) → Good (layout Z) h →
    T (has_ty ty_ptr (ptr_val p) && (has_ty (layout Z) h && true)) × WT (both (ptr_val p) h)
cell_typed p h fits = (
  and2 (has_ty ty_ptr (ptr_val p)) (has_ty (layout Z) h && true) (ptr_typed p).0 (and_tt (has_ty
      (layout Z) h) fits.0),
  ((ptr_typed p).1, (fits.1, tt)),
)

module _ {M : Type 1} {𝓤 : Ura M} {𝓛 : Logic 𝓤} {K : Type 0} {Γ : List (Item 𝓤)} {G : Goal 𝓤 𝓛.H} where
  -- a full cell is the box, and the handle
  pub cell_out : K → (d : (cell.the_row).Denot) (vs : List Val) → d.full ≡ true
      → ((b o : ℕ) (h : Val) → d.at ≡ block_ptr b o → vs ≡ both (vptr b o) h ∷ [] → Good (layout Z) h →
      Seq K 𝓛 (‵ (box_owns (ghosts.dealloc_token d.alloc) R (block_ptr b o) d.session) ∷ ‵ (Z.own_val d.alloc (h ∷ [])) ∷ Γ) G)
      → Seq K 𝓛 (‵ ((cell.the_row).own_val d vs) ∷ Γ) G
  cell_out t d vs full k =
      fsplit t $ move t (1 ∷ []) $ rewrite t 0 (λ (y : Bool). ‵ (held y d.alloc d.at d.session)) full refl $ move t (1 ∷ []) $
      fpick t (λ vss. fsplit t $ feq_l t (λ ev. fsplit t $ feq_l t (λ ep. fsplit t $
      handle_tells al t d.alloc vss.1.0 (λ h ea fits. move t (1 ∷ []) $ drop t $ move t (1 ∷ []) $
      in_a_block t d.at (λ p. box_owns (ghosts.dealloc_token d.alloc) R p d.session) (fst∗ 𝓤 (never 𝓤) (sem 𝓛
      (ghosts.dealloc_token d.alloc (bare (lone R.mir)) null_ptr))) (λ b o e. k b o h e
      (subst (λ (p : Ptr). vs ≡ vstruct (of_list (ptr_val p ∷ h ∷ [])) ∷ []) e
      (subst (λ (ws : List Val). vs ≡ vstruct (of_list (ptr_val d.at ∷ (ws ++ []))) ∷ []) ea (subst (λ (ps : List Val). vs ≡ vstruct
      (of_list (ps ++ (vss.1.0 ++ []))) ∷ []) ep ev))) fits)))))

  pub cell_in : K → (b o : ℕ) (h : Val) (a : Z.Denot) (x : R.Denot)
      → Step K 𝓛 (‵ ((cell.the_row).own_val (record { at = block_ptr b o; alloc = a; full = true; session = x }) (both
      (vptr b o) h ∷ [])) ∷ Γ) G (‵ (box_owns (ghosts.dealloc_token a) R (block_ptr b o) x) ∷ ‵ (Z.own_val a (h ∷ [])) ∷ Γ) G
  cell_in t b o h a x = step (λ s. loose_in R Z heap_laws.the_row_laws ghosts t b o h a x $
      use1 𝓛 (‵ ((cell.the_row).own_val (record { at = block_ptr b o; alloc = a; full = true; session = x }) (both (vptr b o) h ∷ [])))
      (id⊢ 𝓤 _) $ s)

  -- an empty cell is the handle
  pub empty_in : K → (p : Ptr) (h : Val) (a : Z.Denot) (x : R.Denot)
      → Step K 𝓛 (‵ ((cell.the_row).own_val (record { at = p; alloc = a; full = false; session = x }) (both (ptr_val p) h ∷ [])) ∷ Γ) G
      (‵ (Z.own_val a (h ∷ [])) ∷ Γ) G
  empty_in t p h a x = step (λ s. let v : Val = both (ptr_val p) h in
      nothing t $ nothing t $ move t (2 ∷ 0 ∷ []) $ fjoin t $ feq_i t (List Val) (ptr_val p ∷ []) (ptr_val p ∷ []) refl $ fjoin t $
      feq_i t (List Val) (v ∷ []) (v ∷ []) refl $ fjoin t $
      fpack t (Valss (RawPtr ∷ Z ∷ [])) (within (record { name = []; args = []; types = []; fields = RawPtr ∷ Z ∷ [] }) (p, (a, tt))
      (v ∷ [])) (ptr_val p ∷ [], (h ∷ [], tt)) $ fjoin t $
      use1 𝓛 (‵ ((cell.the_row).own_val (record { at = p; alloc = a; full = false; session = x }) (v ∷ []))) (id⊢ 𝓤 _) $ s)
