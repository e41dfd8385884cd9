-- `none` makes a cell that owns nothing. Assumes `Logic`.
use Rattle.std.proofs.Common.{◌≡◌, List, [], ◌∷◌, ◌++◌, refl, sym, subst}
use mathlib.Core.Bool.{false}
use mir.Val.{Val}
use base.Logic.{SProp, ent, emp, id⊢}
use base.Fml.{ftrue}
use prog.Wp.{WpFn}
use types.Kit.{‵, raw, ◌⊛◌, ◌$◌, ◌∵◌, !, qed, by, move, keep, drop, split, fsplit, fjoin, suffices, use0}
use types.Run.{no_more, and_then, returns, enter}
use types.ByLocal.{alloc_all, pass_all, free_all, look_at, get, sets}
use types.Part.{agg}
use contract.Monad.{fact, fact_i}
use contract.Running.{tables}
use denote.RattleType.{owns}
use denote.RawPtr.{ptr_val}
use denote.Signature.{types_at}
use denote.Steps.{nothing}
use denote.Triple.Entry.{alive}
use denote.Triple.Walked.{Stays, stay_dropped, walk_of, Goes-dropped}
use Rattle.core.proofs.alloc.Calls.{handle_tells}
use Rattle.std.proofs.raw_atomic.Walks.{proved_at, leaves}
use Rattle.sevunthi.proofs.Cells.{al, both, slot_at, ptr_typed, cell_typed, empty_in}
use Rattle.sevunthi.specs.Held.{nobody}
use Rattle.sevunthi.specs.contracts.cell.Cell.none.{ended, clauses}
use Rattle.sevunthi.specs.contracts.cell.Cell.none.Key.{name as #self}
use Rattle.sevunthi.proofs.cell.Cell.none.Statement.{statement}
use Rattle.sevunthi.proofs.cell.Cell.none.Code as code

pub none_spec : {M : Type 1} → statement M
none_spec 𝓤 𝓛 𝓜 𝓡 wired =
    let H = 𝓛.H in let 𝓣 = tables 𝓤 H 𝓜 𝓡 𝓡.env in let c = clauses 𝓛 𝓜.mem 𝓡.returns in let fn = code.function in
    let hs : Stays ended.signature.params ended.kept = (
      stay_dropped (slot_at 0 ended.signature.params) ended.kept.0,
      (
        stay_dropped
            (slot_at 1 ended.signature.params) ended.kept.1.0,
        tt,
      ),
    ) in
    proved_at 𝓛 ended hs c 𝓜 𝓡 (
      Goes-dropped 𝓛 0 (slot_at 0 ended.signature.params) ended.kept.0 (λ κs x f. refl),
      (
        Goes-dropped 𝓛 0
            (slot_at 1 ended.signature.params) ended.kept.1.0 (λ κs x f. refl),
        tt,
      ),
    ) #self fn (code.unfolded 𝓤 H 𝓜 𝓡 wired) (λ z are.
    let p = z.0.3.0 in let a = z.0.3.1.0 in let Post : Val → SProp 𝓤 = (walk_of 𝓛 ended hs c).post z in let Run : List Val →
    SProp 𝓤 = λ ws. WpFn 𝓤 H 𝓣.C 𝓣.Λ fn ws Post in
    qed 𝓛 ((raw (alive 𝓛 ended.signature z.0.0 z.0.1) ⊛
    ‵ (owns (types_at ended.signature.params z.0.0) z.0.3 z.0.4)) ∷ ‵ ftrue ∷ []) ∵ move ! (1 ∷ []) $ drop ! $ split ! $
    move ! (1 ∷ []) $ fsplit ! $ drop ! $ fsplit ! $
    handle_tells al ! a z.0.4.1.0 (λ h eh fits.
    -- [the heap's handle; nothing; the tokens]
    let w : Val = both (ptr_val p) h in let typed = cell_typed p h fits in let us : List Val = ptr_val p ∷ h ∷ [] in
    suffices ! (Run us) (subst (λ (vs : List Val). ent 𝓤 (Run us) (Run vs)) (sym (λ i. are.0 i ++ (eh i ++ []))) (id⊢ 𝓤 (Run us))) $
    enter ! 𝓣.C 𝓣.Λ fn us Post $ alloc_all ! (λ l. pass_all ! refl (ptr_typed p, (fits, tt)) $
    sets ! (agg ! (and_then ! (get ! refl) (and_then ! (get ! refl) (no_more !)))) refl typed $
    empty_in ! p h a nobody $
    use0 𝓛 (raw (fact 𝓤 (false ≡ false))) (fact_i 𝓤 (false ≡ false) (emp 𝓤) refl) $ nothing ! $ nothing ! $ fjoin ! $ nothing ! $
    fjoin ! $
    -- [what is left of the parameters; the clause; the result; nothing; the tokens]
    returns ! (look_at ! 0 refl) $ free_all ! refl $ keep ! (4 ∷ 0 ∷ 2 ∷ 1 ∷ []) $
    by ! (leaves 𝓛 ended hs c z w (record { at = p; alloc = a; full = false; session = nobody }) (tt, (tt, tt)) (tt, (tt, tt))))))
