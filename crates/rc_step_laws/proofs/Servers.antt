-- Server lists: crashed is for good, and of each host at most one id is up.
use Rattle.std.proofs.Common.{arith}
use Rattle.std.proofs.Common.{◌≡◌, ℕ, Bool, true, false, cond, nat_eq, ◌&&◌, ◌||◌, List, [], ◌∷◌, ◌++◌, refl, sym, ap, ◌∙◌}
use Rattle.std.proofs.lemmas.Bool.{eq-eqb}
use Rattle.rc_model.specs.Model.{ServerId, same_id, ServerList, knows, marked_up, is_up, has_crashed, up_rows, index_crashed, enlisted}
use Rattle.rc_model.specs.Model.{id_crashed, crashed}
use Rattle.rc_step_laws.specs.Words.{NotOnHostOf, OnDifferentHosts}
use Rattle.rc_model.proofs.Tests.{true_false}

-- Crashed is for good

crashed-parts : (known mark : Bool) → (known && cond mark false true) ≡ true → (known ≡ true) × (mark ≡ false)
crashed-parts true false e = (refl, refl)
crashed-parts true true e = absurd (true_false (sym e))
crashed-parts false mark e = absurd (true_false (sym e))

crashed-join : {known mark : Bool} → known ≡ true → mark ≡ false → (known && cond mark false true) ≡ true
crashed-join {mark} k e = ap (λ b. b && cond mark false true) k ∙ ap (λ b. cond b false true) e

-- who has crashed isn't up
pub crashed-not-up : (servers : ServerList) (m : ServerId) → has_crashed servers m ≡ true → is_up servers m ≡ false
crashed-not-up servers m e = (crashed-parts (knows servers.rows m) (marked_up servers.rows m) e).1

-- marking ids crashed keeps who is known, and marks nobody up

knows-id_crashed : (id m : ServerId) (rows : List (ServerId × Bool)) → knows (id_crashed id rows) m ≡ knows rows m
knows-id_crashed id m [] = refl
knows-id_crashed id m (row ∷ rows) = ap (λ b. same_id m row.0 || b) (knows-id_crashed id m rows)

marked-id_crashed : (id m : ServerId) (rows : List (ServerId × Bool)) → marked_up rows m ≡ false → marked_up (id_crashed id rows) m ≡ false
marked-id_crashed id m [] e = refl
marked-id_crashed id m (row ∷ rows) e = by (same_id m row.0) (same_id id row.0) (marked-id_crashed id m rows) e
  where
    by : (here struck : Bool) → (marked_up rows m ≡ false → marked_up (id_crashed id rows) m ≡ false) →
        cond here row.1 (marked_up rows m) ≡ false →
        cond here (cond struck false row.1) (marked_up (id_crashed id rows) m) ≡ false
    by true true rec e = refl
    by true false rec e = e
    by false struck rec e = rec e

pub crashed-stays-crashed : (id m : ServerId) (servers : ServerList) → has_crashed servers m ≡ true →
    has_crashed (crashed id servers) m ≡ true
crashed-stays-crashed id m servers e =
    search (arith, crashed-parts, crashed-join, knows-id_crashed, marked-id_crashed)

knows-index_crashed : (index : ℕ) (m : ServerId) (rows : List (ServerId × Bool)) → knows (index_crashed index rows) m ≡ knows rows m
knows-index_crashed index m [] = refl
knows-index_crashed index m (row ∷ rows) = ap (λ b. same_id m row.0 || b) (knows-index_crashed index m rows)

marked-index_crashed : (index : ℕ) (m : ServerId) (rows : List (ServerId × Bool)) → marked_up rows m ≡ false →
    marked_up (index_crashed index rows) m ≡ false
marked-index_crashed index m [] e = refl
marked-index_crashed index m (row ∷ rows) e = by (same_id m row.0) (nat_eq row.0.index index) (marked-index_crashed index m rows) e
  where
    by : (here struck : Bool) → (marked_up rows m ≡ false → marked_up (index_crashed index rows) m ≡ false) →
        cond here row.1 (marked_up rows m) ≡ false →
        cond here (cond struck false row.1) (marked_up (index_crashed index rows) m) ≡ false
    by true true rec e = refl
    by true false rec e = e
    by false struck rec e = rec e

-- who is known stays so in a longer list, with the same mark
knows-longer : (m : ServerId) (rows more : List (ServerId × Bool)) → knows rows m ≡ true → knows (rows ++ more) m ≡ true
knows-longer m [] more e = absurd (true_false (sym e))
knows-longer m (row ∷ rows) more e = by (same_id m row.0) (knows-longer m rows more) e
  where
    by : (here : Bool) → (knows rows m ≡ true → knows (rows ++ more) m ≡ true) → (here || knows rows m) ≡ true →
        (here || knows (rows ++ more) m) ≡ true
    by true rec e = refl
    by false rec e = rec e

marked-longer : (m : ServerId) (rows more : List (ServerId × Bool)) → knows rows m ≡ true → marked_up (rows ++ more) m ≡ marked_up rows m
marked-longer m [] more e = absurd (true_false (sym e))
marked-longer m (row ∷ rows) more e = by (same_id m row.0) (marked-longer m rows more) e
  where
    by : (here : Bool) → (knows rows m ≡ true → marked_up (rows ++ more) m ≡ marked_up rows m) →
        (here || knows rows m) ≡ true → cond here row.1 (marked_up (rows ++ more) m) ≡ cond here row.1
        (marked_up rows m)
    by true rec e = refl
    by false rec e = rec e

pub crashed-stays-enlisted : (id m : ServerId) (servers : ServerList) → has_crashed servers m ≡ true →
    has_crashed (enlisted id servers) m ≡ true
crashed-stays-enlisted id m servers e =
    search (
      arith,
      crashed-parts,
      knows-index_crashed,
      crashed-join,
      knows-longer,
      marked-longer,
      marked-index_crashed,
    )

-- Of each host at most one id is up

not-on-id_crashed : (id x : ServerId) (rows : List (ServerId × Bool)) → NotOnHostOf x (up_rows rows) →
    NotOnHostOf x (up_rows (id_crashed id rows))
not-on-id_crashed id x [] p = tt
not-on-id_crashed id x (row ∷ rows) p = by row.1 (same_id id row.0) (not-on-id_crashed id x rows) p
  where
    by : (mark struck : Bool) → (NotOnHostOf x (up_rows rows) → NotOnHostOf x (up_rows (id_crashed id rows))) →
        NotOnHostOf x (cond mark (row.0 ∷ up_rows rows) (up_rows rows)) →
        NotOnHostOf x (cond (cond struck false mark) (row.0 ∷ up_rows (id_crashed id rows)) (up_rows (id_crashed id rows)))
    by true true rec p = rec p.1
    by true false rec p = (p.0, rec p.1)
    by false true rec p = rec p
    by false false rec p = rec p

apart-id_crashed : (id : ServerId) (rows : List (ServerId × Bool)) → OnDifferentHosts (up_rows rows) →
    OnDifferentHosts (up_rows (id_crashed id rows))
apart-id_crashed id [] p = tt
apart-id_crashed id (row ∷ rows) p = by row.1 (same_id id row.0) (apart-id_crashed id rows) p
  where
    by : (mark struck : Bool) → (OnDifferentHosts (up_rows rows) → OnDifferentHosts (up_rows (id_crashed id rows))) →
        OnDifferentHosts (cond mark (row.0 ∷ up_rows rows) (up_rows rows)) →
        OnDifferentHosts (cond (cond struck false mark) (row.0 ∷ up_rows (id_crashed id rows)) (up_rows (id_crashed id rows)))
    by true true rec p = rec p.1
    by true false rec p = (not-on-id_crashed id row.0 rows p.0, rec p.1)
    by false true rec p = rec p
    by false false rec p = rec p

pub apart-crashed : (id : ServerId) (servers : ServerList) → OnDifferentHosts (up_rows servers.rows) →
    OnDifferentHosts (up_rows (crashed id servers).rows)
apart-crashed id servers p = search (arith, apart-id_crashed)

-- a new id, with all others of its host crashed
not-on-enlisted : (id x : ServerId) (rows : List (ServerId × Bool)) → (x.index ≡ id.index → ⊥) →
    NotOnHostOf x (up_rows rows) → NotOnHostOf x (up_rows (index_crashed id.index rows ++ (id, true) ∷ []))
not-on-enlisted id x [] differs p = (differs, tt)
not-on-enlisted id x (row ∷ rows) differs p = by row.1 (nat_eq row.0.index id.index) (not-on-enlisted id x rows differs) p
  where
    by : (mark struck : Bool) →
        (NotOnHostOf x (up_rows rows) → NotOnHostOf x (up_rows (index_crashed id.index rows ++ (id, true) ∷ []))) →
        NotOnHostOf x (cond mark (row.0 ∷ up_rows rows) (up_rows rows)) →
        NotOnHostOf x (cond (cond struck false mark) (row.0 ∷ up_rows (index_crashed id.index rows ++ (id, true) ∷ []))
        (up_rows (index_crashed id.index rows ++ (id, true) ∷ [])))
    by true true rec p = rec p.1
    by true false rec p = (p.0, rec p.1)
    by false true rec p = rec p
    by false false rec p = rec p

apart-enlisted-rows : (id : ServerId) (rows : List (ServerId × Bool)) → OnDifferentHosts (up_rows rows) →
    OnDifferentHosts (up_rows (index_crashed id.index rows ++ (id, true) ∷ []))
apart-enlisted-rows id [] p = (tt, tt)
apart-enlisted-rows id (row ∷ rows) p = by row.1 (nat_eq row.0.index id.index) refl (apart-enlisted-rows id rows) p
  where
    differs : nat_eq row.0.index id.index ≡ false → row.0.index ≡ id.index → ⊥
    differs e same = true_false (sym (eq-eqb row.0.index id.index same) ∙ e)

    by : (mark struck : Bool) → nat_eq row.0.index id.index ≡ struck →
        (OnDifferentHosts (up_rows rows) → OnDifferentHosts (up_rows (index_crashed id.index rows ++ (id, true) ∷ [])))
        → OnDifferentHosts (cond mark (row.0 ∷ up_rows rows) (up_rows rows)) →
        OnDifferentHosts (cond (cond struck false mark)
        (row.0 ∷ up_rows (index_crashed id.index rows ++ (id, true) ∷ []))
        (up_rows (index_crashed id.index rows ++ (id, true) ∷ [])))
    by true true e rec p = rec p.1
    by true false e rec p = (not-on-enlisted id row.0 rows (differs e) p.0, rec p.1)
    by false true e rec p = rec p
    by false false e rec p = rec p

pub apart-enlisted : (id : ServerId) (servers : ServerList) → OnDifferentHosts (up_rows servers.rows) →
    OnDifferentHosts (up_rows (enlisted id servers).rows)
apart-enlisted id servers p = apart-enlisted-rows id servers.rows p
