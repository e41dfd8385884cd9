-- The tasks stay those of the parts, whatever becomes of a part.
use Rattle.std.proofs.Common.{◌≡◌, ℕ, Bool, true, false, cond, List, [], ◌∷◌, map, ap, sym, ◌∙◌, refl}
use Rattle.rc_model.specs.Model.{ServerId, Entry, PartState, Task, awaits, data_in, answered_in, is_to_answer}
use Rattle.rc_model.specs.Model.{joined, part_with_row}
use Rattle.rc_ownership.proofs.PartTables.{joined-named}
use Rattle.rc_master.specs.Tasks.{AreTasksOf}

data-terms : (term seg : ℕ) (from : ServerId) (came : List Entry) (parts : List PartState) →
    map (λ (state : PartState). state.part.term) (data_in term seg from came parts)
    ≡ map (λ (state : PartState). state.part.term) parts
data-terms term seg from came [] = refl
data-terms term seg from came (state ∷ parts) = by (awaits term seg from state) (data-terms term seg from came parts)
  where
    by : (b : Bool) →
        map (λ (one : PartState). one.part.term) (data_in term seg from came parts) ≡ map (λ (one : PartState). one.part.term) parts →
        map (λ (one : PartState). one.part.term)
        (cond b (joined (part_with_row seg from came state) ∷ parts) (state ∷ data_in term seg from came parts))
        ≡ map (λ (one : PartState). one.part.term) (state ∷ parts)
    by true later =
        ap (λ own. own ∷ map (λ (one : PartState). one.part.term) parts) (joined-named (part_with_row seg from came state))
    by false later = ap (λ terms. state.part.term ∷ terms) later

-- a row of a part came
pub tasks-data : (term seg : ℕ) (from : ServerId) (came : List Entry) (parts : List PartState) (tasks : List Task) →
    AreTasksOf parts tasks → AreTasksOf (data_in term seg from came parts) tasks
tasks-data term seg from came parts tasks are = are ∙ sym (data-terms term seg from came parts)

answered-terms : (durable : List Entry) (parts : List PartState) →
    map (λ (state : PartState). state.part.term) (answered_in durable parts) ≡ map (λ (state : PartState). state.part.term) parts
answered-terms durable [] = refl
answered-terms durable (state ∷ parts) = by (is_to_answer durable state) (answered-terms durable parts)
  where
    by : (b : Bool) →
        map (λ (one : PartState). one.part.term) (answered_in durable parts) ≡ map (λ (one : PartState). one.part.term) parts →
        map (λ (one : PartState). one.part.term) (cond b (record state { answered = true } ∷ parts) (state ∷ answered_in durable parts))
        ≡ map (λ (one : PartState). one.part.term) (state ∷ parts)
    by true later = refl
    by false later = ap (λ terms. state.part.term ∷ terms) later

-- the end of a part was told
pub tasks-answered : (durable : List Entry) (parts : List PartState) (tasks : List Task) → AreTasksOf parts tasks →
    AreTasksOf (answered_in durable parts) tasks
tasks-answered durable parts tasks are = are ∙ sym (answered-terms durable parts)
