-- A master that follows no rule stays as it is, and so does one that is granted a range.
use Rattle.std.proofs.Common.{◌≡◌, ◌≢◌, ℕ, zero, suc, ◌<◌, Bool, true, false, cond, List, [], ◌∷◌, ◌++◌, Option, Some}
use Rattle.std.proofs.Common.{None, Result, Ok, Err, OnOk, OnErr, refl, sym, ap, ◌∙◌, subst, arith, option_and_then}
use Rattle.std.specs.Option.{option_or}
use Rattle.rc_model.specs.Model.{Entry, Fault, GrantedRange, Message, Log, is_writing, is_full, begin_roll, may_start, may_close}
use Rattle.rc_model.specs.Model.{may_write, Ownership, grant, owns_term, to_answer, after_replay, Master, MasterSetup, new_master}
use Rattle.rc_model.specs.Model.{durable_replayed, dead_segments, appends_entry, when, follow_up, follows_start, follows_placed}
use Rattle.rc_model.specs.Model.{follows_closing, follows_shut, follows_change, follows_stored, follows_data, follows_replay, first_open}
use Rattle.rc_model.specs.Model.{wants_commit, commits, close_is_due, rolls_for_replay, replays, answers_part, marks_shut}
use Rattle.rc_model.specs.Model.{further, followed, enough, goes_on, ServerId, Addr, Body, then_does, master_takes_first, deposed_takes}
use Rattle.rc_model.specs.Model.{master_takes}
use Rattle.rc_model.proofs.Tests.{either, true_false}
use Rattle.rc_model.proofs.Measures.{goes_on-up, goes_on-settles, goes_on-marked}
use Rattle.rc_master.specs.Rules.{did}
use Rattle.rc_master.specs.Quiet.{IsQuiet}

-- so it is after the rules
pub quiet-after : (master : Master) → 0 < master.log.factor → IsQuiet (goes_on master).0
quiet-after master some = by master.deposed refl
  where
    apart : master.log.factor ≢ 0
    apart e = omega arith

    by : (b : Bool) → master.deposed ≡ b → IsQuiet (goes_on master).0
    by true is = λ up.
        let same : goes_on master ≡ (master, []) = ap (λ b. cond b (master, []) (followed (enough master) master)) is in
        true_false (sym is ∙ (ap (λ (after : Master × List Message). after.0.deposed) (sym same) ∙ up))
    by false is = λ _. (goes_on-marked master is, goes_on-settles master apart is)

followed-quiet : (times : ℕ) (master : Master) → marks_shut master ≡ master → follow_up master ≡ None → followed times master ≡ (master, [])
followed-quiet zero master marked none = ap (λ (m : Master). (m, [])) marked
followed-quiet (suc times) master marked none =
    ap (λ (m : Master). further (follow_up m) m (λ next. followed times next)) marked
    ∙ ap (λ (done : Option (Master × List Message)). further done master (λ next. followed times next)) none

-- and then the rules do nothing
pub quiet-stays : (master : Master) → IsQuiet master → goes_on master ≡ (master, [])
quiet-stays master quiet = by master.deposed refl
  where
    by : (b : Bool) → master.deposed ≡ b → goes_on master ≡ (master, [])
    by true is = ap (λ b. cond b (master, []) (followed (enough master) master)) is
    by false is = let both = quiet is in goes_on-up master is ∙ followed-quiet (enough master) master both.0 both.1

-- Whether a rule applies doesn't depend on the ranges

did-when : (b : Bool) (one other : Master × List Message) → did (when b one) ≡ did (when b other)
did-when true one other = refl
did-when false one other = refl

did-or : (a b c d : Option (Master × List Message)) → did a ≡ did c → did b ≡ did d → did (option_or a b) ≡ did (option_or c d)
did-or None b None d e f = f
did-or None b (Some x) d e f = true_false (sym e)
did-or (Some x) b None d e f = true_false e
did-or (Some x) b (Some y) d e f = refl

abbrev with_own : Master → Ownership → Master
with_own master own = record master { ownership = own }

did-commits : (one other : Master) → other.log ≡ one.log → (open_one : Option ℕ) →
    did (option_and_then (λ seg. when (wants_commit (one.log.segments seg)) (commits one seg)) open_one) ≡
    did (option_and_then (λ seg. when (wants_commit (other.log.segments seg)) (commits other seg)) open_one)
did-commits one other same None = refl
did-commits one other same (Some seg) =
    did-when (wants_commit (one.log.segments seg)) (commits one seg) (commits other seg)
    ∙ ap (λ (log : Log). did (when (wants_commit (log.segments seg)) (commits other seg))) (sym same)

did-rolls : (one other : Master) (answer : Log × Result Bool Fault) →
    did (rolls_for_replay one answer) ≡ did (rolls_for_replay other answer)
did-rolls one other (log, Ok began) = refl
did-rolls one other (log, Err fault) = refl

did-replays : (master : Master) (grants : List GrantedRange) (replay : List Entry) →
    did (replays (with_own master (record master.ownership { grants = grants })) replay) ≡ did (replays master replay)
did-replays master grants [] = refl
did-replays master grants (entry ∷ entries) =
    by (is_full master.log)
  where
    granted : Master
    granted = with_own master (record master.ownership { grants = grants })

    by : (b : Bool) → did (cond b (rolls_for_replay (with_own master (record master.ownership { grants = grants }))
        (begin_roll master.known (dead_segments master) master.log))
        (Some (appends_entry (with_own master (after_replay (record master.ownership { grants = grants }))) entry false)))
        ≡ did (cond b (rolls_for_replay master (begin_roll master.known (dead_segments master) master.log))
        (Some (appends_entry (record master { ownership = after_replay master.ownership }) entry false)))
    by true = did-rolls (with_own master (record master.ownership { grants = grants })) master
        (begin_roll master.known (dead_segments master) master.log)
    by false = refl

did-data : (master : Master) (grants : List GrantedRange) →
    did (follows_data (with_own master (record master.ownership { grants = grants }))) ≡ did (follows_data master)
did-data master grants = by (is_writing master.log.phase)
  where
    by : (b : Bool) → did (cond b (replays (with_own master (record master.ownership { grants = grants })) master.ownership.replay) None)
        ≡ did (cond b (replays master master.ownership.replay) None)
    by true = did-replays master grants master.ownership.replay
    by false = refl

did-answers : (one other : Master) (term : Option ℕ) → did (answers_part one term) ≡ did (answers_part other term)
did-answers one other None = refl
did-answers one other (Some term) = refl

granted-did : (master : Master) (grants : List GrantedRange) →
    did (follow_up (with_own master (record master.ownership { grants = grants }))) ≡ did (follow_up master)
granted-did master grants =
    let granted : Master = with_own master (record master.ownership { grants = grants }) in
    did-or (follows_start granted) _ (follows_start master) _ (did-when (may_start master.log) _ _)
    (did-or (follows_placed granted) _ (follows_placed master) _ (did-when (may_close master.log) _ _)
    (did-or (follows_closing granted) _ (follows_closing master) _ (did-when (close_is_due master.log) _ _)
    (did-or (follows_shut granted) _ (follows_shut master) _ (did-when (may_write master.log) _ _)
    (did-or (follows_change granted) _ (follows_change master) _ (did-commits granted master refl (first_open master.log))
    (did-or (follows_stored granted) _ (follows_stored master) _ (did-when _ _ _)
    (did-or (follows_data granted) (follows_replay granted) (follows_data master) (follows_replay master) (did-data master grants)
    (did-answers granted master (to_answer (durable_replayed master) master.ownership))))))))

none-did : (rule : Option (Master × List Message)) → did rule ≡ false → rule ≡ None
none-did None e = refl
none-did (Some done) e = true_false e

quiet-with : (master : Master) (grants : List GrantedRange) → IsQuiet master →
    IsQuiet (with_own master (record master.ownership { grants = grants }))
quiet-with master grants quiet up =
    let both = quiet up in (
      ap (λ (m : Master). with_own m (record m.ownership { grants = grants })) both.0,
      none-did (follow_up (with_own master (record master.ownership { grants = grants }))) (granted-did master grants ∙ ap did both.1),
    )

-- who is granted a range stays quiet
pub quiet-granted : (master : Master) (granted : GrantedRange) → IsQuiet master →
    IsQuiet (record master { ownership = grant granted master.ownership })
quiet-granted master granted quiet =
    either (λ (own : Ownership). IsQuiet (record master { ownership = own })) (owns_term master.ownership granted.term)
    master.ownership (record master.ownership { grants = master.ownership.grants ++ granted ∷ [] })
    (λ _. quiet) (λ _. quiet-with master (master.ownership.grants ++ granted ∷ []) quiet)

-- on success
pub on_ok-then : {T E P Q : Type 0} (r : Result T E) → (P → Q) → OnOk r P → OnOk r Q
on_ok-then (Ok x) f p = f p
on_ok-then (Err e) f p = p

-- what holds of the new value on success, and of the old one after a refusal, holds of it
pub on_either : {T E V : Type 0} (P : V → Type 0) (r : Result T E) (old new after : V) → OnOk r (new ≡ after) →
    OnErr r (new ≡ old) → P old → P after → P new
on_either P (Ok x) old new after ok err p q = subst P (sym ok) q
on_either P (Err e) old new after ok err p q = subst P (sym err) p

-- a message that leaves a quiet master quiet has no rule follow it
pub takes-quiet : (master : Master) (from : Addr) (body : Body) → master.deposed ≡ false → IsQuiet (master_takes_first master from body).0 →
    (master_takes_first master from body).1 ≡ [] → master_takes master from body ≡ ((master_takes_first master from body).0, [])
takes-quiet master from body up quiet silent =
    let first : Master × List Message = master_takes_first master from body in
    ap (λ b. cond b (deposed_takes master body) (then_does first goes_on)) up
    ∙ (ap (λ (after : Master × List Message). (after.0, first.1 ++ after.1)) (quiet-stays first.0 quiet)
    ∙ ap (λ (messages : List Message). (first.0, messages ++ [])) silent)

-- a new master waits for its first message
pub new-quiet : (own : ServerId) (setup : MasterSetup) → IsQuiet (new_master own setup)
new-quiet own setup up = (refl, refl)
