-- Rules over a list, one more at its end.
use Rattle.std.proofs.Common.{◌≡◌, ◌⊎◌, ⊎_elim, inl, inr, Bool, true, false, ◌||◌, cond, Err, ℕ, ◌+◌, ◌<◌, ◌≤◌, zero, suc, List, [], ◌∷◌}
use Rattle.std.proofs.Common.{◌++◌, length, take, get_or, sym, ap, ◌∙◌, subst, append_assoc, arith}
use Rattle.std.proofs.lemmas.Bool.{cases_eq}
use Rattle.std.proofs.lemmas.List.{append-nil, take_more, get_or_default}
use Rattle.std.proofs.Math.Numerals.{add-one}
use Rattle.rc_model.specs.Model.{ServerId, Part, PlanRow, Message, Fault, loses, Log, numbers_to, Master, with_log, then_does}
use Rattle.rc_model.specs.Model.{places_segment, replaces_lost, replaces_lost_of, task_of, begins_task, takes_plan}
use Rattle.rc_types.specs.declared.faults.Fault.TheVariants.{OutOfMemory}
use Rattle.rc_headroll.specs.Watching.{Watched, is_awake, is_let_be}
use Rattle.rc_headroll.proofs.ListRuleLemmas.{replaces-let_be}

-- the last one after the others
pub lost-more : (segs : List ℕ) (seg : ℕ) (master : Master) →
    replaces_lost_of (segs ++ seg ∷ []) master ≡ then_does (replaces_lost_of segs master) (λ after. replaces_lost after seg)
lost-more [] seg master = ap (λ (more : List Message). ((replaces_lost master seg).0, more)) (append-nil (replaces_lost master seg).1)
lost-more (one ∷ segs) seg master =
    let first : Master × List Message = replaces_lost master one in
    ap (λ (r : Master × List Message). (r.0, first.1 ++ r.1)) (lost-more segs seg first.0)
    ∙ ap (λ (more : List Message). ((replaces_lost (replaces_lost_of segs first.0).0 seg).0, more))
    (sym (append_assoc first.1 (replaces_lost_of segs first.0).1 (replaces_lost (replaces_lost_of segs first.0).0 seg).1))

pub numbers-more : (n : ℕ) → numbers_to (n + 1) ≡ numbers_to n ++ (n + 1) ∷ []
numbers-more n = ap numbers_to (add-one n) ∙ ap (λ (k : ℕ). numbers_to n ++ k ∷ []) (sym (add-one n))

-- one more segment of the loop
pub lost-step : (start now next : Master) (n : ℕ) (before sent more : List Message) →
    now ≡ (replaces_lost_of (numbers_to n) start).0 → sent ≡ before ++ (replaces_lost_of (numbers_to n) start).1 →
    next ≡ (replaces_lost now (n + 1)).0 → more ≡ sent ++ (replaces_lost now (n + 1)).1 →
    (next ≡ (replaces_lost_of (numbers_to (n + 1)) start).0) × (more ≡ before ++ (replaces_lost_of (numbers_to (n + 1)) start).1)
lost-step start now next n before sent more state sends then_ says =
    let all : replaces_lost_of (numbers_to (n + 1)) start ≡ then_does (replaces_lost_of (numbers_to n) start)
    (λ after. replaces_lost after (n + 1)) =
    ap (λ segs. replaces_lost_of segs start) (numbers-more n) ∙ lost-more (numbers_to n) (n + 1) start in
    let here : replaces_lost now (n + 1) ≡ replaces_lost (replaces_lost_of (numbers_to n) start).0 (n + 1) =
    ap (λ m. replaces_lost m (n + 1)) state in (
      then_ ∙ (ap (λ (r : Master × List Message). r.0) here ∙ ap (λ (r : Master × List Message). r.0) (sym all)),
      says ∙ (ap (λ (r : Master × List Message). sent ++ r.1) here
          ∙ (ap (λ s. s ++ (replaces_lost (replaces_lost_of (numbers_to n) start).0 (n + 1)).1) sends
          ∙ (append_assoc before (replaces_lost_of (numbers_to n) start).1
          (replaces_lost (replaces_lost_of (numbers_to n) start).0 (n + 1)).1
          ∙ ap (λ (r : Master × List Message). before ++ r.1) (sym all)))),
    )

-- A segment that the timer passes over is let be

pub passed-over : (master : Master) (seg : ℕ) (watch : Watched) →
    (is_awake watch seg || is_let_be master.log.own master.known (master.log.segments seg)) ≡ true →
    is_awake watch seg ≡ false → replaces_lost master seg ≡ (master, [])
passed-over master seg watch roused asleep =
    replaces-let_be master seg
    (ap (λ (b : Bool). b || is_let_be master.log.own master.known (master.log.segments seg)) (sym asleep) ∙ roused)

-- so are several
pub lost-skips : (start now : Master) (done n : ℕ) (before sent : List Message) → done ≤ n →
    ((o : ℕ) → done < o → o ≤ n → replaces_lost now o ≡ (now, [])) →
    now ≡ (replaces_lost_of (numbers_to done) start).0 → sent ≡ before ++ (replaces_lost_of (numbers_to done) start).1 →
    (now ≡ (replaces_lost_of (numbers_to n) start).0) × (sent ≡ before ++ (replaces_lost_of (numbers_to n) start).1)
lost-skips start now done zero before sent below none state sends =
    let same : done ≡ 0 = omega arith in
    subst (λ (m : ℕ). (now ≡ (replaces_lost_of (numbers_to m) start).0) × (sent ≡ before ++ (replaces_lost_of (numbers_to m) start).1))
    same (state, sends)
lost-skips start now done (suc n) before sent below none state sends = ⊎_elim
    {C = (now ≡ (replaces_lost_of (numbers_to (suc n)) start).0) × (sent ≡ before ++ (replaces_lost_of (numbers_to (suc n)) start).1)}
    (λ (here : done ≡ suc n).
    subst (λ (m : ℕ). (now ≡ (replaces_lost_of (numbers_to m) start).0) × (sent ≡ before ++ (replaces_lost_of (numbers_to m) start).1))
    here (state, sends))
    (λ (apart : done ≡ suc n → ⊥).
    let within : done ≤ n = omega (arith, apart) in
    let next : n + 1 ≡ suc n = omega arith in
    let so_far = lost-skips start now done n before sent within (λ o above under. none o above (omega arith)) state sends in
    let nothing = none (n + 1) (omega arith) (omega arith) in
    subst (λ (m : ℕ). (now ≡ (replaces_lost_of (numbers_to m) start).0) × (sent ≡ before ++ (replaces_lost_of (numbers_to m) start).1))
    next
    (lost-step start now now n before sent sent so_far.0 so_far.1 (sym (ap (λ (r : Master × List Message). r.0) nothing))
    (sym (append-nil sent) ∙ ap (λ (r : Master × List Message). sent ++ r.1) (sym nothing))))
    (cases_eq done (suc n))

-- and then the next one
pub lost-step-to : (start now next : Master) (done seg : ℕ) (before sent more : List Message) → done < seg →
    ((o : ℕ) → done < o → o < seg → replaces_lost now o ≡ (now, [])) →
    now ≡ (replaces_lost_of (numbers_to done) start).0 → sent ≡ before ++ (replaces_lost_of (numbers_to done) start).1 →
    next ≡ (replaces_lost now seg).0 → more ≡ sent ++ (replaces_lost now seg).1 →
    (next ≡ (replaces_lost_of (numbers_to seg) start).0) × (more ≡ before ++ (replaces_lost_of (numbers_to seg) start).1)
lost-step-to start now next done zero before sent more above none state sends then_ says = absurd (omega arith)
lost-step-to start now next done (suc n) before sent more above none state sends then_ says =
    let one : n + 1 ≡ suc n = omega arith in
    let so_far = lost-skips start now done n before sent (omega arith) (λ o later under. none o later (omega arith)) state sends in
    let step : (m : ℕ) → m ≡ n + 1 → next ≡ (replaces_lost now m).0 → more ≡ sent ++ (replaces_lost now m).1 →
    (next ≡ (replaces_lost_of (numbers_to m) start).0) × (more ≡ before ++ (replaces_lost_of (numbers_to m) start).1) =
    λ m is state' says'.
    subst (λ (k : ℕ). (next ≡ (replaces_lost_of (numbers_to k) start).0) × (more ≡ before ++ (replaces_lost_of (numbers_to k) start).1))
    (sym is)
    (lost-step start now next n before sent more so_far.0 so_far.1
    (subst (λ (k : ℕ). next ≡ (replaces_lost now k).0) is state') (subst (λ (k : ℕ). more ≡ sent ++ (replaces_lost now k).1) is says')) in
    step (suc n) (sym one) then_ says

pub plan-more : (attempt : ℕ) (crashed : ServerId) (rows : List PlanRow) (parts : List Part) (part : Part) (master : Master) →
    takes_plan attempt crashed rows (parts ++ part ∷ []) master
    ≡ then_does (takes_plan attempt crashed rows parts master) (λ after. begins_task (task_of attempt crashed rows part) after)
plan-more attempt crashed rows [] part master =
    let first : Master × List Message = begins_task (task_of attempt crashed rows part) master in
    ap (λ (more : List Message). (first.0, more)) (append-nil first.1)
plan-more attempt crashed rows (one ∷ parts) part master =
    let first : Master × List Message = begins_task (task_of attempt crashed rows one) master in
    let middle : Master × List Message = takes_plan attempt crashed rows parts first.0 in
    let last : Master × List Message = begins_task (task_of attempt crashed rows part) middle.0 in
    ap (λ (r : Master × List Message). (r.0, first.1 ++ r.1)) (plan-more attempt crashed rows parts part first.0)
    ∙ ap (λ (more : List Message). (last.0, more)) (sym (append_assoc first.1 middle.1 last.1))

-- one more part of the loop
pub plan-step : (attempt : ℕ) (crashed : ServerId) (rows : List PlanRow) (parts : List Part) (i : ℕ) (part : Part)
    (start now next : Master) (before sent more : List Message) →
    i < length parts → part ≡ get_or parts i part →
    now ≡ (takes_plan attempt crashed rows (take i parts) start).0 →
    sent ≡ before ++ (takes_plan attempt crashed rows (take i parts) start).1 →
    next ≡ (begins_task (task_of attempt crashed rows part) now).0 →
    more ≡ sent ++ (begins_task (task_of attempt crashed rows part) now).1 →
    (next ≡ (takes_plan attempt crashed rows (take (i + 1) parts) start).0) ×
    (more ≡ before ++ (takes_plan attempt crashed rows (take (i + 1) parts) start).1)
plan-step attempt crashed rows parts i part start now next before sent more inside read state sends then_ says =
    let so_far : Master × List Message = takes_plan attempt crashed rows (take i parts) start in
    let rule : Master → Master × List Message = λ m. begins_task (task_of attempt crashed rows part) m in
    let longer : take (i + 1) parts ≡ take i parts ++ part ∷ [] =
    take_more parts i part inside ∙ ap (λ p. take i parts ++ p ∷ []) (sym read) in
    let all : takes_plan attempt crashed rows (take (i + 1) parts) start ≡ then_does so_far rule =
    ap (λ ps. takes_plan attempt crashed rows ps start) longer ∙ plan-more attempt crashed rows (take i parts) part start in
    let here : rule now ≡ rule so_far.0 = ap rule state in (
      then_ ∙ (ap (λ (r : Master × List Message). r.0) here ∙ ap (λ (r : Master × List Message). r.0) (sym all)),
      says ∙ (ap (λ (r : Master × List Message). sent ++ r.1) here
          ∙ (ap (λ s. s ++ (rule so_far.0).1) sends
          ∙ (append_assoc before so_far.1 (rule so_far.0).1
          ∙ ap (λ (r : Master × List Message). before ++ r.1) (sym all)))),
    )

-- what becomes of a segment whose lost members can't be replaced
pub lost-refused : (master : Master) (seg : ℕ) (new : Log) (fault : Fault) (same : Type 0) → (master.log.segments seg).freed ≡ false →
    ((fault ≡ OutOfMemory) × same) ⊎ (loses master.known seg master.log ≡ (new, Err fault)) → (fault ≡ OutOfMemory → ⊥) →
    replaces_lost master seg ≡ (with_log master new, [])
lost-refused master seg new fault same kept (inl memory) other = absurd (other memory.0)
lost-refused master seg new fault same kept (inr e) other =
    ap (λ b. cond b (master, []) (places_segment seg master (loses master.known seg master.log))) kept ∙ ap (places_segment seg master) e

pub lost-in : (master : Master) (seg : ℕ) (new : Log) (fault : Fault) (same : Type 0) →
    ((fault ≡ OutOfMemory) × same) ⊎ (loses master.known seg master.log ≡ (new, Err fault)) → (fault ≡ OutOfMemory → ⊥) →
    loses master.known seg master.log ≡ (new, Err fault)
lost-in master seg new fault same (inl memory) other = absurd (other memory.0)
lost-in master seg new fault same (inr e) other = e

pub plan-step-at : (attempt : ℕ) (crashed : ServerId) (rows : List PlanRow) (parts : List Part) (i : ℕ) (d : Part)
    (start now next : Master) (before sent more : List Message) →
    i < length parts →
    now ≡ (takes_plan attempt crashed rows (take i parts) start).0 →
    sent ≡ before ++ (takes_plan attempt crashed rows (take i parts) start).1 →
    next ≡ (begins_task (task_of attempt crashed rows (get_or parts i d)) now).0 →
    more ≡ sent ++ (begins_task (task_of attempt crashed rows (get_or parts i d)) now).1 →
    (next ≡ (takes_plan attempt crashed rows (take (i + 1) parts) start).0) ×
    (more ≡ before ++ (takes_plan attempt crashed rows (take (i + 1) parts) start).1)
plan-step-at attempt crashed rows parts i d start now next before sent more inside state sends then_ says =
    plan-step attempt crashed rows parts i (get_or parts i d) start now next before sent more inside
    (get_or_default parts i d (get_or parts i d) inside) state sends then_ says
