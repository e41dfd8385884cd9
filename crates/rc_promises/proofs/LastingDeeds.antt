-- What of that which is done lasts until the end: the steps that no later end of a process makes forgotten.
use Rattle.std.proofs.Common.{◌≡◌, ◌≤◌, ◌<◌, ◌+◌, ℕ, zero, suc, Bool, true, false, cond, ◌&&◌, ◌⊎◌, inl, inr, List, [], ◌∷◌, ◌++◌}
use Rattle.std.proofs.Common.{length, filter, take, drop, Some, slice_get, nat_le, refl, sym, ap, ◌∙◌, subst, arith, append_assoc}
use Rattle.std.proofs.lemmas.List.{append-nil, length-append}
use Rattle.std.proofs.lemmas.Grind.{flat_map-append}
use Rattle.std.proofs.lemmas.List.Elements.{filter-append}
use Rattle.std.proofs.lemmas.Bool.{le-leb, leb-true, and_parts}
use Rattle.rc_types.specs.declared.events.Setup.{Setup}
use Rattle.rc_types.specs.declared.messages.Message.{Message}
use Rattle.rc_model.specs.Headline.{In}
use Rattle.rc_model.specs.Model.{NodeWork}
use Rattle.rc_model.specs.World.{NodeName, same_node}
use Rattle.rc_model.specs.Nodes.{Stop, runs}
use Rattle.rc_model.proofs.Ids.{same_node-true, same_node-refl}
use Rattle.rc_model.proofs.Members.{In-left, In-right, In-append, filter-In}
use Rattle.rc_model.proofs.Tests.{true_false}
use Rattle.rc_step_laws.proofs.Lists.{get-append}
use Rattle.rc_history.specs.Nodes.{Node}
use Rattle.rc_history.specs.Nodes as node
use Rattle.rc_history.specs.Lives.{stops, replayed, remade, life_next}
use Rattle.rc_history.specs.Processes.{Deed, Process, Processes, new_processes, Happening, Takes, Syncs, Leaves, Falls, deed_of, is_left}
use Rattle.rc_history.specs.Processes.{stop_deeds, after, MayLeave, safe_at, MayAll, after_all}
use Rattle.rc_history.proofs.Global.{Goes, goes-after, goes-new, left-passes, put-safe}
use Rattle.rc_history.proofs.Telling.{in-said}
use Rattle.rc_promises.specs.LinearProcesses.{sent_by_deeds, at_moment, IsDone}
use Rattle.rc_promises.proofs.StandingReads.{take-get}

-- no end of a process among these happenings makes it forgotten
abbrev pub outlives : List Happening → Deed → Bool
outlives [] deed = true
outlives (Takes name work ∷ more) deed = outlives more deed
outlives (Syncs name count ∷ more) deed = outlives more deed
outlives (Leaves message ∷ more) deed = outlives more deed
outlives (Falls name count ∷ more) deed = is_left name count deed && outlives more deed

-- what a process does that ends
abbrev pub stopping : Setup → Processes → NodeName → ℕ → List Deed
stopping setup all name count = stop_deeds name (replayed setup name (take count (all.at name).life.journal))
    (stops (replayed setup name (take count (all.at name).life.journal)).node)

-- the deeds that a happening adds
abbrev pub adds : Setup → Processes → Happening → List Deed
adds setup all (Takes name work) = deed_of name (all.at name).life work ∷ []
adds setup all (Syncs name count) = []
adds setup all (Leaves message) = []
adds setup all (Falls name count) = stopping setup all name count

-- what lasts of that which the first of these happenings add
abbrev pub before : Setup → Processes → List Happening → ℕ → List Deed
before setup all happenings zero = []
before setup all [] (suc k) = []
before setup all (one ∷ more) (suc k) = filter (outlives more) (adds setup all one) ++ before setup (after setup all one) more k

-- Numbers

at-most : {a b c : ℕ} → a ≤ b → b ≤ c → a ≤ c
at-most p q = omega (arith, p, q)

sums : {i : ℕ} (f : ℕ) {j : ℕ} (b n : ℕ) {t : ℕ} → i ≡ f + j → j ≡ b + n → t ≡ f + b → i ≡ t + n
sums f b n p q r = omega (arith, p, q, r)

-- Lists

filter-none : {X : Type 0} (xs : List X) → filter (λ (x : X). true) xs ≡ xs
filter-none [] = refl
filter-none (x ∷ xs) = ap (λ l. x ∷ l) (filter-none xs)

filter-both : {X : Type 0} (p q : X → Bool) (xs : List X) → filter q (filter p xs) ≡ filter (λ x. p x && q x) xs
filter-both p q [] = refl
filter-both {X} p q (x ∷ xs) = by (p x) (filter-both p q xs)
  where
    by : (b : Bool) → filter q (filter p xs) ≡ filter (λ x. p x && q x) xs → filter q (cond b (x ∷ filter p xs) (filter p xs))
        ≡ cond (b && q x) (x ∷ filter (λ x. p x && q x) xs) (filter (λ x. p x && q x) xs)
    by true rest = ap (λ l. cond (q x) (x ∷ l) l) rest
    by false rest = rest

-- What is done is what lasts

step-lasts : (setup : Setup) (all : Processes) (one : Happening) (more : List Happening) →
    filter (outlives more) (after setup all one).done
    ≡ filter (outlives (one ∷ more)) all.done ++ filter (outlives more) (adds setup all one)
step-lasts setup all (Takes name work) more = filter-append (outlives more) all.done (deed_of name (all.at name).life work ∷ [])
step-lasts setup all (Syncs name count) more = sym (append-nil (filter (outlives more) all.done))
step-lasts setup all (Leaves message) more = sym (append-nil (filter (outlives more) all.done))
step-lasts setup all (Falls name count) more =
    filter-append (outlives more) (filter (is_left name count) all.done) (stopping setup all name count)
    ∙ ap (λ l. l ++ filter (outlives more) (stopping setup all name count))
    (filter-both (is_left name count) (outlives more) all.done)

pub done-lasts : (setup : Setup) (all : Processes) (happenings : List Happening) →
    filter (outlives happenings) all.done ++ before setup all happenings (length happenings) ≡ (after_all setup all happenings).done
done-lasts setup all [] = append-nil (filter (outlives []) all.done) ∙ filter-none all.done
done-lasts setup all (one ∷ more) =
    sym (append_assoc (filter (outlives (one ∷ more)) all.done) (filter (outlives more) (adds setup all one))
    (before setup (after setup all one) more (length more)))
    ∙ (ap (λ l. l ++ before setup (after setup all one) more (length more)) (sym (step-lasts setup all one more))
    ∙ done-lasts setup (after setup all one) more)

kept-lasts : (setup : Setup) (all : Processes) (happenings : List Happening) (k : ℕ) →
    filter (outlives happenings) all.done ++ before setup all happenings k
    ≡ filter (outlives (drop k happenings)) (after_all setup all (take k happenings)).done
kept-lasts setup all happenings zero = append-nil (filter (outlives happenings) all.done)
kept-lasts setup all [] (suc k) = append-nil (filter (outlives []) all.done)
kept-lasts setup all (one ∷ more) (suc k) =
    sym (append_assoc (filter (outlives (one ∷ more)) all.done) (filter (outlives more) (adds setup all one))
    (before setup (after setup all one) more k))
    ∙ (ap (λ l. l ++ before setup (after setup all one) more k) (sym (step-lasts setup all one more))
    ∙ kept-lasts setup (after setup all one) more k)

-- the first of it is a beginning
pub before-rest : (setup : Setup) (all : Processes) (happenings : List Happening) (k : ℕ) →
    (rest : List Deed) × (before setup all happenings (length happenings) ≡ before setup all happenings k ++ rest)
before-rest setup all happenings zero = (before setup all happenings (length happenings), refl)
before-rest setup all [] (suc k) = ([], refl)
before-rest setup all (one ∷ more) (suc k) =
    let later = before-rest setup (after setup all one) more k in (
      later.0,
      ap (λ l. filter (outlives more) (adds setup all one) ++ l) later.1
          ∙ sym (append_assoc (filter (outlives more) (adds setup all one)) (before setup (after setup all one) more k) later.0),
    )

-- Steps that are not forgotten

pub record DoneFrom (setup : Setup) (all : Processes) (happenings : List Happening) (number : ℕ) (deed : Deed) : Type 0 where
  pub takes : slice_get happenings number ≡ Some (Takes deed.node deed.work)
  pub does : deed ≡ deed_of deed.node ((after_all setup all (take number happenings)).at deed.node).life deed.work
  pub stays : (count : ℕ) → In (Falls deed.node count) (drop (suc number) happenings) → deed.rests ≤ count

next : {k : ℕ} → k + 1 ≡ suc k
next = omega arith

pub is-done : {setup : Setup} {happenings : List Happening} {k : ℕ} {deed : Deed} →
    DoneFrom setup (new_processes setup) happenings k deed → IsDone setup happenings k deed
is-done {happenings} {deed} done = record {
  takes = done.takes;
  does = done.does;
  stays = λ count at. done.stays count (subst (λ n. In (Falls deed.node count) (drop n happenings)) next at);
}

pub done-from : {setup : Setup} {happenings : List Happening} {k : ℕ} {deed : Deed} → IsDone setup happenings k deed →
    DoneFrom setup (new_processes setup) happenings k deed
done-from {happenings} {deed} done = record {
  takes = done.takes;
  does = done.does;
  stays = λ count at. done.stays count (subst (λ n. In (Falls deed.node count) (drop n happenings)) (sym next) at);
}

pub outlasts : (more : List Happening) (deed : Deed) → ((count : ℕ) → In (Falls deed.node count) more → deed.rests ≤ count) →
    outlives more deed ≡ true
outlasts [] deed stays = refl
outlasts (Takes name work ∷ more) deed stays = outlasts more deed (λ count at. stays count (inr at))
outlasts (Syncs name count ∷ more) deed stays = outlasts more deed (λ count at. stays count (inr at))
outlasts (Leaves message ∷ more) deed stays = outlasts more deed (λ count at. stays count (inr at))
outlasts (Falls name count ∷ more) deed stays =
    ap (λ b. b && outlives more deed) (by (same_node deed.node name) refl) ∙ outlasts more deed (λ count at. stays count (inr at))
  where
    by : (b : Bool) → same_node deed.node name ≡ b → cond b (nat_le deed.rests count) true ≡ true
    by true e = le-leb deed.rests count (stays count (inl (ap (λ (n : NodeName). Falls n count) (same_node-true deed.node name e))))
    by false e = refl

pub lasts : (more : List Happening) (deed : Deed) → outlives more deed ≡ true → (count : ℕ) → In (Falls deed.node count) more →
    deed.rests ≤ count
lasts [] deed e count at = absurd at
lasts (Takes name work ∷ more) deed e count (inl same) = cc
lasts (Takes name work ∷ more) deed e count (inr at) = lasts more deed e count at
lasts (Syncs name all ∷ more) deed e count (inl same) = cc
lasts (Syncs name all ∷ more) deed e count (inr at) = lasts more deed e count at
lasts (Leaves message ∷ more) deed e count (inl same) = cc
lasts (Leaves message ∷ more) deed e count (inr at) = lasts more deed e count at
lasts (Falls name left ∷ more) deed e count (inr at) =
    lasts more deed (and_parts (is_left name left deed) (outlives more deed) e).1 count at
lasts (Falls name left ∷ more) deed e count (inl same) =
    leb-true deed.rests count (by count its (and_parts (is_left name left deed) (outlives more deed) e).0)
  where
    its : (name ≡ deed.node) × (left ≡ count)
    its = (cc, cc)

    by : (c : ℕ) → (name ≡ deed.node) × (left ≡ c) → cond (same_node deed.node name) (nat_le deed.rests left) true ≡ true →
        nat_le deed.rests c ≡ true
    by c (named, lefts) passes = subst (λ k. nat_le deed.rests k ≡ true) lefts
        (ap (λ b. cond b (nat_le deed.rests left) true)
        (sym (ap (λ (n : NodeName). same_node deed.node n) named ∙ same_node-refl deed.node)) ∙ passes)

-- such a step stands in what lasts, behind what was done before it
pub deed-stands : (setup : Setup) (all : Processes) (happenings : List Happening) (k n : ℕ) (deed : Deed) → k < n →
    DoneFrom setup all happenings k deed →
    (rest : List Deed) × (before setup all happenings n ≡ before setup all happenings k ++ deed ∷ rest)
deed-stands setup all [] k n deed less done = (let never : slice_get [] k ≡ Some (Takes deed.node deed.work) = done.takes in cc)
deed-stands setup all (one ∷ more) zero zero deed less done = absurd (omega (arith, less))
deed-stands setup all (one ∷ more) (suc k) zero deed less done = absurd (omega (arith, less))
deed-stands setup all (one ∷ more) (suc k) (suc n) deed less done =
    let later = deed-stands setup (after setup all one) more k n deed (omega (arith, less))
    (record { takes = done.takes; does = done.does; stays = done.stays }) in (
      later.0,
      ap (λ l. filter (outlives more) (adds setup all one) ++ l) later.1
          ∙ sym (append_assoc (filter (outlives more) (adds setup all one)) (before setup (after setup all one) more k) (deed ∷ later.0)),
    )
deed-stands setup all (one ∷ more) zero (suc n) deed less done =
    (before setup (after setup all one) more n, ap (λ l. l ++ before setup (after setup all one) more n) (alone one is))
  where
    is : one ≡ Takes deed.node deed.work
    is = (let e : slice_get (one ∷ more) zero ≡ Some (Takes deed.node deed.work) = done.takes in cc)

    alone : (h : Happening) → h ≡ Takes deed.node deed.work → filter (outlives more) (adds setup all h) ≡ deed ∷ []
    alone h e = ap (λ (h : Happening). filter (outlives more) (adds setup all h)) e
        ∙ (ap (λ (d : Deed). filter (outlives more) (d ∷ [])) (sym done.does)
        ∙ ap (λ b. cond b (deed ∷ []) []) (outlasts more deed done.stays))

-- A message among these is one of such a step

stop-sends : (test : Deed → Bool) (name : NodeName) (n : Node) (journal : List NodeWork) →
    sent_by_deeds (filter test (stop_deeds name (record { node = n; journal = journal; started = 0 }) (stops n))) ≡ []
stop-sends test name node.TheOutside journal = refl
stop-sends test name (node.TheCoordinator c) journal = refl
stop-sends test name (node.TheHost host) journal = by (runs host)
  where
    by : (b : Bool) → sent_by_deeds (filter test (stop_deeds name (record { node = node.TheHost host; journal = journal; started = 0 })
        (cond b (Stop ∷ []) []))) ≡ []
    by false = refl
    by true = one (test (deed_of name (record { node = node.TheHost host; journal = journal; started = 0 }) Stop))
      where
        one : (b : Bool) →
            sent_by_deeds (cond b (deed_of name (record { node = node.TheHost host; journal = journal; started = 0 }) Stop ∷ []) []) ≡ []
        one true = refl
        one false = refl

pub record Found (setup : Setup) (all : Processes) (happenings : List Happening) (n i : ℕ) (message : Message) : Type 0 where
  pub moment : ℕ
  pub deed : Deed
  pub number : ℕ
  pub below : moment < n
  pub done : DoneFrom setup all happenings moment deed
  pub at : slice_get deed.sent number ≡ Some message
  pub place : i ≡ length (sent_by_deeds (before setup all happenings moment)) + number

-- what a happening adds and lasts
abbrev added : Setup → Processes → Happening → List Happening → List Deed
added setup all one more = filter (outlives more) (adds setup all one)

found-first : {setup : Setup} {all : Processes} (one : Happening) {more : List Happening} {n i : ℕ} {message : Message} →
    slice_get (sent_by_deeds (filter (outlives more) (adds setup all one))) i ≡ Some message →
    Found setup all (one ∷ more) (suc n) i message
found-first (Syncs name count) {i} {message} e = (let never : slice_get [] i ≡ Some message = e in cc)
found-first (Leaves one) {i} {message} e = (let never : slice_get [] i ≡ Some message = e in cc)
found-first {setup} {all} (Falls name count) {more} {i} {message} e =
    (let none : slice_get [] i ≡ Some message = ap (λ l. slice_get l i) (sym (stop-sends (outlives more) name
    (replayed setup name (take count (all.at name).life.journal)).node (take count (all.at name).life.journal))) ∙ e in cc)
found-first {setup} {all} (Takes name work) {more} {n} {i} {message} e =
    by (outlives more (deed_of name (all.at name).life work)) refl e
  where
    by : (b : Bool) → outlives more (deed_of name (all.at name).life work) ≡ b →
        slice_get (sent_by_deeds (cond b (deed_of name (all.at name).life work ∷ []) [])) i ≡ Some message →
        Found setup all (Takes name work ∷ more) (suc n) i message
    by false passes here = (let never : slice_get [] i ≡ Some message = here in cc)
    by true passes here = record {
      moment = 0;
      deed = deed_of name (all.at name).life work;
      number = i;
      below = omega arith;
      done = record { takes = refl; does = refl; stays = lasts more (deed_of name (all.at name).life work) passes };
      at = ap (λ l. slice_get l i) (sym (append-nil (deed_of name (all.at name).life work).sent)) ∙ here;
      place = (let none : i ≡ 0 + i = omega arith in none);
    }

pub find : {setup : Setup} {all : Processes} (happenings : List Happening) (n : ℕ) {i : ℕ} {message : Message} →
    slice_get (sent_by_deeds (before setup all happenings n)) i ≡ Some message → Found setup all happenings n i message
find happenings zero {i} {message} e = (let never : slice_get [] i ≡ Some message = e in cc)
find [] (suc n) {i} {message} e = (let never : slice_get [] i ≡ Some message = e in cc)
find {setup} {all} (one ∷ more) (suc n) {i} {message} e =
    by (λ j there. find {setup = setup} {all = (after setup all one)} more n {i = j} {message = message} there)
    (get-append (sent_by_deeds (added setup all one more)) (sent_by_deeds (before setup (after setup all one) more n)) i {x = message}
    (ap (λ l. slice_get l i) (sym (flat_map-append (λ (d : Deed). d.sent) (added setup all one more)
    (before setup (after setup all one) more n))) ∙ e))
  where
    by : ((j : ℕ) → slice_get (sent_by_deeds (before setup (after setup all one) more n)) j ≡ Some message →
        Found setup (after setup all one) more n j message) →
        (slice_get (sent_by_deeds (added setup all one more)) i ≡ Some message)
        ⊎ ((j : ℕ) × (i ≡ length (sent_by_deeds (added setup all one more)) + j)
        × (slice_get (sent_by_deeds (before setup (after setup all one) more n)) j ≡ Some message)) →
        Found setup all (one ∷ more) (suc n) i message
    by later (inl here) = found-first {setup = setup} {all = all} one {more = more} {n = n} {i = i} {message = message} here
    by later (inr (j, same, there)) =
        let found : Found setup (after setup all one) more n j message = later j there in
        let below = found.below in
        let long : length (sent_by_deeds (added setup all one more ++ before setup (after setup all one) more found.moment))
        ≡ length (sent_by_deeds (added setup all one more))
        + length (sent_by_deeds (before setup (after setup all one) more found.moment)) =
        ap length (flat_map-append (λ (d : Deed). d.sent) (added setup all one more)
        (before setup (after setup all one) more found.moment))
        ∙ length-append (sent_by_deeds (added setup all one more))
        (sent_by_deeds (before setup (after setup all one) more found.moment)) in
        record {
          moment = suc found.moment;
          deed = found.deed;
          number = found.number;
          below = omega (arith, below);
          done = record { takes = found.done.takes; does = found.done.does; stays = found.done.stays };
          at = found.at;
          place = sums {i = i} (length (sent_by_deeds (added setup all one more))) {j = j}
              (length (sent_by_deeds (before setup (after setup all one) more found.moment))) found.number
              {t = (length (sent_by_deeds (added setup all one more ++ before setup (after setup all one) more found.moment)))}
              same found.place long;
        }

-- What has left

pub left-stays : (setup : Setup) (all : Processes) (happenings : List Happening) (message : Message) → In message all.left →
    In message (after_all setup all happenings).left
left-stays setup all [] message at = at
left-stays setup all (Takes name work ∷ more) message at = left-stays setup (after setup all (Takes name work)) more message at
left-stays setup all (Syncs name count ∷ more) message at = left-stays setup (after setup all (Syncs name count)) more message at
left-stays setup all (Leaves one ∷ more) message at =
    left-stays setup (after setup all (Leaves one)) more message (In-left message all.left (one ∷ []) at)
left-stays setup all (Falls name count ∷ more) message at = left-stays setup (after setup all (Falls name count)) more message at

pub left-in : (setup : Setup) (all : Processes) (happenings : List Happening) (r : ℕ) {message : Message} →
    slice_get happenings r ≡ Some (Leaves message) → In message (after_all setup all happenings).left
left-in setup all [] r e = cc
left-in setup all (one ∷ more) (suc r) e = left-in setup (after setup all one) more r e
left-in setup all (one ∷ more) zero {message} e =
    left-stays setup (after setup all one) more message (subst (λ (h : Happening). In message (after setup all h).left) (sym is)
    (In-right message all.left (message ∷ []) (inl refl)))
  where
    is : one ≡ Leaves message
    is = cc

pub left-by : (setup : Setup) (all : Processes) (happenings : List Happening) {r n : ℕ} {message : Message} →
    slice_get happenings r ≡ Some (Leaves message) → r < n → In message (after_all setup all (take n happenings)).left
left-by setup all happenings {r} {n} e less = left-in setup all (take n happenings) r (take-get n r happenings less e)

-- what may leave is not forgotten later
safe-lasts : (setup : Setup) (all : Processes) (happenings : List Happening) (deed : Deed) → MayAll setup all happenings →
    deed.rests ≤ safe_at all deed.node → outlives happenings deed ≡ true
safe-lasts setup all [] deed may rests = refl
safe-lasts setup all (Takes name work ∷ more) deed may rests =
    let process : Process = record { life = life_next name (all.at name).life work; safe = (all.at name).safe } in
    safe-lasts setup (after setup all (Takes name work)) more deed may.1 (at-most rests
    (put-safe all.at name process (omega arith) deed.node))
safe-lasts setup all (Syncs name count ∷ more) deed may rests =
    let process : Process = record { life = (all.at name).life; safe = count } in
    safe-lasts setup (after setup all (Syncs name count)) more deed may.1 (at-most rests
    (put-safe all.at name process may.0.no_less deed.node))
safe-lasts setup all (Leaves message ∷ more) deed may rests = safe-lasts setup (after setup all (Leaves message)) more deed may.1 rests
safe-lasts setup all (Falls name count ∷ more) deed may rests =
    let kept = take count (all.at name).life.journal in
    let process : Process = record { life = remade setup name kept; safe = (all.at name).safe } in
    ap (λ b. b && outlives more deed) (left-passes (safe_at all) deed may.0.no_less rests)
    ∙ safe-lasts setup (after setup all (Falls name count)) more deed may.1 (at-most rests
    (put-safe all.at name process (omega arith) deed.node))

goes-at : {setup : Setup} {all : Processes} (happenings : List Happening) (n : ℕ) → Goes setup all → MayAll setup all happenings →
    Goes setup (after_all setup all (take n happenings)) × MayAll setup (after_all setup all (take n happenings)) (drop n happenings)
goes-at happenings zero goes may = (goes, may)
goes-at [] (suc n) goes may = (goes, may)
goes-at {setup} {all} (one ∷ more) (suc n) goes may = goes-at {setup = setup} {all = (after setup all one)} more n
    (goes-after {setup = setup} {all = all} one goes may.0) may.1

-- so what has left by a moment is among what was sent before it, and lasts
pub left-was-sent : (setup : Setup) (happenings : List Happening) (n : ℕ) (message : Message) →
    MayAll setup (new_processes setup) happenings → In message (at_moment setup happenings n).left →
    In message (sent_by_deeds (before setup (new_processes setup) happenings n))
left-was-sent setup happenings n message may at =
    in-said message leaves.deed (before setup (new_processes setup) happenings n)
    (subst (In leaves.deed) (sym (kept-lasts setup (new_processes setup) happenings n))
    (filter-In (outlives (drop n happenings)) leaves.deed (at_moment setup happenings n).done leaves.done_before
    (safe-lasts setup (at_moment setup happenings n) (drop n happenings) leaves.deed both.1 leaves.safe_by_now)))
    leaves.its
  where
    both : Goes setup (at_moment setup happenings n) × MayAll setup (at_moment setup happenings n) (drop n happenings)
    both = goes-at happenings n goes-new may

    leaves : MayLeave (safe_at (at_moment setup happenings n)) (at_moment setup happenings n).done message
    leaves = both.0.left message at

-- The first time that something of a kind leaves

pub record FirstLeft (setup : Setup) (all : Processes) (happenings : List Happening) (test : Message → Bool) : Type 0 where
  pub number : ℕ
  pub message : Message
  pub leaves : slice_get happenings number ≡ Some (Leaves message)
  pub passes : test message ≡ true
  pub none : (one : Message) → In one (after_all setup all (take number happenings)).left → test one ≡ true → ⊥

pub first-left : (setup : Setup) (all : Processes) (happenings : List Happening) (test : Message → Bool) (message : Message) →
    In message (after_all setup all happenings).left → test message ≡ true →
    ((one : Message) → In one all.left → test one ≡ true → ⊥) → FirstLeft setup all happenings test
first-left setup all [] test message at passes none = absurd (none message at passes)
first-left setup all (one ∷ more) test message at passes none =
    by (λ h at none. first-left setup (after setup all h) more test message at passes none) one at none
  where
    Later : Type 0
    Later = (h : Happening) → In message (after_all setup (after setup all h) more).left →
        ((one : Message) → In one (after setup all h).left → test one ≡ true → ⊥) → FirstLeft setup (after setup all h) more test

    further : (h : Happening) → FirstLeft setup (after setup all h) more test → FirstLeft setup all (h ∷ more) test
    further h first = record {
      number = suc first.number;
      message = first.message;
      leaves = first.leaves;
      passes = first.passes;
      none = first.none;
    }

    by : Later → (h : Happening) → In message (after_all setup (after setup all h) more).left →
        ((one : Message) → In one all.left → test one ≡ true → ⊥) → FirstLeft setup all (h ∷ more) test
    by later (Takes name work) at none = further (Takes name work) (later (Takes name work) at none)
    by later (Syncs name count) at none = further (Syncs name count) (later (Syncs name count) at none)
    by later (Falls name count) at none = further (Falls name count) (later (Falls name count) at none)
    by later (Leaves left) at none = which (test left) refl
      where
        which : (b : Bool) → test left ≡ b → FirstLeft setup all (Leaves left ∷ more) test
        which true e = record { number = 0; message = left; leaves = refl; passes = e; none = none }
        which false e = further (Leaves left) (later (Leaves left) at
            (λ one at too. new one (In-append one all.left (left ∷ []) at) too))
          where
            new : (one : Message) → In one all.left ⊎ In one (left ∷ []) → test one ≡ true → ⊥
            new one (inl old) too = none one old too
            new one (inr (inl same)) too = true_false (sym too ∙ (ap test same ∙ e))
            new one (inr (inr never)) too = absurd never
