-- Why a seat can't go on.
use Rattle.std.proofs.Common.{◌≡◌, ◌⊎◌, inl, inr, ℕ, Bool, true, false, ◌&&◌, take, length, List, [], ◌∷◌, ◌++◌, Option, Some}
use Rattle.std.proofs.Common.{slice_get, refl, sym, ap, ◌∙◌, subst, arith}
use Rattle.std.specs.Prelude.{Result, Ok, Err, IfErr, option_to_list, if◌then◌else◌}
use Rattle.rc_types.specs.declared.limits.TheConstants.{MAX_EVENTS}
use Rattle.rc_types.specs.declared.faults.Fault.TheVariants.{OutOfMemory, BadEvent}
use Rattle.rc_model.specs.Model.{Setup, Message, Fault, World, Deliver, NodeName, TheOutside, TheCoordinator, TheHost, node_of, same_node}
use Rattle.rc_model.specs.World.{node_can, is_possible_job, delivery}
use Rattle.rc_history.specs.Events.{is_for}
use Rattle.rc_history.proofs.Longer.{longer-sent}
use Rattle.rc_wire.specs.Numbers.{least_to}
use Rattle.rc_wire.specs.declared.work.Work.{Work}
use Rattle.rc_wire.specs.declared.work.Work.TheVariants as work
use Rattle.rc_wire.specs.SeatView.{SeatData, world_at, node_at}
use Rattle.rc_wire.specs.SeatCalls.{Finds}
use Rattle.rc_wire.specs.Works.{event_for, takes_if, can_do}
use Rattle.rc_wire.specs.declared.steps.Step.{Step}
use Rattle.rc_wire.specs.Runs.{Does, Progress, own_work, works_for}
use Rattle.rc_wire.specs.Ends.{GrowAll, CannotGoOn, SomeCannotGoOn, Ends, is_bad_event, joined, all_seated}
use Rattle.rc_wire.proofs.Found.{within-found, found-own}
use Rattle.rc_wire.proofs.Turning.{starts-back}

-- A message that is held can be taken

takes-can : (world : World) (name : NodeName) (message : Message) → node_can world name (Deliver message) ≡ true
takes-can world TheOutside message = refl
takes-can world TheCoordinator message = refl
takes-can world (TheHost index) message = refl

both-true : (a b : Bool) → a ≡ true → b ≡ true → (a && b) ≡ true
both-true a b x y = ap (λ c. c && b) x ∙ y

-- the message of the number that was found is to the seat's node, so the seat can deliver it
pub can-deliver : (setup : Setup) (old found : SeatData) (from number : ℕ) →
    least_to old.name from (world_at setup old).sent ≡ Some number → Finds setup old number found →
    can_do setup found work.Fetched ≡ true
can-deliver setup old found from number least f =
    let sent = (world_at setup old).sent in
    let within = within-found from 0 number old.name sent least in
    let before = starts-back (world_at setup found).sent sent number f.message (longer-sent setup found.seen old.seen f.seen)
    (omega (arith, within.1)) f.found in
    let named : found.name ≡ old.name = ap (λ (s : SeatData). s.name) f.after in
    let own : same_node (node_of f.message.to) old.name ≡ true =
    found-own from 0 number old.name sent number f.message least before (omega arith) in
    let mine : same_node (node_of f.message.to) found.name ≡ true =
    ap (λ (n : NodeName). same_node (node_of f.message.to) n) named ∙ own in
    let world = world_at setup found in
    let name = found.name in
    ap (λ (h : Option (ℕ × Message)). takes_if name world (event_for (node_at setup found) h work.Fetched))
    (ap (λ (s : SeatData). s.held) f.after)
    ∙ (ap (λ (o : Option Message). is_possible_job world (delivery o) && is_for name (delivery o)) f.found
    ∙ both-true (node_can world (node_of f.message.to) (Deliver f.message)) (same_node (node_of f.message.to) name)
    (takes-can world (node_of f.message.to) f.message) mine)

-- What is said of F18

-- it is passed on
pub bad-at : {B : Type 0} (P : Type 0) (r : Result B Fault) (fault : Fault) → r ≡ Err fault → (fault ≡ BadEvent → P) →
    IfErr r (λ f. f ≡ BadEvent → P)
bad-at P r fault is says = subst (λ x. IfErr x (λ f. f ≡ BadEvent → P)) (sym is) says

-- more is said of it
pub bad-then : {B : Type 0} (P Q : Type 0) (r : Result B Fault) → (P → Q) → IfErr r (λ f. f ≡ BadEvent → P) →
    IfErr r (λ f. f ≡ BadEvent → Q)
bad-then P Q (Ok x) more says = tt
bad-then P Q (Err f) more says = λ bad. more (says bad)

-- want of memory is another fault
pub memory-not-bad : (P : Type 0) (fault : Fault) → fault ≡ OutOfMemory → fault ≡ BadEvent → P
memory-not-bad P fault memory bad = absurd (other (sym memory ∙ bad))
  where
    other : OutOfMemory ≡ BadEvent → ⊥
    other e = cc

-- A work that the node can't do

-- what is said of a step that was refused
abbrev pub IsRefused : Setup → SeatData → Work → SeatData → Type 0
IsRefused setup old given new = ((can_do setup old given ≡ false) × (new ≡ old)) ⊎ (length new.seen ≡ MAX_EVENTS)

pub refused-is-stuck : (setup : Setup) (start : SeatData) (steps : List Step) (at from : ℕ) (old new : SeatData) (step : Step)
    (given : Work) → Progress setup start steps at from old → slice_get steps at ≡ Some step →
    own_work old.name step ≡ Some given → IsRefused setup old given new → CannotGoOn setup start steps new
refused-is-stuck setup start steps at from old new step given p found own (inl refused) = inl (record {
  at = at;
  step = step;
  given = given;
  found = found;
  own = ap (λ (n : NodeName). own_work n step) (sym p.does.name) ∙ own;
  done = subst (λ (s : SeatData). Does start (works_for start.name (take at steps)) s) (sym refused.1) p.does;
  cannot = ap (λ (s : SeatData). can_do setup s given) refused.1 ∙ refused.0;
})
refused-is-stuck setup start steps at from old new step given p found own (inr full) = inr full

-- a message that can be taken is refused only where there is no room
pub refused-is-full : (setup : Setup) (old new : SeatData) (given : Work) → can_do setup old given ≡ true →
    IsRefused setup old given new → length new.seen ≡ MAX_EVENTS
refused-is-full setup old new given can (inl refused) =
    let no : true ≡ false = sym can ∙ refused.0 in absurd (yes-no no)
  where
    yes-no : true ≡ false → ⊥
    yes-no e = cc
refused-is-full setup old new given can (inr full) = full

-- Several seats

-- one of the others can't go on, or the last one
stuck-others : (setup : Setup) (steps : List Step) (olds news : List SeatData) (old new : SeatData) →
    SomeCannotGoOn setup olds steps news → SomeCannotGoOn setup (olds ++ old ∷ []) steps (news ++ new ∷ [])
stuck-others setup steps (o ∷ olds) (n ∷ news) old new (inl one) = inl one
stuck-others setup steps (o ∷ olds) (n ∷ news) old new (inr more) = inr (stuck-others setup steps olds news old new more)
stuck-others setup steps [] news old new some = absurd some
stuck-others setup steps (o ∷ olds) [] old new some = absurd some

stuck-last : (setup : Setup) (steps : List Step) (olds news : List SeatData) (old new : SeatData) → GrowAll olds news →
    CannotGoOn setup old steps new → SomeCannotGoOn setup (olds ++ old ∷ []) steps (news ++ new ∷ [])
stuck-last setup steps [] [] old new all last = inl last
stuck-last setup steps (o ∷ olds) (n ∷ news) old new all last = inr (stuck-last setup steps olds news old new all.1 last)
stuck-last setup steps [] (n ∷ news) old new all last = absurd all
stuck-last setup steps (o ∷ olds) [] old new all last = absurd all

-- what threads have come to is F18 only where one of their seats can't go on; and so it is with one more
stuck-joined : (setup : Setup) (steps : List Step) (olds news : List SeatData) (old new : SeatData)
    (others outcome : Result (Unit {0}) Fault) → GrowAll olds news →
    IfErr others (λ f. f ≡ BadEvent → SomeCannotGoOn setup olds steps news) → Ends setup old steps outcome new →
    IfErr (joined others outcome) (λ f. f ≡ BadEvent → SomeCannotGoOn setup (olds ++ old ∷ []) steps (news ++ new ∷ []))
stuck-joined setup steps olds news old new (Ok a) (Ok b) all some ends = tt
stuck-joined setup steps olds news old new (Ok a) (Err f) all some ends =
    λ bad. stuck-last setup steps olds news old new all (ends.bad bad)
stuck-joined setup steps olds news old new (Err e) (Ok b) all some ends =
    λ bad. stuck-others setup steps olds news old new (some bad)
stuck-joined setup steps olds news old new (Err e) (Err f) all some ends = by (is_bad_event (Err f))
  where
    by : (b : Bool) → IfErr (let r : Result (Unit {0}) Fault = if b then Err f else Err e in r)
        (λ g. g ≡ BadEvent → SomeCannotGoOn setup (olds ++ old ∷ []) steps (news ++ new ∷ []))
    by true = λ bad. stuck-last setup steps olds news old new all (ends.bad bad)
    by false = λ bad. stuck-others setup steps olds news old new (some bad)

-- the last seat, popped, run and put back
pub stuck-back : (setup : Setup) (steps : List Step) (olds rest news after : List SeatData) (popped : Option SeatData)
    (old new : SeatData) (others outcome both : Result (Unit {0}) Fault) → olds ≡ rest ++ option_to_list popped →
    popped ≡ Some old → GrowAll rest news → IfErr others (λ f. f ≡ BadEvent → SomeCannotGoOn setup rest steps news) →
    Ends setup old steps outcome new → after ≡ news ++ new ∷ [] → both ≡ joined others outcome →
    IfErr both (λ f. f ≡ BadEvent → SomeCannotGoOn setup olds steps after)
stuck-back setup steps olds rest news after popped old new others outcome both split some all stuck ends put is =
    let was : olds ≡ rest ++ old ∷ [] = split ∙ ap (λ o. rest ++ option_to_list o) some in
    subst (λ l. IfErr both (λ f. f ≡ BadEvent → SomeCannotGoOn setup l steps after)) (sym was)
    (subst (λ l. IfErr both (λ f. f ≡ BadEvent → SomeCannotGoOn setup (rest ++ old ∷ []) steps l)) (sym put)
    (subst (λ r. IfErr r (λ f. f ≡ BadEvent → SomeCannotGoOn setup (rest ++ old ∷ []) steps (news ++ new ∷ []))) (sym is)
    (stuck-joined setup steps rest news old new others outcome all stuck ends)))

-- and the fault is one of the two
told-joined : (others outcome : Result (Unit {0}) Fault) → IfErr others (λ f. (f ≡ OutOfMemory) ⊎ (f ≡ BadEvent)) →
    IfErr outcome (λ f. (f ≡ OutOfMemory) ⊎ (f ≡ BadEvent)) →
    IfErr (joined others outcome) (λ f. (f ≡ OutOfMemory) ⊎ (f ≡ BadEvent))
told-joined (Ok a) outcome one other = other
told-joined (Err e) (Ok b) one other = one
told-joined (Err e) (Err f) one other = by (is_bad_event (Err f))
  where
    by : (b : Bool) → IfErr (let r : Result (Unit {0}) Fault = if b then Err f else Err e in r)
        (λ g. (g ≡ OutOfMemory) ⊎ (g ≡ BadEvent))
    by true = other
    by false = one

ends-told : (setup : Setup) (old : SeatData) (steps : List Step) (outcome : Result (Unit {0}) Fault) (new : SeatData) →
    Ends setup old steps outcome new → IfErr outcome (λ f. (f ≡ OutOfMemory) ⊎ (f ≡ BadEvent))
ends-told setup old steps (Ok done) new ends = tt
ends-told setup old steps (Err fault) new ends = ends.fault_is

pub told-back : (setup : Setup) (old : SeatData) (steps : List Step) (new : SeatData) (others outcome both : Result (Unit {0}) Fault) →
    IfErr others (λ f. (f ≡ OutOfMemory) ⊎ (f ≡ BadEvent)) → Ends setup old steps outcome new → both ≡ joined others outcome →
    IfErr both (λ f. (f ≡ OutOfMemory) ⊎ (f ≡ BadEvent))
told-back setup old steps new others outcome both told ends is =
    subst (λ r. IfErr r (λ f. (f ≡ OutOfMemory) ⊎ (f ≡ BadEvent))) (sym is)
    (told-joined others outcome told (ends-told setup old steps outcome new ends))

-- Whether all works are those of seats that are there

pub unseated-not : (seats shown : List SeatData) (steps : List Step) (answer : Bool) → shown ≡ seats →
    answer ≡ all_seated shown steps → answer ≡ false → all_seated seats steps ≡ false
unseated-not seats shown steps answer same is test = ap (λ l. all_seated l steps) (sym same) ∙ (sym is ∙ test)

pub seated-not : (seats shown : List SeatData) (steps : List Step) (answer : Bool) → shown ≡ seats →
    answer ≡ all_seated shown steps → answer ≡ true → all_seated seats steps ≡ false → ⊥
seated-not seats shown steps answer same is test unseated =
    other (sym test ∙ (is ∙ (ap (λ l. all_seated l steps) same ∙ unseated)))
  where
    other : true ≡ false → ⊥
    other e = cc
