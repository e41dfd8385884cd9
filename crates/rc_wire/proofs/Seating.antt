-- Lists of seats, from the last on.
use Rattle.std.proofs.Common.{◌≡◌, ℕ, zero, suc, ◌<◌, List, [], ◌∷◌, ◌++◌, length, take, Option, Some, All}
use Rattle.std.proofs.Common.{refl, sym, ap, ◌∙◌, subst, arith}
use Rattle.std.specs.Prelude.{Bool, true, false, if◌then◌else◌, Result, Ok, Err, OnOk, option_to_list, slice_index_or}
use Rattle.rc_model.specs.Model.{Setup, Fault}
use Rattle.rc_wire.specs.declared.work.Work.{Work}
use Rattle.rc_wire.specs.SeatView.{SeatData}
use Rattle.rc_wire.specs.declared.steps.Step.{Step}
use Rattle.rc_wire.specs.Runs.{Runs, Grows, works_for}
use Rattle.rc_wire.proofs.Turning.{grows-does, grows-same}
use Rattle.rc_wire.specs.Ends.{IsIdle, RunAll, GrowAll, Ends, is_bad_event, joined}

pub take-all : {A : Type 0} (xs : List A) → take (length xs) xs ≡ xs
take-all [] = refl
take-all (x ∷ xs) = ap (λ l. x ∷ l) (take-all xs)

pub grows-runs : (setup : Setup) (old : SeatData) (works : List Work) (new : SeatData) → Runs setup old works new → Grows old new
grows-runs setup old works new r = grows-does old new works r.does

pub ends-grows : (setup : Setup) (old : SeatData) (steps : List Step) (outcome : Result (Unit {0}) Fault) (new : SeatData) →
    Ends setup old steps outcome new → Grows old new
ends-grows setup old steps (Ok done) new ends = grows-runs setup old (works_for old.name steps) new ends
ends-grows setup old steps (Err fault) new ends = ends.grows

pub grow-last : (olds news : List SeatData) (old new : SeatData) → GrowAll olds news → Grows old new →
    GrowAll (olds ++ old ∷ []) (news ++ new ∷ [])
grow-last [] [] old new all last = (last, tt)
grow-last (o ∷ olds) (n ∷ news) old new all last = (all.0, grow-last olds news old new all.1 last)
grow-last [] (n ∷ news) old new all last = absurd all
grow-last (o ∷ olds) [] old new all last = absurd all

pub run-last : (setup : Setup) (steps : List Step) (olds news : List SeatData) (old new : SeatData) → RunAll setup olds steps news →
    Runs setup old (works_for old.name steps) new → RunAll setup (olds ++ old ∷ []) steps (news ++ new ∷ [])
run-last setup steps [] [] old new all last = (last, tt)
run-last setup steps (o ∷ olds) (n ∷ news) old new all last = (all.0, run-last setup steps olds news old new all.1 last)
run-last setup steps [] (n ∷ news) old new all last = absurd all
run-last setup steps (o ∷ olds) [] old new all last = absurd all

pub grow-same : (seats : List SeatData) → GrowAll seats seats
grow-same [] = tt
grow-same (seat ∷ seats) = (grows-same seat, grow-same seats)

-- the last seat was run, beside the others
pub run-both : (setup : Setup) (steps : List Step) (olds news : List SeatData) (old new : SeatData)
    (others outcome : Result (Unit {0}) Fault) →
    OnOk others (RunAll setup olds steps news) → Ends setup old steps outcome new →
    OnOk (joined others outcome) (RunAll setup (olds ++ old ∷ []) steps (news ++ new ∷ []))
run-both setup steps olds news old new (Ok a) (Ok b) all ends = run-last setup steps olds news old new all ends
run-both setup steps olds news old new (Ok a) (Err f) all ends = tt
run-both setup steps olds news old new (Err e) (Ok b) all ends = tt
run-both setup steps olds news old new (Err e) (Err f) all ends = by (is_bad_event (Err f))
  where
    by : (b : Bool) → OnOk (let r : Result (Unit {0}) Fault = if b then Err f else Err e in r)
        (RunAll setup (olds ++ old ∷ []) steps (news ++ new ∷ []))
    by true = tt
    by false = tt

front-index : (xs ys : List SeatData) (k : ℕ) (d : SeatData) → k < length xs → slice_index_or (xs ++ ys) k d ≡ slice_index_or xs k d
front-index [] ys k d lt = absurd (omega (arith, lt))
front-index (x ∷ xs) ys zero d lt = refl
front-index (x ∷ xs) ys (suc k) d lt = front-index xs ys k d (omega (arith, lt))

front-within : (xs : List SeatData) (y : SeatData) (k : ℕ) → k < length xs → k < length (xs ++ y ∷ [])
front-within [] y k lt = absurd (omega (arith, lt))
front-within (x ∷ xs) y zero lt = omega arith
front-within (x ∷ xs) y (suc k) lt = omega (arith, front-within xs y k (omega (arith, lt)))

-- where all are idle, so are all but the last
idle-front : (xs : List SeatData) (y : SeatData) → All IsIdle (xs ++ y ∷ []) → All IsIdle xs
idle-front xs y all k d lt = subst IsIdle (front-index xs (y ∷ []) k d lt) (all k d (front-within xs y k lt))

last-index : (xs : List SeatData) (y d : SeatData) → slice_index_or (xs ++ y ∷ []) (length xs) d ≡ y
last-index [] y d = refl
last-index (x ∷ xs) y d = last-index xs y d

last-within : (xs : List SeatData) (y : SeatData) → length xs < length (xs ++ y ∷ [])
last-within [] y = omega arith
last-within (x ∷ xs) y = omega (arith, last-within xs y)

idle-last : (xs : List SeatData) (y : SeatData) → All IsIdle (xs ++ y ∷ []) → IsIdle y
idle-last xs y all = subst IsIdle (last-index xs y y) (all (length xs) y (last-within xs y))

-- and so is the one that was popped, and what is left
pub idle-rest : (olds rest : List SeatData) (popped : Option SeatData) (old : SeatData) → olds ≡ rest ++ option_to_list popped →
    popped ≡ Some old → All IsIdle olds → All IsIdle rest
idle-rest olds rest popped old split some all =
    idle-front rest old (subst (λ l. All IsIdle l) (split ∙ ap (λ o. rest ++ option_to_list o) some) all)

pub idle-popped : (olds rest : List SeatData) (popped : Option SeatData) (old : SeatData) → olds ≡ rest ++ option_to_list popped →
    popped ≡ Some old → All IsIdle olds → IsIdle old
idle-popped olds rest popped old split some all =
    idle-last rest old (subst (λ l. All IsIdle l) (split ∙ ap (λ o. rest ++ option_to_list o) some) all)

-- the last seat, popped, run and put back
pub grown-back : (setup : Setup) (steps : List Step) (olds rest news after : List SeatData) (popped : Option SeatData) (old new : SeatData)
    (outcome : Result (Unit {0}) Fault) → olds ≡ rest ++ option_to_list popped → popped ≡ Some old → GrowAll rest news →
    Ends setup old steps outcome new → after ≡ news ++ new ∷ [] → GrowAll olds after
grown-back setup steps olds rest news after popped old new outcome split some all ends put =
    let was : olds ≡ rest ++ old ∷ [] = split ∙ ap (λ o. rest ++ option_to_list o) some in
    subst (λ l. GrowAll l after) (sym was) (subst (λ l. GrowAll (rest ++ old ∷ []) l) (sym put)
    (grow-last rest news old new all (ends-grows setup old steps outcome new ends)))

pub run-back : (setup : Setup) (steps : List Step) (olds rest news after : List SeatData) (popped : Option SeatData) (old new : SeatData)
    (others outcome both : Result (Unit {0}) Fault) → olds ≡ rest ++ option_to_list popped → popped ≡ Some old →
    OnOk others (RunAll setup rest steps news) → Ends setup old steps outcome new → after ≡ news ++ new ∷ [] →
    both ≡ joined others outcome → OnOk both (RunAll setup olds steps after)
run-back setup steps olds rest news after popped old new others outcome both split some all ends put is =
    let was : olds ≡ rest ++ old ∷ [] = split ∙ ap (λ o. rest ++ option_to_list o) some in
    subst (λ l. OnOk both (RunAll setup l steps after)) (sym was)
    (subst (λ l. OnOk both (RunAll setup (rest ++ old ∷ []) steps l)) (sym put)
    (subst (λ r. OnOk r (RunAll setup (rest ++ old ∷ []) steps (news ++ new ∷ []))) (sym is)
    (run-both setup steps rest news old new others outcome all ends)))
