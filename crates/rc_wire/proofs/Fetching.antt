-- No work of the workload is a delivery, and each new seat is idle.
use Rattle.std.proofs.Common.{◌≡◌, ℕ, zero, suc, Bool, true, false, ◌&&◌, List, [], ◌∷◌, map, All}
use Rattle.std.proofs.Common.{refl, sym, ap, ◌∙◌, subst, arith}
use Rattle.std.specs.List.{range_with_len}
use Rattle.rc_model.specs.World.{TheOutside, TheCoordinator, TheHost}
use Rattle.rc_wire.specs.declared.work.Work.TheVariants as work
use Rattle.rc_types.specs.declared.events.Order.TheVariants as order
use Rattle.rc_wire.specs.SeatView.{SeatData, new_seat}
use Rattle.rc_wire.specs.declared.steps.Step.{Step}
use Rattle.rc_wire.specs.declared.steps.Step.TheVariants.{Do, Settle}
use Rattle.rc_wire.specs.Runs.{none_fetched}
use Rattle.rc_wire.specs.Ends.{IsIdle}
use Rattle.rc_wire.specs.Views.{name_at}
use Rattle.rc_wire.specs.Seats.{new_seats}
use Rattle.rc_wire.specs.Workload.{push, owner, starts, created, write_of, asks, workload, told}

and-more : (a b : Bool) → a ≡ true → b ≡ true → (a && b) ≡ true
and-more a b x y = ap (λ c. c && b) x ∙ y

and-first : (a b : Bool) → (a && b) ≡ true → a ≡ true
and-first true b is = refl
and-first false b is = cc

and-second : (a b : Bool) → (a && b) ≡ true → b ≡ true
and-second true b is = is
and-second false b is = cc

pub none-push : (steps : List Step) (step : Step) → none_fetched steps ≡ true → none_fetched (step ∷ []) ≡ true →
    none_fetched (push steps step) ≡ true
none-push [] step all one = one
none-push (Settle ∷ steps) step all one = none-push steps step all one
none-push (Do who given ∷ steps) step all one =
    and-more _ _ (and-first _ _ all) (none-push steps step (and-second _ _ all) one)

none-starts : (hosts : ℕ) → none_fetched (starts hosts) ≡ true
none-starts zero = refl
none-starts (suc host) = none-push (starts host) (Do (TheHost host) (work.Start [])) (none-starts host) refl

none-created : (hosts : ℕ) → none_fetched (created hosts) ≡ true
none-created hosts =
    let table : Step = told (order.Create 1 owner) in
    let settled : List Step = push (starts hosts) Settle in
    none-push (push settled table) Settle
    (none-push settled table (none-push (starts hosts) Settle (none-starts hosts) refl) refl) refl

none-asks : (hosts writes : ℕ) → none_fetched (asks hosts writes) ≡ true
none-asks hosts zero = none-created hosts
none-asks hosts (suc key) = none-push (asks hosts key) (Do TheOutside (write_of key)) (none-asks hosts key) refl

pub none-workload : (hosts writes : ℕ) → none_fetched (workload hosts writes) ≡ true
none-workload hosts writes =
    let suspect : Step = told (order.Suspect owner) in
    let decide : Step = told (order.Decide owner) in
    let asked : List Step = push (asks hosts writes) Settle in
    let suspected : List Step = push (push asked suspect) Settle in
    none-push (push suspected decide) Settle
    (none-push suspected decide
    (none-push (push asked suspect) Settle
    (none-push asked suspect (none-push (asks hosts writes) Settle (none-asks hosts writes) refl) refl) refl) refl) refl

new-idle : (numbers : List ℕ) → All IsIdle (map (λ number. new_seat (name_at number)) numbers)
new-idle [] k d lt = absurd (omega (arith, lt))
new-idle (n ∷ numbers) zero d lt = refl
new-idle (n ∷ numbers) (suc k) d lt = new-idle numbers k d (omega (arith, lt))

pub all-idle : (nodes : ℕ) → All IsIdle (new_seats nodes)
all-idle nodes = new-idle (range_with_len 0 nodes)

pub opened-idle : (nodes : ℕ) (seats : List SeatData) → seats ≡ new_seats nodes → All IsIdle seats
opened-idle nodes seats are = subst (λ l. All IsIdle l) (sym are) (all-idle nodes)

pub steps-none : (hosts writes : ℕ) (steps slice : List Step) → steps ≡ workload hosts writes → slice ≡ steps → none_fetched slice ≡ true
steps-none hosts writes steps slice are is = ap none_fetched (is ∙ are) ∙ none-workload hosts writes
