use Rattle.std.proofs.Common.{◌≡◌, ◌++◌, drop}
use Rattle.rc_coordinator.specs.View.{state_view}
use Rattle.rc_coordinator.specs.Asked.{asks_of_all}
use Rattle.rc_coordinator.proofs.state.State.ask_each.Given as goal

-- the messages so far, and then those of the attempts that are left
abbrev pub invariant-loop-number : goal.invariant-loop-number
invariant-loop-number g l =
    l.messages.items ++ asks_of_all (state_view l.self) (drop l.number-index l.numbers)
    ≡ l.initial.messages.items ++ asks_of_all (state_view l.self) l.numbers
