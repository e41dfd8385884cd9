use Rattle.std.proofs.Common.{◌≡◌, ◌++◌, drop}
use Rattle.rc_headroll.specs.LogData.{log_of}
use Rattle.rc_master.specs.Beginnings.{IsBeginning}
use Rattle.rc_master.specs.Tasks.{fetches_at}
use Rattle.rc_master.proofs.again.add_fetches_again.Given as goal

-- the messages so far, and then those of the tasks at the places that are left
abbrev pub invariant-loop-place : goal.invariant-loop-place
invariant-loop-place l = record {
  rest :
      l.sent.items
      ++ fetches_at (log_of l.log).own l.ownership.own l.tasks (drop l.place-index l.place-items)
      ≡ l.initial.sent.items ++ fetches_at (log_of l.log).own l.ownership.own l.tasks l.place-items;
  begun : IsBeginning l.initial.sent.items l.sent.items;
}
