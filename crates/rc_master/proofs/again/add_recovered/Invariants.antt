use Rattle.std.proofs.Common.{◌≡◌, ◌++◌, drop}
use Rattle.rc_master.specs.Beginnings.{IsBeginning}
use Rattle.rc_master.specs.Reminders.{recovered_of}
use Rattle.rc_master.proofs.again.add_recovered.Given as goal

-- the messages so far, and then those of the terms that are left
abbrev pub invariant-loop-term : goal.invariant-loop-term
invariant-loop-term l = record {
  rest :
      l.sent.items ++ recovered_of l.own l.tasks (drop l.term-index l.terms)
      ≡ l.initial.sent.items ++ recovered_of l.own l.tasks l.terms;
  begun : IsBeginning l.initial.sent.items l.sent.items;
}
