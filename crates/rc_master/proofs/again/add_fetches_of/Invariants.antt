use Rattle.std.proofs.Common.{◌≡◌, ◌++◌, map, filter, drop}
use Rattle.rc_model.specs.MasterTick.{fetch_of, has_not_come}
use Rattle.rc_master.specs.Beginnings.{IsBeginning}
use Rattle.rc_master.proofs.again.add_fetches_of.Given as goal

-- the messages so far, and then those of the rows that are left
abbrev pub invariant-loop-row : goal.invariant-loop-row
invariant-loop-row l = record {
  rest :
      l.sent.items
      ++ map (fetch_of l.own l.task) (filter (has_not_come l.ownership.own l.task) (drop l.row-index l.row-items))
      ≡ l.initial.sent.items ++ map (fetch_of l.own l.task) (filter (has_not_come l.ownership.own l.task) l.row-items);
  begun : IsBeginning l.initial.sent.items l.sent.items;
}
