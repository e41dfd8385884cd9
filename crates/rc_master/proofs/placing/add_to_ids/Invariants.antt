use Rattle.std.proofs.Common.{◌≡◌, ◌++◌, drop}
use Rattle.rc_model.specs.Master.{to_ids}
use Rattle.rc_master.specs.Placed.{place_in}
use Rattle.rc_master.specs.Beginnings.{IsBeginning}
use Rattle.rc_master.proofs.placing.add_to_ids.Given as goal

-- the messages so far, and then those to the ids that are left
abbrev pub invariant-loop-id : goal.invariant-loop-id
invariant-loop-id l = record {
  rest :
      l.sent.items ++ to_ids l.own (drop l.id-index l.ids) (place_in l.seg l.segment l.closed)
      ≡ l.initial.sent.items ++ to_ids l.own l.ids (place_in l.seg l.segment l.closed);
  begun : IsBeginning l.initial.sent.items l.sent.items;
}
