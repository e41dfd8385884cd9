use Rattle.std.proofs.Common.{◌≡◌, ◌++◌, drop, false}
use Rattle.rc_model.specs.Master.{to_ids, ids_of}
use Rattle.rc_master.specs.Placed.{place_in}
use Rattle.rc_master.specs.Beginnings.{IsBeginning}
use Rattle.rc_master.proofs.placing.add_to_members.Given as goal

-- the messages so far, and then those to the members that are left
abbrev pub invariant-loop-member : goal.invariant-loop-member
invariant-loop-member l = record {
  rest :
      l.sent.items ++ to_ids l.own (ids_of ((drop l.member-index l.members))) (place_in l.seg l.segment false)
      ≡ l.initial.sent.items ++ to_ids l.own (ids_of (l.members)) (place_in l.seg l.segment false);
  begun : IsBeginning l.initial.sent.items l.sent.items;
}
