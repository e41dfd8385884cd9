use Rattle.std.proofs.Common.{◌≡◌, ◌++◌, drop}
use Rattle.rc_model.specs.Model.{Free, to_ids, ids_of, not_lost}
use Rattle.rc_master.specs.Beginnings.{IsBeginning}
use Rattle.rc_master.proofs.closing.add_frees_to.Given as goal

-- the messages so far, and then those to the members that are left
abbrev pub invariant-loop-member : goal.invariant-loop-member
invariant-loop-member l = record {
  rest :
      l.sent.items ++ to_ids l.own (ids_of (not_lost (drop l.member-index l.members))) (Free l.seg)
      ≡ l.initial.sent.items ++ to_ids l.own (ids_of (not_lost l.members)) (Free l.seg);
  begun : IsBeginning l.initial.sent.items l.sent.items;
}
