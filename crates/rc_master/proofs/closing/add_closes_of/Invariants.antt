use Rattle.std.proofs.Common.{◌≡◌, ◌++◌, drop, filter}
use Rattle.rc_model.specs.Model.{Close, to_ids, ids_of, is_unclosed}
use Rattle.rc_master.specs.Beginnings.{IsBeginning}
use Rattle.rc_master.proofs.closing.add_closes_of.Given as goal

-- the messages so far, and then those to the members that are left
abbrev pub invariant-loop-member : goal.invariant-loop-member
invariant-loop-member l = record {
  rest :
      l.sent.items ++ to_ids l.own (ids_of (filter (is_unclosed l.segment) (drop l.member-index l.member-items))) (Close l.seg l.len)
      ≡ l.initial.sent.items ++ to_ids l.own (ids_of (filter (is_unclosed l.segment) l.member-items)) (Close l.seg l.len);
  begun : IsBeginning l.initial.sent.items l.sent.items;
}
