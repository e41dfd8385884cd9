use Rattle.std.proofs.Common.{◌≡◌, ◌++◌, filter, drop}
use Rattle.rc_model.specs.MasterTick.{stood, reminds_shut_members}
use Rattle.rc_headroll.specs.LogData.{log_of, before_of}
use Rattle.rc_master.specs.Beginnings.{IsBeginning}
use Rattle.rc_master.proofs.reminding.add_to_untold.Given as goal

-- the messages so far, and then those to the members that are left
abbrev pub invariant-loop-member : goal.invariant-loop-member
invariant-loop-member l = record {
  rest :
      l.sent.items ++ reminds_shut_members (log_of l.log) l.seg
      (filter (λ member. stood (before_of l.log) (log_of l.log) l.seg member.id)
      (drop l.member-index l.member-items))
      ≡ l.initial.sent.items ++ reminds_shut_members (log_of l.log) l.seg
      (filter (λ member. stood (before_of l.log) (log_of l.log) l.seg member.id) l.member-items);
  begun : IsBeginning l.initial.sent.items l.sent.items;
}
