use Rattle.std.proofs.Common.{◌≡◌, ◌+◌, ◌≤◌, drop}
use Rattle.rc_model.specs.Report.{count_of, counts_ack, counts_refused, counts_plan, counts_grant}
use Rattle.rc_traces.proofs.counts.counts_of.Given as goal

abbrev pub invariant-loop-message : goal.invariant-loop-message
invariant-loop-message l = record {
  acknowledged : l.acknowledged + count_of counts_ack (drop l.message-index l.messages) ≡ count_of counts_ack l.messages;
  refused : l.refused + count_of counts_refused (drop l.message-index l.messages) ≡ count_of counts_refused l.messages;
  plans : l.plans + count_of counts_plan (drop l.message-index l.messages) ≡ count_of counts_plan l.messages;
  grants : l.grants + count_of counts_grant (drop l.message-index l.messages) ≡ count_of counts_grant l.messages;
  few : (l.acknowledged ≤ l.message-index) × (l.refused ≤ l.message-index) × (l.plans ≤ l.message-index) × (l.grants ≤ l.message-index);
}
