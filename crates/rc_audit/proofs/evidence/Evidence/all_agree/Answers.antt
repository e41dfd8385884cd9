use Rattle.std.proofs.Common.{◌∙◌, sym}
use Rattle.rc_model.specs.Breach.{agrees}
use Rattle.rc_audit.specs.Writes.{ack_of}
use Rattle.rc_audit.proofs.PlaceLemmas.{agree_told, and_yes, and_no}
use Rattle.rc_audit.proofs.evidence.Evidence.all_agree.Goals as goal

pub returns-in-None : goal.returns-in-None
returns-in-None c =
    agree_told c.args.self.now.messages.now c.args.master c.args.write.now.seg c.args.write.now.offset
    (ack_of c.args.write.now) _ c.in-None.ensures

pub returns-then-agrees : goal.returns-then-agrees
returns-then-agrees c =
    sym (and_yes c.in-Some.seen.alike (agrees (ack_of c.args.write.now) c.in-Some.seen.first.now) (sym c.if-agrees.ensures))
    ∙ agree_told c.args.self.now.messages.now c.args.master c.args.write.now.seg c.args.write.now.offset
    (ack_of c.args.write.now) _ c.in-Some.ensures

pub returns-else-agrees : goal.returns-else-agrees
returns-else-agrees c =
    c.if-agrees.false ∙ sym (and_no c.in-Some.seen.alike (agrees (ack_of c.args.write.now) c.in-Some.seen.first.now)
    (sym c.if-agrees.ensures))
    ∙ agree_told c.args.self.now.messages.now c.args.master c.args.write.now.seg c.args.write.now.offset
    (ack_of c.args.write.now) _ c.in-Some.ensures
