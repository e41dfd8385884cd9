use Rattle.rc_audit.specs.Highs.{NotesVersion}
use Rattle.std.proofs.Common.{subst}
use Rattle.rc_audit.specs.Writes.{ack_of}
use Rattle.rc_audit.proofs.BarLemmas.{ack_noted}
use Rattle.rc_audit.proofs.bars.note_acked.Goals as goal

pub returns : goal.returns
returns c =
    ack_noted c.args.highs.now c.note_version.new.highs (ack_of c.in-Some.write) _ c.in-Some.ensures
    (subst (λ key. NotesVersion c.args.highs.now c.note_version.new.highs key c.in-Some.write.version)
    c.term_key.ensures c.in_ok-note_version.ensures)
