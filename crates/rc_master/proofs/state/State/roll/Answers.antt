use Rattle.std.proofs.Common.{◌≡◌, true, Ok, OnOk, sym, subst}
use Rattle.rc_model.specs.Model.{begin_roll, dead_segments}
use Rattle.rc_headroll.specs.LogData.{log_of}
use Rattle.rc_ownership.specs.Owner.{Owner}
use Rattle.rc_master.specs.Notes.{AreNotes}
use Rattle.rc_master.specs.View.{state_view}
use Rattle.rc_master.proofs.Notes.{roll-is, notes-same}
use Rattle.rc_master.proofs.Quiet.{on_ok-then}
use Rattle.rc_master.proofs.state.State.roll.Goals as goal

pub returns-clause-noted : goal.returns-clause-noted
returns-clause-noted c =
    let s = c.args.self.now in
    subst (λ (o : Owner). OnOk c.roll.result
    (AreNotes (log_of c.roll.new.log) o.noted o.replayed o.handed o.durable o.own.parts s.tasks.items)) (sym c.roll.ensures.same)
    (on_ok-then c.roll.result
    (λ (began : begin_roll s.known (dead_segments (state_view s)) (log_of s.log) ≡ (log_of c.roll.new.log, Ok true)).
    notes-same _ _ _ _ (roll-is s.known (dead_segments (state_view s)) _ _ true began).same c.requires.noted)
    c.roll.ensures.ok)
