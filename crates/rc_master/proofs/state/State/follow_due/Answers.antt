use Rattle.std.proofs.Common.{refl, ap}
use Rattle.rc_model.specs.Model.{with_log, follows_closing}
use Rattle.rc_master.specs.View.{state_view}
use Rattle.rc_master.proofs.Notes.{same-shut, notes-same}
use Rattle.rc_master.proofs.Phases.{due-all, all-applied, all-state, all-sends}
use Rattle.rc_master.proofs.state.State.follow_due.Goals as goal

pub follow_closing-requires : goal.follow_closing-requires
follow_closing-requires c = record { noted = rw c.mark_shut.ensures.state (notes-same _ _ _ _ (same-shut _) c.requires.noted) }

pub returns-clause-applied : goal.returns-clause-applied
returns-clause-applied c =
    all-applied c.follow_closing.result (λ m. follows_closing m) (state_view c.args.self.now) _
    (ap (with_log (state_view c.args.self.now)) c.mark_shut.ensures.state) (due-all (state_view c.args.self.now) c.requires.due)
    c.follow_closing.ensures.applied

pub returns-clause-state : goal.returns-clause-state
returns-clause-state c =
    all-state c.follow_closing.result (λ m. follows_closing m) (state_view c.args.self.now) _
    (ap (with_log (state_view c.args.self.now)) c.mark_shut.ensures.state) (due-all (state_view c.args.self.now) c.requires.due)
    _ c.follow_closing.ensures.state

pub returns-clause-sends : goal.returns-clause-sends
returns-clause-sends c =
    all-sends c.follow_closing.result (λ m. follows_closing m) (state_view c.args.self.now) _
    (ap (with_log (state_view c.args.self.now)) c.mark_shut.ensures.state) (due-all (state_view c.args.self.now) c.requires.due)
    c.args.sent.now.items c.args.sent.now.items _ refl c.follow_closing.ensures.sends
