use Rattle.std.proofs.Common.{◌++◌, List, sym, ap, ◌∙◌, subst}
use Rattle.rc_model.specs.Model.{Message, Task, reminds}
use Rattle.rc_headroll.specs.LogData.{log_of, before_of}
use Rattle.rc_master.specs.Sender.{sender}
use Rattle.rc_master.specs.Tasks.{AreTasksOf}
use Rattle.rc_master.proofs.Senders.{reminds-sender}
use Rattle.rc_master.specs.View.{state_view}
use Rattle.rc_master.proofs.Notes.{replayed-same}
use Rattle.rc_master.proofs.state.State.remind.Goals as goal

pub add_reminders-requires-clause-durable : goal.add_reminders-requires-clause-durable
add_reminders-requires-clause-durable c = replayed-same _ _ _ _ c.requires.noted

pub add_reminders-requires-clause-tasks : goal.add_reminders-requires-clause-tasks
add_reminders-requires-clause-tasks c =
    subst (AreTasksOf c.args.self.now.ownership.own.parts) (sym c.as_slice.ensures.value) c.requires.noted.tasks_are

pub returns : goal.returns
returns c =
    let s = c.args.self.now in
    c.in_ok-add_reminders.ensures.ok
    ∙ (ap (λ (tasks : List Task). c.args.sent.now.items ++
    (reminds (before_of s.log) (sender (log_of s.log) s.ownership.own tasks)).1) c.as_slice.ensures.value
    ∙ ap (λ (more : List Message). c.args.sent.now.items ++ more) (sym (reminds-sender (before_of s.log) (state_view s))))
