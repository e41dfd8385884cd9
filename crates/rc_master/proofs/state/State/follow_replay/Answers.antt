use Rattle.std.proofs.Common.{◌≡◌, ◌++◌, Bool, List, is_some, OnOk, sym, ap, ◌∙◌, subst}
use Rattle.std.specs.Prelude.{IfOk}
use Rattle.rc_model.specs.Model.{ServerId, Entry, Message, Task, to_answer, after_answer}
use Rattle.rc_master.specs.Telling.{told_of}
use Rattle.rc_ownership.specs.Owner.{Owner, replayed_of}
use Rattle.rc_master.specs.View.{state_view}
use Rattle.rc_master.proofs.Quiet.{on_ok-then}
use Rattle.rc_master.proofs.Outer.{durable-noted}
use Rattle.rc_master.proofs.Answering.{answered-did, answered-sends, answered-state}
use Rattle.rc_master.specs.Tasks.{AreTasksOf}
use Rattle.rc_master.proofs.TasksListed.{tasks-answered}
use Rattle.rc_master.proofs.TasksOfParts.{notes-parts}
use Rattle.rc_master.proofs.state.State.follow_replay.Goals as goal

pub returns-clause-state : goal.returns-clause-state
returns-clause-state c =
    let s = c.args.self.now in
    on_ok-then c.tell_part.result
    (λ (told : c.tell_part.new.ownership ≡ record s.ownership { own = after_answer (replayed_of s.ownership) s.ownership.own }).
    ap (λ (owner : Owner). record (state_view s) { ownership = owner.own }) told
    ∙ (ap (λ (durable : List Entry). record (state_view s) { ownership = after_answer durable s.ownership.own })
    (durable-noted s c.requires.noted) ∙ sym (answered-state (state_view s))))
    c.tell_part.ensures.owner

pub tell_part-requires : goal.tell_part-requires
tell_part-requires c =
    let s = c.args.self.now in
    subst (AreTasksOf s.ownership.own.parts) (sym c.as_slice.ensures.value) c.requires.noted.tasks_are

pub returns-clause-noted : goal.returns-clause-noted
returns-clause-noted c =
    let s = c.args.self.now in
    on_ok-then c.tell_part.result
    (λ (told : c.tell_part.new.ownership ≡ record s.ownership { own = after_answer (replayed_of s.ownership) s.ownership.own }).
    rw told (notes-parts (tasks-answered (replayed_of s.ownership) s.ownership.own.parts s.tasks.items c.requires.noted.tasks_are)
    c.requires.noted))
    c.tell_part.ensures.owner

pub returns-clause-applied : goal.returns-clause-applied
returns-clause-applied c =
    let s = c.args.self.now in
    subst (λ (applies : Bool). IfOk c.tell_part.result (λ told. told ≡ applies))
    (ap (λ (durable : List Entry). is_some (to_answer durable s.ownership.own)) (durable-noted s c.requires.noted)
    ∙ answered-did (state_view s)) c.tell_part.ensures.told

pub returns-clause-sends : goal.returns-clause-sends
returns-clause-sends c =
    let s = c.args.self.now in
    subst (λ (messages : List Message). OnOk c.tell_part.result (c.tell_part.new.sent.items ≡ c.args.sent.now.items ++ messages))
    (ap (λ (own : ServerId). told_of own c.as_slice.result.now (to_answer (replayed_of s.ownership) s.ownership.own)) c.own-own.ensures
    ∙ ap (λ (tasks : List Task). told_of s.log.own tasks (to_answer (replayed_of s.ownership) s.ownership.own)) c.as_slice.ensures.value
    ∙ ap (λ (durable : List Entry). told_of s.log.own s.tasks.items (to_answer durable s.ownership.own))
    (durable-noted s c.requires.noted)
    ∙ answered-sends (state_view s))
    c.tell_part.ensures.sends
