use Rattle.std.proofs.Common.{Some, None, ap, ◌∙◌}
use Rattle.std.proofs.lemmas.Result.{on_ok_weaker, on_err_weaker, IfOk-weaker}
use Rattle.rc_model.specs.Backup.{replica_after}
use Rattle.rc_backup.specs.BackupView.{held_in, put_first}
use Rattle.rc_replica.specs.HeldAfter.{next_replica, stored_after}
use Rattle.rc_backup.proofs.TableLemmas.{found-held, stores-found, stores-first, unwritten}
use Rattle.rc_backup.proofs.backup.Backup.keep.Goals as goal

pub returns-in-Some-clause-state : goal.returns-in-Some-clause-state
returns-in-Some-clause-state c =
    let b = c.self.inside in
    on_ok_weaker c.store.result
    (λ state. stores-found c.args.self.now b.id b.held.entries _ c.args.master c.args.seg c.args.body.now
    c.in-Some.held.now c.store.new.self c.self.view_is c.get_mut.ensures.ordered c.in-Some.ensures.value state
    (c.get_mut.follows.holds c.store.new.self).0)
    c.store.ensures.state

pub returns-in-Some-clause-answer : goal.returns-in-Some-clause-answer
returns-in-Some-clause-answer c =
    let m = c.args.master in
    IfOk-weaker c.store.result _ _
    (λ answer said.
    said
    ∙ ap (λ held. stored_after c.args.seg (next_replica held c.args.seg c.args.body.now))
    (found-held m c.self.inside.held.entries (Some c.in-Some.held.now) c.in-Some.ensures.value ∙
    ap (λ holdings. held_in holdings.table m) c.self.view_is))
    c.store.ensures.answer

pub returns-in-Some-clause-err : goal.returns-in-Some-clause-err
returns-in-Some-clause-err c =
    let b = c.self.inside in
    on_err_weaker c.store.result
    (λ same.
    unwritten b.id b.held.entries _ c.args.master c.in-Some.held.now c.store.new.self c.in-Some.ensures.value
    (c.get_mut.follows.holds c.store.new.self).0 same ∙ c.self.view_is)
    c.store.ensures.err

pub returns-in-None-clause-state : goal.returns-in-None-clause-state
returns-in-None-clause-state c =
    let b = c.self.inside in
    on_ok_weaker c.keep_first.result
    (λ state. stores-first c.args.self.now b.id b.held.entries _ c.args.master c.args.seg c.args.body.now c.self.view_is
    c.in-None.ensures.value
    (state ∙ ap (λ map. put_first map.entries c.args.master c.args.seg (replica_after None c.args.body.now))
    c.get_mut.follows.holds-at-none))
    c.keep_first.ensures.state
