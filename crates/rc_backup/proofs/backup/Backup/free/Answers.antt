use Rattle.std.proofs.Common.{ap, ◌∙◌}
use Rattle.std.proofs.lemmas.Result.{on_ok_weaker, on_err_weaker}
use Rattle.std.specs.BTreeMap.{insert_entry}
use Rattle.rc_model.specs.Backup.{nothing_held}
use Rattle.rc_backup.specs.BackupView.{id_order}
use Rattle.rc_replica.specs.HeldAfter.{held_without}
use Rattle.rc_backup.proofs.TableLemmas.{frees-found, frees-first, unwritten}
use Rattle.rc_backup.proofs.backup.Backup.free.Goals as goal

pub returns-in-Some-clause-ok : goal.returns-in-Some-clause-ok
returns-in-Some-clause-ok c =
    let b = c.self.inside in
    on_ok_weaker c.free.result
    (λ ok. frees-found c.args.self.now b.id b.held.entries _ c.args.master c.args.seg c.in-Some.held.now c.free.new.self
    c.self.view_is c.get_mut.ensures.ordered c.in-Some.ensures.value ok
    (c.get_mut.follows.holds c.free.new.self).0)
    c.free.ensures.ok

pub returns-in-Some-clause-err : goal.returns-in-Some-clause-err
returns-in-Some-clause-err c =
    let b = c.self.inside in
    on_err_weaker c.free.result
    (λ same.
    unwritten b.id b.held.entries _ c.args.master c.in-Some.held.now c.free.new.self c.in-Some.ensures.value
    (c.get_mut.follows.holds c.free.new.self).0 same ∙ c.self.view_is)
    c.free.ensures.err

pub returns-in-None-clause-ok : goal.returns-in-None-clause-ok
returns-in-None-clause-ok c =
    let b = c.self.inside in
    on_ok_weaker c.free_first.result
    (λ ok. frees-first c.args.self.now b.id b.held.entries _ c.args.master c.args.seg c.self.view_is c.in-None.ensures.value
    (ok ∙ ap (λ map. insert_entry id_order map.entries c.args.master (held_without nothing_held c.args.seg))
    c.get_mut.follows.holds-at-none))
    c.free_first.ensures.ok
