use Rattle.std.proofs.Common.{true, ap, ◌∙◌}
use Rattle.std.proofs.lemmas.Result.{on_ok_weaker}
use Rattle.std.specs.BTreeMap.{insert_entry}
use Rattle.rc_model.specs.Backup.{Held, nothing_held}
use Rattle.rc_backup.specs.BackupView.{id_order}
use Rattle.rc_backup.proofs.TableLemmas.{changed-found, changed-first}
use Rattle.rc_backup.proofs.backup.Backup.fence.Goals as goal

pub returns-in-Some-clause-ok : goal.returns-in-Some-clause-ok
returns-in-Some-clause-ok c =
    let b = c.self.inside in
    let f = λ (held : Held). let fenced : Held = record held { fenced = true } in fenced in
    changed-found f c.args.self.now b.id b.held.entries _ c.args.master c.in-Some.held.now c.fence.new.self
    c.self.view_is c.get_mut.ensures.ordered c.in-Some.ensures.value c.fence.ensures
    (c.get_mut.follows.holds c.fence.new.self).0

pub returns-in-None-clause-ok : goal.returns-in-None-clause-ok
returns-in-None-clause-ok c =
    let b = c.self.inside in
    let f = λ (held : Held). let fenced : Held = record held { fenced = true } in fenced in
    on_ok_weaker c.fence_first.result
    (λ ok. changed-first f c.args.self.now b.id b.held.entries _ c.args.master c.self.view_is c.in-None.ensures.value
    (ok ∙ ap (λ map. insert_entry id_order map.entries c.args.master (f nothing_held)) c.get_mut.follows.holds-at-none))
    c.fence_first.ensures.ok
