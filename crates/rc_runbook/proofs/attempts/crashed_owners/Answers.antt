use Rattle.std.proofs.Common.{ℕ, ◌+◌, List, false, drop, sym, ap, ◌∙◌}
use Rattle.std.proofs.lemmas.List.{at_drop_more}
use Rattle.rc_types.specs.declared.rows.Tablet.{Tablet}
use Rattle.rc_runbook.specs.Runbook.{crashed_owners}
use Rattle.rc_runbook.proofs.attempts.crashed_owners.Goals as goal

pub loop-tablet-preserved : goal.loop-tablet-preserved
loop-tablet-preserved c =
    let tablets : List Tablet = c.args.tablets.now in
    let place : ℕ = c.loop-tablet.tablet-index in
    let none : Tablet = record {
      range = record { table = 0; lo = 0; hi = 0 };
      owner = record { index = 0; generation = 0 };
      term = 0;
      crashed = false;
    } in
    ap (λ o. crashed_owners o (drop (place + 1) tablets)) c.in_ok-note_owner.ensures
    ∙ sym (at_drop_more (λ l. crashed_owners c.loop-tablet.owners.items l) tablets place none c.loop-tablet-test.true)
    ∙ c.loop-tablet.invariant
