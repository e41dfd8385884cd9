use Rattle.std.proofs.Common.{◌≡◌, ◌<◌, ◌≤◌, ◌-◌, length, length-take, sym, ap, ◌∙◌, arith}
use Rattle.std.proofs.lemmas.Grind.{common_steps}
use Rattle.std.proofs.lemmas.List.{take_all}
use Rattle.rc_ownership.proofs.NoteTables.{same_notes}
use Rattle.rc_ownership.proofs.notes.Notes.restore.Goals as goal

pub loop-self-init : goal.loop-self-init
loop-self-init c = record {
  durable = ap (λ notes. notes.durable) c.set_durable-2.ensures ∙ ap (λ notes. notes.durable_before) c.set_durable.view_is;
  noted_before = ap (λ notes. notes.noted_before) c.set_durable-2.ensures;
  replayed_before = ap (λ notes. notes.replayed_before) c.set_durable-2.ensures;
  durable_before = ap (λ notes. notes.durable_before) c.set_durable-2.ensures;
}

pub drop_last-requires-clause-undurable : goal.drop_last-requires-clause-undurable
drop_last-requires-clause-undurable c =
    let count : c.len.result ≡ length c.self.inside.noted.items = grind (arith, common_steps) in
    omega (
      arith,
      count,
      c.loop-self-test.true,
      c.self.invariant.durable_within,
      ap (λ notes. length notes.noted) c.self.view_is,
      ap (λ notes. notes.durable_before) c.self.view_is,
      c.loop-self.invariant.durable,
      c.loop-self.invariant.durable_before,
    )

pub loop-self-smaller : goal.loop-self-smaller
loop-self-smaller c =
    let count : c.len.result ≡ length c.self.inside.noted.items = grind (arith, common_steps) in
    let smaller : length c.drop_last.new.self.noted < length c.loop-self.self.noted =
    omega (
      arith,
      count,
      c.loop-self-test.true,
      ap (λ notes. length notes.noted) c.self.view_is,
      ap (λ notes. length notes.noted) c.drop_last.ensures,
      length-take (length c.loop-self.self.noted - 1) c.loop-self.self.noted,
    ) in
    smaller

pub loop-self-preserved : goal.loop-self-preserved
loop-self-preserved c = record {
  durable = ap (λ notes. notes.durable) c.drop_last.ensures ∙ c.loop-self.invariant.durable;
  noted_before = ap (λ notes. notes.noted_before) c.drop_last.ensures ∙ c.loop-self.invariant.noted_before;
  replayed_before = ap (λ notes. notes.replayed_before) c.drop_last.ensures ∙ c.loop-self.invariant.replayed_before;
  durable_before = ap (λ notes. notes.durable_before) c.drop_last.ensures ∙ c.loop-self.invariant.durable_before;
}

pub returns : goal.returns
returns c =
    let count : c.len.result ≡ length c.self.inside.noted.items = grind (arith, common_steps) in
    let within : length c.self.inside.noted.items ≤ c.self.inside.kept = omega (arith, count, c.loop-self-test.false) in
    let noted_is =
    sym (ap (λ notes. notes.noted) c.self.view_is)
    ∙ sym (take_all c.self.inside.kept c.self.inside.noted.items within)
    ∙ ap (λ notes. notes.noted_before) c.self.view_is
    ∙ c.loop-self.invariant.noted_before in
    let marks_are =
    sym (ap (λ notes. notes.replayed) c.self.view_is)
    ∙ sym (take_all c.self.inside.kept c.self.inside.replayed.items (omega (arith, within, c.self.invariant.tables.each_marked)))
    ∙ ap (λ notes. notes.replayed_before) c.self.view_is
    ∙ c.loop-self.invariant.replayed_before in
    same_notes c.loop-self.self
    (record {
      noted = c.args.self.now.noted_before;
      replayed = c.args.self.now.replayed_before;
      durable = c.args.self.now.durable_before;
      noted_before = c.args.self.now.noted_before;
      replayed_before = c.args.self.now.replayed_before;
      durable_before = c.args.self.now.durable_before;
    })
    noted_is marks_are c.loop-self.invariant.durable c.loop-self.invariant.noted_before
    c.loop-self.invariant.replayed_before c.loop-self.invariant.durable_before
