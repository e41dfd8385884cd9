use Rattle.std.proofs.Common.{◌≡◌, ◌-◌, take, drop, ap, ◌∙◌, arith}
use Rattle.rc_model.specs.Ownership.{count_under}
use Rattle.rc_ownership.specs.Counts.{count_in}
use Rattle.rc_ownership.specs.Marks.{marked}
use Rattle.rc_ownership.proofs.GroupBounds.{bounds-undurable}
use Rattle.rc_ownership.proofs.NoteTables.{tables-undurable}
use Rattle.rc_ownership.proofs.notes.Notes.lower_durable.Goals as goal

pub invariant_of-self : goal.invariant_of-self
invariant_of-self c =
    let durable_is : c.self.inside.durable ≡ c.args.self.now.durable = ap (λ notes. notes.durable) c.self.view_is in
    let tables =
    tables-undurable c.self.inside.noted.items c.self.inside.replayed.items c.self.inside.durable c.args.count c.self.inside.highs
    c.self.inside.counts c.count_down.new.counts
    c.self.invariant.tables (omega arith)
    (λ term. c.count_down.ensures.counted term
    ∙ ap (λ entries. count_in c.self.inside.counts term - count_under term
    (marked (take (c.self.inside.durable - c.args.count) (drop c.args.count c.as_slice-2.result.now))
    (take (c.self.inside.durable - c.args.count) (drop c.args.count entries)))) c.as_slice.ensures.value
    ∙ ap (λ marks. count_in c.self.inside.counts term - count_under term
    (marked (take (c.self.inside.durable - c.args.count) (drop c.args.count marks))
    (take (c.self.inside.durable - c.args.count) (drop c.args.count c.self.inside.noted.items)))) c.as_slice-2.ensures.value)
    c.count_down.ensures.kept in
    record {
      tables = tables;
      kept_within = c.self.invariant.kept_within;
      durable_within = c.self.invariant.durable_within;
      tops_are = c.self.invariant.tops_are;
      bounds_are =
          bounds-undurable c.self.inside.noted.items c.self.inside.durable c.args.count c.self.inside.bounds.items (omega arith)
          c.self.invariant.bounds_are;
    }
