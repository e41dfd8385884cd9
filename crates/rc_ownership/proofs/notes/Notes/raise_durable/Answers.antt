use Rattle.std.proofs.Common.{◌≡◌, ◌+◌, ◌-◌, List, length, take, drop, slice_get, Some, ap, sym, subst, ◌∙◌, arith}
use Rattle.rc_types.specs.declared.entries.Entry.{Entry}
use Rattle.rc_model.specs.Ownership.{count_under}
use Rattle.rc_ownership.specs.Counts.{count_in}
use Rattle.rc_ownership.specs.Marks.{marked}
use Rattle.rc_ownership.proofs.GroupBounds.{bounds-durable}
use Rattle.rc_ownership.proofs.NoteTables.{tables-durable, counts_fit}
use Rattle.rc_ownership.proofs.notes.Notes.raise_durable.Goals as goal

pub count_up-requires-clause-room : goal.count_up-requires-clause-room
count_up-requires-clause-room c =
    let durable_is : c.self.inside.durable ≡ c.args.self.now.durable = ap (λ notes. notes.durable) c.self.view_is in
    λ term. omega (
      arith,
      counts_fit c.self.inside.noted.items c.self.inside.replayed.items c.self.inside.durable c.args.count
          c.self.inside.highs c.self.inside.counts
          c.self.invariant.tables (omega arith) term,
      ap (λ entries. length (take (c.args.count - c.self.inside.durable) (drop c.self.inside.durable entries))) c.as_slice.ensures.value,
    )

pub invariant_of-self : goal.invariant_of-self
invariant_of-self c =
    let durable_is : c.self.inside.durable ≡ c.args.self.now.durable = ap (λ notes. notes.durable) c.self.view_is in
    let noted_is : length c.self.inside.noted.items ≡ length c.args.self.now.noted = ap (λ notes. length notes.noted) c.self.view_is in
    let tables =
    tables-durable c.self.inside.noted.items c.self.inside.replayed.items c.self.inside.durable c.args.count
    c.self.inside.highs c.self.inside.counts
    c.count_up.new.counts
    c.self.invariant.tables (omega arith) (omega arith)
    (λ term. c.count_up.ensures.counted term
    ∙ ap (λ entries. count_in c.self.inside.counts term + count_under term
    (marked (take (c.args.count - c.self.inside.durable) (drop c.self.inside.durable c.as_slice-2.result.now))
    (take (c.args.count - c.self.inside.durable) (drop c.self.inside.durable entries)))) c.as_slice.ensures.value
    ∙ ap (λ marks. count_in c.self.inside.counts term + count_under term
    (marked (take (c.args.count - c.self.inside.durable) (drop c.self.inside.durable marks))
    (take (c.args.count - c.self.inside.durable) (drop c.self.inside.durable c.self.inside.noted.items)))) c.as_slice-2.ensures.value)
    c.count_up.ensures.kept in
    record {
      tables = tables;
      kept_within = c.self.invariant.kept_within;
      durable_within = c.self.invariant.durable_within;
      tops_are = c.self.invariant.tops_are;
      bounds_are =
          bounds-durable c.self.inside.noted.items c.self.inside.durable c.args.count c.self.inside.bounds.items
          c.raise_bounds.new.bounds.items c.self.invariant.bounds_are
          (λ place entry bound at there. c.raise_bounds.ensures.raised place entry bound
          (subst (λ (noted : List Entry). slice_get (take (c.args.count - c.self.inside.durable) (drop c.self.inside.durable noted))
          place ≡ Some entry) (sym c.as_slice.ensures.value) at) there)
          c.raise_bounds.ensures.others;
    }
