use Rattle.std.proofs.Common.{nat_lt, filter, sym, ap, subst, ◌∙◌}
use Rattle.std.specs.List.Sorted.{IsNonDecreasingBy}
use Rattle.rc_ownership.specs.Highs.{highs_of}
use Rattle.rc_ownership.proofs.RecordHighs.{highs_from-rise, highs_of-take}
use Rattle.rc_ownership.proofs.notes.Notes.durable_highs.Goals as goal

pub below-requires : goal.below-requires
below-requires c =
    subst (IsNonDecreasingBy (λ high. high.0)) (sym c.highs.ensures)
    (highs_from-rise c.args.term c.args.table c.args.key 0 0 c.args.self.now.noted)

pub returns : goal.returns
returns c =
    c.below.ensures
    ∙ ap (λ highs. filter (λ high. nat_lt high.0 c.self.inside.durable) highs) c.highs.ensures
    ∙ ap (λ durable. filter (λ high. nat_lt high.0 durable)
    (highs_of c.args.term c.args.table c.args.key c.args.self.now.noted))
    (ap (λ notes. notes.durable) c.self.view_is)
    ∙ sym (highs_of-take c.args.term c.args.table c.args.key c.args.self.now.noted c.args.self.now.durable)
