use Rattle.std.proofs.Common.{sym, ap, ◌∙◌, rules, tests}
use Rattle.std.specs.Prelude.{nat_eq}
use Rattle.std.proofs.lemmas.Iterator.{YieldsList-from_slice}
use Rattle.std.proofs.lemmas.Iterator.Search.{any_from_yields_List}
use Rattle.rc_types.specs.Names.{number_of}
use Rattle.rc_wire.specs.SeatView.{SeatData}
use Rattle.rc_wire.specs.declared.steps.Step.{Step}
use Rattle.rc_wire.specs.Ends.{is_seated}
use Rattle.rc_wire.proofs.nodes.is_seated.Goals as goal

pub returns-in-Do : goal.returns-in-Do
returns-in-Do g c =
    any_from_yields_List (λ (seat : SeatData). nat_eq (number_of seat.name) (number_of c.in-Do.name)) _ _ _ c.any.ensures.ran
    (YieldsList-from_slice c.args.seats.now cc) (λ x b q k. search (rules, tests))
    ∙ ap (λ (s : Step). is_seated c.args.seats.now s) (sym c.in-Do.is)
