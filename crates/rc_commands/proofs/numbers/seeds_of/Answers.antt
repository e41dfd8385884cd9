use Rattle.std.proofs.Common.{◌∙◌, ℕ, Option, Some, None, ap, codes, sym}
use Rattle.std.specs.Prelude.{option_map}
use Rattle.clap.specs.Walk.{Text}
use Rattle.clap.specs.Words.{found_of}
use Rattle.rc_commands.specs.Asking.{range_in}
use Rattle.rc_commands.proofs.Decimals.{as_given}
use Rattle.rc_commands.proofs.numbers.seeds_of.Goals as goal

abbrev read : Text → Option (Option (ℕ × ℕ))
read text = option_map Some (range_in text)

pub returns-in_default-clause-number : goal.returns-in_default-clause-number
returns-in_default-clause-number c = as_given read (Some None) (found_of c.args.given.now) (codes "seeds") None c.in_default.ensures

pub returns-in-Some-range_in-clause-number : goal.returns-in-Some-range_in-clause-number
returns-in-Some-range_in-clause-number c =
    as_given read (Some None) (found_of c.args.given.now) (codes "seeds") (Some c.in-Some.text) c.in-Some.ensures
    ∙ ap (option_map Some) (sym c.in-Some-range_in.ensures.number)

pub returns-in-None-clause-number : goal.returns-in-None-clause-number
returns-in-None-clause-number c =
    as_given read (Some None) (found_of c.args.given.now) (codes "seeds") (Some c.in-Some.text) c.in-Some.ensures
    ∙ ap (option_map Some) (sym c.in-None.ensures.number)
