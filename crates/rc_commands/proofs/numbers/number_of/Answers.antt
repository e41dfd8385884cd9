use Rattle.std.proofs.Common.{◌∙◌, ℕ, Option, Some, None, ap, sym}
use Rattle.std.specs.Prelude.{option_map}
use Rattle.clap.specs.Walk.{Text}
use Rattle.rc_commands.specs.Numbers.{decimal_in}
use Rattle.clap.specs.Words.{found_of}
use Rattle.rc_commands.proofs.Decimals.{as_given}
use Rattle.rc_commands.proofs.numbers.number_of.Goals as goal

abbrev read : ℕ → ℕ → Text → Option (Option ℕ)
read least most text = option_map Some (decimal_in least most text)

pub returns-in_default-clause-number : goal.returns-in_default-clause-number
returns-in_default-clause-number c = as_given (read c.args.least c.args.most) (Some None) (found_of c.args.given.now)
    c.args.option.now None c.in_default.ensures

pub returns-in-Some-number_in-clause-number : goal.returns-in-Some-number_in-clause-number
returns-in-Some-number_in-clause-number c =
    as_given (read c.args.least c.args.most) (Some None) (found_of c.args.given.now) c.args.option.now
    (Some c.in-Some.text) c.in-Some.ensures
    ∙ ap (option_map Some) (sym c.in-Some-number_in.ensures.number)

pub returns-in-None-clause-number : goal.returns-in-None-clause-number
returns-in-None-clause-number c =
    as_given (read c.args.least c.args.most) (Some None) (found_of c.args.given.now) c.args.option.now
    (Some c.in-Some.text) c.in-Some.ensures
    ∙ ap (option_map Some) (sym c.in-None.ensures.number)
