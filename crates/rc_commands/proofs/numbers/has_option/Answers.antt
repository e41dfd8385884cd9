use Rattle.std.proofs.Common.{Some, None, true, false, sym}
use Rattle.clap.specs.Words.{found_of}
use Rattle.rc_commands.proofs.Decimals.{as_given}
use Rattle.rc_commands.proofs.numbers.has_option.Goals as goal

pub returns-in-Some : goal.returns-in-Some
returns-in-Some c = sym (as_given (λ _. true) false (found_of c.args.given.now) c.args.name.now
    (Some c.in-Some.field-0) c.in-Some.ensures)

pub returns-in-None : goal.returns-in-None
returns-in-None c = sym (as_given (λ _. true) false (found_of c.args.given.now) c.args.name.now None c.in-None.ensures)
