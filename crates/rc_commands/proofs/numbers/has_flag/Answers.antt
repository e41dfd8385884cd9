use Rattle.std.proofs.Common.{◌∙◌, Some, None, false, codes, sym}
use Rattle.std.specs.Str.{bytes_eq}
use Rattle.clap.specs.Words.{found_of}
use Rattle.rc_commands.proofs.Decimals.{as_given}
use Rattle.rc_commands.proofs.numbers.has_flag.Goals as goal

pub returns-in-Some : goal.returns-in-Some
returns-in-Some c = c.eq.ensures ∙
    sym (as_given (λ text. bytes_eq text (codes "true")) false (found_of c.args.given.now) c.args.name.now
    (Some c.in-Some.text) c.in-Some.ensures)

pub returns-in-None : goal.returns-in-None
returns-in-None c = sym (as_given (λ text. bytes_eq text (codes "true")) false (found_of c.args.given.now)
    c.args.name.now None c.in-None.ensures)
