use Rattle.std.proofs.Common.{◌≡◌, ◌∙◌, Err, subst}
use Rattle.rc_sim.specs.declared.verdicts.SimFault.TheVariants.{Memory}
use Rattle.rc_sim.specs.Statuses.{Answered, ComesOf}
use Rattle.rc_sim.proofs.Closings.{keeps_same}
use Rattle.rc_sim.proofs.Commands.{command_is}
use Rattle.rc_sim.proofs.commanding.command.Goals as goal

pub returns-in-Ok-clause-does : goal.returns-in-Ok-clause-does
returns-in-Ok-clause-does g c asked same =
    let done = c.done-outcome in
    let input = g.R.Read.remaining c.args.reader.now.inner in
    let old = g.W.Write.contents c.args.writer.now.inner in
    let new = g.W.Write.contents done.new.writer.inner in
    let is : c.in-Ok.asked ≡ asked = command_is c.in-Ok.asked asked (c.in-Ok.ensures.command ∙ same) in (
      done.result,
      c.ended.ensures,
      subst (λ command. Answered (ComesOf command) done.result input old new) is done.ensures.answered,
    )

pub returns-in-Err-clause-does : goal.returns-in-Err-clause-does
returns-in-Err-clause-does g c command same = (Err Memory, c.failed.ensures, keeps_same (g.W.Write.contents c.args.writer.now.inner))
