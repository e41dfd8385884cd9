use Rattle.std.proofs.Common.{◌≡◌, Some, sym, ap, ◌∙◌}
use Rattle.std.specs.Option.{option_copied}
use Rattle.rc_attempts.specs.Lookups.{attempt_of}
use Rattle.rc_coordinator.proofs.AskedLemmas.{attempt_of-there}
use Rattle.rc_coordinator.proofs.state.State.choose.Goals as goal

pub returns-clause-place : goal.returns-clause-place
returns-clause-place g c =
    let attempts = c.args.self.now.recoveries.attempts in
    let is : attempt_of attempts c.current_number-number.result ≡ Some c.in-Some.attempt.now =
    sym c.attempt.ensures ∙ ap option_copied c.in-Some.is in
    let there = attempt_of-there attempts c.current_number-number.result c.in-Some.attempt.now is in (there.0, there.1)
