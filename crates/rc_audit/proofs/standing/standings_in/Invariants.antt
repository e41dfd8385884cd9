use Rattle.std.proofs.Common.{take}
use Rattle.rc_model.specs.Recovered.{acknowledged}
use Rattle.rc_audit.specs.Standings.{StandsFor}
use Rattle.rc_audit.proofs.standing.standings_in.Given as goal

-- the standings for the messages so far
abbrev pub invariant-loop-message : goal.invariant-loop-message
invariant-loop-message l = StandsFor l.standings l.evidence.messages.now (acknowledged (take l.message-index l.message-items))
