-- The program's commands as a table, by their names.
use Rattle.std.proofs.Common.{List, [], ◌∷◌, codes}
use Rattle.clap.specs.Walk.{Text}
use Rattle.clap.specs.Simple.{Shape}
use Rattle.rc_commands.specs.Commands as command

pub data Command : Type 0 where
  run : Command
  trace : Command
  audit : Command
  fuzz : Command
  stops : Command
  threads : Command
  explore : Command
  log : Command
  shrink : Command
  heal : Command
  history : Command
  check : Command

abbrev pub commands : List Command
commands =
    run ∷ trace ∷ audit ∷ fuzz ∷ stops ∷ threads ∷ explore ∷ log ∷ shrink ∷ heal ∷ history ∷ check ∷ []

abbrev pub name_of : Command → Text
name_of run = codes "run"
name_of trace = codes "trace"
name_of audit = codes "audit"
name_of fuzz = codes "fuzz"
name_of stops = codes "stops"
name_of threads = codes "threads"
name_of explore = codes "explore"
name_of log = codes "log"
name_of shrink = codes "shrink"
name_of heal = codes "heal"
name_of history = codes "history"
name_of check = codes "check"

abbrev pub shape_of : Command → Shape
shape_of run = command.run.top
shape_of trace = command.trace.top
shape_of audit = command.audit.top
shape_of fuzz = command.fuzz.top
shape_of stops = command.stops.top
shape_of threads = command.threads.top
shape_of explore = command.explore.top
shape_of log = command.log.top
shape_of shrink = command.shrink.top
shape_of heal = command.heal.top
shape_of history = command.history.top
shape_of check = command.check.top
