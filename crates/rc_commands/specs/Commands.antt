-- The program's commands and their options, as `clap` reads them.
use Rattle.std.specs.Prelude.{◌≡◌, true, false, codes, Some}
use Rattle.clap.specs.Walk.{Rule, Text}
use Rattle.clap.specs.Simple.{App, app_of, new_app, new_rule, on_top, with_rule, with_subcommand}
use Rattle.clap.specs.declared.builder.action.ArgAction.TheVariants.{SetTrue}
use Rattle.clap.specs.declared.builder.command.Command.{Command}
use Rattle.clap.specs.declared.builder.command.Command.TheViews.{out-Command}

-- `--NAME VALUE`
abbrev pub option : Text → Rule
option name = record (new_rule name) { long = Some name; value_names = 1 }

-- `--NAME`
abbrev pub flag : Text → Rule
flag name = record (new_rule name) { long = Some name; action = Some SetTrue }

abbrev pub run : App
run = with_rule (new_app (codes "run")) (option (codes "heap"))

abbrev pub trace : App
trace = new_app (codes "trace")

abbrev pub audit : App
audit = new_app (codes "audit")

-- a command that draws events, with the options of its drawing
abbrev pub drawn : Text → App
drawn name = with_rule (with_rule (new_app name) (option (codes "seed"))) (option (codes "steps"))

abbrev pub fuzz : App
fuzz = with_rule (drawn (codes "fuzz")) (flag (codes "free"))

-- `stops` with hosts and replicas, then with the size of segments too
abbrev pub stops_placed : App
stops_placed = with_rule (with_rule (drawn (codes "stops")) (option (codes "hosts"))) (option (codes "factor"))

abbrev pub stops_sized : App
stops_sized = with_rule stops_placed (option (codes "segment"))

abbrev pub stops : App
stops = with_rule (with_rule stops_sized (flag (codes "free"))) (flag (codes "explored"))

abbrev pub threads : App
threads = with_rule (with_rule (new_app (codes "threads")) (option (codes "hosts"))) (option (codes "writes"))

-- `explore` with hosts and replicas, then with the size of segments too
abbrev pub explore_placed : App
explore_placed = with_rule (with_rule (drawn (codes "explore")) (option (codes "hosts"))) (option (codes "factor"))

abbrev pub explore_sized : App
explore_sized = with_rule explore_placed (option (codes "segment"))

abbrev pub explore_flagged : App
explore_flagged = with_rule (with_rule explore_sized (flag (codes "free"))) (flag (codes "save"))

abbrev pub explore : App
explore = with_rule (with_rule (with_rule explore_flagged (option (codes "seeds"))) (flag (codes "progress")))
    (option (codes "until"))

abbrev pub shrink : App
shrink = with_rule (new_app (codes "shrink")) (option (codes "keep"))

abbrev pub log : App
log = with_rule (new_app (codes "log")) (flag (codes "json"))

abbrev pub heal : App
heal = with_rule (new_app (codes "heal")) (flag (codes "power-cycle"))

abbrev pub history : App
history = new_app (codes "history")

abbrev pub check : App
check = new_app (codes "check")

abbrev pub alone : App
alone = on_top (λ top. record top { has_version = true; no_binary_name = true; subcommand_required = true })
    (new_app (codes "ramseg"))

-- with the commands that read, then with those up to `threads` too
abbrev pub reading : App
reading = with_subcommand (with_subcommand (with_subcommand (with_subcommand alone run.top) trace.top) audit.top)
    log.top

abbrev pub running : App
running = with_subcommand (with_subcommand (with_subcommand reading fuzz.top) stops.top) threads.top

abbrev pub ramseg : App
ramseg = with_subcommand (with_subcommand (with_subcommand (with_subcommand (with_subcommand running explore.top)
    shrink.top) heal.top) history.top) check.top

-- a command that is built so, and has no option for its subcommands
abbrev pub IsBuiltAs : App → Command → Type 0
IsBuiltAs app command = (app_of command ≡ app) × ((out-Command command).has_globals ≡ false)
