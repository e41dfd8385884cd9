-- Rules that may not apply, and the rules until none applies.
use Rattle.std.specs.Prelude.{Bool, true, false, if◌then◌else◌, List, [], ◌∷◌, Option, Some, None}
use Rattle.std.specs.Option.{option_or}
use Rattle.rc_types.specs.declared.messages.Message.{Message}
use Rattle.rc_types.specs.declared.messages.Body.TheVariants.{Ready}
use Rattle.rc_types.specs.declared.kept.Phase.{Phase}
use Rattle.rc_types.specs.declared.kept.Phase.TheVariants.{Opening, Closing, Writing}
use Rattle.rc_model.specs.Messages.{to_coordinator}
use Rattle.rc_model.specs.Log.{Log, is_writing}
use Rattle.rc_model.specs.Heads.{begin_roll, left_out}
use Rattle.rc_model.specs.Master.{Master, dead_segments}
use Rattle.rc_model.specs.FollowUps.{follows_start, follows_placed, follows_shut, frees_segments, follows_change}
use Rattle.rc_model.specs.FollowUps.{follows_stored, rolls_for_replay, follows_data, follows_replay, followed, enough}
use Rattle.rc_master.specs.declared.following.Rule.{Rule}
use Rattle.rc_master.specs.declared.following.Rule.TheVariants as rule

-- the rule applied
abbrev pub did : Option (Master × List Message) → Bool
did None = false
did (Some done) = true

-- what the rule did; where it doesn't apply, nothing
abbrev pub or_still : Master → Option (Master × List Message) → Master × List Message
or_still master None = (master, [])
or_still master (Some done) = done

-- the phase goes on, by the first, the second or the fourth rule: the first of them that applies
abbrev pub follows_phase : Master → Option (Master × List Message)
follows_phase master = option_or (follows_start master) (option_or (follows_placed master) (follows_shut master))

-- the rules after that of the phase
abbrev pub follows_rest : Master → Option (Master × List Message)
follows_rest master =
    option_or (follows_change master) (option_or (follows_stored master) (option_or (follows_data master)
    (follows_replay master)))

-- what a master tells once the phase has gone on: that it is ready, where the first head writes ..
abbrev pub tells_ready : Log → List Message
tells_ready log = if is_writing log.phase then to_coordinator log.own Ready ∷ [] else []

-- .. and by the phase that the log was in
abbrev pub tells_phase : Phase → Log → List Message
tells_phase Opening log = tells_ready log
tells_phase Closing log = frees_segments log (left_out log)
tells_phase Writing log = []

-- what the rule does, where it applies
abbrev pub does : Rule → Master → Option (Master × List Message)
does rule.Change master = follows_change master
does rule.Stored master = follows_stored master
does rule.Data master = follows_data master
does rule.Replay master = follows_replay master

-- the first of these rules that applies
abbrev pub first_of : List Rule → Master → Option (Master × List Message)
first_of [] master = None
first_of (one ∷ rules) master = option_or (does one master) (first_of rules master)

-- what a full head means to a replay
abbrev pub full_replays : Master → Option (Master × List Message)
full_replays master = rolls_for_replay master (begin_roll master.known (dead_segments master) master.log)

-- the rules, until none applies
abbrev pub settled : Master → Master × List Message
settled master = followed (enough master) master
