-- What is said again of one segment.
use Rattle.std.specs.Prelude.{ℕ, not, ◌&&◌, if◌then◌else◌, List, [], ◌∷◌, map}
use Rattle.rc_types.specs.declared.ids.ServerId.{ServerId}
use Rattle.rc_types.specs.declared.messages.Message.{Message}
use Rattle.rc_types.specs.declared.messages.Body.TheVariants.{Commit, Recovered}
use Rattle.rc_model.specs.Messages.{to_coordinator}
use Rattle.rc_model.specs.Log.{Log}
use Rattle.rc_model.specs.Master.{Task}
use Rattle.rc_model.specs.FollowUps.{attempt_of}
use Rattle.rc_model.specs.MasterTick.{standing, to_remind, reminds_members, reminds_shut_members, awaits_commit}

-- to the members of an open segment
abbrev pub reminds_if_open : Log → Log → ℕ → List Message
reminds_if_open before log seg =
    if (log.segments seg).shut then [] else reminds_members log seg (to_remind before log seg)

-- to the members of a shut segment, unless it was freed
abbrev pub reminds_if_shut : Log → Log → ℕ → List Message
reminds_if_shut before log seg =
    if (log.segments seg).shut && not (log.segments seg).freed
    then reminds_shut_members log seg (standing before log seg) else []

-- the Commit of a segment, where one was sent and not answered
abbrev pub commit_again : Log → ℕ → List Message
commit_again log seg =
    if awaits_commit (log.segments seg) then to_coordinator log.own (Commit seg (log.segments seg).config.epoch) ∷ []
    else []

-- the parts of these terms are durable
abbrev pub recovered_of : ServerId → List Task → List ℕ → List Message
recovered_of own tasks terms = map (λ term. to_coordinator own (Recovered (attempt_of term tasks) term)) terms
