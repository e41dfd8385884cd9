-- What is told of a part that is complete.
use Rattle.std.specs.Prelude.{ℕ, List, [], ◌∷◌, Option, Some, None}
use Rattle.rc_types.specs.declared.ids.ServerId.{ServerId}
use Rattle.rc_types.specs.declared.messages.Message.{Message}
use Rattle.rc_types.specs.declared.messages.Body.TheVariants.{Recovered}
use Rattle.rc_model.specs.Messages.{to_coordinator}
use Rattle.rc_model.specs.Master.{Task}
use Rattle.rc_model.specs.FollowUps.{attempt_of}

-- the part of this term is durable, where there is one
abbrev pub told_of : ServerId → List Task → Option ℕ → List Message
told_of own tasks None = []
told_of own tasks (Some term) = to_coordinator own (Recovered (attempt_of term tasks) term) ∷ []
