-- Who the members of a segment are, by the messages alone.
use Rattle.std.specs.Prelude.{◌↔◌, ℕ, List}
use Rattle.rc_types.specs.declared.ids.ServerId.{ServerId}
use Rattle.rc_types.specs.declared.messages.Message.{Message}
use Rattle.rc_model.specs.Made.{members_of}
use Rattle.rc_model.specs.Headline.{In}
use Rattle.rc_step_laws.specs.Words.{IsMember}

-- the members of a segment under an epoch are to whom its master has sent a proper Place of it under this epoch
abbrev pub MembersWerePlaced : Type 0
MembersWerePlaced = (sent : List Message) (m x : ServerId) (s e : ℕ) →
    In x (members_of sent m s e) ↔ IsMember sent m s e x
