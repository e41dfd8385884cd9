-- The messages of each server.
use Rattle.std.specs.Prelude.{◌≡◌, if◌then◌else◌, List, [], ◌∷◌, ◌++◌, Option, Some, None, map}
use Rattle.std.specs.BTreeMap.{BTreeMap, get}
use Rattle.rc_types.specs.declared.ids.ServerId.{ServerId}
use Rattle.rc_types.specs.declared.messages.Message.{Message}
use Rattle.rc_model.specs.Ids.{same_id, is_server}
use Rattle.rc_audit.specs.declared.senders.Sent.{Sent}
use Rattle.rc_audit.specs.Places.{id_order}

-- the messages of one server, in order
abbrev pub sent_by : ServerId → List Message → List Message
sent_by m [] = []
sent_by m (message ∷ sent) = if is_server m message.from then message ∷ sent_by m sent else sent_by m sent

-- the messages that are lent
abbrev pub messages_in : Sent → List Message
messages_in sent = map (λ message. message.now) sent.messages.items

abbrev pub messages_by : Option Sent → List Message
messages_by None = []
messages_by (Some sent) = messages_in sent

abbrev pub sent_at : BTreeMap ServerId Sent → ServerId → List Message
sent_at senders m = messages_by (get id_order senders m)

-- the new table has one more message of one server, and of the others what the old one has
pub record NotesSender (old new : BTreeMap ServerId Sent) (master : ServerId) (message : Message) : Type 0 where
  pub each : (m : ServerId) →
      sent_at new m ≡ (if same_id master m then sent_at old master ++ message ∷ [] else sent_at old m)

-- the message, where this server has sent it
abbrev pub from_by : ServerId → Message → List Message
from_by m message = if is_server m message.from then message ∷ [] else []

-- the new table has one more message
pub record AddsMessage (old new : BTreeMap ServerId Sent) (message : Message) : Type 0 where
  pub each : (m : ServerId) → sent_at new m ≡ sent_at old m ++ from_by m message

-- the table has the messages of every server
pub record AreSenders (senders : BTreeMap ServerId Sent) (sent : List Message) : Type 0 where
  pub each : (m : ServerId) → sent_at senders m ≡ sent_by m sent
