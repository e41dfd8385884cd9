-- Acknowledged writes, as a judge reads them.
use Rattle.std.specs.Prelude.{if◌then◌else◌, List, [], ◌∷◌, Option, Some, None}
use Rattle.rc_types.specs.declared.ids.ServerId.{ServerId}
use Rattle.rc_types.specs.declared.messages.Message.{Message}
use Rattle.rc_model.specs.Ids.{same_id, is_server}
use Rattle.rc_model.specs.Recovered.{Ack, ack_in}
use Rattle.rc_audit.specs.declared.writes.AckedWrite.{AckedWrite}

-- the acknowledged write, as the definitions know it
abbrev pub ack_of : AckedWrite → Ack
ack_of write = record {
  seg = write.seg;
  offset = write.offset;
  term = write.term;
  table = write.table;
  key = write.key;
  version = write.version;
}

-- the write that this message acknowledges for this master
abbrev pub acks_from : Message → ServerId → List Ack
acks_from message m = if is_server m message.from then ack_in message.body else []

-- the write, if there is one and this master is its own
abbrev pub acks_by : Option (ServerId × AckedWrite) → ServerId → List Ack
acks_by None m = []
acks_by (Some acked) m = if same_id m acked.0 then ack_of acked.1 ∷ [] else []
