-- Each kind of message as its bytes, and how these are read. `docs/BYTES.md` has the same in prose.
use Rattle.std.specs.Prelude.{ℕ, List, [], ◌∷◌, ◌++◌}
use Rattle.rc_types.specs.declared.messages.Message.{Message}
use Rattle.rc_types.specs.declared.messages.Body.{Body}
use Rattle.rc_types.specs.declared.messages.Body.TheVariants as body
use Rattle.rc_codec.specs.Parts.{two_bytes, four_bytes, eight_bytes, flag, listed}
use Rattle.rc_codec.specs.Reading.{Reader, made, ◌⊗◌, nothing_at, three, four, five, six, flag_at, listed_at}
use Rattle.rc_codec.specs.Fields.{u16_at, u32_at, u64_at, chosen_at, id_code, id_at, addr_code, addr_at, refusal_code}
use Rattle.rc_codec.specs.Fields.{refusal_at, value_code, value_at, entry_code, entry_at, row_code, row_at}
use Rattle.rc_codec.specs.Fields.{plan_row_code, plan_row_at, range_code, range_at, part_code, part_at, up_code}
use Rattle.rc_codec.specs.Fields.{up_at}

-- the kind in one byte, and the fields in their order; but a Plan's head comes after its master
abbrev pub body_code : Body → List ℕ
body_code (body.Write table key value) = 0 ∷ four_bytes table ++ eight_bytes key ++ value_code value
body_code (body.Read table key) = 1 ∷ four_bytes table ++ eight_bytes key
body_code (body.WriteOk seg offset term table key version) =
    2 ∷ two_bytes seg ++ eight_bytes offset ++ four_bytes term ++ four_bytes table ++ eight_bytes key
    ++ eight_bytes version
body_code (body.ReadOk table key version value) =
    3 ∷ four_bytes table ++ eight_bytes key ++ eight_bytes version ++ value_code value
body_code (body.Refused code) = 4 ∷ refusal_code code
body_code (body.Place seg epoch digest entries closed) =
    5 ∷ two_bytes seg ++ two_bytes epoch ++ listed two_bytes digest ++ listed entry_code entries ++ flag closed
body_code (body.Append seg offset entries) = 6 ∷ two_bytes seg ++ eight_bytes offset ++ listed entry_code entries
body_code (body.Close seg len) = 7 ∷ two_bytes seg ++ eight_bytes len
body_code (body.Stored seg epoch len closed) = 8 ∷ two_bytes seg ++ two_bytes epoch ++ eight_bytes len ++ flag closed
body_code (body.Commit seg epoch) = 9 ∷ two_bytes seg ++ two_bytes epoch
body_code (body.CommitOk seg epoch) = 10 ∷ two_bytes seg ++ two_bytes epoch
body_code body.Enlist = 11 ∷ []
body_code body.Ready = 12 ∷ []
body_code (body.List version rows) = 13 ∷ four_bytes version ++ listed up_code rows
body_code (body.Gather attempt master) = 14 ∷ four_bytes attempt ++ id_code master
body_code (body.Replicas attempt rows) = 15 ∷ four_bytes attempt ++ listed row_code rows
body_code (body.Plan head attempt master rows parts) =
    16 ∷ four_bytes attempt ++ id_code master ++ two_bytes head ++ listed plan_row_code rows ++ listed part_code parts
body_code (body.Fetch attempt master seg len part) =
    17 ∷ four_bytes attempt ++ id_code master ++ two_bytes seg ++ eight_bytes len ++ part_code part
body_code (body.Data attempt seg term entries) =
    18 ∷ four_bytes attempt ++ two_bytes seg ++ four_bytes term ++ listed entry_code entries
body_code (body.Recovered attempt term) = 19 ∷ four_bytes attempt ++ four_bytes term
body_code (body.Own range term previous attempt) =
    20 ∷ range_code range ++ four_bytes term ++ four_bytes previous ++ four_bytes attempt
body_code (body.SplitOk table at) = 21 ∷ four_bytes table ++ eight_bytes at
body_code (body.Free seg) = 22 ∷ two_bytes seg

abbrev pub write_at : Reader Body
write_at = made (three u32_at u64_at value_at) (λ p. body.Write p.0 p.1 p.2)

abbrev pub read_at : Reader Body
read_at = made (u32_at ⊗ u64_at) (λ p. body.Read p.0 p.1)

abbrev pub write_ok_at : Reader Body
write_ok_at = made (six u16_at u64_at u32_at u32_at u64_at u64_at) (λ p. body.WriteOk p.0 p.1 p.2 p.3 p.4 p.5)

abbrev pub read_ok_at : Reader Body
read_ok_at = made (four u32_at u64_at u64_at value_at) (λ p. body.ReadOk p.0 p.1 p.2 p.3)

abbrev pub refused_at : Reader Body
refused_at = made refusal_at body.Refused

abbrev pub place_at : Reader Body
place_at = made (five u16_at u16_at (listed_at u16_at) (listed_at entry_at) flag_at)
    (λ p. body.Place p.0 p.1 p.2 p.3 p.4)

abbrev pub append_at : Reader Body
append_at = made (three u16_at u64_at (listed_at entry_at)) (λ p. body.Append p.0 p.1 p.2)

abbrev pub close_at : Reader Body
close_at = made (u16_at ⊗ u64_at) (λ p. body.Close p.0 p.1)

abbrev pub stored_at : Reader Body
stored_at = made (four u16_at u16_at u64_at flag_at) (λ p. body.Stored p.0 p.1 p.2 p.3)

abbrev pub commit_at : Reader Body
commit_at = made (u16_at ⊗ u16_at) (λ p. body.Commit p.0 p.1)

abbrev pub commit_ok_at : Reader Body
commit_ok_at = made (u16_at ⊗ u16_at) (λ p. body.CommitOk p.0 p.1)

abbrev pub list_at : Reader Body
list_at = made (u32_at ⊗ listed_at up_at) (λ p. body.List p.0 p.1)

abbrev pub gather_at : Reader Body
gather_at = made (u32_at ⊗ id_at) (λ p. body.Gather p.0 p.1)

abbrev pub replicas_at : Reader Body
replicas_at = made (u32_at ⊗ listed_at row_at) (λ p. body.Replicas p.0 p.1)

abbrev pub plan_at : Reader Body
plan_at = made (five u32_at id_at u16_at (listed_at plan_row_at) (listed_at part_at))
    (λ p. body.Plan p.2 p.0 p.1 p.3 p.4)

abbrev pub fetch_at : Reader Body
fetch_at = made (five u32_at id_at u16_at u64_at part_at) (λ p. body.Fetch p.0 p.1 p.2 p.3 p.4)

abbrev pub data_at : Reader Body
data_at = made (four u32_at u16_at u32_at (listed_at entry_at)) (λ p. body.Data p.0 p.1 p.2 p.3)

abbrev pub recovered_at : Reader Body
recovered_at = made (u32_at ⊗ u32_at) (λ p. body.Recovered p.0 p.1)

abbrev pub own_at : Reader Body
own_at = made (four range_at u32_at u32_at u32_at) (λ p. body.Own p.0 p.1 p.2 p.3)

abbrev pub split_ok_at : Reader Body
split_ok_at = made (u32_at ⊗ u64_at) (λ p. body.SplitOk p.0 p.1)

abbrev pub free_at : Reader Body
free_at = made u16_at body.Free

abbrev pub bodies : List (Reader Body)
bodies = write_at ∷ read_at ∷ write_ok_at ∷ read_ok_at ∷ refused_at ∷ place_at ∷ append_at ∷ close_at ∷ stored_at
    ∷ commit_at ∷ commit_ok_at
    ∷ made nothing_at (λ _. body.Enlist) ∷ made nothing_at (λ _. body.Ready) ∷ list_at ∷ gather_at ∷ replicas_at
    ∷ plan_at ∷ fetch_at ∷ data_at
    ∷ recovered_at ∷ own_at ∷ split_ok_at ∷ free_at ∷ []

unfoldable pub body_at : Reader Body
body_at = chosen_at bodies

abbrev pub message_code : Message → List ℕ
message_code m = addr_code m.from ++ addr_code m.to ++ body_code m.body

abbrev pub message_at : Reader Message
message_at = made (three addr_at addr_at body_at) (λ p. record { from = p.0; to = p.1; body = p.2 })

-- what is written as a whole: the version of the format, 1, and then the message or the event
abbrev pub coded_message : Message → List ℕ
coded_message m = 1 ∷ message_code m
