-- The report of a list of messages, to the byte: a line for each message of certain kinds, counts, and the audit's
-- answer.
use Rattle.std.specs.Prelude.{ℕ, ◌+◌, List, [], ◌∷◌, ◌++◌, length, codes, Option, Some, None}
use Rattle.std.specs.Fmt.{decimal}
use Rattle.rc_types.specs.declared.ids.ServerId.{ServerId}
use Rattle.rc_types.specs.declared.rows.PlanRow.{PlanRow}
use Rattle.rc_types.specs.declared.messages.Message.{Message}
use Rattle.rc_types.specs.declared.messages.Body.{Body}
use Rattle.rc_types.specs.declared.messages.Body.TheVariants.{WriteOk, ReadOk, Refused, Plan, Own, SplitOk}
use Rattle.rc_types.specs.declared.verdicts.Breach.{Breach}
use Rattle.rc_types.specs.declared.verdicts.Breach.TheVariants.{Missing, Invented, Version}
use Rattle.rc_types.specs.Texts.{id_text, addr_text}
use Rattle.rc_types.specs.Codes.{code_number}
use Rattle.rc_model.specs.Breach.{breach}

-- a word, and the number or the id after it
abbrev pub then_number : List ℕ → ℕ → List ℕ
then_number word n = word ++ decimal n

abbrev pub line_feed : List ℕ
line_feed = 10 ∷ []

-- a plan's rows: a space, and then segment:holder:length
abbrev pub rows_text : List PlanRow → List ℕ
rows_text [] = []
rows_text (row ∷ rows) = codes " " ++ decimal row.seg ++ codes ":" ++ id_text row.holder ++ codes ":" ++
    decimal row.len ++ rows_text rows

-- the line of a message; the sender's and the addressee's texts come first
abbrev pub body_line : List ℕ → List ℕ → Body → List ℕ
body_line from to (WriteOk seg offset term table key version) =
    codes "ack " ++ from ++ then_number (codes " seg ") seg ++ then_number (codes " at ") offset ++
    then_number (codes " term ") term
    ++ then_number (codes " table ") table ++ then_number (codes " key ") key ++ then_number (codes " version ")
    version ++ line_feed
body_line from to (ReadOk table key version value) =
    codes "read " ++ from ++ then_number (codes " table ") table ++ then_number (codes " key ") key ++
    then_number (codes " version ") version ++ line_feed
body_line from to (Refused code) =
    then_number (codes "refused ") (code_number code) ++ codes " from " ++ from ++ codes " to " ++ to ++ line_feed
body_line from to (Plan head attempt master rows parts) =
    then_number (codes "plan ") attempt ++ codes " of " ++ id_text master ++ codes " to " ++ to ++
    then_number (codes " head ") head
    ++ codes " rows" ++ rows_text rows ++ line_feed
body_line from to (Own range term previous attempt) =
    codes "own " ++ to ++ then_number (codes " term ") term ++ then_number (codes " table ") range.table ++
    then_number (codes " from ") range.lo
    ++ then_number (codes " to ") range.hi ++ then_number (codes " after ") previous ++ then_number (codes " attempt ")
    attempt ++ line_feed
body_line from to (SplitOk table at) =
    then_number (codes "split table ") table ++ then_number (codes " at ") at ++ line_feed
body_line from to _ = []

abbrev pub message_line : Message → List ℕ
message_line message = body_line (addr_text message.from) (addr_text message.to) message.body

abbrev pub message_lines : List Message → List ℕ
message_lines [] = []
message_lines (message ∷ sent) = message_line message ++ message_lines sent

-- how many messages of these kinds there are
abbrev pub counts_ack : Body → ℕ
counts_ack (WriteOk seg offset term table key version) = 1
counts_ack _ = 0

abbrev pub counts_refused : Body → ℕ
counts_refused (Refused code) = 1
counts_refused _ = 0

abbrev pub counts_plan : Body → ℕ
counts_plan (Plan head attempt master rows parts) = 1
counts_plan _ = 0

abbrev pub counts_grant : Body → ℕ
counts_grant (Own range term previous attempt) = 1
counts_grant _ = 0

abbrev pub count_of : (Body → ℕ) → List Message → ℕ
count_of counts [] = 0
count_of counts (message ∷ sent) = counts message.body + count_of counts sent

-- a word, a number and a line feed
abbrev pub count_line : List ℕ → ℕ → List ℕ
count_line word n = then_number word n ++ line_feed

abbrev pub counts_text : List Message → List ℕ
counts_text sent =
    count_line (codes "messages ") (length sent) ++ count_line (codes "acknowledged ") (count_of counts_ack sent)
    ++ count_line (codes "refused ") (count_of counts_refused sent) ++
    count_line (codes "plans ") (count_of counts_plan sent)
    ++ count_line (codes "grants ") (count_of counts_grant sent)

-- a place of a recovered log
abbrev pub place_text : ℕ → ServerId → ℕ → ℕ → List ℕ
place_text attempt master seg offset =
    then_number (codes " attempt ") attempt ++ codes " of " ++ id_text master ++ then_number (codes " seg ") seg ++
    then_number (codes " at ") offset

abbrev pub verdict_text : Option Breach → List ℕ
verdict_text None = codes "clean"
verdict_text (Some (Missing attempt master seg offset)) = codes "breach missing" ++ place_text attempt master seg offset
verdict_text (Some (Invented attempt master seg offset)) =
    codes "breach invented" ++ place_text attempt master seg offset
verdict_text (Some (Version table key earlier_term earlier_version later_term later_version)) =
    codes "breach version" ++ then_number (codes " table ") table ++ then_number (codes " key ") key ++
    then_number (codes " term ") earlier_term
    ++ then_number (codes " version ") earlier_version ++ then_number (codes " term ") later_term ++
    then_number (codes " version ") later_version

abbrev pub audit_line : Option Breach → List ℕ
audit_line found = codes "audit " ++ verdict_text found ++ line_feed

-- the report
abbrev pub report : List Message → List ℕ
report sent = message_lines sent ++ counts_text sent ++ audit_line (breach sent)
