-- A trace has whole numbers only.
use Rattle.std.proofs.Common.{◌≡◌, ℕ, Bool, false, ◌||◌, List, [], ◌∷◌, ◌++◌, map, Option, Some, None, refl, ap, ◌∙◌}
use Rattle.rc_types.specs.declared.ids.ServerId.{ServerId}
use Rattle.rc_types.specs.declared.ids.Addr.{Addr}
use Rattle.rc_types.specs.declared.ids.Addr.TheVariants.{Server, Coordinator, Outside}
use Rattle.rc_types.specs.declared.entries.Entry.{Entry}
use Rattle.rc_types.specs.declared.rows.KeyRange.{KeyRange}
use Rattle.rc_types.specs.declared.rows.PlanRow.{PlanRow}
use Rattle.rc_types.specs.declared.messages.Message.{Message}
use Rattle.rc_types.specs.declared.messages.Body.{Body}
use Rattle.rc_types.specs.declared.messages.Body.TheVariants.{Place, Append, Plan, Own}
use Rattle.serde_json.specs.Data.{Data as Json}
use Rattle.std.specs.Option.{option_to_list}
use Rattle.serde_json.specs.View.{items_of}
use Rattle.serde_json.specs.Written.{has_float, items_have_float}
use Rattle.rc_traces.specs.Written.{value_data, entry_data, row_data, sent_data, grant_in, sent_from, body_data}
use Rattle.rc_traces.specs.Written.{message_data, messages_data, trace_data}

value_none : (value : Option (List ℕ)) → has_float (value_data value) ≡ false
value_none None = refl
value_none (Some bytes) = refl

entry_none : (entry : Entry) → has_float (entry_data entry) ≡ false
entry_none entry = ap (λ b. b || false) (value_none entry.value)

entries_none : (entries : List Entry) → items_have_float (items_of (map entry_data entries)) ≡ false
entries_none [] = refl
entries_none (entry ∷ entries) =
    ap (λ b. b || items_have_float (items_of (map entry_data entries))) (entry_none entry) ∙ entries_none entries

rows_none : (rows : List PlanRow) → items_have_float (items_of (map row_data rows)) ≡ false
rows_none [] = refl
rows_none (row ∷ rows) = rows_none rows

-- a float in what was found
abbrev found_float : Option Json → Bool
found_float None = false
found_float (Some d) = has_float d

sent_none : (from : ServerId) (body : Body) → found_float (sent_data from body) ≡ false
sent_none from (Place seg epoch digest entries closed) = ap (λ b. b || false) (entries_none entries)
sent_none from (Append seg offset entries) = ap (λ b. b || false) (entries_none entries)
sent_none from _ = refl

from_none : (from : Addr) (body : Body) → found_float (sent_from from body) ≡ false
from_none (Server from) body = sent_none from body
from_none Coordinator body = refl
from_none Outside body = refl

own_none : (to : Addr) (r : KeyRange) (t p a : ℕ) → found_float (grant_in to (Own r t p a)) ≡ false
own_none (Server to) r t p a = refl
own_none Coordinator r t p a = refl
own_none Outside r t p a = refl

body_none : (from to : Addr) (body : Body) → found_float (body_data from to body) ≡ false
body_none from to (Plan h a m rows p) = ap (λ b. b || false) (rows_none rows)
body_none from to (Own r t p a) = own_none to r t p a
body_none from to given = from_none from given

found_none : (d : Option Json) (ds : List Json) → found_float d ≡ false → items_have_float (items_of ds) ≡ false →
    items_have_float (items_of (option_to_list d ++ ds)) ≡ false
found_none None ds one rest = rest
found_none (Some d) ds one rest = ap (λ b. b || items_have_float (items_of ds)) one ∙ rest

message_none : (message : Message) → found_float (message_data message) ≡ false
unfolding message_data
message_none message = body_none message.from message.to message.body

messages_none : (messages : List Message) → items_have_float (items_of (messages_data messages)) ≡ false
messages_none [] = refl
messages_none (message ∷ messages) =
    found_none (message_data message) (messages_data messages) (message_none message) (messages_none messages)

pub no_float : (messages : List Message) → has_float (trace_data messages) ≡ false
no_float messages = ap (λ b. b || false) (messages_none messages)
