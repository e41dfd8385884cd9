-- A trace without its entries says the same of each message but them.
use Rattle.std.proofs.Common.{◌≡◌, ℕ, ◌+◌, Bool, true, false, if◌then◌else◌, List, [], ◌∷◌, codes, Option}
use Rattle.std.proofs.Common.{Some, None, option_map, Result, Ok, Err, refl, ap, ◌∙◌}
use Rattle.rc_types.specs.declared.messages.Message.{Message}
use Rattle.serde_json.specs.Data.{Data}
use Rattle.rc_reading.specs.Lists.{all_said, said_more}
use Rattle.rc_reading.specs.Scenario.{value_in}
use Rattle.rc_reading.specs.Values.{field, list_of}
use Rattle.rc_traces.specs.Trace.{message_of, is_trace, listed_messages, of_value, reading}
use Rattle.rc_traces.specs.Outline.{without_entries, outline_of, outlined}

more_outlined : (place : ℕ) (one : Option Message) (rest : Result (List Message) ℕ) →
    said_more place (option_map without_entries one) (outlined rest) ≡ outlined (said_more place one rest)
more_outlined place None rest = refl
more_outlined place (Some one) (Ok all) = refl
more_outlined place (Some one) (Err later) = refl

all_outlined : (place : ℕ) (ds : List Data) → all_said outline_of place ds ≡ outlined (all_said message_of place ds)
all_outlined place [] = refl
all_outlined place (d ∷ ds) =
    ap (said_more place (option_map without_entries (message_of d))) (all_outlined (place + 1) ds)
    ∙ more_outlined place (message_of d) (all_said message_of (place + 1) ds)

list_outlined : (o : Option (List Data)) → listed_messages outline_of o ≡ outlined (listed_messages message_of o)
list_outlined (Some ds) = all_outlined 2 ds
list_outlined None = refl

by_test : (b : Bool) (one other : Result (List Message) ℕ) → one ≡ outlined other →
    (if b then one else Err 1) ≡ outlined (if b then other else Err 1)
by_test true one other same = same
by_test false one other same = refl

of_outlined : (o : Option Data) → of_value outline_of o ≡ outlined (of_value message_of o)
of_outlined None = refl
of_outlined (Some d) = by_test (is_trace d) (listed_messages outline_of (field (codes "messages") list_of d))
    (listed_messages message_of (field (codes "messages") list_of d)) (list_outlined (field (codes "messages") list_of d))

-- what is read for an outline is the outline of what is read
pub outline_read : (bytes : List ℕ) → of_value outline_of (value_in bytes) ≡ outlined (reading bytes)
outline_read bytes = of_outlined (value_in bytes)

-- a place that is wrong is the same
pub place_outlined : (read : Result (List Message) ℕ) (place : ℕ) → outlined read ≡ Err place → read ≡ Err place
place_outlined (Ok messages) place e = absurd (cc)
place_outlined (Err other) place e = e
