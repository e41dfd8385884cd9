-- What the members of a trace say after one more member, and at the end.
use Rattle.std.proofs.Common.{[], ◌≡◌, ℕ, List, ◌∷◌, Bool, true, false, ◌&&◌, if◌then◌else◌, codes, Option, Some}
use Rattle.std.proofs.Common.{None, option_map, option_and_then, Result, Ok, Err, bytes_eq, refl, sym, ap, ◌∙◌}
use Rattle.rc_types.specs.declared.messages.Message.{Message}
use Rattle.serde_json.specs.Data.{Data, null, boolean, number, string, array, object, Members, put}
use Rattle.serde_json.specs.Find.{get}
use Rattle.rc_reading.specs.All.{is_one_of, each, field, if_object, list_of, whole}
use Rattle.rc_reading.proofs.Puts.{field_put, only_put, by_names}
use Rattle.rc_reading.proofs.Each.{each_placed}
use Rattle.rc_traces.specs.declared.listed.Listed.{Listed}
use Rattle.rc_traces.specs.declared.listed.Listed.TheVariants.{Coded, Wrong}
use Rattle.rc_traces.specs.declared.whole.Top.{Top}
use Rattle.rc_traces.specs.Codes.{codes_of}
use Rattle.rc_traces.specs.Listed.{listed, takes_listed}
use Rattle.rc_traces.specs.Names.{trace_members}
use Rattle.rc_traces.specs.Trace.{is_trace, listed_messages, trace_of}
use Rattle.rc_traces.specs.Whole.{top_named, top_noted, top_of, messages_list, messages_in, trace_by}
use Rattle.rc_traces.proofs.ListedCodes.{each_listed}

-- the same, by the texts of the names
abbrev expanded : {R : Type 0} → (Data → Option Message) → List ℕ → Data → Top R → Top R
expanded said k d t = record {
  only = is_one_of trace_members k && t.only;
  format = if bytes_eq k (codes "format") then whole 1 1 d else t.format;
  messages = if bytes_eq k (codes "messages") then messages_list said d else t.messages;
  kept_by = t.kept_by;
}

put_expanded : {R : Type 0} (said : Data → Option Message) (k : List ℕ) (d : Data) (ms : Members) →
    top_of {R = R} said (object (put k d ms)) ≡ expanded said k d (top_of said (object ms))
put_expanded said k d ms =
    rw (
      only_put trace_members k d ms,
      field_put (codes "format") (whole 1 1) k d ms,
      field_put (codes "messages") (messages_list said) k d ms,
    )
    refl

expanded_noted : {R : Type 0} (said : Data → Option Message) (k : List ℕ) (d : Data) (t : Top R) →
    expanded said k d t ≡ top_noted said (top_named k) d t
expanded_noted said k d t =
    by_names (λ name. expanded said name d t ≡ top_noted said (top_named name) d t) k
    (codes "format" ∷ codes "messages" ∷ [])
    refl refl
    (λ n1 n2. rw (n1, n2) refl)

pub put_noted : {R : Type 0} (said : Data → Option Message) (k : List ℕ) (d : Data) (ms : Members) →
    top_of {R = R} said (object (put k d ms)) ≡ top_noted said (top_named k) d (top_of said (object ms))
put_noted said k d ms = put_expanded said k d ms ∙ expanded_noted said k d (top_of said (object ms))

-- ---- the messages that the members say

as_messages : (said : Data → Option Message) (o : Option Data) →
    messages_in (option_and_then (messages_list said) o) ≡ listed (listed_messages said (option_and_then list_of o))
as_messages said None = refl
as_messages said (Some d) = of_list (list_of d)
  where
    of_list : (o : Option (List Data)) →
        messages_in (option_and_then (each (takes_listed said) (Coded (codes_of []))) o) ≡ listed (listed_messages said o)
    of_list None = refl
    of_list (Some ds) = ap messages_in (each_listed said (Ok []) ds ∙ ap (option_map listed) (each_placed said ds))

by_test : (b : Bool) (one : Result (List Message) ℕ) (other : Listed) → listed one ≡ other →
    listed (if b then one else Err 1) ≡ (if b then other else Wrong 1)
by_test true one other same = same
by_test false one other same = refl

of_object : (R : Type 0) (said : Data → Option Message) (d : Data) →
    listed (trace_of said d) ≡ trace_by (top_of {R = R} said d)
of_object R said d = by_test (is_trace d) (listed_messages said (field (codes "messages") list_of d))
    (messages_in (field (codes "messages") (messages_list said) d)) (sym (as_messages said (get (codes "messages") d)))

abbrev pub trace_if : {R : Type 0} → Option (Top R) → Listed
trace_if None = Wrong 1
trace_if (Some top) = trace_by top

-- the messages that an object's members say
pub trace_found : (R : Type 0) (said : Data → Option Message) (d : Data) →
    listed (trace_of said d) ≡ trace_if (if_object (top_of {R = R} said) d)
trace_found R said null = refl
trace_found R said (boolean b) = refl
trace_found R said (number n) = refl
trace_found R said (string s) = refl
trace_found R said (array ds) = refl
trace_found R said (object ms) = of_object R said (object ms)
