-- The messages of a list, an item at a time.
use Rattle.std.specs.Prelude.{ℕ, ◌+◌, List, Option, Some, None, Result, Ok, Err}
use Rattle.serde_json.specs.Data.{Data}
use Rattle.rc_types.specs.declared.messages.Message.{Message}
use Rattle.rc_traces.specs.declared.listed.Listed.{Listed}
use Rattle.rc_traces.specs.declared.listed.Listed.TheVariants.{Coded, Wrong}
use Rattle.rc_traces.specs.Codes.{codes_of, and_code}

-- what a list says, with its messages as their codes
abbrev pub listed : Result (List Message) ℕ → Listed
listed (Ok messages) = Coded (codes_of messages)
listed (Err place) = Wrong place

-- one more message, or the place of an item that says none; the first item has place 2
abbrev pub one_more : Listed → Option Message → Listed
one_more (Wrong place) one = Wrong place
one_more (Coded codes) None = Wrong (2 + codes.count)
one_more (Coded codes) (Some one) = Coded (and_code codes one)

-- the same, of what a value says; it never ends in nothing
abbrev pub takes_listed : (Data → Option Message) → Listed → Data → Option Listed
takes_listed said all d = Some (one_more all (said d))
