-- Values that are no list and no object, as they are wanted.
use Rattle.std.specs.Prelude.{ℕ, Bool, true, false, nat_lt, if◌then◌else◌, List, Option, Some, None, option_and_then}
use Rattle.std.specs.Prelude.{codes}
use Rattle.std.specs.Str.{bytes_eq}
use Rattle.json.specs.Token.{Token}
use Rattle.rc_types.specs.declared.ids.Addr.{Addr}
use Rattle.rc_types.specs.declared.ids.Addr.TheVariants.{Coordinator}
use Rattle.serde_json.specs.Data.{Data, Items}
use Rattle.serde_json.specs.Data as read
use Rattle.serde_json.specs.Find.{as_u64, as_array}
use Rattle.rc_reading.specs.declared.simple.Simple.{Simple}
use Rattle.rc_reading.specs.declared.simple.Simple.TheVariants as simple
use Rattle.rc_reading.specs.Values.{within}

-- what a value says by itself: a number, if it is whole and below 2^64; a list and an object say nothing
pub data Said : Type 0 where
  nothing : Said
  flag : Bool → Said
  number : Option ℕ → Said
  text : List ℕ → Said
  other : Said

abbrev pub said_of : Data → Said
said_of read.null = nothing
said_of (read.boolean b) = flag b
said_of (read.number n) = number (as_u64 n)
said_of (read.string s) = text s
said_of (read.array ds) = other
said_of (read.object ms) = other

-- what a value says by itself, and as a list
abbrev pub both_of : Data → Said × Option Items
both_of d = (said_of d, as_array d)

abbrev pub shown : Simple → Said
shown simple.Null = nothing
shown (simple.Bool b) = flag b
shown (simple.Number n) = number n
shown (simple.Text s) = text s.now
shown simple.Other = other

abbrev pub whole_in : ℕ → ℕ → Said → Option ℕ
whole_in low high nothing = None
whole_in low high (flag b) = None
whole_in low high (number n) = option_and_then (within low high) n
whole_in low high (text s) = None
whole_in low high other = None

abbrev pub below_in : ℕ → Said → Option ℕ
below_in most nothing = None
below_in most (flag b) = None
below_in most (number n) = option_and_then (λ i. if nat_lt i most then Some i else None) n
below_in most (text s) = None
below_in most other = None

abbrev pub text_in : Said → Option (List ℕ)
text_in nothing = None
text_in (flag b) = None
text_in (number n) = None
text_in (text s) = Some s
text_in other = None

abbrev pub flag_in : Said → Option Bool
flag_in nothing = None
flag_in (flag b) = Some b
flag_in (number n) = None
flag_in (text s) = None
flag_in other = None

-- the coordinator, by its letter
abbrev pub letter_in : Said → Option Addr
letter_in nothing = None
letter_in (flag b) = None
letter_in (number n) = None
letter_in (text s) = if bytes_eq s (codes "c") then Some Coordinator else None
letter_in other = None

abbrev pub begins_object : Token → Bool
begins_object Token.begin_object = true
begins_object _ = false
