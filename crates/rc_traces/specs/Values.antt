-- What a JSON value says where a trace wants a number or bytes: nothing, where it is something else.
use Rattle.std.specs.Prelude.{ℕ, Bool, nat_le, ◌&&◌, if◌then◌else◌, List, Option, Some, None, option_map, Result, Ok}
use Rattle.std.specs.Prelude.{Err}
use Rattle.std.specs.List.{list_any}
use Rattle.rc_types.specs.declared.limits.TheConstants.{LAST_SEGMENT}
use Rattle.rc_traces.specs.declared.limits.TheConstants.{LAST_NUMBER}
use Rattle.hex.specs.Hex.{decode_of}
use Rattle.hex.specs.declared.FromHexError.{FromHexError}
use Rattle.serde_json.specs.Data.{Data, null, string}
use Rattle.rc_reading.specs.Said.{Said}
use Rattle.rc_reading.specs.Said as said
use Rattle.rc_reading.specs.Values.{given4, whole}

-- all that was looked for was found
abbrev pub given5 : {A B C D E R : Type 0} → (A → B → C → D → E → R) → Option A → Option B → Option C → Option D →
    Option E → Option R
given5 f (Some a) b c d e = given4 (f a) b c d e
given5 f None b c d e = None

abbrev pub given6 : {A B C D E F R : Type 0} → (A → B → C → D → E → F → R) →
    Option A → Option B → Option C → Option D → Option E → Option F → Option R
given6 g (Some a) b c d e f = given5 (g a) b c d e f
given6 g None b c d e f = None

abbrev pub given7 : {A B C D E F G R : Type 0} → (A → B → C → D → E → F → G → R) →
    Option A → Option B → Option C → Option D → Option E → Option F → Option G → Option R
given7 h (Some a) b c d e f g = given6 (h a) b c d e f g
given7 h None b c d e f g = None

-- a segment's number, from 0 in a trace
abbrev pub seg_of : Data → Option ℕ
seg_of = whole 0 LAST_SEGMENT

-- an offset, a length, an attempt or a term
abbrev pub number_of : Data → Option ℕ
number_of = whole 0 LAST_NUMBER

-- an upper-case letter
abbrev pub is_upper : ℕ → Bool
is_upper c = nat_le 65 c && nat_le c 90

abbrev pub decoded : Result (List ℕ) FromHexError → Option (List ℕ)
decoded (Ok bytes) = Some bytes
decoded (Err fault) = None

-- the bytes that a text in lower-case hexadecimal says
abbrev pub bytes_of : List ℕ → Option (List ℕ)
bytes_of text = if list_any is_upper text then None else decoded (decode_of text)

-- an entry's value: its bytes, or nothing for a deletion
abbrev pub value_of : Data → Option (Option (List ℕ))
value_of null = Some None
value_of (string text) = option_map Some (bytes_of text)
value_of _ = None

-- the same, of what a value says by itself
abbrev pub value_in : Said → Option (Option (List ℕ))
value_in said.nothing = Some None
value_in (said.flag b) = None
value_in (said.number n) = None
value_in (said.text text) = option_map Some (bytes_of text)
value_in said.other = None
