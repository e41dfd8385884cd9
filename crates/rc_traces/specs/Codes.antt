-- Messages as their codes, one after the other, and how many they are.
use Rattle.std.specs.Prelude.{ℕ, ◌+◌, List, ◌++◌, length}
use Rattle.std.specs.List.{flat_map}
use Rattle.rc_types.specs.declared.messages.Message.{Message}
use Rattle.rc_codec.specs.Bodies.{coded_message}

pub record CodesView : Type 0 where
  pub bytes : List ℕ
  pub count : ℕ

abbrev pub codes_of : List Message → CodesView
codes_of messages = record { bytes = flat_map coded_message messages; count = length messages }

abbrev pub and_code : CodesView → Message → CodesView
and_code codes message = record { bytes = codes.bytes ++ coded_message message; count = codes.count + 1 }
