-- A message that is taken out of its list while it is delivered.
use Rattle.std.specs.Prelude.{ℕ, List, slice_index_or}
use Rattle.rc_types.specs.declared.ids.Addr.TheVariants.{Outside}
use Rattle.rc_types.specs.declared.messages.Message.{Message}
use Rattle.rc_types.specs.declared.messages.Body.TheVariants.{Enlist}

-- what stands in its place
abbrev pub nothing : Message
nothing = record { from = Outside; to = Outside; body = Enlist }

-- the message of this number
abbrev pub message_at : List Message → ℕ → Message
message_at sent number = slice_index_or sent number nothing
