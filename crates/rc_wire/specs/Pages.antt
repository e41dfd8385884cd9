-- Room in what a journal is stored in.
use Rattle.std.specs.Prelude.{◌+◌, ◌<◌, ◌≤◌, List, length, vec_len, vec_capacity}
use Rattle.rc_types.specs.declared.messages.Message.{Message}
use Rattle.rc_wire.specs.Index.{HasRoomFor}
use Rattle.rc_wire.specs.declared.pages.Pages.{Pages}

-- for one more event, and for these messages
pub record HasRoom (pages : Pages) (more : List Message) : Type 0 where
  pub events : vec_len pages.events < vec_capacity pages.events
  pub messages : vec_len pages.messages + length more ≤ vec_capacity pages.messages
  pub index : HasRoomFor pages.index more (length more)
