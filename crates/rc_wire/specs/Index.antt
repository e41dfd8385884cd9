-- The index: for each name that there can be, the numbers of the messages to it.
use Rattle.std.specs.Prelude.{◌≡◌, ℕ, ◌+◌, ◌<◌, ◌≤◌, List, length, map, Some, slice_get, vec_len, vec_capacity}
use Rattle.rc_types.specs.declared.messages.Message.{Message}
use Rattle.rc_model.specs.World.{node_of}
use Rattle.rc_wire.specs.Views.{name_at}
use Rattle.rc_types.specs.Names.{number_of}
use Rattle.rc_wire.specs.Numbers.{numbers_to}
use Rattle.rc_wire.specs.declared.index.Index.{Index}
use Rattle.rc_types.specs.declared.ids.TheConstants.{NODE_NUMBERS}

-- the lists, by the numbers of seats
abbrev pub lists_of : Index → List (List ℕ)
lists_of index = map (λ list. list.items) index.lists.items

-- each list is that of its node
pub record IsIndex (lists : List (List ℕ)) (sent : List Message) : Type 0 where
  pub all : length lists ≡ NODE_NUMBERS
  pub each : (number : ℕ) → number < NODE_NUMBERS → slice_get lists number ≡ Some (numbers_to (name_at number) sent)

-- the list of each of these messages' nodes can take the numbers of them all
abbrev pub HasRoomFor : Index → List Message → ℕ → Type 0
HasRoomFor index messages more =
    (place : ℕ) (message : Message) (list : _) → slice_get messages place ≡ Some message →
    slice_get index.lists.items (number_of (node_of message.to)) ≡ Some list →
    vec_len list + more ≤ vec_capacity list
