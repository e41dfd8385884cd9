-- The numbers of the messages to a node, in a list of all that was sent.
use Rattle.std.specs.Prelude.{ℕ, ◌+◌, nat_le, if◌then◌else◌, List, [], ◌∷◌, Option}
use Rattle.std.specs.List.{find}
use Rattle.rc_types.specs.declared.messages.Message.{Message}
use Rattle.rc_model.specs.World.{NodeName, same_node, node_of}

-- where the first of these messages has this number
abbrev pub numbers_from : ℕ → NodeName → List Message → List ℕ
numbers_from first name [] = []
numbers_from first name (message ∷ messages) =
    if same_node (node_of message.to) name then first ∷ numbers_from (first + 1) name messages
    else numbers_from (first + 1) name messages

-- ascending; a message's number is its place
abbrev pub numbers_to : NodeName → List Message → List ℕ
numbers_to name sent = numbers_from 0 name sent

-- the least of them from a number on
abbrev pub least_to : NodeName → ℕ → List Message → Option ℕ
least_to name from sent = find (λ number. nat_le from number) (numbers_to name sent)
