use Rattle.std.proofs.Common.{◌≡◌, ◌+◌, ◌≤◌, ◌++◌, List, length, take, vec_len, vec_capacity}
use Rattle.rc_types.specs.declared.messages.Message.{Message}
use Rattle.rc_wire.specs.Index.{lists_of, IsIndex}
use Rattle.rc_types.specs.declared.ids.TheConstants.{NODE_NUMBERS}
use Rattle.rc_wire.proofs.Rooms.{Reach}
use Rattle.rc_wire.proofs.index.Index.note.Given as goal

-- those so far are noted, and there is room for the others
abbrev pub invariant-loop-place : goal.invariant-loop-place
invariant-loop-place l = record {
  all : length (lists_of l.self) ≡ NODE_NUMBERS;
  room : Reach (λ place. l.place ≤ place) (λ list. vec_len list + length l.messages ≤ vec_capacity list + l.place) l.self.lists.items
      l.messages;
  noted : (sent : List Message) → IsIndex (lists_of l.fn.self) sent → length sent ≡ l.first →
      IsIndex (lists_of l.self) (sent ++ take l.place l.messages);
}
