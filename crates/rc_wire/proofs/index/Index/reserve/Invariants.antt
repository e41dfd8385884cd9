use Rattle.std.proofs.Common.{◌≡◌, ◌+◌, ◌<◌, ◌≤◌, length, vec_len, vec_capacity}
use Rattle.rc_wire.specs.Index.{lists_of}
use Rattle.rc_wire.proofs.Rooms.{Reach}
use Rattle.rc_wire.proofs.index.Index.reserve.Given as goal

-- there is room for those so far
abbrev pub invariant-loop-message : goal.invariant-loop-message
invariant-loop-message l = record {
  same : lists_of l.self ≡ lists_of l.fn.self;
  room : Reach (λ place. place < l.message-index) (λ list. vec_len list + length l.messages ≤ vec_capacity list) l.self.lists.items
      l.messages;
}
