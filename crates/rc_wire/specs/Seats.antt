-- The seats of a new wire.
use Rattle.std.specs.Prelude.{ℕ, List, map}
use Rattle.std.specs.List.{range_with_len}
use Rattle.rc_wire.specs.Views.{name_at}
use Rattle.rc_wire.specs.SeatView.{SeatData, new_seat}

-- one for each node, by number: the outside, the coordinator, and the hosts; each has seen and done nothing
abbrev pub new_seats : ℕ → List SeatData
new_seats nodes = map (λ number. new_seat (name_at number)) (range_with_len 0 nodes)
