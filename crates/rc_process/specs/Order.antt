-- What is held back, as it is kept: in two queues, so that only the first of each has to be looked at.
use Rattle.std.specs.Prelude.{◌≡◌, ℕ, ◌≤◌, Bool, true, false, nat_le, nat_lt, if◌then◌else◌, List, [], ◌∷◌, ◌++◌, map}
use Rattle.std.specs.Prelude.{Option, Some, None, is_some}
use Rattle.rc_types.specs.declared.messages.Message.{Message}
use Rattle.rc_process.specs.declared.saving.Saving.{Saving}
use Rattle.rc_process.specs.View.{Held, move_held}

-- what is held back, and the turn in which it came
pub record Turned : Type 0 where
  pub turn : ℕ
  pub held : Held

-- those of a queue that came before this turn, and what is left of the queue
abbrev pub came_before : ℕ → List Turned → List Held
came_before turn [] = []
came_before turn (one ∷ later) = if nat_lt one.turn turn then one.held ∷ came_before turn later else []

abbrev pub came_since : ℕ → List Turned → List Turned
came_since turn [] = []
came_since turn (one ∷ later) = if nat_lt one.turn turn then came_since turn later else one ∷ later

-- both queues as one list, in the order in which all of them came
abbrev pub in_turn : List Turned → List Turned → List Held
in_turn [] others = map (λ one. one.held) others
in_turn (one ∷ masters) others = came_before one.turn others ++ one.held ∷ in_turn masters (came_since one.turn others)

-- a save takes the journal's place
abbrev pub move_turned : Saving → Turned → Turned
move_turned saving one = record { turn = one.turn; held = move_held saving one.held }

-- Both queues are in order

abbrev pub turn_of : Turned → ℕ
turn_of one = one.turn

abbrev pub rests_of : Turned → ℕ
rests_of one = one.held.0

-- by what is looked at, none is less than the one before it, the first than `low`, and `high` than the last
abbrev pub Climbs : (Turned → ℕ) → ℕ → List Turned → ℕ → Type 0
Climbs key low [] high = low ≤ high
Climbs key low (one ∷ later) high = (low ≤ key one) × Climbs key (key one) later high

-- each queue came in order of turn, and rests on more and more: what masters sent on no more than the last start of a
-- server, nothing on more than what is written
pub record AreInOrder (turn written started : ℕ) (masters others : List Turned) : Type 0 where
  pub masters_came : Climbs turn_of 0 masters turn
  pub others_came : Climbs turn_of 0 others turn
  pub masters_rest : Climbs rests_of 0 masters started
  pub others_rest : Climbs rests_of 0 others written
  pub early : started ≤ written

-- Whose turn it is

-- the turn of the first of a queue, if that may leave
abbrev pub ready_turn : ℕ → List Turned → Option ℕ
ready_turn safe [] = None
ready_turn safe (one ∷ later) = if nat_le one.held.0 safe then Some one.turn else None

abbrev pub is_before : Option ℕ → Option ℕ → Bool
is_before None other = false
is_before (Some turn) None = true
is_before (Some turn) (Some other) = nat_le turn other

-- the first of a queue is taken
pub record IsTaken (old new : List Turned) (messages : List Message) : Type 0 where
  pub one : Turned
  pub stood : old ≡ one ∷ new
  pub sent : one.held.1 ≡ messages

-- of those firsts that may leave, the one that came before the other
pub data TakenInTurn (safe : ℕ) (masters others masters_left others_left : List Turned) (messages : List Message) :
    Type 0 where
  OfMasters : is_before (ready_turn safe masters) (ready_turn safe others) ≡ true →
      IsTaken masters masters_left messages → others_left ≡ others →
      TakenInTurn safe masters others masters_left others_left messages
  OfOthers : is_before (ready_turn safe masters) (ready_turn safe others) ≡ false →
      is_some (ready_turn safe others) ≡ true → IsTaken others others_left messages → masters_left ≡ masters →
      TakenInTurn safe masters others masters_left others_left messages
