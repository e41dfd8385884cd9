-- What the calls of a seat tell.
use Rattle.std.specs.Prelude.{◌≡◌, ◌⊎◌, ℕ, ◌≤◌, Bool, true, false, List, [], ◌∷◌, ◌++◌}
use Rattle.std.specs.Prelude.{length, Some, None, slice_get}
use Rattle.std.specs.Option.{IfSome}
use Rattle.rc_types.specs.declared.limits.TheConstants.{MAX_EVENTS}
use Rattle.rc_types.specs.declared.events.Setup.{Setup}
use Rattle.rc_types.specs.declared.events.Event.{Event}
use Rattle.rc_types.specs.declared.messages.Message.{Message}
use Rattle.rc_model.specs.World.{replay}
use Rattle.rc_history.specs.Events.{events_of, StartsWith}
use Rattle.rc_wire.specs.SeatView.{SeatData, Offered, offered_events, world_at}
use Rattle.rc_wire.specs.Steps.{HoldsItsMessage}
use Rattle.rc_wire.specs.Numbers.{least_to}
use Rattle.rc_wire.specs.Works.{IsOffer, was_delivered}

-- what is true of each seat
pub record IsSeat (setup : Setup) (seat : SeatData) : Type 0 where
  pub few : length seat.seen ≤ MAX_EVENTS
  -- what it has committed are its node's events in the history that it has seen, in order;
  pub mine : events_of setup seat.name seat.seen ≡ seat.mine
  -- what is pending is one more event of its node, possible there, with the messages that are sent in it;
  pub pending : IfSome seat.pending (IsOffer (world_at setup seat) seat.name)
  -- what is held is the message of its number there
  pub held : HoldsItsMessage (world_at setup seat).sent seat.held

-- the history begins with what the seat has seen, and its node's events in it are those that the seat has committed
pub record Covers (setup : Setup) (history : List Event) (seat : SeatData) : Type 0 where
  pub seen : StartsWith history seat.seen
  pub mine : events_of setup seat.name history ≡ seat.mine

-- the seat has seen this
abbrev pub having_seen : SeatData → List Event → SeatData
having_seen seat history = record seat { seen = history }

-- more is seen, at most, and nothing else has changed
pub record Later (old new : SeatData) : Type 0 where
  pub seen : StartsWith new.seen old.seen
  pub same : new ≡ having_seen old new.seen

-- the message of this number is held
pub record Finds (setup : Setup) (old : SeatData) (number : ℕ) (new : SeatData) : Type 0 where
  pub message : Message
  pub found : slice_get (world_at setup new).sent number ≡ Some message
  pub seen : StartsWith new.seen old.seen
  pub after : new ≡ record old { seen = new.seen; held = Some (number, message) }

-- there is no message of this number, and what was held stays
pub record Misses (setup : Setup) (old : SeatData) (number : ℕ) (new : SeatData) : Type 0 where
  pub none : length (world_at setup new).sent ≤ number
  pub later : Later old new

abbrev pub Fetches : Setup → SeatData → ℕ → Bool → SeatData → Type 0
Fetches setup old number true new = Finds setup old number new
Fetches setup old number false new = Misses setup old number new

-- the seat has delivered the message of this number, or its pending step does
abbrev pub has_delivered : SeatData → ℕ → Bool
has_delivered seat number = was_delivered (seat.mine ++ offered_events seat.pending) number

-- there is no message to the seat's node from this number on
pub record SeesNone (setup : Setup) (old : SeatData) (from : ℕ) (new : SeatData) : Type 0 where
  pub later : Later old new
  pub none : least_to new.name from (world_at setup new).sent ≡ None

-- the first message to the seat's node from a number on has this one; it was delivered before, or the pending step
-- delivers it, or it is held now
pub record SeesNext (setup : Setup) (old : SeatData) (from number : ℕ) (new : SeatData) : Type 0 where
  pub looked : SeatData
  pub later : Later old looked
  pub first : least_to looked.name from (world_at setup looked).sent ≡ Some number
  pub held : ((has_delivered looked number ≡ true) × (new ≡ looked)) ⊎
      ((has_delivered looked number ≡ false) × Finds setup looked number new)

-- the pending step stands at the end of a history that begins with what was seen; its event has this number, and in
-- the world before it sends exactly its messages
pub record Commits (setup : Setup) (old : SeatData) (n : ℕ) (new : SeatData) : Type 0 where
  pub earlier : List Event
  pub offered : Offered
  pub pending : old.pending ≡ Some offered
  pub seen : StartsWith earlier old.seen
  pub number : n ≡ length earlier
  pub step : IsOffer (replay setup earlier) old.name offered
  pub after : new ≡ record old {
    seen = earlier ++ offered.event ∷ [];
    mine = old.mine ++ offered.event ∷ [];
    pending = None;
  }
