-- The owners of a point, of every setup and every list of events.
use Rattle.std.specs.Prelude.{◌≡◌, ◌⊎◌, ℕ, ◌<◌, true, List}
use Rattle.rc_types.specs.declared.events.Setup.{Setup}
use Rattle.rc_types.specs.declared.events.Event.{Event}
use Rattle.rc_model.specs.World.{replay}
use Rattle.rc_model.specs.Owners.{Granted, IsGranted, covers, IsEarlier}

-- of two terms granted for a point one is the earlier one
abbrev pub PointsHaveOneChain : Type 0
PointsHaveOneChain = (setup : Setup) (events : List Event) (table key : ℕ) (one other : Granted) →
    IsGranted (replay setup events).sent one → covers table key one ≡ true →
    IsGranted (replay setup events).sent other → covers table key other ≡ true →
    (one.term ≡ other.term) ⊎ (IsEarlier (replay setup events).sent table key one.term other.term ⊎
    IsEarlier (replay setup events).sent table key other.term one.term)

-- an earlier term is less
abbrev pub TermsRise : Type 0
TermsRise = (setup : Setup) (events : List Event) (table key earlier later : ℕ) →
    IsEarlier (replay setup events).sent table key earlier later → earlier < later

-- a point is granted to an id at most once
abbrev pub PointsAreGrantedOnce : Type 0
PointsAreGrantedOnce = (setup : Setup) (events : List Event) (table key : ℕ) (one other : Granted) →
    IsGranted (replay setup events).sent one → covers table key one ≡ true →
    IsGranted (replay setup events).sent other → covers table key other ≡ true →
    one.owner ≡ other.owner → one ≡ other
