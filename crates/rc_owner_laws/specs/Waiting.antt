-- What holds of the coordinator's tablets that makes each part of a recovery one that can still be granted.
use Rattle.std.specs.Prelude.{◌≡◌, ◌⊎◌, ℕ, ◌≤◌, Bool, true, false, List}
use Rattle.rc_types.specs.declared.ids.ServerId.{ServerId}
use Rattle.rc_types.specs.declared.ids.Addr.{Addr}
use Rattle.rc_types.specs.declared.ids.Addr.TheVariants.{Server, Coordinator as AtCoordinator}
use Rattle.rc_types.specs.declared.rows.Tablet.{Tablet}
use Rattle.rc_types.specs.declared.rows.Part.{Part}
use Rattle.rc_types.specs.declared.faults.Code.TheVariants as code
use Rattle.rc_types.specs.declared.messages.Message.{Message}
use Rattle.rc_types.specs.declared.messages.Body.{Body}
use Rattle.rc_types.specs.declared.messages.Body.TheVariants.{Refused}
use Rattle.rc_model.specs.ServerList.{is_up}
use Rattle.rc_model.specs.Attempts.{Decision, GivenPart}
use Rattle.rc_model.specs.Coordinator.{Coordinator}
use Rattle.rc_model.specs.Headline.{In}
use Rattle.rc_owner_laws.specs.Grants.{IsGiven, IsDecided}

-- the part is exactly one of these tablets: its owner's, under the part's previous term, and marked
pub record IsTablet (tablets : List Tablet) (owner : ServerId) (part : Part) : Type 0 where
  pub tablet : Tablet
  pub among : In tablet tablets
  pub range : tablet.range ≡ part.range
  pub term : tablet.term ≡ part.previous
  pub owner_is : tablet.owner ≡ owner
  pub marked : tablet.crashed ≡ true

pub record GoodTablets (c : Coordinator) : Type 0 where
  -- each has a key
  pub proper : (tablet : Tablet) → In tablet c.tablets → tablet.range.lo ≤ tablet.range.hi
  -- each whose owner isn't up is marked
  pub marked : (tablet : Tablet) → In tablet c.tablets →
      (is_up c.servers tablet.owner ≡ true) ⊎ (tablet.crashed ≡ true)
  -- a part of a current attempt that was decided is one of them, until it is granted
  pub waiting : (number : ℕ) (master : ServerId) (decision : Decision) →
      IsDecided c.attempts number master decision → c.current master ≡ number →
      (given : GivenPart) → In given decision.parts → (IsGiven c.grants given → ⊥) →
      IsTablet c.tablets master given.part

-- by this the coordinator refuses a server for want of a tablet
abbrev pub lacks_tablet : Addr → Addr → Body → Bool
lacks_tablet AtCoordinator (Server id) (Refused code.NoTable) = true
lacks_tablet from to body = false

-- no message does that
abbrev pub NoneLacksTablet : List Message → Type 0
NoneLacksTablet messages =
    (message : Message) → In message messages → lacks_tablet message.from message.to message.body ≡ false

-- a step of the coordinator
pub record TabletsMoved (after : Coordinator × List Message) : Type 0 where
  pub good : GoodTablets after.0
  pub says : NoneLacksTablet after.1
