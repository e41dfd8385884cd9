-- The coordinator grants a commit only to a server that is up.
use Rattle.std.proofs.Common.{◌≡◌, ℕ, true, List, refl}
use Rattle.rc_model.specs.Model.{ServerId, Message, CommitOk, from_coordinator, is_up, NodeWork, coordinator_step, In}
use Rattle.rc_model.specs.Coordinator.{Coordinator}
use Rattle.rc_model.proofs.GrantsUp.{grants-go-only-to-the-up}

-- each grant among these goes to a server that is up
abbrev pub GrantsUp : Coordinator → List Message → Type 0
GrantsUp c messages = (m : ServerId) (s e : ℕ) → In (from_coordinator m (CommitOk s e)) messages → is_up c.servers m ≡ true

-- so in each work of the coordinator
pub grants-step : (c : Coordinator) (work : NodeWork) → GrantsUp c (coordinator_step c work).1
grants-step c work m s e at = grants-go-only-to-the-up c work (from_coordinator m (CommitOk s e)) m at refl refl
