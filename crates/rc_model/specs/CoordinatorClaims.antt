-- What the coordinator should obey.
use Rattle.std.specs.Prelude.{◌≡◌, ℕ, Bool, true, false, [], ◌∷◌, Some, None}
use Rattle.rc_types.specs.declared.ids.ServerId.{ServerId}
use Rattle.rc_types.specs.declared.ids.Pair.{Pair}
use Rattle.rc_types.specs.declared.ids.Addr.TheVariants.{Server}
use Rattle.rc_types.specs.declared.messages.Message.{Message}
use Rattle.rc_types.specs.declared.messages.Body.{Body}
use Rattle.rc_types.specs.declared.messages.Body.TheVariants.{CommitOk, Own}
use Rattle.rc_types.specs.declared.faults.Fault.TheVariants.{Deposed, StaleAttempt}
use Rattle.rc_model.specs.ServerList.{is_up}
use Rattle.rc_model.specs.Pick.{is_below}
use Rattle.rc_model.specs.Attempts.{Attempt}
use Rattle.rc_model.specs.Coordinator.{Coordinator, refuses_server, attempt_at, commits_pair}
use Rattle.rc_model.specs.Deciding.{is_current, grant_to, takes_recovered}
use Rattle.rc_model.specs.Nodes.{NodeWork, coordinator_step}
use Rattle.rc_model.specs.Headline.{In}

-- a least pair never falls, and is at least what is committed
abbrev pub LeastPairsNeverFall : Type 0
LeastPairsNeverFall = (c : Coordinator) (id other : ServerId) (pair : Pair) →
    is_below ((commits_pair c id pair).0.least other) (c.least other) ≡ false

abbrev pub CommitsAreCovered : Type 0
CommitsAreCovered = (c : Coordinator) (id : ServerId) (pair : Pair) → is_up c.servers id ≡ true →
    is_below ((commits_pair c id pair).0.least id) pair ≡ false

-- who isn't up commits nothing, and is granted nothing: it learns that it is held for dead
abbrev pub CrashedCommitNothing : Type 0
CrashedCommitNothing = (c : Coordinator) (id : ServerId) (pair : Pair) → is_up c.servers id ≡ false →
    commits_pair c id pair ≡ (c, refuses_server id Deposed ∷ [])

abbrev pub CrashedAreGrantedNothing : Type 0
CrashedAreGrantedNothing = (c : Coordinator) (id : ServerId) (number term : ℕ) → is_up c.servers id ≡ false →
    takes_recovered c id number term ≡ (c, refuses_server id Deposed ∷ [])

-- in an attempt that isn't current no term is granted that wasn't granted to the sender before
abbrev pub StaleAttemptsGrantNothing : Type 0
StaleAttemptsGrantNothing =
    (c : Coordinator) (id : ServerId) (number term : ℕ) (attempt : Attempt) → is_up c.servers id ≡ true →
    grant_to c id term ≡ None → attempt_at c number ≡ Some attempt → is_current c number attempt ≡ false →
    takes_recovered c id number term ≡ (c, refuses_server id StaleAttempt ∷ [])

-- the message grants a commit, or a range of a table
abbrev pub is_granting : Body → Bool
is_granting (CommitOk seg epoch) = true
is_granting (Own range term previous attempt) = true
is_granting _ = false

-- in each of its works, a Create too, the coordinator sends such a message only to an id that is up
abbrev pub GrantsGoOnlyToTheUp : Type 0
GrantsGoOnlyToTheUp = (c : Coordinator) (work : NodeWork) (message : Message) (id : ServerId) →
    In message (coordinator_step c work).1 → is_granting message.body ≡ true → message.to ≡ Server id →
    is_up c.servers id ≡ true
