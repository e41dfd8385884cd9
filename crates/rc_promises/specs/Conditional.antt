-- Conditional writes: put if the version is this one, put if there is nothing yet (version 0), delete if the version is
-- this one. No rule of a node knows of them. A client has seen a version of a key; the server of the key's owner gives
-- the master a plain Write, and says that it is done only where that was acknowledged, and no version of the key lies
-- between: mostly, where the acknowledged version is the next one. Else it says that it does not know, or that the
-- version was another one.
--
-- What is done so takes effect on just that version. It is said of the operations on a key that are linearized, by the
-- order of their linearization; who says "another version" shows a confirmed read, which is one of them.
use Rattle.std.specs.Prelude.{◌≡◌, ◌⊎◌, ℕ, ◌+◌, ◌<◌, ◌≤◌, List}
use Rattle.rc_types.specs.declared.events.Setup.{Setup}
use Rattle.rc_types.specs.declared.events.Event.{Event}
use Rattle.rc_types.specs.declared.messages.Message.{Message}
use Rattle.rc_history.specs.Apart.{Step, sent_by, TakenApart}
use Rattle.rc_step_laws.specs.WordClaims.{sent_after}
use Rattle.rc_promises.specs.Linearizable.{Operation, AWrite, IsOn, StandsBefore, HasReplicas}

-- Of some operations on one key, one that is told as done behind the version that its client expected: it writes, has
-- a greater version, and no operation has one between.
pub record IsDoneBehind (IsOne : Operation → Type 0) (expected : ℕ) (op : Operation) : Type 0 where
  pub is : IsOne op
  pub writes : op.kind ≡ AWrite
  pub above : expected < op.version
  pub next : (a : Operation) → IsOne a → expected < a.version → a.version < op.version → ⊥

-- It takes effect on just that version: all that stands before it has at most that version, whatever has at most that
-- version stands before it, and of all that is done behind that version it is the only one.
pub record TakesEffectOn (IsOne : Operation → Type 0) (expected : ℕ) (op : Operation) : Type 0 where
  pub behind : (a : Operation) → IsOne a → StandsBefore a op → a.version ≤ expected
  pub before : (a : Operation) → IsOne a → a.version ≤ expected → StandsBefore a op
  pub alone : (b : Operation) → IsDoneBehind IsOne expected b → b.response ≡ op.response

-- So it is in every world, whatever happens in it,
abbrev pub ConditionalWritesAreLinearizable : Type 0
ConditionalWritesAreLinearizable =
    (setup : Setup) (events : List Event) (table key expected : ℕ) (op : Operation) → HasReplicas setup →
    IsDoneBehind (IsOn (sent_after setup events) table key) expected op →
    TakesEffectOn (IsOn (sent_after setup events) table key) expected op

-- and of nodes that run apart.
abbrev pub ConditionalWritesApart : Type 0
ConditionalWritesApart =
    (setup : Setup) (steps : List Step) (table key expected : ℕ) (op : Operation) → TakenApart setup steps →
    HasReplicas setup → IsDoneBehind (IsOn (sent_by steps) table key) expected op →
    TakesEffectOn (IsOn (sent_by steps) table key) expected op

-- The check of the answer: where versions don't skip, a write that is acknowledged under the next version is done.
abbrev pub NextVersionSuffices : Type 0
NextVersionSuffices = (sent : List Message) (table key expected : ℕ) (op : Operation) → IsOn sent table key op →
    op.kind ≡ AWrite → op.version ≡ expected + 1 → IsDoneBehind (IsOn sent table key) expected op
