-- In which view of itself a master sends what: commits, closes, and what it says once it is deposed.
use Rattle.std.specs.Prelude.{◌≡◌, ◌⊎◌, ℕ, ◌+◌, ◌<◌, true, List, [], ◌∷◌, if◌then◌else◌, length}
use Rattle.rc_types.specs.declared.ids.Addr.{Addr}
use Rattle.rc_types.specs.declared.faults.Fault.TheVariants.{Deposed}
use Rattle.rc_types.specs.declared.messages.Message.{Message}
use Rattle.rc_types.specs.declared.messages.Body.{Body}
use Rattle.rc_types.specs.declared.messages.Body.TheVariants.{Commit, Close}
use Rattle.rc_model.specs.Messages.{refuses}
use Rattle.rc_model.specs.Config.{all_placed}
use Rattle.rc_model.specs.Log.{Log, is_closing}
use Rattle.rc_model.specs.Master.{Master}
use Rattle.rc_model.specs.MasterStep.{master_takes, master_ticks}
use Rattle.rc_model.specs.Nodes.{is_for_clients}
use Rattle.rc_model.specs.Headline.{In}

-- it holds of each message that a master sends in a step, by its log before and after the step
abbrev pub OfEachMessage : (Log → Log → Body → Type 0) → Type 0
OfEachMessage Says =
    ((master : Master) (from : Addr) (body : Body) (message : Message) →
    In message (master_takes master from body).1 →
    Says master.log (master_takes master from body).0.log message.body)
    × ((master : Master) (message : Message) → In message (master_ticks master).1 →
    Says master.log (master_ticks master).0.log message.body)

-- Commits

-- each earlier segment is shut
abbrev pub EarlierAreShut : Log → ℕ → Type 0
EarlierAreShut log s = (t : ℕ) → 0 < t → t < s → (log.segments t).shut ≡ true

-- the segment is placed on all its members: none of them is known lost, and each has told something under this epoch,
-- the current one
pub record IsPlacedOnAll (log : Log) (s e : ℕ) : Type 0 where
  pub epoch : e ≡ (log.segments s).config.epoch
  pub placed : all_placed (log.segments s).config ≡ true

-- a Commit goes out only where its segment is placed on all its members, and no earlier one is open, or it was asked
-- before
pub record IsCommitDue (old new : Log) (s e : ℕ) : Type 0 where
  pub placed : IsPlacedOnAll new s e
  pub first : EarlierAreShut new s ⊎ ((old.segments s).commit_sent ≡ true)

abbrev pub CommitsAreDue : Log → Log → Body → Type 0
CommitsAreDue old new body = (s e : ℕ) → body ≡ Commit s e → IsCommitDue old new s e

-- Closes

-- the phase is Closing, and the segment is the old head
abbrev pub IsClosingOf : Log → ℕ → Type 0
IsClosingOf log s = (is_closing log.phase ≡ true) × (s + 1 ≡ log.head)

-- a Close has the final length of a segment below the head, whose epoch is committed; and the phase was Closing before
-- the step, or became so in it, since the next segment is placed on all its members
pub record IsCloseDue (old new : Log) (s len : ℕ) : Type 0 where
  pub committed : (new.segments s).config.committed ≡ true
  pub final : len ≡ length (new.segments s).entries
  pub below : s < new.head
  pub closing : IsClosingOf old s ⊎ (all_placed (new.segments (s + 1)).config ≡ true)

abbrev pub ClosesAreDue : Log → Log → Body → Type 0
ClosesAreDue old new body = (s len : ℕ) → body ≡ Close s len → IsCloseDue old new s len

-- Deposed masters

-- a deposed master answers a client's Write or Read with the refusal that says so, and sends nothing else, and stays as
-- it is
abbrev pub deposed_answer : Master → Body → List Message
deposed_answer master body = if is_for_clients body then refuses master.log.own Deposed ∷ [] else []

abbrev pub DeposedOnlyRefuse : Type 0
DeposedOnlyRefuse = (master : Master) (from : Addr) (body : Body) → master.deposed ≡ true →
    master_takes master from body ≡ (master, deposed_answer master body)

abbrev pub DeposedDoNotTick : Type 0
DeposedDoNotTick = (master : Master) → master.deposed ≡ true → master_ticks master ≡ (master, [])
