-- What holds of a segment that a master has told its backups to drop.
use Rattle.std.specs.Prelude.{◌≡◌, ℕ, ◌+◌, ◌<◌, ◌≤◌, true, List, [], ◌∷◌, ◌++◌}
use Rattle.rc_types.specs.declared.kept.Phase.TheVariants.{Writing}
use Rattle.rc_types.specs.declared.messages.Message.{Message}
use Rattle.rc_types.specs.declared.messages.Body.{Body}
use Rattle.rc_types.specs.declared.messages.Body.TheVariants.{Free}
use Rattle.rc_model.specs.Log.{Log}
use Rattle.rc_model.specs.Headline.{In}

-- from some head on no digest has the segment, and each segment before that head is shut, so that no recovery can take
-- one of them for the head
pub record IsLeftOut (log : Log) (s : ℕ) : Type 0 where
  pub head : ℕ
  pub upto : head ≤ log.head
  pub below : s < head
  pub shut : (t : ℕ) → 0 < t → t < head → (log.segments t).shut ≡ true
  pub lacks : (k : ℕ) → head ≤ k → k ≤ log.head → In s (log.segments k).digest → ⊥

-- the segments that these messages free
abbrev pub freed_by : Body → List ℕ
freed_by (Free s) = s ∷ []
freed_by _ = []

abbrev pub freed_in : List Message → List ℕ
freed_in [] = []
freed_in (message ∷ messages) = freed_by message.body ++ freed_in messages

-- what holds of a log, of whose segments these were freed
pub record GoodFrees (freed : List ℕ) (log : Log) : Type 0 where
  pub left_out : (s : ℕ) → In s freed → IsLeftOut log s
  -- all but the last two are shut, and where the head writes, all but the head
  pub old_shut : (s : ℕ) → 0 < s → s + 1 < log.head → (log.segments s).shut ≡ true
  pub writing_shut : log.phase ≡ Writing → (s : ℕ) → 0 < s → s < log.head → (log.segments s).shut ≡ true
  -- a digest has no later segment
  pub digests : (k t : ℕ) → k ≤ log.head → In t (log.segments k).digest → t ≤ k
