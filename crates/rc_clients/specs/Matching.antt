-- Which pending write got which version.
use Rattle.std.specs.Prelude.{◌≡◌, ◌≢◌, ◌⊎◌, ◌<◌, ◌≤◌, ℕ, List, Option, Some, None, cond, option_and_then}
use Rattle.std.specs.List.{All}
use Rattle.std.specs.List.Sorted.{IsStrictlySortedBy}
use Rattle.std.specs.Map.{keys_of, lookup}
use Rattle.std.specs.BTreeMap.{BTreeMap, get, is_at}
use Rattle.rc_clients.specs.declared.events.ClientEvent.{ClientEvent}
use Rattle.rc_clients.specs.declared.operations.Operation.{Operation}
use Rattle.rc_clients.specs.declared.bars.Top.{Top}
use Rattle.rc_clients.specs.declared.doubled.VersionName.{VersionName}
use Rattle.rc_clients.specs.declared.pending.ValueName.{ValueName}
use Rattle.rc_clients.specs.Operations.{IsOperation}
use Rattle.rc_clients.specs.Linearizable.{AreWanting, HasWrite, IsAmong, IsPendingWrite}
use Rattle.rc_clients.specs.Evidence.{bar_at, is_at_least, version_of, version_order}
use Rattle.rc_clients.specs.Pending.{IsFirst, IsPendingOf, bytes_in, value_order}

-- the first write of this value that is free, where what was answered before it has lower versions than this
abbrev pub first_write : List (Option Top) → Option ℕ → ℕ → Option ℕ
first_write bars head version =
    option_and_then (λ moment. cond (is_at_least (bar_at bars moment) version) None (Some moment)) head

-- the write at this moment is free no more
abbrev pub IsUsed : List ClientEvent → BTreeMap ValueName ℕ → ℕ → Type 0
IsUsed history heads moment = (q : ValueName) (head : ℕ) → get value_order heads q ≡ Some head →
    IsPendingOf history q moment → moment < head

-- the operation's version was answered, or a write that is free no more got it
abbrev pub IsSettled : List ClientEvent → BTreeMap ValueName ℕ → (ℕ → ℕ) → Operation → Type 0
IsSettled history heads got op = HasWrite history op ⊎
    ((moment : ℕ) × IsPendingWrite history op moment × (got moment ≡ op.version) × IsUsed history heads moment)

-- Of a value: the writes that were invoked before this moment are used, as many as versions below `top` wanted one; the
-- versions that are left are not below.
pub record AreUsed (history : List ClientEvent) (heads : BTreeMap ValueName ℕ) (left : List (VersionName × Operation))
    (q : ValueName) : Type 0 where
  pub from : ℕ
  pub top : ℕ
  pub others : List (Operation × ℕ)
  pub first : IsFirst history q from (get value_order heads q)
  pub wanting : AreWanting history q.table q.key (bytes_in q) top others
  pub used : (k : ℕ) → IsPendingOf history q k → k < from → IsAmong k others
  pub above : All (λ (e : VersionName × Operation). e.0.table ≡ q.table → e.0.key ≡ q.key → top ≤ e.0.version) left

-- so far, where these versions are left
pub record AreMatched (history : List ClientEvent) (firsts : BTreeMap VersionName Operation)
    (heads : BTreeMap ValueName ℕ) (left : List (VersionName × Operation)) : Type 0 where
  pub got : ℕ → ℕ
  pub settled : (a : Operation) → IsOperation history a → a.version ≢ 0 → IsSettled history heads got a
      ⊎ (lookup (is_at (version_order (version_of a))) left ≡ get version_order firsts (version_of a))
  pub each : (q : ValueName) → AreUsed history heads left q
  pub named : All (λ (e : VersionName × Operation). IsOperation history e.1 × (version_of e.1 ≡ e.0)) left
  pub rising : IsStrictlySortedBy version_order (keys_of left)
