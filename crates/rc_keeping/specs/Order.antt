-- What a save is like: a host's numbers are within the limits, and all that it keeps as a backup is in order; a
-- coordinator's book is such as all coordinators have.
use Rattle.std.specs.Prelude.{ℕ, Bool, true, nat_lt, List, [], ◌∷◌}
use Rattle.std.specs.List.Sorted.{IsStrictlySortedBy}
use Rattle.std.specs.Map.{keys_of}
use Rattle.std.specs.Ordering.{nat_cmp, is_lt}
use Rattle.std.specs.declared.cmp.Ordering.{Ordering}
use Rattle.rc_types.specs.declared.ids.ServerId.{ServerId}
use Rattle.rc_model.specs.Backup.{Held}
use Rattle.rc_backup.specs.BackupView.{id_order}
use Rattle.rc_coordinator.specs.Book.{IsBook}
use Rattle.rc_world.specs.HostView.{IsMasterSetup}
use Rattle.rc_world.specs.HostParts.{HostParts}
use Rattle.rc_keeping.specs.Saved.{Saved, HostSave, CoordinatorSave}

-- replicas and freed segments ascend by segment
pub record IsHeldInOrder (held : Held) : Type 0 where
  pub replicas : IsStrictlySortedBy nat_cmp (keys_of held.replicas)
  pub freed : IsStrictlySortedBy nat_cmp held.freed

abbrev pub AreHeldInOrder : List (ServerId × Held) → Type 0
AreHeldInOrder [] = Unit {0}
AreHeldInOrder (e ∷ es) = IsHeldInOrder e.1 × AreHeldInOrder es

-- masters ascend, and so does what is kept of each
pub record IsInOrder (table : List (ServerId × Held)) : Type 0 where
  pub masters : IsStrictlySortedBy id_order (keys_of table)
  pub held : AreHeldInOrder table

-- every host has such parts; not all such parts are of a host that a run leads to
pub record AreSound (parts : HostParts) : Type 0 where
  pub limits : IsMasterSetup parts.head.setup
  pub order : IsInOrder parts.backup.table

-- every node has such a save
abbrev pub IsSound : Saved → Type 0
IsSound (HostSave parts) = AreSound parts
IsSound (CoordinatorSave book) = IsBook book

-- what goes before all others
abbrev pub goes_first : {K X : Type 0} → (K → K → Ordering) → K → List (K × X) → Bool
goes_first cmp key [] = true
goes_first cmp key (e ∷ es) = is_lt (cmp key e.0)

abbrev pub goes_lowest : ℕ → List ℕ → Bool
goes_lowest n [] = true
goes_lowest n (k ∷ ks) = nat_lt n k
