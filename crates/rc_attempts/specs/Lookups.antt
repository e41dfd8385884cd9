-- How what is remembered of masters and their attempts is looked up.
use Rattle.std.specs.Prelude.{ℕ, ◌-◌, nat_eq, if◌then◌else◌, List, Option, None, slice_get, unwrap_or}
use Rattle.std.specs.Map.{lookup}
use Rattle.std.specs.declared.hash.FoldHasher.{FoldHasher}
use Rattle.std.specs.declared.hash.BuildHasherDefault.{BuildHasherDefault}
use Rattle.indexmap.specs.IndexMap.{IndexMap, get}
use Rattle.rc_types.specs.declared.ids.ServerId.{ServerId}
use Rattle.rc_types.specs.declared.ids.Pair.{Pair}
use Rattle.rc_model.specs.Ids.{same_id}
use Rattle.rc_model.specs.Attempts.{Attempt}
use Rattle.rc_model.specs.Coordinator.{Coordinator, new_coordinator}

-- of each master the pair that the map has, and the least of all of one that is not in it
abbrev pub pair_in : IndexMap ServerId Pair (BuildHasherDefault FoldHasher) → ServerId → Pair
pair_in map master = unwrap_or (get same_id map master) (record { seg = 0; epoch = 0 })

-- of each master the number of its current attempt, and 0 of one that never had any
abbrev pub number_of : List (ServerId × ℕ) → ServerId → ℕ
number_of current master = unwrap_or (lookup (same_id master) current) 0

-- the attempt of this number: that of number k stands at place k - 1
abbrev pub attempt_of : List Attempt → ℕ → Option Attempt
attempt_of attempts number = if nat_eq number 0 then None else slice_get attempts (number - 1)

-- a coordinator that knows these attempts and current numbers, and nothing else
abbrev pub knowing : List Attempt → List (ServerId × ℕ) → Coordinator
knowing attempts current = record new_coordinator { attempts = attempts; current = number_of current }
