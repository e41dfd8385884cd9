-- Maps as tables.
use Rattle.std.proofs.Common.{◌≡◌, ℕ, Bool, true, false, cond, Option, Some, unwrap_or, refl, ap, ◌∙◌}
use Rattle.std.proofs.Math.Path.{fun_ext}
use Rattle.std.specs.declared.hash.FoldHasher.{FoldHasher}
use Rattle.std.specs.declared.hash.BuildHasherDefault.{BuildHasherDefault}
use Rattle.indexmap.specs.IndexMap.{IndexMap, get, Updates}
use Rattle.rc_model.specs.Model.{ServerId, same_id, put_id}
use Rattle.rc_attempts.specs.Lookups.{number_of}

abbrev pub Numbers : Type 0
Numbers = IndexMap ServerId ℕ (BuildHasherDefault FoldHasher)

-- what an insertion makes of the table, at each place and as a whole
pub number_of-updated : (old new : Numbers) (master : ServerId) (number : ℕ) →
    Updates same_id old new master (Some number) → (other : ServerId) →
    number_of new.entries other ≡ cond (same_id master other) number (number_of old.entries other)
number_of-updated old new master number updates other =
    ap (λ o. unwrap_or o 0) (updates.0 other) ∙ by (same_id master other) (get same_id old other)
  where
    by : (b : Bool) (o : Option ℕ) → unwrap_or (cond b (Some number) o) 0 ≡ cond b number (unwrap_or o 0)
    by true o = refl
    by false o = refl

pub number_of-inserted : (old new : Numbers) (master : ServerId) (number : ℕ) →
    Updates same_id old new master (Some number) →
    number_of new.entries ≡ put_id (number_of old.entries) master number
number_of-inserted old new master number updates = fun_ext (number_of-updated old new master number updates)
