-- What an insertion makes of the table of least pairs.
use Rattle.std.proofs.Common.{◌≡◌, Bool, true, false, cond, Option, Some, unwrap_or, refl, ap, ◌∙◌}
use Rattle.std.proofs.Math.Path.{fun_ext}
use Rattle.std.specs.declared.hash.FoldHasher.{FoldHasher}
use Rattle.std.specs.declared.hash.BuildHasherDefault.{BuildHasherDefault}
use Rattle.indexmap.specs.IndexMap.{IndexMap, get, Updates}
use Rattle.rc_model.specs.Model.{ServerId, Pair, same_id, put_id}
use Rattle.rc_attempts.specs.Lookups.{pair_in}

abbrev pub Pairs : Type 0
Pairs = IndexMap ServerId Pair (BuildHasherDefault FoldHasher)

pub pair_in-inserted : (old new : Pairs) (master : ServerId) (pair : Pair) →
    Updates same_id old new master (Some pair) → pair_in new ≡ put_id (pair_in old) master pair
pair_in-inserted old new master pair updates =
    fun_ext (λ other. ap (λ o. unwrap_or o (record { seg = 0; epoch = 0 })) (updates.0 other) ∙
    by (same_id master other) (get same_id old other))
  where
    by : (b : Bool) (o : Option Pair) → unwrap_or (cond b (Some pair) o) (record { seg = 0; epoch = 0 }) ≡ cond b pair
        (unwrap_or o (record { seg = 0; epoch = 0 }))
    by true o = refl
    by false o = refl
