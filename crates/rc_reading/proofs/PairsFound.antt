-- Lists of exactly two items, an item at a time.
use Rattle.std.proofs.Common.{◌≡◌, List, [], ◌∷◌, Option, Some, None, option_and_then, refl}
use Rattle.serde_json.specs.Data.{Data, Items}
use Rattle.rc_reading.specs.declared.pairs.Pair.TheVariants.{Nothing, More}
use Rattle.rc_reading.specs.All.{each, listed, id_in, name_in, host_of, id_of, generation_of, kept_segment_of, paired, both_in, server_id}
use Rattle.rc_reading.specs.All.{replica_name, id_item, name_item, list_from, list_of, taken_from}

more_stays : {A B : Type 0} (first : Data → A) (second : Data → B) (ds : List Data) →
    each (λ pair d. Some (paired first second pair d)) More ds ≡ Some More
more_stays first second [] = refl
more_stays first second (d ∷ ds) = more_stays first second ds

-- what was found, of what there is at the end
abbrev pub found_by : {P R : Type 0} → (P → Option R) → Option P → Option R
found_by f None = None
found_by f (Some p) = f p

id_found : (ds : List Data) → id_in ds ≡ found_by (both_in server_id) (each (λ pair d. Some (id_item pair d)) Nothing ds)
id_found [] = refl
id_found (a ∷ []) = refl
id_found (a ∷ b ∷ []) = refl
id_found (a ∷ b ∷ c ∷ ds) = rw (more_stays host_of generation_of ds) refl

pub id_items_found : (ds : Items) →
    id_in (listed ds) ≡ found_by (both_in server_id) (taken_from (λ pair d. Some (id_item pair d)) (Some Nothing) ds)
id_items_found ds = id_found (listed ds)

name_found : (ds : List Data) →
    name_in ds ≡ option_and_then (both_in replica_name) (each (λ pair d. Some (name_item pair d)) Nothing ds)
name_found [] = refl
name_found (a ∷ []) = refl
name_found (a ∷ b ∷ []) = refl
name_found (a ∷ b ∷ c ∷ ds) = rw (more_stays id_of kept_segment_of ds) refl

pub name_of_pair : (d : Data) → option_and_then name_in (list_of d) ≡ option_and_then (both_in replica_name)
    (list_from (λ pair d. Some (name_item pair d)) Nothing d)
name_of_pair d = of_list (list_of d)
  where
    of_list : (o : Option (List Data)) → option_and_then name_in o ≡ option_and_then (both_in replica_name)
        (option_and_then (each (λ pair d. Some (name_item pair d)) Nothing) o)
    of_list None = refl
    of_list (Some ds) = name_found ds
