-- What the members of a scenario say after one more member, and at the end.
use Rattle.std.proofs.Common.{[], ◌≡◌, ℕ, nat_eq, List, ◌∷◌, ◌&&◌, if◌then◌else◌, codes, Option, Some}
use Rattle.std.proofs.Common.{None, Result, Ok, Err, option_map, option_and_then, bytes_eq, refl, sym, ap₂, ◌∙◌}
use Rattle.rc_types.specs.declared.events.Setup.{Setup}
use Rattle.serde_json.specs.Data.{Data, null, boolean, number, string, array, object, Members, put}
use Rattle.serde_json.specs.Find.{get, as_bool}
use Rattle.rc_reading.specs.declared.whole.Top.{Top}
use Rattle.rc_reading.specs.All.{first_members, second_members, is_one_of, field, whole, list_of, factor_of, factors_of, segment_of}
use Rattle.rc_reading.specs.All.{events_of, setup_by, setup_of, scenario_in, scenario_of, top_named, top_noted, top_of, events_list}
use Rattle.rc_reading.specs.All.{first_in, second_in, scenario_from, scenario_by}
use Rattle.rc_reading.specs.All.{each, event_of, if_object, takes_placed}
use Rattle.rc_reading.specs.declared.scenarios.Scenario.{Scenario}
use Rattle.rc_reading.proofs.Puts.{field_put, only_put, by_names}
use Rattle.rc_reading.proofs.Each.{each_placed}

-- the same, by the texts of the names
abbrev expanded : List ℕ → Data → Top → Top
expanded k d t = record {
  first = is_one_of first_members k && t.first;
  second = is_one_of second_members k && t.second;
  format = if bytes_eq k (codes "format") then whole 1 2 d else t.format;
  factor = if bytes_eq k (codes "factor") then factor_of d else t.factor;
  segment = if bytes_eq k (codes "segment") then segment_of d else t.segment;
  free = if bytes_eq k (codes "free") then as_bool d else t.free;
  factors = if bytes_eq k (codes "factors") then factors_of d else t.factors;
  events = if bytes_eq k (codes "events") then events_list d else t.events;
}

put_expanded : (k : List ℕ) (d : Data) (ms : Members) → top_of (object (put k d ms)) ≡ expanded k d (top_of (object ms))
put_expanded k d ms =
    rw (
      only_put first_members k d ms,
      only_put second_members k d ms,
      field_put (codes "format") (whole 1 2) k d ms,
      field_put (codes "factor") factor_of k d ms,
      field_put (codes "segment") segment_of k d ms,
      field_put (codes "free") as_bool k d ms,
      field_put (codes "factors") factors_of k d ms,
      field_put (codes "events") events_list k d ms,
    )
    refl

expanded_noted : (k : List ℕ) (d : Data) (t : Top) → expanded k d t ≡ top_noted (top_named k) d t
expanded_noted k d t =
    by_names (λ name. expanded name d t ≡ top_noted (top_named name) d t) k
    (codes "format" ∷ codes "factor" ∷ codes "factors" ∷ codes "free" ∷ codes "segment" ∷ codes "events" ∷ [])
    refl refl refl refl refl refl
    (λ n1 n2 n3 n4 n5 n6. rw (n1, n2, n3, n4, n5, n6) refl)

pub put_noted : (k : List ℕ) (d : Data) (ms : Members) → top_of (object (put k d ms)) ≡ top_noted (top_named k) d (top_of (object ms))
put_noted k d ms = put_expanded k d ms ∙ expanded_noted k d (top_of (object ms))

-- ---- the scenario that the members say

by_format : (d : Data) (o : Option ℕ) →
    option_and_then (λ format. setup_by format d) o ≡ option_and_then
    (λ format. if nat_eq format 1 then first_in (top_of d) else second_in (top_of d)) o
by_format d None = refl
by_format d (Some format) = refl

as_events : (o : Option Data) → option_and_then events_list o ≡ option_map (events_of 2) (option_and_then list_of o)
as_events None = refl
as_events (Some d) = of_list (list_of d)
  where
    of_list : (o : Option (List Data)) → option_and_then (each (takes_placed event_of) (Ok [])) o ≡ option_map (events_of 2) o
    of_list None = refl
    of_list (Some ds) = each_placed event_of ds

in_from : (setup : Option Setup) (o : Option (List Data)) → scenario_in setup o ≡ scenario_from setup (option_map (events_of 2) o)
in_from None o = refl
in_from (Some setup) None = refl
in_from (Some setup) (Some ds) = refl

of_object : (d : Data) → scenario_of d ≡ scenario_by (top_of d)
of_object d =
    in_from (setup_of d) (field (codes "events") list_of d)
    ∙ ap₂ scenario_from (by_format d (field (codes "format") (whole 1 2) d)) (sym (as_events (get (codes "events") d)))

abbrev pub scenario_if : Option Top → Result Scenario ℕ
scenario_if None = Err 1
scenario_if (Some top) = scenario_by top

-- the scenario that an object's members say
pub scenario_found : (d : Data) → scenario_of d ≡ scenario_if (if_object top_of d)
scenario_found null = refl
scenario_found (boolean b) = refl
scenario_found (number n) = refl
scenario_found (string s) = refl
scenario_found (array ds) = refl
scenario_found (object ms) = of_object (object ms)
