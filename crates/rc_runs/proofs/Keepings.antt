-- What is kept of the replicas, where that are no fewer than all.
use Rattle.std.proofs.Common.{◌≡◌, ℕ, ◌≤◌, ◌+◌, ◌%◌, Bool, true, false, not, nat_eq, cond, if◌then◌else◌, List, [], ◌∷◌, ◌++◌, length}
use Rattle.std.proofs.Common.{filter, refl, ap, ap₂, subst, sym, ◌∙◌, arith}
use Rattle.std.proofs.lemmas.List.Filters.{length-filter_both}
use Rattle.rc_types.specs.declared.ids.ServerId.{ServerId}
use Rattle.rc_types.specs.declared.events.Event.TheVariants.{Start}
use Rattle.rc_model.specs.World.{World}
use Rattle.rc_model.specs.Backup.{open_names}
use Rattle.rc_reading.specs.declared.scenarios.ScenarioEvent.TheVariants.{Core}
use Rattle.rc_runs.specs.declared.cutting.Keeping.{Keeping}
use Rattle.rc_runs.specs.declared.cutting.Keeping.TheVariants.{All, OddSegments, Nothing}
use Rattle.rc_runs.specs.Stops.{keeps, gathered, start_of}
use Rattle.rc_runs.proofs.Gathering.{gathered_none, gathered_more}

-- all elements pass, where no fewer do
all_pass : {X : Type 0} (p : X → Bool) (xs : List X) → length xs ≤ length (filter p xs) → filter p xs ≡ xs
all_pass p [] many = refl
all_pass p (x ∷ xs) many = by_test (p x) many (all_pass p xs)
  where
    by_test : (b : Bool) → length (x ∷ xs) ≤ length (cond b (x ∷ filter p xs) (filter p xs)) →
        (length xs ≤ length (filter p xs) → filter p xs ≡ xs) → cond b (x ∷ filter p xs) (filter p xs) ≡ x ∷ xs
    by_test true h rest = ap (λ ys. x ∷ ys) (rest (omega (arith, h)))
    by_test false h rest = absurd (omega (arith, h, length-filter_both p (λ y. not (p y)) (λ y. refl) xs))

pub keeps_each : (keeping : Keeping) (names : List (ServerId × ℕ)) → length names ≤ length (keeps keeping names)
    → keeps keeping names ≡ names
keeps_each All names many = refl
keeps_each OddSegments names many = all_pass (λ name. nat_eq (name.1 % 2) 1) names many
keeps_each Nothing [] many = refl
keeps_each Nothing (name ∷ names) many = absurd (omega (arith, many))

-- no host yet
pub start_alike_none : (keeping : Keeping) (world : World) → gathered (start_of keeping world) 0 ≡ gathered (start_of All world) 0
start_alike_none keeping world = gathered_none (start_of keeping world) ∙ sym (gathered_none (start_of All world))

-- one host more, of which these are the names, and these are kept
pub start_alike_more : (keeping : Keeping) (world : World) (host : ℕ) (names kept : List (ServerId × ℕ))
    → gathered (start_of keeping world) host ≡ gathered (start_of All world) host
    → names ≡ open_names (world.hosts host).backup → kept ≡ keeps keeping names → length names ≤ length kept
    → gathered (start_of keeping world) (host + 1) ≡ gathered (start_of All world) (host + 1)
start_alike_more keeping world host names kept so_far are is many =
    let same : keeps keeping names ≡ names = keeps_each keeping names (subst (λ ks. length names ≤ length ks) is many) in
    gathered_more (start_of keeping world) host
    ∙ ap₂ (λ before more. before ++ more) so_far
    (ap (λ ks. if nat_eq (world.hosts host).generation 0 then [] else Core (Start host ks) ∷ [])
    (subst (λ ns. keeps keeping ns ≡ ns) are same))
    ∙ sym (gathered_more (start_of All world) host)
