-- The parts of what follows a power failure, one after another.
use Rattle.std.proofs.Common.{◌≡◌, ℕ, ◌+◌, List, [], ◌++◌, refl, sym, ◌∙◌, add-one, append_assoc}
use Rattle.std.proofs.lemmas.List.{append-nil}
use Rattle.rc_reading.specs.declared.scenarios.ScenarioEvent.{ScenarioEvent}
use Rattle.rc_runs.specs.Stops.{gathered}

pub gathered_none : (part : ℕ → List ScenarioEvent) → gathered part 0 ≡ []
unfolding gathered
gathered_none part = refl

pub gathered_more : (part : ℕ → List ScenarioEvent) (n : ℕ) → gathered part (n + 1) ≡ gathered part n ++ part n
unfolding gathered
gathered_more part n = rw add-one refl

-- one part more behind what was there
behind : (part : ℕ → List ScenarioEvent) (n : ℕ) (before now : List ScenarioEvent) → now ≡ before ++ gathered part n
    → now ++ part n ≡ before ++ gathered part (n + 1)
behind part n before now so_far = rw (so_far, gathered_more part n) (append_assoc before (gathered part n) (part n))

-- no part yet
pub begins : (part : ℕ → List ScenarioEvent) (before : List ScenarioEvent) → before ≡ before ++ gathered part 0
begins part before = rw gathered_none (sym (append-nil before))

-- one part more, as it was added
pub goes_on : (part : ℕ → List ScenarioEvent) (n : ℕ) (before now then : List ScenarioEvent) → now ≡ before ++ gathered part n
    → then ≡ now ++ part n → then ≡ before ++ gathered part (n + 1)
goes_on part n before now then so_far added = added ∙ behind part n before now so_far
