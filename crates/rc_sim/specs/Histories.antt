-- What comes of a history that is judged.
use Rattle.std.specs.Prelude.{◌≡◌, ◌⊎◌, ℕ, List, Option, Some, None}
use Rattle.rc_clients.specs.declared.events.ClientEvent.{ClientEvent}
use Rattle.rc_clients.specs.declared.judging.Violation.{Violation}
use Rattle.rc_clients.specs.Linearizable.{Judged}
use Rattle.rc_traces.specs.Ends.{error_line}
use Rattle.rc_sim.specs.declared.verdicts.Verdict.{Verdict}
use Rattle.rc_sim.specs.declared.verdicts.Verdict.TheVariants.{Clean, Breach, Bad}

-- what the judge found
abbrev pub weighed : Option Violation → Verdict
weighed None = Clean
weighed (Some found) = Breach

-- the judge's verdict on a history; which one the bytes say is not claimed
abbrev pub Weighed : Verdict → Type 0
Weighed verdict =
    (history : List ClientEvent) × (found : Option Violation) × Judged history found × (verdict ≡ weighed found)

-- of bytes that say no history, the line that is wrong
abbrev pub IsRefused : Verdict → List ℕ → Type 0
IsRefused verdict text = (line : ℕ) × (verdict ≡ Bad line) × (text ≡ error_line line)

abbrev pub Checked : List ℕ → Verdict → List ℕ → Type 0
Checked bytes verdict text = Weighed verdict ⊎ IsRefused verdict text
