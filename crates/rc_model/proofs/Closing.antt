-- A whole step makes the phase Closing only where the new head is placed on all its members.
use Rattle.std.proofs.Common.{arith}
use Rattle.std.proofs.Common.{◌≡◌, ◌⊎◌, inl, inr, ℕ, Bool, true, false, cond, Result, Ok, Err, refl, sym, ap, ◌∙◌}
use Rattle.std.proofs.lemmas.Bool.{and_parts}
use Rattle.rc_model.specs.Model.{Addr, Fault, Phase, Opening, Closing, Writing, Body, put, ServerList, Config}
use Rattle.rc_model.specs.Model.{all_placed, noted, committed_at, Segment, Log, head_of, with_segment}
use Rattle.rc_model.specs.Model.{has_segment, is_closing, is_writing}
use Rattle.rc_model.specs.Model.{with_config, opens_change, loses, Master, goes_on, ticks, master_takes_first}
use Rattle.rc_model.specs.Model.{master_takes, master_ticks}
use Rattle.rc_model.proofs.Tests.{either, true_false}
use Rattle.rc_model.proofs.Tables.{put_each}
use Rattle.rc_model.proofs.Phases.{freed-phase}
use Rattle.rc_model.proofs.Walk.{OfLog, LogJoined, LogListed, LogWritten, LogFollowed, of_log-joined, of_log-listed, same-deposed}
use Rattle.rc_model.proofs.Walk.{of_log-taken, of_log-ticked, of_log-followed, kept-goes_on, kept-takes_first, kept-ticks_first}

-- where the phase is Closing, the head is placed on all its members
abbrev LogPlaced : Log → Type 0
LogPlaced log = is_closing log.phase ≡ true → all_placed (head_of log).config ≡ true

abbrev pub HeadPlaced : Master → Type 0
HeadPlaced master = LogPlaced master.log

-- no phase is both Writing and Closing
not_both : {P : Type 0} (phase : Phase) → is_writing phase ≡ true → is_closing phase ≡ true → P
not_both Opening writing closing = true_false (sym writing)
not_both Closing writing closing = true_false (sym writing)
not_both Writing writing closing = true_false (sym closing)

-- Follow-ups

-- the config of each segment is as before
abbrev SameConfigs : (ℕ → Segment) → (ℕ → Segment) → Type 0
SameConfigs old new = (k : ℕ) → (new k).config ≡ (old k).config

same_configs-put : (segments : ℕ → Segment) {seg : ℕ} (segment : Segment) → segment.config ≡ (segments seg).config →
    SameConfigs segments (put segments seg segment)
same_configs-put segments {seg} segment same =
    put_each (λ k (one : Segment). one.config ≡ (segments k).config) segments seg segment same (λ k. refl)

-- what holds of the log before holds after
abbrev PlacedKept : Log → Log → Type 0
PlacedKept old new = LogPlaced old → LogPlaced new

-- a segment is changed, but for its config
placed-put : (log : Log) {seg : ℕ} (segment : Segment) → segment.config ≡ (log.segments seg).config →
    PlacedKept log (with_segment seg segment log)
placed-put log segment same placed is = ap all_placed (same_configs-put log.segments segment same log.head) ∙ placed is

placed-joined : LogJoined PlacedKept
placed-joined = record { still = λ log placed. placed; both = λ one two three p q placed. q (p placed) }

placed-written : LogWritten PlacedKept
placed-written = search (arith, true_false, not_both)

placed-followed : LogFollowed PlacedKept
placed-followed = search (arith, placed-put, true_false, and_parts, freed-phase)

placed-goes_on : (master : Master) → HeadPlaced master → HeadPlaced (goes_on master).0
placed-goes_on = kept-goes_on (OfLog PlacedKept) (of_log-joined PlacedKept placed-joined)
    (of_log-followed PlacedKept placed-joined placed-written placed-followed)

-- Inputs: none makes the phase Closing

-- the phase is as before, or a head was opened
abbrev PhaseKept : Phase → Phase → Type 0
PhaseKept old new = (new ≡ old) ⊎ (new ≡ Opening)

abbrev LogKept : Log → Log → Type 0
LogKept old new = PhaseKept old.phase new.phase

kept-both : {one two three : Phase} → PhaseKept one two → PhaseKept two three → PhaseKept one three
kept-both p (inr opened) = inr opened
kept-both (inl was) (inl same) = inl (same ∙ was)
kept-both (inr opened) (inl same) = inr (same ∙ opened)

kept-joined : LogJoined LogKept
kept-joined = record { still = λ log. inl refl; both = λ one two three. kept-both }

same-change : (seg : ℕ) (log : Log) (answer : Config × Result Bool Fault) → (opens_change seg log answer).0.phase ≡ log.phase
same-change seg log (config, Ok true) = refl
same-change seg log (config, Ok false) = refl
same-change seg log (config, Err fault) = refl

-- lost members change no phase
same-loses : (servers : ServerList) (seg : ℕ) (log : Log) → (loses servers seg log).0.phase ≡ log.phase
same-loses servers seg log = search (arith, either, same-change)

kept-listed : LogListed LogKept
kept-listed = record { replaces = λ servers seg log. inl (same-loses servers seg log); opens = λ servers log ids none chosen. inr refl }

kept-if : (log : Log) (b : Bool) (seg : ℕ) (config : Config) → LogKept log (cond b (with_config seg config log) log)
kept-if log b seg config = either (LogKept log) b (with_config seg config log) log (λ _. inl refl) (λ _. inl refl)

-- no input makes the phase Closing
pub kept-input : (master : Master) (from : Addr) (body : Body) → OfLog LogKept master (master_takes_first master from body)
kept-input master from body =
    kept-takes_first (OfLog LogKept) (of_log-joined LogKept kept-joined) (of_log-listed LogKept kept-joined kept-listed) from body
    (of_log-taken LogKept kept-joined
    (record {
      rolls = λ servers log digest ids writing room chosen. inr refl;
      writes = λ log entry client writing room. inl refl;
    }) (λ teller seg epoch len closed is says.
    kept-if master.log (has_segment master.log seg) seg (noted teller epoch len closed (master.log.segments seg).config))
    (λ seg epoch is. kept-if master.log (has_segment master.log seg) seg (committed_at epoch (master.log.segments seg).config)))

kept-ticks : (master : Master) → OfLog LogKept master (ticks master)
kept-ticks = kept-ticks_first (OfLog LogKept) (of_log-joined LogKept kept-joined) (of_log-listed LogKept kept-joined kept-listed)
    (of_log-ticked LogKept kept-joined)

-- Whole steps

-- after an input that was taken in another phase the head is as it should be
placed-after : (master after : Master) → is_closing master.log.phase ≡ false → PhaseKept master.log.phase after.log.phase → HeadPlaced after
placed-after master after isn't (inl same) is = true_false (sym is ∙ (ap is_closing same ∙ isn't))
placed-after master after isn't (inr opened) is = true_false (sym is ∙ ap is_closing opened)

-- a message makes the phase Closing only where the head is placed
pub takes-placed : (master : Master) (from : Addr) (body : Body) → is_closing master.log.phase ≡ false →
    HeadPlaced (master_takes master from body).0
takes-placed master from body isn't = search (arith, either, placed-after, same-deposed, placed-goes_on, kept-input)

-- and so does its timer
pub ticks-placed : (master : Master) → is_closing master.log.phase ≡ false → HeadPlaced (master_ticks master).0
ticks-placed master isn't = search (arith, either, placed-after, placed-goes_on, kept-ticks)
