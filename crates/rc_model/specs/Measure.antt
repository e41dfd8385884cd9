-- How often a rule can still apply: each follow-up lowers this number.
use Rattle.std.specs.Prelude.{ℕ, ◌+◌, ◌*◌, ◌-◌, Bool, true, false, not, ◌&&◌, if◌then◌else◌, List, length, filter}
use Rattle.rc_types.specs.declared.kept.Phase.{Phase}
use Rattle.rc_types.specs.declared.kept.Phase.TheVariants.{Opening, Closing, Writing}
use Rattle.rc_model.specs.Config.{all_placed}
use Rattle.rc_model.specs.Segment.{has_unclosed}
use Rattle.rc_model.specs.Log.{Log, head_of, has_old_head, old_head_of, numbers_to, places_of}
use Rattle.rc_model.specs.Ownership.{PartState}
use Rattle.rc_model.specs.Master.{Master}

-- a head that is placed on all can go through all phases, one that isn't through none
abbrev pub rank : Log → Phase → ℕ
rank log Opening = if all_placed (head_of log).config then 3 else 0
rank log Closing = 2
rank log Writing = 1

abbrev pub one_if : Bool → ℕ
one_if true = 1
one_if false = 0

abbrev pub closes_unsent : Log → ℕ
closes_unsent log = one_if (has_old_head log && has_unclosed (old_head_of log))

abbrev pub commits_unsent : Log → ℕ
commits_unsent log =
    length (filter (λ seg. not (log.segments seg).config.committed && not (log.segments seg).commit_sent)
    (numbers_to log.head))

abbrev pub parts_unanswered : List PartState → ℕ
parts_unanswered states = length (filter (λ state. not state.answered) states)

-- each rule that is made lowers this, where segments have replicas at all
abbrev pub measure : Master → ℕ
measure master =
    2 * rank master.log master.log.phase + 2 * length master.ownership.replay +
    (length (places_of master.log) - master.log.durable)
    + closes_unsent master.log + commits_unsent master.log + parts_unanswered master.ownership.parts
