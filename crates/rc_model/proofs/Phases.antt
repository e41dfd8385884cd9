-- Where the phase changes, what a roll opens, and how members change.
use Rattle.std.proofs.Common.{◌≡◌, ◌⊎◌, inl, inr, ℕ, true, false, ◌&&◌, ◌||◌, nat_eq, nat_lt, List, []}
use Rattle.std.proofs.Common.{◌∷◌, Option, Some, None}
use Rattle.std.proofs.Common.{refl, sym, ap, ◌∙◌, option_and_then, arith}
use Rattle.std.proofs.lemmas.Bool.{and_parts, or_right}
use Rattle.rc_model.specs.Heads.{next_digest, opened_on}
use Rattle.rc_model.specs.Model.{ServerId, Entry, Opening, Writing, Message, all_placed, Log}
use Rattle.rc_model.specs.Model.{head_of, old_head_of, has_old_head, is_opening, is_closing, is_writing, begin_roll, may_start}
use Rattle.rc_model.specs.Model.{may_close, may_write, left_out, with_freed, writes_on, Master}
use Rattle.rc_model.specs.Model.{dead_segments, follow_up, follows_start, follows_placed, close_is_due, follows_closing}
use Rattle.rc_model.specs.Model.{follows_shut, wants_commit, commits, rolls_for_replay, replays, follows_data}
use Rattle.rc_model.specs.Model.{answers_part, when}
use Rattle.rc_model.proofs.Tests.{either, true_false}
use Rattle.rc_model.proofs.LogParts.{with_freed-marked}
use Rattle.rc_model.proofs.Rules.{AllDone, done-or, done-when}

-- what rules 5 to 8 leave, or a roll opens
pub record KeepsPhase (old new : Master) : Type 0 where
  pub phase : (new.log.phase ≡ old.log.phase) ⊎ (new.log.phase ≡ Opening)

abbrev KeepsPhaseDone : Master → Master × List Message → Type 0
KeepsPhaseDone master done = KeepsPhase master done.0

keeps-change : (master : Master) (open_one : Option ℕ) → AllDone (KeepsPhaseDone master)
    (option_and_then (λ one. when (wants_commit (master.log.segments one)) (commits master one)) open_one)
keeps-change master None = tt
keeps-change master (Some seg) =
    done-when (KeepsPhaseDone master) (wants_commit (master.log.segments seg)) (λ _. record { phase = inl refl })

keeps-roll : (master : Master) (chosen : Option (List ServerId)) →
    AllDone (KeepsPhaseDone master) (rolls_for_replay master (opened_on master.log (next_digest master.log (dead_segments master)) chosen))
keeps-roll master None = tt
keeps-roll master (Some ids) = record { phase = inr refl }

keeps-full : (master : Master) → AllDone (KeepsPhaseDone master)
    (rolls_for_replay master (begin_roll master.known (dead_segments master) master.log))
keeps-full master = search (arith, either, nat_lt, keeps-roll)

keeps-replay : (master : Master) (replay : List Entry) → AllDone (KeepsPhaseDone master) (replays master replay)
keeps-replay master [] = tt
keeps-replay master (entry ∷ entries) = search (arith, either, keeps-full)

keeps-data : (master : Master) → AllDone (KeepsPhaseDone master) (follows_data master)
keeps-data master = search (arith, either, keeps-replay)

keeps-answer : (master : Master) (term : Option ℕ) → AllDone (KeepsPhaseDone master) (answers_part master term)
keeps-answer master None = tt
keeps-answer master (Some term) = record { phase = inl refl }

-- all rules, given what the first four do, and what follows where the phase stays or a roll opens
by_rules : (P : Master × List Message → Type 0) {master : Master} →
    ((done : Master × List Message) → KeepsPhaseDone master done → P done) →
    AllDone P (follows_start master) → AllDone P (follows_placed master) → AllDone P (follows_closing master) →
    AllDone P (follows_shut master) →
    AllDone P (follow_up master)
by_rules P {master} keeps start placed closing shut =
    search (arith, done-or, keeps-change, done-when, keeps-data, keeps-answer)

-- marks change no phase
pub freed-phase : (segs : List ℕ) (log : Log) → (with_freed segs log).phase ≡ log.phase
freed-phase segs log = ap (λ (after : Log). after.phase) (with_freed-marked segs log)

-- the phase becomes Closing only where the head is placed
abbrev pub ClosesPlaced : Master → Master × List Message → Type 0
ClosesPlaced master done = is_closing master.log.phase ≡ false → is_closing done.0.log.phase ≡ true →
    all_placed (head_of done.0.log).config ≡ true

pub closes-placed : (master : Master) → AllDone (ClosesPlaced master) (follow_up master)
closes-placed master = by_rules (ClosesPlaced master) keeps
    (done-when (ClosesPlaced master) (may_start master.log) (λ _ _ is. cc))
    (done-when (ClosesPlaced master) (may_close master.log) (λ may _ _.
    (and_parts (has_old_head master.log) (all_placed (head_of master.log).config)
    (and_parts (is_opening master.log.phase) (has_old_head master.log && all_placed (head_of master.log).config) may).1).1))
    (done-when (ClosesPlaced master) (close_is_due master.log) (λ _ isn't is. true_false (sym is ∙ isn't)))
    (done-when (ClosesPlaced master) (may_write master.log) (λ _ _ is.
    let after : (writes_on master.log).phase ≡ Writing = freed-phase (left_out master.log) (record master.log { phase = Writing }) in
    true_false (sym is ∙ ap is_closing after)))
  where
    keeps : (done : Master × List Message) → KeepsPhaseDone master done → ClosesPlaced master done
    keeps done kept isn't is = search (arith, true_false)

-- the phase becomes Writing only where the head is placed and committed, and the old one shut
abbrev pub WritesShut : Master → Master × List Message → Type 0
WritesShut master done = is_writing master.log.phase ≡ false → is_writing done.0.log.phase ≡ true →
    (all_placed (head_of master.log).config ≡ true) × ((head_of master.log).config.committed ≡ true)
    × (nat_eq master.log.head 1 || (old_head_of master.log).shut ≡ true)

pub writes-shut : (master : Master) → AllDone (WritesShut master) (follow_up master)
writes-shut master = by_rules (WritesShut master) keeps
    (done-when (WritesShut master) (may_start master.log) (λ may _ _. start may))
    (done-when (WritesShut master) (may_close master.log) (λ _ _ is. cc))
    (done-when (WritesShut master) (close_is_due master.log) (λ _ isn't is. true_false (sym is ∙ isn't)))
    (done-when (WritesShut master) (may_write master.log) (λ may _ _. shut may))
  where
    keeps : (done : Master × List Message) → KeepsPhaseDone master done → WritesShut master done
    keeps done kept isn't is = search (arith, nat_eq, true_false)

    start : may_start master.log ≡ true → (all_placed (head_of master.log).config ≡ true) × ((head_of master.log).config.committed ≡ true)
        × (nat_eq master.log.head 1 || (old_head_of master.log).shut ≡ true)
    start may = search (arith, nat_eq, and_parts)

    shut : may_write master.log ≡ true → (all_placed (head_of master.log).config ≡ true) × ((head_of master.log).config.committed ≡ true)
        × (nat_eq master.log.head 1 || (old_head_of master.log).shut ≡ true)
    shut may = search (arith, and_parts, or_right, nat_eq)
