-- Where the works of a journal end in a file.
use Rattle.std.proofs.Common.{◌≡◌, ◌≤◌, ◌<◌, ◌+◌, ◌-◌, ◌⊎◌, inl, inr, ℕ, suc, Bool, true, false, cond, nat_le, List, [], ◌∷◌, ◌++◌}
use Rattle.std.proofs.Common.{length, take, drop, refl, sym, ap, ◌∙◌, arith, append_assoc, length-append}
use Rattle.std.proofs.Math.Seq.{take-append-add}
use Rattle.std.proofs.lemmas.List.{take-append-le, take-append-drop}
use Rattle.std.proofs.lemmas.Bool.{le-leb, lt-leb}
use Rattle.rc_types.specs.declared.events.Setup.{Setup}
use Rattle.rc_types.specs.declared.events.NodeWork.{NodeWork}
use Rattle.rc_model.specs.Nodes.{NodeWork}
use Rattle.rc_model.specs.World.{NodeName}
use Rattle.rc_history.specs.Nodes.{Node, new_node, node_step}
use Rattle.rc_keeping.specs.Spelling.{record_of, journal_of}
use Rattle.rc_keeping.proofs.JournalLaws.{journal-push}
use Rattle.rc_history.specs.Lives.{node_after}
use Rattle.rc_keeping.specs.Saved.{Saved, save_of}
use Rattle.rc_keeping.specs.Files.{file_of}
use Rattle.rc_keeping.specs.Standing.{StandsFor}
use Rattle.rc_keeping.proofs.Back.{journal-append, le_or_lt}
use Rattle.rc_process.specs.declared.saving.Saving.{Saving}
use Rattle.rc_process.specs.View.{moved_place}

-- how many bytes of the file the first so many works of a journal take, of which the save stands for the first ones
abbrev pub place : ℕ → Saved → List NodeWork → ℕ → ℕ
place before saved works count = cond (nat_le count before) 0 (length (file_of saved (take (count - before) works)))

pub place-below : (before : ℕ) (saved : Saved) (works : List NodeWork) (count : ℕ) → count ≤ before → place before saved works count ≡ 0
place-below before saved works count h =
    ap (λ b. cond b 0 (length (file_of saved (take (count - before) works)))) (le-leb count before h)

pub place-above : (before : ℕ) (saved : Saved) (works : List NodeWork) (count : ℕ) → before < count →
    place before saved works count ≡ length (file_of saved (take (count - before) works))
place-above before saved works count h =
    ap (λ b. cond b 0 (length (file_of saved (take (count - before) works)))) (lt-leb count before h)

pub file-length : (saved : Saved) (one two : List NodeWork) →
    length (file_of saved (one ++ two)) ≡ length (file_of saved one) + length (journal_of two)
file-length saved one two =
    let parts : journal_of (one ++ two) ≡ journal_of one ++ journal_of two = journal-append one two in
    let whole : length (save_of saved ++ journal_of (one ++ two)) ≡ length (save_of saved) + length (journal_of (one ++ two)) =
    length-append (save_of saved) (journal_of (one ++ two)) in
    let first : length (save_of saved ++ journal_of one) ≡ length (save_of saved) + length (journal_of one) =
    length-append (save_of saved) (journal_of one) in
    let both : length (journal_of (one ++ two)) ≡ length (journal_of one) + length (journal_of two) =
    ap length parts ∙ length-append (journal_of one) (journal_of two) in
    omega arith

pub file-push : (saved : Saved) (works : List NodeWork) (w : NodeWork) → file_of saved (works ++ w ∷ [])
    ≡ file_of saved works ++ record_of w
file-push saved works w =
    ap (λ l. save_of saved ++ l) (journal-push works w) ∙ sym (append_assoc (save_of saved) (journal_of works) (record_of w))

pub file-within : (saved : Saved) (works : List NodeWork) (k : ℕ) → length (file_of saved (take k works)) ≤ length (file_of saved works)
file-within saved works k =
    let parts : length (file_of saved (take k works ++ drop k works))
    ≡ length (file_of saved (take k works)) + length (journal_of (drop k works)) =
    file-length saved (take k works) (drop k works) in
    let same : length (file_of saved (take k works ++ drop k works)) ≡ length (file_of saved works) =
    ap (λ l. length (file_of saved l)) (take-append-drop k works) in
    omega arith

pub place-within : (before : ℕ) (saved : Saved) (works : List NodeWork) (count : ℕ) →
    place before saved works count ≤ length (file_of saved works)
place-within before saved works count = by (nat_le count before)
  where
    by : (b : Bool) → cond b 0 (length (file_of saved (take (count - before) works))) ≤ length (file_of saved works)
    by true = omega arith
    by false = file-within saved works (count - before)

pub place-push : (before : ℕ) (saved : Saved) (works more : List NodeWork) (count : ℕ) → count ≤ before + length works →
    place before saved (works ++ more) count ≡ place before saved works count
place-push before saved works more count within =
    ap (λ l. cond (nat_le count before) 0 (length (file_of saved l))) (take-append-le (count - before) works more (omega arith))

pub place-none : (before : ℕ) (saved : Saved) (works : List NodeWork) → place before saved works 0 ≤ 0
place-none before saved works = let e : place before saved works 0 ≡ 0 = place-below before saved works 0 (omega arith) in omega arith

-- what was written by a mark of the journal is written by where it is moved to
pub place-moved : (before all : ℕ) (saved save : Saved) (earlier later : List NodeWork) (saving : Saving) →
    all ≡ before + length earlier → saving.cut ≡ length (file_of saved earlier) → saving.size ≡ length (save_of save) →
    (count mark : ℕ) → place before saved (earlier ++ later) count ≤ mark → place all save later count ≤ moved_place saving mark
place-moved before all saved save earlier later saving sum cut size count mark early = by (le_or_lt count all)
  where
    by : (count ≤ all) ⊎ (all < count) → place all save later count ≤ moved_place saving mark
    by (inl h) = let e : place all save later count ≡ 0 = place-below all save later count h in omega arith
    by (inr h) =
        let e : place all save later count ≡ length (file_of save (take (count - all) later)) = place-above all save later count h in
        let f : place before saved (earlier ++ later) count ≡ length (file_of saved (take (count - before) (earlier ++ later))) =
        place-above before saved (earlier ++ later) count (omega arith) in
        let n : count - before ≡ length earlier + (count - all) = omega arith in
        let g : take (count - before) (earlier ++ later) ≡ earlier ++ take (count - all) later =
        ap (λ k. take k (earlier ++ later)) n ∙ take-append-add earlier later (count - all) in
        let one : length (file_of saved (earlier ++ take (count - all) later))
        ≡ length (file_of saved earlier) + length (journal_of (take (count - all) later)) =
        file-length saved earlier (take (count - all) later) in
        let same : length (file_of saved (take (count - before) (earlier ++ later)))
        ≡ length (file_of saved (earlier ++ take (count - all) later)) = ap (λ l. length (file_of saved l)) g in
        let two : length (save_of save ++ journal_of (take (count - all) later))
        ≡ length (save_of save) + length (journal_of (take (count - all) later)) =
        length-append (save_of save) (journal_of (take (count - all) later)) in
        omega arith

pub journal-size : (setup : Setup) (name : NodeName) (saved : Saved) (before works journal : List NodeWork) →
    StandsFor setup name saved before works journal → length journal ≡ length before + length works
journal-size setup name saved before works journal stands =
    ap length stands.same ∙ length-append before works
