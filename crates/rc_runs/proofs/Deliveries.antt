-- One event more: the marks and the numbers that wait still fit.
use Rattle.std.proofs.Common.{◌≡◌, ◌<◌, ℕ, zero, suc, Bool, true, false, ◌||◌, List, [], ◌∷◌, ◌++◌, length, Option}
use Rattle.std.proofs.Common.{Some, None, slice_get, slice_set, refl, sym, ap, ◌∙◌, arith, true≢false, length-append}
use Rattle.std.specs.List.{list_any}
use Rattle.std.proofs.lemmas.List.Folds.{list_any-append}
use Rattle.rc_types.specs.declared.events.Event.TheVariants as event
use Rattle.rc_model.specs.Model.{Event, Message}
use Rattle.rc_runs.specs.declared.passing.Passing.{Passing}
use Rattle.rc_runs.specs.Delivered.{is_delivered, delivers}
use Rattle.rc_runs.specs.Lanes.{Lane, marked}
use Rattle.rc_runs.specs.Waiting.{is_due_marked, Fits}
use Rattle.rc_runs.specs.Letters.{Letters, Waits}
use Rattle.rc_runs.proofs.Waitings.{mark_at, mark_length}

or_false : (a : Bool) → (a || false) ≡ a
or_false true = refl
or_false false = refl

-- what was sent stands where it stood
still_at : (xs ys : List Message) (n : ℕ) → n < length xs → slice_get (xs ++ ys) n ≡ slice_get xs n
still_at [] ys n lt = absurd (omega (arith, lt))
still_at (x ∷ xs) ys zero lt = refl
still_at (x ∷ xs) ys (suc n) lt = still_at xs ys n (omega (arith, lt))

-- what is due by more marks is due by fewer
due_before : (passing : Passing) (mark more : Bool) (message : Option Message) →
    is_due_marked passing (mark || more) message ≡ true → is_due_marked passing mark message ≡ true
due_before passing true more message due = due
due_before passing false true None due = due
due_before passing false true (Some message) due = absurd (true≢false (sym due))
due_before passing false false message due = due

-- after an event, with the marks that it asks for
fits_after : (events : List Event) (sent more : List Message) (one : Event) (delivered marks : List Bool)
    (waiting : List Lane) → Fits events sent delivered waiting
    → length marks ≡ length delivered → ((n : ℕ) → marked marks n ≡ (marked delivered n || delivers n one)) →
    Fits (events ++ one ∷ []) (sent ++ more) marks waiting
fits_after events sent more one delivered marks waiting fits same says = record {
  marks = λ n. says n ∙ rw (fits.marks n, list_any-append (delivers n) events (one ∷ [])) (in_one n);
  within = omega (arith, same, fits.within, length-append sent more);
  ordered = rw same fits.ordered;
  covers = λ passing n lt due. fits.covers passing n (omega (arith, lt, same))
      (due_before passing (marked delivered n) (delivers n one) (slice_get sent n)
      (rw (← says n, ← still_at sent more n (omega (arith, lt, same, fits.within))) due));
}
  where
    in_one : (n : ℕ) → (is_delivered n events || delivers n one) ≡ (is_delivered n events || list_any (delivers n) (one ∷ []))
    in_one n = ap (λ b. is_delivered n events || b) (sym (or_false (delivers n one)))

-- after a delivery
pub fits_delivered : (events : List Event) (sent more : List Message) (number : ℕ) (delivered marks : List Bool)
    (waiting numbers : List Lane) → Fits events sent delivered waiting
    → number < length delivered → marks ≡ slice_set delivered number true → numbers ≡ waiting →
    Fits (events ++ event.Deliver number ∷ []) (sent ++ more) marks numbers
fits_delivered events sent more number delivered marks waiting numbers fits within set same =
    rw (set, same) (fits_after events sent more (event.Deliver number) delivered (slice_set delivered number true) waiting fits
    (mark_length delivered number) (λ n. mark_at delivered n number within))

-- after an event that delivers nothing
pub waits_other : (events : List Event) (sent more : List Message) (one : Event) (letters : Letters) → Waits events sent letters
    → ((n : ℕ) → delivers n one ≡ false) → Waits (events ++ one ∷ []) (sent ++ more) letters
waits_other events sent more one letters waits other =
    fits_after events sent more one letters.delivered letters.delivered letters.waiting waits refl
    (λ n. rw (other n) (sym (or_false (marked letters.delivered n))))
