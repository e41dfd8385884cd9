-- What becomes of the attempts that a timer looks at, and that it passes over none that asks for something.
use Rattle.std.proofs.Common.{◌≡◌, ℕ, zero, suc, ◌+◌, ◌-◌, ◌<◌, ◌≤◌, ◌⊎◌, Bool, true, false, cond, not, nat_eq, ◌&&◌, ◌||◌, List, [], ◌∷◌}
use Rattle.std.proofs.Common.{◌++◌, length, filter, Option, Some, None, slice_get, slice_set, refl, sym, ap, subst, ◌∙◌, arith}
use Rattle.std.proofs.Common.{Result, Ok, Err, OnOk, OnErr, get_or, inl, inr, ⊎_elim, true≢false, if◌then◌else◌}
use Rattle.std.specs.List.{list_any}
use Rattle.std.proofs.lemmas.Bool.{eqb-true, eqb-false, eq-eqb, and_parts, and_from}
use Rattle.std.proofs.lemmas.Bool.Decides.{nat_tests}
use Rattle.std.proofs.lemmas.Option.{slice_get_within, slice_get-get_or, none-some, same_Some}
use Rattle.std.proofs.lemmas.List.{length-append}
use Rattle.std.proofs.lemmas.List.Folds.{list_any-append}
use Rattle.std.specs.Prelude.{is_none}
use Rattle.rc_model.specs.Model.{ServerId, Grant, Row, same_id, up, GivenPart, Decision, Attempt, new_attempt, is_gathering}
use Rattle.rc_model.specs.Model.{parts_of, plan_messages, attempt_at, is_current, with_answer, is_granted_term, asks_again, asks_again_of}
use Rattle.rc_model.specs.Coordinator.{Coordinator}
use Rattle.rc_model.specs.CoordinatorStep as step
use Rattle.rc_attempts.specs.Lookups.{number_of, attempt_of}
use Rattle.rc_coordinator.specs.Recovering.{Recovering, is_granted}
use Rattle.rc_coordinator.specs.Asked.{has_open_part, is_open, waits, waits_at, asks_of, asks_of_all, IsIn, AllAbove, AreRising, AreAsked}

abbrev pub Current : Type 0
Current = List (ServerId × ℕ)

-- Numbers that rise

IsIn-above : (n m : ℕ) (ns : List ℕ) → AllAbove n ns → IsIn m ns → n < m
IsIn-above n m [] above at = absurd at
IsIn-above n m (k ∷ ks) above at =
    ⊎_elim (λ (e : m ≡ k). omega (arith, above.0, e)) (λ (rest : IsIn m ks). IsIn-above n m ks above.1 rest) at

AllAbove-append : (n m : ℕ) (ns : List ℕ) → AllAbove n ns → n < m → AllAbove n (ns ++ m ∷ [])
AllAbove-append n m [] above less = (less, tt)
AllAbove-append n m (k ∷ ks) above less = (above.0, AllAbove-append n m ks above.1 less)

pub AreRising-append : (n : ℕ) (ns : List ℕ) → AreRising ns → ((m : ℕ) → IsIn m ns → m < n) → AreRising (ns ++ n ∷ [])
AreRising-append n [] rising below = (tt, tt)
AreRising-append n (k ∷ ks) rising below =
    (AllAbove-append k n ks rising.0 (below k (inl refl)), AreRising-append n ks rising.1 (λ m at. below m (inr at)))

pub IsIn-append : (m n : ℕ) (ns : List ℕ) → IsIn m ns → IsIn m (ns ++ n ∷ [])
IsIn-append m n [] at = absurd at
IsIn-append m n (k ∷ ks) at = ⊎_elim (λ (e : m ≡ k). inl e) (λ (rest : IsIn m ks). inr (IsIn-append m n ks rest)) at

pub IsIn-last : (n : ℕ) (ns : List ℕ) → IsIn n (ns ++ n ∷ [])
IsIn-last n [] = inl refl
IsIn-last n (k ∷ ks) = inr (IsIn-last n ks)

pub IsIn-from_append : (m n : ℕ) (ns : List ℕ) → IsIn m (ns ++ n ∷ []) → IsIn m ns ⊎ (m ≡ n)
IsIn-from_append m n [] at = ⊎_elim (λ (e : m ≡ n). inr e) (λ (none : ⊥). absurd none) at
IsIn-from_append m n (k ∷ ks) at =
    ⊎_elim (λ (e : m ≡ k). inl (inl e)) (λ (rest : IsIn m (ks ++ n ∷ [])).
    ⊎_elim (λ (old : IsIn m ks). inl (inr old)) (λ (new : m ≡ n). inr new) (IsIn-from_append m n ks rest)) at

either : {X : Type 0} (P : X → Type 0) (b : Bool) (x y : X) → (b ≡ true → P x) → (b ≡ false → P y) → P (cond b x y)
either P true x y yes_ no_ = yes_ refl
either P false x y yes_ no_ = no_ refl

AllAbove-filter : (p : ℕ → Bool) (n : ℕ) (ns : List ℕ) → AllAbove n ns → AllAbove n (filter p ns)
AllAbove-filter p n [] above = tt
AllAbove-filter p n (k ∷ ks) above =
    let rest : AllAbove n (filter p ks) = AllAbove-filter p n ks above.1 in
    either (AllAbove n) (p k) (k ∷ filter p ks) (filter p ks) (λ _. (above.0, rest)) (λ _. rest)

AreRising-filter : (p : ℕ → Bool) (ns : List ℕ) → AreRising ns → AreRising (filter p ns)
AreRising-filter p [] rising = tt
AreRising-filter p (k ∷ ks) rising =
    let rest : AreRising (filter p ks) = AreRising-filter p ks rising.1 in
    either AreRising (p k) (k ∷ filter p ks) (filter p ks) (λ _. (AllAbove-filter p k ks rising.0, rest)) (λ _. rest)

IsIn-from_filter : (p : ℕ → Bool) (m : ℕ) (ns : List ℕ) → IsIn m (filter p ns) → IsIn m ns
IsIn-from_filter p m [] at = absurd at
IsIn-from_filter p m (k ∷ ks) at =
    either (λ those. IsIn m those → IsIn m (k ∷ ks)) (p k) (k ∷ filter p ks) (filter p ks)
    (λ _ there. ⊎_elim (λ (e : m ≡ k). inl e) (λ (rest : IsIn m (filter p ks)). inr (IsIn-from_filter p m ks rest)) there)
    (λ _ there. inr (IsIn-from_filter p m ks there)) at

IsIn-filter : (p : ℕ → Bool) (m : ℕ) (ns : List ℕ) → p m ≡ true → IsIn m ns → IsIn m (filter p ns)
IsIn-filter p m [] passes at = absurd at
IsIn-filter p m (k ∷ ks) passes at =
    either (IsIn m) (p k) (k ∷ filter p ks) (filter p ks)
    (λ _. ⊎_elim (λ (e : m ≡ k). inl e) (λ (rest : IsIn m ks). inr (IsIn-filter p m ks passes rest)) at)
    (λ not_k. ⊎_elim (λ (e : m ≡ k). absurd (true≢false (sym passes ∙ ap p e ∙ not_k)))
    (λ (rest : IsIn m ks). IsIn-filter p m ks passes rest) at)

-- Places of attempts

slice_get-append : (xs : List Attempt) (x : Attempt) (i : ℕ) → i < length xs → slice_get (xs ++ x ∷ []) i ≡ slice_get xs i
slice_get-append [] x i less = absurd (omega (arith, less))
slice_get-append (y ∷ ys) x zero less = refl
slice_get-append (y ∷ ys) x (suc i) less = slice_get-append ys x i (omega (arith, less))

slice_get-set_same : (xs : List Attempt) (x : Attempt) (i : ℕ) → i < length xs → slice_get (slice_set xs i x) i ≡ Some x
slice_get-set_same [] x i less = absurd (omega (arith, less))
slice_get-set_same (y ∷ ys) x zero less = refl
slice_get-set_same (y ∷ ys) x (suc i) less = slice_get-set_same ys x i (omega (arith, less))

slice_get-set_other : (xs : List Attempt) (x : Attempt) (i j : ℕ) → (i ≡ j → ⊥) → slice_get (slice_set xs i x) j ≡ slice_get xs j
slice_get-set_other [] x i j other = refl
slice_get-set_other (y ∷ ys) x zero zero other = absurd (other refl)
slice_get-set_other (y ∷ ys) x zero (suc j) other = refl
slice_get-set_other (y ∷ ys) x (suc i) zero other = refl
slice_get-set_other (y ∷ ys) x (suc i) (suc j) other = slice_get-set_other ys x i j (λ e. other (ap suc e))

pub length-set : (xs : List Attempt) (x : Attempt) (i : ℕ) → length (slice_set xs i x) ≡ length xs
length-set [] x i = refl
length-set (y ∷ ys) x zero = refl
length-set (y ∷ ys) x (suc i) = ap suc (length-set ys x i)

-- What becomes of those that are asked

pub attempt_of-there : (attempts : List Attempt) (number : ℕ) (attempt : Attempt) → attempt_of attempts number ≡ Some attempt →
    (0 < number) × (number ≤ length attempts) × (slice_get attempts (number - 1) ≡ Some attempt)
attempt_of-there attempts number attempt e = by (nat_eq number 0) refl e
  where
    by : (b : Bool) → nat_eq number 0 ≡ b → cond b None (slice_get attempts (number - 1)) ≡ Some attempt →
        (0 < number) × (number ≤ length attempts) × (slice_get attempts (number - 1) ≡ Some attempt)
    by true is e = absurd (none-some attempt e)
    by false is e =
        let above : 0 < number = omega (arith, eqb-false number 0 is) in
        (above, omega (arith, above, slice_get_within attempts (number - 1) attempt e), e)

attempt_of-at : (attempts : List Attempt) (number : ℕ) → 0 < number → attempt_of attempts number ≡ slice_get attempts (number - 1)
attempt_of-at attempts number above =
    let other : nat_eq number 0 ≡ false = grind (arith, nat_tests) in
    ap (λ b. cond b None (slice_get attempts (number - 1))) other

attempt_of-append : (attempts : List Attempt) (new : Attempt) (number : ℕ) → number ≤ length attempts →
    attempt_of (attempts ++ new ∷ []) number ≡ attempt_of attempts number
attempt_of-append attempts new number less = by (nat_eq number 0) refl
  where
    by : (b : Bool) → nat_eq number 0 ≡ b →
        cond b None (slice_get (attempts ++ new ∷ []) (number - 1)) ≡ cond b None (slice_get attempts (number - 1))
    by true is = refl
    by false is = slice_get-append attempts new (number - 1) (omega (arith, eqb-false number 0 is, less))

-- an attempt begins, and is its master's current one from now on
pub asked-begun : (attempts : List Attempt) (current now : Current) (grants : List Grant) (asked : List ℕ)
    (master : ServerId) (number : ℕ) → number ≡ length attempts + 1 →
    ((other : ServerId) → number_of now other ≡ cond (same_id master other) number (number_of current other)) →
    AreAsked attempts current grants asked → AreAsked (attempts ++ new_attempt master ∷ []) now grants (asked ++ number ∷ [])
asked-begun attempts current now grants asked master number is updated before =
    let longer : length (attempts ++ new_attempt master ∷ []) ≡ length attempts + 1 =
    length-append attempts (new_attempt master ∷ []) in
    record {
      rising = AreRising-append number asked before.rising (λ m at. omega (arith, is, (before.within m at).1));
      within = λ m at.
          ⊎_elim (λ (old : IsIn m asked). ((before.within m old).0, omega (arith, longer, (before.within m old).1)))
          (λ (new : m ≡ number). (omega (arith, is, new), omega (arith, longer, is, new))) (IsIn-from_append m number asked at);
      all = λ m attempt there waiting.
          by m attempt there waiting (nat_eq m number) refl (attempt_of-there (attempts ++ new_attempt master ∷ []) m attempt there).1;
    }
  where
    still : (m : ℕ) (attempt : Attempt) (b : Bool) → nat_eq m number ≡ false →
        (nat_eq (cond b number (number_of current attempt.master)) m && is_open grants attempt.decided) ≡ true →
        waits current grants m attempt ≡ true
    still m attempt true other waiting =
        let same : number ≡ m = eqb-true number m (and_parts (nat_eq number m) (is_open grants attempt.decided) waiting).0 in
        absurd (true≢false (sym (eq-eqb m number (sym same)) ∙ other))
    still m attempt false other waiting = waiting

    by : (m : ℕ) (attempt : Attempt) → attempt_of (attempts ++ new_attempt master ∷ []) m ≡ Some attempt →
        waits now grants m attempt ≡ true → (b : Bool) → nat_eq m number ≡ b →
        m ≤ length (attempts ++ new_attempt master ∷ []) → IsIn m (asked ++ number ∷ [])
    by m attempt there waiting true e within =
        subst (λ n. IsIn n (asked ++ number ∷ [])) (sym (eqb-true m number e)) (IsIn-last number asked)
    by m attempt there waiting false e within =
        let less : m ≤ length attempts =
        omega (arith, is, length-append attempts (new_attempt master ∷ []), within, eqb-false m number e) in
        let was : waits current grants m attempt ≡ true = still m attempt (same_id master attempt.master) e
        (ap (λ n. nat_eq n m && is_open grants attempt.decided) (sym (updated attempt.master)) ∙ waiting) in
        IsIn-append m number asked
        (before.all m attempt (sym (attempt_of-append attempts (new_attempt master) m less) ∙ there) was)

-- an attempt is changed, and waits for nothing then unless it did before
pub asked-changed : (attempts : List Attempt) (current : Current) (grants : List Grant) (asked : List ℕ) (number : ℕ)
    (attempt changed : Attempt) → 0 < number → attempt_of attempts number ≡ Some attempt →
    (waits current grants number changed ≡ true → waits current grants number attempt ≡ true) →
    AreAsked attempts current grants asked → AreAsked (slice_set attempts (number - 1) changed) current grants asked
asked-changed attempts current grants asked number attempt changed above there as_before before = record {
  rising = before.rising;
  within = λ m at.
      ((before.within m at).0, omega (arith, length-set attempts changed (number - 1), (before.within m at).1));
  all = λ m one here waiting. by m one waiting
      (attempt_of-there (slice_set attempts (number - 1) changed) m one here) (nat_eq number m) refl;
}
  where
    by : (m : ℕ) (one : Attempt) → waits current grants m one ≡ true →
        (0 < m) × (m ≤ length (slice_set attempts (number - 1) changed)) ×
        (slice_get (slice_set attempts (number - 1) changed) (m - 1) ≡ Some one) →
        (b : Bool) → nat_eq number m ≡ b → IsIn m asked
    by m one waiting here true e =
        let same : number ≡ m = eqb-true number m e in
        let old = attempt_of-there attempts number attempt there in
        let is : Some changed ≡ Some one =
        sym (slice_get-set_same attempts changed (number - 1) (slice_get_within attempts (number - 1) attempt old.2))
        ∙ ap (λ n. slice_get (slice_set attempts (number - 1) changed) (n - 1)) same ∙ here.2 in
        let waited : waits current grants number changed ≡ true =
        ap (waits current grants number) (same_Some changed one is) ∙ ap (λ n. waits current grants n one) same ∙ waiting in
        subst (λ n. IsIn n asked) same (before.all number attempt there (as_before waited))
    by m one waiting here false e =
        let other : number - 1 ≡ m - 1 → ⊥ = λ same. eqb-false number m e (omega (arith, same, above, here.0)) in
        before.all m one
        (attempt_of-at attempts m here.0 ∙ sym (slice_get-set_other attempts changed (number - 1) (m - 1) other) ∙ here.2)
        waiting

-- the attempt that stands at a number's place
pub attempt_of-read : (attempts : List Attempt) (number : ℕ) (was : Attempt) → 0 < number → number ≤ length attempts →
    was ≡ get_or attempts (number - 1) was → attempt_of attempts number ≡ Some was
attempt_of-read attempts number was above within is =
    attempt_of-at attempts number above ∙ slice_get-get_or attempts (number - 1) was (omega (arith, above, within))
    ∙ ap Some (sym is)

abbrev pub with_attempt : Recovering → ℕ → Attempt → Recovering
with_attempt r number attempt = record r { attempts = slice_set r.attempts (number - 1) attempt }

pub with-changed : (r : Recovering) (number : ℕ) (was attempt changed : Attempt) (change : Attempt → Attempt) →
    attempt_of r.attempts number ≡ Some was → attempt_of r.attempts number ≡ Some attempt → changed ≡ change was →
    with_attempt r number changed ≡ with_attempt r number (change attempt)
with-changed r number was attempt changed change there at is =
    ap (with_attempt r number) (is ∙ ap change (same_Some was attempt (sym there ∙ at)))

-- an answer changes nothing of what an attempt waits for
pub answered-waits : {T E : Type 0} (result : Result T E) (current : Current) (grants : List Grant) (number : ℕ)
    (was changed : Attempt) (from : ServerId) (rows : List Row) → OnOk result (changed ≡ with_answer from rows was) →
    OnErr result (changed ≡ was) → waits current grants number changed ≡ true → waits current grants number was ≡ true
answered-waits (Ok value) current grants number was changed from rows ok err e = ap (waits current grants number) (sym ok) ∙ e
answered-waits (Err fault) current grants number was changed from rows ok err e = ap (waits current grants number) (sym err) ∙ e

undecided-open : (grants : List Grant) (decided : Option Decision) → is_none decided ≡ true → is_open grants decided ≡ true
undecided-open grants None e = refl
undecided-open grants (Some decision) e = absurd (true≢false (sym e))

-- and before a decision it waits for one
pub decided-waits : (current : Current) (grants : List Grant) (number : ℕ) (was changed : Attempt) (decision : Decision) →
    is_gathering was ≡ true → changed ≡ record was { decided = Some decision } →
    waits current grants number changed ≡ true → waits current grants number was ≡ true
decided-waits current grants number was changed decision gathers is e =
    let now : waits current grants number (record was { decided = Some decision }) ≡ true =
    ap (waits current grants number) (sym is) ∙ e in
    and_from (nat_eq (number_of current was.master) number) (is_open grants was.decided)
    (and_parts (nat_eq (number_of current was.master) number) (is_open grants (Some decision)) now).0
    (undecided-open grants was.decided gathers)

fewer-open : (grants : List Grant) (grant : Grant) (parts : List GivenPart) →
    has_open_part (grants ++ grant ∷ []) parts ≡ true → has_open_part grants parts ≡ true
fewer-open grants grant [] e = e
fewer-open grants grant (given ∷ parts) e =
    by (fewer-open grants grant parts) (is_granted grants given.part.term)
    (ap (λ b. not b || has_open_part (grants ++ grant ∷ []) parts)
    (sym (list_any-append (λ one. nat_eq one.term given.part.term) grants (grant ∷ []))) ∙ e)
  where
    by : (has_open_part (grants ++ grant ∷ []) parts ≡ true → has_open_part grants parts ≡ true) → (b : Bool) →
        (not (b || (nat_eq grant.term given.part.term || false)) || has_open_part (grants ++ grant ∷ []) parts) ≡ true →
        (not b || has_open_part grants parts) ≡ true
    by others true e = others e
    by others false e = refl

fewer-waits : (current : Current) (grants : List Grant) (grant : Grant) (number : ℕ) (attempt : Attempt) →
    waits current (grants ++ grant ∷ []) number attempt ≡ true → waits current grants number attempt ≡ true
fewer-waits current grants grant number attempt e = by attempt.decided e
  where
    by : (decided : Option Decision) →
        (nat_eq (number_of current attempt.master) number && is_open (grants ++ grant ∷ []) decided) ≡ true →
        (nat_eq (number_of current attempt.master) number && is_open grants decided) ≡ true
    by None e = e
    by (Some decision) e =
        let parts = and_parts (nat_eq (number_of current attempt.master) number) (has_open_part (grants ++ grant ∷ []) decision.parts) e in
        and_from (nat_eq (number_of current attempt.master) number) (has_open_part grants decision.parts) parts.0
        (fewer-open grants grant decision.parts parts.1)

-- with one more grant nothing waits that did not wait before
pub asked-granted : (attempts : List Attempt) (current : Current) (grants : List Grant) (asked : List ℕ) (grant : Grant) →
    AreAsked attempts current grants asked → AreAsked attempts current (grants ++ grant ∷ []) asked
asked-granted attempts current grants asked grant before = record {
  rising = before.rising;
  within = before.within;
  all = λ m attempt there waiting. before.all m attempt there (fewer-waits current grants grant m attempt waiting);
}

-- those stay that wait
pub asked-kept : (attempts : List Attempt) (current : Current) (grants : List Grant) (asked : List ℕ) →
    AreAsked attempts current grants asked →
    AreAsked attempts current grants (filter (λ number. waits_at current grants number (attempt_of attempts number)) asked)
asked-kept attempts current grants asked before =
    let test : ℕ → Bool = λ number. waits_at current grants number (attempt_of attempts number) in
    record {
      rising = AreRising-filter test asked before.rising;
      within = λ m at. before.within m (IsIn-from_filter test m asked at);
      all = λ m attempt there waiting.
          IsIn-filter test m asked (ap (waits_at current grants m) there ∙ waiting) (before.all m attempt there waiting);
    }

-- What is asked

parts-granted : (c : Coordinator) (id : ServerId) (parts : List GivenPart) → has_open_part c.grants parts ≡ false →
    list_any (λ part. not (is_granted_term c part)) (parts_of id parts) ≡ false
parts-granted c id [] e = refl
parts-granted c id (given ∷ parts) e =
    by (parts-granted c id parts) (same_id id given.to) (not (is_granted c.grants given.part.term)) refl e
  where
    by : (has_open_part c.grants parts ≡ false → list_any (λ part. not (is_granted_term c part)) (parts_of id parts) ≡ false) →
        (mine ungranted : Bool) → not (is_granted c.grants given.part.term) ≡ ungranted →
        (ungranted || has_open_part c.grants parts) ≡ false →
        list_any (λ part. not (is_granted_term c part)) (cond mine (given.part ∷ parts_of id parts) (parts_of id parts)) ≡ false
    by others mine true is e = absurd (true≢false e)
    by others true false is e =
        ap (λ b. b || list_any (λ part. not (is_granted_term c part)) (parts_of id parts)) is ∙ others e
    by others false false is e = others e

nobody-open : (c : Coordinator) (decision : Decision) (ids : List ServerId) → has_open_part c.grants decision.parts ≡ false →
    filter (step.has_open_part c decision) ids ≡ []
nobody-open c decision [] e = refl
nobody-open c decision (id ∷ ids) e =
    ap (λ b. cond b (id ∷ filter (step.has_open_part c decision) ids) (filter (step.has_open_part c decision) ids))
    (parts-granted c id decision.parts e) ∙ nobody-open c decision ids e

-- an attempt that doesn't wait asks nothing
quiet-asks_nothing : (c : Coordinator) (number : ℕ) (attempt : Attempt) →
    (is_current c number attempt && is_open c.grants attempt.decided) ≡ false →
    asks_of c number (Some attempt) ≡ []
quiet-asks_nothing c number attempt e = by (is_current c number attempt) attempt.decided e
  where
    by : (b : Bool) (decided : Option Decision) → (b && is_open c.grants decided) ≡ false →
        (if b then asks_again c number attempt decided else []) ≡ []
    by false decided e = refl
    by true None e = absurd (true≢false e)
    by true (Some decision) e =
        ap (plan_messages number attempt.master decision) (nobody-open c decision (up c.servers) e)

plus-none : (n : ℕ) → n + 0 ≡ n
plus-none n = omega arith

one-on : (from place : ℕ) → from + 1 + place ≡ from + suc place
one-on from place = omega arith

-- the attempts from this number on ask what those ask of them that are asked
asks-from : (c : Coordinator) (from : ℕ) (attempts : List Attempt) (asked : List ℕ) → AreRising asked →
    ((m : ℕ) → IsIn m asked → from ≤ m) → ((m : ℕ) → IsIn m asked → m < from + length attempts) →
    ((place : ℕ) → attempt_at c (from + place) ≡ slice_get attempts place) →
    ((place : ℕ) (attempt : Attempt) → slice_get attempts place ≡ Some attempt →
    (is_current c (from + place) attempt && is_open c.grants attempt.decided) ≡ true → IsIn (from + place) asked) →
    asks_of_all c asked ≡ asks_again_of c from attempts
asks-from c from [] [] rising low high there all = refl
asks-from c from [] (n ∷ ns) rising low high there all =
    absurd (omega (arith, low n (inl refl), high n (inl refl)))
asks-from c from (attempt ∷ attempts) [] rising low high there all =
    by (is_current c (from + 0) attempt && is_open c.grants attempt.decided) refl
    (asks-from c (from + 1) attempts [] rising (λ m at. absurd at) (λ m at. absurd at)
    (λ place. ap (attempt_at c) (one-on from place) ∙ there (suc place))
    (λ place one here waiting. all (suc place) one here
    (ap (λ n. is_current c n one && is_open c.grants one.decided) (sym (one-on from place)) ∙ waiting)))
  where
    by : (b : Bool) → (is_current c (from + 0) attempt && is_open c.grants attempt.decided) ≡ b →
        [] ≡ asks_again_of c (from + 1) attempts → [] ≡ asks_again_of c from (attempt ∷ attempts)
    by true e others = absurd (all 0 attempt refl e)
    by false e others =
        others ∙ ap (λ those. those ++ asks_again_of c (from + 1) attempts)
        (sym (quiet-asks_nothing c from attempt
        (ap (λ n. is_current c n attempt && is_open c.grants attempt.decided) (sym (plus-none from)) ∙ e)))
asks-from c from (attempt ∷ attempts) (n ∷ ns) rising low high there all =
    by (nat_eq n from) refl
    (λ same. asks-from c (from + 1) attempts ns rising.1
    (λ m at. omega (arith, same, IsIn-above n m ns rising.0 at))
    (λ m at. omega (arith, high m (inr at)))
    (λ place. ap (attempt_at c) (one-on from place) ∙ there (suc place))
    (λ place one here waiting.
    ⊎_elim (λ (e : from + suc place ≡ n). absurd (omega (arith, e, same)))
    (λ (rest : IsIn (from + suc place) ns). subst (λ k. IsIn k ns) (sym (one-on from place)) rest)
    (all (suc place) one here
    (ap (λ k. is_current c k one && is_open c.grants one.decided) (sym (one-on from place)) ∙ waiting))))
    (λ above. asks-from c (from + 1) attempts (n ∷ ns) rising
    (λ m at. ⊎_elim (λ (e : m ≡ n). omega (arith, above, e))
    (λ (rest : IsIn m ns). omega (arith, above, IsIn-above n m ns rising.0 rest)) at)
    (λ m at. omega (arith, high m at))
    (λ place. ap (attempt_at c) (one-on from place) ∙ there (suc place))
    (λ place one here waiting. subst (λ k. IsIn k (n ∷ ns)) (sym (one-on from place)) (all (suc place) one here
    (ap (λ k. is_current c k one && is_open c.grants one.decided) (sym (one-on from place)) ∙ waiting))))
  where
    never : (b : Bool) → (is_current c from attempt && is_open c.grants attempt.decided) ≡ b → from < n → b ≡ false
    never false e above = refl
    never true e above =
        absurd (⊎_elim (λ (e : from + 0 ≡ n). omega (arith, e, above))
        (λ (rest : IsIn (from + 0) ns). omega (arith, above, IsIn-above n (from + 0) ns rising.0 rest))
        (all 0 attempt refl (ap (λ k. is_current c k attempt && is_open c.grants attempt.decided) (plus-none from) ∙ e)))

    by : (b : Bool) → nat_eq n from ≡ b → (n ≡ from → asks_of_all c ns ≡ asks_again_of c (from + 1) attempts) →
        (from < n → asks_of_all c (n ∷ ns) ≡ asks_again_of c (from + 1) attempts) →
        asks_of_all c (n ∷ ns) ≡ asks_again_of c from (attempt ∷ attempts)
    by true e here later =
        let same : n ≡ from = eqb-true n from e in
        let found : attempt_at c n ≡ Some attempt = ap (attempt_at c) (same ∙ sym (plus-none from)) ∙ there 0 in
        ap (λ found. asks_of c n found ++ asks_of_all c ns) found
        ∙ ap (λ k. asks_of c k (Some attempt) ++ asks_of_all c ns) same
        ∙ ap (λ rest. asks_of c from (Some attempt) ++ rest) (here same)
    by false e here later =
        let above : from < n = omega (arith, low n (inl refl), eqb-false n from e) in
        let quiet : (is_current c from attempt && is_open c.grants attempt.decided) ≡ false =
        never (is_current c from attempt && is_open c.grants attempt.decided) refl above in
        later above ∙ ap (λ those. those ++ asks_again_of c (from + 1) attempts) (sym (quiet-asks_nothing c from attempt quiet))

-- nobody is passed over who asks for something
pub asks-of_asked : (c : Coordinator) (current : Current) (asked : List ℕ) → c.current ≡ number_of current →
    AreAsked c.attempts current c.grants asked → asks_of_all c asked ≡ asks_again_of c 1 c.attempts
asks-of_asked c current asked is those =
    asks-from c 1 c.attempts asked those.rising
    (λ m at. omega (arith, (those.within m at).0))
    (λ m at. omega (arith, (those.within m at).1))
    (λ place. there place)
    (λ place attempt here waiting. those.all (1 + place) attempt (there place ∙ here)
    (ap (λ f. nat_eq (f attempt.master) (1 + place) && is_open c.grants attempt.decided) (sym is) ∙ waiting))
  where
    there : (place : ℕ) → attempt_at c (1 + place) ≡ slice_get c.attempts place
    there place =
        let back : 1 + place - 1 ≡ place = omega arith in
        attempt_of-at c.attempts (1 + place) (omega arith) ∙ ap (slice_get c.attempts) back
