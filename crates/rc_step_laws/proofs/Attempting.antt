-- The coordinator's list of attempts, of which one is added or changed; and what its moves have in common.
use Rattle.std.proofs.Common.{Option, ◌≡◌, ◌⊎◌, ℕ, zero, suc, ◌+◌, ◌-◌, ◌≤◌, true, false, List, [], ◌∷◌, ◌++◌, length}
use Rattle.std.proofs.Common.{slice_get, slice_set, Some, None, Ok, refl, sym, ap, ◌∙◌, subst, inl, inr, arith}
use Rattle.std.proofs.lemmas.Bool.{eqb-false}
use Rattle.std.proofs.lemmas.Bool.Decides.{nat_tests}
use Rattle.rc_model.specs.Model.{ServerId, Pair, Message, Replicas, put_id, to_coordinator}
use Rattle.rc_model.specs.Model.{has_crashed, up_rows, is_below, pick, Attempt, Decision, new_coordinator, attempt_at}
use Rattle.rc_types.specs.declared.ids.Addr.TheVariants.{Coordinator as AtCoordinator}
use Rattle.std.proofs.lemmas.List.{length-append, length-set}
use Rattle.std.specs.Prelude.{is_none}
use Rattle.rc_model.specs.Coordinator.{Coordinator}
use Rattle.rc_model.proofs.Members.{In-left}
use Rattle.rc_model.proofs.Sending.{Each}
use Rattle.rc_step_laws.specs.All.{OnDifferentHosts, IsNumbered, IsOf, GoodAttempt, GoodCoordinator, AttemptLater, CoordinatorMoved}
use Rattle.rc_step_laws.specs.All.{coordinator_body_said}
use Rattle.rc_step_laws.proofs.Lists.{get-left, get-end, get-append, get-within, get-set, set-get}
use Rattle.rc_model.proofs.Tables.{put_id_each}

-- Pairs

pub below-refl : (p : Pair) → is_below p p ≡ false
below-refl p = grind (arith, nat_tests)

pub below-trans : (a b c : Pair) → is_below b a ≡ false → is_below c b ≡ false → is_below c a ≡ false
below-trans a b c p q = grind (arith, nat_tests)

-- Numbers

-- a number names one attempt
pub numbered-same : {attempts : List Attempt} {number : ℕ} {one other : Attempt} → IsNumbered attempts number one →
    IsNumbered attempts number other → one ≡ other
numbered-same {attempts} {number} {one} {other} p q = search arith

-- an attempt that is found by a number has it
pub numbered-at : (c : Coordinator) {number : ℕ} (attempt : Attempt) → attempt_at c number ≡ Some attempt →
    IsNumbered c.attempts number attempt
numbered-at c {number} attempt = search (arith, eqb-false)

-- what is put at a place stands there
set-here : {X : Type 0} (xs : List X) (k : ℕ) {x new : X} → slice_get xs k ≡ Some x → slice_get (slice_set xs k new) k ≡ Some new
set-here [] k e = cc
set-here (y ∷ xs) zero e = refl
set-here (y ∷ xs) (suc k) e = set-here xs k e

-- a changed attempt has the number of the one that was there
pub numbered-set : {attempts : List Attempt} {number : ℕ} {was now : Attempt} → IsNumbered attempts number was →
    IsNumbered (slice_set attempts (number - 1) now) number now
numbered-set {attempts} {number} {now} p = search (arith, set-here)

-- What stays

-- servers crash for good, and least pairs rise, but for those of the crashed
pub record Kept (old new : Coordinator) : Type 0 where
  pub crashed : (m : ServerId) → has_crashed old.servers m ≡ true → has_crashed new.servers m ≡ true
  pub least : (m : ServerId) → is_below (new.least m) (old.least m) ≡ false
  pub least_stays : (m : ServerId) → has_crashed old.servers m ≡ true → new.least m ≡ old.least m

pub kept-refl : {c : Coordinator} → Kept c c
kept-refl {c} = record { crashed = λ m e. e; least = λ m. below-refl (c.least m); least_stays = λ m e. refl }

-- an attempt stays good
pub attempt-kept : {sent : List Message} (messages : List Message) {old new : Coordinator} {number : ℕ} {attempt : Attempt} →
    Kept old new → GoodAttempt sent old number attempt → GoodAttempt (sent ++ messages) new number attempt
attempt-kept {sent} messages {number} {attempt} kept good = record {
  crashed = kept.crashed attempt.master good.crashed;
  answered = λ y rows at. In-left (to_coordinator y (Replicas number rows)) sent messages (good.answered y rows at);
  picked = λ decision e. subst (λ least. pick least attempt.replies ≡ Ok decision.plan)
      (sym (kept.least_stays attempt.master good.crashed)) (good.picked decision e);
}

pub attempt_later-refl : {attempts : List Attempt} {number : ℕ} {attempt : Attempt} →
    IsNumbered attempts number attempt → AttemptLater attempts number attempt
attempt_later-refl {attempt} numbered = record { now = attempt; numbered = numbered; master = refl; decided = inl refl }

-- what a move says
abbrev pub Says : Coordinator → Message → Type 0
Says c message = (message.from ≡ AtCoordinator) × coordinator_body_said c message.to message.body

-- Moves

-- the attempts stay as they are
pub moved-kept : {sent : List Message} {old new : Coordinator} {messages : List Message} → GoodCoordinator sent old →
    new.attempts ≡ old.attempts → new.current ≡ old.current → Kept old new →
    OnDifferentHosts (up_rows new.servers.rows) →
    Each (Says new) messages → CoordinatorMoved sent old (new, messages)
moved-kept {old} {new} {messages} good same current kept apart say = record {
  good = record {
    attempts = λ number attempt numbered. attempt-kept messages kept
        (good.attempts number attempt (subst (λ attempts. IsNumbered attempts number attempt) same numbered));
    servers = apart;
    current_numbered = λ m. subst (λ (attempts : List Attempt). new.current m ≤ length attempts) (sym same)
        (subst (λ (table : ServerId → ℕ). table m ≤ length old.attempts) (sym current) (good.current_numbered m));
    current_master = λ m attempt numbered. good.current_master m attempt
        (subst (λ (table : ServerId → ℕ). IsNumbered old.attempts (table m) attempt) current
        (subst (λ attempts. IsNumbered attempts (new.current m) attempt) same numbered));
  };
  later = record {
    attempts = λ number attempt numbered. attempt_later-refl
        (subst (λ attempts. IsNumbered attempts number attempt) (sym same) numbered);
    crashed = kept.crashed;
    least = kept.least;
    least_stays = kept.least_stays;
  };
  from = λ message at. (say message at).0;
  says = λ message at. (say message at).1;
}

-- an attempt is added, for a master that has crashed
pub moved-added : {sent : List Message} {old new : Coordinator} {messages : List Message} (attempt : Attempt) →
    GoodCoordinator sent old → new.attempts ≡ old.attempts ++ attempt ∷ [] →
    new.current ≡ put_id old.current attempt.master (length old.attempts + 1) → Kept old new → OnDifferentHosts (up_rows new.servers.rows) →
    has_crashed new.servers attempt.master ≡ true → attempt.replies ≡ [] → attempt.decided ≡ None → Each (Says new) messages →
    CoordinatorMoved sent old (new, messages)
moved-added {sent} {old} {new} {messages} attempt good same current kept apart crashed empty undecided say = record {
  good = record {
    attempts = λ number one numbered. good_now number one (subst (λ attempts. IsNumbered attempts number one) same numbered);
    servers = apart;
    current_numbered = λ m. subst (λ (attempts : List Attempt). new.current m ≤ length attempts) (sym same)
        (subst (λ (table : ServerId → ℕ). table m ≤ length (old.attempts ++ attempt ∷ [])) (sym current) (upto m));
    current_master = λ m one numbered.
        (of_current m one (subst (λ (table : ServerId → ℕ). IsNumbered (old.attempts ++ attempt ∷ []) (table m) one)
        current (subst (λ attempts. IsNumbered attempts (new.current m) one) same numbered)));
  };
  later = record {
    attempts = λ number one numbered. attempt_later-refl (subst (λ attempts. IsNumbered attempts number one) (sym same)
        (record {
          place = numbered.place;
          number_is = numbered.number_is;
          attempt_is = get-left old.attempts (attempt ∷ []) numbered.place numbered.attempt_is;
        }));
    crashed = kept.crashed;
    least = kept.least;
    least_stays = kept.least_stays;
  };
  from = λ message at. (say message at).0;
  says = λ message at. (say message at).1;
}
  where
    upto : (m : ServerId) → put_id old.current attempt.master (length old.attempts + 1) m ≤ length (old.attempts ++ attempt ∷ [])
    upto m = search (arith, put_id_each, length-append)

    -- the one at the end, or one that was there
    at-end : (number : ℕ) (one : Attempt) → IsNumbered (old.attempts ++ attempt ∷ []) number one →
        (number ≡ length old.attempts + 1 → one ≡ attempt) × (number ≤ length old.attempts →
        IsNumbered old.attempts number one)
    at-end number one numbered = search (arith, get-append, get-within)

    of_current : (m : ServerId) (one : Attempt) →
        IsNumbered (old.attempts ++ attempt ∷ []) (put_id old.current attempt.master (length old.attempts + 1) m) one →
        one.master ≡ m
    of_current m one = put_id_each (λ (k : ServerId) (n : ℕ). IsNumbered (old.attempts ++ attempt ∷ []) n one →
        one.master ≡ k)
        (λ numbered. ap (λ (some : Attempt). some.master) ((at-end (length old.attempts + 1) one numbered).0 refl))
        (λ other numbered. good.current_master other one ((at-end (old.current other) one numbered).1 (good.current_numbered other))) m

    of_new : (number : ℕ) → GoodAttempt (sent ++ messages) new number attempt
    of_new number = search arith

    good_now : (number : ℕ) (one : Attempt) → IsNumbered (old.attempts ++ attempt ∷ []) number one →
        GoodAttempt (sent ++ messages) new number one
    good_now number one numbered = by (get-append old.attempts (attempt ∷ []) numbered.place numbered.attempt_is)
      where
        last : (j : ℕ) → slice_get (attempt ∷ []) j ≡ Some one → attempt ≡ one
        last zero e = cc
        last (suc j) e = cc

        by : (slice_get old.attempts numbered.place ≡ Some one) ⊎
            ((j : ℕ) × (numbered.place ≡ length old.attempts + j) × (slice_get (attempt ∷ []) j ≡ Some one)) →
            GoodAttempt (sent ++ messages) new number one
        by (inl there) = attempt-kept messages kept (good.attempts number one
            (record { place = numbered.place; number_is = numbered.number_is; attempt_is = there }))
        by (inr (j, p, q)) = subst (GoodAttempt (sent ++ messages) new number) (last j q) (of_new number)

-- its number is one more than there were
pub of-added : (attempts : List Attempt) (new : Attempt) → IsOf (attempts ++ new ∷ []) (length attempts + 1) new.master
of-added attempts new = search (arith, get-end)

-- an attempt that is gathering is changed
pub moved-changed : {sent : List Message} {old new : Coordinator} {messages : List Message} {number : ℕ}
    {was now : Attempt} → GoodCoordinator sent old → IsNumbered old.attempts number was →
    new.attempts ≡ slice_set old.attempts (number - 1) now → new.current ≡ old.current → Kept old new →
    OnDifferentHosts (up_rows new.servers.rows) →
    now.master ≡ was.master → was.decided ≡ None → GoodAttempt (sent ++ messages) new number now → Each (Says new) messages →
    CoordinatorMoved sent old (new, messages)
moved-changed {sent} {old} {new} {messages} {number} {was} {now} good is_was same current kept apart master undecided
    good_now say = record {
      good = record {
        attempts = λ other one numbered. good_of other one (subst (λ attempts. IsNumbered attempts other one) same numbered);
        servers = apart;
        current_numbered = λ m. subst (λ (attempts : List Attempt). new.current m ≤ length attempts) (sym same)
            (subst (λ (table : ServerId → ℕ). table m ≤ length (slice_set old.attempts (number - 1) now)) (sym current)
            (let was_upto : old.current m ≤ length old.attempts = good.current_numbered m in
            omega (arith, was_upto, length-set old.attempts (number - 1) now)));
        current_master = λ m one numbered.
            of_current m one (subst (λ (table : ServerId → ℕ). IsNumbered (slice_set old.attempts (number - 1) now)
            (table m) one) current (subst (λ attempts. IsNumbered attempts (new.current m) one) same numbered));
      };
      later = record {
        attempts = λ other one numbered. subst (λ attempts. AttemptLater attempts other one) (sym same) (later other one numbered);
        crashed = kept.crashed;
        least = kept.least;
        least_stays = kept.least_stays;
      };
      from = λ message at. (say message at).0;
      says = λ message at. (say message at).1;
    }
  where
    same-number : (place other : ℕ) → place ≡ number - 1 → other ≡ place + 1 → number ≡ other
    same-number place other p q = let a : number ≡ is_was.place + 1 = is_was.number_is in omega arith

    of_current : (m : ServerId) (one : Attempt) → IsNumbered (slice_set old.attempts (number - 1) now) (old.current m) one → one.master ≡ m
    of_current m one numbered = by (get-set old.attempts (number - 1) numbered.place numbered.attempt_is)
      where
        by : (slice_get old.attempts numbered.place ≡ Some one) ⊎ ((numbered.place ≡ number - 1) × (one ≡ now)) → one.master ≡ m
        by (inl there) = good.current_master m one (record { place = numbered.place; number_is = numbered.number_is; attempt_is = there })
        by (inr (p, q)) = ap (λ (some : Attempt). some.master) q ∙ (master ∙ good.current_master m was
            (subst (λ n. IsNumbered old.attempts n was)
            (same-number numbered.place (old.current m) p numbered.number_is) is_was))

    good_of : (other : ℕ) (one : Attempt) → IsNumbered (slice_set old.attempts (number - 1) now) other one →
        GoodAttempt (sent ++ messages) new other one
    good_of other one numbered = by (get-set old.attempts (number - 1) numbered.place numbered.attempt_is)
      where
        by : (slice_get old.attempts numbered.place ≡ Some one) ⊎ ((numbered.place ≡ number - 1) × (one ≡ now)) →
            GoodAttempt (sent ++ messages) new other one
        by (inl there) = attempt-kept messages kept
            (good.attempts other one (record {
              place = numbered.place;
              number_is = numbered.number_is;
              attempt_is = there;
            }))
        by (inr (p, q)) = subst (GoodAttempt (sent ++ messages) new other) (sym q)
            (subst (λ n. GoodAttempt (sent ++ messages) new n now)
            (same-number numbered.place other p numbered.number_is) good_now)

    later : (other : ℕ) (one : Attempt) → IsNumbered old.attempts other one →
        AttemptLater (slice_set old.attempts (number - 1) now) other one
    later other one numbered = by (set-get old.attempts (number - 1) numbered.place numbered.attempt_is)
      where
        by : (slice_get (slice_set old.attempts (number - 1) now) numbered.place ≡ Some one) ⊎
            ((numbered.place ≡ number - 1) ×
            (slice_get (slice_set old.attempts (number - 1) now) numbered.place ≡ Some now)) →
            AttemptLater (slice_set old.attempts (number - 1) now) other one
        by (inl stays) = attempt_later-refl
            (record { place = numbered.place; number_is = numbered.number_is; attempt_is = stays })
        by (inr (p, q)) =
            let is_one : one ≡ was = numbered-same numbered
            (subst (λ n. IsNumbered old.attempts n was) (same-number numbered.place other p numbered.number_is)
            is_was) in
            record {
              now = now;
              numbered = record { place = numbered.place; number_is = numbered.number_is; attempt_is = q };
              master = master ∙ ap (λ (some : Attempt). some.master) (sym is_one);
              decided = inr (ap (λ (some : Attempt). some.decided) is_one ∙ undecided);
            }

-- The beginning

pub new-good : GoodCoordinator [] new_coordinator
new-good = search arith

-- what isn't decided has no decision
pub undecided-none : (decided : Option Decision) → is_none decided ≡ true → decided ≡ None
undecided-none None e = refl
undecided-none (Some decision) e = cc
