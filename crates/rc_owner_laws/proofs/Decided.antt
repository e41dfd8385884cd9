-- Attempts, answers and decisions: what is decided after one of them, and what the messages say that tell it.
use Rattle.std.proofs.Common.{◌≡◌, ◌⊎◌, ℕ, ◌+◌, ◌-◌, Bool, true, false, cond, List, [], ◌∷◌, ◌++◌, length, find}
use Rattle.std.proofs.Common.{slice_set, Some, None, refl, sym, ap, ◌∙◌, inl, inr, arith, nat_eq, Option}
use Rattle.std.proofs.Common.{option_and_then}
use Rattle.rc_model.specs.Model.{ServerId, Row, Part, Message, put_id, same_id, Attempt, Decision, GivenPart}
use Rattle.rc_model.specs.Model.{from_coordinator, new_attempt, parts_of, begins_attempt, with_answer, In}
use Rattle.rc_model.specs.Model.{Grant, part_in, is_current, grant_to}
use Rattle.rc_types.specs.declared.messages.Body.TheVariants.{Plan as PlanBody}
use Rattle.rc_model.specs.Coordinator.{Coordinator}
use Rattle.rc_model.proofs.Members.{In-left}
use Rattle.rc_model.proofs.Sending.{Each}
use Rattle.rc_step_laws.proofs.Lists.{get-append, get-within, get-set}
use Rattle.rc_owner_laws.specs.Grants.{IsDecided, GoodGrants, own_said, IsGiven}
use Rattle.rc_owner_laws.proofs.Tablets.{some-none}
use Rattle.rc_owner_laws.proofs.GrantingSteps.{kept-good}
use Rattle.rc_model.proofs.Ids.{same_id-true}
use Rattle.rc_model.proofs.Tests.{true_false, either}
use Rattle.rc_model.proofs.Tables.{put_id_each}
use Rattle.std.proofs.lemmas.Bool.{eqb-true}
use Rattle.std.proofs.lemmas.Bool.Decides.{nat_tests}
use Rattle.rc_step_laws.specs.All.{IsNumbered}
use Rattle.rc_step_laws.proofs.Tests.{find-one}

pub find-none : {X : Type 0} (test : X → Bool) (xs : List X) (x : X) → find test xs ≡ None → In x xs → test x ≡ true → ⊥
find-none test [] x e at passes = absurd at
find-none test (y ∷ xs) x e at passes = by (test y) refl (find-none test xs x) e at
  where
    by : (b : Bool) → test y ≡ b → (find test xs ≡ None → In x xs → test x ≡ true → ⊥) →
        cond b (Some y) (find test xs) ≡ None → (x ≡ y) ⊎ In x xs → ⊥
    by true is rec e at = some-none e
    by false is rec e (inl same) = true_false (sym passes ∙ (ap test same ∙ is))
    by false is rec e (inr rest) = rec e rest passes

abbrev pub gives : ServerId → Part → GivenPart
gives id part = record { to = id; part = part }

pub given-in : (id : ServerId) (parts : List GivenPart) (part : Part) → In part (parts_of id parts) →
    In (record { to = id; part = part }) parts
given-in id [] part at = absurd at
given-in id (first ∷ parts) part at = by (same_id id first.to) refl (given-in id parts part) at
  where
    by : (b : Bool) → same_id id first.to ≡ b → (In part (parts_of id parts) → In (record { to = id; part = part }) parts) →
        In part (cond b (first.part ∷ parts_of id parts) (parts_of id parts)) →
        (gives id part ≡ first) ⊎ In (record { to = id; part = part }) parts
    by true e rec (inl same) = search (arith, same_id-true)
    by true e rec (inr rest) = inr (rec rest)
    by false e rec rest = inr (rec rest)

-- what was given stays so with one more grant
pub given-more : {grants : List Grant} (grant : Grant) (given : GivenPart) → IsGiven grants given → IsGiven (grants ++ grant ∷ []) given
given-more {grants} grant given is = record {
  grant = is.grant;
  among = In-left is.grant grants (grant ∷ []) is.among;
  term = is.term;
  owner = is.owner;
}

-- Messages

abbrev pub OwnSaid : Coordinator → Message → Type 0
OwnSaid c message = own_said c message.to message.body

abbrev pub OwnSays : Coordinator → List Message → Type 0
OwnSays c messages = Each (OwnSaid c) messages

-- each message of a plan is of the decision
pub plan-said : {c : Coordinator} {number : ℕ} {master : ServerId} {decision : Decision} →
    IsDecided c.attempts number master decision → (id : ServerId) (part : Part) (parts : List Part) →
    parts_of id decision.parts ≡ part ∷ parts →
    OwnSaid c (from_coordinator id (PlanBody decision.plan.head number master decision.plan.rows (part ∷ parts)))
plan-said {decision} decided id part parts are = search (arith, given-in)

-- what is decided once an attempt has begun was decided before, and in a current attempt only if it was current
pub begun-decided : (c : Coordinator) (master : ServerId) (number : ℕ) (other : ServerId) (decision : Decision) →
    IsDecided (c.attempts ++ new_attempt master ∷ []) number other decision →
    IsDecided c.attempts number other decision × (put_id c.current master (length c.attempts + 1) other ≡ number → c.current other ≡ number)
begun-decided c master number other decision decided = search (arith, get-append, some-none, put_id_each, get-within)

-- an attempt begins
pub begun-good : {c : Coordinator} → GoodGrants c → (master : ServerId) → GoodGrants (begins_attempt c master).0
begun-good {c} good master = kept-good good good.apart (λ table key. refl) (λ m e. e) (begun-decided c master)

-- an answer decides nothing
pub answered-decided : (c : Coordinator) (from : ServerId) (number : ℕ) (rows : List Row) (attempt : Attempt) →
    attempt.decided ≡ None → (other : ℕ) (master : ServerId) (decision : Decision) →
    IsDecided (slice_set c.attempts (number - 1) (with_answer from rows attempt)) other master decision →
    IsDecided c.attempts other master decision
answered-decided c from number rows attempt undecided other master decision decided =
    search (arith, get-set, some-none)

-- what is decided once this attempt is decided was decided before, or is this decision
pub newly-decided : (c : Coordinator) (number : ℕ) (attempt : Attempt) {new : Decision} (other : ℕ) (master : ServerId)
    (decision : Decision) →
    IsDecided (slice_set c.attempts (number - 1) (record attempt { decided = Some new })) other master decision →
    IsDecided c.attempts other master decision ⊎ ((master ≡ attempt.master) × (decision ≡ new))
newly-decided c number attempt {new} other master decision decided = search (arith, get-set)

-- Whose part it is

module _ (c : Coordinator) where
  -- the part that is granted: it was given to the sender in an attempt that is current
  pub record IsSenders (id : ServerId) (number term : ℕ) (part : Part) : Type 0 where
    pub attempt : Attempt
    pub numbered : IsNumbered c.attempts number attempt
    pub current : c.current attempt.master ≡ number
    pub decision : Decision
    pub decided : attempt.decided ≡ Some decision
    pub among : In (gives id part) decision.parts
    pub term_is : part.term ≡ term

  senders-in : {id : ServerId} {number term : ℕ} {part : Part} {attempt : Attempt} (decided : Option Decision) →
      IsNumbered c.attempts number attempt → c.current attempt.master ≡ number → attempt.decided ≡ decided →
      part_in id term decided ≡ Some part → IsSenders id number term part
  senders-in None numbered current is found = cc
  senders-in {id} {term} {part} {attempt} (Some decision) numbered current is found =
      let one : In part (parts_of id decision.parts) × (nat_eq part.term term ≡ true) =
      find-one (λ (p : Part). nat_eq p.term term) (parts_of id decision.parts) found in
      record {
        attempt = attempt;
        numbered = numbered;
        current = current;
        decision = decision;
        decided = is;
        among = given-in id decision.parts part one.0;
        term_is = eqb-true part.term term one.1;
      }

  pub senders : {id : ServerId} {number term : ℕ} {part : Part} (found : Option Attempt) →
      ((attempt : Attempt) → found ≡ Some attempt → IsNumbered c.attempts number attempt) →
      option_and_then (λ one. cond (is_current c number one) (part_in id term one.decided) None) found ≡ Some part →
      IsSenders id number term part
  senders None numbered is = cc
  senders {id} {number} {term} {part} (Some attempt) numbered is =
      either (λ (one : Option Part). one ≡ Some part → IsSenders id number term part) (is_current c number attempt)
      (part_in id term attempt.decided) None (λ current found. senders-in attempt.decided (numbered attempt refl)
      (eqb-true (c.current attempt.master) number current) refl found) (λ _ none. cc) is

  -- its attempt was decided, and where no grant of its term is found it was not granted
  pub senders-decided : {id : ServerId} {number term : ℕ} {part : Part} → (mine : IsSenders id number term part) →
      IsDecided c.attempts number mine.attempt.master mine.decision
  senders-decided mine =
      record { attempt = mine.attempt; numbered = mine.numbered; master_is = refl; decided = mine.decided }

  pub senders-open : {id : ServerId} {number term : ℕ} {part : Part} → IsSenders id number term part →
      grant_to c id term ≡ None → IsGiven c.grants (gives id part) → ⊥
  senders-open {id} {term} mine none p = search (arith, find-none, nat_tests)
