-- Each step of the coordinator keeps what holds of terms.
use Rattle.std.proofs.Common.{◌≡◌, ◌⊎◌, ℕ, ◌+◌, ◌≤◌, Bool, true, false, List, [], ◌∷◌, ◌++◌}
use Rattle.std.proofs.Common.{Some, None, option_map, refl, sym, ap, ◌∙◌, subst, inl, inr, arith}
use Rattle.rc_model.specs.Model.{ServerList, CommitOk, SplitOk, coordinator_tells, ServerId, Pair, Addr, Row, Part, Tablet, Grant}
use Rattle.rc_model.specs.Model.{Message, Body, CommitOk}
use Rattle.rc_model.specs.Model.{Recovered, put_id, from_coordinator, to_coordinator}
use Rattle.rc_model.specs.Model.{has_table, with_table, split_at, has_range, assigned}
use Rattle.rc_model.specs.Model.{greater_pair, Attempt, GivenPart}
use Rattle.rc_model.specs.Model.{new_coordinator, begins_attempt}
use Rattle.rc_model.specs.Model.{attempt_at, with_attempt}
use Rattle.rc_model.specs.Model.{with_answer}
use Rattle.rc_model.specs.Model.{grant_of, grant_to}
use Rattle.rc_model.specs.Model.{first_grant}
use Rattle.rc_model.specs.Model.{NodeWork, Deliver, coordinator_step, in_range, In}
use Rattle.rc_types.specs.declared.ids.Addr.TheVariants.{Coordinator as AtCoordinator}
use Rattle.rc_model.specs.Coordinator.{Coordinator}
use Rattle.rc_model.proofs.CoordinatorWalk.{Moves, any-stays, walked-step}
use Rattle.rc_step_laws.specs.All.{CoordinatorLater}
use Rattle.rc_step_laws.proofs.Attempting.{numbered-at}
use Rattle.rc_owner_laws.specs.Grants.{owner_of, owner_at, IsDecided, IsGiven, GoodGrants}
use Rattle.rc_owner_laws.proofs.Tablets.{owner_at-marked, owner_at-split, owner_at-new, owner_at-beside}
use Rattle.rc_owner_laws.proofs.Tablets.{assigned-beside, assigned-within}
use Rattle.rc_owner_laws.proofs.Decided.{gives, begun-decided, answered-decided, IsSenders, senders, senders-decided, senders-open}
use Rattle.rc_owner_laws.specs.Terms.{IsGivenBy, GoodTerms}
use Rattle.rc_owner_laws.proofs.Keeping.{decided-later, SameTerms, same-refl, same-trans, kept-terms, IsNewTerm}
use Rattle.rc_owner_laws.proofs.Keeping.{granted-terms, decided-terms}

-- Steps in which no term is issued

same-begun : {c : Coordinator} (master : ServerId) → SameTerms c (begins_attempt c master).0
same-begun {c} master = search (arith, begun-decided)

same-answer : {c : Coordinator} (from : ServerId) (number : ℕ) (rows : List Row) (attempt : Attempt) → attempt.decided ≡ None →
    SameTerms c (with_attempt c number (with_answer from rows attempt))
same-answer {c} from number rows attempt undecided = search (arith, answered-decided)

same-tablets : {c : Coordinator} {servers : ServerList} {ready : ServerId → Bool} {tablets : List Tablet} {least : ServerId → Pair} →
    ((table key : ℕ) → owner_at tablets table key ≡ owner_at c.tablets table key) →
    SameTerms c (record c { servers = servers; ready = ready; tablets = tablets; least = least })
same-tablets owners = search arith

module _ (sent : List Message) (c : Coordinator) (grants : GoodGrants c) (good : GoodTerms sent c) where
  -- a step that leads to a later coordinator keeps it
  abbrev pub Keeps : Coordinator × List Message → Type 0
  Keeps after = CoordinatorLater c after.0 → GoodTerms sent after.0

  abbrev Hears : Addr → Body → Type 0
  Hears from body = In (record { from = from; to = AtCoordinator; body = body }) sent

  abbrev Same : Coordinator × List Message → Type 0
  Same after = SameTerms c after.0

  same : (new : Coordinator) (messages : List Message) → SameTerms c new → Keeps (new, messages)
  same new messages is later = kept-terms later is good

  -- Grants

  new-term : (id : ServerId) (number term : ℕ) (part : Part) → IsSenders c id number term part →
      grant_to c id term ≡ None → has_range part.range c.tablets ≡ true →
      In (to_coordinator id (Recovered number term)) sent →
      IsNewTerm sent c (assigned part.range id part.term c.tablets) (grant_of number id part) c.last_term
  new-term id number term part mine none has at = record {
    within = λ table key e. assigned-within part.range c.tablets table key grants.apart has e;
    beside = λ table key e. ap (option_map owner_of) (assigned-beside part.range id part.term c.tablets table key e);
    above = good.part_issued number mine.attempt.master mine.decision is_decided (gives id part) mine.among;
    upto = (grants.fresh number mine.attempt.master mine.decision is_decided (gives id part) mine.among).0;
    more = omega arith;
    fresh = λ one there e. fresh one there e (good.origin one there);
    apart = λ zero_is. absurd (let place = mine.numbered.number_is in omega (arith, place, zero_is));
    origin = inr (record {
      master = mine.attempt.master;
      decision = mine.decision;
      decided = is_decided;
      part = part;
      among = mine.among;
      range_is = refl;
      term_is = refl;
      previous_is = refl;
      asked = subst (λ n. In (to_coordinator id (Recovered number n)) sent) (sym mine.term_is) at;
      after = λ table key e. good.owned table key mine.attempt.master part.previous (waits table key e);
    });
  }
    where
      is_decided : IsDecided c.attempts number mine.attempt.master mine.decision
      is_decided = senders-decided c mine

      ungiven : IsGiven c.grants (gives id part) → ⊥
      ungiven = senders-open c mine none

      fresh : (one : Grant) → In one c.grants → one.term ≡ part.term → ((one.attempt ≡ 0) × (one.previous ≡ 0)) ⊎ IsGivenBy sent c one → ⊥
      fresh one there e (inl created) = good.created_apart one there created.0 number mine.attempt.master mine.decision
          is_decided (gives id part) mine.among (sym e)
      fresh one there e (inr given) =
          let once = good.part_once one.attempt number given.master mine.attempt.master given.decision mine.decision
          (record { to = one.owner; part = given.part }) (gives id part) given.decided given.among is_decided
          mine.among (sym given.term_is ∙ e) in
          ungiven (record { grant = one; among = there; term = e; owner = ap (λ (g : GivenPart). g.to) once.1 })

      waits : (table key : ℕ) → in_range part.range table key ≡ true →
          owner_at c.tablets table key ≡ Some (mine.attempt.master, part.previous)
      waits table key e = grants.waiting number mine.attempt.master mine.decision is_decided mine.current
          (gives id part) mine.among ungiven table key e

  -- Tables

  new-table : {table : ℕ} {owner : ServerId} → has_table c.tablets table ≡ false →
      IsNewTerm sent c (with_table table owner (c.last_term + 1) c.tablets) (first_grant table owner (c.last_term + 1))
      (c.last_term + 1)
  new-table {table} {owner} fresh = record {
    within = λ other key e. owner_at-new table other key c.tablets fresh e;
    beside = λ other key e. owner_at-beside table (c.last_term + 1) other key owner c.tablets e;
    above = omega arith;
    upto = omega arith;
    more = omega arith;
    fresh = λ one at e. (let less : one.term ≤ c.last_term = (good.issued one at).1 in absurd (omega (arith, e, less)));
    apart = λ _ number master decision decided given at e.
        (let less : given.part.term ≤ c.last_term = (grants.fresh number master decision decided given at).0 in
        absurd (omega (arith, e, less)));
    origin = inl (refl, refl);
  }

  -- All of them

  moves : Moves c Hears Same Keeps
  moves = record {
    same = same-refl;
    crashes = λ id is. same-tablets (owner_at-marked id c.tablets);
    enlists = λ id is. same-tablets (λ table key. refl);
    replaces = λ id older is. same-tablets (owner_at-marked older c.tablets);
    done = same;
    begins = λ new messages master is crashed. same (begins_attempt new master).0 (messages ++ (begins_attempt new master).1)
        (same-trans is (same-begun master));
    readies = λ id. same (record c { ready = put_id c.ready id true }) [] (same-tablets (λ table key. refl));
    commits = λ id pair heard is. same (record c { least = put_id c.least id (greater_pair (c.least id) pair) })
        (from_coordinator id (CommitOk pair.seg pair.epoch) ∷ []) (same-tablets (λ table key. refl));
    answers = λ from number rows attempt heard is undecided. same (with_attempt c number (with_answer from rows attempt)) []
        (same-answer from number rows attempt undecided);
    decides = λ master attempt plan id ids is undecided picked later.
        decided-terms sent c grants good (c.current master) attempt plan id ids (numbered-at c attempt is)
        (decided-later later);
    grants = λ id number term part is has later. granted-terms
        (new-term id number term part (senders c (attempt_at c number) (numbered-at c) is.found)
        is.ungranted has is.heard) good;
    creates = λ table owner is fresh room later. granted-terms (new-table fresh) good;
    splits = λ table at tablet is held inside unmarked room. same (record c { tablets = split_at table at c.tablets })
        (coordinator_tells (SplitOk table at) ∷ []) (same-tablets (owner_at-split table at c.tablets));
  }

  pub keeps-work : (work : NodeWork) → ((message : Message) → work ≡ Deliver message →
      In (record { from = message.from; to = AtCoordinator; body = message.body }) sent) →
      Keeps (coordinator_step c work)
  keeps-work work at = walked-step c Hears Same Keeps (any-stays Hears Keeps (λ messages later. good)) moves work at

-- The beginning

pub new-terms : GoodTerms [] new_coordinator
new-terms = search arith
