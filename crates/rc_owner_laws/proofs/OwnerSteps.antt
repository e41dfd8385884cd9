-- Each step of the coordinator keeps what holds of tablets and grants.
use Rattle.std.proofs.Common.{◌≡◌, ◌⊎◌, ℕ, ◌+◌, ◌-◌, ◌<◌, ◌≤◌, Bool, true, false, List, [], ◌∷◌}
use Rattle.std.proofs.Common.{◌++◌, length, nat_eq, slice_set, Option, Some, None, option_map}
use Rattle.std.proofs.Common.{refl, sym, ap, ◌∙◌, subst, inl, inr, arith}
use Rattle.std.proofs.lemmas.Bool.{and_parts}
use Rattle.std.proofs.lemmas.Bool.Decides.{nat_tests}
use Rattle.rc_model.specs.Model.{ServerId, Pair, Addr, Server, Row, Part, Tablet, Grant}
use Rattle.rc_model.specs.Model.{Message, Body}
use Rattle.rc_model.specs.Model.{put_id}
use Rattle.rc_model.specs.Model.{from_coordinator, same_id, ServerList, is_up, has_crashed}
use Rattle.rc_model.specs.Model.{up, holds, has_table, tablets_of, with_table, whole_table}
use Rattle.rc_model.specs.Model.{split_at, has_range, assigned, greater_pair, Attempt, Decision, GivenPart}
use Rattle.rc_model.specs.Model.{gives_parts, new_coordinator}
use Rattle.rc_model.specs.Model.{spreads_list, begins_attempt, attempt_at}
use Rattle.rc_model.specs.Model.{with_attempt}
use Rattle.rc_model.specs.Model.{with_answer, decision_of, decides_on}
use Rattle.rc_model.specs.Model.{own_body, grant_of, is_grant_to, grant_to}
use Rattle.rc_model.specs.Model.{first_grant}
use Rattle.rc_model.specs.Model.{NodeWork, coordinator_step}
use Rattle.rc_model.specs.Model.{in_range, In}
use Rattle.rc_types.specs.declared.messages.Body.TheVariants as body
use Rattle.rc_types.specs.declared.rows.Plan.{Plan}
use Rattle.rc_model.specs.Coordinator.{Coordinator}
use Rattle.rc_model.proofs.Sending.{Each, each-none, each-one, each-both}
use Rattle.rc_model.proofs.CoordinatorWalk.{is_plain, Stays, Moves, walked-step, each-to, each-plans, each-ticks}
use Rattle.rc_model.proofs.Members.{In-left, In-right, In-append}
use Rattle.rc_step_laws.specs.All.{IsNumbered, GoodCoordinator}
use Rattle.rc_step_laws.proofs.Servers.{crashed-not-up, crashed-stays-crashed, crashed-stays-enlisted}
use Rattle.rc_step_laws.proofs.Attempting.{numbered-at, numbered-same, numbered-set}
use Rattle.rc_owner_laws.specs.Grants.{TabletsApart, owner_of, owner_at, term_in, term_at, IsGiven, PartsApart}
use Rattle.rc_owner_laws.specs.Grants.{IsDecided, GoodGrants, GrantsMoved, own_said}
use Rattle.rc_owner_laws.proofs.Tablets.{some-none, owner_at-marked, apart-marked, owner_at-split, apart-split, owner_at-new}
use Rattle.rc_owner_laws.proofs.Tablets.{owner_at-beside, owner_at-before, apart-new, assigned-beside, assigned-within, apart-assigned}
use Rattle.rc_owner_laws.proofs.Chains.{found-at, of_owner, apart-of_owner, IsPartOf, part-of, length-gives, parts-apart, part-once}
use Rattle.rc_owner_laws.proofs.GrantingSteps.{kept-good, IsNewGrant, granted-good}
use Rattle.rc_owner_laws.proofs.Decided.{gives, given-more, OwnSaid, plan-said, begun-good, answered-decided, newly-decided}
use Rattle.rc_owner_laws.proofs.Decided.{IsSenders, senders, senders-decided, senders-open}
use Rattle.rc_model.proofs.Ids.{same_id-true}
use Rattle.rc_model.proofs.Tests.{true_false}
use Rattle.rc_step_laws.proofs.Tests.{find-one}

-- a split begins above its tablet's first key
above-first : (table at : ℕ) (tablet : Tablet) → holds tablet table at ≡ true → nat_eq at tablet.range.lo ≡ false → 0 < at
above-first table at tablet p q = grind (arith, nat_tests)

-- a kind that no law speaks of
plain-own : (c : Coordinator) (to : Addr) (body : Body) → is_plain body ≡ true → own_said c to body
plain-own c to (body.Own range term previous attempt) e = cc
plain-own c to (body.Plan head number master rows parts) e = cc
plain-own c to _ e = tt

module _ (sent : List Message) (c : Coordinator) (base : GoodCoordinator sent c) (good : GoodGrants c) where
  abbrev Hears : Addr → Body → Type 0
  Hears from body = Unit {0}

  abbrev Moved : Coordinator × List Message → Type 0
  Moved after = GrantsMoved c after

  -- no grant is made
  quiet : {new : Coordinator} {messages : List Message} → GoodGrants new → new.grants ≡ c.grants →
      Each (OwnSaid new) messages → Moved (new, messages)
  quiet is same says = search arith

  still : {message : Message} → OwnSaid c message → Moved (c, message ∷ [])
  still {message} says = quiet good refl (each-one (OwnSaid c) says)

  stays : Stays c Hears Moved
  stays = record {
    tells = λ to body is. still (plain-own c to body is);
    refuses = λ fault. still tt;
    denies = λ id fault other. still tt;
    lists = λ id. still tt;
    repeats = λ id term grant is found. still (record {
      grant = grant;
      among = (find-one (is_grant_to id term) c.grants found).0;
      to_is = ap Server (sym (same_id-true (and_parts (nat_eq grant.term term) (same_id grant.owner id)
          (find-one (is_grant_to id term) c.grants found).1).1));
      body_is = refl;
    });
    lacks = λ id number term part is none. still tt;
    ticks = quiet good refl (each-ticks c (OwnSaid c) (record {
      lists = λ id. tt;
      gathers = λ number attempt id is. tt;
      plans = λ number attempt decision is decided id part parts are. plan-said (record {
        attempt = attempt;
        numbered = numbered-at c attempt is;
        master_is = refl;
        decided = decided;
      }) id part parts are;
    }));
  }

  -- Coming and going

  -- other servers, and tablets marked
  changed : {servers : ServerList} {ready : ServerId → Bool} {tablets : List Tablet} {least : ServerId → Pair} → TabletsApart tablets →
      ((table key : ℕ) → owner_at tablets table key ≡ owner_at c.tablets table key) →
      ((m : ServerId) → has_crashed c.servers m ≡ true → has_crashed servers m ≡ true) →
      GoodGrants (record c { servers = servers; ready = ready; tablets = tablets; least = least })
  changed apart same crashes = kept-good good apart same crashes (λ number master decision decided. (decided, λ e. e))

  -- before an attempt may begin
  record Came (after : Coordinator × List Message) : Type 0 where
    kept : GoodGrants after.0
    same : after.0.grants ≡ c.grants
    says : (new : Coordinator) → Each (OwnSaid new) after.1

  came : {servers : ServerList} {tablets : List Tablet} → TabletsApart tablets →
      ((table key : ℕ) → owner_at tablets table key ≡ owner_at c.tablets table key) →
      ((m : ServerId) → has_crashed c.servers m ≡ true → has_crashed servers m ≡ true) →
      Came (record c { servers = servers; tablets = tablets }, spreads_list servers)
  came {servers} apart owners crashes = search (arith, changed, each-to)

  answered : (from : ServerId) (number : ℕ) (rows : List Row) (attempt : Attempt) → attempt.decided ≡ None →
      GoodGrants (with_attempt c number (with_answer from rows attempt))
  answered from number rows attempt undecided = kept-good good good.apart (λ table key. refl) (λ m e. e)
      (λ other master decision decided. (answered-decided c from number rows attempt undecided other master decision decided, λ e. e))

  -- Decisions

  -- the decision on an attempt that is gathering: its parts are the tablets of its master
  decided-good : {number : ℕ} {attempt : Attempt} (plan : Plan) (id : ServerId) (ids : List ServerId) →
      IsNumbered c.attempts number attempt →
      GoodGrants (decides_on c number attempt (decision_of c number attempt.master plan (id ∷ ids)) (id ∷ ids)).0
  decided-good {number} {attempt} plan id ids numbered = record {
    apart = good.apart;
    issued = λ table key. (let one : term_at c.tablets table key ≤ c.last_term = good.issued table key in omega (arith, one));
    chains = good.chains;
    owners = good.owners;
    once = good.once;
    fresh = λ other master decision decided given at. fresh_by other master decision given at (which other master decision decided);
    parted = λ other master decision decided. parted_by other master decision (which other master decision decided);
    waiting = λ other master decision decided current given at not_given table key within.
        waiting_by other master decision current given at not_given table key within
        (which other master decision decided);
  }
    where
      tablets : List Tablet
      tablets = tablets_of attempt.master c.tablets

      parts : List GivenPart
      parts = gives_parts (id ∷ ids) (number - 1) (c.last_term + 1) (tablets_of attempt.master c.tablets)

      new : Attempt
      new = record attempt { decided = Some (decision_of c number attempt.master plan (id ∷ ids)) }

      -- a decision that was there, or this one
      which : (other : ℕ) (master : ServerId) (decision : Decision) → IsDecided (slice_set c.attempts (number - 1)
          (record attempt { decided = Some (decision_of c number attempt.master plan (id ∷ ids)) })) other master
          decision →
          IsDecided c.attempts other master decision ⊎
          ((master ≡ attempt.master) × (decision ≡ decision_of c number attempt.master plan (id ∷ ids)))
      which = newly-decided c number attempt

      of_tablet : (given : GivenPart) →
          In given (gives_parts (id ∷ ids) (number - 1) (c.last_term + 1) (tablets_of attempt.master c.tablets)) →
          IsPartOf (tablets_of attempt.master c.tablets) (c.last_term + 1) given
      of_tablet given at = part-of (id ∷ ids) (number - 1) (c.last_term + 1) (tablets_of attempt.master c.tablets) given at

      -- the tablet of a part, at one of its points
      owned : (given : GivenPart) → IsPartOf (tablets_of attempt.master c.tablets) (c.last_term + 1) given →
          (table key : ℕ) → in_range given.part.range table key ≡ true →
          owner_at c.tablets table key ≡ Some (attempt.master, given.part.previous)
      owned given of table key within = search (arith, of_owner, found-at)

      fresh_by : (other : ℕ) (master : ServerId) (decision : Decision) (given : GivenPart) → In given decision.parts →
          IsDecided c.attempts other master decision ⊎
          ((master ≡ attempt.master) × (decision ≡ decision_of c number attempt.master plan (id ∷ ids))) →
          (given.part.term ≤ c.last_term + length (gives_parts (id ∷ ids) (number - 1) (c.last_term + 1)
          (tablets_of attempt.master c.tablets))) × ((table key : ℕ) → in_range given.part.range table key ≡ true →
          given.part.previous < given.part.term)
      fresh_by other master decision given at (inl old) = (
        (let one : given.part.term ≤ c.last_term = (good.fresh other master decision old given at).0 in
            omega (arith, one)),
        (good.fresh other master decision old given at).1,
      )
      fresh_by other master decision given at (inr (p, q)) =
          let of : IsPartOf (tablets_of attempt.master c.tablets) (c.last_term + 1) given =
          of_tablet given (subst (λ (one : Decision). In given one.parts) q at) in
          let under : given.part.term ≡ of.under = ap (λ (part : Part). part.term) of.part_is in
          let below : of.under < c.last_term + 1 + length (tablets_of attempt.master c.tablets) = of.below in
          let above : c.last_term + 1 ≤ of.under = of.above in
          let count : length (gives_parts (id ∷ ids) (number - 1) (c.last_term + 1)
          (tablets_of attempt.master c.tablets)) ≡ length (tablets_of attempt.master c.tablets) =
          length-gives id ids (number - 1) (c.last_term + 1) (tablets_of attempt.master c.tablets) in (
            omega (arith, under, below, count),
            λ table key within. (let issued : term_at c.tablets table key ≤ c.last_term = good.issued table key in
                let is : term_at c.tablets table key ≡ given.part.previous =
                ap term_in (owned given of table key within) in omega (arith, issued, is, above, under)),
          )

      parted_by : (other : ℕ) (master : ServerId) (decision : Decision) → IsDecided c.attempts other master decision ⊎
          ((master ≡ attempt.master) × (decision ≡ decision_of c number attempt.master plan (id ∷ ids))) →
          PartsApart decision.parts
      parted_by other master decision (inl old) = good.parted other master decision old
      parted_by other master decision (inr (p, q)) = search (arith, parts-apart, apart-of_owner)

      waiting_by : (other : ℕ) (master : ServerId) (decision : Decision) → c.current master ≡ other →
          (given : GivenPart) → In given decision.parts → (IsGiven c.grants given → ⊥) → (table key : ℕ) →
          in_range given.part.range table key ≡ true →
          IsDecided c.attempts other master decision ⊎
          ((master ≡ attempt.master) × (decision ≡ decision_of c number attempt.master plan (id ∷ ids))) →
          owner_at c.tablets table key ≡ Some (master, given.part.previous)
      waiting_by other master decision current given at not_given table key within (inl old) =
          good.waiting other master decision old current given at not_given table key within
      waiting_by other master decision current given at not_given table key within (inr (p, q)) =
          search (arith, owned, of_tablet)

  decided-moved : {number : ℕ} {attempt : Attempt} (plan : Plan) (id : ServerId) (ids : List ServerId) →
      IsNumbered c.attempts number attempt →
      Moved (decides_on c number attempt (decision_of c number attempt.master plan (id ∷ ids)) (id ∷ ids))
  decided-moved {number} {attempt} plan id ids numbered = quiet (decided-good plan id ids numbered) refl
      (each-plans (OwnSaid (decides_on c number attempt decision (id ∷ ids)).0) decision
      (plan-said (record {
        attempt = record attempt { decided = Some decision };
        numbered = numbered-set numbered;
        master_is = refl;
        decided = refl;
      })) (id ∷ ids))
    where
      decision : Decision
      decision = decision_of c number attempt.master plan (id ∷ ids)

  -- Grants

  -- a grant is made, and sent
  granted : {tablets : List Tablet} {grant : Grant} {last : ℕ} → IsNewGrant c tablets grant last → GrantsMoved c (
    record c { tablets = tablets; grants = c.grants ++ grant ∷ []; last_term = last },
    from_coordinator grant.owner (own_body grant) ∷ [],
  )
  granted {tablets} {grant} {last} new = record {
    good = granted-good good new;
    remembers = λ one at. In-left one c.grants (grant ∷ []) at;
    told = λ one at. told one (In-append one c.grants (grant ∷ []) at);
    says = each-one (OwnSaid (record c { tablets = tablets; grants = c.grants ++ grant ∷ []; last_term = last })) (record {
      grant = grant;
      among = In-right grant c.grants (grant ∷ []) (inl refl);
      to_is = refl;
      body_is = refl;
    });
  }
    where
      told : (one : Grant) → In one c.grants ⊎ In one (grant ∷ []) →
          In one c.grants ⊎ In (from_coordinator one.owner (own_body one))
          (from_coordinator grant.owner (own_body grant) ∷ [])
      told one (inl old) = inl old
      told one (inr (inl same)) = inr (inl (ap (λ (g : Grant). from_coordinator g.owner (own_body g)) same))
      told one (inr (inr never)) = absurd never

  pub new-grant : {id : ServerId} {number term : ℕ} {part : Part} → IsSenders c id number term part →
      is_up c.servers id ≡ true → grant_to c id term ≡ None → has_range part.range c.tablets ≡ true →
      IsNewGrant c (assigned part.range id part.term c.tablets) (grant_of number id part) c.last_term
  new-grant {id} {number} {term} {part} mine is_up_now none has = record {
    apart = apart-assigned part.range id part.term c.tablets good.apart;
    within = λ table key e. assigned-within part.range c.tablets table key good.apart has e;
    beside = λ table key e. ap (option_map owner_of) (assigned-beside part.range id part.term c.tablets table key e);
    previous = λ table key e. sym (ap term_in (waits table key e));
    rises = λ table key e. (good.fresh number mine.attempt.master mine.decision is_decided (gives id part) mine.among).1 table key e;
    gone = λ table key m n e owned. subst (λ (k : ServerId). has_crashed c.servers k ≡ true)
        (sym (first_same m mine.attempt.master n part.previous (sym owned ∙ waits table key e)))
        (base.attempts number mine.attempt mine.numbered).crashed;
    upto = (good.fresh number mine.attempt.master mine.decision is_decided (gives id part) mine.among).0;
    more = omega arith;
    up = λ gone. true_false (sym is_up_now ∙ crashed-not-up c.servers id gone);
    elsewhere = λ other master decision decided current given at not_given table key within e.
        clash other master decision decided current given at not_given table key within e
        (first_same master mine.attempt.master given.part.previous part.previous
        (sym (good.waiting other master decision decided current given at
        (λ old. not_given (given-more (grant_of number id part) given old)) table key
        within) ∙ waits table key e));
  }
    where
      is_decided : IsDecided c.attempts number mine.attempt.master mine.decision
      is_decided = senders-decided c mine

      not_yet : IsGiven c.grants (gives id part) → ⊥
      not_yet = senders-open c mine none

      waits : (table key : ℕ) → in_range part.range table key ≡ true →
          owner_at c.tablets table key ≡ Some (mine.attempt.master, part.previous)
      waits table key e = good.waiting number mine.attempt.master mine.decision is_decided mine.current (gives id part)
          mine.among not_yet table key e

      first_same : (a b : ServerId) (x y : ℕ) → ◌≡◌ {A = Option (ServerId × ℕ)} (Some (a, x)) (Some (b, y)) → a ≡ b
      first_same a b x y e = search arith

      clash : (other : ℕ) (master : ServerId) (decision : Decision) → IsDecided c.attempts other master decision →
          c.current master ≡ other → (given : GivenPart) → In given decision.parts →
          (IsGiven (c.grants ++ grant_of number id part ∷ []) given → ⊥) → (table key : ℕ) →
          in_range given.part.range table key ≡ true → in_range part.range table key ≡ true →
          master ≡ mine.attempt.master → ⊥
      clash other master decision decided current given at not_given table key within e same =
          not_given (subst (λ (one : GivenPart). IsGiven (c.grants ++ grant_of number id part ∷ []) one) (sym is_this) (record {
            grant = grant_of number id part;
            among = In-right (grant_of number id part) c.grants (grant_of number id part ∷ []) (inl refl);
            term = refl;
            owner = refl;
          }))
        where
          number_same : other ≡ number
          number_same = sym current ∙ (ap c.current same ∙ mine.current)

          attempt_same : decided.attempt ≡ mine.attempt
          attempt_same = numbered-same
              (subst (λ n. IsNumbered c.attempts n decided.attempt) number_same decided.numbered) mine.numbered

          decision_same : decision ≡ mine.decision
          decision_same = search (arith, decision, attempt_same)

          is_this : given ≡ gives id part
          is_this = part-once mine.decision.parts given (gives id part) table key
              (good.parted number mine.attempt.master mine.decision is_decided)
              (subst (λ (one : Decision). In given one.parts) decision_same at) mine.among within e

  pub new-table : {table : ℕ} {owner : ServerId} → is_up c.servers owner ≡ true → has_table c.tablets table ≡ false →
      IsNewGrant c (with_table table owner (c.last_term + 1) c.tablets) (first_grant table owner (c.last_term + 1)) (c.last_term + 1)
  new-table {table} {owner} is_up_now fresh = record {
    apart = apart-new table (c.last_term + 1) owner c.tablets fresh good.apart;
    within = λ other key e. owner_at-new table other key c.tablets fresh e;
    beside = λ other key e. owner_at-beside table (c.last_term + 1) other key owner c.tablets e;
    previous = λ other key e. sym (ap term_in (before other key e));
    rises = λ other key e. omega arith;
    gone = λ other key m n e owned. some-none (sym owned ∙ before other key e);
    upto = omega arith;
    more = omega arith;
    up = λ gone. true_false (sym is_up_now ∙ crashed-not-up c.servers owner gone);
    elsewhere = λ number master decision decided current given at not_given other key within e.
        some-none (sym (good.waiting number master decision decided current given at
        (λ old. not_given (given-more (first_grant table owner (c.last_term + 1)) given old))
        other key within) ∙ before other key e);
  }
    where
      before : (other key : ℕ) → holds (whole_table table owner (c.last_term + 1)) other key ≡ true → owner_at c.tablets other key ≡ None
      before other key e = owner_at-before table (c.last_term + 1) other key owner c.tablets fresh e

  -- All of them

  moves : Moves c Hears Came Moved
  moves = record {
    same = record { kept = good; same = refl; says = λ new. each-none (OwnSaid new) };
    crashes = λ id is. came (apart-marked id c.tablets good.apart)
        (owner_at-marked id c.tablets) (λ m e. crashed-stays-crashed id m c.servers e);
    enlists = λ id is. came good.apart (λ table key. refl) (λ m e. crashed-stays-enlisted id m c.servers e);
    replaces = λ id older is. came (apart-marked older c.tablets good.apart)
        (owner_at-marked older c.tablets) (λ m e. crashed-stays-enlisted id m c.servers e);
    done = λ new messages p. quiet p.kept p.same (p.says new);
    begins = λ new messages master p crashed. quiet (begun-good p.kept master) p.same
        (each-both (OwnSaid (begins_attempt new master).0) messages (begins_attempt new master).1 (p.says (begins_attempt new master).0)
        (each-to (OwnSaid (begins_attempt new master).0) (λ id. tt) (up new.servers)));
    readies = λ id. quiet (changed good.apart (λ table key. refl) (λ m e. e)) refl
        (each-none (OwnSaid (record c { ready = put_id c.ready id true })));
    commits = λ id pair heard is. quiet (changed good.apart (λ table key. refl) (λ m e. e)) refl
        (each-one (OwnSaid (record c { least = put_id c.least id (greater_pair (c.least id) pair) })) tt);
    answers = λ from number rows attempt heard is undecided. quiet (answered from number rows attempt undecided) refl
        (each-none (OwnSaid (with_attempt c number (with_answer from rows attempt))));
    decides = λ master attempt plan id ids is undecided picked. decided-moved plan id ids (numbered-at c attempt is);
    grants = λ id number term part is has. granted
        (new-grant (senders c (attempt_at c number) (numbered-at c) is.found)
        is.up is.ungranted has);
    creates = λ table owner is fresh room. granted (new-table is fresh);
    splits = λ table at tablet is held inside unmarked room. quiet (changed
        (apart-split table at c.tablets (above-first table at tablet held inside) good.apart) (owner_at-split table at c.tablets)
        (λ m e. e)) refl (each-one (OwnSaid (record c { tablets = split_at table at c.tablets })) tt);
  }

  pub moved : (work : NodeWork) → GrantsMoved c (coordinator_step c work)
  moved work = walked-step c Hears Came Moved stays moves work (λ _ _. tt)

-- The beginning

pub new-grants : GoodGrants new_coordinator
new-grants = search arith
