-- Each step of the coordinator keeps each part that waits for its grant a tablet of the list, and refuses nobody for want of one.
use Rattle.std.proofs.Common.{◌≡◌, ◌⊎◌, ℕ, ◌+◌, ◌-◌, ◌≤◌, Bool, true, false, List, [], ◌∷◌, ◌++◌, nat_eq}
use Rattle.std.proofs.Common.{Option, Some, None, refl, sym, ap, ◌∙◌, inl, inr, arith}
use Rattle.std.proofs.lemmas.Bool.Decides.{nat_tests}
use Rattle.rc_model.specs.Model.{ServerId, Pair, Addr, Server, Row, Part, Tablet, Fault}
use Rattle.rc_model.specs.Model.{NoTable, Message, Body, Refused}
use Rattle.rc_model.specs.Model.{same_id}
use Rattle.rc_model.specs.Model.{ServerList, is_up}
use Rattle.rc_model.specs.Model.{enlisted, crashed, up, holds, tablet_of, tablets_of, whole_table, split_at}
use Rattle.rc_model.specs.Model.{marked_crashed, is_range, has_range, assigned, Attempt, Decision, GivenPart}
use Rattle.rc_model.specs.Model.{new_coordinator, refuses_server}
use Rattle.rc_model.specs.Model.{spreads_list, begins_attempt, attempt_at}
use Rattle.rc_model.specs.Model.{with_attempt, up_of_host, with_crashed}
use Rattle.rc_model.specs.Model.{with_answer, decision_of, decides_on}
use Rattle.rc_model.specs.Model.{grant_of, grant_to}
use Rattle.rc_model.specs.Model.{first_grant, creates_table}
use Rattle.rc_model.specs.Model.{NodeWork, coordinator_step, In}
use Rattle.rc_types.specs.declared.ids.Addr.TheVariants.{Coordinator as AtCoordinator}
use Rattle.rc_types.specs.declared.rows.Plan.{Plan}
use Rattle.rc_model.specs.Coordinator.{Coordinator}
use Rattle.rc_model.proofs.Sending.{each-none, each-one, each-both}
use Rattle.rc_model.proofs.CoordinatorWalk.{is_lack, is_plain, Stays, Moves, walked-step, each-to, each-plans, each-ticks}
use Rattle.rc_step_laws.specs.All.{GoodCoordinator, IsNumbered}
use Rattle.rc_step_laws.proofs.Servers.{crashed-not-up}
use Rattle.rc_step_laws.proofs.Attempting.{numbered-at}
use Rattle.rc_owner_laws.specs.Grants.{IsGiven, IsDecided, GoodGrants}
use Rattle.rc_owner_laws.specs.Waiting.{IsTablet, GoodTablets, lacks_tablet, TabletsMoved}
use Rattle.rc_owner_laws.proofs.Tablets.{some-none}
use Rattle.rc_owner_laws.proofs.Chains.{of_owner, IsPartOf, part-of}
use Rattle.rc_owner_laws.proofs.GrantingSteps.{IsNewGrant}
use Rattle.rc_owner_laws.proofs.Decided.{gives, given-more, begun-decided, answered-decided, newly-decided}
use Rattle.rc_owner_laws.proofs.OwnerSteps.{new-grant}
use Rattle.rc_owner_laws.proofs.Decided.{IsSenders, senders, senders-decided, senders-open}
use Rattle.rc_owner_laws.proofs.Marks.{EachTablet, MarkedStay, stay-marked, each-marked, IsSplit, stay-split}
use Rattle.rc_owner_laws.proofs.Marks.{each-split, stay-inserted, each-inserted, each-assigned, stay-assigned}
use Rattle.rc_owner_laws.proofs.Marks.{its-range, first-key, ranged, tablet-in, up-crashed, up-enlisted, up-of_host}
use Rattle.rc_model.proofs.Ids.{same_id-refl}
use Rattle.rc_model.proofs.Tests.{true_false, either}
use Rattle.rc_step_laws.proofs.Copies.{split}

-- no message refuses a server for want of a tablet
abbrev Fine : Message → Type 0
Fine message = lacks_tablet message.from message.to message.body ≡ false

-- others
refused-fine : (id : ServerId) (fault : Fault) → is_lack fault ≡ false → Fine (refuses_server id fault)
refused-fine id NoTable e = true_false e
refused-fine id _ e = refl

-- a kind that no law speaks of
plain-fine : (to : Addr) (body : Body) → is_plain body ≡ true → lacks_tablet AtCoordinator to body ≡ false
plain-fine (Server id) (Refused reason) e = cc
plain-fine _ _ e = refl

-- What stays

abbrev IsProper : Tablet → Type 0
IsProper tablet = tablet.range.lo ≤ tablet.range.hi

abbrev IsMarked : ServerList → Tablet → Type 0
IsMarked servers tablet = (is_up servers tablet.owner ≡ true) ⊎ (tablet.crashed ≡ true)

-- what was decided and waits now waited before, and each marked tablet stays
stays-good : {c : Coordinator} → GoodTablets c → {new : Coordinator} → EachTablet IsProper new.tablets →
    EachTablet (IsMarked new.servers) new.tablets →
    ((number : ℕ) (master : ServerId) (decision : Decision) → IsDecided new.attempts number master decision →
    IsDecided c.attempts number master decision × (new.current master ≡ number → c.current master ≡ number)) →
    ((given : GivenPart) → IsGiven c.grants given → IsGiven new.grants given) → MarkedStay c.tablets new.tablets → GoodTablets new
stays-good {c} good {new} proper marked decided given stay = record {
  proper = proper;
  marked = marked;
  waiting = λ number master decision is current one at ungiven.
      moved master one (good.waiting number master decision (decided number master decision is).0
      ((decided number master decision is).1 current) one at (λ was. ungiven (given one was)));
}
  where
    moved : (master : ServerId) (one : GivenPart) → IsTablet c.tablets master one.part → IsTablet new.tablets master one.part
    moved master one is = tablet-in c.tablets new.tablets master one.part is (stay is.tablet is.among is.marked)

module _ (sent : List Message) (c : Coordinator) (base : GoodCoordinator sent c) (grants : GoodGrants c) (good : GoodTablets c) where
  abbrev Hears : Addr → Body → Type 0
  Hears from body = Unit {0}

  abbrev After : Coordinator × List Message → Type 0
  After after = TabletsMoved after

  still : {message : Message} → Fine message → After (c, message ∷ [])
  still {message} fine = record { good = good; says = each-one Fine fine }

  -- the attempts stay, and the grants
  changed : {servers : ServerList} {ready : ServerId → Bool} {tablets : List Tablet} {least : ServerId → Pair} →
      EachTablet IsProper tablets → EachTablet (IsMarked servers) tablets → MarkedStay c.tablets tablets →
      GoodTablets (record c { servers = servers; ready = ready; tablets = tablets; least = least })
  changed proper marked stay = stays-good good proper marked
      (λ number master decision is. (is, λ e. e)) (λ given is. is) stay

  -- Coming and going

  came : {servers : ServerList} {tablets : List Tablet} → EachTablet IsProper tablets → EachTablet (IsMarked servers) tablets →
      MarkedStay c.tablets tablets → After (record c { servers = servers; tablets = tablets }, spreads_list servers)
  came {servers} proper marked stay = record {
    good = changed proper marked stay;
    says = each-to Fine (λ id. refl) (up servers);
  }

  begun : {new : Coordinator} (master : ServerId) → GoodTablets new → GoodTablets (begins_attempt new master).0
  begun {new} master is =
      stays-good is is.proper is.marked (begun-decided new master) (λ given was. was) (λ tablet at e. at)

  proper-marked : (owner : ServerId) → EachTablet IsProper (marked_crashed owner c.tablets)
  proper-marked owner = each-marked IsProper owner c.tablets
      (λ tablet at. either IsProper (same_id owner tablet.owner) (record tablet { crashed = true }) tablet
      (λ _. good.proper tablet at) (λ _. good.proper tablet at))

  crashed-good : (id : ServerId) → After (with_crashed c id, spreads_list (with_crashed c id).servers)
  crashed-good id = came (proper-marked id) (each-marked (IsMarked (crashed id c.servers)) id c.tablets
      (λ tablet at. either (IsMarked (crashed id c.servers)) (same_id id tablet.owner)
      (record tablet { crashed = true }) tablet (λ _. inr refl) (λ other. by tablet other (good.marked tablet at))))
      (stay-marked id c.tablets)
    where
      by : (tablet : Tablet) → same_id id tablet.owner ≡ false → IsMarked c.servers tablet → IsMarked (crashed id c.servers) tablet
      by tablet other (inl e) = inl (up-crashed id tablet.owner c.servers other e)
      by tablet other (inr e) = inr e

  -- where the id of its host that was up is another, the owner stays up
  stays-up : (id : ServerId) {older : Option ServerId} → up_of_host id.index c.servers ≡ older → (tablet : Tablet) →
      (older ≡ Some tablet.owner → ⊥) → IsMarked c.servers tablet → IsMarked (enlisted id c.servers) tablet
  stays-up id is tablet other (inr e) = inr e
  stays-up id is tablet other (inl e) = search (arith, split, up-of_host, up-enlisted)

  replaced-good : (id older : ServerId) → up_of_host id.index c.servers ≡ Some older → After (
    record c { servers = enlisted id c.servers; tablets = marked_crashed older c.tablets },
    spreads_list (enlisted id c.servers),
  )
  replaced-good id older is = came (proper-marked older)
      (each-marked (IsMarked (enlisted id c.servers)) older c.tablets
      (λ tablet at. either (IsMarked (enlisted id c.servers)) (same_id older tablet.owner)
      (record tablet { crashed = true }) tablet (λ _. inr refl) (λ other. stays-up id is tablet
      (λ e. true_false (sym (ap (λ (m : ServerId). same_id older m) (sym (one older tablet.owner e)) ∙
      same_id-refl older) ∙ other)) (good.marked tablet at)))) (stay-marked older c.tablets)
    where
      one : (a b : ServerId) → Some a ≡ Some b → a ≡ b
      one a b e = cc

  -- Answers

  answered-good : (from : ServerId) (number : ℕ) (rows : List Row) (attempt : Attempt) → attempt.decided ≡ None →
      GoodTablets (with_attempt c number (with_answer from rows attempt))
  answered-good from number rows attempt undecided = search (arith, stays-good, answered-decided)

  -- Splits: only a tablet that isn't marked is split

  split-good : (table at : ℕ) → IsSplit c.tablets table at → GoodTablets (record c { tablets = split_at table at c.tablets })
  split-good table at is = changed
      (each-split IsProper table at c.tablets is.tablet is.found (lower is.tablet is.within is.inside)
      (upper is.tablet is.within) good.proper) (each-split (IsMarked c.servers) table at c.tablets is.tablet is.found
      (good.marked is.tablet (there c.tablets is.found)) (good.marked is.tablet (there c.tablets is.found))
      good.marked) (stay-split table at c.tablets is.tablet is.found is.unmarked)
    where
      lower : (tablet : Tablet) → holds tablet table at ≡ true → nat_eq at tablet.range.lo ≡ false → tablet.range.lo ≤ at - 1
      lower tablet p q = grind (arith, nat_tests)

      upper : (tablet : Tablet) → holds tablet table at ≡ true → at ≤ tablet.range.hi
      upper tablet p = grind (arith, nat_tests)

      there : (tablets : List Tablet) → tablet_of tablets table at ≡ Some is.tablet → In is.tablet tablets
      there [] e = cc
      there (first ∷ tablets) e =
          either (λ (found : Option Tablet). found ≡ Some is.tablet → In is.tablet (first ∷ tablets))
          (holds first table at) (Some first) (tablet_of tablets table at)
          (λ _ it. (let same : first ≡ is.tablet = cc in inl (sym same))) (λ _ it. inr (there tablets it)) e

  -- Decisions: the parts are the tablets of the master, which are marked

  decided-good : {number : ℕ} {attempt : Attempt} (plan : Plan) (ids : List ServerId) → IsNumbered c.attempts number attempt →
      GoodTablets (decides_on c number attempt (decision_of c number attempt.master plan ids) ids).0
  decided-good {number} {attempt} plan ids numbered = record {
    proper = good.proper;
    marked = good.marked;
    waiting = λ other master decision is current given at ungiven. by other master decision current given at ungiven
        (newly-decided c number attempt other master decision is);
  }
    where
      -- the tablets of a master that has crashed are marked
      crashed-marked : (tablet : Tablet) → tablet.owner ≡ attempt.master → IsMarked c.servers tablet → tablet.crashed ≡ true
      crashed-marked tablet owner (inl e) =
          true_false (sym e ∙ (ap (is_up c.servers) owner ∙ crashed-not-up c.servers attempt.master
          (base.attempts number attempt numbered).crashed))
      crashed-marked tablet owner (inr e) = e

      new : (given : GivenPart) → IsPartOf (tablets_of attempt.master c.tablets) (c.last_term + 1) given →
          IsTablet c.tablets attempt.master given.part
      new given of =
          let mine : In of.tablet c.tablets × (of.tablet.owner ≡ attempt.master) = of_owner attempt.master c.tablets of.tablet of.among in
          record {
            tablet = of.tablet;
            among = mine.0;
            range = sym (ap (λ (part : Part). part.range) of.part_is);
            term = sym (ap (λ (part : Part). part.previous) of.part_is);
            owner_is = mine.1;
            marked = crashed-marked of.tablet mine.1 (good.marked of.tablet mine.0);
          }

      by : (other : ℕ) (master : ServerId) (decision : Decision) → c.current master ≡ other → (given : GivenPart) →
          In given decision.parts → (IsGiven c.grants given → ⊥) →
          IsDecided c.attempts other master decision ⊎
          ((master ≡ attempt.master) × (decision ≡ decision_of c number attempt.master plan ids)) →
          IsTablet c.tablets master given.part
      by other master decision current given at ungiven (inl old) = good.waiting other master decision old current given at ungiven
      by other master decision current given at ungiven (inr (p, q)) = search (arith, new, part-of)

  -- Grants

  -- the part of a sender waits for its tablet, so there is one
  pub sender-waits : {id : ServerId} {number term : ℕ} {part : Part} →
      (mine : IsSenders c id number term part) → grant_to c id term ≡ None →
      IsTablet c.tablets mine.attempt.master part
  sender-waits {id} {number} {part} mine none = good.waiting number mine.attempt.master mine.decision
      (senders-decided c mine) mine.current (gives id part) mine.among (senders-open c mine none)

  granted-good : {id : ServerId} {number term : ℕ} {part : Part} → IsSenders c id number term part →
      is_up c.servers id ≡ true → grant_to c id term ≡ None → has_range part.range c.tablets ≡ true →
      GoodTablets (record c {
        tablets = assigned part.range id part.term c.tablets;
        grants = c.grants ++ grant_of number id part ∷ [];
      })
  granted-good {id} {number} {term} {part} mine is_up_now none has = record {
    proper = each-assigned IsProper part.range id part.term c.tablets (λ tablet at. (good.proper tablet at, good.proper tablet at));
    marked = each-assigned (IsMarked c.servers) part.range id part.term c.tablets
        (λ tablet at. (good.marked tablet at, inl is_up_now));
    waiting = λ other master decision is current given at ungiven.
        by other master decision is current given at ungiven (good.waiting other master decision is current given at
        (λ was. ungiven (given-more (grant_of number id part) given was)));
  }
    where
      new : IsNewGrant c (assigned part.range id part.term c.tablets) (grant_of number id part) c.last_term
      new = new-grant sent c base grants mine is_up_now none has

      by : (other : ℕ) (master : ServerId) (decision : Decision) → IsDecided c.attempts other master decision →
          c.current master ≡ other → (given : GivenPart) → In given decision.parts →
          (IsGiven (c.grants ++ grant_of number id part ∷ []) given → ⊥) → IsTablet c.tablets master given.part →
          IsTablet (assigned part.range id part.term c.tablets) master given.part
      by other master decision is current given at ungiven waits = split (is_range part.range waits.tablet)
          (λ same. absurd (new.elsewhere other master decision is current given at ungiven waits.tablet.range.table waits.tablet.range.lo
          (first-key given.part.range waits.tablet (its-range waits) (good.proper waits.tablet waits.among))
          (first-key part.range waits.tablet same (good.proper waits.tablet waits.among))))
          (λ differs. tablet-in c.tablets (assigned part.range id part.term c.tablets) master given.part waits
          (stay-assigned part.range id part.term c.tablets waits.tablet waits.among differs))

  created-good : (table : ℕ) (owner : ServerId) → is_up c.servers owner ≡ true → GoodTablets (creates_table c table owner).0
  created-good table owner is_up_now = stays-good good
      (each-inserted IsProper (whole_table table owner (c.last_term + 1)) c.tablets (omega arith) good.proper)
      (each-inserted (IsMarked c.servers) (whole_table table owner (c.last_term + 1)) c.tablets (inl is_up_now) good.marked)
      (λ number master decision is. (is, λ e. e)) (given-more (first_grant table owner (c.last_term + 1)))
      (stay-inserted (whole_table table owner (c.last_term + 1)) c.tablets)

  -- All of them

  stays : Stays c Hears After
  stays = record {
    tells = λ to body is. still (plain-fine to body is);
    refuses = λ fault. still refl;
    denies = λ id fault other. still (refused-fine id fault other);
    lists = λ id. still refl;
    repeats = λ id term grant is found. still refl;
    lacks = λ id number term part is lacking. (
        let mine : IsSenders c id number term part = senders c (attempt_at c number) (numbered-at c) is.found in
        true_false (sym (ranged (sender-waits mine is.ungranted)) ∙ lacking));
    ticks = record {
      good = good;
      says = each-ticks c Fine (record {
        lists = λ id. refl;
        gathers = λ number attempt id is. refl;
        plans = λ number attempt decision is decided id part parts are. refl;
      });
    };
  }

  moves : Moves c Hears After After
  moves = record {
    same = record { good = good; says = each-none Fine };
    crashes = λ id is. crashed-good id;
    enlists = λ id is. came good.proper
        (λ tablet at. stays-up id is tablet (λ e. some-none (sym e)) (good.marked tablet at)) (λ tablet at e. at);
    replaces = replaced-good;
    done = λ new messages p. p;
    begins = λ new messages master p crashed. record {
      good = begun master p.good;
      says = each-both Fine messages (begins_attempt new master).1 p.says
          (each-to Fine (λ id. refl) (up new.servers));
    };
    readies = λ id. record {
      good = changed good.proper good.marked (λ tablet at e. at);
      says = each-none Fine;
    };
    commits = λ id pair heard is. record {
      good = changed good.proper good.marked (λ tablet at e. at);
      says = each-one Fine refl;
    };
    answers = λ from number rows attempt heard is undecided. record {
      good = answered-good from number rows attempt undecided;
      says = each-none Fine;
    };
    decides = λ master attempt plan id ids is undecided picked. record {
      good = decided-good plan (id ∷ ids) (numbered-at c attempt is);
      says = each-plans Fine (decision_of c (c.current master) attempt.master plan (id ∷ ids))
          (λ to part parts are. refl) (id ∷ ids);
    };
    grants = λ id number term part is has. record {
      good = granted-good (senders c (attempt_at c number) (numbered-at c) is.found) is.up is.ungranted has;
      says = each-one Fine refl;
    };
    creates = λ table owner is fresh room. record {
      good = created-good table owner is;
      says = each-one Fine refl;
    };
    splits = λ table at tablet is held inside unmarked room. record {
      good = split-good table at (record { tablet = tablet; found = is; within = held; inside = inside; unmarked = unmarked });
      says = each-one Fine refl;
    };
  }

  pub tablets-moved : (work : NodeWork) → TabletsMoved (coordinator_step c work)
  tablets-moved work = walked-step c Hears After After stays moves work (λ _ _. tt)

-- The beginning

pub new-tablets : GoodTablets new_coordinator
new-tablets = search arith
