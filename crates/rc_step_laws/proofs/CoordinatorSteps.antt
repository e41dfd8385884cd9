-- Each step of the coordinator keeps what holds of it, and says only what it may say.
use Rattle.std.proofs.Common.{arith}
use Rattle.std.proofs.Common.{◌≡◌, ◌⊎◌, ℕ, ◌+◌, Bool, true, false, List, [], ◌∷◌, ◌++◌, length}
use Rattle.std.proofs.Common.{Some, None, Ok, refl, sym, ap, ◌∙◌, subst, inl, inr}
use Rattle.rc_model.specs.Model.{ServerId, Pair, Addr, Row, Tablet, Grant, Message, Body, CommitOk}
use Rattle.rc_model.specs.Model.{Replicas, Gather, put_id, from_coordinator, to_coordinator}
use Rattle.rc_model.specs.Model.{ServerList, is_up, has_crashed, crashed, up, up_rows}
use Rattle.rc_model.specs.Model.{split_at, assigned, is_below, pick, greater_pair, Attempt, Decision, new_attempt}
use Rattle.rc_model.specs.Model.{plan_messages, spreads_list, begins_attempt, attempt_at}
use Rattle.rc_model.specs.Model.{with_attempt, suspects, with_answer, decision_of, decides_on, decides, grant_of}
use Rattle.rc_model.specs.Model.{creates_table, creates, splits, tablet_of, coordinator_ticks, coordinator_takes, In}
use Rattle.rc_types.specs.declared.ids.Addr.TheVariants.{Coordinator as AtCoordinator}
use Rattle.rc_types.specs.declared.messages.Body.TheVariants as body
use Rattle.rc_model.specs.Coordinator.{Coordinator}
use Rattle.rc_model.proofs.Members.{In-left, In-append}
use Rattle.rc_model.proofs.Sending.{Each, each-none, each-one, each-both}
use Rattle.rc_model.proofs.CoordinatorWalk.{is_plain, Stays, Moves, each-to, each-plans, each-ticks}
use Rattle.rc_model.proofs.CoordinatorWalk.{walked-suspects, walked-decides, walked-creates, walked-splits, walked-takes, walked-step}
use Rattle.rc_model.specs.Model.{NodeWork, Deliver, coordinator_step}
use Rattle.rc_step_laws.specs.All.{OnDifferentHosts, IsNumbered, IsPlan, GoodAttempt, GoodCoordinator, CoordinatorMoved}
use Rattle.rc_step_laws.specs.All.{CoordinatorMayHear, coordinator_body_said}
use Rattle.rc_step_laws.proofs.Servers.{crashed-not-up, crashed-stays-crashed, crashed-stays-enlisted, apart-crashed, apart-enlisted}
use Rattle.rc_step_laws.proofs.Attempting.{below-refl, numbered-at, Kept, kept-refl, Says, moved-kept, moved-added, of-added}
use Rattle.rc_step_laws.proofs.Attempting.{moved-changed, numbered-set}
use Rattle.rc_model.proofs.Tables.{put_id-same, put_id_each}
use Rattle.rc_model.proofs.Granting.{greater-left, greater-right}

-- one message
says-one : (c : Coordinator) {to : Addr} {body : Body} → coordinator_body_said c to body →
    Each (Says c) (record { from = AtCoordinator; to = to; body = body } ∷ [])
says-one c {to} {body} holds = each-one (Says c) (refl, holds)

-- a kind that no law speaks of
plain-said : (c : Coordinator) (to : Addr) (body : Body) → is_plain body ≡ true → coordinator_body_said c to body
plain-said c to (body.Write table key value) e = cc
plain-said c to (body.Read table key) e = cc
plain-said c to (body.WriteOk seg offset term table key version) e = cc
plain-said c to (body.ReadOk table key version value) e = cc
plain-said c to (body.Place seg epoch digest entries closed) e = cc
plain-said c to (body.Append seg offset entries) e = cc
plain-said c to (body.Close seg len) e = cc
plain-said c to (body.Stored seg epoch len closed) e = cc
plain-said c to (body.Commit seg epoch) e = cc
plain-said c to (body.CommitOk seg epoch) e = cc
plain-said c to body.Enlist e = cc
plain-said c to body.Ready e = cc
plain-said c to (body.List version rows) e = cc
plain-said c to (body.Gather attempt master) e = cc
plain-said c to (body.Replicas attempt rows) e = cc
plain-said c to (body.Plan head attempt master rows parts) e = cc
plain-said c to (body.Fetch attempt master seg len part) e = cc
plain-said c to (body.Data attempt seg term entries) e = cc
plain-said c to (body.Recovered attempt term) e = cc
plain-said c to (body.Free seg) e = cc
plain-said c to _ e = tt

module _ (sent : List Message) (c : Coordinator) (good : GoodCoordinator sent c) where
  abbrev Hears : Addr → Body → Type 0
  Hears from body = CoordinatorMayHear sent from body

  abbrev Moved : Coordinator × List Message → Type 0
  Moved after = CoordinatorMoved sent c after

  -- nothing changes but what no fact speaks of
  quiet : {ready : ServerId → Bool} {tablets : List Tablet} {grants : List Grant} {last : ℕ} {messages : List Message} →
      let new : Coordinator = record c { ready = ready; tablets = tablets; grants = grants; last_term = last } in
      Each (Says new) messages → Moved (new, messages)
  quiet says = moved-kept
      good refl refl (record { crashed = λ m e. e; least = λ m. below-refl (c.least m); least_stays = λ m e. refl }) good.servers says

  still : {to : Addr} {body : Body} → coordinator_body_said c to body →
      Moved (c, record { from = AtCoordinator; to = to; body = body } ∷ [])
  still says = quiet (says-one c says)

  stays : Stays c Hears Moved
  stays = record {
    tells = λ to body is. still (plain-said c to body is);
    refuses = λ fault. still tt;
    denies = λ id fault other. still tt;
    lists = λ id. still good.servers;
    repeats = λ id term grant is found. still tt;
    lacks = λ id number term part is none. still tt;
    ticks = quiet (each-ticks c (Says c) (record {
      lists = λ id. (refl, good.servers);
      gathers = λ number attempt id is. (
        refl,
        record { attempt = attempt; numbered = numbered-at c attempt is; master_is = refl },
      );
      plans = λ number attempt decision is decided id part parts e. (
        refl,
        record {
          attempt = attempt;
          numbered = numbered-at c attempt is;
          master_is = refl;
          decision = decision;
          decided = decided;
          plan_is = refl;
        },
      );
    }));
  }

  -- Coming and going

  -- before an attempt may begin
  record Came (after : Coordinator × List Message) : Type 0 where
    attempts : after.0.attempts ≡ c.attempts
    current : after.0.current ≡ c.current
    kept : Kept c after.0
    apart : OnDifferentHosts (up_rows after.0.servers.rows)
    says : (new : Coordinator) → Each (Says new) after.1

  -- other servers, among which the crashed stay so
  came : {servers : ServerList} {tablets : List Tablet} →
      ((m : ServerId) → has_crashed c.servers m ≡ true → has_crashed servers m ≡ true) →
      OnDifferentHosts (up_rows servers.rows) →
      Came (record c { servers = servers; tablets = tablets }, spreads_list servers)
  came {servers} crashed apart = record {
    attempts = refl;
    current = refl;
    kept = record { crashed = crashed; least = λ m. below-refl (c.least m); least_stays = λ m e. refl };
    apart = apart;
    says = λ new. each-to (Says new) (λ id. (refl, apart)) (up servers);
  }

  begun : (new : Coordinator) (messages : List Message) (master : ServerId) → Came (new, messages) →
      has_crashed new.servers master ≡ true → Moved ((begins_attempt new master).0, messages ++ (begins_attempt new master).1)
  begun new messages master p has =
      let next : Coordinator = (begins_attempt new master).0 in
      moved-added (new_attempt master) good
      (ap (λ (attempts : List Attempt). attempts ++ new_attempt master ∷ []) p.attempts)
      (ap (λ (table : ServerId → ℕ). put_id table master (length new.attempts + 1)) p.current ∙
      ap (λ (attempts : List Attempt). put_id c.current master (length attempts + 1)) p.attempts)
      (record { crashed = p.kept.crashed; least = p.kept.least; least_stays = p.kept.least_stays }) p.apart has refl refl
      (each-both (Says next) messages (begins_attempt new master).1 (p.says next) (each-to (Says next)
      (λ id. (refl, of-added new.attempts (new_attempt master))) (up new.servers)))

  -- Commits

  committed : {id : ServerId} {pair : Pair} → is_up c.servers id ≡ true → Moved (
    record c { least = put_id c.least id (greater_pair (c.least id) pair) },
    from_coordinator id (CommitOk pair.seg pair.epoch) ∷ [],
  )
  committed {id} {pair} is = moved-kept good refl refl
      (record { crashed = λ m e. e; least = rises; least_stays = stay }) good.servers
      (says-one (record c { least = put_id c.least id (greater_pair (c.least id) pair) }) mine)
    where
      rises : (m : ServerId) → is_below (put_id c.least id (greater_pair (c.least id) pair) m) (c.least m) ≡ false
      rises m = put_id_each (λ (k : ServerId) (p : Pair). is_below p (c.least k) ≡ false)
          (greater-left (c.least id) pair) (λ other. below-refl (c.least other)) m

      -- that of a crashed master stays, since it isn't up
      stay : (m : ServerId) → has_crashed c.servers m ≡ true → put_id c.least id (greater_pair (c.least id) pair) m ≡ c.least m
      stay m e = search (arith, put_id_each, crashed-not-up)

      mine : is_below (put_id c.least id (greater_pair (c.least id) pair) id) pair ≡ false
      mine = ap (λ (p : Pair). is_below p pair) (put_id-same c.least id) ∙ greater-right (c.least id) pair

  -- Answers

  answered : (from : ServerId) (number : ℕ) (rows : List Row) (attempt : Attempt) →
      In (to_coordinator from (Replicas number rows)) sent → IsNumbered c.attempts number attempt →
      attempt.decided ≡ None → Moved (with_attempt c number (with_answer from rows attempt), [])
  answered from number rows attempt at numbered undecided = moved-changed good numbered refl refl
      (record { crashed = λ m e. e; least = λ m. below-refl (c.least m); least_stays = λ m e. refl }) good.servers
      refl undecided (record {
        crashed = was.crashed;
        answered = λ y told there. In-left (to_coordinator y (Replicas number told)) sent []
            (told_by y told (In-append (y, told) attempt.replies ((from, rows) ∷ []) there));
        picked = λ decision e. absurd (none_some decision (sym undecided ∙ e));
      }) (each-none (Says (with_attempt c number (with_answer from rows attempt))))
    where
      was : GoodAttempt sent c number attempt
      was = good.attempts number attempt numbered

      told_by : (y : ServerId) (told : List Row) →
          In (y, told) attempt.replies ⊎ In {X = ServerId × List Row} (y, told) ((from, rows) ∷ []) →
          In (to_coordinator y (Replicas number told)) sent
      told_by y told (inl old) = was.answered y told old
      told_by y told (inr (inl e)) =
          subst (λ (reply : ServerId × List Row). In (to_coordinator reply.0 (Replicas number reply.1)) sent) (sym e) at
      told_by y told (inr (inr never)) = absurd never

      none_some : (decision : Decision) → None ≡ Some decision → ⊥
      none_some decision never = cc

  -- Plans

  -- the decision on an attempt that is gathering
  decided_on : {number : ℕ} {attempt : Attempt} (decision : Decision) (ids : List ServerId) →
      IsNumbered c.attempts number attempt → attempt.decided ≡ None →
      pick (c.least attempt.master) attempt.replies ≡ Ok decision.plan → Moved (decides_on c number attempt decision ids)
  decided_on {number} {attempt} decision ids numbered undecided picked = moved-changed good numbered refl refl
      (record { crashed = λ m e. e; least = λ m. below-refl (c.least m); least_stays = λ m e. refl }) good.servers refl undecided (record {
        crashed = was.crashed;
        answered = λ y told there. In-left (to_coordinator y (Replicas number told)) sent
            (plan_messages number attempt.master decision ids) (was.answered y told there);
        picked = λ other e. (let same : decision ≡ other = cc in
            subst (λ (one : Decision). pick (c.least attempt.master) attempt.replies ≡ Ok one.plan) same picked);
      }) (each-plans (Says new) decision (λ id part parts e. (refl, is_plan)) ids)
    where
      now : Attempt
      now = record attempt { decided = Some decision }

      new : Coordinator
      new = (decides_on c number attempt decision ids).0

      was : GoodAttempt sent c number attempt
      was = good.attempts number attempt numbered

      is_plan : IsPlan (decides_on c number attempt decision ids).0 number attempt.master decision.plan.head decision.plan.rows
      is_plan = record {
        attempt = record attempt { decided = Some decision };
        numbered = numbered-set numbered;
        master_is = refl;
        decision = decision;
        decided = refl;
        plan_is = refl;
      }

  -- All of them

  moves : Moves c Hears Came Moved
  moves = record {
    same = record {
      attempts = refl;
      current = refl;
      kept = kept-refl;
      apart = good.servers;
      says = λ new. each-none (Says new);
    };
    crashes = λ id is. came (λ m e. crashed-stays-crashed id m c.servers e) (apart-crashed id c.servers good.servers);
    enlists = λ id is. came
        (λ m e. crashed-stays-enlisted id m c.servers e) (apart-enlisted id c.servers good.servers);
    replaces = λ id older is. came
        (λ m e. crashed-stays-enlisted id m c.servers e) (apart-enlisted id c.servers good.servers);
    done = λ new messages p. moved-kept good p.attempts p.current p.kept p.apart (p.says new);
    begins = begun;
    readies = λ id. quiet (each-none (Says (record c { ready = put_id c.ready id true })));
    commits = λ id pair h is. committed is;
    answers = λ from number rows attempt at is undecided. answered from number rows attempt at (numbered-at c attempt is) undecided;
    decides = λ master attempt plan id ids is undecided picked. (
        let numbered : IsNumbered c.attempts (c.current master) attempt = numbered-at c attempt is in
        decided_on (decision_of c (c.current master) attempt.master plan (id ∷ ids)) (id ∷ ids)
        numbered undecided
        (ap (λ (m : ServerId). pick (c.least m) attempt.replies) (good.current_master master attempt numbered) ∙ picked));
    grants = λ id number term part is has. quiet
        (says-one (record c {
          tablets = assigned part.range id part.term c.tablets;
          grants = c.grants ++ grant_of number id part ∷ [];
        }) tt);
    creates = λ table owner is fresh room. quiet (says-one (creates_table c table owner).0 tt);
    splits = λ table at tablet is holds inside unmarked room. quiet
        (says-one (record c { tablets = split_at table at c.tablets }) tt);
  }

  pub moved-suspects : (id : ServerId) → CoordinatorMoved sent c (suspects c id)
  moved-suspects id = walked-suspects c Hears Came Moved stays moves id

  pub moved-decides : (master : ServerId) → CoordinatorMoved sent c (decides c master)
  moved-decides master = walked-decides c Hears Came Moved stays moves master (attempt_at c (c.current master)) refl

  pub moved-creates : (table : ℕ) (owner : ServerId) → CoordinatorMoved sent c (creates c table owner)
  moved-creates table owner = walked-creates c Hears Came Moved stays moves table owner

  pub moved-splits : (table at : ℕ) → CoordinatorMoved sent c (splits c table at)
  moved-splits table at = walked-splits c Hears Came Moved stays moves table at (tablet_of c.tablets table at) refl

  pub moved-ticks : CoordinatorMoved sent c (c, coordinator_ticks c)
  moved-ticks = stays.ticks

  pub moved-takes : (from : Addr) (body : Body) → CoordinatorMayHear sent from body →
      CoordinatorMoved sent c (coordinator_takes c from body)
  moved-takes from body hear = walked-takes c Hears Came Moved stays moves from body hear

  pub moved-step : {work : NodeWork} → ((message : Message) → work ≡ Deliver message → CoordinatorMayHear sent message.from message.body) →
      CoordinatorMoved sent c (coordinator_step c work)
  moved-step {work} hear = walked-step c Hears Came Moved stays moves work hear
