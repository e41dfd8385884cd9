-- The coordinator grants commits and ranges only to ids that are up.
use Rattle.std.proofs.Common.{◌≡◌, ℕ, ◌+◌, true, false, List, [], ◌∷◌, length, refl, sym, ◌∙◌, subst}
use Rattle.rc_model.specs.Model.{ServerId, Server, Message, Body, CommitOk, Own, Gather, from_coordinator}
use Rattle.rc_model.specs.Model.{is_up, up, ServerList, Decision, list_body, spreads_list}
use Rattle.rc_model.specs.Model.{own_body, grant_of, first_grant, decision_of}
use Rattle.rc_model.specs.Model.{begins_attempt, with_crashed, enlisted, plan_messages}
use Rattle.rc_types.specs.declared.messages.Body.TheVariants.{Plan as PlanBody}
use Rattle.rc_model.specs.Coordinator.{Coordinator}
use Rattle.rc_model.specs.CoordinatorClaims.{is_granting, GrantsGoOnlyToTheUp}
use Rattle.rc_model.proofs.Tests.{true_false}
use Rattle.rc_model.proofs.Ids.{server-same}
use Rattle.rc_model.proofs.Sending.{Each, each-none, each-one, each-both}
use Rattle.rc_model.proofs.CoordinatorWalk.{is_plain, Stays, Moves, walked-step, each-to, each-plans, each-ticks}

module _ (c : Coordinator) where
  -- a message that grants goes to an id that is up
  abbrev ToUp : Message → Type 0
  ToUp message = is_granting message.body ≡ true → (id : ServerId) → message.to ≡ Server id → is_up c.servers id ≡ true

  abbrev After : Coordinator × List Message → Type 0
  After after = Each ToUp after.1

  -- others
  plain : (message : Message) → is_granting message.body ≡ false → ToUp message
  plain message other is id to = true_false (sym is ∙ other)

  up-one : {id : ServerId} (body : Body) → is_up c.servers id ≡ true → ToUp (from_coordinator id body)
  up-one body is _ other to = subst (λ (one : ServerId). is_up c.servers one ≡ true) (server-same to) is

  plain-one : {message : Message} → is_granting message.body ≡ false → Each ToUp (message ∷ [])
  plain-one {message} other = each-one ToUp (plain message other)

  plain-list : (servers : ServerList) → Each ToUp (spreads_list servers)
  plain-list servers = each-to ToUp (λ id. plain (from_coordinator id (list_body servers)) refl) (up servers)

  plain-ungranting : (body : Body) → is_plain body ≡ true → is_granting body ≡ false
  plain-ungranting (CommitOk seg epoch) e = cc
  plain-ungranting (Own range term previous attempt) e = cc
  plain-ungranting _ e = refl

  up-stays : Stays c (λ _ _. Unit {0}) After
  up-stays = record {
    tells = λ to body is. plain-one (plain-ungranting body is);
    refuses = λ fault. plain-one refl;
    denies = λ id fault other. plain-one refl;
    lists = λ id. plain-one refl;
    repeats = λ id term grant is found. each-one ToUp (up-one (own_body grant) is);
    lacks = λ id number term part is none. plain-one refl;
    ticks = each-ticks c ToUp (record {
      lists = λ id. plain (from_coordinator id (list_body c.servers)) refl;
      gathers = λ number attempt id is. plain (from_coordinator id (Gather number attempt.master)) refl;
      plans = λ number attempt decision is decided id part parts e.
          plain (from_coordinator id (PlanBody decision.plan.head number attempt.master decision.plan.rows (part ∷ parts))) refl;
    });
  }

  up-decides : (number : ℕ) (master : ServerId) (decision : Decision) (ids : List ServerId) →
      Each ToUp (plan_messages number master decision ids)
  up-decides number master decision ids = each-plans ToUp decision
      (λ id part parts e. plain (from_coordinator id (PlanBody decision.plan.head number master decision.plan.rows (part ∷ parts))) refl)
      ids

  up-moves : Moves c (λ _ _. Unit {0}) After After
  up-moves = record {
    same = each-none ToUp;
    crashes = λ id is. plain-list (with_crashed c id).servers;
    enlists = λ id is. plain-list (enlisted id c.servers);
    replaces = λ id older is. plain-list (enlisted id c.servers);
    done = λ new messages p. p;
    begins = λ new messages master p crashed. each-both ToUp messages (begins_attempt new master).1 p (each-to ToUp
        (λ id. plain (from_coordinator id (Gather (length new.attempts + 1) master)) refl) (up new.servers));
    readies = λ id. each-none ToUp;
    commits = λ id pair h is. each-one ToUp (up-one (CommitOk pair.seg pair.epoch) is);
    answers = λ from number rows attempt h is undecided. each-none ToUp;
    decides = λ master attempt plan id ids is undecided picked. up-decides (c.current master) attempt.master
        (decision_of c (c.current master) attempt.master plan (id ∷ ids)) (id ∷ ids);
    grants = λ id number term part is has. each-one ToUp (up-one (own_body (grant_of number id part)) is.up);
    creates = λ table owner is fresh room. each-one ToUp
        (up-one (own_body (first_grant table owner (c.last_term + 1))) is);
    splits = λ table at tablet is holds inside unmarked room. plain-one refl;
  }

pub grants-go-only-to-the-up : GrantsGoOnlyToTheUp
grants-go-only-to-the-up c work message id at is to =
    walked-step c (λ _ _. Unit {0}) (After c) (After c) (up-stays c) (up-moves c) work (λ _ _. tt) message at is id to
