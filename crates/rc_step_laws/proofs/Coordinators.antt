-- What each rule of the coordinator does to its numbers.
use Rattle.std.proofs.Common.{ℕ, ◌≡◌, ◌+◌, ◌-◌, ◌*◌, ◌≤◌, true, false, Bool, List}
use Rattle.std.proofs.Common.{[], ◌∷◌, ◌++◌, length, Some, refl, arith, leb-false, length-append, length-set}
use Rattle.rc_model.specs.Model.{ServerId, Tablet, Grant, Message, Body, Gather, MAX_TABLETS}
use Rattle.rc_model.specs.Model.{NoTable, from_coordinator, to_each, coordinator_refuses}
use Rattle.rc_model.specs.Model.{put_id, ServerList, is_up, crashed}
use Rattle.rc_model.specs.Model.{id_crashed, up, whole_table, tablets_of, assigned, greater_pair}
use Rattle.rc_model.specs.Model.{Attempt, Decision, plan_messages, new_coordinator, refuses_server, list_body, spreads_list}
use Rattle.rc_model.specs.Model.{begins_attempt, with_attempt, with_answer, decision_of, decides_on, own_body}
use Rattle.rc_model.specs.Model.{grant_of, coordinator_ticks, is_too_many, NodeWork, coordinator_step, Pair}
use Rattle.rc_types.specs.declared.rows.Plan.{Plan}
use Rattle.rc_types.specs.declared.ids.Addr.TheVariants.{Coordinator as AtCoordinator}
use Rattle.rc_types.specs.declared.messages.Body.TheVariants as body
use Rattle.rc_model.specs.Coordinator.{Coordinator}
use Rattle.rc_model.proofs.Sending.{each-all}
use Rattle.rc_model.proofs.CoordinatorWalk.{is_plain, Stays, Moves, each-to, each-plans, each-ticks, walked-step}
use Rattle.rc_step_laws.specs.Numbers.{CoordinatorWithin, body_within, MessagesWithin}
use Rattle.rc_step_laws.proofs.Entries.{none-within, one-within, both-within}
use Rattle.rc_step_laws.proofs.Tablets.{length-marked, length-assigned, length-inserted, length-split, length-owned, length-parts}
use Rattle.rc_model.proofs.Tests.{either}

-- what is within n is within all that is more
pub within-more : {c : Coordinator} {n m : ℕ} → n ≤ m → CoordinatorWithin n c → CoordinatorWithin m c
within-more more h = record { versions = omega arith; attempts = omega arith; tablets = omega arith; terms = omega arith }

within-next : {c : Coordinator} {n : ℕ} → CoordinatorWithin n c → CoordinatorWithin (n + 1) c
within-next h = within-more (omega arith) h

-- what a step leaves, with what is said in it
pub record After (n : ℕ) (after : Coordinator × List Message) : Type 0 where
  pub numbers : CoordinatorWithin (n + 1) after.0
  pub messages : MessagesWithin (n + 1) after.1

-- before an attempt may begin
record Before (n : ℕ) (after : Coordinator × List Message) : Type 0 where
  versions : after.0.servers.version ≤ n + 1
  attempts : length after.0.attempts ≤ n
  tablets : length after.0.tablets ≤ MAX_TABLETS
  terms : after.0.last_term ≤ MAX_TABLETS * n
  messages : MessagesWithin (n + 1) after.1

each-within : (n : ℕ) (ids : List ServerId) (body : Body) → body_within n body → MessagesWithin n (to_each ids body)
each-within n ids body p = each-all (λ (message : Message). body_within n message.body) (to_each ids body)
    (each-to (λ (message : Message). body_within n message.body) (λ id. p) ids)

-- a crash raises the version by one at most
version-crashed : (id : ServerId) (servers : ServerList) → (crashed id servers).version ≤ servers.version + 1
version-crashed id servers = either (λ (after : ServerList). after.version ≤ servers.version + 1) (is_up servers id)
    (record { version = servers.version + 1; rows = id_crashed id servers.rows }) servers (λ e. omega arith)
    (λ e. omega arith)

-- what changes no number
same-within : {c new : Coordinator} {n : ℕ} → CoordinatorWithin n c → new.servers.version ≡ c.servers.version →
    length new.attempts ≡ length c.attempts → length new.tablets ≡ length c.tablets → new.last_term ≡ c.last_term →
    CoordinatorWithin (n + 1) new
same-within h versions attempts tablets terms =
    record {
      versions = omega (arith, h.versions, versions);
      attempts = omega (arith, h.attempts, attempts);
      tablets = omega (arith, h.tablets, tablets);
      terms = omega (arith, h.terms, terms);
    }

-- there is room for one more
room : (tablets : List Tablet) → is_too_many tablets ≡ false → length tablets + 1 ≤ MAX_TABLETS
room tablets e = omega (arith, leb-false MAX_TABLETS (length tablets) e)

-- The timer and the plans

plans-within : (n number : ℕ) (master : ServerId) (decision : Decision) (ids : List ServerId) →
    MessagesWithin n (plan_messages number master decision ids)
plans-within n number master decision ids =
    each-all (λ (message : Message). body_within n message.body) (plan_messages number master decision ids)
    (each-plans (λ (message : Message). body_within n message.body) decision (λ id part parts e. tt) ids)

ticks-within : (n : ℕ) (c : Coordinator) → MessagesWithin n (coordinator_ticks c)
ticks-within n c = each-all (λ (message : Message). body_within n message.body) (coordinator_ticks c)
    (each-ticks c (λ (message : Message). body_within n message.body) (record {
      lists = λ id. tt;
      gathers = λ number attempt id is. tt;
      plans = λ number attempt decision is decided id part parts e. tt;
    }))

-- a kind that no law speaks of has no number
plain-within : (n : ℕ) (body : Body) → is_plain body ≡ true → body_within n body
plain-within n (body.Place seg epoch digest entries closed) e = cc
plain-within n (body.Append seg offset entries) e = cc
plain-within n (body.Data attempt seg term entries) e = cc
plain-within n _ e = tt

-- All of them

module _ (c : Coordinator) (n : ℕ) (h : CoordinatorWithin n c) where
  -- one message
  says : {new : Coordinator} {message : Message} → CoordinatorWithin (n + 1) new → body_within (n + 1) message.body →
      After n (new, message ∷ [])
  says {message} within p = record { numbers = within; messages = one-within (n + 1) message p }

  -- the numbers stay, and this is said
  answers : (message : Message) → body_within (n + 1) message.body → After n (c, message ∷ [])
  answers message p = says (within-next h) p

  stays : Stays c (λ _ _. Unit {0}) (After n)
  stays = record {
    tells = λ to body is. answers (record { from = AtCoordinator; to = to; body = body }) (plain-within (n + 1) body is);
    refuses = λ fault. answers (coordinator_refuses fault) tt;
    denies = λ id fault other. answers (refuses_server id fault) tt;
    lists = λ id. answers (from_coordinator id (list_body c.servers)) tt;
    repeats = λ id term grant is found. answers (from_coordinator id (own_body grant)) tt;
    lacks = λ id number term part is none. answers (refuses_server id NoTable) tt;
    ticks = record { numbers = within-next h; messages = ticks-within (n + 1) c };
  }

  came : {servers : ServerList} {tablets : List Tablet} → servers.version ≤ n + 1 → length tablets ≤ MAX_TABLETS →
      Before n (record c { servers = servers; tablets = tablets }, spreads_list servers)
  came {servers} {tablets} versions more = record {
    versions = versions;
    attempts = h.attempts;
    tablets = more;
    terms = h.terms;
    messages = each-within (n + 1) (up servers) (list_body servers) tt;
  }

  -- as before, but for what has no number
  same : (ready : ServerId → Bool) (least : ServerId → Pair) (attempts : List Attempt) (tablets : List Tablet) (grants : List Grant) →
      length attempts ≡ length c.attempts → length tablets ≡ length c.tablets → CoordinatorWithin (n + 1)
      (record c { ready = ready; least = least; attempts = attempts; tablets = tablets; grants = grants })
  same ready least attempts tablets grants p q = same-within h refl p q refl

  moves : Moves c (λ _ _. Unit {0}) (Before n) (After n)
  moves = record {
    same = record {
      versions = omega (arith, h.versions);
      attempts = h.attempts;
      tablets = h.tablets;
      terms = h.terms;
      messages = none-within (n + 1);
    };
    crashes = λ id is. came
        (omega (arith, version-crashed id c.servers, h.versions)) (omega (arith, length-marked id c.tablets, h.tablets));
    enlists = λ id is. came (omega (arith, h.versions)) h.tablets;
    replaces = λ id older is. came (omega (arith, h.versions))
        (omega (arith, length-marked older c.tablets, h.tablets));
    done = λ new messages p. record {
      numbers = record {
        versions = p.versions;
        attempts = omega (arith, p.attempts);
        tablets = p.tablets;
        terms = omega (arith, p.terms);
      };
      messages = p.messages;
    };
    begins = λ new messages master p crashed. record {
      numbers = record {
        versions = p.versions;
        attempts = simp (length-append) (omega (arith, p.attempts));
        tablets = p.tablets;
        terms = omega (arith, p.terms);
      };
      messages = both-within (n + 1) messages (begins_attempt new master).1 p.messages
          (each-within (n + 1) (up new.servers) (Gather (length new.attempts + 1) master) tt);
    };
    readies = λ id. record {
      numbers = same (put_id c.ready id true) c.least c.attempts c.tablets c.grants refl refl;
      messages = none-within (n + 1);
    };
    commits = λ id pair heard is. says
        (same c.ready (put_id c.least id (greater_pair (c.least id) pair)) c.attempts c.tablets c.grants refl refl) tt;
    answers = λ from number rows attempt heard is undecided. record {
      numbers = same c.ready c.least (with_attempt c number (with_answer from rows attempt)).attempts c.tablets c.grants
          (length-set c.attempts (number - 1) (with_answer from rows attempt)) refl;
      messages = none-within (n + 1);
    };
    decides = λ master attempt plan id ids is undecided picked. decided master attempt plan (id ∷ ids);
    grants = λ id number term part is has. says
        (same c.ready c.least c.attempts (assigned part.range id part.term c.tablets) (c.grants ++ grant_of number id part ∷ [])
        refl (length-assigned part.range id part.term c.tablets)) tt;
    creates = λ table owner is fresh few. says (record {
      versions = omega (arith, h.versions);
      attempts = omega (arith, h.attempts);
      tablets = omega (arith, length-inserted (whole_table table owner (c.last_term + 1)) c.tablets, room c.tablets few);
      terms = omega (arith, h.terms);
    }) tt;
    splits = λ table at tablet is holds inside unmarked few. says (record {
      versions = omega (arith, h.versions);
      attempts = omega (arith, h.attempts);
      tablets = omega (arith, length-split table at c.tablets, room c.tablets few);
      terms = omega (arith, h.terms);
    }) tt;
  }
    where
      decided : (master : ServerId) (attempt : Attempt) (plan : Plan) (ids : List ServerId) →
          After n (decides_on c (c.current master) attempt
          (decision_of c (c.current master) attempt.master plan ids) ids)
      decided master attempt plan ids = record {
        numbers = record {
          versions = omega (arith, h.versions);
          attempts = omega (
            arith,
            h.attempts,
            length-set c.attempts (c.current master - 1)
                (record attempt { decided = Some (decision_of c (c.current master) attempt.master plan ids) }),
          );
          tablets = h.tablets;
          terms = omega (
            arith,
            h.terms,
            h.tablets,
            length-parts ids (c.current master - 1) (c.last_term + 1) (tablets_of attempt.master c.tablets),
            length-owned attempt.master c.tablets,
          );
        };
        messages = plans-within (n + 1) (c.current master) attempt.master
            (decision_of c (c.current master) attempt.master plan ids) ids;
      }

pub coordinator-within : {c : Coordinator} (work : NodeWork) {n : ℕ} → CoordinatorWithin n c → After n (coordinator_step c work)
coordinator-within {c} work {n} h =
    walked-step c (λ _ _. Unit {0}) (Before n) (After n) (stays c n h) (moves c n h) work (λ _ _. tt)

pub new-within : CoordinatorWithin 0 new_coordinator
new-within = record { versions = omega arith; attempts = omega arith; tablets = omega arith; terms = omega arith }
