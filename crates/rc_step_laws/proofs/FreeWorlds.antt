-- What a master has freed is left out for good, and so is in none of its accepted recoveries.
use Rattle.std.proofs.Common.{◌≡◌, ◌⊎◌, ℕ, ◌<◌, ◌≤◌, Bool, true, false, cond, List, [], ◌∷◌, ◌++◌}
use Rattle.std.proofs.Common.{refl, sym, ap, ◌∙◌, subst, inl, inr, arith}
use Rattle.std.proofs.lemmas.Bool.{cases_order}
use Rattle.std.proofs.lemmas.List.{append_assoc}
use Rattle.rc_model.specs.Model.{ServerId, Server, Setup, Event, PlanRow, Message, Body, is_server, Log, Master}
use Rattle.rc_model.specs.Model.{master_takes, master_ticks, replay, Accepted, In, WasAccepted, Opening, Writing}
use Rattle.rc_types.specs.declared.messages.Body.TheVariants as body
use Rattle.rc_model.proofs.Members.{In-left, In-right, In-append}
use Rattle.rc_step_laws.specs.Facts.{IsPlan, body_fine}
use Rattle.rc_step_laws.proofs.Covers.{PlanIs, plan-is, plan-head, head-not-below}
use Rattle.rc_step_laws.proofs.Replays.{GoodWorld, good-world}
use Rattle.rc_step_laws.specs.Freed.{IsLeftOut, freed_by, freed_in, GoodFrees}
use Rattle.rc_step_laws.specs.FreedClaims.{HasRow, RecoveriesAreDigests, HeadsAreNotShut, FreedIsLeftOut, FreedIsInNoRecovery}
use Rattle.rc_step_laws.proofs.Stays.{fewer}
use Rattle.rc_step_laws.proofs.EachMaster.{OthersSay, is_others, IsKeptByAll, kept-replay}
use Rattle.rc_step_laws.proofs.Walk.{takes-moves, ticks-moves}
use Rattle.rc_model.proofs.Ids.{same_id-refl}
use Rattle.rc_model.proofs.Tests.{true_false}
use Rattle.rc_model.proofs.Said.{is_server-true as server-true}

-- What a master has freed, of all that was sent

abbrev freed_of : List Message → ServerId → List ℕ
freed_of [] m = []
freed_of (message ∷ sent) m = cond (is_server m message.from) (freed_by message.body) [] ++ freed_of sent m

freed_of-append : (first second : List Message) (m : ServerId) → freed_of (first ++ second) m ≡ freed_of first m ++ freed_of second m
freed_of-append [] second m = refl
freed_of-append (message ∷ first) second m =
    ap (λ (some : List ℕ). cond (is_server m message.from) (freed_by message.body) [] ++ some) (freed_of-append first second m)
    ∙ sym (append_assoc (cond (is_server m message.from) (freed_by message.body) []) (freed_of first m) (freed_of second m))

-- what one of them frees is freed by them
freed_of-in : (messages : List Message) (m : ServerId) (s : ℕ) → In s (freed_of messages m) → In s (freed_in messages)
freed_of-in [] m s at = absurd at
freed_of-in (message ∷ messages) m s at = by (is_server m message.from) (freed_of-in messages m s)
    (In-append s (cond (is_server m message.from) (freed_by message.body) []) (freed_of messages m) at)
  where
    by : (b : Bool) → (In s (freed_of messages m) → In s (freed_in messages)) →
        In s (cond b (freed_by message.body) []) ⊎ In s (freed_of messages m) →
        In s (freed_by message.body ++ freed_in messages)
    by true rec (inl here) = In-left s (freed_by message.body) (freed_in messages) here
    by false rec (inl never) = absurd never
    by b rec (inr rest) = In-right s (freed_by message.body) (freed_in messages) (rec rest)

-- who says no Free in its name frees nothing of it
abbrev NoFrees : ServerId → List Message → Type 0
NoFrees m messages = (message : Message) → In message messages → message.from ≡ Server m → freed_by message.body ≡ []

none-freed : (messages : List Message) (m : ServerId) → NoFrees m messages → (s : ℕ) → In s (freed_of messages m) → ⊥
none-freed [] m none s at = absurd at
none-freed (message ∷ messages) m none s at =
    by (is_server m message.from) refl (In-append s (cond (is_server m message.from) (freed_by message.body) [])
    (freed_of messages m) at) (none-freed messages m (λ one there. none one (inr there)) s)
  where
    by : (b : Bool) → is_server m message.from ≡ b → In s (cond b (freed_by message.body) []) ⊎
        In s (freed_of messages m) → (In s (freed_of messages m) → ⊥) → ⊥
    by true is (inl here) rec = subst (In s) (none message (inl refl) (server-true message.from is)) here
    by false is (inl never) rec = never
    by b is (inr rest) rec = rec rest

-- each Free of it is among them
freed_of-has : (sent : List Message) (m : ServerId) (s : ℕ) (message : Message) → In message sent →
    message.from ≡ Server m → message.body ≡ body.Free s → In s (freed_of sent m)
freed_of-has [] m s message at from says = absurd at
freed_of-has (first ∷ sent) m s message (inl same) from says = search (arith, same_id-refl)
freed_of-has (first ∷ sent) m s message (inr rest) from says =
    In-right s (cond (is_server m first.from) (freed_by first.body) []) (freed_of sent m) (freed_of-has sent m s message rest from says)

-- A world

-- nothing of it was freed in these
unfreed : (sent messages : List Message) {m : ServerId} {log : Log} → NoFrees m messages →
    GoodFrees (freed_of sent m) log → GoodFrees (freed_of (sent ++ messages) m) log
unfreed sent messages {m} none good = fewer
    (λ s at. by s (In-append s (freed_of sent m) (freed_of messages m) (subst (In s) (freed_of-append sent messages m) at))) good
  where
    by : (s : ℕ) → In s (freed_of sent m) ⊎ In s (freed_of messages m) → In s (freed_of sent m)
    by s (inl was) = was
    by s (inr is) = absurd (none-freed messages m none s is)

-- what was freed in the master's own step was
freed-now : (sent messages : List Message) (m : ServerId) {log : Log} →
    GoodFrees (freed_of sent m ++ freed_in messages) log → GoodFrees (freed_of (sent ++ messages) m) log
freed-now sent messages m good = fewer
    (λ s at. by s (In-append s (freed_of sent m) (freed_of messages m) (subst (In s) (freed_of-append sent messages m) at))) good
  where
    by : (s : ℕ) → In s (freed_of sent m) ⊎ In s (freed_of messages m) → In s (freed_of sent m ++ freed_in messages)
    by s (inl was) = In-left s (freed_of sent m) (freed_in messages) was
    by s (inr is) = In-right s (freed_of sent m) (freed_in messages) (freed_of-in messages m s is)

-- nor do others in a master's name
frees-not : (says : Body) → is_others says ≡ true → freed_by says ≡ []
frees-not (body.Free s) e = true_false (sym e)
frees-not _ e = refl

freed-by_others : (m : ServerId) (messages : List Message) → OthersSay m messages → NoFrees m messages
freed-by_others m messages others message at from = frees-not message.body (others message at from)

abbrev Freed : List Message → ServerId → Master → Type 0
Freed sent m master = GoodFrees (freed_of sent m) master.log

freed-kept : {setup : Setup} → IsKeptByAll setup Freed
freed-kept = record {
  opened = λ m. record {
    left_out = λ s at. absurd at;
    old_shut = λ s above below. absurd (omega (arith, below));
    writing_shut = λ e. opened e;
    digests = λ k t upto at. absurd at;
  };
  led = record {
    same = λ sent m master p. p;
    others = λ sent messages m master p others. unfreed sent messages (freed-by_others m messages others) p;
    takes = λ sent m master from body good p at. freed-now sent (master_takes master from body).1 m
        ((takes-moves from body).keeps (freed_of sent m) p);
    ticks = λ sent m master good p. freed-now sent (master_ticks master).1 m
        ((ticks-moves master).keeps (freed_of sent m) p);
  };
}
  where
    opened : {P : Type 0} → Opening ≡ Writing → P
    opened e = cc

all-world : (setup : Setup) (events : List Event) (m : ServerId) → Freed (replay setup events).sent m ((replay setup events).masters m)
all-world setup events m = kept-replay setup Freed freed-kept events m

-- What the plans and the Frees say of it

pub freed-is-left-out : FreedIsLeftOut
freed-is-left-out setup events m s freed = (all-world setup events m).left_out s
    (freed_of-has (replay setup events).sent m s freed.message freed.among freed.from freed.says)

module _ (setup : Setup) (events : List Event) (plan : Accepted) (was : WasAccepted (replay setup events).sent plan) where
  good : GoodWorld (replay setup events)
  good = good-world setup events

  log : Log
  log = ((replay setup events).masters plan.master).log

  -- the plan of the message
  of : IsPlan (replay setup events).coordinator plan.attempt plan.master was.head plan.rows
  of = subst (λ (some : Body). body_fine (replay setup events).sent (replay setup events).masters
      (replay setup events).hosts (replay setup events).coordinator was.message.from was.message.to some) was.says
      (good.messages was.message was.among)

  is : PlanIs (replay setup events).sent (replay setup events).masters (replay setup events).coordinator plan.master plan.rows
  is = plan-is good of

  head-is : is.row.seg ≡ was.head
  unfolding is
  head-is = plan-head good of

  -- its head row has the digest of the head
  digest-is : is.row.digest ≡ (((replay setup events).masters plan.master).log.segments was.head).digest
  digest-is = is.head_copy.digest_is ∙ ap (λ k. (((replay setup events).masters plan.master).log.segments k).digest) head-is

  pub rows-are : {s : ℕ} → HasRow plan s → In s (((replay setup events).masters plan.master).log.segments was.head).digest
  rows-are {s} has = subst (λ (digest : List ℕ). In s digest) digest-is
      (subst (λ t. In t is.row.digest) has.seg (is.within has.row has.among))

  pub are-rows : (s : ℕ) → In s (((replay setup events).masters plan.master).log.segments was.head).digest → HasRow plan s
  are-rows s at =
      let found : (row : PlanRow) × (In row plan.rows) × (row.seg ≡ s) =
      is.all s (subst (λ (digest : List ℕ). In s digest) (sym digest-is) at) in
      record { row = found.0; among = found.1; seg = found.2 }

  pub not-shut : (((replay setup events).masters plan.master).log.segments was.head).shut ≡ true → ⊥
  not-shut shut = head-not-below good is.head is.head_copy is.unclosed is.valid
      (subst (λ k. (((replay setup events).masters plan.master).log.segments k).shut ≡ true) (sym head-is) shut)

  -- the head is at or above the one from which on the segment is left out
  pub not-in : {s : ℕ} → IsLeftOut ((replay setup events).masters plan.master).log s → HasRow plan s → ⊥
  not-in out has = by (cases_order was.head out.head)
    where
      above : 0 < was.head
      above = subst (λ k. 0 < k) head-is is.head_copy.opened.above

      below : was.head ≤ ((replay setup events).masters plan.master).log.head
      below = subst (λ k. k ≤ ((replay setup events).masters plan.master).log.head) head-is is.head_copy.opened.below

      lacks : out.head ≤ was.head → ⊥
      lacks from = out.lacks was.head from below (rows-are has)

      by : (was.head ≡ out.head) ⊎ ((was.head < out.head) ⊎ (out.head < was.head)) → ⊥
      by (inl same) = lacks (omega (arith, same))
      by (inr (inl less)) = not-shut (out.shut was.head above less)
      by (inr (inr more)) = lacks (omega (arith, more))

pub recoveries-are-digests : RecoveriesAreDigests
recoveries-are-digests setup events plan was s = (rows-are setup events plan was, are-rows setup events plan was s)

pub heads-are-not-shut : HeadsAreNotShut
heads-are-not-shut setup events plan was shut = not-shut setup events plan was shut

pub freed-is-in-no-recovery : FreedIsInNoRecovery
freed-is-in-no-recovery setup events plan s was freed has =
    not-in setup events plan was (freed-is-left-out setup events plan.master s freed) has
