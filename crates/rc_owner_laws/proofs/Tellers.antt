-- A shut segment was told closed by as many servers as it has replicas, each of a host of its own.
use Rattle.std.proofs.Common.{◌≡◌, ◌⊎◌, ℕ, ◌<◌, ◌≤◌, Bool, true, false, List, [], ◌∷◌, ◌++◌, length, Option, Some, None}
use Rattle.std.proofs.Common.{refl, sym, ap, ◌∙◌, subst, inl, inr, arith}
use Rattle.std.proofs.lemmas.List.{append-nil, append_assoc, length-map}
use Rattle.rc_model.specs.Model.{ServerId, Addr, Server, Setup, Event, Member, Message, Stored, Enlist, between, to_coordinator, Backup}
use Rattle.rc_model.specs.Model.{backup_takes, ids_of, Master, master_takes, master_ticks, factor_of, NodeWork, HostNode, server_of}
use Rattle.rc_model.specs.Model.{host_step}
use Rattle.rc_model.specs.Model.{next_server, with_backup, with_master, World, opening, NodeName, TheOutside, TheCoordinator, TheHost, Job}
use Rattle.rc_model.specs.Model.{job_of, is_possible, host_done, node_done, job_done, step, replay, In}
use Rattle.rc_types.specs.declared.ids.Addr.TheVariants.{Coordinator as AtCoordinator}
use Rattle.rc_model.specs.Nodes.{Start}
use Rattle.rc_model.proofs.Replays.{replay_from-push}
use Rattle.rc_model.proofs.Tests.{true_false, either}
use Rattle.rc_step_laws.specs.All.{HasToldClosed, IsPlace, IsPlacedAt, IsStored, OnDifferentHosts, LogLater, MasterMoved}
use Rattle.rc_step_laws.proofs.NodeWalk.{walked-host}
use Rattle.rc_step_laws.proofs.Copies.{More, In-either, split}
use Rattle.rc_step_laws.proofs.Replays.{GoodWorld, GoodStep, IsGiven, is-good, job_of-given, put_id-found, led-step, good-world}
use Rattle.rc_owner_laws.proofs.Placings.{WasShut}
use Rattle.rc_owner_laws.proofs.LossWorlds.{LossFacts, loss-facts}

-- An event moves a master, or newly tells it something, but not both

module _ (world : World) (one : Event) (good : GoodWorld world) (m : ServerId) where
  abbrev Either : World → Type 0
  Either after = (after.masters m ≡ world.masters m) ⊎ ((x : ServerId) (s e len : ℕ) (closed : Bool) →
      In (between x m (Stored s e len closed)) after.sent → In (between x m (Stored s e len closed)) world.sent)

  none-new : (after : World) (messages : List Message) → after.sent ≡ world.sent ++ messages →
      ((x : ServerId) (s e len : ℕ) (closed : Bool) → In (between x m (Stored s e len closed)) messages → ⊥) → Either after
  none-new after messages is none = inr (λ x s e len closed at. In-either (between x m (Stored s e len closed)) world.sent messages
      (subst (In (between x m (Stored s e len closed))) is at) (λ there. there) (λ new. absurd (none x s e len closed new)))

  module _ (i : ℕ) where
    abbrev Done : HostNode × List Message → Type 0
    Done after = Either (host_done world one i after)

    done-none : (host : HostNode) → Done (host, [])
    done-none host = none-new (host_done world one i (host, [])) [] refl (λ x s e len closed at. at)

    done-moved : {master : Master} (after : Master × List Message) → MasterMoved world.sent (server_of (world.hosts i)) master after →
        Done (with_master (world.hosts i) after)
    done-moved (now, messages) moved = none-new (host_done world one i (with_master (world.hosts i) (now, messages))) messages refl
        (λ x s e len closed at. (moved.says (between x m (Stored s e len closed)) at).says)

    done-backup : {master : Master} → (world.hosts i).master ≡ Some master → (after : Backup × List Message) →
        Done (with_backup (world.hosts i) after)
    done-backup {master} is (backup, messages) = search (arith, put_id-found, is-good)

    no-enlist : (x : ServerId) (s e len : ℕ) (closed : Bool) →
        In (between x m (Stored s e len closed)) (to_coordinator (next_server (world.hosts i)) Enlist ∷ []) → ⊥
    no-enlist x s e len closed (inl same) =
        (let never : ◌≡◌ {A = Addr} (Server m) AtCoordinator = ap (λ (message : Message). message.to) same in cc)
    no-enlist x s e len closed (inr never) = never

    done-host : (work : NodeWork) → IsGiven world.sent (TheHost i) work → Done (host_step (world.hosts i) work)
    done-host work given = walked-host world one i good Done (record {
      still = done-none (world.hosts i);
      backs = λ master is from says at moved. done-backup is (backup_takes (world.hosts i).backup from says);
      takes = λ master is from says at moved. done-moved (master_takes master from says) moved;
      ticks = λ master is moved. done-moved (master_ticks master) moved;
      stops = done-none (record (world.hosts i) { master = None });
      starts = λ kept. none-new (host_done world one i (host_step (world.hosts i) (Start kept)))
          (to_coordinator (next_server (world.hosts i)) Enlist ∷ []) refl no-enlist;
    }) work given

  either-node : (node : NodeName) (work : NodeWork) → IsGiven world.sent node work → Either (node_done world one node work)
  either-node TheOutside work given = inl refl
  either-node TheCoordinator work given = inl refl
  either-node (TheHost i) work given = done-host i work given

  either-job : (found : Option Job) → job_of world.sent one ≡ found → Either (job_done world one found)
  either-job None is = inl refl
  either-job (Some job) is = either-node job.node job.work (job_of-given world.sent one is)

  moves-or-tells : Either (step world one)
  moves-or-tells = either Either (is_possible world one) (job_done world one (job_of world.sent one)) world
      (λ _. either-job (job_of world.sent one) refl) (λ _. inl refl)

-- Who has told closed

pub record Tellers (f : ℕ) (sent : List Message) (m : ServerId) (t : ℕ) : Type 0 where
  pub ids : List ServerId
  pub many : length ids ≡ f
  pub apart : OnDifferentHosts ids
  pub told : (x : ServerId) → In x ids → (e : ℕ) × HasToldClosed sent x m t e

tellers-more : {f : ℕ} {sent sent_now : List Message} {m : ServerId} {t : ℕ} → More sent sent_now → Tellers f sent m t → Tellers f
    sent_now m t
tellers-more more p = record {
  ids = p.ids;
  many = p.many;
  apart = p.apart;
  told = λ x at. (let q = p.told x at in (q.0, record { len = q.1.len; told = more _ q.1.told }));
}

abbrev AllTellers : Setup → World → Type 0
AllTellers setup world = (m : ServerId) (t : ℕ) → 0 < factor_of setup m.index → ((world.masters m).log.segments t).shut ≡ true →
    Tellers (factor_of setup m.index) world.sent m t

module _ (setup : Setup) (events : List Event) (one : Event) (p : AllTellers setup (replay setup events)) (m : ServerId) (t : ℕ)
    (some : 0 < factor_of setup m.index) (shut : (((step (replay setup events) one).masters m).log.segments t).shut ≡ true) where
  led : GoodStep (replay setup events) (step (replay setup events) one)
  led = led-step (replay setup events) one (good-world setup events)

  abbrev Now : Type 0
  Now = Tellers (factor_of setup m.index) (step (replay setup events) one).sent m t

  -- it was shut in this event: its members told closed
  newly : (((replay setup events).masters m).log.segments t).shut ≡ false → Now
  newly unshut = by (moves-or-tells (replay setup events) one (good-world setup events) m)
    where
      now-facts : LossFacts setup (events ++ one ∷ []) (step (replay setup events) one)
      now-facts = subst (LossFacts setup (events ++ one ∷ [])) (replay_from-push (opening setup) events one) (loss-facts setup
          (events ++ one ∷ []))

      was : WasShut (step (replay setup events) one).sent m t (((step (replay setup events) one).masters m).log.segments t).config.epoch
      was = ((now-facts.masters m).each t).shut some shut

      later : LogLater (step (replay setup events) one).sent m ((replay setup events).masters m).log ((step
          (replay setup events) one).masters m).log
      later = (led.onward.grown m).later

      -- what was told under its epoch was told before
      placed : In (between was.teller m (Stored t (((step (replay setup events) one).masters m).log.segments t).config.epoch
          was.told.len true)) (replay setup events).sent → (0 < t) × (t ≤ ((replay setup events).masters m).log.head) ×
          ((((step (replay setup events) one).masters m).log.segments t).config.epoch ≤
          (((replay setup events).masters m).log.segments t).config.epoch)
      placed at =
          let stored : IsStored (replay setup events).sent (replay setup events).hosts m ((replay setup events).masters m).log was.teller t
          (((step (replay setup events) one).masters m).log.segments t).config.epoch was.told.len true =
          (good-world setup events).messages _ at in
          let place : IsPlacedAt (replay setup events).sent m t (((step (replay setup events) one).masters m).log.segments t).config.epoch
          was.teller.index was.teller.generation = stored.told.placed in
          let is : IsPlace (replay setup events).sent m ((replay setup events).masters m).log place.to t
          (((step (replay setup events) one).masters m).log.segments t).config.epoch place.digest place.entries place.closed =
          (good-world setup events).messages _ place.placed in
          (is.opened.above, is.opened.below, is.epoch)

      old : (0 < t) × (t ≤ ((replay setup events).masters m).log.head) ×
          ((((step (replay setup events) one).masters m).log.segments t).config.epoch ≤
          (((replay setup events).masters m).log.segments t).config.epoch) → Now
      old (above, upto, epoch) =
          let up : (((replay setup events).masters m).log.segments t).config.epoch ≤
          (((step (replay setup events) one).masters m).log.segments t).config.epoch = later.epoch t upto in
          let same : (((step (replay setup events) one).masters m).log.segments t).config.epoch ≡
          (((replay setup events).masters m).log.segments t).config.epoch = omega (arith, up, epoch) in
          record {
            ids = ids_of (((replay setup events).masters m).log.segments t).config.members;
            many = length-map (((replay setup events).masters m).log.segments t).config.members (λ (member : Member). member.id) ∙
                (((loss-facts setup events).masters m).each t).many above upto;
            apart = ((good-world setup events).masters_are m).apart t unshut;
            told = λ x at. (
              (((step (replay setup events) one).masters m).log.segments t).config.epoch,
              later.shuts t x upto unshut shut same at,
            );
          }

      by : ((step (replay setup events) one).masters m ≡ (replay setup events).masters m) ⊎
          ((x : ServerId) (s e len : ℕ) (closed : Bool) → In (between x m (Stored s e len closed)) (step (replay setup events) one).sent →
          In (between x m (Stored s e len closed)) (replay setup events).sent) → Now
      by (inl same) = true_false (sym (subst (λ (one : Master). (one.log.segments t).shut ≡ true) same shut) ∙ unshut)
      by (inr back) = old (placed (back was.teller t _ was.told.len true was.told.told))

  tellers-step : Now
  tellers-step = split (((replay setup events).masters m).log.segments t).shut (λ is. tellers-more led.onward.more
      (p m t some is)) newly

tellers-from : (setup : Setup) (past events : List Event) → AllTellers setup (replay setup past) → AllTellers setup (replay setup
    (past ++ events))
tellers-from setup past [] p = subst (λ (all : List Event). AllTellers setup (replay setup all)) (sym (append-nil past)) p
tellers-from setup past (one ∷ events) p =
    subst (λ (all : List Event). AllTellers setup (replay setup all)) (append_assoc past (one ∷ []) events)
    (tellers-from setup (past ++ one ∷ []) events
    (subst (AllTellers setup) (sym (replay_from-push (opening setup) past one))
    (λ m t some shut. tellers-step setup past one p m t some shut)))

pub tellers : (setup : Setup) (events : List Event) → AllTellers setup (replay setup events)
tellers setup events = tellers-from setup [] events (λ m t some never. true_false (sym never))
