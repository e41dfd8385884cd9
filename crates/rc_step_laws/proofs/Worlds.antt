-- One part of a good world moves, and the world stays good.
use Rattle.std.proofs.Common.{◌≡◌, ◌⊎◌, ℕ, Bool, true, List, ◌++◌, refl, sym, ◌∙◌, subst, inl, inr, arith}
use Rattle.rc_model.specs.Model.{ServerId, Addr, Server, Message, Body, between, from_coordinator, is_up, Master, HostNode, server_of, In}
use Rattle.rc_types.specs.declared.ids.Addr.TheVariants.{Coordinator as AtCoordinator}
use Rattle.rc_types.specs.declared.messages.Body.TheVariants as body
use Rattle.rc_model.specs.Coordinator.{Coordinator}
use Rattle.rc_model.proofs.Members.{In-left, In-append}
use Rattle.rc_step_laws.specs.All.{GoodHost, GoodCoordinator, Good, body_fine, Fine, HostLater, CoordinatorMoved, CoordinatorLater}
use Rattle.rc_step_laws.specs.All.{coordinator_body_said}
use Rattle.rc_step_laws.proofs.Copies.{More, In-either}
use Rattle.rc_step_laws.proofs.Attempting.{kept-refl, attempt_later-refl}
use Rattle.rc_step_laws.proofs.Storing.{held_later-refl}
use Rattle.rc_step_laws.proofs.Backups.{Quiet, own-fine}
use Rattle.rc_step_laws.proofs.Granted.{GrantsUp}
use Rattle.rc_step_laws.proofs.Lasting.{Onward, fine-later, held-later}
use Rattle.rc_step_laws.proofs.Unmoved.{NoNewPlaceOf, unmoved-grown, unmoved-good, unmoved-own}

-- The next world is good where its parts are, and what is new is fine

-- a good world, and what it has more than an earlier one
pub record Led (sent : List Message) (masters : ServerId → Master) (hosts : ℕ → HostNode) (c : Coordinator)
    (sent_now : List Message) (masters_now : ServerId → Master) (hosts_now : ℕ → HostNode) (c_now : Coordinator) : Type
    0 where
  pub good : Good sent_now masters_now hosts_now c_now
  pub onward : Onward sent masters hosts c sent_now masters_now hosts_now c_now

pub good-onward : {sent : List Message} {masters : ServerId → Master} {hosts : ℕ → HostNode} {c : Coordinator}
    {sent_now : List Message} {masters_now : ServerId → Master} {hosts_now : ℕ → HostNode} {c_now : Coordinator} →
    Good sent masters hosts c → Onward sent masters hosts c sent_now masters_now hosts_now c_now →
    ((i : ℕ) → GoodHost sent_now masters_now i (hosts_now i)) → GoodCoordinator sent_now c_now →
    ((message : Message) → In message sent_now → In message sent ⊎ Fine sent_now masters_now hosts_now c_now message) →
    Led sent masters hosts c sent_now masters_now hosts_now c_now
good-onward {sent} {masters} {hosts} {c} {sent_now} {masters_now} {hosts_now} {c_now} good w hosts_are coordinator new = record {
  good = record {
    messages = λ message at. by message (new message at);
    masters_are = w.masters_are;
    hosts_are = hosts_are;
    coordinator = coordinator;
  };
  onward = w;
}
  where
    by : (message : Message) → In message sent ⊎ Fine sent_now masters_now hosts_now c_now message →
        Fine sent_now masters_now hosts_now c_now message
    by message (inl there) = fine-later sent masters hosts c sent_now masters_now hosts_now c_now good w message.from
        message.to message.body there (good.messages message there)
    by message (inr fine) = fine

-- what nothing changes
pub host_later-refl : (host : HostNode) → HostLater host host
host_later-refl host = record { generation = omega arith; held = λ same m. held_later-refl }

pub coordinator_later-refl : (c : Coordinator) → CoordinatorLater c c
coordinator_later-refl c = search (arith, attempt_later-refl, kept-refl)

-- a host that doesn't move, of which nothing new is told
pub host-still : {sent : List Message} {masters : ServerId → Master} {hosts : ℕ → HostNode} {c : Coordinator}
    {sent_now : List Message} {masters_now : ServerId → Master} {hosts_now : ℕ → HostNode} {c_now : Coordinator} →
    Good sent masters hosts c → Onward sent masters hosts c sent_now masters_now hosts_now c_now → {i : ℕ} →
    ((g : ℕ) → masters_now (record { index = i; generation = g }) ≡ masters (record { index = i; generation = g })) →
    ((m x : ServerId) (s e len : ℕ) (closed : Bool) → x.index ≡ i →
    In (between x m (body.Stored s e len closed)) sent_now → In (between x m (body.Stored s e len closed)) sent) →
    GoodHost sent_now masters_now i (hosts i)
host-still {sent} {masters} {hosts} {c} {sent_now} {masters_now} {hosts_now} {c_now} good w {i} same nothing = record {
  index = was.index;
  own = was.own;
  runs = λ master e. at_server ∙ was.runs master e;
  unstarted = λ g above. same g ∙ was.unstarted g above;
  held = λ m. held-later sent masters hosts c sent_now masters_now hosts_now c_now good w
      (λ x s e len closed on at. inl (nothing m x s e len closed on at)) (was.held m);
}
  where
    was : GoodHost sent masters i (hosts i)
    was = good.hosts_are i

    at_server : masters_now (server_of (hosts i)) ≡ masters (server_of (hosts i))
    at_server = subst (λ n. masters_now (record { index = n; generation = (hosts i).generation }) ≡ masters
        (record { index = n; generation = (hosts i).generation })) (sym was.index) (same (hosts i).generation)

-- Messages that neither place nor tell

-- where no master, no host and not the coordinator moves, or the coordinator alone does
module _ (sent messages : List Message) (masters : ServerId → Master) (hosts : ℕ → HostNode) (c c_now : Coordinator)
    (good : Good sent masters hosts c) (quiet : Quiet messages) (later : CoordinatorLater c c_now)
    (grants : GrantsUp c messages) where
  more-quiet : More sent (sent ++ messages)
  more-quiet message at = In-left message sent messages at

  back-quiet : (m : ServerId) → NoNewPlaceOf sent (sent ++ messages) m
  back-quiet m x s e digest entries closed at = In-either (between m x (body.Place s e digest entries closed)) sent messages at
      (λ there. there) (λ new. absurd (quiet.places m x s e digest entries closed new))

  pub told-quiet : (x m : ServerId) (s e len : ℕ) (closed : Bool) →
      In (between x m (body.Stored s e len closed)) (sent ++ messages) →
      In (between x m (body.Stored s e len closed)) sent
  told-quiet x m s e len closed at = In-either (between x m (body.Stored s e len closed)) sent messages at (λ there. there)
      (λ new. absurd (quiet.told x m s e len closed new))

  granted-quiet : (m : ServerId) (s e : ℕ) → In (from_coordinator m (body.CommitOk s e)) (sent ++ messages) →
      In (from_coordinator m (body.CommitOk s e)) sent ⊎ (is_up c.servers m ≡ true)
  granted-quiet m s e at = In-either (from_coordinator m (body.CommitOk s e)) sent messages at (λ there. inl there)
      (λ new. inr (grants m s e new))

  pub onward-quiet : {hosts_now : ℕ → HostNode} → ((i : ℕ) → HostLater (hosts i) (hosts_now i)) →
      Onward sent masters hosts c (sent ++ messages) masters hosts_now c_now
  onward-quiet up = record {
    more = more-quiet;
    grown = λ m. unmoved-grown (good.masters_are m) more-quiet (back-quiet m);
    masters_are = λ m. unmoved-good (good.masters_are m) more-quiet (back-quiet m);
    own = λ m. unmoved-own (good.masters_are m) (own-fine good) more-quiet (back-quiet m)
        (λ x s e len closed at. inl (told-quiet x m s e len closed at));
    hosts_later = up;
    c_later = later;
    stored = λ x m s e len closed at. inl (told-quiet x m s e len closed at);
    granted = granted-quiet;
  }

  pub good-quiet : GoodCoordinator (sent ++ messages) c_now →
      ((message : Message) → In message messages → Fine (sent ++ messages) masters hosts c_now message) →
      Led sent masters hosts c (sent ++ messages) masters hosts c_now
  good-quiet coordinator fine = good-onward good onward (λ i. host-still good onward (λ g. refl)
      (λ m x s e len closed on at. told-quiet x m s e len closed at))
      coordinator (λ message at. by message (In-append message sent messages at))
    where
      onward : Onward sent masters hosts c (sent ++ messages) masters hosts c_now
      onward = onward-quiet (λ i. host_later-refl (hosts i))

      by : (message : Message) → In message sent ⊎ In message messages →
          In message sent ⊎ Fine (sent ++ messages) masters hosts c_now message
      by message (inl there) = inl there
      by message (inr new) = inr (fine message new)

-- The coordinator moves

pub good-coordinator : {sent : List Message} {masters : ServerId → Master} {hosts : ℕ → HostNode} {c : Coordinator}
    {after : Coordinator × List Message} → Good sent masters hosts c → CoordinatorMoved sent c after →
    GrantsUp c after.1 →
    Led sent masters hosts c (sent ++ after.1) masters hosts after.0
good-coordinator {sent} {masters} {hosts} {c} {after} good moved grants =
    good-quiet sent after.1 masters hosts c after.0 good quiet moved.later grants moved.good
    (λ message at. fine message.from message.to message.body (moved.from message at) (moved.says message at))
  where
    from_server : {P : Type 0} (x : ServerId) → Server x ≡ AtCoordinator → P
    from_server x never = cc

    quiet : Quiet after.1
    quiet = record {
      places = λ m x s e digest entries closed at. from_server m (moved.from (between m x (body.Place s e digest entries closed)) at);
      told = λ x m s e len closed at. from_server x (moved.from (between x m (body.Stored s e len closed)) at);
    }

    by_body : (to : Addr) (says : Body) → coordinator_body_said after.0 to says →
        body_fine (sent ++ after.1) masters hosts after.0 AtCoordinator to says
    by_body to (body.CommitOk s e) said = said
    by_body to (body.Gather number master) said = said
    by_body to (body.Plan head number master rows parts) said = said
    by_body to (body.List version rows) said = said
    by_body to (body.Place s e digest entries closed) said = absurd said
    by_body to (body.Append s offset entries) said = absurd said
    by_body to (body.Close s len) said = absurd said
    by_body to (body.WriteOk s o term table key version) said = absurd said
    by_body to (body.Stored s e len closed) said = absurd said
    by_body to (body.Replicas number rows) said = absurd said
    by_body to _ said = tt

    fine : (from to : Addr) (says : Body) → from ≡ AtCoordinator → coordinator_body_said after.0 to says →
        body_fine (sent ++ after.1) masters hosts after.0 from to says
    fine from to says is said = subst (λ (one : Addr). body_fine (sent ++ after.1) masters hosts after.0 one to says)
        (sym is) (by_body to says said)
