-- A host's backup moves, or the host starts or stops, and the world stays good.
use Rattle.std.proofs.Common.{◌≡◌, ◌⊎◌, ℕ, Bool, true, false, List, ◌++◌, refl, sym, ap, ◌∙◌, subst, inl, inr, arith}
use Rattle.rc_model.specs.Model.{ServerId, Addr, Server, Outside, Message, Body, put, between, from_coordinator, is_up, Backup, Master}
use Rattle.rc_model.specs.Model.{HostNode, server_of, In}
use Rattle.rc_types.specs.declared.ids.Addr.TheVariants.{Coordinator as AtCoordinator}
use Rattle.rc_types.specs.declared.messages.Body.TheVariants as body
use Rattle.rc_model.specs.Coordinator.{Coordinator}
use Rattle.rc_model.proofs.Members.{In-left, In-append}
use Rattle.rc_step_laws.specs.All.{GoodHost, GoodCoordinator, Good, IsTold, StillStands, IsStored, body_fine, Fine}
use Rattle.rc_step_laws.specs.All.{HostLater, IsNewStored, BackupMoved, backup_body_said}
use Rattle.rc_step_laws.proofs.Copies.{More, In-either}
use Rattle.rc_step_laws.proofs.Attempting.{kept-refl, attempt-kept}
use Rattle.rc_step_laws.proofs.Backups.{Quiet, own-fine}
use Rattle.rc_step_laws.proofs.Granted.{GrantsUp}
use Rattle.rc_step_laws.proofs.Lasting.{Onward}
use Rattle.rc_step_laws.proofs.Unmoved.{NoNewPlaceOf, NewlyToldFits, unmoved-grown, unmoved-good, unmoved-own}
use Rattle.rc_step_laws.proofs.Worlds.{Led, onward-quiet, told-quiet, good-onward, host-still, host_later-refl, coordinator_later-refl}
use Rattle.rc_step_laws.proofs.MasterWorlds.{put-cases}
use Rattle.rc_model.proofs.Tables.{put-same, put_each}
use Rattle.rc_model.proofs.Ids.{server-same}

-- the coordinator stays good where more is sent
pub coordinator-still : {sent : List Message} (messages : List Message) {c : Coordinator} → GoodCoordinator sent c
    → GoodCoordinator (sent ++ messages) c
coordinator-still messages good = record {
  attempts = λ number attempt numbered. attempt-kept messages kept-refl (good.attempts number attempt numbered);
  servers = good.servers;
  current_numbered = good.current_numbered;
  current_master = good.current_master;
}

-- The backup of host i moves

module _ (sent : List Message) (masters : ServerId → Master) (hosts : ℕ → HostNode) (c : Coordinator)
    (good : Good sent masters hosts c) (i : ℕ) (after : Backup) (messages : List Message)
    (moved : BackupMoved sent masters (put hosts i (record (hosts i) { backup = after })) c (hosts i) (after, messages)) where
  was : GoodHost sent masters i (hosts i)
  was = good.hosts_are i

  more : More sent (sent ++ messages)
  more message at = In-left message sent messages at

  back : (m : ServerId) → NoNewPlaceOf sent (sent ++ messages) m
  back m x s e digest entries closed at = In-either (between m x (body.Place s e digest entries closed)) sent messages at (λ there. there)
      (λ new. absurd (moved.says (between m x (body.Place s e digest entries closed)) new))

  -- who newly tells is the host's server
  teller : (x m : ServerId) (s e len : ℕ) (closed : Bool) → In (between x m (body.Stored s e len closed)) messages → x ≡ server_of (hosts i)
  teller x m s e len closed at = server-same (moved.from (between x m (body.Stored s e len closed)) at)

  fits : (m : ServerId) → NewlyToldFits sent (sent ++ messages) m (masters m).log
  fits m x s e len closed at = In-either (between x m (body.Stored s e len closed)) sent messages at (λ there. inl there)
      (λ new. inr (subst (λ (y : ServerId). IsTold (sent ++ messages) m (masters m).log y s e len closed)
      (sym (teller x m s e len closed new)) (moved.says (between x m (body.Stored s e len closed)) new).0))

  new-stored : (x m : ServerId) (s e len : ℕ) (closed : Bool) →
      In (between x m (body.Stored s e len closed)) (sent ++ messages) →
      In (between x m (body.Stored s e len closed)) sent ⊎ IsNewStored hosts x m
  new-stored x m s e len closed at = by (In-append (between x m (body.Stored s e len closed)) sent messages at)
    where
      by_server : ((hosts i).backup.held m).fenced ≡ false → IsNewStored hosts (server_of (hosts i)) m
      by_server unfenced = search (arith, was)

      by : In (between x m (body.Stored s e len closed)) sent ⊎ In (between x m (body.Stored s e len closed)) messages →
          In (between x m (body.Stored s e len closed)) sent ⊎ IsNewStored hosts x m
      by (inl there) = inl there
      by (inr new) = inr (subst (λ (y : ServerId). IsNewStored hosts y m) (sym (teller x m s e len closed new))
          (by_server (moved.says (between x m (body.Stored s e len closed)) new).1.1))

  granted-back : (m : ServerId) (s e : ℕ) → In (from_coordinator m (body.CommitOk s e)) (sent ++ messages) →
      In (from_coordinator m (body.CommitOk s e)) sent ⊎ (is_up c.servers m ≡ true)
  granted-back m s e at = In-either (from_coordinator m (body.CommitOk s e)) sent messages at (λ there. inl there)
      (λ new. absurd (moved.says (from_coordinator m (body.CommitOk s e)) new))

  onward : Onward sent masters hosts c (sent ++ messages) masters (put hosts i (record (hosts i) { backup = after })) c
  onward = record {
    more = more;
    grown = λ m. unmoved-grown (good.masters_are m) more (back m);
    masters_are = λ m. unmoved-good (good.masters_are m) more (back m);
    own = λ m. unmoved-own (good.masters_are m) (own-fine good) more (back m) (fits m);
    hosts_later = λ j. put_each (λ k host. HostLater (hosts k) host) hosts i (record (hosts i) { backup = after })
        (record { generation = omega arith; held = λ same m. moved.later m }) (λ k. host_later-refl (hosts k)) j;
    c_later = coordinator_later-refl c;
    stored = new-stored;
    granted = granted-back;
  }

  mine : GoodHost (sent ++ messages) masters i (record (hosts i) { backup = after })
  mine = search (arith, was)

  other : (j : ℕ) → (i ≡ j → ⊥) → GoodHost (sent ++ messages) masters j (hosts j)
  other j differs = host-still good onward (λ g. refl) nothing
    where
      nothing : (m x : ServerId) (s e len : ℕ) (closed : Bool) → x.index ≡ j →
          In (between x m (body.Stored s e len closed)) (sent ++ messages) →
          In (between x m (body.Stored s e len closed)) sent
      nothing m x s e len closed on at = In-either (between x m (body.Stored s e len closed)) sent messages at (λ there. there)
          (λ new. absurd (differs (sym was.index ∙ (sym (ap (λ (id : ServerId). id.index) (teller x m s e len closed new)) ∙ on))))

  stored-now : {m : ServerId} {s e len : ℕ} {closed : Bool} →
      IsTold (sent ++ messages) m (masters m).log (server_of (hosts i)) s e len closed →
      StillStands (after.held m) s e len closed →
      IsStored (sent ++ messages) (put hosts i (record (hosts i) { backup = after })) m (masters m).log (server_of (hosts i)) s e len closed
  stored-now {m} {s} {e} {len} {closed} told stands = search (arith, was, put-same)

  said-fine : (to : Addr) (says : Body) →
      backup_body_said (sent ++ messages) masters (put hosts i (record (hosts i) { backup = after })) c (hosts i) after
      to says →
      body_fine (sent ++ messages) masters (put hosts i (record (hosts i) { backup = after })) c (Server (server_of (hosts i))) to says
  said-fine (Server m) (body.Stored s e len closed) said = stored-now said.0 said.1.0
  said-fine AtCoordinator (body.Stored s e len closed) said = absurd said
  said-fine Outside (body.Stored s e len closed) said = absurd said
  said-fine to (body.Replicas number rows) said = said
  said-fine to (body.Place s e digest entries closed) said = absurd said
  said-fine to (body.Append s offset entries) said = absurd said
  said-fine to (body.Close s len) said = absurd said
  said-fine to (body.WriteOk s o term table key version) said = absurd said
  said-fine to (body.CommitOk s e) said = absurd said
  said-fine to (body.Gather number master) said = absurd said
  said-fine to (body.Plan head number master rows parts) said = absurd said
  said-fine to (body.List version rows) said = absurd said
  said-fine to _ said = tt

  pub good-backup : Led sent masters hosts c (sent ++ messages) masters (put hosts i (record (hosts i) { backup = after })) c
  good-backup = good-onward good onward
      (λ j. put-cases (λ k host. GoodHost (sent ++ messages) masters k host) hosts i (record (hosts i) { backup = after }) mine other j)
      (coordinator-still messages good.coordinator) (λ message at. by message (In-append message sent messages at))
    where
      by : (message : Message) → In message sent ⊎ In message messages →
          In message sent ⊎ Fine (sent ++ messages) masters (put hosts i (record (hosts i) { backup = after })) c
          message
      by message (inl there) = inl there
      by message (inr new) = search (arith, said-fine)

-- The host changes otherwise: it starts, or it stops

module _ (sent messages : List Message) (masters : ServerId → Master) (hosts : ℕ → HostNode) (c : Coordinator)
    (good : Good sent masters hosts c) (i : ℕ) (host : HostNode) (quiet : Quiet messages) (grants : GrantsUp c messages)
    (later : HostLater (hosts i) host) (mine_now : GoodHost (sent ++ messages) masters i host)
    (fine_now : (message : Message) → In message messages →
    Fine (sent ++ messages) masters (put hosts i host) c message) where
  moved_onward : Onward sent masters hosts c (sent ++ messages) masters (put hosts i host) c
  moved_onward = onward-quiet sent messages masters hosts c c good quiet (coordinator_later-refl c) grants
      (λ j. put_each (λ k one. HostLater (hosts k) one) hosts i host later (λ k. host_later-refl (hosts k)) j)

  pub good-host : Led sent masters hosts c (sent ++ messages) masters (put hosts i host) c
  good-host = good-onward good moved_onward
      (λ j. put-cases (λ k one. GoodHost (sent ++ messages) masters k one) hosts i host mine_now
      (λ k differs. host-still good moved_onward
      (λ g. refl) (λ m x s e len closed on at. told-quiet sent messages masters hosts c c good quiet (coordinator_later-refl c) grants x m
      s e len closed at)) j)
      (coordinator-still messages good.coordinator) (λ message at. by message (In-append message sent messages at))
    where
      by : (message : Message) → In message sent ⊎ In message messages →
          In message sent ⊎ Fine (sent ++ messages) masters (put hosts i host) c message
      by message (inl there) = inl there
      by message (inr new) = inr (fine_now message new)
