-- A master moves, and the world stays good.
use Rattle.std.proofs.Common.{◌≡◌, ◌⊎◌, ℕ, ◌<◌, Bool, true, false, cond, List, ◌++◌, Some, sym, ap, ◌∙◌}
use Rattle.std.proofs.Common.{inl, inr, arith}
use Rattle.std.proofs.lemmas.Bool.{eq-eqb, eqb-true}
use Rattle.rc_model.specs.Model.{ServerId, Addr, Server, Outside, Entry, Message, Body, same_id, put, put_id, between, from_coordinator}
use Rattle.rc_model.specs.Model.{is_up, Log, Master, HostNode, server_of, In}
use Rattle.rc_types.specs.declared.ids.Addr.TheVariants.{Coordinator as AtCoordinator}
use Rattle.rc_types.specs.declared.messages.Body.TheVariants as body
use Rattle.rc_model.specs.Coordinator.{Coordinator}
use Rattle.rc_model.proofs.Members.{In-left, In-append}
use Rattle.rc_step_laws.specs.All.{GoodMaster, GoodHost, Good, body_fine, Fine, HostLater, IsNewPlace, OwnFine, MasterMoved, MasterSays}
use Rattle.rc_step_laws.specs.All.{body_said}
use Rattle.rc_step_laws.proofs.Copies.{More, In-either}
use Rattle.rc_step_laws.proofs.LogViews.{Grown}
use Rattle.rc_step_laws.proofs.Attempting.{kept-refl, attempt-kept}
use Rattle.rc_step_laws.proofs.Backups.{own-fine}
use Rattle.rc_step_laws.proofs.Lasting.{Onward, held-later}
use Rattle.rc_step_laws.proofs.Unmoved.{NoNewPlaceOf, unmoved-grown, unmoved-good, unmoved-own}
use Rattle.rc_step_laws.proofs.Worlds.{Led, good-onward, host-still, host_later-refl, coordinator_later-refl}
use Rattle.rc_model.proofs.Ids.{same_id-true, same_id-refl, server-same}
use Rattle.rc_model.proofs.Tables.{put_each, put_id-same}

-- the test fails for ids that differ
no-match : {a b : ServerId} → (a ≡ b → ⊥) → same_id a b ≡ false
no-match {a} {b} differs = search (arith, same_id-true)

pub put_id-other : {V : Type 0} (table : ServerId → V) {key other : ServerId} (value : V) → (key ≡ other → ⊥) →
    put_id table key value other ≡ table other
put_id-other table {other} value differs = ap (λ b. cond b value (table other)) (no-match differs)

-- what is at each id of a table after a put, where that of the others may ask that they differ
pub put_id-cases : {V : Type 0} (P : ServerId → V → Type 0) (table : ServerId → V) (key : ServerId) (value : V) →
    P key value → ((other : ServerId) → (key ≡ other → ⊥) → P other (table other)) → (other : ServerId) →
    P other (put_id table key value other)
put_id-cases P table key value here others other = search (arith, same_id-true, same_id-refl)

pub put-cases : {V : Type 0} (P : ℕ → V → Type 0) (table : ℕ → V) (key : ℕ) (value : V) → P key value →
    ((other : ℕ) → (key ≡ other → ⊥) → P other (table other)) → (other : ℕ) → P other (put table key value other)
put-cases P table key value here others other = search (arith, eqb-true, eq-eqb)

-- what a master says is fine
said-fine : (sent sent_now : List Message) (m : ServerId) (old : Log) (masters : ServerId → Master) (hosts : ℕ →
    HostNode) (c : Coordinator) (to : Addr) (says : Body) → body_said sent sent_now m old (masters m).log to says →
    body_fine sent_now masters hosts c (Server m) to says
said-fine sent sent_now m old masters hosts c (Server x) (body.Place s e digest entries closed) said = said.0
said-fine sent sent_now m old masters hosts c AtCoordinator (body.Place s e digest entries closed) said = absurd said
said-fine sent sent_now m old masters hosts c Outside (body.Place s e digest entries closed) said = absurd said
said-fine sent sent_now m old masters hosts c to (body.Append s offset entries) said = said
said-fine sent sent_now m old masters hosts c to (body.Close s len) said = said
said-fine sent sent_now m old masters hosts c to (body.WriteOk s o term table key version) said = said
said-fine sent sent_now m old masters hosts c to (body.Stored s e len closed) said = absurd said
said-fine sent sent_now m old masters hosts c to (body.Replicas number rows) said = absurd said
said-fine sent sent_now m old masters hosts c to (body.CommitOk s e) said = absurd said
said-fine sent sent_now m old masters hosts c to (body.Gather number master) said = absurd said
said-fine sent sent_now m old masters hosts c to (body.Plan head number master rows parts) said = absurd said
said-fine sent sent_now m old masters hosts c to (body.List version rows) said = absurd said
said-fine sent sent_now m old masters hosts c to _ said = tt

-- The move of the master of host i, whose server is z

module _ (sent : List Message) (masters : ServerId → Master) (hosts : ℕ → HostNode) (c : Coordinator)
    (good : Good sent masters hosts c) (i : ℕ) (z : ServerId)
    (z_is : z ≡ record { index = i; generation = (hosts i).generation })
    (after : Master) (messages : List Message) (moved : MasterMoved sent z (masters z) (after, messages)) where
  abbrev sent_now : List Message
  sent_now = sent ++ messages

  more : More sent (sent ++ messages)
  more message at = In-left message sent messages at

  -- nothing is newly told
  told-back : (x m : ServerId) (s e len : ℕ) (closed : Bool) →
      In (between x m (body.Stored s e len closed)) (sent ++ messages) →
      In (between x m (body.Stored s e len closed)) sent
  told-back x m s e len closed at = In-either (between x m (body.Stored s e len closed)) sent messages at (λ there. there)
      (λ new. absurd (moved.says (between x m (body.Stored s e len closed)) new).says)

  -- nor does another master place
  back : (m : ServerId) → (z ≡ m → ⊥) → NoNewPlaceOf sent (sent ++ messages) m
  back m differs x s e digest entries closed at = In-either (between m x (body.Place s e digest entries closed)) sent messages at
      (λ there. there) (λ new. absurd (differs (sym
      (server-same (moved.says (between m x (body.Place s e digest entries closed)) new).from))))

  grown_own : Grown sent (sent ++ messages) z (masters z).log after.log
  grown_own = record {
    more = more;
    later = moved.later;
    places = λ x s e digest entries closed at. by x s e digest entries closed
        (In-append (between z x (body.Place s e digest entries closed)) sent messages at);
    below = (good.masters_are z).shut_below;
  }
    where
      by : (x : ServerId) (s e : ℕ) (digest : List ℕ) (entries : List Entry) (closed : Bool) →
          In (between z x (body.Place s e digest entries closed)) sent ⊎
          In (between z x (body.Place s e digest entries closed)) messages →
          In (between z x (body.Place s e digest entries closed)) sent ⊎ IsNewPlace sent z (masters z).log x s e entries closed
      by x s e digest entries closed (inl there) = inl there
      by x s e digest entries closed (inr new) = inr (moved.says (between z x (body.Place s e digest entries closed)) new).says.1

  hosts_later : (j : ℕ) → HostLater (hosts j) (put hosts i (record (hosts i) { master = Some after }) j)
  hosts_later j = search (arith, put_each, host_later-refl)

  granted-back : (m : ServerId) (s e : ℕ) → In (from_coordinator m (body.CommitOk s e)) (sent ++ messages) →
      In (from_coordinator m (body.CommitOk s e)) sent ⊎ (is_up c.servers m ≡ true)
  granted-back m s e at = In-either (from_coordinator m (body.CommitOk s e)) sent messages at (λ there. inl there)
      (λ new. absurd (moved.says (from_coordinator m (body.CommitOk s e)) new).says)

  onward : Onward sent masters hosts c (sent ++ messages) (put_id masters z after)
      (put hosts i (record (hosts i) { master = Some after })) c
  onward = record {
    more = more;
    grown = λ m. put_id-cases (λ k (new : Master). Grown sent (sent ++ messages) k (masters k).log new.log) masters z after grown_own
        (λ k differs. unmoved-grown (good.masters_are k) more (back k differs)) m;
    masters_are = λ m. put_id-cases (λ k (new : Master). GoodMaster (sent ++ messages) k new) masters z after moved.good
        (λ k differs. unmoved-good (good.masters_are k) more (back k differs)) m;
    own = λ m. put_id-cases (λ k (new : Master). OwnFine (sent ++ messages) k new.log) masters z after moved.fine
        (λ k differs. unmoved-own (good.masters_are k) (own-fine good) more (back k differs)
        (λ x s e len closed at. inl (told-back x k s e len closed at))) m;
    hosts_later = hosts_later;
    c_later = coordinator_later-refl c;
    stored = λ x m s e len closed at. inl (told-back x m s e len closed at);
    granted = granted-back;
  }

  -- the moving host: its backup stays
  mine : GoodHost (sent ++ messages) (put_id masters z after) i (record (hosts i) { master = Some after })
  mine = record {
    index = was.index;
    own = was.own;
    runs = λ master e. (let is : after ≡ master = cc in ap (put_id masters z after) server ∙ (put_id-same masters z ∙ is));
    unstarted = λ g above. put_id-other masters after (λ same. not_now g above same) ∙ was.unstarted g above;
    held = λ m. held-later sent masters hosts c (sent ++ messages) (put_id masters z after)
        (put hosts i (record (hosts i) { master = Some after })) c good onward
        (λ x s e len closed on at. inl (told-back x m s e len closed at)) (was.held m);
  }
    where
      was : GoodHost sent masters i (hosts i)
      was = good.hosts_are i

      server : server_of (hosts i) ≡ z
      server = ap (λ n. record { index = n; generation = (hosts i).generation }) was.index ∙ sym z_is

      not_now : (g : ℕ) → (hosts i).generation < g → z ≡ record { index = i; generation = g } → ⊥
      not_now g above same = let e : (hosts i).generation ≡ g = ap (λ (id : ServerId). id.generation) (sym z_is ∙ same) in omega arith

  -- another host
  other : (j : ℕ) → (i ≡ j → ⊥) → GoodHost (sent ++ messages) (put_id masters z after) j (hosts j)
  other j differs = host-still good onward (λ g. put_id-other masters after
      (λ same. differs (ap (λ (id : ServerId). id.index) (sym z_is ∙ same))))
      (λ m x s e len closed on at. told-back x m s e len closed at)

  pub good-master : Led sent masters hosts c (sent ++ messages) (put_id masters z after)
      (put hosts i (record (hosts i) { master = Some after })) c
  good-master = good-onward good onward
      (λ j. put-cases (λ k host. GoodHost (sent ++ messages) (put_id masters z after) k host) hosts i
      (record (hosts i) { master = Some after }) mine other j)
      (record {
        attempts = λ number attempt numbered. attempt-kept messages kept-refl
            (good.coordinator.attempts number attempt numbered);
        servers = good.coordinator.servers;
        current_numbered = good.coordinator.current_numbered;
        current_master = good.coordinator.current_master;
      }) (λ message at. by message (In-append message sent messages at))
    where
      fine : (message : Message) → MasterSays sent (sent ++ messages) z (masters z).log after.log message →
          Fine (sent ++ messages) (put_id masters z after) (put hosts i (record (hosts i) { master = Some after })) c
          message
      fine message said = search (arith, said-fine, put_id-same)

      by : (message : Message) → In message sent ⊎ In message messages →
          In message sent ⊎ Fine (sent ++ messages) (put_id masters z after)
          (put hosts i (record (hosts i) { master = Some after })) c message
      by message (inl there) = inl there
      by message (inr new) = inr (fine message (moved.says message new))
