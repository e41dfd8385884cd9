-- What a backup stores keeps what holds of it.
use Rattle.std.proofs.Common.{◌≡◌, ◌⊎◌, ℕ, ◌≤◌, Bool, true, false, List, [], ◌∷◌, ◌++◌, length, Some, refl, sym, ap}
use Rattle.std.proofs.Common.{◌∙◌, subst, inl, inr, arith}
use Rattle.std.proofs.lemmas.Bool.{cases_eq}
use Rattle.rc_model.specs.Model.{ServerId, Server, Entry, Message, Place, Stored, same_id, put_id, between, Replica, Held, replica_of}
use Rattle.rc_model.specs.Model.{put_replica, keeps, Master, HostNode, server_of, In}
use Rattle.rc_model.specs.Coordinator.{Coordinator}
use Rattle.rc_model.proofs.Members.{In-left}
use Rattle.rc_step_laws.specs.All.{IsTold, StillStands, GoodHeld, GoodReplica, HeldLater, BackupMoved, backup_body_said}
use Rattle.rc_step_laws.proofs.Copies.{More, placed-more}
use Rattle.rc_step_laws.proofs.ReplicaLists.{replica_of-put, replica_of-other, Ascending-put}
use Rattle.rc_step_laws.proofs.Replicas.{Changed}
use Rattle.rc_step_laws.proofs.BackupTold.{NoNewPlaces, NewlyToldUpTo, replica-told, held-told, SameStored, same-stored, one-more}
use Rattle.rc_model.proofs.Tables.{put_id-same}
use Rattle.rc_model.proofs.Ids.{same_id-true, same_id-refl}
use Rattle.rc_model.proofs.Tests.{true_false, either}

-- ids that fail the test differ
differs-id : {a b : ServerId} → same_id a b ≡ false → a ≡ b → ⊥
differs-id {a} no_match same = true_false (sym (subst (λ (c : ServerId). same_id a c ≡ true) same (same_id-refl a)) ∙ no_match)

-- nothing changes
pub held_later-refl : {held : Held} → HeldLater held held
held_later-refl = search arith

-- a Stored is no Place
stored-no-place : {m x : ServerId} {s e : ℕ} {digest : List ℕ} {entries : List Entry} {closed : Bool} {y n : ServerId}
    {t f len : ℕ} {mark : Bool} →
    between m x (Place s e digest entries closed) ≡ between y n (Stored t f len mark) → ⊥
stored-no-place {s} {e} {digest} {entries} {closed} {t} {f} {len} {mark} same =
    let bodies : Place s e digest entries closed ≡ Stored t f len mark = ap (λ (one : Message). one.body) same in cc

-- what a host's backup keeps of every master
abbrev pub AllHeld : List Message → (ServerId → Master) → HostNode → Type 0
AllHeld sent masters host = (m : ServerId) → GoodHeld sent m (masters m).log host.index host.generation (host.backup.held m)

-- a changed replica is kept, and told
pub moved-kept : {sent : List Message} {masters : ServerId → Master} {hosts : ℕ → HostNode} {c : Coordinator}
    {host : HostNode} {m : ServerId} {seg : ℕ} {after : Replica} →
    host.backup.own ≡ server_of host → AllHeld sent masters host → (host.backup.held m).fenced ≡ false →
    Changed sent m (masters m).log host.index host.generation seg (replica_of seg (host.backup.held m).replicas) after →
    BackupMoved sent masters hosts c host (keeps host.backup m seg (Some after))
moved-kept {sent} {masters} {hosts} {c} {host} {m} {seg} {after} own good unfenced changed = record {
  own = refl;
  held = λ n. either (λ (held : Held). GoodHeld sent_now n (masters n).log host.index host.generation held)
      (same_id m n) held_now (host.backup.held n)
      (λ same. of_same n (same_id-true same)) (λ other. of_other n (differs-id other));
  later = λ n. either (λ (held : Held). HeldLater (host.backup.held n) held) (same_id m n) held_now (host.backup.held n)
      (λ same. later_same n (same_id-true same)) (λ _. held_later-refl);
  from = λ message at. from message at;
  says = λ message at. says message at;
}
  where
    held_now : Held
    held_now = record (host.backup.held m) { replicas = put_replica seg after (host.backup.held m).replicas }

    told : Message
    told = between host.backup.own m (Stored seg after.epoch (length after.entries) after.closed)

    sent_now : List Message
    sent_now = sent ++ between host.backup.own m (Stored seg after.epoch (length after.entries) after.closed) ∷ []

    more : More sent (sent ++ between host.backup.own m (Stored seg after.epoch (length after.entries) after.closed) ∷ [])
    more message at = In-left message sent (between host.backup.own m (Stored seg after.epoch (length after.entries) after.closed) ∷ []) at

    back : NoNewPlaces sent (sent ++ between host.backup.own m (Stored seg after.epoch (length after.entries) after.closed) ∷ [])
    back n x s e digest entries closed at = search (arith, one-more, stored-no-place)

    -- what is newly told is told of this replica
    newly : (n x : ServerId) (s e len : ℕ) (closed : Bool) → In (between x n (Stored s e len closed))
        (sent ++ between host.backup.own m (Stored seg after.epoch (length after.entries) after.closed) ∷ []) →
        In (between x n (Stored s e len closed)) sent ⊎ SameStored x host.backup.own n m s seg e after.epoch len
        (length after.entries) closed after.closed
    newly n x s e len closed at = search (arith, one-more, same-stored)

    -- the replicas of another master
    of_other : (n : ServerId) → (m ≡ n → ⊥) →
        GoodHeld (sent ++ between host.backup.own m (Stored seg after.epoch (length after.entries) after.closed) ∷ []) n
        (masters n).log host.index host.generation (host.backup.held n)
    of_other n differs = held-told more back (omega arith) nothing (good n)
      where
        by : (x : ServerId) (s e len : ℕ) (closed : Bool) → In (between x n (Stored s e len closed)) sent ⊎
            SameStored x host.backup.own n m s seg e after.epoch len (length after.entries) closed after.closed →
            In (between x n (Stored s e len closed)) sent
        by x s e len closed (inl there) = there
        by x s e len closed (inr same) = absurd (differs (sym same.to))

        nothing : (x : ServerId) (s e len : ℕ) (closed : Bool) → x.index ≡ host.index →
            In (between x n (Stored s e len closed))
            (sent ++ between host.backup.own m (Stored seg after.epoch (length after.entries) after.closed) ∷ []) →
            In (between x n (Stored s e len closed)) sent
        nothing x s e len closed on at = by x s e len closed (newly n x s e len closed at)

    -- the replica that changed
    changed_now : GoodReplica
        (sent ++ between host.backup.own m (Stored seg after.epoch (length after.entries) after.closed) ∷ []) m
        (masters m).log host.index host.generation seg after
    changed_now = replica-told more back (omega arith) upto changed.good
      where
        by : (x : ServerId) (len : ℕ) (mark : Bool) → In (between x m (Stored seg after.epoch len mark)) sent ⊎
            SameStored x host.backup.own m m seg seg after.epoch after.epoch len (length after.entries) mark
            after.closed →
            In (between x m (Stored seg after.epoch len mark)) sent ⊎ ((len ≤ length after.entries) × (mark ≡ true → after.closed ≡ true))
        by x len mark (inl there) = inl there
        by x len mark (inr same) = search arith

        upto : NewlyToldUpTo sent
            (sent ++ between host.backup.own m (Stored seg after.epoch (length after.entries) after.closed) ∷ []) m
            host.index seg after.epoch (length after.entries) after.closed
        upto x len mark on at = by x len mark (newly m x seg after.epoch len mark at)

    -- and the others of this master
    others_now : (s : ℕ) (replica : Replica) → (s ≡ seg → ⊥) → replica_of s (host.backup.held m).replicas ≡ Some replica →
        GoodReplica (sent ++ between host.backup.own m (Stored seg after.epoch (length after.entries) after.closed) ∷
        []) m (masters m).log host.index host.generation s replica
    others_now s replica differs there = replica-told more back (omega arith) upto ((good m).each s replica there)
      where
        by : (x : ServerId) (len : ℕ) (mark : Bool) → In (between x m (Stored s replica.epoch len mark)) sent ⊎
            SameStored x host.backup.own m m s seg replica.epoch after.epoch len (length after.entries) mark
            after.closed →
            In (between x m (Stored s replica.epoch len mark)) sent ⊎
            ((len ≤ length replica.entries) × (mark ≡ true → replica.closed ≡ true))
        by x len mark (inl at) = inl at
        by x len mark (inr same) = absurd (differs same.seg)

        upto : NewlyToldUpTo sent
            (sent ++ between host.backup.own m (Stored seg after.epoch (length after.entries) after.closed) ∷ []) m
            host.index s replica.epoch (length replica.entries) replica.closed
        upto x len mark on at = by x len mark (newly m x s replica.epoch len mark at)

    of_m : GoodHeld (sent ++ between host.backup.own m (Stored seg after.epoch (length after.entries) after.closed) ∷
        []) m (masters m).log host.index host.generation
        (record (host.backup.held m) { replicas = put_replica seg after (host.backup.held m).replicas })
    of_m = record {
      ascending = Ascending-put seg after (host.backup.held m).replicas (good m).ascending;
      each = λ s replica at. by s replica at (cases_eq s seg);
    }
      where
        here : (replica : Replica) → replica_of seg (put_replica seg after (host.backup.held m).replicas) ≡ Some replica → after ≡ replica
        here replica at = let found : replica_of seg (put_replica seg after (host.backup.held m).replicas) ≡ Some
            after = replica_of-put seg (host.backup.held m).replicas in cc

        by : (s : ℕ) (replica : Replica) → replica_of s (put_replica seg after (host.backup.held m).replicas) ≡ Some
            replica → (s ≡ seg) ⊎ (s ≡ seg → ⊥) →
            GoodReplica (sent ++ between host.backup.own m (Stored seg after.epoch (length after.entries) after.closed)
            ∷ []) m (masters m).log host.index host.generation s replica
        by s replica at (inl same) =
            let is : after ≡ replica =
            here replica (subst (λ t. replica_of t (put_replica seg after (host.backup.held m).replicas) ≡ Some
            replica) same at) in
            subst (λ t. GoodReplica (sent ++
            between host.backup.own m (Stored seg after.epoch (length after.entries) after.closed) ∷ []) m
            (masters m).log host.index host.generation t replica) (sym same) (subst (λ (r : Replica). GoodReplica
            (sent ++ between host.backup.own m (Stored seg after.epoch (length after.entries) after.closed) ∷ []) m
            (masters m).log host.index host.generation seg r) is changed_now)
        by s replica at (inr differs) =
            others_now s replica differs (sym (replica_of-other after (host.backup.held m).replicas differs) ∙ at)

    of_same : (n : ServerId) → m ≡ n →
        GoodHeld (sent ++ between host.backup.own m (Stored seg after.epoch (length after.entries) after.closed) ∷ []) n
        (masters n).log host.index host.generation
        (record (host.backup.held m) { replicas = put_replica seg after (host.backup.held m).replicas })
    of_same n same = search (arith, of_m)

    later_m : HeldLater (host.backup.held m)
        (record (host.backup.held m) { replicas = put_replica seg after (host.backup.held m).replicas })
    later_m = search (arith, cases_eq, replica_of-put, replica_of-other)

    later_same : (n : ServerId) → m ≡ n → HeldLater (host.backup.held n)
        (record (host.backup.held m) { replicas = put_replica seg after (host.backup.held m).replicas })
    later_same n same = subst (λ (k : ServerId). HeldLater (host.backup.held k)
        (record (host.backup.held m) { replicas = put_replica seg after (host.backup.held m).replicas })) same later_m

    from : (message : Message) →
        In message (between host.backup.own m (Stored seg after.epoch (length after.entries) after.closed) ∷ []) →
        message.from ≡ Server (server_of host)
    from message (inl same) = ap (λ (one : Message). one.from) same ∙ ap Server own
    from message (inr never) = absurd never

    is_told : IsTold (sent ++ between host.backup.own m (Stored seg after.epoch (length after.entries) after.closed) ∷
        []) m (masters m).log (server_of host) seg after.epoch (length after.entries) after.closed
    is_told = search (arith, placed-more, more)

    stands : StillStands (put_id host.backup.held m
        (record (host.backup.held m) { replicas = put_replica seg after (host.backup.held m).replicas }) m) seg
        after.epoch (length after.entries) after.closed
    stands = search (arith, put_id-same, replica_of-put)

    says : (message : Message) → In message (between host.backup.own m (Stored seg after.epoch (length after.entries) after.closed) ∷ []) →
        backup_body_said (sent ++ between host.backup.own m (Stored seg after.epoch (length after.entries) after.closed)
        ∷ []) masters hosts c host (keeps host.backup m seg (Some after)).0 message.to message.body
    says message (inl same) = search (arith, is_told, stands)
    says message (inr never) = absurd never
