-- Replicas and backups.
use Rattle.std.proofs.Common.{◌≡◌, ℕ, ◌-◌, Bool, true, false, cond, not, nat_eq, nat_lt, nat_le, ◌&&◌, ◌||◌, List, []}
use Rattle.std.proofs.Common.{◌∷◌, ◌++◌, length, drop, filter, Option, Some, None, refl, sym, ap, ◌∙◌, subst, arith}
use Rattle.std.specs.List.{list_any}
use Rattle.std.proofs.lemmas.Bool.{and_parts, eqb-true, eq-eqb, or_left}
use Rattle.std.proofs.lemmas.List.{append-nil}
use Rattle.rc_model.specs.Model.{ServerId, Addr, Server, Outside, Entry, Body, Place, Append, Close, Free, Gather, Replica, grown}
use Rattle.rc_model.specs.Model.{placed, placed_open, appended, closes, closed_at, Backup, Held, with_held, without_replica}
use Rattle.rc_model.specs.Model.{insert_once, is_freed, replica_of, replica_after, keeps, stores, frees, backup_takes}
use Rattle.rc_model.specs.Model.{stays, closing_length, is_closed_replica, is_storing}
use Rattle.rc_types.specs.declared.ids.Addr.TheVariants.{Coordinator}
use Rattle.rc_model.proofs.Tests.{either, true_false}
use Rattle.rc_model.proofs.Tables.{put_id_each, put_id-same}

-- One replica

-- the entries of the first are the beginning of those of the second
abbrev pub GrowsTo : Replica → Replica → Type 0
GrowsTo old new = (more : List Entry) × (new.entries ≡ old.entries ++ more)

grows_same : (old new : Replica) → new.entries ≡ old.entries → GrowsTo old new
grows_same old new e = ([], e ∙ sym (append-nil old.entries))

placed-grows : (old : Replica) (epoch : ℕ) (sent : List Entry) (closed : Bool) → GrowsTo old (placed old epoch sent closed)
placed-grows old epoch sent closed =
    either (GrowsTo old) (nat_lt epoch old.epoch) old (cond old.closed (record old { epoch = epoch }) (placed_open old epoch sent closed))
    (λ _. grows_same old old refl)
    (λ _. either (GrowsTo old) old.closed (record old { epoch = epoch }) (placed_open old epoch sent closed)
    (λ _. grows_same old (record old { epoch = epoch }) refl) (λ _. (drop (length old.entries - 0) sent, refl)))

appended-grows : (old : Replica) (offset : ℕ) (sent : List Entry) → GrowsTo old (appended old offset sent)
appended-grows old offset sent =
    either (GrowsTo old) (not old.closed && nat_le offset (length old.entries)) (record old { entries = grown old.entries offset sent }) old
    (λ _. (drop (length old.entries - offset) sent, refl)) (λ _. grows_same old old refl)

closed_at-grows : (old : Replica) (len : ℕ) → GrowsTo old (closed_at old len)
closed_at-grows old len = either (GrowsTo old) (closes old len) (record old { closed = true }) old
    (λ _. grows_same old (record old { closed = true }) refl) (λ _. grows_same old old refl)

-- what a message makes of a replica has this property, where each way of changing it gives it
pub of_each_way : (P : Replica → Type 0) (old : Replica) {new : Replica} (body : Body) → replica_after (Some old) body ≡ Some new →
    ((seg epoch : ℕ) (digest : List ℕ) (sent : List Entry) (closed : Bool) → body ≡ Place seg epoch digest sent closed →
    P (placed old epoch sent closed)) →
    ((seg offset : ℕ) (sent : List Entry) → body ≡ Append seg offset sent → P (appended old offset sent)) →
    ((seg len : ℕ) → body ≡ Close seg len → P (closed_at old len)) → P new
of_each_way P old {new} (Place seg epoch digest sent closed) e place append close =
    let same : placed old epoch sent closed ≡ new = cc in subst P same (place seg epoch digest sent closed refl)
of_each_way P old {new} (Append seg offset sent) e place append close =
    let same : appended old offset sent ≡ new = cc in subst P same (append seg offset sent refl)
of_each_way P old {new} (Close seg len) e place append close =
    let same : closed_at old len ≡ new = cc in subst P same (close seg len refl)
of_each_way P old _ e place append close = cc

-- entries only grow
pub replicas-grow : (old new : Replica) (body : Body) → replica_after (Some old) body ≡ Some new → GrowsTo old new
replicas-grow old new body e =
    of_each_way (GrowsTo old) old body e (λ seg epoch digest sent closed _. placed-grows old epoch sent closed)
    (λ seg offset sent _. appended-grows old offset sent) (λ seg len _. closed_at-grows old len)

-- the second is closed too, with the same entries and digest
abbrev pub StaysClosed : Replica → Replica → Type 0
StaysClosed old new = (new.closed ≡ true) × (new.entries ≡ old.entries) × (new.digest ≡ old.digest)

placed-stays : (old : Replica) (epoch : ℕ) (sent : List Entry) (closed : Bool) → old.closed ≡ true →
    StaysClosed old (placed old epoch sent closed)
placed-stays old epoch sent closed is = search (arith, either, nat_lt, true_false)

appended-stays : (old : Replica) (offset : ℕ) (sent : List Entry) → old.closed ≡ true → StaysClosed old (appended old offset sent)
appended-stays old offset sent is = search (arith, either, nat_le, true_false, and_parts)

closed_at-stays : (old : Replica) (len : ℕ) → old.closed ≡ true → StaysClosed old (closed_at old len)
closed_at-stays old len is =
    either (StaysClosed old) (closes old len) (record old { closed = true }) old (λ _. (refl, refl, refl)) (λ _. (is, refl, refl))

-- a closed replica stays closed, with the same entries
pub closed-stays : (old new : Replica) (body : Body) → old.closed ≡ true → replica_after (Some old) body ≡ Some new → StaysClosed old new
closed-stays old new body is e = search (arith, of_each_way, placed-stays, appended-stays, closed_at-stays)

-- where it is closed it has the length at which the message closes
abbrev ClosedWhole : Body → Replica → Type 0
ClosedWhole body new = new.closed ≡ true → closing_length body ≡ Some (length new.entries)

placed_open-whole : (old : Replica) (seg epoch : ℕ) (digest : List ℕ) (sent : List Entry) (closed : Bool) →
    ClosedWhole (Place seg epoch digest sent closed) (placed_open old epoch sent closed)
placed_open-whole old seg epoch digest sent true is = ap Some (sym (eqb-true (length (grown old.entries 0 sent)) (length sent) is))
placed_open-whole old seg epoch digest sent false is = cc

placed-whole : (old : Replica) (seg epoch : ℕ) (digest : List ℕ) (sent : List Entry) (closed : Bool) → old.closed ≡ false →
    ClosedWhole (Place seg epoch digest sent closed) (placed old epoch sent closed)
placed-whole old seg epoch digest sent closed isn't = search (arith, either, nat_lt, true_false, placed_open-whole)

appended-whole : (old : Replica) (seg offset : ℕ) (sent : List Entry) → old.closed ≡ false →
    ClosedWhole (Append seg offset sent) (appended old offset sent)
appended-whole old seg offset sent isn't = search (arith, either, nat_le, true_false)

closed_at-whole : (old : Replica) (seg : ℕ) {len : ℕ} → old.closed ≡ false → ClosedWhole (Close seg len) (closed_at old len)
closed_at-whole old seg {len} isn't = search (arith, either, eqb-true, and_parts, nat_eq, true_false)

-- a replica closes only at the stated length
pub closes-whole : (before : Option Replica) (new : Replica) (body : Body) → is_closed_replica before ≡ false →
    replica_after before body ≡ Some new → ClosedWhole body new
closes-whole None new (Place seg epoch digest sent true) isn't e is = search arith
closes-whole None new (Place seg epoch digest sent false) isn't e is = search (arith, true_false)
closes-whole None new _ isn't e is = cc
closes-whole (Some old) new body isn't e is =
    search (arith, of_each_way, placed-whole, appended-whole, closed_at-whole)

-- A backup

refused-nothing : {backup : Backup} (master : ServerId) (seg : ℕ) (body : Body) → (backup.held master).fenced ≡ true →
    stores backup master seg body ≡ (backup, [])
refused-nothing {backup} master seg body fenced = search (arith, either, true_false, or_left)

frees-nothing : {backup : Backup} (master : ServerId) (seg : ℕ) →
    (backup.held master).fenced ≡ true → frees backup master seg ≡ backup
frees-nothing master seg fenced = rw fenced refl

-- a fenced master stores nothing and frees nothing
pub fenced-nothing : (backup : Backup) (master : ServerId) (body : Body) → (backup.held master).fenced ≡ true → is_storing body ≡ true →
    backup_takes backup (Server master) body ≡ (backup, [])
fenced-nothing backup master (Place seg epoch digest entries closed) fenced is =
    refused-nothing master seg (Place seg epoch digest entries closed) fenced
fenced-nothing backup master (Append seg offset entries) fenced is = refused-nothing master seg (Append seg offset entries) fenced
fenced-nothing backup master (Close seg len) fenced is = refused-nothing master seg (Close seg len) fenced
fenced-nothing backup master (Free seg) fenced is = ap (λ b. (b, [])) (frees-nothing master seg fenced)
fenced-nothing backup master _ fenced is = cc

-- a fenced master's replicas stay, and it stays fenced
abbrev pub FencedStays : Held → Held → Type 0
FencedStays old new = old.fenced ≡ true → (new.fenced ≡ true) × (new.replicas ≡ old.replicas)

abbrev pub AllFencedStay : Backup → Backup → Type 0
AllFencedStay old new = (master : ServerId) → FencedStays (old.held master) (new.held master)

fenced_stay-same : (backup : Backup) → AllFencedStay backup backup
fenced_stay-same backup master fenced = (fenced, refl)

fenced_stay-held : (backup : Backup) {master : ServerId} (held : Held) → FencedStays (backup.held master) held →
    AllFencedStay backup (with_held master held backup)
fenced_stay-held backup held new =
    put_id_each (λ other one. FencedStays (backup.held other) one) new (λ _ fenced. (fenced, refl))

-- who isn't fenced is no fenced one
not_fenced : {P : Type 0} (held : Held) → held.fenced ≡ false → held.fenced ≡ true → P
not_fenced held isn't is = true_false (sym is ∙ isn't)

or_left-false : (a b : Bool) → a || b ≡ false → a ≡ false
or_left-false true b e = e
or_left-false false b e = refl

fenced_stay-keeps : (backup : Backup) {master : ServerId} (seg : ℕ) (after : Option Replica) → (backup.held master).fenced ≡ false →
    AllFencedStay backup (keeps backup master seg after).0
fenced_stay-keeps backup seg None isn't = fenced_stay-same backup
fenced_stay-keeps backup {master} seg (Some replica) isn't = search (arith, fenced_stay-held, not_fenced)

fenced_stay-stores : (backup : Backup) (master : ServerId) (seg : ℕ) (body : Body) → AllFencedStay backup (stores backup master seg body).0
fenced_stay-stores backup master seg body = search (arith, either, fenced_stay-same, fenced_stay-keeps, or_left-false)

fenced_stay-frees : (backup : Backup) (master : ServerId) (seg : ℕ) → AllFencedStay backup (frees backup master seg)
fenced_stay-frees backup master seg = search (arith, either, fenced_stay-same, fenced_stay-held, not_fenced)

-- whatever a backup takes, a fenced master's replicas stay
pub fenced-stay : (backup : Backup) (from : Addr) (body : Body) → AllFencedStay backup (backup_takes backup from body).0
fenced-stay backup (Server master) (Place seg epoch digest entries closed) =
    fenced_stay-stores backup master seg (Place seg epoch digest entries closed)
fenced-stay backup (Server master) (Append seg offset entries) = fenced_stay-stores backup master seg (Append seg offset entries)
fenced-stay backup (Server master) (Close seg len) = fenced_stay-stores backup master seg (Close seg len)
fenced-stay backup (Server master) (Free seg) = fenced_stay-frees backup master seg
fenced-stay backup from (Gather attempt master) =
    fenced_stay-held backup (record (backup.held master) { fenced = true }) (λ _. (refl, refl))
fenced-stay backup _ _ = fenced_stay-same backup

-- a Gather fences
pub gather-fences : (backup : Backup) (from : Addr) (attempt : ℕ) (master : ServerId) →
    ((backup_takes backup from (Gather attempt master)).0.held master).fenced ≡ true
gather-fences backup Coordinator attempt master = ap (λ (held : Held). held.fenced) (put_id-same backup.held master)
gather-fences backup Outside attempt master = ap (λ (held : Held). held.fenced) (put_id-same backup.held master)
gather-fences backup (Server from) attempt master = ap (λ (held : Held). held.fenced) (put_id-same backup.held master)

-- Freed segments

-- a number that was put in is there
pub inserted : (n : ℕ) (numbers : List ℕ) → list_any (nat_eq n) (insert_once n numbers) ≡ true
inserted n [] = rw (eq-eqb n n refl) refl
inserted n (m ∷ ms) = by (nat_lt n m) (nat_eq n m) refl (inserted n ms)
  where
    by : (less same : Bool) → nat_eq n m ≡ same → list_any (nat_eq n) (insert_once n ms) ≡ true →
        list_any (nat_eq n) (cond less (n ∷ m ∷ ms) (cond same (m ∷ ms) (m ∷ insert_once n ms))) ≡ true
    by true same e rec = rw (eq-eqb n n refl) refl
    by false true e rec = rw e refl
    by false false e rec = rw e rec

-- and a replica that was taken out isn't
taken_out : (seg : ℕ) (replicas : List (ℕ × Replica)) → replica_of seg (without_replica seg replicas) ≡ None
taken_out seg [] = refl
taken_out seg (one ∷ others) = by (nat_eq seg one.0) refl (taken_out seg others)
  where
    by : (same : Bool) → nat_eq seg one.0 ≡ same → replica_of seg (without_replica seg others) ≡ None →
        replica_of seg (cond (not same) (one ∷ without_replica seg others) (without_replica seg others)) ≡ None
    by true e rec = rec
    by false e rec = rw e rec

-- a freed segment is marked, and its replica is gone
pub freed-marked : (backup : Backup) (master : ServerId) (seg : ℕ) → (backup.held master).fenced ≡ false →
    (is_freed seg ((frees backup master seg).held master) ≡ true) × (replica_of seg ((frees backup master seg).held master).replicas ≡ None)
freed-marked backup master seg isn't = search (arith, put_id-same, inserted, taken_out)

-- nothing of a marked one is stored
pub freed-nothing : (backup : Backup) (master : ServerId) (seg : ℕ) (body : Body) →
    is_freed seg (backup.held master) ≡ true → stores backup master seg body ≡ (backup, [])
freed-nothing backup master seg body freed = search (arith, either, true_false)

-- Restart

-- a pair by its parts
name_pair : {one : ℕ × Replica} {seg : ℕ} {replica : Replica} → seg ≡ one.0 → one.1 ≡ replica → one ≡ (seg, replica)
name_pair p q j = (sym p j, q j)

-- what is found and stays is found among those that stay
pub stay-found : (test : ℕ × Replica → Bool) (replicas : List (ℕ × Replica)) {seg : ℕ} {replica : Replica} →
    replica_of seg replicas ≡ Some replica → test (seg, replica) ≡ true → replica_of seg (filter test replicas) ≡ Some replica
stay-found test [] e stays = cc
stay-found test (one ∷ others) {seg} {replica} e stays =
    by (nat_eq seg one.0) refl (test one) refl (λ found. stay-found test others found stays) e
  where
    by : (b : Bool) → nat_eq seg one.0 ≡ b → (t : Bool) → test one ≡ t →
        (replica_of seg others ≡ Some replica → replica_of seg (filter test others) ≡ Some replica) →
        cond b (Some one.1) (replica_of seg others) ≡ Some replica →
        replica_of seg (cond t (one ∷ filter test others) (filter test others)) ≡ Some replica
    by true same true is rec here = rw same here
    by true same false isn't rec here = search (arith, true_false, name_pair, eqb-true)
    by false other true is rec rest = rw other (rec rest)
    by false other false isn't rec rest = rec rest

-- what is found among those that pass a test passes it
pub found-stays : (test : ℕ × Replica → Bool) (replicas : List (ℕ × Replica)) {seg : ℕ} {replica : Replica} →
    replica_of seg (filter test replicas) ≡ Some replica → test (seg, replica) ≡ true
found-stays test [] e = cc
found-stays test (one ∷ others) {seg} {replica} e = by (test one) refl (found-stays test others) e
  where
    here : (b : Bool) → nat_eq seg one.0 ≡ b → test one ≡ true →
        (replica_of seg (filter test others) ≡ Some replica → test (seg, replica) ≡ true) →
        cond b (Some one.1) (replica_of seg (filter test others)) ≡ Some replica → test (seg, replica) ≡ true
    here true same is rec found =
        let second : one.1 ≡ replica = cc in sym (ap test (name_pair (eqb-true seg one.0 same) second)) ∙ is
    here false other is rec rest = rec rest

    by : (t : Bool) → test one ≡ t → (replica_of seg (filter test others) ≡ Some replica → test (seg, replica) ≡ true) →
        replica_of seg (cond t (one ∷ filter test others) (filter test others)) ≡ Some replica → test (seg, replica) ≡ true
    by true is rec found = here (nat_eq seg one.0) refl is rec found
    by false isn't rec found = rec found
