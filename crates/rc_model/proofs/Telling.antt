-- A backup tells what it keeps of a master only once it has fenced it.
use Rattle.std.proofs.Common.{◌≡◌, ℕ, Bool, true, false, nat_eq, List, [], ◌∷◌, Option, Some, None}
use Rattle.std.proofs.Common.{refl, sym, ap, ◌∙◌, inl, arith}
use Rattle.std.proofs.lemmas.Bool.{eq-eqb}
use Rattle.rc_model.specs.Model.{ServerId, Addr, Server, Part, Message, Body, Place, Append, Close, Gather, Fetch, Data, Replicas}
use Rattle.rc_model.specs.Model.{Row, Entry, Stored}
use Rattle.rc_model.specs.Model.{between, to_coordinator, Replica, Backup, Held, keeps}
use Rattle.rc_model.specs.Model.{stores, rows_of_replicas, data_of, answers_fetch, fences, backup_takes, In}
use Rattle.rc_model.specs.BackupClaims.{is_telling, asked_of, is_answer, IsToldOfFenced, TellsOnlyOfFenced}
use Rattle.rc_model.proofs.Tests.{either, true_false}
use Rattle.rc_model.proofs.Tables.{put_id-same}
use Rattle.rc_model.proofs.Sending.{Each, each-none, each-one, each-if}

-- what holds of each kind of message that a backup sends holds of all that it sends
module _ (P : Message → Type 0) (backup : Backup)
    (stored : (x : ServerId) (s e len : ℕ) (closed : Bool) → P (between backup.own x (Stored s e len closed)))
    (gathered : (attempt : ℕ) (rows : List Row) → P (to_coordinator backup.own (Replicas attempt rows)))
    (fetched : (x : ServerId) (attempt seg term : ℕ) (entries : List Entry) →
    P (between backup.own x (Data attempt seg term entries))) where
  each-keeps : (master : ServerId) (seg : ℕ) (found : Option Replica) → Each P (keeps backup master seg found).1
  each-keeps master seg None = each-none P
  each-keeps master seg (Some replica) = each-one P (stored master seg _ _ _)

  each-stores : (master : ServerId) (seg : ℕ) (body : Body) → Each P (stores backup master seg body).1
  each-stores master seg body = search (arith, either, each-none, each-keeps)

  each-data : {asker : ServerId} (attempt seg len : ℕ) (part : Part) (found : Option Replica) →
      Each (λ body. P (between backup.own asker body)) (data_of attempt seg len part found)
  each-data attempt seg len part None = each-none _
  each-data {asker} attempt seg len part (Some replica) = search (arith, each-if, each-one)

  each-answers : {asker : ServerId} (master : ServerId) (bodies : List Body) →
      Each (λ body. P (between backup.own asker body)) bodies →
      Each P (answers_fetch backup asker master bodies)
  each-answers master [] all = each-none P
  each-answers {asker} master (body ∷ bodies) all =
      each-if P (between backup.own asker body ∷ []) (λ _. each-one P (all body (inl refl)))

  pub each-told : (from : Addr) (body : Body) → Each P (backup_takes backup from body).1
  each-told (Server master) (Place seg epoch digest entries closed) = each-stores master seg (Place seg epoch digest entries closed)
  each-told (Server master) (Append seg offset entries) = each-stores master seg (Append seg offset entries)
  each-told (Server master) (Close seg len) = each-stores master seg (Close seg len)
  each-told (Server asker) (Fetch attempt master seg len part) = search (arith, each-answers, each-data)
  each-told from (Gather attempt master) = each-one P (gathered attempt (rows_of_replicas (backup.held master).replicas))
  each-told from body = each-none P

abbrev Soft : Message → Type 0
Soft message = is_telling message.body ≡ false

soft-stores : (backup : Backup) (master : ServerId) (seg : ℕ) (body : Body) → Each Soft (stores backup master seg body).1
soft-stores backup master seg body = search (arith, either, each-none, each-one)

same-number : (n : ℕ) → nat_eq n n ≡ true
same-number n = eq-eqb n n refl

abbrev Tells : Backup → Body → Message → Type 0
Tells after asked message = is_telling message.body ≡ true → IsToldOfFenced after asked message.body

tells-soft : (after : Backup) (asked : Body) (messages : List Message) → Each Soft messages → Each (Tells after asked) messages
tells-soft after asked messages soft message at is = true_false (sym is ∙ soft message at)

-- a Fetch
data-answers : (attempt : ℕ) (master : ServerId) (seg len : ℕ) (part : Part) (found : Option Replica) (body : Body) →
    In body (data_of attempt seg len part found) → is_answer (Fetch attempt master seg len part) body ≡ true
data-answers attempt master seg len part None = λ body at. absurd at
data-answers attempt master seg len part (Some replica) = search (arith, either, each-one, nat_eq, same-number)

tells-data : {backup : Backup} (asker : ServerId) {master : ServerId} {asked : Body} (bodies : List Body) → asked_of asked ≡ Some master →
    ((body : Body) → In body bodies → is_answer asked body ≡ true) →
    Each (Tells backup asked) (answers_fetch backup asker master bodies)
tells-data {backup} asker {asked} [] about all = each-none (Tells backup asked)
tells-data {backup} asker {master} {asked} (body ∷ bodies) about all = search (arith, each-if, each-one)

-- and a Gather
tells-rows : (backup : Backup) {attempt : ℕ} {master : ServerId} →
    Each (Tells (fences backup attempt master).0 (Gather attempt master)) (fences backup attempt master).1
tells-rows backup {attempt} {master} = each-one (Tells (fences backup attempt master).0 (Gather attempt master))
    (λ is. record {
      master = master;
      about = refl;
      answer = same-number attempt;
      fenced = ap (λ (held : Held). held.fenced) (put_id-same backup.held master);
    })

tells : (backup : Backup) (from : Addr) (body : Body) →
    Each (Tells (backup_takes backup from body).0 body) (backup_takes backup from body).1
tells backup (Server master) (Place seg epoch digest entries closed) = search (arith, tells-soft, soft-stores)
tells backup (Server master) (Append seg offset entries) = search (arith, tells-soft, soft-stores)
tells backup (Server master) (Close seg len) =
    tells-soft _ (Close seg len) (stores backup master seg (Close seg len)).1 (soft-stores backup master seg (Close seg len))
tells backup (Server asker) (Fetch attempt master seg len part) = search (arith, tells-data, data-answers)
tells backup from (Gather attempt master) = tells-rows backup
tells backup from body = each-none _

pub tells-only-of-fenced : TellsOnlyOfFenced
tells-only-of-fenced backup from body = tells backup from body
