-- In a world of which the facts hold, nothing acknowledged is missing from an accepted recovery, and nothing in it is invented.
use Rattle.std.proofs.Common.{◌≡◌, ◌⊎◌, ℕ, ◌<◌, true, List, Some, slice_get}
use Rattle.std.proofs.Common.{sym, ap, ◌∙◌, subst, inl, inr, arith}
use Rattle.std.proofs.lemmas.Bool.{eqb-true, leb-true, and_parts}
use Rattle.rc_model.specs.Model.{ServerId, Addr, Server, Outside, Entry, Row, PlanRow, Message, Body, Place, Append, entry_at, Ack}
use Rattle.rc_model.specs.Model.{Accepted, is_valid, Log, Master, HostNode, HasMade, HasAcknowledged, WasAccepted, IsHeld, OnlyIt}
use Rattle.rc_model.specs.Model.{IsSuperseded, IsThere, NothingIsMissing, NothingIsInvented}
use Rattle.rc_types.specs.declared.ids.Addr.TheVariants.{Coordinator as AtCoordinator}
use Rattle.rc_model.specs.Coordinator.{Coordinator}
use Rattle.rc_step_laws.specs.All.{log_in, IsCopy, IsWriteOk, Good, body_fine}
use Rattle.rc_step_laws.proofs.Lists.{get-begins}
use Rattle.rc_step_laws.proofs.Covers.{PlanIs, plan-is, IsCovered, covered}

-- What was made is what the log has

made-logged : (sent : List Message) (masters : ServerId → Master) (hosts : ℕ → HostNode) (c : Coordinator) →
    (m : ServerId) (s o : ℕ) (entry : Entry) (to : Addr) (body : Body) →
    body_fine sent masters hosts c (Server m) to body → entry_at body s o ≡ Some entry → slice_get (log_in (masters m).log s) o ≡ Some entry
made-logged sent masters hosts c m s o entry (Server x) (Place seg epoch digest entries closed) fine at =
    search (arith, eqb-true, get-begins)
made-logged sent masters hosts c m s o entry AtCoordinator (Place seg epoch digest entries closed) fine at = absurd fine
made-logged sent masters hosts c m s o entry Outside (Place seg epoch digest entries closed) fine at = absurd fine
made-logged sent masters hosts c m s o entry to (Append seg offset entries) fine at =
    search (arith, and_parts, leb-true, eqb-true)
made-logged sent masters hosts c m s o entry to _ fine at = cc

pub made-is : {sent : List Message} {masters : ServerId → Master} {hosts : ℕ → HostNode} {c : Coordinator} →
    Good sent masters hosts c → {m : ServerId} {s o : ℕ} {entry : Entry} →
    HasMade sent m s o entry → slice_get (log_in (masters m).log s) o ≡ Some entry
made-is {sent} {masters} {hosts} {c} good {m} {s} {o} {entry} made = search (arith, made-logged)

-- The plan, and the write, of a message

pub accepted-is : {sent : List Message} {masters : ServerId → Master} {hosts : ℕ → HostNode} {c : Coordinator} →
    Good sent masters hosts c → {plan : Accepted} → WasAccepted sent plan →
    PlanIs sent masters c plan.master plan.rows
accepted-is {sent} {masters} {hosts} {c} good was = plan-is good
    (subst (λ (body : Body). body_fine sent masters hosts c was.message.from was.message.to body) was.says
    (good.messages was.message was.among))

pub acknowledged-is : {sent : List Message} {masters : ServerId → Master} {hosts : ℕ → HostNode} {c : Coordinator} →
    Good sent masters hosts c → {m : ServerId} {ack : Ack} → HasAcknowledged sent m ack →
    IsWriteOk sent m (masters m).log ack.seg ack.offset ack.term ack.table ack.key ack.version
acknowledged-is {sent} {masters} {hosts} {c} good {m} was = search arith

-- what a row of the plan holds was made
pub held-made : {sent : List Message} {masters : ServerId → Master} (hosts : ℕ → HostNode) {c : Coordinator} →
    {m : ServerId} {rows : List PlanRow} → PlanIs sent masters c m rows → {s o : ℕ} → IsHeld rows s o →
    (entry : Entry) × (slice_get (log_in (masters m).log s) o ≡ Some entry) × HasMade sent m s o entry
held-made {sent} {masters} hosts {c} {m} plan {s} {o} held = by (plan.each held.row held.among)
  where
    by : ((y : ServerId) × (copy : Row) × (held.row ≡ record { seg = copy.seg; holder = y; len = copy.len })
        × (is_valid (c.least m) copy ≡ true) × IsCopy sent m (masters m).log y.index y.generation copy.seg copy.epoch
        copy.closed copy.len copy.digest) →
        (entry : Entry) × (slice_get (log_in (masters m).log s) o ≡ Some entry) × HasMade sent m s o entry
    by (y, copy, is, valid, of_log) =
        let len : held.row.len ≡ copy.len = ap (λ (row : PlanRow). row.len) is in
        let seg : copy.seg ≡ s = sym (ap (λ (row : PlanRow). row.seg) is) ∙ held.seg in
        let below : o < held.row.len = held.below in
        subst (λ t. (entry : Entry) × (slice_get (log_in (masters m).log t) o ≡ Some entry) × HasMade sent m t o entry)
        seg (of_log.made o (omega arith))

-- Nothing acknowledged is missing

-- what is safe, and could be acknowledged, is there
pub safe-there : {sent : List Message} {masters : ServerId → Master} {hosts : ℕ → HostNode} {c : Coordinator} →
    Good sent masters hosts c → {plan : Accepted} → WasAccepted sent plan → {ack : Ack} →
    IsWriteOk sent plan.master (masters plan.master).log ack.seg ack.offset ack.term ack.table ack.key ack.version → IsThere sent plan ack
safe-there {sent} {masters} {hosts} {c} good {plan} accepted {ack} write = record { held = by is_covered.is_it; only = only }
  where
    m : ServerId
    m = plan.master

    log : Log
    log = (masters plan.master).log

    is_plan : PlanIs sent masters c plan.master plan.rows
    is_plan = accepted-is good accepted

    is_covered : IsCovered plan.master (masters plan.master).log plan.rows ack.seg ack.offset write.entry
    is_covered = covered sent masters hosts c good plan.master plan.rows is_plan ack.seg ack.offset write.entry write.safe write.holds

    made_there : HasMade sent plan.master is_covered.seg is_covered.offset is_covered.other
    made_there =
        let found : (entry : Entry) ×
        (slice_get (log_in (masters plan.master).log is_covered.seg) is_covered.offset ≡ Some entry) ×
        HasMade sent plan.master is_covered.seg is_covered.offset entry =
        held-made hosts is_plan is_covered.held in
        let there : slice_get (log_in (masters plan.master).log is_covered.seg) is_covered.offset ≡ Some
        is_covered.other = is_covered.holds in
        let first : slice_get (log_in (masters plan.master).log is_covered.seg) is_covered.offset ≡ Some found.0 = found.1 in
        let same : found.0 ≡ is_covered.other = cc in
        subst (HasMade sent plan.master is_covered.seg is_covered.offset) same found.2

    by : ((is_covered.seg ≡ ack.seg) × (is_covered.offset ≡ ack.offset)) ⊎
        (write.entry.version < is_covered.other.version) → IsHeld plan.rows ack.seg ack.offset ⊎
        IsSuperseded sent plan ack
    by (inl e) = inl (subst (λ o. IsHeld plan.rows ack.seg o) e.1 (subst (λ s. IsHeld plan.rows s is_covered.offset) e.0 is_covered.held))
    by (inr more) = search (arith, is_covered, made_there)

    only : OnlyIt sent plan.master ack
    only entry made =
        let there : slice_get (log_in (masters plan.master).log ack.seg) ack.offset ≡ Some entry =
        made-is good made in
        let is : slice_get (log_in (masters plan.master).log ack.seg) ack.offset ≡ Some write.entry = write.holds in
        let same : entry ≡ write.entry = cc in (
          record {
            term = ap (λ (one : Entry). one.term) same ∙ write.term_is;
            table = ap (λ (one : Entry). one.table) same ∙ write.table_is;
            key = ap (λ (one : Entry). one.key) same ∙ write.key_is;
          },
          ap (λ (one : Entry). one.version) same ∙ write.version_is,
        )

pub nothing-missing : (sent : List Message) (masters : ServerId → Master) (hosts : ℕ → HostNode) (c : Coordinator) →
    Good sent masters hosts c → NothingIsMissing sent
nothing-missing sent masters hosts c good plan accepted ack acked = safe-there good accepted (acknowledged-is good acked)

-- Nothing recovered is invented

pub nothing-invented : (sent : List Message) (masters : ServerId → Master) (hosts : ℕ → HostNode) (c : Coordinator) →
    Good sent masters hosts c → NothingIsInvented sent
nothing-invented sent masters hosts c good plan accepted s o held =
    let is_plan : PlanIs sent masters c plan.master plan.rows = accepted-is good accepted in
    let found : (entry : Entry) × (slice_get (log_in (masters plan.master).log s) o ≡ Some entry) ×
    HasMade sent plan.master s o entry = held-made hosts is_plan held in
    let first : slice_get (log_in (masters plan.master).log s) o ≡ Some found.0 = found.1 in
    record {
      entry = found.0;
      made = found.2;
      only = λ other made. (let there : slice_get (log_in (masters plan.master).log s) o ≡ Some other = made-is good made in cc);
    }
