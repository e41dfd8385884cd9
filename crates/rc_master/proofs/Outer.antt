-- What a step's contract says of the fields, said of what callers see.
use Rattle.std.proofs.Common.{◌≡◌, ◌++◌, false, cond, List, [], Result, OnOk, sym, ap, ◌∙◌, subst}
use Rattle.rc_model.specs.Model.{Addr, Message, Body, Master, durable_replayed, master_takes, master_ticks, then_does, goes_on, ticks}
use Rattle.rc_master.specs.declared.state.State.{State}
use Rattle.rc_master.specs.Data.{MasterData, master_of}
use Rattle.rc_headroll.specs.LogData.{log_of}
use Rattle.rc_ownership.specs.Owner.{replayed_of}
use Rattle.rc_master.specs.View.{state_view, data_of, IsNoted}
use Rattle.rc_master.proofs.Notes.{replayed-same}

pub viewed : (s : State) (seen : MasterData) → data_of s ≡ seen → state_view s ≡ master_of seen
viewed s seen e = ap master_of e

pub taken-state : {T E : Type 0} (r : Result T E) (inside seen after : Master) (from : Addr) (body : Body) → inside ≡ seen →
    OnOk r (after ≡ (master_takes inside from body).0) → OnOk r (after ≡ (master_takes seen from body).0)
taken-state r inside seen after from body e = subst (λ (m : Master). OnOk r (after ≡ (master_takes m from body).0)) e

pub taken-sends : {T E : Type 0} (r : Result T E) (inside seen : Master) (before after : List Message) (from : Addr)
    (body : Body) → inside ≡ seen →
    OnOk r (after ≡ before ++ (master_takes inside from body).1) → OnOk r (after ≡ before ++ (master_takes seen from body).1)
taken-sends r inside seen before after from body e = subst (λ (m : Master). OnOk r (after ≡ before ++ (master_takes m from body).1)) e

pub ticked-state : {T E : Type 0} (r : Result T E) (inside seen after : Master) → inside ≡ seen →
    OnOk r (after ≡ (master_ticks inside).0) → OnOk r (after ≡ (master_ticks seen).0)
ticked-state r inside seen after e = subst (λ (m : Master). OnOk r (after ≡ (master_ticks m).0)) e

pub ticked-sends : {T E : Type 0} (r : Result T E) (inside seen : Master) (before after : List Message) → inside ≡ seen →
    OnOk r (after ≡ before ++ (master_ticks inside).1) → OnOk r (after ≡ before ++ (master_ticks seen).1)
ticked-sends r inside seen before after e = subst (λ (m : Master). OnOk r (after ≡ before ++ (master_ticks m).1)) e

-- the durable notes of what was replayed are the entries at durable places that no client wrote
pub durable-noted : (s : State) → IsNoted s → replayed_of s.ownership ≡ durable_replayed (state_view s)
durable-noted s noted = replayed-same (log_of s.log) s.ownership.noted s.ownership.replayed s.ownership.durable noted

-- the timer of a master that isn't deposed
pub ticks-up : (begun old : Master) → begun ≡ old → old.deposed ≡ false → then_does (ticks begun) goes_on ≡ master_ticks old
ticks-up begun old e up =
    ap (λ (m : Master). then_does (ticks m) goes_on) e
    ∙ sym (ap (λ b. cond b (old, []) (then_does (ticks old) goes_on)) up)
