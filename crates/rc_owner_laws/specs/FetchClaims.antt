-- What is claimed of a Fetch, after every list of events of every setup.
use Rattle.std.specs.Prelude.{◌≡◌, ℕ, true, List, [], ◌∷◌, Some, filter, take, length}
use Rattle.rc_types.specs.declared.ids.ServerId.{ServerId}
use Rattle.rc_types.specs.declared.ids.Addr.{Addr}
use Rattle.rc_types.specs.declared.ids.Addr.TheVariants.{Server, Coordinator as AtCoordinator}
use Rattle.rc_types.specs.declared.rows.Part.{Part}
use Rattle.rc_types.specs.declared.rows.PlanRow.{PlanRow}
use Rattle.rc_types.specs.declared.events.Setup.{Setup}
use Rattle.rc_types.specs.declared.events.Event.{Event}
use Rattle.rc_types.specs.declared.messages.Message.{Message}
use Rattle.rc_types.specs.declared.messages.Body.TheVariants.{Fetch, Data, Plan as PlanBody}
use Rattle.rc_model.specs.Messages.{between}
use Rattle.rc_model.specs.Replica.{Replica}
use Rattle.rc_model.specs.Backup.{replica_of, is_in_part}
use Rattle.rc_model.specs.Nodes.{HostNode, Deliver, host_step, is_running_at}
use Rattle.rc_model.specs.World.{replay}
use Rattle.rc_model.specs.Headline.{In}
use Rattle.rc_step_laws.specs.WordClaims.{sent_after}

-- a plan for the master was sent in this attempt, and has the row
pub record IsPlannedRow (sent : List Message) (number : ℕ) (m : ServerId) (row : PlanRow) : Type 0 where
  pub to : Addr
  pub head : ℕ
  pub rows : List PlanRow
  pub parts : List Part
  pub planned : In (record { from = AtCoordinator; to = to; body = PlanBody head number m rows parts }) sent
  pub among : In row rows

-- the row's holder is asked for a part of it
abbrev pub fetch_of_row : ServerId → ℕ → ServerId → PlanRow → Part → Message
fetch_of_row asker number m row part = between asker row.holder (Fetch number m row.seg row.len part)

-- the holder's host has all that the row names, and answers with what of it is the part's
pub record HasItsData (host : HostNode) (asker : ServerId) (number : ℕ) (m : ServerId) (row : PlanRow) (part : Part) :
    Type 0 where
  pub replica : Replica
  pub kept : replica_of row.seg (host.backup.held m).replicas ≡ Some replica
  pub whole : row.len ≡ length replica.entries
  pub answer : (host_step host (Deliver (fetch_of_row asker number m row part))).1 ≡ between row.holder asker
      (Data number row.seg part.term (filter (is_in_part part) (take row.len replica.entries))) ∷ []

-- a Fetch of a row that was planned is answered while its holder runs
abbrev pub FetchesAreAnswered : Type 0
FetchesAreAnswered = (setup : Setup) (events : List Event) (number : ℕ) (m : ServerId) (row : PlanRow) →
    IsPlannedRow (sent_after setup events) number m row →
    is_running_at ((replay setup events).hosts row.holder.index) (Server row.holder) ≡ true →
    (asker : ServerId) (part : Part) →
    HasItsData ((replay setup events).hosts row.holder.index) asker number m row part
