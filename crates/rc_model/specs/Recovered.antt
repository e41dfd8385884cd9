-- What was acknowledged, which recoveries were accepted, and what they recover, by the messages sent alone.
use Rattle.std.specs.Prelude.{ℕ, nat_eq, nat_lt, if◌then◌else◌, Bool, List, [], ◌∷◌, ◌++◌, max}
use Rattle.std.specs.List.{flat_map}
use Rattle.rc_types.specs.declared.ids.ServerId.{ServerId}
use Rattle.rc_types.specs.declared.ids.Pair.{Pair}
use Rattle.rc_types.specs.declared.rows.PlanRow.{PlanRow}
use Rattle.rc_types.specs.declared.messages.Message.{Message}
use Rattle.rc_types.specs.declared.messages.Body.{Body}
use Rattle.rc_types.specs.declared.messages.Body.TheVariants.{WriteOk, CommitOk, Plan}
use Rattle.rc_model.specs.Ids.{is_server}
use Rattle.rc_model.specs.Pick.{greater_pair}

-- an acknowledged write: its place, and what was written under which version
pub record Ack : Type 0 where
  pub seg : ℕ
  pub offset : ℕ
  pub term : ℕ
  pub table : ℕ
  pub key : ℕ
  pub version : ℕ

abbrev pub ack_in : Body → List Ack
ack_in (WriteOk seg offset term table key version) =
    record { seg = seg; offset = offset; term = term; table = table; key = key; version = version } ∷ []
ack_in _ = []

-- the writes that a master has acknowledged, in order
abbrev pub acknowledged : List Message → ServerId → List Ack
acknowledged [] m = []
acknowledged (message ∷ sent) m =
    if is_server m message.from then ack_in message.body ++ acknowledged sent m else acknowledged sent m

-- the writes that anyone has acknowledged, in order
abbrev pub all_acknowledged : List Message → List Ack
all_acknowledged sent = flat_map (λ message. ack_in message.body) sent

-- an accepted recovery: the attempt, the master, and where its log is
pub record Accepted : Type 0 where
  pub attempt : ℕ
  pub master : ServerId
  pub rows : List PlanRow

abbrev pub plan_in : Body → List Accepted
plan_in (Plan head attempt master rows parts) = record { attempt = attempt; master = master; rows = rows } ∷ []
plan_in _ = []

-- the accepted recoveries, in order: each Plan message by itself
abbrev pub accepted : List Message → List Accepted
accepted sent = flat_map (λ message. plan_in message.body) sent

-- how far the rows reach in a segment: the places below this are recovered
abbrev pub reach : List PlanRow → ℕ → ℕ
reach [] s = 0
reach (row ∷ rows) s = if nat_eq row.seg s then max row.len (reach rows s) else reach rows s

-- the place is in the recovered log
abbrev pub is_recovered : List PlanRow → ℕ → ℕ → Bool
is_recovered rows s o = nat_lt o (reach rows s)

abbrev pub pair_in : Body → Pair
pair_in (CommitOk seg epoch) = record { seg = seg; epoch = epoch }
pair_in _ = record { seg = 0; epoch = 0 }

-- the least pair of a master: the greatest that the coordinator has told it to be committed
abbrev pub least_pair : List Message → ServerId → Pair
least_pair [] m = record { seg = 0; epoch = 0 }
least_pair (message ∷ sent) m =
    if is_server m message.to then greater_pair (pair_in message.body) (least_pair sent m) else least_pair sent m
