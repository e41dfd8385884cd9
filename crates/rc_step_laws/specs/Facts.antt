-- The facts that every step keeps: of each message that was sent, of each master's view, of each host and of the
-- coordinator. Each takes just the parts of a world that it reads.
use Rattle.std.specs.Prelude.{◌≡◌, ◌⊎◌, ℕ, ◌+◌, ◌<◌, ◌≤◌, Bool, true, false, List, [], ◌∷◌, length, Some, Ok, slice_get}
use Rattle.rc_types.specs.declared.ids.ServerId.{ServerId}
use Rattle.rc_types.specs.declared.ids.Addr.{Addr}
use Rattle.rc_types.specs.declared.ids.Addr.TheVariants.{Server, Coordinator as AtCoordinator}
use Rattle.rc_types.specs.declared.entries.Entry.{Entry}
use Rattle.rc_types.specs.declared.rows.Row.{Row}
use Rattle.rc_types.specs.declared.rows.PlanRow.{PlanRow}
use Rattle.rc_types.specs.declared.kept.Member.{Member}
use Rattle.rc_types.specs.declared.kept.Phase.TheVariants.{Writing}
use Rattle.rc_types.specs.declared.messages.Message.{Message}
use Rattle.rc_types.specs.declared.messages.Body.{Body}
use Rattle.rc_types.specs.declared.messages.Body.TheVariants.{WriteOk, Place, Append, Close, Stored, CommitOk}
use Rattle.rc_types.specs.declared.messages.Body.TheVariants.{Gather, Replicas, List as ServersOf, Plan as PlanBody}
use Rattle.rc_model.specs.Messages.{between, to_coordinator}
use Rattle.rc_model.specs.ServerList.{up_rows, has_crashed}
use Rattle.rc_model.specs.Replica.{Replica}
use Rattle.rc_model.specs.Backup.{Held, replica_of, is_freed}
use Rattle.rc_model.specs.Config.{told_len, told_closed}
use Rattle.rc_model.specs.Segment.{no_segment}
use Rattle.rc_model.specs.Log.{Log, LogPlace, places_of}
use Rattle.rc_model.specs.Master.{Master, ids_of, new_master}
use Rattle.rc_model.specs.Pick.{is_below, pick}
use Rattle.rc_model.specs.Attempts.{Attempt, Decision}
use Rattle.rc_model.specs.Coordinator.{Coordinator}
use Rattle.rc_model.specs.Nodes.{HostNode, server_of}
use Rattle.rc_model.specs.Headline.{In, HasMade}
use Rattle.rc_step_laws.specs.Words.{Begins, log_in, Stands, IsOpened, HasTold, HasToldClosed, IsMember, IsPlacedAt}
use Rattle.rc_step_laws.specs.Words.{IsOpenedAt, IsCommitted, held_at, OnDifferentHosts, IsNumbered, IsOf}

-- Durable places

-- A durable place has a witness: an epoch, granted, each member under which has told a length above it; each Place
-- under a later epoch has it; and each earlier segment is shut.
pub record IsSafe (sent : List Message) (m : ServerId) (log : Log) (s o : ℕ) : Type 0 where
  pub opened : IsOpened log s
  pub logged : o < length (log_in log s)
  pub epoch : ℕ
  pub upto : epoch ≤ (log.segments s).config.epoch
  pub granted : IsCommitted sent m s epoch
  pub told : (x : ServerId) → IsMember sent m s epoch x → HasTold sent x m s epoch o
  pub later : (x : ServerId) (e : ℕ) (digest : List ℕ) (entries : List Entry) (closed : Bool) → epoch < e →
      In (between m x (Place s e digest entries closed)) sent → o < length entries
  pub below : (t : ℕ) → 0 < t → t < s → (log.segments t).shut ≡ true

-- a durable place holds a greater version of this entry's key under its term
pub record IsOutdated (sent : List Message) (m : ServerId) (log : Log) (entry : Entry) : Type 0 where
  pub seg : ℕ
  pub offset : ℕ
  pub other : Entry
  pub safe : IsSafe sent m log seg offset
  pub holds : slice_get (log_in log seg) offset ≡ Some other
  pub term : other.term ≡ entry.term
  pub table : other.table ≡ entry.table
  pub key : other.key ≡ entry.key
  pub greater : entry.version < other.version

-- the segment is shut, and each of its entries is outdated
pub record IsDead (sent : List Message) (m : ServerId) (log : Log) (t : ℕ) : Type 0 where
  pub shut : (log.segments t).shut ≡ true
  pub outdated : (o : ℕ) (entry : Entry) → slice_get (log_in log t) o ≡ Some entry → IsOutdated sent m log entry

-- a digest has its own segment and earlier ones, and each earlier one that it lacks is dead
pub record IsDigest (sent : List Message) (m : ServerId) (log : Log) (s : ℕ) (digest : List ℕ) : Type 0 where
  pub own : In s digest
  pub upto : (t : ℕ) → In t digest → (0 < t) × (t ≤ s)
  pub lacks : (t : ℕ) → 0 < t → t < s → In t digest ⊎ IsDead sent m log t

-- One master's view

pub record GoodMaster (sent : List Message) (m : ServerId) (master : Master) : Type 0 where
  pub own : master.log.own ≡ m
  -- nothing stands above the head, or below the first segment
  pub none_below : master.log.segments 0 ≡ no_segment 0
  pub none_above : (s : ℕ) → master.log.head < s → master.log.segments s ≡ no_segment s
  -- one segment takes data: all but the last two are shut, in Writing all but the head, and else the head is empty
  pub old_shut : (s : ℕ) → 0 < s → s + 1 < master.log.head → (master.log.segments s).shut ≡ true
  pub writing_opened : master.log.phase ≡ Writing → 0 < master.log.head
  pub writing_shut : master.log.phase ≡ Writing → (s : ℕ) → 0 < s → s < master.log.head →
      (master.log.segments s).shut ≡ true
  pub empty : (master.log.phase ≡ Writing → ⊥) → log_in master.log master.log.head ≡ []
  pub shut_below : (s : ℕ) → (master.log.segments s).shut ≡ true → 0 < s × (s < master.log.head)
  pub shut_committed : (s : ℕ) → (master.log.segments s).shut ≡ true → (master.log.segments s).config.committed ≡ true
  -- the members of an open segment are those that were sent it under its epoch, each on a host of its own
  pub complete : (s : ℕ) (x : ServerId) → IsOpened master.log s → (master.log.segments s).shut ≡ false →
      In x (ids_of (master.log.segments s).config.members) → IsMember sent m s (master.log.segments s).config.epoch x
  pub apart : (s : ℕ) → (master.log.segments s).shut ≡ false →
      OnDifferentHosts (ids_of (master.log.segments s).config.members)
  pub one_a_host : (s e : ℕ) (x y : ServerId) → IsMember sent m s e x → IsMember sent m s e y → x.index ≡ y.index →
      x ≡ y
  -- what is noted was told, and what is committed was granted
  pub noted : (s : ℕ) (member : Member) → In member (master.log.segments s).config.members → (o : ℕ) →
      o < told_len member.told →
      HasTold sent member.id m s (master.log.segments s).config.epoch o
  pub noted_closed : (s : ℕ) (member : Member) → In member (master.log.segments s).config.members →
      told_closed member.told ≡ true →
      HasToldClosed sent member.id m s (master.log.segments s).config.epoch
  pub committed : (s : ℕ) → (master.log.segments s).config.committed ≡ true →
      IsCommitted sent m s (master.log.segments s).config.epoch
  -- the places that are counted durable are
  pub counted : (k : ℕ) (place : LogPlace) → k < master.log.durable → slice_get (places_of master.log) k ≡ Some place →
      IsSafe sent m master.log place.seg place.offset
  pub digests : (s : ℕ) → IsOpened master.log s → IsDigest sent m master.log s (master.log.segments s).digest
  -- of each host at most one id is up by its list
  pub known : OnDifferentHosts (up_rows master.known.rows)
  -- no more places are counted than there are
  pub durable_within : master.log.durable ≤ length (places_of master.log)

-- What a master may say

-- a Place is a beginning of the log, under an epoch up to the current one; under the current one a proper one went to a
-- member, who has told closed where the segment is shut; a closed one is all of a shut segment
pub record IsPlace (sent : List Message) (m : ServerId) (log : Log) (x : ServerId) (s e : ℕ) (digest : List ℕ)
    (entries : List Entry) (closed : Bool) : Type 0 where
  pub opened : IsOpened log s
  pub epoch : e ≤ (log.segments s).config.epoch
  pub digest_is : digest ≡ (log.segments s).digest
  pub begins : Begins entries (log_in log s)
  pub whole : closed ≡ true → ((log.segments s).shut ≡ true) × (entries ≡ log_in log s)
  pub member : closed ≡ false → e ≡ (log.segments s).config.epoch → (log.segments s).shut ≡ false →
      In x (ids_of (log.segments s).config.members)
  pub told : closed ≡ false → e ≡ (log.segments s).config.epoch → (log.segments s).shut ≡ true →
      HasToldClosed sent x m s e

pub record IsAppend (log : Log) (s offset : ℕ) (entries : List Entry) : Type 0 where
  pub opened : IsOpened log s
  pub stands : Stands entries offset (log_in log s)

-- a Close has the final length
pub record IsClose (log : Log) (s len : ℕ) : Type 0 where
  pub above : 0 < s
  pub final : s < log.head
  pub whole : len ≡ length (log_in log s)

-- a WriteOk names a durable place, and what stands there
pub record IsWriteOk (sent : List Message) (m : ServerId) (log : Log) (s o term table key version : ℕ) : Type 0 where
  pub safe : IsSafe sent m log s o
  pub entry : Entry
  pub holds : slice_get (log_in log s) o ≡ Some entry
  pub term_is : entry.term ≡ term
  pub table_is : entry.table ≡ table
  pub key_is : entry.key ≡ key
  pub version_is : entry.version ≡ version

-- What a backup may say

-- what the host's last server has told still stands there, or the segment was freed there
pub record StillStands (held : Held) (s e len : ℕ) (closed : Bool) : Type 0 where
  pub replica : Replica
  pub kept : replica_of s held.replicas ≡ Some replica
  pub epoch : e ≤ replica.epoch
  pub enough : len ≤ length replica.entries
  pub closed_too : closed ≡ true → replica.closed ≡ true

-- what was told to a master, against its log: it was placed there under that epoch, and who told closed told the whole
pub record IsTold (sent : List Message) (m : ServerId) (log : Log) (x : ServerId) (s e len : ℕ) (closed : Bool) : Type
    0 where
  pub opened : IsOpened log s
  pub within : len ≤ length (log_in log s)
  pub whole : closed ≡ true → (s < log.head) × (len ≡ length (log_in log s))
  pub placed : IsPlacedAt sent m s e x.index x.generation

pub record IsStored (sent : List Message) (hosts : ℕ → HostNode) (m : ServerId) (log : Log) (x : ServerId)
    (s e len : ℕ) (closed : Bool) : Type 0 where
  pub told : IsTold sent m log x s e len closed
  pub since : x.generation ≤ (hosts x.index).generation
  pub stands : x.generation ≡ (hosts x.index).generation →
      StillStands (held_at hosts x.index m) s e len closed ⊎ (is_freed s (held_at hosts x.index m) ≡ true)

-- a replica of a segment, or a row of an answer, at a host of this index under a generation: with its epoch, mark and
-- length
pub record IsCopy (sent : List Message) (m : ServerId) (log : Log) (index generation s e : ℕ) (closed : Bool)
    (len : ℕ) (digest : List ℕ) : Type 0 where
  pub opened : IsOpened log s
  -- each place below its length was sent
  pub made : (o : ℕ) → o < len → (entry : Entry) × (slice_get (log_in log s) o ≡ Some entry) × HasMade sent m s o entry
  pub within : len ≤ length (log_in log s)
  pub whole : closed ≡ true → (s < log.head) × (len ≡ length (log_in log s))
  -- its epoch came by a Place, an open one's by a proper one with no more entries
  pub placed : IsPlacedAt sent m s e index generation
  pub opened_at : closed ≡ false → IsOpenedAt sent m s e index generation len
  pub digest_is : digest ≡ (log.segments s).digest
  -- it is above all that a member of this host has told under its epoch
  pub above : (x : ServerId) (o : ℕ) → x.index ≡ index → IsMember sent m s e x → HasTold sent x m s e o → o < len
  pub closed_too : (x : ServerId) → x.index ≡ index → IsMember sent m s e x → HasToldClosed sent x m s e → closed ≡ true

abbrev pub IsRow : List Message → (ServerId → Master) → ServerId → ServerId → Row → Type 0
IsRow sent masters y m row =
    IsCopy sent m (masters m).log y.index y.generation row.seg row.epoch row.closed row.len row.digest

-- answered means fenced, as long as that server is its host's last
pub record IsAnswer (sent : List Message) (masters : ServerId → Master) (hosts : ℕ → HostNode) (c : Coordinator)
    (y : ServerId) (number : ℕ) (rows : List Row) : Type 0 where
  pub master : ServerId
  pub attempt : IsOf c.attempts number master
  pub since : y.generation ≤ (hosts y.index).generation
  pub fenced : y.generation ≡ (hosts y.index).generation → (held_at hosts y.index master).fenced ≡ true
  pub rows_are : (row : Row) → In row rows → IsRow sent masters y master row

-- What the coordinator may say

-- a plan is its attempt's decision
pub record IsPlan (c : Coordinator) (number : ℕ) (master : ServerId) (head : ℕ) (rows : List PlanRow) : Type 0 where
  pub attempt : Attempt
  pub numbered : IsNumbered c.attempts number attempt
  pub master_is : attempt.master ≡ master
  pub decision : Decision
  pub decided : attempt.decided ≡ Some decision
  pub plan_is : decision.plan ≡ record { head = head; rows = rows }

-- Each message that was sent

abbrev pub place_fine : List Message → (ServerId → Master) → Addr → Addr → ℕ → ℕ → List ℕ → List Entry → Bool → Type 0
place_fine sent masters (Server m) (Server x) s e digest entries closed =
    IsPlace sent m (masters m).log x s e digest entries closed
place_fine sent masters _ _ s e digest entries closed = ⊥

abbrev pub append_fine : (ServerId → Master) → Addr → ℕ → ℕ → List Entry → Type 0
append_fine masters (Server m) s offset entries = IsAppend (masters m).log s offset entries
append_fine masters _ s offset entries = ⊥

abbrev pub close_fine : (ServerId → Master) → Addr → ℕ → ℕ → Type 0
close_fine masters (Server m) s len = IsClose (masters m).log s len
close_fine masters _ s len = ⊥

abbrev pub write_ok_fine : List Message → (ServerId → Master) → Addr → ℕ → ℕ → ℕ → ℕ → ℕ → ℕ → Type 0
write_ok_fine sent masters (Server m) s o term table key version =
    IsWriteOk sent m (masters m).log s o term table key version
write_ok_fine sent masters _ s o term table key version = ⊥

abbrev pub stored_fine : List Message → (ServerId → Master) → (ℕ → HostNode) → Addr → Addr → ℕ → ℕ → ℕ → Bool → Type 0
stored_fine sent masters hosts (Server x) (Server m) s e len closed =
    IsStored sent hosts m (masters m).log x s e len closed
stored_fine sent masters hosts _ _ s e len closed = ⊥

abbrev pub answer_fine : List Message → (ServerId → Master) → (ℕ → HostNode) → Coordinator → Addr → ℕ → List Row →
    Type 0
answer_fine sent masters hosts c (Server y) number rows = IsAnswer sent masters hosts c y number rows
answer_fine sent masters hosts c _ number rows = ⊥

-- what is granted is not above the least pair
abbrev pub commit_ok_fine : Coordinator → Addr → Addr → ℕ → ℕ → Type 0
commit_ok_fine c AtCoordinator (Server m) s e = is_below (c.least m) (record { seg = s; epoch = e }) ≡ false
commit_ok_fine c _ _ s e = ⊥

abbrev pub body_fine : List Message → (ServerId → Master) → (ℕ → HostNode) → Coordinator → Addr → Addr → Body → Type 0
body_fine sent masters hosts c from to (Place s e digest entries closed) =
    place_fine sent masters from to s e digest entries closed
body_fine sent masters hosts c from to (Append s offset entries) = append_fine masters from s offset entries
body_fine sent masters hosts c from to (Close s len) = close_fine masters from s len
body_fine sent masters hosts c from to (WriteOk s o term table key version) =
    write_ok_fine sent masters from s o term table key version
body_fine sent masters hosts c from to (Stored s e len closed) = stored_fine sent masters hosts from to s e len closed
body_fine sent masters hosts c from to (Replicas number rows) = answer_fine sent masters hosts c from number rows
body_fine sent masters hosts c from to (CommitOk s e) = commit_ok_fine c from to s e
body_fine sent masters hosts c from to (Gather number master) = IsOf c.attempts number master
body_fine sent masters hosts c from to (PlanBody head number master rows parts) = IsPlan c number master head rows
body_fine sent masters hosts c from to (ServersOf version rows) = OnDifferentHosts (up_rows rows)
body_fine sent masters hosts c from to _ = Unit {0}

-- what holds of each message that was sent
abbrev pub Fine : List Message → (ServerId → Master) → (ℕ → HostNode) → Coordinator → Message → Type 0
Fine sent masters hosts c message = body_fine sent masters hosts c message.from message.to message.body

-- One host

-- each number is below all that follow
abbrev pub AllAbove : ℕ → List (ℕ × Replica) → Type 0
AllAbove n [] = Unit {0}
AllAbove n (one ∷ others) = (n < one.0) × AllAbove n others

-- the replicas are ascending by segment
abbrev pub Ascending : List (ℕ × Replica) → Type 0
Ascending [] = Unit {0}
Ascending (one ∷ others) = AllAbove one.0 others × Ascending others

-- a replica holds a beginning of its master's log
pub record GoodReplica (sent : List Message) (m : ServerId) (log : Log) (index generation s : ℕ) (replica : Replica) :
    Type 0 where
  pub begins : Begins replica.entries (log_in log s)
  pub copy : IsCopy sent m log index generation s replica.epoch replica.closed (length replica.entries) replica.digest

pub record GoodHeld (sent : List Message) (m : ServerId) (log : Log) (index generation : ℕ) (held : Held) : Type 0 where
  pub ascending : Ascending held.replicas
  pub each : (s : ℕ) (replica : Replica) → replica_of s held.replicas ≡ Some replica →
      GoodReplica sent m log index generation s replica

pub record GoodHost (sent : List Message) (masters : ServerId → Master) (i : ℕ) (host : HostNode) : Type 0 where
  pub index : host.index ≡ i
  pub own : host.backup.own ≡ server_of host
  -- where its master runs, it is the last view of its server
  pub runs : (master : Master) → host.master ≡ Some master → masters (server_of host) ≡ master
  -- a server that wasn't started yet has the view that it will start with
  pub unstarted : (g : ℕ) → host.generation < g →
      masters (record { index = i; generation = g }) ≡ new_master (record { index = i; generation = g }) host.setup
  pub held : (m : ServerId) → GoodHeld sent m (masters m).log i host.generation (host.backup.held m)

-- The coordinator

-- an attempt: its master has crashed, each answer that it keeps was sent, and its decision is picked from them
pub record GoodAttempt (sent : List Message) (c : Coordinator) (number : ℕ) (attempt : Attempt) : Type 0 where
  pub crashed : has_crashed c.servers attempt.master ≡ true
  pub answered : (y : ServerId) (rows : List Row) → In (y, rows) attempt.replies →
      In (to_coordinator y (Replicas number rows)) sent
  pub picked : (decision : Decision) → attempt.decided ≡ Some decision →
      pick (c.least attempt.master) attempt.replies ≡ Ok decision.plan

pub record GoodCoordinator (sent : List Message) (c : Coordinator) : Type 0 where
  pub attempts : (number : ℕ) (attempt : Attempt) → IsNumbered c.attempts number attempt →
      GoodAttempt sent c number attempt
  pub servers : OnDifferentHosts (up_rows c.servers.rows)
  -- a master's current attempt is there, and is for it
  pub current_numbered : (m : ServerId) → c.current m ≤ length c.attempts
  pub current_master : (m : ServerId) (attempt : Attempt) → IsNumbered c.attempts (c.current m) attempt →
      attempt.master ≡ m

-- All of it

pub record Good (sent : List Message) (masters : ServerId → Master) (hosts : ℕ → HostNode) (c : Coordinator) :
    Type 0 where
  pub messages : (message : Message) → In message sent → Fine sent masters hosts c message
  pub masters_are : (m : ServerId) → GoodMaster sent m (masters m)
  pub hosts_are : (i : ℕ) → GoodHost sent masters i (hosts i)
  pub coordinator : GoodCoordinator sent c
