-- The coordinator: the server list, the tablets, the least pairs and the recoveries. Here is its state, and how a
-- server comes and goes.
use Rattle.std.specs.Prelude.{ℕ, ◌+◌, ◌-◌, Bool, true, false, nat_eq, nat_lt, ◌&&◌, if◌then◌else◌, List, [], ◌∷◌}
use Rattle.std.specs.Prelude.{◌++◌, length, find, Option, Some, None, slice_get, slice_set}
use Rattle.rc_types.specs.declared.ids.ServerId.{ServerId}
use Rattle.rc_types.specs.declared.ids.Pair.{Pair}
use Rattle.rc_types.specs.declared.rows.Tablet.{Tablet}
use Rattle.rc_types.specs.declared.kept.Grant.{Grant}
use Rattle.rc_types.specs.declared.faults.Fault.{Fault}
use Rattle.rc_types.specs.declared.faults.Fault.TheVariants.{Deposed, StaleGeneration}
use Rattle.rc_types.specs.declared.messages.Message.{Message}
use Rattle.rc_types.specs.declared.messages.Body.{Body}
use Rattle.rc_types.specs.declared.messages.Body.TheVariants.{Refused, Gather, CommitOk, List as ServersOf}
use Rattle.rc_types.specs.Codes.{code_of}
use Rattle.rc_model.specs.Tables.{put_id}
use Rattle.rc_model.specs.Messages.{from_coordinator, to_each}
use Rattle.rc_model.specs.ServerList.{ServerList, no_servers, is_up, has_crashed, is_newest, enlisted, crashed, up}
use Rattle.rc_model.specs.Tablets.{tablets_of, marked_crashed}
use Rattle.rc_model.specs.Pick.{greater_pair}
use Rattle.rc_model.specs.Attempts.{Attempt, new_attempt}

pub record Coordinator : Type 0 where
  pub servers : ServerList
  -- who has said that it has a head
  pub ready : ServerId → Bool
  pub tablets : List Tablet
  -- the least pair of each master
  pub least : ServerId → Pair
  -- all attempts so far, where that of number k stands at place k - 1; of each master the number of its current one,
  -- or 0
  pub attempts : List Attempt
  pub current : ServerId → ℕ
  -- all grants so far
  pub grants : List Grant
  pub last_term : ℕ

abbrev pub new_coordinator : Coordinator
new_coordinator = record {
  servers = no_servers;
  ready = λ _. false;
  tablets = [];
  least = λ _. record { seg = 0; epoch = 0 };
  attempts = [];
  current = λ _. 0;
  grants = [];
  last_term = 0;
}

-- a refusal to a server
abbrev pub refuses_server : ServerId → Fault → Message
refuses_server id fault = from_coordinator id (Refused (code_of fault))

-- the list, whole
abbrev pub list_body : ServerList → Body
list_body servers = ServersOf servers.version servers.rows

-- it goes to every id that is up, in order
abbrev pub spreads_list : ServerList → List Message
spreads_list servers = to_each (up servers) (list_body servers)

-- Attempts

-- an attempt for a master has a fresh number, replaces the earlier one, and asks every id that is up
abbrev pub begins_attempt : Coordinator → ServerId → Coordinator × List Message
begins_attempt c master =
    let number = length c.attempts + 1 in
    let asked = to_each (up c.servers) (Gather number master) in
    (record c { attempts = c.attempts ++ new_attempt master ∷ []; current = put_id c.current master number }, asked)

-- the master still has tablets
abbrev pub has_tablets : Coordinator → ServerId → Bool
has_tablets c master = nat_lt 0 (length (tablets_of master c.tablets))

-- an attempt begins for a master that has crashed and still has tablets
abbrev pub begins_if_needed : Coordinator → ServerId → Coordinator × List Message
begins_if_needed c master =
    if has_crashed c.servers master && has_tablets c master then begins_attempt c master else (c, [])

-- the list is spread, and then the attempt begins, if one does
abbrev pub spreads_then_begins : Coordinator → ServerId → Coordinator × List Message
spreads_then_begins c master = let after = begins_if_needed c master in (after.0, spreads_list c.servers ++ after.1)

-- the attempt of this number, and the attempts with it changed
abbrev pub attempt_at : Coordinator → ℕ → Option Attempt
attempt_at c number = if nat_eq number 0 then None else slice_get c.attempts (number - 1)

abbrev pub with_attempt : Coordinator → ℕ → Attempt → Coordinator
with_attempt c number attempt = record c { attempts = slice_set c.attempts (number - 1) attempt }

-- Coming

-- the id of this host that is up
abbrev pub up_of_host : ℕ → ServerList → Option ServerId
up_of_host index servers = find (λ id. nat_eq id.index index) (up servers)

-- the list is spread; where an older generation was up, its tablets are marked, and its recovery begins
abbrev pub follows_generation : Coordinator → Option ServerId → Coordinator × List Message
follows_generation c None = (c, spreads_list c.servers)
follows_generation c (Some older) = spreads_then_begins (record c { tablets = marked_crashed older c.tablets }) older

-- an id that is up gets the list; one that isn't its host's newest is refused; else it is enlisted
abbrev pub enlists : Coordinator → ServerId → Coordinator × List Message
enlists c id =
    if is_up c.servers id then (c, from_coordinator id (list_body c.servers) ∷ [])
    else (if is_newest id c.servers.rows
    then follows_generation (record c { servers = enlisted id c.servers }) (up_of_host id.index c.servers)
    else (c, refuses_server id StaleGeneration ∷ []))

-- this is done where the sender is up; else it is refused
abbrev pub if_up : Coordinator → ServerId → Coordinator × List Message → Coordinator × List Message
if_up c id done = if is_up c.servers id then done else (c, refuses_server id Deposed ∷ [])

-- a Ready is noted
abbrev pub notes_ready : Coordinator → ServerId → Coordinator × List Message
notes_ready c id = if_up c id (record c { ready = put_id c.ready id true }, [])

-- Going

-- the id crashes, and its tablets are marked
abbrev pub with_crashed : Coordinator → ServerId → Coordinator
with_crashed c id = record c { servers = crashed id c.servers; tablets = marked_crashed id c.tablets }

-- a suspicion: an id that is up has crashed from now on, and all are told; then an attempt begins where it still has
-- tablets
abbrev pub suspects : Coordinator → ServerId → Coordinator × List Message
suspects c id = if is_up c.servers id then spreads_then_begins (with_crashed c id) id else begins_if_needed c id

-- Commits

-- a Commit: the sender's least pair becomes the greater of the two, and the commit's own pair is answered
abbrev pub commits_pair : Coordinator → ServerId → Pair → Coordinator × List Message
commits_pair c id pair = if_up c id (
  record c { least = put_id c.least id (greater_pair (c.least id) pair) },
  from_coordinator id (CommitOk pair.seg pair.epoch) ∷ [],
)
