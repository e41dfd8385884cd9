-- Whether a run keeps to what a client may rely on: a test for each of the three sentences, on its messages alone.
use Rattle.std.specs.Prelude.{ℕ, Bool, true, false, not, nat_eq, nat_lt, nat_le, ◌&&◌, ◌||◌, if◌then◌else◌, List, []}
use Rattle.std.specs.Prelude.{◌∷◌, ◌++◌, map, Option}
use Rattle.std.specs.List.{list_any, list_all}
use Rattle.rc_types.specs.declared.ids.ServerId.{ServerId}
use Rattle.rc_types.specs.declared.ids.Addr.{Addr}
use Rattle.rc_types.specs.declared.ids.Addr.TheVariants.{Server, Outside}
use Rattle.rc_types.specs.declared.entries.Entry.{Entry}
use Rattle.rc_types.specs.declared.events.Setup.{Setup}
use Rattle.rc_types.specs.declared.messages.Message.{Message}
use Rattle.rc_types.specs.declared.messages.Body.{Body}
use Rattle.rc_types.specs.declared.messages.Body.TheVariants.{Write, ReadOk}
use Rattle.rc_model.specs.Ids.{same_id, is_server}
use Rattle.rc_model.specs.Made.{made}
use Rattle.rc_model.specs.Recovered.{Ack, ack_in}
use Rattle.rc_model.specs.Owners.{Granted, granted, covers, is_earlier}
use Rattle.rc_model.specs.Breach.{same_value}
use Rattle.rc_model.specs.World.{World, opening}
use Rattle.rc_worked.specs.Settling.{Line, runs}

-- What was acknowledged, asked for and granted

abbrev pub acks_by : Addr → Body → List (ServerId × Ack)
acks_by (Server m) body = map (λ ack. (m, ack)) (ack_in body)
acks_by _ body = []

-- the acknowledged writes, each with the master that has acknowledged it, in order
abbrev pub acks_of : List Message → List (ServerId × Ack)
acks_of [] = []
acks_of (message ∷ sent) = acks_by message.from message.body ++ acks_of sent

abbrev pub is_of_key : ℕ → ℕ → Ack → Bool
is_of_key table key ack = nat_eq ack.table table && nat_eq ack.key key

-- the values that a message asks a master to write at a key
abbrev pub asked_by : ServerId → ℕ → ℕ → Addr → Addr → Body → List (Option (List ℕ))
asked_by m table key Outside to (Write to_table at_key value) =
    if is_server m to && (nat_eq to_table table && nat_eq at_key key) then value ∷ [] else []
asked_by m table key _ _ _ = []

abbrev pub asked : List Message → ServerId → ℕ → ℕ → List (Option (List ℕ))
asked [] m table key = []
asked (message ∷ sent) m table key =
    asked_by m table key message.from message.to message.body ++ asked sent m table key

-- the grant is to this master, under this term, and holds the point
abbrev pub is_to : ServerId → ℕ → ℕ → ℕ → Granted → Bool
is_to m term table key grant = is_server m grant.owner && (nat_eq grant.term term && covers table key grant)

abbrev pub was_granted : List Message → ServerId → ℕ → ℕ → ℕ → Bool
was_granted sent m term table key = list_any (is_to m term table key) (granted sent)

-- all that a master has sent for a place has this value
abbrev pub has_value : List Message → ServerId → Ack → Option (List ℕ) → Bool
has_value sent m ack value = list_all (λ entry. same_value entry.value value) (made sent m ack.seg ack.offset)

-- One version, one write

-- the second is no acknowledgement of the first one's version, or the same as the first
abbrev pub is_same_write : ServerId × Ack → ServerId × Ack → Bool
is_same_write (m, ack) (x, other) =
    not (is_of_key ack.table ack.key other && nat_eq other.version ack.version)
    || (same_id x m && (nat_eq other.seg ack.seg && (nat_eq other.offset ack.offset && nat_eq other.term ack.term)))

abbrev pub is_one_write : List Message → ServerId × Ack → Bool
is_one_write sent (m, ack) =
    (was_granted sent m ack.term ack.table ack.key && nat_lt 0 ack.version)
    && (list_all (is_same_write (m, ack)) (acks_of sent)
    && list_any (has_value sent m ack) (asked sent m ack.table ack.key))

abbrev pub keeps_versions : List Message → Bool
keeps_versions sent = list_all (is_one_write sent) (acks_of sent)

-- Writes follow time

-- a write of the key of the first one, with this entry, was asked for early, or has a greater version
abbrev pub is_in_time : List Message → ServerId × Ack → ServerId × Ack → Entry → Bool
is_in_time early (m, first) (x, later) entry =
    not (is_of_key first.table first.key later)
    || (list_any (same_value entry.value) (asked early x later.table later.key) || nat_lt first.version later.version)

abbrev pub is_after : List Message → List Message → ServerId × Ack → ServerId × Ack → Bool
is_after early sent first (x, later) =
    list_all (is_in_time early first (x, later)) (made sent x later.seg later.offset)

-- of the messages sent early, and of all
abbrev pub keeps_time : List Message → List Message → Bool
keeps_time early sent = list_all (λ first. list_all (is_after early sent first) (acks_of sent)) (acks_of early)

-- A read misses only what was acknowledged under a later term

-- the write is of another key, or of no greater version than the answer
abbrev pub is_no_more : ℕ → ℕ → ℕ → Ack → Bool
is_no_more table key version ack = not (is_of_key table key ack) || nat_le ack.version version

-- nothing of an earlier term is missed, then or since
abbrev pub sees_earlier : List Message → ℕ → ℕ → ℕ → ℕ → Bool
sees_earlier sent term table key version =
    list_all (λ one. not (is_earlier sent table key one.1.term term) || is_no_more table key version one.1)
    (acks_of sent)

-- nor anything that the master had acknowledged under this term
abbrev pub sees_own : List Message → ServerId → ℕ → ℕ → ℕ → ℕ → Bool
sees_own before m term table key version = list_all (λ one.
    not (same_id m one.0 && nat_eq one.1.term term) || is_no_more table key version one.1) (acks_of before)

-- nor anything that anyone had acknowledged, but under a later term
abbrev pub sees_by_then : List Message → ℕ → ℕ → ℕ → ℕ → Bool
sees_by_then before term table key version =
    list_all (λ one. is_earlier before table key term one.1.term || is_no_more table key version one.1)
    (acks_of before)

-- the value is that of the write of this version
abbrev pub sees_value : List Message → ℕ → ℕ → ℕ → Option (List ℕ) → Bool
sees_value sent table key version value = list_all (λ one.
    not (is_of_key table key one.1 && nat_eq one.1.version version) || has_value sent one.0 one.1 value) (acks_of sent)

-- the answer is right under the term
abbrev pub sees_under : List Message → List Message → ServerId → ℕ → ℕ → ℕ → Option (List ℕ) → ℕ → Bool
sees_under sent before m table key version value term =
    was_granted before m term table key
    && (sees_earlier sent term table key version && (sees_own before m term table key version
    && (sees_by_then before term table key version && sees_value sent table key version value)))

-- the answer, given when those before had been sent, is right under a term that was granted by then
abbrev pub sees_all : List Message → List Message → Addr → Body → Bool
sees_all sent before (Server m) (ReadOk table key version value) =
    list_any (λ grant. sees_under sent before m table key version value grant.term) (granted before)
sees_all sent before _ _ = true

abbrev pub keeps_reads_from : List Message → List Message → List Message → Bool
keeps_reads_from sent before [] = true
keeps_reads_from sent before (message ∷ rest) =
    sees_all sent before message.from message.body && keeps_reads_from sent (before ++ message ∷ []) rest

abbrev pub keeps_reads : List Message → Bool
keeps_reads sent = keeps_reads_from sent [] sent

-- A run, and which sentences it breaks

-- at one moment of it is asked what had been acknowledged, and what had been asked for
pub record Run : Type 0 where
  pub setup : Setup
  pub early : List Line
  pub more : List Line

abbrev pub early_world : Run → World
early_world run = runs (opening run.setup) run.early

abbrev pub whole_world : Run → World
whole_world run = runs (early_world run) run.more

pub data Sentence : Type 0 where
  OneVersionOneWrite : Sentence
  WritesInTime : Sentence
  ReadsSeeWrites : Sentence

abbrev pub unless : Bool → Sentence → List Sentence
unless true sentence = []
unless false sentence = sentence ∷ []

abbrev pub broken : Run → List Sentence
broken run =
    unless (keeps_versions (whole_world run).sent) OneVersionOneWrite
    ++ unless (keeps_time (early_world run).sent (whole_world run).sent) WritesInTime
    ++ unless (keeps_reads (whole_world run).sent) ReadsSeeWrites
