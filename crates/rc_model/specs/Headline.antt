-- The headline, said of a list of messages in words that search nothing and make no list of results.
use Rattle.std.specs.Prelude.{◌≡◌, ◌⊎◌, ◌↔◌, ℕ, ◌<◌, IsTrue, List, [], ◌∷◌, Some, None}
use Rattle.rc_types.specs.declared.ids.ServerId.{ServerId}
use Rattle.rc_types.specs.declared.ids.Addr.TheVariants.{Server}
use Rattle.rc_types.specs.declared.entries.Entry.{Entry}
use Rattle.rc_types.specs.declared.rows.PlanRow.{PlanRow}
use Rattle.rc_types.specs.declared.rows.Part.{Part}
use Rattle.rc_types.specs.declared.messages.Message.{Message}
use Rattle.rc_types.specs.declared.messages.Body.TheVariants.{WriteOk, Plan}
use Rattle.rc_model.specs.Made.{entry_at}
use Rattle.rc_model.specs.Recovered.{Ack, Accepted}
use Rattle.rc_model.specs.Owners.{Granted, IsBefore, is_before, IsEarlier}
use Rattle.rc_model.specs.Breach.{breach}

-- x is in the list
abbrev pub In : {X : Type 0} → X → List X → Type 0
In x [] = ⊥
In x (y ∷ ys) = (x ≡ y) ⊎ In x ys

-- the master has sent the entry for the place, by a Place or an Append
pub record HasMade (sent : List Message) (m : ServerId) (s o : ℕ) (entry : Entry) : Type 0 where
  pub message : Message
  pub among : In message sent
  pub from : message.from ≡ Server m
  pub holds : entry_at message.body s o ≡ Some entry

-- the write was acknowledged, by anyone
pub record WasAcknowledged (sent : List Message) (ack : Ack) : Type 0 where
  pub message : Message
  pub among : In message sent
  pub says : message.body ≡ WriteOk ack.seg ack.offset ack.term ack.table ack.key ack.version

-- the write was acknowledged by this master
pub record HasAcknowledged (sent : List Message) (m : ServerId) (ack : Ack) : Type 0 where
  pub message : Message
  pub among : In message sent
  pub from : message.from ≡ Server m
  pub says : message.body ≡ WriteOk ack.seg ack.offset ack.term ack.table ack.key ack.version

-- the recovery was accepted
pub record WasAccepted (sent : List Message) (plan : Accepted) : Type 0 where
  pub message : Message
  pub among : In message sent
  pub head : ℕ
  pub parts : List Part
  pub says : message.body ≡ Plan head plan.attempt plan.master plan.rows parts

-- a row holds the place
pub record IsHeld (rows : List PlanRow) (s o : ℕ) : Type 0 where
  pub row : PlanRow
  pub among : In row rows
  pub seg : row.seg ≡ s
  pub below : o < row.len

-- the entry is of the acknowledged term, table and key
pub record IsOfAck (ack : Ack) (entry : Entry) : Type 0 where
  pub term : entry.term ≡ ack.term
  pub table : entry.table ≡ ack.table
  pub key : entry.key ≡ ack.key

-- all that the master has sent for the acknowledged place is the acknowledged entry
abbrev pub OnlyIt : List Message → ServerId → Ack → Type 0
OnlyIt sent m ack =
    (entry : Entry) → HasMade sent m ack.seg ack.offset entry → IsOfAck ack entry × (entry.version ≡ ack.version)

-- a greater version of the acknowledged key, under its term, is in the recovered log
pub record IsSuperseded (sent : List Message) (plan : Accepted) (ack : Ack) : Type 0 where
  pub seg : ℕ
  pub offset : ℕ
  pub entry : Entry
  pub held : IsHeld plan.rows seg offset
  pub made : HasMade sent plan.master seg offset entry
  pub of_ack : IsOfAck ack entry
  pub greater : ack.version < entry.version

-- the acknowledged write is in the recovered log at its place, or a greater version of its key under its term is
pub record IsThere (sent : List Message) (plan : Accepted) (ack : Ack) : Type 0 where
  pub held : IsHeld plan.rows ack.seg ack.offset ⊎ IsSuperseded sent plan ack
  pub only : OnlyIt sent plan.master ack

-- the acknowledged write itself is in the recovered log at its place
pub record IsThereItself (sent : List Message) (plan : Accepted) (ack : Ack) : Type 0 where
  pub held : IsHeld plan.rows ack.seg ack.offset
  pub only : OnlyIt sent plan.master ack

-- the master has sent one entry for the place, once or more often, and no other
pub record IsOneEntry (sent : List Message) (m : ServerId) (s o : ℕ) : Type 0 where
  pub entry : Entry
  pub made : HasMade sent m s o entry
  pub only : (other : Entry) → HasMade sent m s o other → other ≡ entry

-- where the earlier write was acknowledged under an earlier ownership of the key, the later one has a greater version
abbrev pub RisesOver : List Message → Ack → Ack → Type 0
RisesOver sent later earlier = earlier.table ≡ later.table → earlier.key ≡ later.key →
    IsEarlier sent later.table later.key earlier.term later.term → earlier.version < later.version

-- nothing acknowledged is missing
abbrev pub NothingIsMissing : List Message → Type 0
NothingIsMissing sent =
    (plan : Accepted) → WasAccepted sent plan → (ack : Ack) → HasAcknowledged sent plan.master ack →
    IsThere sent plan ack

-- nor was any of it dropped because a greater version is there
abbrev pub NothingIsDropped : List Message → Type 0
NothingIsDropped sent =
    (plan : Accepted) → WasAccepted sent plan → (ack : Ack) → HasAcknowledged sent plan.master ack →
    IsThereItself sent plan ack

-- nothing recovered is invented
abbrev pub NothingIsInvented : List Message → Type 0
NothingIsInvented sent =
    (plan : Accepted) → WasAccepted sent plan → (s o : ℕ) → IsHeld plan.rows s o → IsOneEntry sent plan.master s o

-- versions rise over owners
abbrev pub VersionsRise : List Message → Type 0
VersionsRise sent =
    (later : Ack) → WasAcknowledged sent later → (earlier : Ack) → WasAcknowledged sent earlier →
    RisesOver sent later earlier

pub record Headline (sent : List Message) : Type 0 where
  pub there : NothingIsMissing sent
  pub one_entry : NothingIsInvented sent
  pub rises : VersionsRise sent

-- A list of messages holds no breach exactly where the headline is true of it
abbrev pub NoBreachIsTheHeadline : Type 0
NoBreachIsTheHeadline =
    (sent : List Message) → (breach sent ≡ None) ↔ Headline sent

-- Where nothing was dropped, nothing is missing
abbrev pub NothingDroppedIsNothingMissing : Type 0
NothingDroppedIsNothingMissing = (sent : List Message) → NothingIsDropped sent → NothingIsMissing sent

-- The test of which term is the earlier one ends with what the relation says, for every list of grants
abbrev pub TheTestSaysWhatIsBefore : Type 0
TheTestSaysWhatIsBefore =
    (grants : List Granted) (earlier later : ℕ) →
    IsTrue (is_before grants earlier later) ↔ IsBefore grants earlier later
