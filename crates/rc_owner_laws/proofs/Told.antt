-- A member that has told its replica closed has told all of the segment; and what is shut is closed on all its members.
use Rattle.std.proofs.Common.{◌≡◌, ◌≢◌, ◌⊎◌, ℕ, ◌+◌, ◌-◌, ◌<◌, ◌≤◌, Bool, true, false, nat_eq, nat_lt, List}
use Rattle.std.proofs.Common.{[], ◌∷◌, map, length, Option, Some, None, Result, Ok, Err, refl, sym, ap, ◌∙◌, subst, inl, inr, arith}
use Rattle.std.proofs.lemmas.Bool.{and_parts, ltb-true}
use Rattle.std.proofs.lemmas.Bool.Decides.{nat_tests}
use Rattle.rc_model.specs.Model.{ServerId, Entry, Member, Fault, EpochsExhausted, LAST_EPOCH, ServerList, has_crashed, Config, new_member}
use Rattle.rc_model.specs.Model.{choose, told_if_heard, noted, committed_at, told_closed}
use Rattle.rc_model.specs.Model.{told_len, lost_if_crashed, with_lost, replaced, changed, changes_to, lose}
use Rattle.rc_model.specs.Model.{refills_with, refill, Segment, new_segment, with_entry, under_new_epoch, is_all_closed, Log, head_of}
use Rattle.rc_model.specs.Model.{old_head_of, has_old_head, with_segment, has_segment, opens_head, appends, with_config, stored}
use Rattle.rc_model.specs.Model.{commit_noted, opens_change, refills, loses, shuts, with_freed, In}
use Rattle.rc_step_laws.proofs.MasterWorlds.{put-cases}
use Rattle.rc_model.proofs.Tests.{true_false, either}
use Rattle.rc_model.proofs.Tables.{put_each}

pub record Told (log : Log) : Type 0 where
  pub closed : (s : ℕ) (member : Member) → In member (log.segments s).config.members → told_closed member.told ≡ true →
      (s < log.head) × (length (log.segments s).entries ≤ told_len member.told)
  pub within : (s : ℕ) → (log.segments s).shut ≡ true → s < log.head
  pub members : (s : ℕ) → 0 < s → s ≤ log.head → (log.segments s).config.members ≡ [] → ⊥
  pub factor : log.factor ≢ 0

-- One segment

-- the segment is put in, of which all this holds
record IsFine (log : Log) (seg : ℕ) (segment : Segment) : Type 0 where
  closed : (member : Member) → In member segment.config.members → told_closed member.told ≡ true →
      (seg < log.head) × (length segment.entries ≤ told_len member.told)
  within : segment.shut ≡ true → seg < log.head
  members : 0 < seg → seg ≤ log.head → segment.config.members ≡ [] → ⊥

told-put : {log : Log} {seg : ℕ} {segment : Segment} → Told log → IsFine log seg segment → Told (with_segment seg segment log)
told-put {log} {seg} {segment} told fine = record {
  closed = put_each (λ k (one : Segment). (member : Member) → In member one.config.members →
      told_closed member.told ≡ true → (k < log.head) × (length one.entries ≤ told_len member.told))
      log.segments seg segment fine.closed told.closed;
  within = put_each (λ k (one : Segment). one.shut ≡ true → k < log.head) log.segments seg segment fine.within told.within;
  members = put_each (λ k (one : Segment). 0 < k → k ≤ log.head → one.config.members ≡ [] → ⊥) log.segments seg segment
      fine.members told.members;
  factor = told.factor;
}

-- each that has told closed was one that had, and told as much
abbrev FromMembers : List Member → List Member → Type 0
FromMembers old new = (member : Member) → In member new → told_closed member.told ≡ true →
    (was : Member) × (In was old) × (was.told ≡ member.told)

-- members are there where some were
abbrev StaySome : List Member → List Member → Type 0
StaySome old new = (old ≡ [] → ⊥) → new ≡ [] → ⊥

-- another config, of which nobody new has told closed
told-config : {log : Log} (seg : ℕ) (segment : Segment) → segment.entries ≡ (log.segments seg).entries →
    (segment.shut ≡ true → (log.segments seg).shut ≡ true) →
    FromMembers (log.segments seg).config.members segment.config.members →
    StaySome (log.segments seg).config.members segment.config.members → Told log →
    Told (with_segment seg segment log)
told-config {log} seg segment entries shut from some told = told-put told (record {
  closed = λ member at e. closed member (from member at e) e;
  within = λ e. told.within seg (shut e);
  members = λ above upto. some (told.members seg above upto);
})
  where
    closed : (member : Member) → (was : Member) × (In was (log.segments seg).config.members) ×
        (was.told ≡ member.told) → told_closed member.told ≡ true →
        (seg < log.head) × (length segment.entries ≤ told_len member.told)
    closed member (was, at, same) e =
        let old : (seg < log.head) × (length (log.segments seg).entries ≤ told_len was.told) =
        told.closed seg was at (ap told_closed same ∙ e) in (
          old.0,
          subst (λ (list : List (Entry × Bool)). length list ≤ told_len member.told) (sym entries)
              (subst (λ t. length (log.segments seg).entries ≤ told_len t) same old.1),
        )

from-same : (members : List Member) → FromMembers members members
from-same members member at e = (member, at, refl)

some-same : {members : List Member} → StaySome members members
some-same some none = some none

told-alike : {log : Log} (seg : ℕ) (segment : Segment) → segment.entries ≡ (log.segments seg).entries →
    (segment.shut ≡ true → (log.segments seg).shut ≡ true) → segment.config ≡ (log.segments seg).config → Told log →
    Told (with_segment seg segment log)
told-alike {log} seg segment entries shut config told = told-config seg segment entries shut
    (subst (λ (one : Config). FromMembers (log.segments seg).config.members one.members) (sym config)
    (from-same (log.segments seg).config.members))
    (subst (λ (one : Config). StaySome (log.segments seg).config.members one.members) (sym config) some-same) told

-- Members

from-map : (f : Member → Member) → ((member : Member) → (f member).told ≡ member.told) → (members : List Member) →
    FromMembers members (map f members)
from-map f same [] member at e = absurd at
from-map f same (first ∷ members) member (inl is) e = (first, inl refl, sym (same first) ∙ sym (ap (λ (one : Member). one.told) is))
from-map f same (first ∷ members) member (inr rest) e = further (from-map f same members member rest e)
  where
    further : (was : Member) × (In was members) × (was.told ≡ member.told) →
        (was : Member) × ((was ≡ first) ⊎ In was members) × (was.told ≡ member.told)
    further (was, at, is) = (was, inr at, is)

some-map : (f : Member → Member) (members : List Member) → StaySome members (map f members)
some-map f [] some none = some refl
some-map f (first ∷ members) some none = cc

lost-told : (servers : ServerList) (member : Member) → (lost_if_crashed servers member).told ≡ member.told
lost-told servers member = either (λ (one : Member). one.told ≡ member.told) (has_crashed servers member.id)
    (record member { lost = true }) member (λ _. refl) (λ _. refl)

none-told : {P : Type 0} → told_closed None ≡ true → P
none-told e = true_false (sym e)

-- new ones have told nothing
from-new : (old : List Member) (ids : List ServerId) → FromMembers old (map new_member ids)
from-new old [] member at e = absurd at
from-new old (id ∷ ids) member (inl is) e = none-told (sym (ap (λ (one : Member). told_closed one.told) is) ∙ e)
from-new old (id ∷ ids) member (inr rest) e = from-new old ids member rest e

from-reset : (old members : List Member) → FromMembers old (map (λ member. new_member member.id) members)
from-reset old [] member at e = absurd at
from-reset old (first ∷ members) member (inl is) e = none-told (sym (ap (λ (one : Member). told_closed one.told) is) ∙ e)
from-reset old (first ∷ members) member (inr rest) e = from-reset old members member rest e

from-replaced : (members : List Member) (ids : List ServerId) → FromMembers members (replaced members ids)
from-replaced [] ids member at e = absurd at
from-replaced (first ∷ members) [] member at e = (member, at, refl)
from-replaced (first ∷ members) (id ∷ ids) member at e =
    either (λ (now : List Member). In member now → (was : Member) × ((was ≡ first) ⊎ In was members) ×
    (was.told ≡ member.told)) first.lost (new_member id ∷ replaced members ids) (first ∷ replaced members (id ∷ ids))
    (λ _ there. fresh (λ rest. from-replaced members ids member rest e) there)
    (λ _ there. kept (λ rest. from-replaced members (id ∷ ids) member rest e) there) at
  where
    further : (was : Member) × (In was members) × (was.told ≡ member.told) →
        (was : Member) × ((was ≡ first) ⊎ In was members) × (was.told ≡ member.told)
    further (was, there, is) = (was, inr there, is)

    fresh : (In member (replaced members ids) → (was : Member) × (In was members) × (was.told ≡ member.told)) →
        (member ≡ new_member id) ⊎ In member (replaced members ids) →
        (was : Member) × ((was ≡ first) ⊎ In was members) × (was.told ≡ member.told)
    fresh rec (inl is) = none-told (sym (ap (λ (one : Member). told_closed one.told) is) ∙ e)
    fresh rec (inr rest) = further (rec rest)

    kept : (In member (replaced members (id ∷ ids)) → (was : Member) × (In was members) × (was.told ≡ member.told)) →
        (member ≡ first) ⊎ In member (replaced members (id ∷ ids)) →
        (was : Member) × ((was ≡ first) ⊎ In was members) × (was.told ≡ member.told)
    kept rec (inl is) = (first, inl refl, sym (ap (λ (one : Member). one.told) is))
    kept rec (inr rest) = further (rec rest)

some-replaced : (members : List Member) (ids : List ServerId) → StaySome members (replaced members ids)
some-replaced [] ids some none = some refl
some-replaced (first ∷ members) [] some none = cc
some-replaced (first ∷ members) (id ∷ ids) some none = search arith

from-trans : (a b c : List Member) → FromMembers a b → FromMembers b c → FromMembers a c
from-trans a b c p q member at e = search arith

-- Inputs: what they keep, and they shut nothing

pub record InputOk (old new : Log) : Type 0 where
  pub keeps : Told old → Told new
  pub shut : (s : ℕ) → (new.segments s).shut ≡ true → (old.segments s).shut ≡ true

pub input-refl : (log : Log) → InputOk log log
input-refl log = record { keeps = λ told. told; shut = λ s e. e }

pub input-trans : (a b c : Log) → InputOk a b → InputOk b c → InputOk a c
input-trans a b c p q = record { keeps = λ told. q.keeps (p.keeps told); shut = λ s e. p.shut s (q.shut s e) }

input-put : {log : Log} (seg : ℕ) (segment : Segment) → segment.shut ≡ (log.segments seg).shut →
    (Told log → Told (with_segment seg segment log)) → InputOk log (with_segment seg segment log)
input-put {log} seg segment same keeps = search (arith, put_each)

input-members : {log : Log} (seg : ℕ) (segment : Segment) → segment.shut ≡ (log.segments seg).shut →
    segment.entries ≡ (log.segments seg).entries →
    FromMembers (log.segments seg).config.members segment.config.members →
    StaySome (log.segments seg).config.members segment.config.members → InputOk log (with_segment seg segment log)
input-members seg segment shut entries from some =
    input-put seg segment shut (told-config seg segment entries (λ e. sym shut ∙ e) from some)

pub input-commit_noted : (seg epoch : ℕ) {log : Log} → InputOk log (commit_noted seg epoch log)
input-commit_noted seg epoch {log} =
    either (InputOk log) (has_segment log seg) (with_config seg (committed_at epoch (log.segments seg).config) log) log
    (λ _. either (λ (config : Config). InputOk log (with_config seg config log))
    (nat_eq epoch (log.segments seg).config.epoch) (record (log.segments seg).config { committed = true })
    (log.segments seg).config (λ _. input-members seg
    (record (log.segments seg) { config = record (log.segments seg).config { committed = true } }) refl refl
    (from-same (log.segments seg).config.members) some-same)
    (λ _. input-members seg (record (log.segments seg) { config = (log.segments seg).config }) refl refl
    (from-same (log.segments seg).config.members) some-same)) (λ _. input-refl log)

-- what was told closed is all of a segment below the head
abbrev pub IsWholeTold : Log → ℕ → ℕ → Bool → Type 0
IsWholeTold log seg len closed = closed ≡ true → (seg < log.head) × (length (log.segments seg).entries ≤ len)

pub input-stored : {seg : ℕ} (from : ServerId) (epoch : ℕ) {len : ℕ} {closed : Bool} {log : Log} →
    IsWholeTold log seg len closed → InputOk log (stored seg from epoch len closed log)
input-stored {seg} from epoch {len} {closed} {log} whole =
    either (InputOk log) (has_segment log seg) (with_config seg (noted from epoch len closed (log.segments seg).config) log) log
    (λ _. either (λ (config : Config). InputOk log (with_config seg config log)) (nat_eq epoch (log.segments seg).config.epoch)
    (record (log.segments seg).config {
      members = map (told_if_heard from len closed) (log.segments seg).config.members;
    }) (log.segments seg).config
    (λ _. input-put seg (record (log.segments seg) {
      config = record (log.segments seg).config
          { members = map (told_if_heard from len closed) (log.segments seg).config.members };
    }) refl heard) (λ _. input-members seg (record (log.segments seg) { config = (log.segments seg).config }) refl refl
    (from-same (log.segments seg).config.members) some-same)) (λ _. input-refl log)
  where
    one : (member : Member) →
        (told_closed member.told ≡ true → (seg < log.head) × (length (log.segments seg).entries ≤ told_len member.told))
        →
        told_closed (told_if_heard from len closed member).told ≡ true →
        (seg < log.head) × (length (log.segments seg).entries ≤ told_len (told_if_heard from len closed member).told)
    one member was = search arith

    each : (members : List Member) → ((member : Member) → In member members → told_closed member.told ≡ true →
        (seg < log.head) × (length (log.segments seg).entries ≤ told_len member.told)) →
        (member : Member) → In member (map (told_if_heard from len closed) members) → told_closed member.told ≡ true →
        (seg < log.head) × (length (log.segments seg).entries ≤ told_len member.told)
    each [] was member at = absurd at
    each (first ∷ members) was member (inl is) = search (arith, one)
    each (first ∷ members) was member (inr rest) = each members (λ some at. was some (inr at)) member rest

    heard : Told log → Told (with_segment seg
        (record (log.segments seg) {
          config = record (log.segments seg).config
              { members = map (told_if_heard from len closed) (log.segments seg).config.members };
        }) log)
    heard told = told-put told (record {
      closed = each (log.segments seg).config.members (told.closed seg);
      within = told.within seg;
      members = λ above upto. some-map (told_if_heard from len closed) (log.segments seg).config.members (told.members seg above upto);
    })

-- Lost members

input-change : (seg : ℕ) {log : Log} (answer : Config × Result Bool Fault) →
    FromMembers (log.segments seg).config.members answer.0.members →
    StaySome (log.segments seg).config.members answer.0.members → InputOk log (opens_change seg log answer).0
input-change seg {log} (config, Ok true) from some = input-members seg (under_new_epoch config (log.segments seg)) refl refl from some
input-change seg {log} (config, Ok false) from some =
    input-members seg (record (log.segments seg) { config = config }) refl refl from some
input-change seg {log} (config, Err fault) from some =
    input-members seg (record (log.segments seg) { config = config }) refl refl from some

abbrev FromConfig : Config → Config → Type 0
FromConfig old new = FromMembers old.members new.members × StaySome old.members new.members

from-marked : (servers : ServerList) (config : Config) → FromConfig config (with_lost servers config)
from-marked servers config = search (arith, from-map, lost-told, some-map)

from-changes : (config marked : Config) (ids : Option (List ServerId)) → FromConfig config marked →
    FromConfig config (changes_to marked ids).0
from-changes config marked None p = p
from-changes config marked (Some ids) p =
    either (λ (answer : Config × Result Bool Fault). FromConfig config answer.0) (nat_lt marked.epoch LAST_EPOCH)
    (changed marked ids, Ok true) (marked, Err EpochsExhausted) (λ _. (
      from-reset config.members (replaced marked.members ids),
      λ some none. some-reset (replaced marked.members ids) (some-replaced marked.members ids (p.1 some)) none,
    )) (λ _. p)
  where
    some-reset : (members : List Member) → (members ≡ [] → ⊥) → map (λ member. new_member member.id) members ≡ [] → ⊥
    some-reset [] some none = some refl
    some-reset (first ∷ members) some none = cc

from-lose : (own : ServerId) (servers : ServerList) (config : Config) → FromConfig config (lose own servers config).0
from-lose own servers config = search (arith, from-changes, from-marked)

from-refills : (config marked : Config) (ids : Option (List ServerId)) → FromConfig config marked →
    FromConfig config (refills_with marked ids).0
from-refills config marked None p = p
from-refills config marked (Some ids) p = (
  from-trans config.members marked.members (replaced marked.members ids) p.0 (from-replaced marked.members ids),
  λ some. some-replaced marked.members ids (p.1 some),
)

pub input-loses : (servers : ServerList) (seg : ℕ) (log : Log) → InputOk log (loses servers seg log).0
input-loses servers seg log =
    either (λ (after : Log × Result (List ServerId) Fault). InputOk log after.0) (log.segments seg).shut
    (refills seg log (refill log.own servers (log.segments seg).config))
    (opens_change seg log (lose log.own servers (log.segments seg).config)) (λ _. input-members seg
    (record (log.segments seg) { config = (refill log.own servers (log.segments seg).config).0 }) refl refl filled.0
    filled.1) (λ _. input-change seg (lose log.own servers (log.segments seg).config) lost.0 lost.1)
  where
    filled : FromConfig (log.segments seg).config (refill log.own servers (log.segments seg).config).0
    filled = search (arith, from-refills, from-marked)

    lost : FromConfig (log.segments seg).config (lose log.own servers (log.segments seg).config).0
    lost = from-lose log.own servers (log.segments seg).config

-- New heads

-- where members are chosen there are some
chosen-some : (seg : ℕ) (own : ServerId) {factor : ℕ} (servers : ServerList) {ids : List ServerId} → factor ≢ 0 →
    choose seg own factor servers ≡ Some ids → ids ≡ [] → ⊥
chosen-some seg own {factor} servers {ids} some e none = search (arith, nat_lt, nat_tests)

told-opens : {log : Log} (digest : List ℕ) {ids : List ServerId} → (ids ≡ [] → ⊥) → Told log → Told (opens_head log digest ids)
told-opens {log} digest {ids} some told = record {
  closed = put-cases (λ k (one : Segment). (member : Member) → In member one.config.members →
      told_closed member.told ≡ true → (k < log.head + 1) × (length one.entries ≤ told_len member.told))
      log.segments (log.head + 1) (new_segment (log.head + 1) digest ids)
      (λ member at e. new member (from-new [] ids member at e)) (λ k _ member at e. (let was : (k < log.head) ×
      (length (log.segments k).entries ≤ told_len member.told) =
      told.closed k member at e in let less : k < log.head = was.0 in (omega (arith, less), was.1)));
  within = put-cases (λ k (one : Segment). one.shut ≡ true → k < log.head + 1) log.segments (log.head + 1)
      (new_segment (log.head + 1) digest ids)
      (λ e. true_false (sym e)) (λ k _ e. (let less : k < log.head = told.within k e in omega (arith, less)));
  members = put-cases (λ k (one : Segment). 0 < k → k ≤ log.head + 1 → one.config.members ≡ [] → ⊥) log.segments
      (log.head + 1) (new_segment (log.head + 1) digest ids)
      (λ _ _ none. empty ids some none) (λ k differs above upto. told.members k above (below k log.head upto (λ same. differs (sym same))));
  factor = told.factor;
}
  where
    new : {P : Type 0} → (member : Member) → (was : Member) × ⊥ × (was.told ≡ member.told) → P
    new member (was, never, same) = absurd never

    empty : (list : List ServerId) → (list ≡ [] → ⊥) → map new_member list ≡ [] → ⊥
    empty [] some none = some refl
    empty (id ∷ list) some none = cc

    below : (a b : ℕ) → a ≤ b + 1 → (a ≡ b + 1 → ⊥) → a ≤ b
    below a b p q = grind arith

-- nothing that was there is shut by it
opens-shut : (log : Log) (digest : List ℕ) (ids : List ServerId) (s : ℕ) →
    ((opens_head log digest ids).segments s).shut ≡ true → (log.segments s).shut ≡ true
opens-shut log digest ids = search (arith, put-cases)

pub input-chosen : {log : Log} (digest : List ℕ) {ids : List ServerId} (seg : ℕ) (servers : ServerList) →
    choose seg log.own log.factor servers ≡ Some ids → InputOk log (opens_head log digest ids)
input-chosen {log} digest {ids} seg servers e = record {
  keeps = λ told. told-opens digest (chosen-some seg log.own servers told.factor e) told;
  shut = opens-shut log digest ids;
}

-- an entry goes to the head, whose members have told no end
pub input-appends : (entry : Entry) (client : Bool) (log : Log) → InputOk log (appends entry client log)
input-appends entry client log = input-put log.head (with_entry entry client (head_of log)) refl
    (λ told. told-put told (record {
      closed = λ member at e. (let less : log.head < log.head = (told.closed log.head member at e).0 in absurd (omega (arith, less)));
      within = told.within log.head;
      members = told.members log.head;
    }))

-- What follows an input: configs stay, and what is shut is closed on all its members

pub record FollowOk (old new : Log) : Type 0 where
  pub keeps : Told old → Told new
  pub upto : old.head ≤ new.head
  pub config : (s : ℕ) → s ≤ old.head → (new.segments s).config ≡ (old.segments s).config
  pub closes : Told old → (s : ℕ) → (new.segments s).shut ≡ true → ((old.segments s).shut ≡ true) ⊎ (is_all_closed (new.segments s) ≡ true)

pub follow-refl : (log : Log) → FollowOk log log
follow-refl log = record { keeps = λ told. told; upto = omega arith; config = λ s upto. refl; closes = λ told s e. inl e }

pub follow-trans : (a b c : Log) → FollowOk a b → FollowOk b c → FollowOk a c
follow-trans a b c p q = search arith

-- a segment with the same config and entries, and not shut by it
pub follow-alike : {log : Log} (seg : ℕ) (segment : Segment) → segment.entries ≡ (log.segments seg).entries →
    segment.shut ≡ (log.segments seg).shut → segment.config ≡ (log.segments seg).config →
    FollowOk log (with_segment seg segment log)
follow-alike {log} seg segment entries shut config = record {
  keeps = told-alike seg segment entries (λ e. sym shut ∙ e) config;
  upto = omega arith;
  config = λ s upto. put_each (λ k (one : Segment). one.config ≡ (log.segments k).config) log.segments seg segment config (λ k. refl) s;
  closes = λ told s e. inl (put_each (λ k (one : Segment). one.shut ≡ true → (log.segments k).shut ≡ true) log.segments
      seg segment (λ is. sym shut ∙ is) (λ k is. is) s e);
}

pub follow-appends : (entry : Entry) (client : Bool) (log : Log) → FollowOk log (appends entry client log)
follow-appends entry client log = record {
  keeps = (input-appends entry client log).keeps;
  upto = omega arith;
  config = λ s upto. put_each (λ k (one : Segment). one.config ≡ (log.segments k).config) log.segments log.head
      (with_entry entry client (head_of log)) refl (λ k. refl) s;
  closes = λ told s e. inl ((input-appends entry client log).shut s e);
}

-- the old head is shut where it is closed on all its members
pub follow-marks : (log : Log) → shuts log ≡ true →
    FollowOk log (with_segment (log.head - 1) (record (old_head_of log) { shut = true }) log)
follow-marks log e = record {
  keeps = λ told. told-put told (record {
    closed = told.closed (log.head - 1);
    within = λ _. omega (arith, over);
    members = told.members (log.head - 1);
  });
  upto = omega arith;
  config = λ s upto. put_each (λ k (one : Segment). one.config ≡ (log.segments k).config) log.segments
      (log.head - 1) (record (old_head_of log) { shut = true }) refl (λ k. refl) s;
  closes = λ told s is. put_each (λ k (one : Segment). one.shut ≡ true →
      ((log.segments k).shut ≡ true) ⊎ (is_all_closed one ≡ true)) log.segments (log.head - 1)
      (record (old_head_of log) { shut = true }) (λ _. inr parts.1) (λ k now. inl now) s is;
}
  where
    parts : (has_old_head log ≡ true) × (is_all_closed (old_head_of log) ≡ true)
    parts = and_parts (has_old_head log) (is_all_closed (old_head_of log)) e

    over : 1 < log.head
    over = ltb-true 1 log.head parts.0

pub follow-freed : (segs : List ℕ) {log : Log} → FollowOk log (with_freed segs log)
follow-freed [] {log} = follow-refl log
follow-freed (seg ∷ segs) {log} = follow-trans log (with_segment seg (record (log.segments seg) { freed = true }) log)
    (with_freed segs (with_segment seg (record (log.segments seg) { freed = true }) log))
    (follow-alike seg (record (log.segments seg) { freed = true }) refl refl refl) (follow-freed segs)

-- the same head, segments and factor
pub follow-same : {old new : Log} → new.head ≡ old.head → new.segments ≡ old.segments → new.factor ≡ old.factor → FollowOk old new
follow-same {old} {new} head segments factor = record {
  keeps = λ told. record {
    closed = λ s. subst (λ n. (member : Member) → In member (new.segments s).config.members →
        told_closed member.told ≡ true → (s < n) × (length (new.segments s).entries ≤ told_len member.told)) (sym head)
        (subst (λ (table : ℕ → Segment). (member : Member) → In member (table s).config.members →
        told_closed member.told ≡ true → (s < old.head) × (length (table s).entries ≤ told_len member.told))
        (sym segments) (told.closed s));
    within = λ s. subst (λ n. (new.segments s).shut ≡ true → s < n) (sym head)
        (subst (λ (table : ℕ → Segment). (table s).shut ≡ true → s < old.head) (sym segments) (told.within s));
    members = λ s. subst (λ n. 0 < s → s ≤ n → (new.segments s).config.members ≡ [] → ⊥) (sym head)
        (subst (λ (table : ℕ → Segment). 0 < s → s ≤ old.head → (table s).config.members ≡ [] → ⊥) (sym segments) (told.members s));
    factor = λ none. told.factor (sym factor ∙ none);
  };
  upto = omega (arith, head);
  config = λ s upto. ap (λ (table : ℕ → Segment). (table s).config) segments;
  closes = λ told s e. inl (subst (λ (table : ℕ → Segment). (table s).shut ≡ true) segments e);
}

pub follow-chosen : {log : Log} (digest : List ℕ) {ids : List ServerId} (servers : ServerList) →
    choose (log.head + 1) log.own log.factor servers ≡ Some ids → FollowOk log (opens_head log digest ids)
follow-chosen {log} digest {ids} servers e = record {
  keeps = λ told. told-opens digest (chosen-some (log.head + 1) log.own servers told.factor e) told;
  upto = omega arith;
  config = put-cases (λ k (one : Segment). k ≤ log.head → one.config ≡ (log.segments k).config) log.segments
      (log.head + 1) (new_segment (log.head + 1) digest ids) (λ beyond. absurd (omega (arith, beyond))) (λ k _ _. refl);
  closes = λ told s is. inl (opens-shut log digest ids s is);
}
