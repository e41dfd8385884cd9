-- What the code does to one segment of its list is done to the log.
use Rattle.std.proofs.Common.{◌≡◌, ◌⊎◌, ⊎_elim, inl, inr, ℕ, ◌+◌, ◌-◌, ◌<◌, ◌≤◌, Bool, true, false, cond, not, ltb}
use Rattle.std.proofs.Common.{◌&&◌, List, [], ◌∷◌, ◌++◌, length, get_or, set, Some, None, Result, Ok, Err, IfOk, IfErr}
use Rattle.std.proofs.Common.{Vec, Global, refl, ap, sym, ◌∙◌, subst, arith}
use Rattle.std.specs.List.{All}
use Rattle.std.proofs.lemmas.Bool.{cond-true, cases_eq, leb-false, false≢true}
use Rattle.std.proofs.lemmas.List.{set-get_or, length_push}
use Rattle.rc_model.specs.Model.{ServerId, Entry, Opening, Fault, Rolling, LogFull, LAST_SEGMENT, ServerList, Config, committed_at, noted}
use Rattle.rc_model.specs.Model.{notes, lose, refill, Segment, new_segment, with_entry, Log, head_of, with_segment, has_segment}
use Rattle.rc_model.specs.Model.{is_writing, commit_noted, stored, notes_stored, loses, opens_change, refills, opens_head, is_full}
use Rattle.rc_model.specs.Model.{appends, append_fault}
use Rattle.rc_types.specs.declared.faults.Fault.TheVariants.{OutOfMemory}
use Rattle.rc_config.specs.Losing.{segment_loses, segment_changes, segment_refills}
use Rattle.rc_config.specs.Lists.{segment_at}
use Rattle.rc_headroll.specs.LogData.{LogData, log_of}
use Rattle.rc_headroll.specs.Soundness.{IsKnown, IsSound}
use Rattle.rc_config.proofs.SegmentTables.{segment_at-read, segment_at-push}
use Rattle.rc_headroll.proofs.LogTables.{log_of-set, has-parts}
use Rattle.rc_headroll.proofs.SoundLogs.{sound-put, sound-appends, sound-opens}

-- a segment has the entries, the digest and the shut mark of another
pub record Keeps (x old : Segment) : Type 0 where
  pub entries : x.entries ≡ old.entries
  pub digest : x.digest ≡ old.digest
  pub shut : x.shut ≡ old.shut

pub keeps_from : (x old y : Segment) → x ≡ y → y.entries ≡ old.entries → y.digest ≡ old.digest → y.shut ≡ old.shut → Keeps x old
keeps_from x old y e entries digest shut = record {
  entries = ap (λ (s : Segment). s.entries) e ∙ entries;
  digest = ap (λ (s : Segment). s.digest) e ∙ digest;
  shut = ap (λ (s : Segment). s.shut) e ∙ shut;
}

-- where a segment of the log stands in the list
pub seg_place : (kept : LogData) (seg from : ℕ) → true ≡ has_segment (log_of kept) seg → from ≡ seg →
    (seg ≡ from - 1 + 1) × (from - 1 < length kept.segments)
seg_place kept seg from has is =
    let parts : (0 < seg) × (seg ≤ length kept.segments) = has-parts (log_of kept) seg (sym has) in
    (omega (arith, parts.0, is), omega (arith, parts.0, parts.1, is))

-- a segment is written at its place

pub sound-set : (kept : LogData) (place seg passed entries : ℕ) (x was : Segment) →
    IsSound (log_of kept) passed entries → seg ≡ place + 1 → place < length kept.segments →
    was ≡ get_or kept.segments place was → Keeps x was →
    IsSound (log_of (record kept { segments = set kept.segments place x })) passed entries
sound-set kept place seg passed entries x was sound e inside read keeps =
    let at : was ≡ segment_at kept.segments seg = segment_at-read kept.segments seg place was e inside read in
    rw (log_of-set kept place x seg e inside)
    (sound-put (log_of kept) seg x passed entries sound
    (keeps.entries ∙ ap (λ (s : Segment). s.entries) at) (keeps.digest ∙ ap (λ (s : Segment). s.digest) at)
    (keeps.shut ∙ ap (λ (s : Segment). s.shut) at))

pub log_of-change : (kept : LogData) (place seg : ℕ) (f : Segment → Segment) (x was : Segment) → seg ≡ place + 1 →
    place < length kept.segments →
    was ≡ get_or kept.segments place was → x ≡ f was →
    log_of (record kept { segments = set kept.segments place x }) ≡ with_segment seg
    (f (segment_at kept.segments seg)) (log_of kept)
log_of-change kept place seg f x was e inside read is =
    log_of-set kept place x seg e inside
    ∙ ap (λ (s : Segment). with_segment seg s (log_of kept)) (is ∙ ap f (segment_at-read kept.segments seg place was e inside read))

-- what is told

pub sound-written : (kept : LogData) (seg from passed entries : ℕ) (x was : Segment) →
    IsSound (log_of kept) passed entries → true ≡ has_segment (log_of kept) seg → from ≡ seg →
    was ≡ get_or kept.segments (from - 1) was → Keeps x was →
    IsSound (log_of (record kept { segments = set kept.segments (from - 1) x })) passed entries
sound-written kept seg from passed entries x was sound has is read keeps =
    let at = seg_place kept seg from has is in
    sound-set kept (from - 1) seg passed entries x was sound at.0 at.1 read keeps

pub commit_noted-written : (kept : LogData) (seg from epoch : ℕ) (x was : Segment) →
    true ≡ has_segment (log_of kept) seg → from ≡ seg → was ≡ get_or kept.segments (from - 1) was →
    x ≡ record was { config = committed_at epoch was.config } →
    log_of (record kept { segments = set kept.segments (from - 1) x }) ≡ commit_noted seg epoch (log_of kept)
commit_noted-written kept seg from epoch x was has is read e =
    let at = seg_place kept seg from has is in
    log_of-change kept (from - 1) seg (λ s. record s { config = committed_at epoch s.config }) x was at.0 at.1 read e
    ∙ sym (cond-true (has_segment (log_of kept) seg) _ (log_of kept) (sym has))

pub stored-written : (kept : LogData) (seg epoch len : ℕ) (from : ServerId) (closed : Bool) (number : ℕ)
    (x was : Segment) → true ≡ has_segment (log_of kept) seg → number ≡ seg →
    was ≡ get_or kept.segments (number - 1) was → x ≡ record was { config = noted from epoch len closed was.config } →
    log_of (record kept { segments = set kept.segments (number - 1) x }) ≡ stored seg from epoch len closed (log_of kept)
stored-written kept seg epoch len from closed number x was has is read e =
    let at = seg_place kept seg number has is in
    log_of-change kept (number - 1) seg (λ s. record s { config = noted from epoch len closed s.config }) x was at.0 at.1 read e
    ∙ sym (cond-true (has_segment (log_of kept) seg) _ (log_of kept) (sym has))

pub notes-written : (kept : LogData) (seg epoch : ℕ) (from : ServerId) (number : ℕ) (was : Segment) →
    true ≡ has_segment (log_of kept) seg → number ≡ seg →
    was ≡ get_or kept.segments (number - 1) was → notes from epoch was.config ≡ notes_stored (log_of kept) seg from epoch
notes-written kept seg epoch from number was has is read =
    let at = seg_place kept seg number has is in
    let same : was ≡ segment_at kept.segments seg = segment_at-read kept.segments seg (number - 1) was at.0 at.1 read in
    ap (λ (s : Segment). notes from epoch s.config) same ∙
    ap (λ (b : Bool). b && notes from epoch (segment_at kept.segments seg).config) has

-- lost members

changes-same : (log : Log) (seg : ℕ) (after : Config × Result Bool Fault) →
    opens_change seg log after ≡ (
      with_segment seg (segment_changes (log.segments seg) after).0 log,
      (segment_changes (log.segments seg) after).1,
    )
changes-same log seg (config, Ok true) = refl
changes-same log seg (config, Ok false) = refl
changes-same log seg (config, Err fault) = refl

loses-same : (log : Log) (seg : ℕ) (shut : Bool) (refilled : Config × Result (List ServerId) Fault) (after : Config × Result Bool Fault) →
    cond shut (refills seg log refilled) (opens_change seg log after)
    ≡ (
      with_segment seg (cond shut (segment_refills (log.segments seg) refilled) (segment_changes (log.segments seg) after)).0 log,
      (cond shut (segment_refills (log.segments seg) refilled) (segment_changes (log.segments seg) after)).1,
    )
loses-same log seg true (config, answer) after = refl
loses-same log seg false refilled after = changes-same log seg after

pub loses-segment : (log : Log) (servers : ServerList) (seg : ℕ) →
    loses servers seg log ≡ (
      with_segment seg (segment_loses log.own servers (log.segments seg)).0 log,
      (segment_loses log.own servers (log.segments seg)).1,
    )
loses-segment log servers seg =
    loses-same log seg (log.segments seg).shut (refill log.own servers (log.segments seg).config)
    (lose log.own servers (log.segments seg).config)

-- of which nothing is lost that soundness speaks of

keeps_changes : (s : Segment) (after : Config × Result Bool Fault) → Keeps (segment_changes s after).0 s
keeps_changes s (config, Ok true) = record { entries = refl; digest = refl; shut = refl }
keeps_changes s (config, Ok false) = record { entries = refl; digest = refl; shut = refl }
keeps_changes s (config, Err fault) = record { entries = refl; digest = refl; shut = refl }

keeps_either : (s : Segment) (shut : Bool) (refilled : Config × Result (List ServerId) Fault) (after : Config × Result Bool Fault) →
    Keeps (cond shut (segment_refills s refilled) (segment_changes s after)).0 s
keeps_either s true (config, answer) after = record { entries = refl; digest = refl; shut = refl }
keeps_either s false refilled after = keeps_changes s after

pub keeps_loses : (own : ServerId) (servers : ServerList) (s : Segment) → Keeps (segment_loses own servers s).0 s
keeps_loses own servers s = keeps_either s s.shut (refill own servers s.config) (lose own servers s.config)

pub keeps_lost : (own : ServerId) (servers : ServerList) (s x : Segment) (answer : Result (List ServerId) Fault) →
    segment_loses own servers s ≡ (x, answer) → Keeps x s
keeps_lost own servers s x answer e =
    subst (λ (after : Segment × Result (List ServerId) Fault). Keeps after.0 s) e (keeps_loses own servers s)

pub keeps_same : (s x : Segment) → x ≡ s → Keeps x s
keeps_same s x e = keeps_from x s s e refl refl refl

pub loses-written : (kept : LogData) (seg number : ℕ) (servers : ServerList) (x was : Segment)
    (answer : Result (List ServerId) Fault) → true ≡ has_segment (log_of kept) seg → number ≡ seg →
    was ≡ get_or kept.segments (number - 1) was → segment_loses kept.own servers was ≡ (x, answer) →
    loses servers seg (log_of kept) ≡ (log_of (record kept { segments = set kept.segments (number - 1) x }), answer)
loses-written kept seg number servers x was answer has is read e =
    let at = seg_place kept seg number has is in
    let same : was ≡ segment_at kept.segments seg = segment_at-read kept.segments seg (number - 1) was at.0 at.1 read in
    loses-segment (log_of kept) servers seg
    ∙ ap (λ (s : Segment). (
      with_segment seg (segment_loses kept.own servers s).0 (log_of kept),
      (segment_loses kept.own servers s).1,
    )) (sym same)
    ∙ ap (λ (after : Segment × Result (List ServerId) Fault). (with_segment seg after.0 (log_of kept), after.1)) e
    ∙ ap (λ (log : Log). (log, answer)) (sym (log_of-set kept (number - 1) x seg at.0 at.1))

-- what the call answers

pub lose_keeps : (own : ServerId) (servers : ServerList) (x was : Segment) (result : Result (Vec ServerId Global) Fault) →
    IfOk result (λ ids. segment_loses own servers was ≡ (x, Ok ids.items)) →
    IfErr result (λ fault. ((fault ≡ OutOfMemory) × (x ≡ was)) ⊎ (segment_loses own servers was ≡ (x, Err fault))) → Keeps x was
lose_keeps own servers x was (Ok ids) ok err = keeps_lost own servers was x (Ok ids.items) ok
lose_keeps own servers x was (Err fault) ok err = ⊎_elim {C = Keeps x was}
    (λ (none : (fault ≡ OutOfMemory) × (x ≡ was)). keeps_same was x none.1)
    (λ (refused : segment_loses own servers was ≡ (x, Err fault)). keeps_lost own servers was x (Err fault) refused)
    err

module _ (kept : LogData) (seg number : ℕ) (servers : ServerList) (x was : Segment)
    (has : true ≡ has_segment (log_of kept) seg) (is : number ≡ seg)
    (read : was ≡ get_or kept.segments (number - 1) was) where
  pub lose_ok : (result : Result (Vec ServerId Global) Fault) →
      IfOk result (λ ids. segment_loses kept.own servers was ≡ (x, Ok ids.items)) →
      IfOk result (λ ids. loses servers seg
      (log_of kept) ≡ (log_of (record kept { segments = set kept.segments (number - 1) x }), Ok ids.items))
  lose_ok (Ok ids) ok = loses-written kept seg number servers x was (Ok ids.items) has is read ok
  lose_ok (Err fault) ok = tt

  pub lose_err : (result : Result (Vec ServerId Global) Fault) →
      IfErr result (λ fault. ((fault ≡ OutOfMemory) × (x ≡ was)) ⊎ (segment_loses kept.own servers was ≡ (x, Err fault))) →
      IfErr result (λ fault. ((fault ≡ OutOfMemory) × (log_of (record kept { segments = set kept.segments (number - 1) x }) ≡ log_of kept))
      ⊎ (loses servers seg (log_of kept) ≡ (log_of (record kept { segments = set kept.segments (number - 1) x }), Err fault)))
  lose_err (Ok ids) err = tt
  lose_err (Err fault) err = ⊎_elim
      {C = ((fault ≡ OutOfMemory) × (log_of (record kept { segments = set kept.segments (number - 1) x }) ≡ log_of kept))
      ⊎ (loses servers seg (log_of kept) ≡ (log_of (record kept { segments = set kept.segments (number - 1) x }), Err fault))}
      (λ (none : (fault ≡ OutOfMemory) × (x ≡ was)).
      inl (
        none.0,
        ap (λ (segments : List Segment). log_of (record kept { segments = segments }))
            (ap (set kept.segments (number - 1)) (none.1 ∙ read) ∙ set-get_or kept.segments (number - 1) was),
      ))
      (λ (refused : segment_loses kept.own servers was ≡ (x, Err fault)).
      inr (loses-written kept seg number servers x was (Err fault) has is read refused))
      err

-- a segment that is read
pub segment-read : (kept : LogData) (seg from : ℕ) (x : Segment) → true ≡ has_segment (log_of kept) seg → from ≡ seg →
    x ≡ get_or kept.segments (from - 1) x →
    Some x ≡ cond (has_segment (log_of kept) seg) (Some (segment_at kept.segments seg)) None
segment-read kept seg from x has is read =
    let at = seg_place kept seg from has is in
    ap Some (segment_at-read kept.segments seg (from - 1) x at.0 at.1 read)
    ∙ sym (cond-true (has_segment (log_of kept) seg) (Some (segment_at kept.segments seg)) None (sym has))

-- Appending

possible-parts : (writes full last : Bool) →
    cond (not writes) (Some Rolling) (cond (not full) None (cond last (Some Rolling) (Some LogFull))) ≡ None →
    (writes ≡ true) × (full ≡ false)
possible-parts true false last e = (refl, refl)
possible-parts true true true e = absurd cc
possible-parts true true false e = absurd cc
possible-parts false full last e = absurd cc

-- an entry can be appended only where a head writes that isn't full
pub append-possible : (log : Log) (passed entries : ℕ) → IsSound log passed entries → append_fault log ≡ None →
    (0 < log.head) × (length (head_of log).entries < log.size)
append-possible log passed entries sound e =
    let parts = possible-parts (is_writing log.phase) (is_full log) (ltb log.head LAST_SEGMENT) e in (
      ⊎_elim {C = 0 < log.head}
          (λ (none : log.head ≡ 0). absurd (false≢true (ap is_writing (sym (sound.opening none)) ∙ parts.0)))
          (λ (some : log.head ≡ 0 → ⊥). omega (arith, some))
          (cases_eq log.head 0),
      leb-false log.size (length (head_of log).entries) parts.1,
    )

appended-is : (kept : LogData) (place : ℕ) (entry : Entry) (client : Bool) (x was : Segment) →
    0 < length kept.segments → place ≡ length kept.segments - 1 →
    was ≡ get_or kept.segments place was → x ≡ with_entry entry client was →
    log_of (record kept { segments = set kept.segments place x }) ≡ appends entry client (log_of kept)
appended-is kept place entry client x was some is read e =
    log_of-change kept place (length kept.segments) (with_entry entry client) x was (omega arith) (omega arith) read e

pub sound-pushed : (kept : LogData) (place passed entries : ℕ) (entry : Entry) (client : Bool) (x was : Segment) →
    IsSound (log_of kept) passed entries →
    append_fault (log_of kept) ≡ None → place ≡ length kept.segments - 1 → was ≡ get_or kept.segments place was →
    x ≡ with_entry entry client was →
    IsSound (log_of (record kept { segments = set kept.segments place x })) passed entries
sound-pushed kept place passed entries entry client x was sound possible is read e =
    let parts = append-possible (log_of kept) passed entries sound possible in
    rw (appended-is kept place entry client x was parts.0 is read e)
    (sound-appends (log_of kept) entry client passed entries sound parts.0 parts.1)

pub appended : (kept : LogData) (place passed entries : ℕ) (entry : Entry) (client : Bool) (x was : Segment) →
    IsSound (log_of kept) passed entries →
    append_fault (log_of kept) ≡ None → place ≡ length kept.segments - 1 → was ≡ get_or kept.segments place was →
    x ≡ with_entry entry client was →
    log_of (record kept { segments = set kept.segments place x }) ≡ appends entry client (log_of kept)
appended kept place passed entries entry client x was sound possible is read e =
    appended-is kept place entry client x was (append-possible (log_of kept) passed entries sound possible).0 is read e

-- Opening

pub opened-is : (kept : LogData) (digest : List ℕ) (ids : List ServerId) (x : Segment) (segments : List Segment)
    (seg : ℕ) → seg ≡ length kept.segments + 1 →
    x ≡ new_segment seg digest ids → segments ≡ kept.segments ++ x ∷ [] →
    log_of (record kept { segments = segments; phase = Opening }) ≡ opens_head (log_of kept) digest ids
opened-is kept digest ids x segments seg at e is =
    let new : x ≡ new_segment (length kept.segments + 1) digest ids = e ∙ ap (λ (n : ℕ). new_segment n digest ids) at in
    let head : length (kept.segments ++ new_segment (length kept.segments + 1) digest ids ∷ []) ≡ length kept.segments + 1 =
    length_push kept.segments (new_segment (length kept.segments + 1) digest ids) in
    let table = segment_at-push kept.segments (new_segment (length kept.segments + 1) digest ids) (length kept.segments + 1) refl in
    rw (is, new, head, table) refl

pub sound-opened : (kept : LogData) (passed entries : ℕ) (digest : List ℕ) (ids : List ServerId) (x : Segment)
    (segments : List Segment) (seg : ℕ) → IsSound (log_of kept) passed entries →
    length kept.segments < LAST_SEGMENT →
    ((seg : ℕ) → 0 < seg → seg < length kept.segments → (segment_at kept.segments seg).shut ≡ true) →
    All (IsKnown (length kept.segments + 1)) digest →
    seg ≡ length kept.segments + 1 → x ≡ new_segment seg digest ids → segments ≡ kept.segments ++ x ∷ [] →
    IsSound (log_of (record kept { segments = segments; phase = Opening })) passed entries
sound-opened kept passed entries digest ids x segments seg sound room shut known at e is =
    rw (opened-is kept digest ids x segments seg at e is) (sound-opens (log_of kept) digest ids passed entries sound room shut known)
