-- The timer goes over each segment that may want something, whatever is done with the log.
use Rattle.std.proofs.Common.{◌≡◌, ⊎_elim, ℕ, ◌+◌, ◌-◌, ◌<◌, ◌≤◌, Bool, true, false, cond, not, ◌&&◌, ◌||◌, eqb, List, [], ◌∷◌, ◌++◌}
use Rattle.std.proofs.Common.{length, get_or, set, map, Some, is_some, Result, Ok, Err, is_ok, IsOk, refl, ap, sym, ◌∙◌, subst, arith}
use Rattle.std.specs.List.{list_all, list_any}
use Rattle.std.specs.Map.{lookup}
use Rattle.std.proofs.lemmas.Bool.{and_parts, and_from, cases_eq, cases_lt, cond_both, cond-false, ne_eqb, false≢true}
use Rattle.std.proofs.lemmas.List.{length-set, length_push}
use Rattle.rc_model.specs.Model.{ServerId, Member, Phase, same_id, ServerList, has_crashed, put, Config, is_heard}
use Rattle.rc_model.specs.Model.{told_with, told_if_heard, noted, committed_at, Segment, Log, has_segment}
use Rattle.rc_config.specs.Lists.{segment_at}
use Rattle.rc_headroll.specs.LogData.{LogData, log_of, before_of}
use Rattle.rc_config.specs.Concerned.{is_concerned}
use Rattle.rc_config.specs.Resting.{have_told, wants_nothing}
use Rattle.rc_headroll.specs.Watching.{Watched, StuckUnder, has_number, is_among, is_awake, is_filed, is_filed_whole, is_helpless}
use Rattle.rc_headroll.specs.Watching.{is_stuck, is_findable, is_on_file, is_watched, AreWatched, is_let_be, AreRoused}
use Rattle.rc_headroll.specs.Soundness.{IsSoundLog, IsWatchedLog}
use Rattle.rc_headroll.specs.Before.{Mark}
use Rattle.rc_config.proofs.SegmentTables.{put_each, put-other, segment_at-set, segment_at-read, segment_at-push}
use Rattle.rc_headroll.proofs.LogTables.{has-from}
use Rattle.rc_headroll.proofs.LogChanges.{seg_place}
use Rattle.rc_headroll.proofs.StuckLemmas.{helpless-told}

or-from : (a b b' : Bool) → (b ≡ true → b' ≡ true) → (a || b) ≡ true → (a || b') ≡ true
or-from true b b' more e = refl
or-from false b b' more e = more e

or-first : (a b : Bool) → a ≡ true → (a || b) ≡ true
or-first a b e = ap (λ (x : Bool). x || b) e

or-second : (a b : Bool) → b ≡ true → (a || b) ≡ true
or-second true b e = refl
or-second false b e = e

or-both : (a b a' b' : Bool) → (a ≡ true → a' ≡ true) → (b ≡ true → b' ≡ true) → (a || b) ≡ true → (a' || b') ≡ true
or-both true b a' b' first others e = or-first a' b' (first refl)
or-both false b a' b' first others e = or-second a' b' (others e)

-- What a segment that wants nothing goes on wanting

-- a segment that was changed in nothing that it could want
pub record StillWants (was x : Segment) : Type 0 where
  pub nothing : wants_nothing was ≡ true → wants_nothing x ≡ true
  pub filed : (own : ServerId) (watch : Watched) (seg : ℕ) → is_on_file own watch seg was ≡ true → is_on_file own watch seg x ≡ true

-- One segment is written

pub watched-put : (own : ServerId) (watch : Watched) (head : ℕ) (t : ℕ → Segment) (seg : ℕ) (x : Segment) →
    AreWatched own watch head t → (is_watched own watch seg (t seg) ≡ true → is_watched own watch seg x ≡ true) →
    AreWatched own watch head (put t seg x)
watched-put own watch head t seg x watched still =
    put_each (λ o s. 0 < o → o ≤ head → is_watched own watch o s ≡ true) t seg x
    (λ above within. still (watched seg above within)) watched

pub still-watched : (own : ServerId) (watch : Watched) (seg : ℕ) (was x : Segment) → StillWants was x →
    is_watched own watch seg was ≡ true → is_watched own watch seg x ≡ true
still-watched own watch seg was x still =
    or-from (is_awake watch seg) (wants_nothing was && is_on_file own watch seg was) (wants_nothing x && is_on_file own watch seg x)
    (λ both.
    let parts = and_parts (wants_nothing was) (is_on_file own watch seg was) both in
    and_from (wants_nothing x) (is_on_file own watch seg x) (still.nothing parts.0) (still.filed own watch seg parts.1))

-- where the log goes back to the same
pub watched-from : (old new : LogData) → IsWatchedLog old → new.watch ≡ old.watch → before_of new ≡ before_of old →
    AreWatched new.own old.watch (log_of new).head (log_of new).segments → IsWatchedLog new
watched-from old new watched same before now = record {
  now = subst (λ (w : Watched). AreWatched new.own w (log_of new).head (log_of new).segments) (sym same) now;
  before = subst (λ (w : Watched). AreWatched new.own w (before_of new).head (before_of new).segments) (sym same)
      (subst (λ (log : Log). AreWatched log.own old.watch log.head log.segments) (sym before) watched.before);
}

module _ (kept : LogData) (place seg : ℕ) (x was : Segment) (watched : IsWatchedLog kept) (e : seg ≡ place + 1)
    (inside : place < length kept.segments) (read : was ≡ get_or kept.segments place was)
    (before : before_of (record kept { segments = set kept.segments place x }) ≡ before_of kept) where
  pub watched-set : (is_watched kept.own kept.watch seg was ≡ true → is_watched kept.own kept.watch seg x ≡ true) →
      IsWatchedLog (record kept { segments = set kept.segments place x })
  watched-set still =
      let at : was ≡ segment_at kept.segments seg = segment_at-read kept.segments seg place was e inside read in
      watched-from kept (record kept { segments = set kept.segments place x }) watched refl before
      (rw (length-set kept.segments place x, segment_at-set kept.segments place x seg e inside)
      (watched-put kept.own kept.watch (length kept.segments) (segment_at kept.segments) seg x watched.now
      (λ was_so. still (subst (λ (s : Segment). is_watched kept.own kept.watch seg s ≡ true) (sym at) was_so))))

  pub watched-still : StillWants was x → IsWatchedLog (record kept { segments = set kept.segments place x })
  watched-still still = watched-set (still-watched kept.own kept.watch seg was x still)

module _ (kept : LogData) (seg from : ℕ) (x was : Segment) (watched : IsWatchedLog kept)
    (has : true ≡ has_segment (log_of kept) seg) (is : from ≡ seg)
    (read : was ≡ get_or kept.segments (from - 1) was)
    (before : before_of (record kept { segments = set kept.segments (from - 1) x }) ≡ before_of kept) where
  pub watched-written : StillWants was x → IsWatchedLog (record kept { segments = set kept.segments (from - 1) x })
  watched-written still =
      let at = seg_place kept seg from has is in
      watched-still kept (from - 1) seg x was watched at.0 at.1 read before still

  -- one that is gone over may be changed in all
  pub watched-awake : is_awake kept.watch seg ≡ true → IsWatchedLog (record kept { segments = set kept.segments (from - 1) x })
  watched-awake awake =
      let at = seg_place kept seg from has is in
      watched-set kept (from - 1) seg x was watched at.0 at.1 read before
      (λ was_so. or-first (is_awake kept.watch seg) (wants_nothing x && is_on_file kept.own kept.watch seg x) awake)

-- What the code changes

pub wants-parts : (s : Segment) → wants_nothing s ≡ true →
    (s.shut ≡ true) × (s.config.committed ≡ true) × ((s.freed || have_told s.config.members) ≡ true)
wants-parts s e =
    let first = and_parts s.shut (s.config.committed && (s.freed || have_told s.config.members)) e in
    let second = and_parts s.config.committed (s.freed || have_told s.config.members) first.1 in
    (first.0, second.0, second.1)

wants-from : (s : Segment) → s.shut ≡ true → s.config.committed ≡ true → (s.freed || have_told s.config.members) ≡ true →
    wants_nothing s ≡ true
wants-from s shut committed told =
    and_from s.shut (s.config.committed && (s.freed || have_told s.config.members)) shut
    (and_from s.config.committed (s.freed || have_told s.config.members) committed told)

-- in nothing at all
pub wants-same : (was x y : Segment) → x ≡ y → y.shut ≡ was.shut → y.config ≡ was.config → y.freed ≡ was.freed → StillWants was x
wants-same was x y e shut config freed = record {
  nothing = λ nothing. rw (e, shut, config, freed) nothing;
  filed = λ own watch seg on_file. rw (e, config, freed) on_file;
}

have_told-told : (from : ServerId) (len : ℕ) (closed : Bool) (members : List Member) → have_told members ≡ true →
    have_told (map (told_if_heard from len closed) members) ≡ true
have_told-told from len closed [] told = refl
have_told-told from len closed (member ∷ members) told =
    let parts = and_parts (is_some member.told) (have_told members) told in
    and_from (is_some (told_if_heard from len closed member).told) (have_told (map (told_if_heard from len closed) members))
    (cond_both (is_heard from member) (record member { told = Some (told_with member.told len closed) }) member
    (λ (m : Member). is_some m.told ≡ true) (λ heard. refl) (λ other. parts.0))
    (have_told-told from len closed members parts.1)

filed-told : (watch : Watched) (seg : ℕ) (from : ServerId) (len : ℕ) (closed : Bool) (members : List Member) →
    is_filed_whole watch seg members ≡ true → is_filed_whole watch seg (map (told_if_heard from len closed) members) ≡ true
filed-told watch seg from len closed [] filed = refl
filed-told watch seg from len closed (member ∷ members) filed =
    let parts = and_parts (not member.lost && is_filed watch member.id seg) (is_filed_whole watch seg members) filed in
    and_from (not (told_if_heard from len closed member).lost && is_filed watch (told_if_heard from len closed member).id seg)
    (is_filed_whole watch seg (map (told_if_heard from len closed) members))
    (cond_both (is_heard from member) (record member { told = Some (told_with member.told len closed) }) member
    (λ (m : Member). (not m.lost && is_filed watch m.id seg) ≡ true) (λ heard. parts.0) (λ other. parts.0))
    (filed-told watch seg from len closed members parts.1)

findable-told : (own : ServerId) (watch : Watched) (seg : ℕ) (from : ServerId) (len : ℕ) (closed : Bool) (config : Config) →
    is_findable own watch seg config ≡ true →
    is_findable own watch seg (record config { members = map (told_if_heard from len closed) config.members }) ≡ true
findable-told own watch seg from len closed config =
    let told : Config = record config { members = map (told_if_heard from len closed) config.members } in
    or-both (is_filed_whole watch seg config.members) (is_stuck own watch seg config) (is_filed_whole watch seg told.members)
    (is_stuck own watch seg told) (filed-told watch seg from len closed config.members)
    (λ stuck.
    let parts = and_parts (has_number watch.stuck.segs seg) (is_helpless own watch.stuck.servers config) stuck in
    and_from (has_number watch.stuck.segs seg) (is_helpless own watch.stuck.servers told) parts.0
    (helpless-told own watch.stuck.servers from len closed config parts.1))

-- a member tells something
pub wants-noted : (from : ServerId) (epoch len : ℕ) (closed : Bool) (was x : Segment) →
    x ≡ record was { config = noted from epoch len closed was.config } → StillWants was x
wants-noted from epoch len closed was x e = record {
  nothing = λ nothing.
      let parts = wants-parts was nothing in
      let told : Config = record was.config { members = map (told_if_heard from len closed) was.config.members } in
      subst (λ (s : Segment). wants_nothing s ≡ true) (sym e)
      (cond_both (eqb epoch was.config.epoch) told was.config
      (λ (c : Config). wants_nothing (record was { config = c }) ≡ true)
      (λ same. wants-from (record was { config = told }) parts.0 parts.1
      (or-from was.freed (have_told was.config.members) (have_told told.members)
      (have_told-told from len closed was.config.members) parts.2))
      (λ other. nothing));
  filed = λ own watch seg on_file.
      let told : Config = record was.config { members = map (told_if_heard from len closed) was.config.members } in
      subst (λ (s : Segment). is_on_file own watch seg s ≡ true) (sym e)
      (cond_both (eqb epoch was.config.epoch) told was.config
      (λ (c : Config). is_on_file own watch seg (record was { config = c }) ≡ true)
      (λ same. or-from was.freed (is_findable own watch seg was.config) (is_findable own watch seg told)
      (findable-told own watch seg from len closed was.config) on_file)
      (λ other. on_file));
}

-- an epoch is committed
pub wants-committed : (epoch : ℕ) (was x : Segment) → x ≡ record was { config = committed_at epoch was.config } → StillWants was x
wants-committed epoch was x e = record {
  nothing = λ nothing.
      let parts = wants-parts was nothing in
      let committed : Config = record was.config { committed = true } in
      subst (λ (s : Segment). wants_nothing s ≡ true) (sym e)
      (cond_both (eqb epoch was.config.epoch) committed was.config
      (λ (c : Config). wants_nothing (record was { config = c }) ≡ true)
      (λ same. wants-from (record was { config = committed }) parts.0 refl parts.2)
      (λ other. nothing));
  filed = λ own watch seg on_file.
      subst (λ (s : Segment). is_on_file own watch seg s ≡ true) (sym e)
      (cond_both (eqb epoch was.config.epoch) (record was.config { committed = true }) was.config
      (λ (c : Config). is_on_file own watch seg (record was { config = c }) ≡ true) (λ same. on_file) (λ other. on_file));
}

-- the segment is shut
pub wants-shut : (was x : Segment) → x ≡ record was { shut = true } → StillWants was x
wants-shut was x e = record {
  nothing = λ nothing.
      let parts = wants-parts was nothing in
      subst (λ (s : Segment). wants_nothing s ≡ true) (sym e)
      (wants-from (record was { shut = true }) refl parts.1 parts.2);
  filed = λ own watch seg on_file. subst (λ (s : Segment). is_on_file own watch seg s ≡ true) (sym e) on_file;
}

-- it is freed
pub wants-freed : (was x : Segment) → x ≡ record was { freed = true } → StillWants was x
wants-freed was x e = record {
  nothing = λ nothing.
      let parts = wants-parts was nothing in
      subst (λ (s : Segment). wants_nothing s ≡ true) (sym e)
      (wants-from (record was { freed = true }) parts.0 parts.1 refl);
  filed = λ own watch seg on_file. subst (λ (s : Segment). is_on_file own watch seg s ≡ true) (sym e) refl;
}

-- More is gone over

-- soundness doesn't speak of it
pub sound-watch : (kept : LogData) (passed entries : ℕ) (watch : Watched) → IsSoundLog kept passed entries →
    IsSoundLog (record kept { watch = watch }) passed entries
sound-watch kept passed entries watch sound = record { now = sound.now; before = sound.before; back = sound.back }

-- what is gone over stays so, and what is on file, unless it is gone over now
pub record IsMore (old new : Watched) : Type 0 where
  pub awake : (seg : ℕ) → is_awake old seg ≡ true → is_awake new seg ≡ true
  pub filed : (id : ServerId) (seg : ℕ) → is_filed old id seg ≡ true → is_awake new seg ≡ false → is_filed new id seg ≡ true
  pub stuck : (seg : ℕ) → has_number old.stuck.segs seg ≡ true → is_awake new seg ≡ false →
      (has_number new.stuck.segs seg ≡ true) × (new.stuck.servers ≡ old.stuck.servers)

-- where nothing new is filed
pub more-awake : (old new : Watched) → new.filed ≡ old.filed → new.stuck ≡ old.stuck →
    ((seg : ℕ) → is_awake old seg ≡ true → is_awake new seg ≡ true) → IsMore old new
more-awake old new same same_stuck more = record {
  awake = more;
  filed = λ id seg filed asleep. ap (λ entries. is_among (lookup (same_id id) entries) seg) same ∙ filed;
  stuck = λ seg stuck asleep. (
    ap (λ (s : StuckUnder). has_number s.segs seg) same_stuck ∙ stuck,
    ap (λ (s : StuckUnder). s.servers) same_stuck,
  );
}

filed-more : (old new : Watched) (seg : ℕ) (members : List Member) → IsMore old new → is_awake new seg ≡ false →
    is_filed_whole old seg members ≡ true → is_filed_whole new seg members ≡ true
filed-more old new seg [] more asleep filed = refl
filed-more old new seg (member ∷ members) more asleep filed =
    let parts = and_parts (not member.lost && is_filed old member.id seg) (is_filed_whole old seg members) filed in
    let here = and_parts (not member.lost) (is_filed old member.id seg) parts.0 in
    and_from (not member.lost && is_filed new member.id seg) (is_filed_whole new seg members)
    (and_from (not member.lost) (is_filed new member.id seg) here.0 (more.filed member.id seg here.1 asleep))
    (filed-more old new seg members more asleep parts.1)

findable-more : (own : ServerId) (old new : Watched) (seg : ℕ) (config : Config) → IsMore old new → is_awake new seg ≡ false →
    is_findable own old seg config ≡ true → is_findable own new seg config ≡ true
findable-more own old new seg config more asleep =
    or-both (is_filed_whole old seg config.members) (is_stuck own old seg config) (is_filed_whole new seg config.members)
    (is_stuck own new seg config) (filed-more old new seg config.members more asleep)
    (λ stuck.
    let parts = and_parts (has_number old.stuck.segs seg) (is_helpless own old.stuck.servers config) stuck in
    let still = more.stuck seg parts.0 asleep in
    and_from (has_number new.stuck.segs seg) (is_helpless own new.stuck.servers config) still.0
    (ap (λ (servers : ServerList). is_helpless own servers config) still.1 ∙ parts.1))

watched-also : (own : ServerId) (old new : Watched) (seg : ℕ) (s : Segment) → IsMore old new →
    is_watched own old seg s ≡ true → is_watched own new seg s ≡ true
watched-also own old new seg s more watched = by (is_awake new seg) refl
  where
    not-before : (b : Bool) → (b ≡ true → is_awake new seg ≡ true) → is_awake new seg ≡ false → b ≡ false
    not-before true now asleep = absurd (false≢true (sym asleep ∙ now refl))
    not-before false now asleep = refl

    by : (b : Bool) → is_awake new seg ≡ b → is_watched own new seg s ≡ true
    by true awake = or-first (is_awake new seg) (wants_nothing s && is_on_file own new seg s) awake
    by false asleep =
        let was : is_awake old seg ≡ false = not-before (is_awake old seg) (more.awake seg) asleep in
        let both : (wants_nothing s && is_on_file own old seg s) ≡ true =
        ap (λ (b : Bool). b || (wants_nothing s && is_on_file own old seg s)) (sym was) ∙ watched in
        let parts = and_parts (wants_nothing s) (is_on_file own old seg s) both in
        or-second (is_awake new seg) (wants_nothing s && is_on_file own new seg s)
        (and_from (wants_nothing s) (is_on_file own new seg s) parts.0
        (or-from s.freed (is_findable own old seg s.config) (is_findable own new seg s.config)
        (findable-more own old new seg s.config more asleep) parts.1))

watched-more : (own : ServerId) (old new : Watched) (head : ℕ) (t : ℕ → Segment) → IsMore old new →
    AreWatched own old head t → AreWatched own new head t
watched-more own old new head t more watched = λ seg above within. watched-also own old new seg (t seg) more (watched seg above within)

pub watched-woken : (kept : LogData) (new : Watched) → IsWatchedLog kept → IsMore kept.watch new →
    IsWatchedLog (record kept { watch = new })
watched-woken kept new watched more = record {
  now = watched-more kept.own kept.watch new (log_of kept).head (log_of kept).segments more watched.now;
  before = watched-more kept.own kept.watch new (before_of kept).head (before_of kept).segments more watched.before;
}

-- A head is opened, and gone over

-- what is pushed where there is room
pub pushed-within : {T E : Type 0} (r : Result T E) (new room old : List Segment) (x : Segment) → IsOk r →
    new ≡ cond (is_ok r) (room ++ x ∷ []) room → room ≡ old → new ≡ old ++ x ∷ []
pushed-within (Ok value) new room old x ok is same = is ∙ ap (λ (segments : List Segment). segments ++ x ∷ []) same
pushed-within (Err fault) new room old x ok is same = absurd (false≢true ok)

pub watched-opened : (kept : LogData) (x : Segment) (segments : List Segment) (phase : Phase) (seg : ℕ) (new : Watched) →
    IsWatchedLog kept → IsMore kept.watch new → seg ≡ length kept.segments + 1 → is_awake new seg ≡ true →
    segments ≡ kept.segments ++ x ∷ [] →
    before_of (record kept { segments = segments; phase = phase }) ≡ before_of kept →
    IsWatchedLog (record kept { segments = segments; phase = phase; watch = new })
watched-opened kept x segments phase seg new watched more at awake is before = record {
  now =
      let head : length segments ≡ length kept.segments + 1 = ap length is ∙ length_push kept.segments x in
      let table : segment_at segments ≡ put (segment_at kept.segments) seg x =
      ap segment_at is ∙ segment_at-push kept.segments x seg at in
      let old = watched-more kept.own kept.watch new (length kept.segments) (segment_at kept.segments) more watched.now in
      rw (head, table)
      (λ o above within. ⊎_elim {C = is_watched kept.own new o (put (segment_at kept.segments) seg x o) ≡ true}
      (λ (here : o ≡ seg). or-first (is_awake new o)
      (wants_nothing (put (segment_at kept.segments) seg x o) && is_on_file kept.own new o (put (segment_at kept.segments) seg x o))
      (subst (λ (n : ℕ). is_awake new n ≡ true) (sym here) awake))
      (λ (apart : o ≡ seg → ⊥). subst (λ (s : Segment). is_watched kept.own new o s ≡ true)
      (sym (put-other (segment_at kept.segments) seg x o (λ (same : seg ≡ o). apart (sym same))))
      (old o above (omega (arith, apart, at))))
      (cases_eq o seg));
  before = subst (λ (log : Log). AreWatched log.own new log.head log.segments) (sym before)
      (watched-more kept.own kept.watch new (before_of kept).head (before_of kept).segments more watched.before);
}

-- A segment that wants nothing is let go

watched-less : (own : ServerId) (old new : Watched) (head : ℕ) (t : ℕ → Segment) (seg : ℕ) → new.filed ≡ old.filed →
    new.stuck ≡ old.stuck → (wants_nothing (t seg) && is_on_file own old seg (t seg)) ≡ true →
    ((other : ℕ) → is_awake new other ≡ cond (eqb seg other) false (is_awake old other)) →
    AreWatched own old head t → AreWatched own new head t
watched-less own old new head t seg same same_stuck nothing less watched =
    let filed : (o : ℕ) (s : Segment) → is_on_file own new o s ≡ is_on_file own old o s =
    λ o s. ap (λ entries. s.freed || is_findable own (record new { filed = entries }) o s.config) same
    ∙ ap (λ stuck. s.freed || is_findable own (record old { stuck = stuck }) o s.config) same_stuck in
    λ o above within. ⊎_elim {C = is_watched own new o (t o) ≡ true}
    (λ (here : o ≡ seg). or-second (is_awake new o) (wants_nothing (t o) && is_on_file own new o (t o))
    (ap (λ (b : Bool). wants_nothing (t o) && b) (filed o (t o))
    ∙ subst (λ (n : ℕ). (wants_nothing (t n) && is_on_file own old n (t n)) ≡ true) (sym here) nothing))
    (λ (apart : o ≡ seg → ⊥).
    let asleep : is_awake new o ≡ is_awake old o =
    less o ∙ cond-false (eqb seg o) false (is_awake old o) (ne_eqb seg o (λ (same' : seg ≡ o). apart (sym same'))) in
    ap (λ (b : Bool). b || (wants_nothing (t o) && is_on_file own new o (t o))) asleep
    ∙ ap (λ (b : Bool). is_awake old o || (wants_nothing (t o) && b)) (filed o (t o)) ∙ watched o above within)
    (cases_eq o seg)

pub watched-let_go : (kept : LogData) (new : Watched) (seg : ℕ) → IsWatchedLog kept → before_of kept ≡ log_of kept →
    new.filed ≡ kept.watch.filed → new.stuck ≡ kept.watch.stuck → wants_nothing ((log_of kept).segments seg) ≡ true →
    is_on_file kept.own kept.watch seg ((log_of kept).segments seg) ≡ true →
    ((other : ℕ) → is_awake new other ≡ cond (eqb seg other) false (is_awake kept.watch other)) →
    IsWatchedLog (record kept { watch = new })
watched-let_go kept new seg watched same filed stuck nothing on_file less =
    let segment : Segment = (log_of kept).segments seg in
    let now = watched-less kept.own kept.watch new (log_of kept).head (log_of kept).segments seg filed stuck
    (and_from (wants_nothing segment) (is_on_file kept.own kept.watch seg segment) nothing on_file) less watched.now in
    record { now = now; before = subst (λ (log : Log). AreWatched log.own new log.head log.segments) (sym same) now }

-- The log goes back, or goes back to now

pub watched-begins : (kept : LogData) (new : Mark) → IsWatchedLog kept → before_of (record kept { mark = new }) ≡ log_of kept →
    IsWatchedLog (record kept { mark = new })
watched-begins kept new watched before = record {
  now = watched.now;
  before = subst (λ (log : Log). AreWatched log.own kept.watch log.head log.segments) (sym before) watched.now;
}

pub watched-kept : (kept : LogData) (new : Mark) → IsWatchedLog kept → before_of (record kept { mark = new }) ≡ before_of kept →
    IsWatchedLog (record kept { mark = new })
watched-kept kept new watched before = watched-from kept (record kept { mark = new }) watched refl before watched.now

-- where both logs are the one that it went back to
pub watched-restored : (old new : LogData) → IsWatchedLog old → new.watch ≡ old.watch → log_of new ≡ before_of old →
    before_of new ≡ before_of old → IsWatchedLog new
watched-restored old new watched same now before =
    watched-from old new watched same before
    (subst (λ (log : Log). AreWatched log.own old.watch log.head log.segments) (sym now) watched.before)

-- a log with no segment
pub watched-none : (kept : LogData) → (log_of kept).head ≡ 0 → (before_of kept).head ≡ 0 → IsWatchedLog kept
watched-none kept now before = record {
  now = λ seg above within. absurd (omega (arith, now));
  before = λ seg above within. absurd (omega (arith, before));
}

-- more of it is durable, or its phase goes on
pub watched-durable : (kept : LogData) (phase : Phase) (durable : ℕ) → IsWatchedLog kept →
    IsWatchedLog (record kept { phase = phase; durable = durable })
watched-durable kept phase durable watched = record { now = watched.now; before = watched.before }

-- What a new list rouses

none-crashed : (servers : ServerList) (watch : Watched) (seg : ℕ) (members : List Member) →
    ((id : ServerId) → has_crashed servers id ≡ true → is_filed watch id seg ≡ false) →
    is_filed_whole watch seg members ≡ true →
    list_any (λ member. member.lost || has_crashed servers member.id) members ≡ false
none-crashed servers watch seg [] none filed = refl
none-crashed servers watch seg (member ∷ members) none filed =
    let parts = and_parts (not member.lost && is_filed watch member.id seg) (is_filed_whole watch seg members) filed in
    let here = and_parts (not member.lost) (is_filed watch member.id seg) parts.0 in
    let crashed : has_crashed servers member.id ≡ false = by (has_crashed servers member.id) (none member.id) here.1 in
    both member.lost (has_crashed servers member.id) here.0 crashed (none-crashed servers watch seg members none parts.1)
  where
    by : (b : Bool) → (b ≡ true → is_filed watch member.id seg ≡ false) → is_filed watch member.id seg ≡ true → b ≡ false
    by true none' filed' = absurd (false≢true (sym (none' refl) ∙ filed'))
    by false none' filed' = refl

    both : (lost crashed : Bool) → not lost ≡ true → crashed ≡ false →
        list_any (λ other. other.lost || has_crashed servers other.id) members ≡ false →
        ((lost || crashed) || list_any (λ other. other.lost || has_crashed servers other.id) members) ≡ false
    both true crashed well up others = absurd (false≢true well)
    both false true well up others = absurd (false≢true (sym up))
    both false false well up others = others

-- where no id that has crashed is on file, and none is stuck under another list
pub roused-from : (own : ServerId) (servers : ServerList) (watch : Watched) (head : ℕ) (t : ℕ → Segment) →
    AreWatched own watch head t →
    ((id : ServerId) (seg : ℕ) → has_crashed servers id ≡ true → is_filed watch id seg ≡ false) →
    ((seg : ℕ) → has_number watch.stuck.segs seg ≡ true → watch.stuck.servers ≡ servers) → AreRoused own servers watch head t
roused-from own servers watch head t watched none listed = λ seg above within.
    or-from (is_awake watch seg) (wants_nothing (t seg) && is_on_file own watch seg (t seg)) (is_let_be own servers (t seg))
    (λ both.
    let parts = and_parts (wants_nothing (t seg)) (is_on_file own watch seg (t seg)) both in
    let wants = wants-parts (t seg) parts.0 in
    or-from (t seg).freed (is_findable own watch seg (t seg).config)
    (not (is_concerned servers (t seg)) || ((t seg).shut && is_helpless own servers (t seg).config))
    (or-both (is_filed_whole watch seg (t seg).config.members) (is_stuck own watch seg (t seg).config)
    (not (is_concerned servers (t seg))) ((t seg).shut && is_helpless own servers (t seg).config)
    (λ filed. ap not (none-crashed servers watch seg (t seg).config.members (λ id. none id seg) filed))
    (λ stuck.
    let found = and_parts (has_number watch.stuck.segs seg) (is_helpless own watch.stuck.servers (t seg).config) stuck in
    and_from (t seg).shut (is_helpless own servers (t seg).config) wants.0
    (subst (λ (list : ServerList). is_helpless own list (t seg).config ≡ true) (listed seg found.0) found.1)))
    parts.1)
    (watched seg above within)

-- a segment that was freed is on file
pub on-file-freed : (own : ServerId) (watch : Watched) (seg : ℕ) (s : Segment) → s.freed ≡ true → is_on_file own watch seg s ≡ true
on-file-freed own watch seg s freed = or-first s.freed (is_findable own watch seg s.config) freed

-- and one that a list finds again
pub on-file-found : (own : ServerId) (watch : Watched) (seg : ℕ) (s : Segment) (config : Config) → config ≡ s.config →
    is_findable own watch seg config ≡ true → is_on_file own watch seg s ≡ true
on-file-found own watch seg s config same found =
    or-second s.freed (is_findable own watch seg s.config) (ap (is_findable own watch seg) (sym same) ∙ found)

-- where none is lost, one that is filed under each member is filed whole
pub whole-from : (watch : Watched) (seg : ℕ) (members : List Member) → list_any (λ member. member.lost) members ≡ false →
    list_all (λ member. is_filed watch member.id seg) members ≡ true → is_filed_whole watch seg members ≡ true
whole-from watch seg [] none filed = refl
whole-from watch seg (member ∷ members) none filed =
    let parts = and_parts (is_filed watch member.id seg) (list_all (λ other. is_filed watch other.id seg) members) filed in
    both member.lost (is_filed watch member.id seg) none parts.0 (λ others. whole-from watch seg members others parts.1)
  where
    both : (lost filed' : Bool) → (lost || list_any (λ other. other.lost) members) ≡ false → filed' ≡ true →
        (list_any (λ other. other.lost) members ≡ false → is_filed_whole watch seg members ≡ true) →
        ((not lost && filed') && is_filed_whole watch seg members) ≡ true
    both true filed' none' there others = absurd (false≢true (sym none'))
    both false filed' none' there others = and_from filed' (is_filed_whole watch seg members) there (others none')

pub found-whole : (own : ServerId) (watch : Watched) (seg : ℕ) (config : Config) →
    list_any (λ member. member.lost) config.members ≡ false →
    list_all (λ member. is_filed watch member.id seg) config.members ≡ true → is_findable own watch seg config ≡ true
found-whole own watch seg config none filed =
    or-first (is_filed_whole watch seg config.members) (is_stuck own watch seg config)
    (whole-from watch seg config.members none filed)

pub found-stuck : (own : ServerId) (watch : Watched) (seg : ℕ) (config : Config) → is_stuck own watch seg config ≡ true →
    is_findable own watch seg config ≡ true
found-stuck own watch seg config stuck = or-second (is_filed_whole watch seg config.members) (is_stuck own watch seg config) stuck

-- a change of one segment that is gone over
pub roused-put : (own : ServerId) (servers : ServerList) (watch : Watched) (head : ℕ) (t : ℕ → Segment) (seg : ℕ) (x : Segment) →
    is_awake watch seg ≡ true → AreRoused own servers watch head t → AreRoused own servers watch head (put t seg x)
roused-put own servers watch head t seg x awake roused =
    put_each (λ o s. 0 < o → o ≤ head → (is_awake watch o || is_let_be own servers s) ≡ true) t seg x
    (λ above within. or-first (is_awake watch seg) (is_let_be own servers x) awake) roused

pub roused-set : (servers : ServerList) (kept : LogData) (seg from : ℕ) (x : Segment) →
    true ≡ has_segment (log_of kept) seg → from ≡ seg → is_awake kept.watch seg ≡ true →
    AreRoused kept.own servers kept.watch (log_of kept).head (log_of kept).segments →
    AreRoused kept.own servers kept.watch (length (set kept.segments (from - 1) x)) (segment_at (set kept.segments (from - 1) x))
roused-set servers kept seg from x has is awake roused =
    let at = seg_place kept seg from has is in
    rw (length-set kept.segments (from - 1) x, segment_at-set kept.segments (from - 1) x seg at.0 at.1)
    (roused-put kept.own servers kept.watch (length kept.segments) (segment_at kept.segments) seg x awake roused)

-- more is gone over
pub roused-more : (servers : ServerList) (old new : LogData) → log_of new ≡ log_of old →
    ((seg : ℕ) → is_awake old.watch seg ≡ true → is_awake new.watch seg ≡ true) →
    AreRoused old.own servers old.watch (log_of old).head (log_of old).segments →
    AreRoused new.own servers new.watch (log_of new).head (log_of new).segments
roused-more servers old new same more roused =
    subst (λ (log : Log). AreRoused log.own servers new.watch log.head log.segments) (sym same)
    (λ seg above within. either (is_awake old.watch seg) (is_awake new.watch seg)
    (is_let_be old.own servers ((log_of old).segments seg)) (more seg) (roused seg above within))
  where
    either : (a a' b : Bool) → (a ≡ true → a' ≡ true) → (a || b) ≡ true → (a' || b) ≡ true
    either true a' b more' e = or-first a' b (more' refl)
    either false a' b more' e = or-second a' b e

-- What is passed over wants nothing

pub asleep-nothing : (own : ServerId) (watch : Watched) (head : ℕ) (t : ℕ → Segment) → AreWatched own watch head t → (seg : ℕ) →
    0 < seg → seg ≤ head → is_awake watch seg ≡ false → wants_nothing (t seg) ≡ true
asleep-nothing own watch head t watched seg above within asleep =
    (and_parts (wants_nothing (t seg)) (is_on_file own watch seg (t seg))
    (ap (λ (b : Bool). b || (wants_nothing (t seg) && is_on_file own watch seg (t seg))) (sym asleep)
    ∙ watched seg above within)).0

pub not-has-past : (log : Log) (seg : ℕ) → 0 < seg → false ≡ has_segment log seg → log.head < seg
not-has-past log seg above none = ⊎_elim {C = log.head < seg}
    (λ (past : log.head < seg). past)
    (λ (within : seg ≤ log.head). absurd (false≢true (none ∙ has-from log seg above within)))
    (cases_lt log.head seg)
