-- What the rules that follow up make of a master's placings: what is placed stays so, and a head that has come to be
-- placed lets the log go on.
use Rattle.std.proofs.Common.{◌≡◌, ◌⊎◌, ℕ, ◌+◌, ◌-◌, ◌<◌, ◌≤◌, true, false, not, nat_eq, ◌&&◌, List, [], ◌∷◌, ◌++◌}
use Rattle.std.proofs.Common.{length, filter, Some, refl, sym, ◌∙◌, subst, inl, inr, arith}
use Rattle.std.proofs.lemmas.Bool.{and_parts, eqb-true, ltb-true}
use Rattle.std.proofs.lemmas.List.{append_assoc}
use Rattle.rc_model.specs.Model.{ServerId, Member, Phase, Opening, Closing, Writing, Message, Body, Append, Close, Ready}
use Rattle.rc_model.specs.Model.{to_coordinator, told_closed, is_closed, all_placed, all_closed, Segment, with_entry, is_ready}
use Rattle.rc_model.specs.Model.{is_all_closed, is_unclosed, with_closes_sent, Log, head_of, old_head_of, has_old_head, has_unclosed}
use Rattle.rc_model.specs.Model.{with_segment, numbers_to}
use Rattle.rc_model.specs.Model.{is_opening, is_closing, is_writing, opens_head, next_digest, shuts, may_start, may_close}
use Rattle.rc_model.specs.Model.{may_write, left_out, with_freed, starts, closes_old, writes_on, Master, with_log, to_ids}
use Rattle.rc_model.specs.Model.{after_replay, ids_of, not_lost, place_of, appends_entry, dead_segments, close_is_due}
use Rattle.rc_model.specs.Model.{close_marked, frees_segments, first_open, wants_commit, commits, new_durable, In}
use Rattle.rc_types.specs.declared.messages.Body.TheVariants as body
use Rattle.rc_model.proofs.Tests.{true_false}
use Rattle.rc_model.proofs.Sending.{each-one, each-to_ids, each-frees, each-write_oks}
use Rattle.rc_model.proofs.Walk.{Joined, Rolls, Followed}
use Rattle.rc_step_laws.proofs.Tests.{all-each, find-one}
use Rattle.rc_step_laws.proofs.Places.{numbers-In}
use Rattle.rc_owner_laws.proofs.Placings.{IsNext, Some_placed, HasClosed, Claims, AllClaim, Placings, PlacedNow, WasShut}
use Rattle.rc_owner_laws.proofs.Placings.{closed_by, placings-say, placings-put}
use Rattle.rc_model.proofs.Measures.{choose-length}
use Rattle.rc_owner_laws.proofs.Rules.{alike-put, opens-put, phase-put, counted-put, placed-kept, kept-put, kept-opens}

-- the rules that test the phase

closing-is : (phase : Phase) → is_closing phase ≡ true → phase ≡ Opening → ⊥
closing-is Opening e same = true_false (sym e)
closing-is Closing e same = cc
closing-is Writing e same = true_false (sym e)

writing-is : (phase : Phase) → is_writing phase ≡ true → phase ≡ Opening → ⊥
writing-is Opening e same = true_false (sym e)
writing-is Closing e same = true_false (sym e)
writing-is Writing e same = cc

writing-opening : Writing ≡ Opening → ⊥
writing-opening e = cc

closing-opening : Closing ≡ Opening → ⊥
closing-opening e = cc

old_above : (log : Log) → has_old_head log ≡ true → 1 < log.head
old_above log e = ltb-true 1 log.head e

-- what a closing message of the master claims
closed-claims : (next : ℕ → Type 0) (ready : Type 0) (placed : ℕ → ℕ → Type 0) (body : Body) {s : ℕ} → closed_by body ≡ Some s →
    Claims next ready placed body → next s
closed-claims next ready placed (body.Place t e digest entries true) {s} is claim =
    let same : t ≡ s = cc in subst next same (claim refl)
closed-claims next ready placed (body.Place t e digest entries false) is claim = cc
closed-claims next ready placed (body.Close t len) {s} is claim = let same : t ≡ s = cc in subst next same claim
closed-claims next ready placed _ is claim = cc

pub closed-next : {f : ℕ} (W : ℕ → ℕ → Type 0) {sent : List Message} {m : ServerId} {log : Log} {s : ℕ} →
    Placings f W sent m log → HasClosed sent m s → IsNext f log.head log.phase s
closed-next {f} W {log} p c =
    closed-claims (IsNext f log.head log.phase) (Some_placed W 1) W c.message.body c.says (p.said c.message c.among c.from)

-- some member of a list that isn't none
pub some-member : (members : List Member) → 0 < length members → (member : Member) × In member members
some-member [] above = absurd (omega arith)
some-member (member ∷ members) above = (member, inl refl)

module _ (f : ℕ) (W : ℕ → ℕ → Type 0) (m : ServerId) where
  -- what is placed after the step was placed at one moment
  abbrev NowIn : Log → Type 0
  NowIn log = (s e : ℕ) → PlacedNow log s e → W s e

  pub record Follows (old : Master) (after : Master × List Message) : Type 0 where
    pub keeps : (s e : ℕ) → PlacedNow old.log s e → PlacedNow after.0.log s e
    pub leads : (sent : List Message) → NowIn after.0.log → Placings f W sent m old.log →
        Placings f W (sent ++ after.1) m after.0.log

  follows-both : (one two : Master) (first : List Message) (after : Master × List Message) → Follows one (two, first) →
      Follows two after → Follows one (after.0, first ++ after.1)
  follows-both one two first after p q = record {
    keeps = λ s e placed. q.keeps s e (p.keeps s e placed);
    leads = λ sent now good. subst (λ (all : List Message). Placings f W all m after.0.log) (append_assoc sent first after.1)
        (q.leads (sent ++ first) now (p.leads sent (λ s e placed. now s e (q.keeps s e placed)) good));
  }

  follows-by : {old new : Master} {messages : List Message} → ((s e : ℕ) → PlacedNow old.log s e → PlacedNow new.log s e) →
      ((sent : List Message) → NowIn new.log → Placings f W sent m old.log → Placings f W sent m new.log) →
      ((sent : List Message) → NowIn new.log → Placings f W sent m old.log → Placings f W sent m new.log →
      AllClaim f W new.log messages) → Follows old (new, messages)
  follows-by {messages} keeps change claim = search (arith, placings-say)

  follows-same : {old new : Master} {messages : List Message} → new.log ≡ old.log → ((log : Log) → AllClaim f W log messages) →
      Follows old (new, messages)
  follows-same {new} same quiet = follows-by (λ s e placed. subst (λ (log : Log). PlacedNow log s e) (sym same) placed)
      (λ sent now good. subst (Placings f W sent m) (sym same) good) (λ sent now good _. quiet new.log)

  pub follows-joined : Joined Follows
  follows-joined = record { still = λ master. follows-same refl (λ log message none. absurd none); both = follows-both }

  -- a segment is marked
  follows-alike : {old : Master} (seg : ℕ) (segment : Segment) {messages : List Message} →
      segment.config ≡ (old.log.segments seg).config → segment.shut ≡ (old.log.segments seg).shut →
      segment.commit_sent ≡ (old.log.segments seg).commit_sent →
      ((sent : List Message) → Placings f W sent m old.log → AllClaim f W (with_segment seg segment old.log) messages) →
      Follows old (with_log old (with_segment seg segment old.log), messages)
  follows-alike seg segment config shut marked claim = follows-by (kept-put seg segment config)
      (λ sent now good. alike-put f W sent m segment good config shut marked) (λ sent now good _. claim sent good)

  -- the old head is shut: a member of it has told closed, so the new head was placed
  follows-marks : (master : Master) → shuts master.log ≡ true →
      Follows master (with_log master (with_segment (master.log.head - 1) (record (old_head_of master.log) { shut = true }) master.log), [])
  follows-marks master e = follows-by
      (kept-put (log.head - 1) (record old { shut = true }) refl) change (λ sent now good _ message none. absurd none)
    where
      log : Log
      log = master.log

      old : Segment
      old = old_head_of master.log

      has_old : 1 < log.head
      has_old = old_above log (and_parts (has_old_head log) (is_all_closed old) e).0

      all_so : all_closed old.config ≡ true
      all_so = (and_parts old.config.committed (all_closed old.config) (and_parts (has_old_head log) (is_all_closed old) e).1).1

      -- of any member
      told_so : (member : Member) → In member old.config.members → told_closed member.told ≡ true
      told_so member at = (and_parts (not member.lost) (told_closed member.told) (all-each is_closed member old.config.members all_so at)).1

      change : (sent : List Message) → NowIn (with_segment (log.head - 1) (record old { shut = true }) log) →
          Placings f W sent m log → Placings f W sent m (with_segment (log.head - 1) (record old { shut = true }) log)
      change sent now good = placings-put W good (record {
        many = (good.each (log.head - 1)).many;
        known = (good.each (log.head - 1)).known;
        next = λ _. by (positive f);
        shut = λ some _. told (some-member old.config.members (enough some));
        asked = (good.each (log.head - 1)).asked;
      })
        where
          enough : 0 < f → 0 < length old.config.members
          enough some = subst (λ n. 0 < n) (sym ((good.each (log.head - 1)).many (omega (arith, has_old)) (omega arith))) some

          told : (member : Member) × In member old.config.members → WasShut sent m (log.head - 1) old.config.epoch
          told (member, at) = record {
            teller = member.id;
            told = ((good.each (log.head - 1)).known member at).shut (told_so member at);
          }

          next_of : (member : Member) × In member old.config.members → IsNext f log.head log.phase (log.head - 1)
          next_of (member, at) =
              closed-next W good (((good.each (log.head - 1)).known member at).closed (told_so member at))

          positive : (n : ℕ) → (n ≡ 0) ⊎ (0 < n)
          positive n = grind arith

          by : (f ≡ 0) ⊎ (0 < f) → IsNext f log.head log.phase (log.head - 1)
          by (inl none) = inr (omega (arith, has_old), λ some. absurd (omega (arith, none, some)))
          by (inr some) = next_of (some-member old.config.members (enough some))

  follows-starts : (master : Master) → may_start master.log ≡ true →
      Follows master (with_log master (starts master.log), to_coordinator master.log.own Ready ∷ [])
  follows-starts master e = follows-by (placed-kept (omega arith) (λ s _. refl))
      (λ sent now good. phase-put f W sent m writing-opening (omega (arith, first), (epoch, placed now)) good)
      (λ sent now good _. each-one _ (epoch, subst (λ n. W n epoch) first (placed now)))
    where
      both : (is_opening master.log.phase ≡ true) × ((nat_eq master.log.head 1 && is_ready (head_of master.log)) ≡ true)
      both = and_parts (is_opening master.log.phase) (nat_eq master.log.head 1 && is_ready (head_of master.log)) e

      first : master.log.head ≡ 1
      first = eqb-true master.log.head 1 (and_parts (nat_eq master.log.head 1) (is_ready (head_of master.log)) both.1).0

      epoch : ℕ
      epoch = (head_of master.log).config.epoch

      placed : NowIn (starts master.log) → W master.log.head epoch
      placed now = now master.log.head epoch (record {
        opened = record { above = omega (arith, first); below = omega arith };
        placed = (and_parts (head_of master.log).config.committed (all_placed (head_of master.log).config)
            (and_parts (nat_eq master.log.head 1) (is_ready (head_of master.log)) both.1).1).1;
        epoch = refl;
      })

  follows-places : (master : Master) → may_close master.log ≡ true → Follows master (with_log master (closes_old master.log), [])
  follows-places master e = follows-by (placed-kept (omega arith) (λ s _. refl))
      (λ sent now good. phase-put f W sent m closing-opening (omega (arith, has_old), (epoch, placed now)) good)
      (λ sent now good _ message none. absurd none)
    where
      both : (has_old_head master.log ≡ true) × (all_placed (head_of master.log).config ≡ true)
      both = and_parts (has_old_head master.log) (all_placed (head_of master.log).config)
          (and_parts (is_opening master.log.phase) (has_old_head master.log && all_placed (head_of master.log).config) e).1

      has_old : 1 < master.log.head
      has_old = old_above master.log both.0

      epoch : ℕ
      epoch = (head_of master.log).config.epoch

      placed : NowIn (closes_old master.log) → W master.log.head epoch
      placed now = now master.log.head epoch
          (record { opened = record { above = omega (arith, has_old); below = omega arith }; placed = both.1; epoch = refl })

  -- the members to which Close goes
  abbrev unclosed : Log → List ServerId
  unclosed log = ids_of (filter (is_unclosed (old_head_of log)) (old_head_of log).config.members)

  follows-closes : (master : Master) → close_is_due master.log ≡ true → Follows master (
    with_log master (close_marked master.log),
    to_ids master.log.own (unclosed master.log) (Close (master.log.head - 1) (length (old_head_of master.log).entries)),
  )
  follows-closes master e =
      follows-alike (master.log.head - 1) (with_closes_sent (old_head_of master.log)) refl refl refl
      (λ sent good. each-to_ids _ (unclosed master.log)
      (λ id _. inr (omega (arith, has_old), λ some. closing-is master.log.phase both.0)))
    where
      both : (is_closing master.log.phase ≡ true) ×
          ((has_old_head master.log && ((old_head_of master.log).config.committed && has_unclosed (old_head_of master.log))) ≡ true)
      both = and_parts (is_closing master.log.phase)
          (has_old_head master.log && ((old_head_of master.log).config.committed && has_unclosed (old_head_of master.log))) e

      has_old : 1 < master.log.head
      has_old = old_above master.log (and_parts (has_old_head master.log)
          ((old_head_of master.log).config.committed && has_unclosed (old_head_of master.log)) both.1).0

  freed-put : (segs : List ℕ) {sent : List Message} {log : Log} → Placings f W sent m log → Placings f W sent m (with_freed segs log)
  freed-put [] p = p
  freed-put (seg ∷ segs) {sent} {log} p = freed-put segs
      (alike-put f W sent m (record (log.segments seg) { freed = true }) p refl refl refl)

  freed-kept : (segs : List ℕ) {log : Log} {s e : ℕ} → PlacedNow log s e → PlacedNow (with_freed segs log) s e
  freed-kept [] p = p
  freed-kept (seg ∷ segs) {log} {s} {e} p = freed-kept segs
      (kept-put seg (record (log.segments seg) { freed = true }) refl s e p)

  follows-shuts : (master : Master) → may_write master.log ≡ true →
      Follows master (with_log master (writes_on master.log), frees_segments master.log (left_out master.log))
  follows-shuts master e = follows-by (λ s n placed. freed-kept (left_out master.log)
      (placed-kept (omega arith) (λ t _. refl) s n placed)) (λ sent now good. freed-put (left_out master.log)
      (phase-put f W sent m writing-opening (good.head_placed (closing-is master.log.phase was)) good))
      (λ sent now good _. each-frees _ master.log (left_out master.log) (λ seg id _. tt))
    where
      was : is_closing master.log.phase ≡ true
      was = (and_parts (is_closing master.log.phase) _ e).0

  follows-commits : (master : Master) (seg : ℕ) → first_open master.log ≡ Some seg →
      wants_commit (master.log.segments seg) ≡ true → Follows master (commits master seg)
  follows-commits master seg found wants = follows-by (kept-put seg marked refl)
      (λ sent now good. placings-put W good (record {
        many = (good.each seg).many;
        known = (good.each seg).known;
        next = (good.each seg).next;
        shut = (good.each seg).shut;
        asked = λ _. placed now;
      })) (λ sent now good _. each-one _ (placed now))
    where
      log : Log
      log = master.log

      marked : Segment
      marked = record (log.segments seg) { commit_sent = true }

      opened : (0 < seg) × (seg ≤ log.head)
      opened = numbers-In seg log.head (find-one (λ s. not (log.segments s).shut) (numbers_to log.head) found).0

      placed : NowIn (with_segment seg marked log) → W seg (log.segments seg).config.epoch
      placed now = now seg (log.segments seg).config.epoch (kept-put seg marked refl seg (log.segments seg).config.epoch (record {
        opened = record { above = opened.0; below = opened.1 };
        placed = (and_parts (all_placed (log.segments seg).config) (not (log.segments seg).commit_sent)
            (and_parts (not (log.segments seg).config.committed) (all_placed (log.segments seg).config && not
            (log.segments seg).commit_sent) wants).1).0;
        epoch = refl;
      }))

  follows-rolls : (master : Master) → Rolls Follows master
  follows-rolls master ids writing room chosen = follows-by
      (kept-opens (next_digest master.log (dead_segments master)) ids)
      (λ sent now good. opens-put f W sent m (next_digest master.log (dead_segments master)) ids
      (choose-length (master.log.head + 1) master.log.own master.known chosen ∙ good.factor)
      (inl (writing-is master.log.phase writing)) good) (λ sent now good _. each-to_ids _ _
      (λ id _ never. true_false (sym never)))

  pub follows-followed : Followed Follows
  follows-followed = record {
    marks = follows-marks;
    starts = follows-starts;
    places = follows-places;
    closes = follows-closes;
    shuts = follows-shuts;
    commits = follows-commits;
    counts = λ master more. follows-by (placed-kept (omega arith) (λ s _. refl))
        (λ sent now good. counted-put f W sent m good)
        (λ sent now good _. each-write_oks _ (new_durable master.log) (λ place _ _. tt));
    rolls = follows-rolls;
    replays = λ master entry entries is writing room. follows-both master (record master { ownership = after_replay master.ownership }) []
        (appends_entry (record master { ownership = after_replay master.ownership }) entry false)
        (follows-same refl (λ log message none. absurd none)) (follows-alike master.log.head
        (with_entry entry false (head_of master.log)) refl refl refl
        (λ sent good. each-to_ids _ (ids_of (not_lost (head_of master.log).config.members)) (λ id _. tt)));
    answers = λ master term is. follows-same refl (λ log. each-one _ tt);
  }
