-- What a step does to a log: which segments take entries, and where a head begins to be written in.
use Rattle.std.proofs.Common.{◌≡◌, ◌⊎◌, inl, inr, ℕ, ◌+◌, ◌-◌, ◌<◌, ◌≤◌, Bool, true, false, cond, nat_eq, ◌&&◌, List, [], ◌∷◌}
use Rattle.std.proofs.Common.{Result, Ok, Err, refl, sym, ap, ◌∙◌, arith}
use Rattle.std.proofs.lemmas.Bool.{and_parts, eqb-true, eq-eqb}
use Rattle.rc_model.specs.Model.{ServerId, Addr, Fault, Phase, Opening, Entry, Body, ServerList, Config}
use Rattle.rc_model.specs.Model.{all_placed, noted, committed_at, Segment, with_closes_sent, Log}
use Rattle.rc_model.specs.Model.{head_of, with_segment, old_head_of, has_old_head, has_segment, is_opening, is_closing, is_writing}
use Rattle.rc_model.specs.Model.{is_ready, may_start, may_close, may_write, left_out, with_freed, starts, writes_on, with_config}
use Rattle.rc_model.specs.Model.{opens_change, refills, loses}
use Rattle.rc_model.specs.Model.{opens_head, appends, Master, ticks, obeys_list, master_takes_first, goes_on}
use Rattle.rc_model.specs.HeadClaims.{MayTakeData, IsWritingIn, WritesWhereItMay, HasItsEntries, AppendsWhereItWrites}
use Rattle.rc_model.proofs.Tests.{either, true_false}
use Rattle.rc_model.proofs.Tables.{put_each, put-other, put-same}
use Rattle.rc_model.proofs.Walk.{OfLog, LogJoined, LogListed, LogWritten, LogFollowed, of_log-joined, of_log-listed, of_log-taken}
use Rattle.rc_model.proofs.Walk.{of_log-ticked, of_log-followed, kept-goes_on, kept-takes_first, kept-ticks_first, kept-obeys}

-- numbers
pub upto_or : {a b : ℕ} → (a ≤ b) ⊎ (b < a)
upto_or = grind arith

-- where its entries are the same the head stays
has-refl : {log : Log} {s : ℕ} → s ≤ log.head → HasItsEntries log log s
has-refl upto = record { still = λ _. refl; none = λ above. absurd (omega (arith, upto, above)) }

has-both : {a b c : Log} {s : ℕ} → a.head ≤ b.head → HasItsEntries a b s → HasItsEntries b c s → HasItsEntries a c s
has-both {a} {b} {c} {s} less p q = search (arith, upto_or)

-- Inputs

-- an input begins no writing, and appends to the head that is written in
pub record InputLeads (old new : Log) : Type 0 where
  pub own : new.own ≡ old.own
  pub head : old.head ≤ new.head
  pub phase : ((new.phase ≡ old.phase) × (new.head ≡ old.head)) ⊎ (new.phase ≡ Opening)
  pub asked : (s : ℕ) → (new.segments s).commit_sent ≡ true → (old.segments s).commit_sent ≡ true
  pub entries : (s : ℕ) → s ≤ new.head → HasItsEntries old new s ⊎ IsWritingIn old s

pub input-refl : (log : Log) → InputLeads log log
input-refl log = search (arith, has-refl)

-- what was so in a phase was so in it before
phase-was : (test : Phase → Bool) (old new : Log) → test Opening ≡ false →
    ((new.phase ≡ old.phase) × (new.head ≡ old.head)) ⊎ (new.phase ≡ Opening) → test new.phase ≡ true →
    (test old.phase ≡ true) × (new.head ≡ old.head)
phase-was test old new isn't (inl same) is = (ap test (sym same.0) ∙ is, same.1)
phase-was test old new isn't (inr opened) is = true_false (sym is ∙ (ap test opened ∙ isn't))

pub writing-was : {old new : Log} → InputLeads old new → {s : ℕ} → IsWritingIn new s → IsWritingIn old s
writing-was {old} {new} p is = let was = phase-was is_writing old new refl p.phase is.0 in (was.0, is.1 ∙ was.1)

pub closing-was : {old new : Log} → InputLeads old new → is_closing new.phase ≡ true →
    (is_closing old.phase ≡ true) × (new.head ≡ old.head)
closing-was {old} {new} p is = phase-was is_closing old new refl p.phase is

input-both : (a b c : Log) → InputLeads a b → InputLeads b c → InputLeads a c
input-both a b c p q = record {
  own = q.own ∙ p.own;
  head = omega (arith, p.head, q.head);
  phase = joins p.phase q.phase;
  asked = λ s e. p.asked s (q.asked s e);
  entries = λ s upto. by s (q.entries s upto);
}
  where
    joins : ((b.phase ≡ a.phase) × (b.head ≡ a.head)) ⊎ (b.phase ≡ Opening) →
        ((c.phase ≡ b.phase) × (c.head ≡ b.head)) ⊎ (c.phase ≡ Opening) →
        ((c.phase ≡ a.phase) × (c.head ≡ a.head)) ⊎ (c.phase ≡ Opening)
    joins r (inr opened) = inr opened
    joins (inl was) (inl same) = inl (same.0 ∙ was.0, same.1 ∙ was.1)
    joins (inr opened) (inl same) = inr (same.0 ∙ opened)

    known : (s : ℕ) → HasItsEntries b c s → HasItsEntries a b s ⊎ IsWritingIn a s → HasItsEntries a c s ⊎ IsWritingIn a s
    known s has (inl had) = inl (has-both p.head had has)
    known s has (inr wrote) = inr wrote

    new : (s : ℕ) → b.head < s → HasItsEntries b c s → HasItsEntries a c s ⊎ IsWritingIn a s
    new s over has = inl (record { still = λ upto. absurd (omega (arith, over, upto, p.head)); none = λ above. has.none over })

    by : (s : ℕ) → HasItsEntries b c s ⊎ IsWritingIn b s → HasItsEntries a c s ⊎ IsWritingIn a s
    by s (inr wrote) = inr (writing-was p wrote)
    by s (inl has) = search (arith, upto_or, known, new)

inputs : LogJoined InputLeads
inputs = record { still = input-refl; both = input-both }

-- a segment changes, but for its entries
input-put : (log : Log) (seg : ℕ) (segment : Segment) → segment.entries ≡ (log.segments seg).entries →
    (segment.commit_sent ≡ true → (log.segments seg).commit_sent ≡ true) → InputLeads log (with_segment seg segment log)
input-put log seg segment same asked = search (arith, put_each)

-- the entries of a segment below the head are not the new head's
below-head : (log : Log) (digest : List ℕ) (ids : List ServerId) {s : ℕ} → s ≤ log.head →
    (opens_head log digest ids).segments s ≡ log.segments s
below-head log digest ids {s} upto = search (arith, put-other, nat_eq, eqb-true)

opened-entries : {log : Log} (digest : List ℕ) (ids : List ServerId) {s : ℕ} → s ≤ log.head + 1 →
    HasItsEntries log (opens_head log digest ids) s
opened-entries {log} digest ids {s} upto = search (arith, below-head, put-same)

input-opens : {log : Log} (digest : List ℕ) (ids : List ServerId) → InputLeads log (opens_head log digest ids)
input-opens {log} digest ids = search (arith, put_each, true_false, opened-entries)

-- the head takes an entry
beside-head : (log : Log) (entry : Entry) (client : Bool) {s : ℕ} → (s ≡ log.head → ⊥) →
    (appends entry client log).segments s ≡ log.segments s
beside-head log entry client {s} isn't = search (arith, put-other, nat_eq, eqb-true)

same_or : {a b : ℕ} → (a ≡ b) ⊎ (a ≡ b → ⊥)
same_or {a} {b} = search (arith, nat_eq, eqb-true, true_false, eq-eqb)

input-appends : (entry : Entry) (client : Bool) {log : Log} → is_writing log.phase ≡ true → InputLeads log (appends entry client log)
input-appends entry client {log} writing = search (arith, put_each, same_or, beside-head)

input-change : (seg : ℕ) {log : Log} (answer : Config × Result Bool Fault) → InputLeads log (opens_change seg log answer).0
input-change seg {log} (config, Ok true) =
    input-put log seg (record (log.segments seg) { config = config; commit_sent = false; closes_sent = [] }) refl (λ e. true_false (sym e))
input-change seg {log} (config, Ok false) = input-put log seg (record (log.segments seg) { config = config }) refl (λ e. e)
input-change seg {log} (config, Err fault) = input-put log seg (record (log.segments seg) { config = config }) refl (λ e. e)

input-refills : (seg : ℕ) {log : Log} (answer : Config × Result (List ServerId) Fault) → InputLeads log (refills seg log answer).0
input-refills seg {log} (config, answer) = input-put log seg (record (log.segments seg) { config = config }) refl (λ e. e)

input-loses : (servers : ServerList) (seg : ℕ) (log : Log) → InputLeads log (loses servers seg log).0
input-loses servers seg log = search (arith, either, input-refills, input-change)

input-if : {log : Log} (b : Bool) (seg : ℕ) (config : Config) → InputLeads log (cond b (with_config seg config log) log)
input-if {log} b seg config = either (InputLeads log) b (with_config seg config log) log
    (λ _. input-put log seg (record (log.segments seg) { config = config }) refl (λ e. e)) (λ _. input-refl log)

listed : LogListed InputLeads
listed = record { replaces = input-loses; opens = λ servers log ids none chosen. input-opens (1 ∷ []) ids }

written : LogWritten InputLeads
written = search (arith, input-opens, input-appends)

pub takes_first-leads : (master : Master) (from : Addr) (body : Body) → InputLeads master.log (master_takes_first master from body).0.log
takes_first-leads master from body =
    kept-takes_first (OfLog InputLeads) (of_log-joined InputLeads inputs) (of_log-listed InputLeads inputs listed) from body
    (of_log-taken InputLeads inputs written (λ teller seg epoch len closed is says.
    input-if (has_segment master.log seg) seg (noted teller epoch len closed (master.log.segments seg).config))
    (λ seg epoch is. input-if (has_segment master.log seg) seg (committed_at epoch (master.log.segments seg).config)))

pub obeys-leads : (master : Master) → InputLeads master.log (obeys_list master).0.log
obeys-leads = kept-obeys (OfLog InputLeads) (of_log-joined InputLeads inputs) (of_log-listed InputLeads inputs listed)

pub ticks_first-leads : (master : Master) → InputLeads master.log (ticks master).0.log
ticks_first-leads = kept-ticks_first (OfLog InputLeads) (of_log-joined InputLeads inputs) (of_log-listed InputLeads inputs listed)
    (of_log-ticked InputLeads inputs)

-- The rules that follow up

-- members stay, shut is for good, and a head that begins to be written in, or to close the one before it, may
pub record FollowLeads (old new : Log) : Type 0 where
  pub own : new.own ≡ old.own
  pub head : old.head ≤ new.head
  pub configs : (s : ℕ) → s ≤ old.head → (new.segments s).config ≡ (old.segments s).config
  pub shut : (s : ℕ) → s ≤ old.head → (old.segments s).shut ≡ true → (new.segments s).shut ≡ true
  pub final : (s : ℕ) → s < old.head → (new.segments s).entries ≡ (old.segments s).entries
  pub writing : (s : ℕ) → IsWritingIn new s → IsWritingIn old s ⊎ MayTakeData new s
  pub closing : is_closing new.phase ≡ true →
      ((is_closing old.phase ≡ true) × (new.head ≡ old.head)) ⊎ (all_placed (new.segments new.head).config ≡ true)
  pub entries : (s : ℕ) → s ≤ new.head → HasItsEntries old new s ⊎ (IsWritingIn old s ⊎ MayTakeData new s)

-- what may take data still may
pub may-later : {b c : Log} {s : ℕ} → FollowLeads b c → s ≤ b.head → MayTakeData b s → MayTakeData c s
may-later {b} {c} {s} q upto p = search arith

follow-refl : (log : Log) → FollowLeads log log
follow-refl log = search (arith, has-refl)

follow-both : (a b c : Log) → FollowLeads a b → FollowLeads b c → FollowLeads a c
follow-both a b c p q = record {
  own = q.own ∙ p.own;
  head = omega (arith, p.head, q.head);
  configs = λ s upto. q.configs s (omega (arith, upto, p.head)) ∙ p.configs s upto;
  shut = λ s upto is. q.shut s (omega (arith, upto, p.head)) (p.shut s upto is);
  final = λ s below. q.final s (omega (arith, below, p.head)) ∙ p.final s below;
  writing = λ s is. wrote s (q.writing s is);
  closing = λ is. closed (q.closing is);
  entries = λ s upto. by s (q.entries s upto);
}
  where
    from : (s : ℕ) → s ≤ b.head → IsWritingIn a s ⊎ MayTakeData b s → IsWritingIn a s ⊎ MayTakeData c s
    from s upto (inl was) = inl was
    from s upto (inr may) = inr (may-later q upto may)

    wrote : (s : ℕ) → IsWritingIn b s ⊎ MayTakeData c s → IsWritingIn a s ⊎ MayTakeData c s
    wrote s (inr may) = inr may
    wrote s (inl is) = from s (omega (arith, is.1)) (p.writing s is)

    began : (c.head ≡ b.head) → ((is_closing a.phase ≡ true) × (b.head ≡ a.head)) ⊎ (all_placed (b.segments b.head).config ≡ true) →
        ((is_closing a.phase ≡ true) × (c.head ≡ a.head)) ⊎ (all_placed (c.segments c.head).config ≡ true)
    began same (inl was) = inl (was.0, same ∙ was.1)
    began same (inr placed) = inr (ap (λ k. all_placed (c.segments k).config) same ∙
        (ap all_placed (q.configs b.head (omega arith)) ∙ placed))

    closed : ((is_closing b.phase ≡ true) × (c.head ≡ b.head)) ⊎ (all_placed (c.segments c.head).config ≡ true) →
        ((is_closing a.phase ≡ true) × (c.head ≡ a.head)) ⊎ (all_placed (c.segments c.head).config ≡ true)
    closed (inr placed) = inr placed
    closed (inl is) = began is.1 (p.closing is.0)

    known : (s : ℕ) → s ≤ b.head → HasItsEntries b c s → HasItsEntries a b s ⊎ (IsWritingIn a s ⊎ MayTakeData b s) →
        HasItsEntries a c s ⊎ (IsWritingIn a s ⊎ MayTakeData c s)
    known s upto has (inl had) = inl (has-both p.head had has)
    known s upto has (inr other) = inr (from s upto other)

    by : (s : ℕ) → HasItsEntries b c s ⊎ (IsWritingIn b s ⊎ MayTakeData c s) →
        HasItsEntries a c s ⊎ (IsWritingIn a s ⊎ MayTakeData c s)
    by s (inr other) = inr (wrote s other)
    by s (inl has) = which upto_or
      where
        which : (s ≤ b.head) ⊎ (b.head < s) → HasItsEntries a c s ⊎ (IsWritingIn a s ⊎ MayTakeData c s)
        which (inl upto) = known s upto has (p.entries s upto)
        which (inr over) = inl (record {
          still = λ upto. absurd (omega (arith, over, upto, p.head));
          none = λ above. has.none over;
        })

follows : LogJoined FollowLeads
follows = record { still = follow-refl; both = follow-both }

-- a segment is marked
follow-put : {log : Log} (seg : ℕ) (segment : Segment) → segment.config ≡ (log.segments seg).config →
    segment.entries ≡ (log.segments seg).entries → ((log.segments seg).shut ≡ true → segment.shut ≡ true) →
    FollowLeads log (with_segment seg segment log)
follow-put {log} seg segment config same shut = search (arith, put_each)

-- the phase changes
follow-phase : {log : Log} {phase : Phase} → (is_writing phase ≡ true → MayTakeData log log.head) →
    (is_closing phase ≡ true → all_placed (head_of log).config ≡ true) → FollowLeads log (record log { phase = phase })
follow-phase {log} may placed = search arith

follow-freed : (segs : List ℕ) {log : Log} → FollowLeads log (with_freed segs log)
follow-freed [] {log} = follow-refl log
follow-freed (seg ∷ segs) {log} =
    let next : Log = with_segment seg (record (log.segments seg) { freed = true }) log in
    follow-both log next (with_freed segs next) (follow-put seg (record (log.segments seg) { freed = true }) refl refl (λ e. e))
    (follow-freed segs)

follow-opens : {log : Log} (digest : List ℕ) (ids : List ServerId) → FollowLeads log (opens_head log digest ids)
follow-opens {log} digest ids = search (arith, below-head, true_false, opened-entries)

follow-appends : (entry : Entry) (client : Bool) (log : Log) → is_writing log.phase ≡ true → FollowLeads log (appends entry client log)
follow-appends entry client log writing = search (arith, put_each, beside-head, same_or)

-- where the first head starts, and the next one writes on
ready-parts : (segment : Segment) → is_ready segment ≡ true →
    (segment.config.committed ≡ true) × (all_placed segment.config ≡ true)
ready-parts segment e = and_parts segment.config.committed (all_placed segment.config) e

pub start-may : {log : Log} → may_start log ≡ true → MayTakeData log log.head
start-may {log} may = search (arith, and_parts, nat_eq, ready-parts, eqb-true)

pub write-may : {log : Log} → may_write log ≡ true → MayTakeData log log.head
write-may {log} may = search (arith, and_parts, ready-parts)

pub close-may : (log : Log) → may_close log ≡ true → all_placed (head_of log).config ≡ true
close-may log may = (and_parts (has_old_head log) (all_placed (head_of log).config)
    (and_parts (is_opening log.phase) (has_old_head log && all_placed (head_of log).config) may).1).1

pub followed : LogFollowed FollowLeads
followed = record {
  marks = λ log is. follow-put (log.head - 1) (record (old_head_of log) { shut = true }) refl refl (λ _. refl);
  starts = λ log may. follow-phase (λ _. start-may may) (λ is. true_false (sym is));
  places = λ log may. follow-phase (λ is. true_false (sym is)) (λ _. close-may log may);
  closes = λ log due. follow-put (log.head - 1) (with_closes_sent (old_head_of log)) refl refl (λ e. e);
  shuts = λ log may. follow-both log (starts log) (writes_on log)
      (follow-phase (λ _. write-may may) (λ is. true_false (sym is))) (follow-freed (left_out log));
  commits = λ log seg. follow-put seg (record (log.segments seg) { commit_sent = true }) refl refl (λ e. e);
  counts = λ log more. record {
    own = refl;
    head = omega arith;
    configs = λ s upto. refl;
    shut = λ s upto is. is;
    final = λ s below. refl;
    writing = λ s is. inl is;
    closing = λ is. inl (is, refl);
    entries = λ s upto. inl (record { still = λ _. refl; none = λ above. absurd (omega (arith, upto, above)) });
  };
}

pub follow-written : LogWritten FollowLeads
follow-written = search (arith, follow-opens, follow-appends)

pub follow-joined : LogJoined FollowLeads
follow-joined = follows

pub goes-leads : (master : Master) → FollowLeads master.log (goes_on master).0.log
goes-leads = kept-goes_on (OfLog FollowLeads) (of_log-joined FollowLeads follows)
    (of_log-followed FollowLeads follows follow-written followed)

-- Both

-- an input, and what follows it
pub record StepLeads (old new : Log) : Type 0 where
  pub writing : WritesWhereItMay old new
  pub entries : AppendsWhereItWrites old new

pub step-leads : {a b c : Log} → InputLeads a b → FollowLeads b c → StepLeads a c
step-leads {a} {b} {c} p q = record { writing = λ s is. wrote s (q.writing s is); entries = λ s upto. by s (q.entries s upto) }
  where
    wrote : (s : ℕ) → IsWritingIn b s ⊎ MayTakeData c s → IsWritingIn a s ⊎ MayTakeData c s
    wrote s (inl is) = inl (writing-was p is)
    wrote s (inr may) = inr may

    known : (s : ℕ) → HasItsEntries b c s → HasItsEntries a b s ⊎ IsWritingIn a s →
        HasItsEntries a c s ⊎ (IsWritingIn a s ⊎ MayTakeData c s)
    known s has (inl had) = inl (has-both p.head had has)
    known s has (inr was) = inr (inl was)

    by : (s : ℕ) → HasItsEntries b c s ⊎ (IsWritingIn b s ⊎ MayTakeData c s) →
        HasItsEntries a c s ⊎ (IsWritingIn a s ⊎ MayTakeData c s)
    by s (inr other) = inr (wrote s other)
    by s (inl has) = which upto_or
      where
        which : (s ≤ b.head) ⊎ (b.head < s) → HasItsEntries a c s ⊎ (IsWritingIn a s ⊎ MayTakeData c s)
        which (inl upto) = known s has (p.entries s upto)
        which (inr over) = inl (record {
          still = λ upto. absurd (omega (arith, over, upto, p.head));
          none = λ above. has.none over;
        })

pub step-same : {log : Log} → StepLeads log log
step-same = record { writing = λ s is. inl is; entries = λ s upto. inl (has-refl upto) }
