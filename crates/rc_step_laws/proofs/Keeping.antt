-- A master that frees nothing keeps each segment in each digest.
use Rattle.std.proofs.Common.{◌≡◌, ◌⊎◌, ℕ, ◌+◌, ◌-◌, ◌<◌, ◌≤◌, Bool, true, false, cond, not, ◌||◌, nat_eq, List, []}
use Rattle.std.proofs.Common.{◌∷◌, filter, Result, Ok, Err, refl, sym, ap, subst, inl, inr, arith}
use Rattle.std.specs.List.{list_any}
use Rattle.rc_model.specs.Model.{ServerId, Addr, Fault, Message, Body, ServerList, Config, noted, committed_at, Segment}
use Rattle.rc_model.specs.Model.{with_entry, under_new_epoch, with_closes_sent, Log, head_of, old_head_of, with_segment}
use Rattle.rc_model.specs.Model.{has_segment, opens_head, next_digest, with_config, opens_change, loses, left_out, with_freed}
use Rattle.rc_model.specs.Model.{Master, with_log, dead_segments, is_dead_segment, written, master_takes, master_ticks, In}
use Rattle.rc_model.proofs.Members.{In-left, In-right}
use Rattle.rc_model.proofs.Tables.{put_each}
use Rattle.rc_model.proofs.Changes.{all-stay}
use Rattle.rc_model.proofs.Walk.{Joined, Listed, Rolls, Taken, Followed, kept-takes, kept-ticks}
use Rattle.rc_step_laws.proofs.MasterWorlds.{put-cases}

-- each digest has every segment up to its own
abbrev pub WholeLog : Log → Type 0
WholeLog log = (s t : ℕ) → s ≤ log.head → 0 < t → t ≤ s → In t (log.segments s).digest

-- a master that frees nothing, and whose digests have all
pub record Keeps (master : Master) : Type 0 where
  pub free : master.free ≡ false
  pub whole : WholeLog master.log

abbrev pub KeepsAfter : Master × List Message → Type 0
KeepsAfter after = Keeps after.0

abbrev Kept : Master → Master × List Message → Type 0
Kept master after = Keeps master → KeepsAfter after

-- Segments

-- a segment is changed, but for its digest
whole-put : (log : Log) {seg : ℕ} (segment : Segment) → segment.digest ≡ (log.segments seg).digest → WholeLog log →
    WholeLog (with_segment seg segment log)
whole-put log {seg} segment same w s t upto above below = search (arith, put_each)

-- the number below, or the last
last_or : {t n : ℕ} → t ≤ n + 1 → (t ≡ n + 1) ⊎ (t ≤ n)
last_or p = grind arith

-- a new head
whole-opened : (log : Log) (digest : List ℕ) (ids : List ServerId) → WholeLog log →
    ((t : ℕ) → 0 < t → t ≤ log.head + 1 → In t digest) → WholeLog (opens_head log digest ids)
whole-opened log digest ids w all s t upto above below = search (arith, put-cases, last_or)

whole-next : (log : Log) → WholeLog log → (t : ℕ) → 0 < t → t ≤ log.head + 1 → In t (next_digest log [])
whole-next log w t above upto = by (last_or upto)
  where
    by : (t ≡ log.head + 1) ⊎ (t ≤ log.head) → In t (next_digest log [])
    by (inl same) = In-right t (filter (λ seg. nat_eq seg log.head || not (list_any (nat_eq seg) []))
        (head_of log).digest) ((log.head + 1) ∷ []) (inl same)
    by (inr less) = In-left t (filter (λ seg. nat_eq seg log.head || not (list_any (nat_eq seg) []))
        (head_of log).digest) ((log.head + 1) ∷ [])
        (subst (λ (digest : List ℕ). In t digest) (sym (all-stay log.head (head_of log).digest)) (w log.head t (omega arith) above less))

-- where nothing is freed
none-dead : (master : Master) → master.free ≡ false → dead_segments master ≡ []
none-dead master keeps = ap (λ (b : Bool). cond b (filter (is_dead_segment master) (head_of master.log).digest) []) keeps

keeps-put : {master : Master} (seg : ℕ) (segment : Segment) → segment.digest ≡ (master.log.segments seg).digest →
    Keeps master → Keeps (with_log master (with_segment seg segment master.log))
keeps-put {master} seg segment same k = record { free = k.free; whole = whole-put master.log segment same k.whole }

keeps-rolls : (master : Master) → Rolls Kept master
keeps-rolls master ids writing room chosen k = search (arith, whole-opened, none-dead, whole-next)

-- The rules that follow up

whole-freed : (segs : List ℕ) (log : Log) → WholeLog log → WholeLog (with_freed segs log)
whole-freed [] log w = w
whole-freed (seg ∷ segs) log w = whole-freed segs (with_segment seg (record (log.segments seg) { freed = true }) log)
    (whole-put log (record (log.segments seg) { freed = true }) refl w)

keeps-followed : Followed Kept
keeps-followed = record {
  marks = λ master is. keeps-put (master.log.head - 1) (record (old_head_of master.log) { shut = true }) refl;
  starts = λ master may k. record { free = k.free; whole = k.whole };
  places = λ master may k. record { free = k.free; whole = k.whole };
  closes = λ master due. keeps-put (master.log.head - 1) (with_closes_sent (old_head_of master.log)) refl;
  shuts = λ master may k. record { free = k.free; whole = whole-freed (left_out master.log) _ k.whole };
  commits = λ master seg open_one wants. keeps-put seg (record (master.log.segments seg) { commit_sent = true }) refl;
  counts = λ master more k. record { free = k.free; whole = k.whole };
  rolls = keeps-rolls;
  replays = λ master entry entries is writing room k. record {
    free = k.free;
    whole = whole-put master.log (with_entry entry false (head_of master.log)) refl k.whole;
  };
  answers = λ master term is k. record { free = k.free; whole = k.whole };
}

-- Inputs

whole-change : (seg : ℕ) (log : Log) (answer : Config × Result Bool Fault) → WholeLog log → WholeLog (opens_change seg log answer).0
whole-change seg log (config, Ok true) w = whole-put log (under_new_epoch config (log.segments seg)) refl w
whole-change seg log (config, Ok false) w = whole-put log (record (log.segments seg) { config = config }) refl w
whole-change seg log (config, Err fault) w = whole-put log (record (log.segments seg) { config = config }) refl w

whole-loses : (servers : ServerList) (seg : ℕ) (log : Log) → WholeLog log → WholeLog (loses servers seg log).0
whole-loses servers seg log w = search (arith, whole-put, whole-change)

keeps-listed : Listed Kept
keeps-listed = search (arith, whole-loses, whole-opened)

keeps-config : {master : Master} (b : Bool) (seg : ℕ) (config : Config) → Keeps master →
    Keeps (with_log master (cond b (with_config seg config master.log) master.log))
keeps-config {master} b seg config k = search (arith, keeps-put)

keeps-taken : {master : Master} {from : Addr} {body : Body} → Taken Kept master from body
keeps-taken {master} = record {
  refuses = λ one fault k. k;
  rolls = keeps-rolls master;
  writes = λ term table key value is owned writing room. keeps-put master.log.head
      (with_entry (written master term table key value) true (head_of master.log)) refl;
  reads = λ term table key is owned k. k;
  lists = λ version rows is newer k. record { free = k.free; whole = k.whole };
  stores = λ teller seg epoch len closed is told. keeps-config (has_segment master.log seg) seg
      (noted teller epoch len closed (master.log.segments seg).config);
  commits = λ seg epoch is. keeps-config (has_segment master.log seg) seg (committed_at epoch (master.log.segments seg).config);
  deposes = λ k. record { free = k.free; whole = k.whole };
  begins = λ one attempt crashed head rows parts part is at new k. record { free = k.free; whole = k.whole };
  comes = λ holder attempt seg term entries is says k. record { free = k.free; whole = k.whole };
  owns = λ range term previous attempt is k. record { free = k.free; whole = k.whole };
}

-- Whole steps

keeps-joined : Joined Kept
keeps-joined = record { still = λ master k. k; both = λ one two first after p q k. q (p k) }

pub keeps-takes : {master : Master} (from : Addr) (body : Body) → Keeps master → KeepsAfter (master_takes master from body)
keeps-takes {master} from body = kept-takes Kept keeps-joined keeps-listed keeps-followed keeps-taken

pub keeps-ticks : (master : Master) → Keeps master → KeepsAfter (master_ticks master)
keeps-ticks = kept-ticks Kept keeps-joined keeps-listed keeps-followed
    (record { enlists = λ master k. k; reminds = λ before master k. k })
