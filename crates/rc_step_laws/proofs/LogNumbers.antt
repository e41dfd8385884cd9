-- What the rules of a log do to the versions of its entries.
use Rattle.std.proofs.Common.{ℕ, zero, suc, ◌≡◌, ◌+◌, ◌≤◌, Bool, true, false, List, [], ◌∷◌, map}
use Rattle.std.proofs.Common.{Result, Ok, Err, refl, sym, ap, subst}
use Rattle.std.proofs.lemmas.List.Elements.{All-nil, All-append}
use Rattle.rc_model.specs.Model.{ServerId, Entry, Fault, ServerList, Config, noted, committed_at, lose, refill, Segment, new_segment}
use Rattle.rc_model.specs.Model.{with_entry, Log, LogPlace, places_in, places_to, entries_of, head_of, with_segment, has_segment}
use Rattle.rc_model.specs.Model.{opens_head, appends, with_config, stored, commit_noted, opens_change, refills, loses, with_freed}
use Rattle.rc_step_laws.proofs.Lists.{map-append}
use Rattle.rc_step_laws.specs.Numbers.{VersionsUpTo, LogWithin}
use Rattle.rc_step_laws.proofs.Entries.{versions-push}
use Rattle.rc_model.proofs.Tests.{either}
use Rattle.rc_model.proofs.Tables.{put_each}

-- the entries of all places are those of the segments
entries-in : (seg offset : ℕ) (entries : List (Entry × Bool)) →
    map (λ (place : LogPlace). place.entry) (places_in seg offset entries) ≡ map (λ one. one.0) entries
entries-in seg offset [] = refl
entries-in seg offset (one ∷ entries) = ap (λ (rest : List Entry). one.0 ∷ rest) (entries-in seg (offset + 1) entries)

entries-to : {n : ℕ} (segments : ℕ → Segment) →
    ((seg : ℕ) → VersionsUpTo n (map (λ one. one.0) (segments seg).entries)) → (head : ℕ) →
    VersionsUpTo n (map (λ (place : LogPlace). place.entry) (places_to segments head))
entries-to {n} segments each zero = All-nil (λ (entry : Entry). entry.version ≤ n)
entries-to {n} segments each (suc s) =
    subst (VersionsUpTo n) (sym (map-append (λ (place : LogPlace). place.entry) (places_to segments s)
    (places_in (suc s) 0 (segments (suc s)).entries)))
    (All-append (λ (entry : Entry). entry.version ≤ n) (map (λ (place : LogPlace). place.entry) (places_to segments s))
    (map (λ (place : LogPlace). place.entry) (places_in (suc s) 0 (segments (suc s)).entries))
    (entries-to segments each s) (subst (VersionsUpTo n) (sym (entries-in (suc s) 0 (segments (suc s)).entries)) (each (suc s))))

pub entries-within : {n : ℕ} (log : Log) → LogWithin n log → VersionsUpTo n (entries_of log)
entries-within log each = entries-to log.segments each log.head

module _ (n : ℕ) where
  pub put-within : (log : Log) (seg : ℕ) (segment : Segment) → LogWithin n log →
      VersionsUpTo n (map (λ one. one.0) segment.entries) → LogWithin n (with_segment seg segment log)
  put-within log seg segment each new =
      put_each (λ s (one : Segment). VersionsUpTo n (map (λ (e : Entry × Bool). e.0) one.entries)) log.segments seg
      segment new each

  pub opens-within : (log : Log) (digest : List ℕ) (ids : List ServerId) → LogWithin n log → LogWithin n (opens_head log digest ids)
  opens-within log digest ids each =
      put_each (λ s (one : Segment). VersionsUpTo n (map (λ (e : Entry × Bool). e.0) one.entries)) log.segments
      (log.head + 1) (new_segment (log.head + 1) digest ids) (All-nil (λ (entry : Entry). entry.version ≤ n)) each

  pub appends-within : (entry : Entry) (client : Bool) (log : Log) → LogWithin n log → entry.version ≤ n →
      LogWithin n (appends entry client log)
  appends-within entry client log each less = put-within log log.head (with_entry entry client (head_of log)) each
      (versions-push (head_of log).entries entry client (each log.head) less)

  config-within : (seg : ℕ) (config : Config) (log : Log) → LogWithin n log → LogWithin n (with_config seg config log)
  config-within seg config log each = put-within log seg (record (log.segments seg) { config = config }) each (each seg)

  pub stored-within : (seg : ℕ) (from : ServerId) (epoch len : ℕ) (closed : Bool) (log : Log) → LogWithin n log →
      LogWithin n (stored seg from epoch len closed log)
  stored-within seg from epoch len closed log each =
      either (LogWithin n) (has_segment log seg) (with_config seg (noted from epoch len closed (log.segments seg).config) log) log
      (λ e. config-within seg (noted from epoch len closed (log.segments seg).config) log each) (λ e. each)

  pub commit-within : (seg epoch : ℕ) (log : Log) → LogWithin n log → LogWithin n (commit_noted seg epoch log)
  commit-within seg epoch log each =
      either (LogWithin n) (has_segment log seg) (with_config seg (committed_at epoch (log.segments seg).config) log) log
      (λ e. config-within seg (committed_at epoch (log.segments seg).config) log each) (λ e. each)

  change-within : (seg : ℕ) (log : Log) (done : Config × Result Bool Fault) → LogWithin n log → LogWithin n (opens_change seg log done).0
  change-within seg log (config, Ok true) each = put-within log seg _ each (each seg)
  change-within seg log (config, Ok false) each = config-within seg config log each
  change-within seg log (config, Err fault) each = config-within seg config log each

  refills-within : (seg : ℕ) (log : Log) (done : Config × Result (List ServerId) Fault) → LogWithin n log →
      LogWithin n (refills seg log done).0
  refills-within seg log (config, answer) each = config-within seg config log each

  pub loses-within : (servers : ServerList) (seg : ℕ) (log : Log) → LogWithin n log → LogWithin n (loses servers seg log).0
  loses-within servers seg log each =
      either (λ (after : Log × Result (List ServerId) Fault). LogWithin n after.0) (log.segments seg).shut
      (refills seg log (refill log.own servers (log.segments seg).config))
      (opens_change seg log (lose log.own servers (log.segments seg).config))
      (λ e. refills-within seg log (refill log.own servers (log.segments seg).config) each)
      (λ e. change-within seg log (lose log.own servers (log.segments seg).config) each)

  pub freed-within : (segs : List ℕ) (log : Log) → LogWithin n log → LogWithin n (with_freed segs log)
  freed-within [] log each = each
  freed-within (seg ∷ segs) log each =
      freed-within segs (with_segment seg (record (log.segments seg) { freed = true }) log)
      (put-within log seg (record (log.segments seg) { freed = true }) each (each seg))
