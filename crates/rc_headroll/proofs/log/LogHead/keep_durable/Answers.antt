use Rattle.std.proofs.Common.{◌≡◌, ◌<◌, ◌≤◌, ℕ, true, length}
use Rattle.rc_model.specs.Log.{durable_now}
use Rattle.rc_config.specs.Lists.{segment_at}
use Rattle.rc_headroll.specs.LogData.{LogData, log_of}
use Rattle.rc_headroll.specs.Soundness.{entries_to}
use Rattle.rc_headroll.specs.contracts.log.LogHead.{the_view}
use Rattle.rc_headroll.proofs.SoundLogs.{sound-durable}
use Rattle.rc_headroll.proofs.StillBefore.{sound_log-same}
use Rattle.rc_headroll.proofs.DurableLogs.{durable_now-least}
use Rattle.rc_headroll.proofs.WatchLemmas.{watched-durable}
use Rattle.rc_headroll.proofs.log.LogHead.keep_durable.Goals as goal

pub invariant_of-self : goal.invariant_of-self
invariant_of-self c =
    let known : c.shut_front-front.result.segments ≤ length c.args.self.now.segments = c.shut_front-front.ensures.known in
    let shut : (seg : ℕ) → 0 < seg → seg ≤ c.shut_front-front.result.segments →
    (segment_at c.args.self.now.segments seg).shut ≡ true = c.shut_front-front.ensures.shut in
    let is : c.shut_front-front.result.entries ≡ entries_to (segment_at c.args.self.now.segments)
    c.shut_front-front.result.segments = c.shut_front-front.ensures.entries in
    let now : c.durable_now-self-inside.result ≡ durable_now (log_of c.args.self.now) = c.durable_now-self-inside.ensures in
    let kept : LogData = the_view c.self.inside in
    let known' : c.shut_front-front.result.segments ≤ length c.self.inside.segments.items = rw (← c.self.view_is) at known in
    let shut' : (seg : ℕ) → 0 < seg → seg ≤ c.shut_front-front.result.segments →
    (segment_at c.self.inside.segments.items seg).shut ≡ true = rw (← c.self.view_is) at shut in
    let is' : c.shut_front-front.result.entries ≡ entries_to (segment_at c.self.inside.segments.items)
    c.shut_front-front.result.segments = rw (← c.self.view_is) at is in
    let now' : c.durable_now-self-inside.result ≡ durable_now (log_of kept) = rw (← c.self.view_is) at now in
    let least : entries_to (segment_at c.self.inside.segments.items) c.shut_front-front.result.segments ≤ durable_now
    (log_of kept) = durable_now-least (log_of kept) c.shut_front-front.result.segments known' shut' in (
      sound_log-same kept c.self.inside.phase c.durable_now-self-inside.result c.self.inside.passed
          c.self.inside.passed_entries c.shut_front-front.result.segments c.shut_front-front.result.entries
          c.self.invariant.0
          (sound-durable (log_of kept) c.self.inside.passed c.self.inside.passed_entries c.durable_now-self-inside.result
          c.shut_front-front.result.segments c.shut_front-front.result.entries
          c.self.invariant.0.now known' shut' is' (rw (is', now') least)),
      watched-durable kept c.self.inside.phase c.durable_now-self-inside.result c.self.invariant.1,
      c.self.invariant.2,
      c.self.invariant.3,
      c.self.invariant.4,
    )
