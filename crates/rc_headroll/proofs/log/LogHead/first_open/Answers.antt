use Rattle.std.proofs.Common.{◌≡◌, ◌+◌, ◌<◌, ◌≤◌, ℕ, true, false, length, sym, arith}
use Rattle.rc_config.specs.Lists.{segment_at}
use Rattle.rc_headroll.specs.LogData.{log_of}
use Rattle.rc_headroll.specs.contracts.log.LogHead.{the_view}
use Rattle.rc_headroll.proofs.LogTables.{data-segments}
use Rattle.rc_headroll.proofs.DurableLogs.{first_open-some, has-from_below}
use Rattle.rc_headroll.proofs.log.LogHead.first_open.Goals as goal

pub returns-clause-first : goal.returns-clause-first
returns-clause-first c =
    let p : ℕ = c.shut_front-front.result.segments in
    let known : p ≤ length c.args.self.now.segments = c.shut_front-front.ensures.known in
    let known' : p ≤ length c.self.inside.segments.items = rw (← c.self.view_is) at known in
    let below : p < length c.self.inside.segments.items =
    omega (arith, known', c.if-front-len.false, c.len.ensures, c.self.inside.segments.ok.0) in
    let below' : p < length c.args.self.now.segments =
    rw (data-segments (the_view c.self.inside) c.args.self.now c.self.view_is) at below in
    let shut : (seg : ℕ) → 0 < seg → seg ≤ p → (segment_at c.args.self.now.segments seg).shut ≡ true = c.shut_front-front.ensures.shut in
    let ends : p < length c.args.self.now.segments → (segment_at c.args.self.now.segments (p + 1)).shut ≡ false =
    c.shut_front-front.ensures.ends in
    sym (first_open-some (log_of c.args.self.now) p below' shut (ends below'))

pub returns-clause-known : goal.returns-clause-known
returns-clause-known c =
    let p : ℕ = c.shut_front-front.result.segments in
    let known : p ≤ length c.args.self.now.segments = c.shut_front-front.ensures.known in
    let known' : p ≤ length c.self.inside.segments.items = rw (← c.self.view_is) at known in
    let below : p < length c.self.inside.segments.items =
    omega (arith, known', c.if-front-len.false, c.len.ensures, c.self.inside.segments.ok.0) in
    rw (← c.self.view_is) (has-from_below (log_of (the_view c.self.inside)) p below)
