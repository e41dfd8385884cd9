use Rattle.std.proofs.Common.{◌≡◌, ◌+◌, ◌∷◌, ◌++◌, [], ◌<◌, ℕ, List, true, length, filter, not, eqb, ap, ◌∙◌, arith}
use Rattle.std.specs.List.{list_any}
use Rattle.std.specs.List.{All}
use Rattle.std.proofs.lemmas.List.{length_push}
use Rattle.rc_model.specs.Model.{Segment, Opening, LAST_SEGMENT, head_of}
use Rattle.rc_config.specs.Lists.{segment_at, newest_of}
use Rattle.rc_headroll.specs.LogData.{log_of}
use Rattle.rc_headroll.specs.Soundness.{IsKnown}
use Rattle.rc_headroll.specs.contracts.log.LogHead.{the_view}
use Rattle.rc_headroll.proofs.AliveLemmas.{found-opened}
use Rattle.rc_headroll.proofs.LogChanges.{sound-opened, opened-is}
use Rattle.rc_headroll.proofs.StillBefore.{sound_log-from, before_of-same, opened-before, opened-back}
use Rattle.rc_headroll.proofs.WatchLemmas.{sound-watch, more-awake, watched-opened, pushed-within}
use Rattle.rc_headroll.proofs.WholeLemmas.{whole-pushed}
use Rattle.rc_headroll.proofs.log.LogHead.open_head.Goals as goal

pub invariant_of-self-2 : goal.invariant_of-self-2
invariant_of-self-2 c =
    let head : c.head-seg.result ≡ length c.args.self.now.segments = c.head-seg.ensures in
    let seg : c.head-seg.result + 1 ≡ length c.self.inside.segments.items + 1 = rw (← c.self.view_is) at (ap (λ (n : ℕ). n + 1) head) in
    let room : length c.args.self.now.segments < LAST_SEGMENT = c.requires.room in
    let known : All (IsKnown (length c.args.self.now.segments + 1)) c.args.digest = c.requires.known in
    let shut : (seg : ℕ) → 0 < seg → seg < length c.args.self.now.segments →
    (segment_at c.args.self.now.segments seg).shut ≡ true = c.requires.shut in
    let none : c.args.whole ≡ true → filter (λ seg. not (list_any (eqb seg) c.args.digest))
    (head_of (log_of c.args.self.now)).digest ≡ [] = c.requires.none_out in
    let pushed : c.push.new.self.items ≡ c.self.inside.segments.items ++ c.new-head.result ∷ [] =
    pushed-within c.push.result c.push.new.self.items c.reserve.new.self.items c.self.inside.segments.items c.new-head.result
    (c.push.ensures.succeeds (omega (arith, c.in_ok-reserve.ensures.ok))) c.push.ensures.items c.reserve.ensures.items in (
      rw c.make_room.ensures.mark (sound-watch (record (the_view c.self.inside) {
        segments = c.push.new.self.items;
        phase =
            Opening;
      }) c.self.inside.passed
          c.self.inside.passed_entries c.wake.new.self
          (sound_log-from (the_view c.self.inside) c.push.new.self.items Opening c.self.inside.durable c.self.inside.passed
          c.self.inside.passed_entries c.self.inside.passed c.self.inside.passed_entries
          c.self.invariant.0
          (opened-before (the_view c.self.inside) c.new-head.result c.push.new.self.items c.self.invariant.0.back pushed)
          (opened-back (the_view c.self.inside) c.new-head.result c.push.new.self.items c.self.invariant.0.back pushed)
          (sound-opened (the_view c.self.inside) c.self.inside.passed c.self.inside.passed_entries c.args.digest
          c.args.ids.now c.new-head.result c.push.new.self.items (c.head-seg.result + 1)
          c.self.invariant.0.now (rw (← c.self.view_is) at room) (rw (← c.self.view_is) at shut)
          (rw (← c.self.view_is) at known) seg c.new-head.ensures pushed))),
      rw c.make_room.ensures.mark (watched-opened (the_view c.self.inside) c.new-head.result c.push.new.self.items Opening
          (c.head-seg.result + 1)
          c.wake.new.self c.self.invariant.1
          (more-awake c.self.inside.watch c.wake.new.self c.wake.ensures.filed c.wake.ensures.stuck c.wake.ensures.others)
          seg c.in_ok-wake.ensures.awake pushed
          (before_of-same (the_view c.self.inside) c.push.new.self.items
          (opened-before (the_view c.self.inside) c.new-head.result c.push.new.self.items c.self.invariant.0.back pushed))),
      omega (
        arith,
        seg,
        ap length pushed,
        length_push c.self.inside.segments.items c.new-head.result,
        c.in_ok-make_room.ensures.made,
        c.from.ensures,
      ),
      found-opened (the_view c.self.inside) c.args.digest c.args.ids.now c.new-head.result c.push.new.self.items
          (c.head-seg.result + 1) c.self.inside.alive.items seg c.new-head.ensures pushed c.self.invariant.3,
      whole-pushed c.self.inside.segments.items c.push.new.self.items c.new-head.result c.args.whole pushed
          (λ e. ap (λ (digest : List ℕ). filter (λ seg. not (list_any (eqb seg) digest))
          (newest_of c.self.inside.segments.items).digest) (ap (λ (s : Segment). s.digest) c.new-head.ensures)
          ∙ (rw (← c.self.view_is) at none) e),
    )

pub returns-clause-ok : goal.returns-clause-ok
returns-clause-ok c =
    let head : c.head-seg.result ≡ length c.args.self.now.segments = c.head-seg.ensures in
    let seg : c.head-seg.result + 1 ≡ length c.self.inside.segments.items + 1 = rw (← c.self.view_is) at (ap (λ (n : ℕ). n + 1) head) in
    let pushed : c.push.new.self.items ≡ c.self.inside.segments.items ++ c.new-head.result ∷ [] =
    pushed-within c.push.result c.push.new.self.items c.reserve.new.self.items c.self.inside.segments.items c.new-head.result
    (c.push.ensures.succeeds (omega (arith, c.in_ok-reserve.ensures.ok))) c.push.ensures.items c.reserve.ensures.items in
    rw (← c.self.view_is)
    (opened-is (the_view c.self.inside) c.args.digest c.args.ids.now c.new-head.result c.push.new.self.items
    (c.head-seg.result + 1) seg c.new-head.ensures pushed)

pub returns-clause-before : goal.returns-clause-before
returns-clause-before c =
    let pushed : c.push.new.self.items ≡ c.self.inside.segments.items ++ c.new-head.result ∷ [] =
    pushed-within c.push.result c.push.new.self.items c.reserve.new.self.items c.self.inside.segments.items c.new-head.result
    (c.push.ensures.succeeds (omega (arith, c.in_ok-reserve.ensures.ok))) c.push.ensures.items c.reserve.ensures.items in
    rw (← c.self.view_is, c.make_room.ensures.mark)
    (before_of-same (the_view c.self.inside) c.push.new.self.items
    (opened-before (the_view c.self.inside) c.new-head.result c.push.new.self.items c.self.invariant.0.back pushed))
