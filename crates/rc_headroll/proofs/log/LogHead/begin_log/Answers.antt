use Rattle.std.proofs.Common.{List, length, ap, ◌∙◌, arith}
use Rattle.rc_model.specs.Segment.{Segment}
use Rattle.rc_headroll.specs.Before.{mark_of}
use Rattle.rc_headroll.specs.contracts.log.LogHead.{the_view}
use Rattle.rc_headroll.proofs.SoundBefore.{before_of-begin, sound-begin}
use Rattle.rc_headroll.proofs.WatchLemmas.{watched-begins}
use Rattle.rc_headroll.proofs.log.LogHead.begin_log.Goals as goal

pub invariant_of-self : goal.invariant_of-self
invariant_of-self c =
    let is = c.begin.ensures.mark ∙
    ap (λ (segments : List Segment). mark_of segments c.self.inside.phase c.self.inside.durable c.self.inside.passed
    c.self.inside.passed_entries) c.as_slice.ensures.value in (
      sound-begin (the_view c.self.inside) c.self.inside.passed c.self.inside.passed_entries c.begin.new.self.mark
          c.self.invariant.0.now is,
      watched-begins (the_view c.self.inside) c.begin.new.self.mark c.self.invariant.1
          (before_of-begin (the_view c.self.inside) c.self.inside.passed c.self.inside.passed_entries c.begin.new.self.mark is),
      omega (arith, c.self.invariant.2, c.begin.ensures.room),
      c.self.invariant.3,
      c.self.invariant.4,
    )

pub returns-clause-before : goal.returns-clause-before
returns-clause-before c =
    let is = c.begin.ensures.mark ∙
    ap (λ (segments : List Segment). mark_of segments c.self.inside.phase c.self.inside.durable c.self.inside.passed
    c.self.inside.passed_entries) c.as_slice.ensures.value in
    rw (← c.self.view_is) (before_of-begin (the_view c.self.inside) c.self.inside.passed c.self.inside.passed_entries
    c.begin.new.self.mark is)

pub begin-requires : goal.begin-requires
begin-requires c = omega (arith, c.self.invariant.2, ap length c.as_slice.ensures.value)
