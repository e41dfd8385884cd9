use Rattle.std.proofs.Common.{◌≡◌, ℕ, length, take, List, refl, ap, ◌∙◌, sym, arith, length-take}
use Rattle.std.proofs.lemmas.List.{with_items_is}
use Rattle.rc_model.specs.Segment.{Segment}
use Rattle.rc_config.specs.Lists.{segment_at}
use Rattle.rc_headroll.specs.Before.{mark_of, segments_before}
use Rattle.rc_headroll.specs.contracts.log.LogHead.{the_view}
use Rattle.rc_headroll.proofs.AliveLemmas.{found-none}
use Rattle.rc_headroll.proofs.SoundBefore.{restored-log, restored-before, restored-sound}
use Rattle.rc_headroll.proofs.WatchLemmas.{watched-restored}
use Rattle.rc_headroll.proofs.WholeLemmas.{whole-unknown}
use Rattle.rc_headroll.proofs.log.LogHead.restore_log.Goals as goal

pub invariant_of-self : goal.invariant_of-self
invariant_of-self c =
    let cut = c.truncate.ensures.items ∙ ap (λ (head : ℕ). take head c.self.inside.segments.items) c.head.ensures in
    let len : length c.put_back.new.segments ≡ length c.truncate.new.self.items =
    c.put_back.auto.segments ∙ ap length c.as_mut_slice.ensures.value in
    let table = c.put_back.ensures.back ∙ ap (λ (ss : List Segment). segments_before c.self.inside.before.mark (segment_at ss))
    c.as_mut_slice.ensures.value in
    let all = with_items_is c.truncate.new.self c.put_back.new.segments (len ∙ sym c.truncate.new.self.ok.0) in (
      restored-sound (the_view c.self.inside) c.truncate.new.self.items c.put_back.new.segments _
          c.phase-self-inside.result c.durable-self-inside.result
          c.passed-self-inside.result c.passed_entries-self-inside.result c.begin.new.self.mark c.self.invariant.0.back.known cut
          len table all
          c.phase-self-inside.ensures c.durable-self-inside.ensures c.passed-self-inside.ensures c.passed_entries-self-inside.ensures
          c.self.inside.passed c.self.inside.passed_entries c.self.invariant.0
          (c.begin.ensures.mark ∙ ap (λ (ss : List Segment). mark_of ss c.phase-self-inside.result c.durable-self-inside.result
          c.passed-self-inside.result c.passed_entries-self-inside.result)
          c.as_slice.ensures.value),
      watched-restored (the_view c.self.inside) _ c.self.invariant.1 refl
          (restored-log (the_view c.self.inside) c.truncate.new.self.items c.put_back.new.segments _
          c.phase-self-inside.result c.durable-self-inside.result
          c.passed-self-inside.result c.passed_entries-self-inside.result c.begin.new.self.mark c.self.invariant.0.back.known cut
          len table all
          c.phase-self-inside.ensures c.durable-self-inside.ensures c.passed-self-inside.ensures c.passed_entries-self-inside.ensures)
          (restored-before (the_view c.self.inside) c.truncate.new.self.items c.put_back.new.segments _
          c.phase-self-inside.result c.durable-self-inside.result
          c.passed-self-inside.result c.passed_entries-self-inside.result c.begin.new.self.mark c.self.invariant.0.back.known cut
          len table all
          c.phase-self-inside.ensures c.durable-self-inside.ensures c.passed-self-inside.ensures c.passed_entries-self-inside.ensures
          (c.begin.ensures.mark ∙ ap (λ (ss : List Segment). mark_of ss c.phase-self-inside.result c.durable-self-inside.result
          c.passed-self-inside.result c.passed_entries-self-inside.result)
          c.as_slice.ensures.value)),
      omega (
        arith,
        c.self.invariant.2,
        len,
        ap length cut,
        length-take c.self.inside.before.mark.head c.self.inside.segments.items,
        ap length all,
        c.begin.ensures.room,
        c.put_back.ensures.room,
      ),
      found-none _ _ c.clear.ensures.items,
      whole-unknown _,
    )

pub returns-clause-log : goal.returns-clause-log
returns-clause-log c =
    let cut = c.truncate.ensures.items ∙ ap (λ (head : ℕ). take head c.self.inside.segments.items) c.head.ensures in
    let len : length c.put_back.new.segments ≡ length c.truncate.new.self.items =
    c.put_back.auto.segments ∙ ap length c.as_mut_slice.ensures.value in
    let table = c.put_back.ensures.back ∙ ap (λ (ss : List Segment). segments_before c.self.inside.before.mark (segment_at ss))
    c.as_mut_slice.ensures.value in
    let all = with_items_is c.truncate.new.self c.put_back.new.segments (len ∙ sym c.truncate.new.self.ok.0) in
    rw (← c.self.view_is)
    (restored-log (the_view c.self.inside) c.truncate.new.self.items c.put_back.new.segments _
    c.phase-self-inside.result c.durable-self-inside.result
    c.passed-self-inside.result c.passed_entries-self-inside.result c.begin.new.self.mark c.self.invariant.0.back.known cut len table all
    c.phase-self-inside.ensures c.durable-self-inside.ensures c.passed-self-inside.ensures c.passed_entries-self-inside.ensures)

pub returns-clause-before : goal.returns-clause-before
returns-clause-before c =
    let cut = c.truncate.ensures.items ∙ ap (λ (head : ℕ). take head c.self.inside.segments.items) c.head.ensures in
    let len : length c.put_back.new.segments ≡ length c.truncate.new.self.items =
    c.put_back.auto.segments ∙ ap length c.as_mut_slice.ensures.value in
    let table = c.put_back.ensures.back ∙ ap (λ (ss : List Segment). segments_before c.self.inside.before.mark (segment_at ss))
    c.as_mut_slice.ensures.value in
    let all = with_items_is c.truncate.new.self c.put_back.new.segments (len ∙ sym c.truncate.new.self.ok.0) in
    rw (← c.self.view_is)
    (restored-before (the_view c.self.inside) c.truncate.new.self.items c.put_back.new.segments _
    c.phase-self-inside.result c.durable-self-inside.result
    c.passed-self-inside.result c.passed_entries-self-inside.result c.begin.new.self.mark c.self.invariant.0.back.known cut len table all
    c.phase-self-inside.ensures c.durable-self-inside.ensures c.passed-self-inside.ensures c.passed_entries-self-inside.ensures
    (c.begin.ensures.mark ∙ ap (λ (ss : List Segment). mark_of ss c.phase-self-inside.result c.durable-self-inside.result
    c.passed-self-inside.result c.passed_entries-self-inside.result)
    c.as_slice.ensures.value))

pub begin-requires : goal.begin-requires
begin-requires c =
    let cut = c.truncate.ensures.items ∙ ap (λ (head : ℕ). take head c.self.inside.segments.items) c.head.ensures in
    let len : length c.put_back.new.segments ≡ length c.truncate.new.self.items =
    c.put_back.auto.segments ∙ ap length c.as_mut_slice.ensures.value in
    let all = with_items_is c.truncate.new.self c.put_back.new.segments (len ∙ sym c.truncate.new.self.ok.0) in
    omega (
      arith,
      c.self.invariant.2,
      len,
      ap length cut,
      length-take c.self.inside.before.mark.head c.self.inside.segments.items,
      ap length all,
      ap length c.as_slice.ensures.value,
      c.put_back.ensures.room,
    )
