use Rattle.std.proofs.Common.{◌≡◌, length, ap, sym, arith}
use Rattle.std.proofs.lemmas.Bool.{eqb-true}
use Rattle.rc_model.specs.Segment.{Segment}
use Rattle.rc_config.proofs.SegmentTables.{head-none}
use Rattle.rc_headroll.proofs.log.LogHead.head_len.Goals as goal

pub returns-then-is_empty : goal.returns-then-is_empty
returns-then-is_empty c =
    let none : c.self.inside.segments.len ≡ 0 = eqb-true c.self.inside.segments.len 0 (sym c.if-is_empty.ensures) in
    rw (← c.self.view_is) (ap (λ (s : Segment). length s.entries)
    (sym (head-none c.self.inside.segments.items (omega (arith, none, c.self.inside.segments.ok)))))
