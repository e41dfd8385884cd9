use Rattle.std.proofs.Common.{◌≡◌, length, ap, ◌∙◌}
use Rattle.std.specs.Prelude.{Err}
use Rattle.std.proofs.lemmas.Result.{err_from_is_err_and}
use Rattle.rc_types.specs.declared.limits.TheConstants.{MAX_EVENTS}
use Rattle.rc_wire.proofs.Stuck.{bad-at}
use Rattle.rc_wire.proofs.Turning.{grows-same, grows-through, if-some, if-none}
use Rattle.rc_wire.proofs.turns.deliver_rest.Goals as goal

pub loop-init : goal.loop-init
loop-init g c = record {
  kept = λ start steps at p. p;
  idle = c.requires.idle;
  grows = grows-same c.args.seat.now;
}

pub loop-preserved : goal.loop-preserved
loop-preserved g c =
    let more = if-some _ c.in_ok-next.field-0 c.in-Some-2.next c.in-Some-2.is c.in_ok-next.ensures.some in
    record {
      kept = λ start steps at p. more start steps at (c.loop.invariant.kept start steps at p);
      idle = c.in_ok-next.ensures.idle;
      grows = grows-through c.args.seat.now c.loop.seat c.deliver_next.new.seat c.loop.invariant.grows c.in_ok-next.ensures.grows;
    }

pub returns-in_err-next-clause-grows : goal.returns-in_err-next-clause-grows
returns-in_err-next-clause-grows g c =
    grows-through c.args.seat.now c.loop.seat c.deliver_next.new.seat c.loop.invariant.grows c.deliver_next.ensures.grows

pub returns-in-None-2-clause-ok : goal.returns-in-None-2-clause-ok
returns-in-None-2-clause-ok g c =
    let stays = if-none _ c.in_ok-next.field-0 c.in-None-2.is c.in_ok-next.ensures.stays in
    λ start steps at p. stays start steps at (c.loop.invariant.kept start steps at p)

pub returns-in-None-2-clause-all : goal.returns-in-None-2-clause-all
returns-in-None-2-clause-all g c =
    let all = if-none _ c.in_ok-next.field-0 c.in-None-2.is c.in_ok-next.ensures.none in
    λ start steps at p. all start steps at (c.loop.invariant.kept start steps at p)

pub returns-in-None-2-clause-idle : goal.returns-in-None-2-clause-idle
returns-in-None-2-clause-idle g c = c.in_ok-next.ensures.idle

pub returns-in-None-2-clause-grows : goal.returns-in-None-2-clause-grows
returns-in-None-2-clause-grows g c =
    grows-through c.args.seat.now c.loop.seat c.deliver_next.new.seat c.loop.invariant.grows c.in_ok-next.ensures.grows

pub returns-in_err-next-clause-bad : goal.returns-in_err-next-clause-bad
returns-in_err-next-clause-bad g c =
    let p = err_from_is_err_and c.from_residual.result c.from_residual.ensures.1 in
    bad-at (length c.deliver_next.new.seat.seen ≡ MAX_EVENTS) c.from_residual.result c.in_err-next.field-0.0 (p.1 ∙ ap Err p.2)
    (λ bad. c.in_err-next.ensures.bad bad)
