use Rattle.std.proofs.Common.{◌≡◌, true, false}
use Rattle.rc_headroll.specs.Watching.{has_number, is_filed}
use Rattle.rc_headroll.proofs.FiledLemmas.{dropped-crashed, still-filed}
use Rattle.rc_headroll.proofs.StuckLemmas.{was-asleep}
use Rattle.rc_headroll.proofs.watch.Watch.wake_crashed.Goals as goal

pub returns-clause-crashed : goal.returns-clause-crashed
returns-clause-crashed c = λ id seg crashed. (
  dropped-crashed c.args.servers.now c.self.inside.filed.entries c.forget_crashed.new.filed.entries c.forget_crashed.ensures
      id seg crashed,
  λ filed.
      let was : is_filed c.args.self.now id seg ≡ true = filed in
      c.follow.ensures.awake seg (c.in_ok-wake_crashed.ensures.woken id seg crashed (rw (← c.self.view_is) at was)),
)

pub returns-clause-filed : goal.returns-clause-filed
returns-clause-filed c = λ id seg filed asleep.
    let was : is_filed c.args.self.now id seg ≡ true = filed in
    let before : has_number c.wake_crashed.new.awake seg ≡ false =
    was-asleep (has_number c.wake_crashed.new.awake seg) (has_number c.follow.new.awake seg) (c.follow.ensures.awake seg) asleep in
    still-filed c.args.servers.now c.self.inside.filed.entries c.forget_crashed.new.filed.entries c.forget_crashed.ensures
    id seg c.wake_crashed.new.awake (c.in_ok-wake_crashed.ensures.woken id seg) (rw (← c.self.view_is) at was) before
