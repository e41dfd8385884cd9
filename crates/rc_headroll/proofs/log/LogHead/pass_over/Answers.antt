use Rattle.std.proofs.Common.{◌≡◌, true}
use Rattle.rc_headroll.specs.LogData.{log_of, before_of}
use Rattle.rc_config.specs.Resting.{wants_nothing}
use Rattle.rc_headroll.specs.Watching.{is_on_file}
use Rattle.rc_headroll.specs.contracts.log.LogHead.{the_view}
use Rattle.rc_headroll.proofs.WatchLemmas.{sound-watch, watched-let_go}
use Rattle.rc_headroll.proofs.log.LogHead.pass_over.Goals as goal

pub invariant_of-self : goal.invariant_of-self
invariant_of-self c =
    let same : before_of c.args.self.now ≡ log_of c.args.self.now = c.requires.same in
    let nothing : wants_nothing ((log_of c.args.self.now).segments c.args.seg) ≡ true = c.requires.nothing in
    let filed : is_on_file c.args.self.now.own c.args.self.now.watch c.args.seg ((log_of c.args.self.now).segments c.args.seg) ≡ true =
    c.requires.filed in (
      sound-watch (the_view c.self.inside) c.self.inside.passed c.self.inside.passed_entries c.let_go.new.self c.self.invariant.0,
      watched-let_go (the_view c.self.inside) c.let_go.new.self c.args.seg c.self.invariant.1 (rw (← c.self.view_is) at same)
          c.let_go.ensures.filed c.let_go.ensures.stuck (rw (← c.self.view_is) at nothing)
          (rw (← c.self.view_is) at filed) c.let_go.ensures.awake,
      c.self.invariant.2,
      c.self.invariant.3,
      c.self.invariant.4,
    )
