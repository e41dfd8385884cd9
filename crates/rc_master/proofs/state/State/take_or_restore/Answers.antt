use Rattle.std.proofs.Common.{◌≡◌, sym, ap, ◌∙◌, subst}
use Rattle.rc_master.specs.Quiet.{IsQuiet}
use Rattle.rc_master.specs.View.{Moment, now_of}
use Rattle.rc_master.proofs.state.State.take_or_restore.Goals as goal

pub returns-in-Err-clause-quiet : goal.returns-in-Err-clause-quiet
returns-in-Err-clause-quiet c =
    let back : now_of c.restore.new.self ≡ now_of c.args.self.now =
    c.restore.ensures ∙ (c.try_take.ensures.before ∙ c.begin.ensures.before) in
    subst IsQuiet (sym (ap (λ (m : Moment). m.master) back)) c.requires.quiet
