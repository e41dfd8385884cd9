use Rattle.rc_ownership.specs.Owner.{Owner}
use Rattle.rc_master.specs.Quiet.{IsQuiet}
use Rattle.rc_master.specs.View.{state_view}
use Rattle.rc_master.proofs.Quiet.{quiet-granted, on_either}
use Rattle.rc_master.proofs.state.State.take_quiet.Goals as goal

pub returns-in_default-Own-clause-quiet : goal.returns-in_default-Own-clause-quiet
returns-in_default-Own-clause-quiet c =
    let s = c.args.self.now in
    on_either (λ (o : Owner). IsQuiet (record (state_view s) { ownership = o.own })) c.grant.result s.ownership c.grant.new.self _
    c.grant.ensures.ok c.grant.ensures.err c.requires.quiet (quiet-granted (state_view s) _ c.requires.quiet)
