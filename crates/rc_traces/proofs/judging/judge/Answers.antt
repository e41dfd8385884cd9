use Rattle.rc_model.specs.Breach.{breach}
use Rattle.rc_traces.proofs.Unentered.{never_bad}
use Rattle.rc_traces.proofs.judging.judge.Goals as goal

pub returns-in-Ok-clause-kept : goal.returns-in-Ok-clause-kept
returns-in-Ok-clause-kept c =
    never_bad c.judge_messages.result (breach c.as_slice-in-Ok.result.now) _ c.judge_messages.ensures.finding
