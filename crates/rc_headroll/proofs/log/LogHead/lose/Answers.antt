use Rattle.std.proofs.Common.{◌≡◌, ◌⊎◌, Ok, Err, IfOk, IfErr, subst, ◌∙◌}
use Rattle.rc_types.specs.declared.faults.Fault.TheVariants.{OutOfMemory}
use Rattle.rc_model.specs.Model.{Log, loses}
use Rattle.rc_headroll.specs.LogData.{log_of}
use Rattle.rc_headroll.proofs.log.LogHead.lose.Goals as goal

pub returns-clause-ok : goal.returns-clause-ok
returns-clause-ok c =
    subst (λ (log : Log). IfOk c.lose_members.result
    (λ ids. loses c.args.servers.now c.args.seg log ≡ (log_of c.lose_members.new.self, Ok ids.items)))
    (c.keep.ensures.log ∙ c.in_ok-wake.ensures.log) c.lose_members.ensures.ok

pub returns-clause-err : goal.returns-clause-err
returns-clause-err c =
    subst (λ (log : Log). IfErr c.lose_members.result (λ fault. ((fault ≡ OutOfMemory) × (log_of c.lose_members.new.self ≡ log))
    ⊎ (loses c.args.servers.now c.args.seg log ≡ (log_of c.lose_members.new.self, Err fault))))
    (c.keep.ensures.log ∙ c.in_ok-wake.ensures.log) c.lose_members.ensures.err
