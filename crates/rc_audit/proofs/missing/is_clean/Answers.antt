use Rattle.std.proofs.Common.{◌∙◌, sym}
use Rattle.rc_audit.specs.Recoveries.{accepted_of}
use Rattle.rc_audit.proofs.CleanLemmas.{clean_told, rows_same}
use Rattle.rc_audit.proofs.missing.is_clean.Goals as goal

pub returns-in-Some : goal.returns-in-Some
returns-in-Some c = λ is sent are.
    clean_told c.args.clean.now sent c.args.key (accepted_of c.args.recovery.now) c.in-Some.clean c.requires
    (sym (c.in-Some.ensures ∙ c.get.ensures.value))
    (rows_same c.in-Some.clean.rows.now c.args.recovery.now.rows.now (sym c.eq.ensures ∙ is)) are
