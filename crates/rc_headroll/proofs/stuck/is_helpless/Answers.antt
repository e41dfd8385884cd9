use Rattle.std.proofs.Common.{◌≡◌, true, ap, sym, ◌∙◌}
use Rattle.rc_headroll.specs.Watching.{are_marked}
use Rattle.rc_headroll.proofs.StuckLemmas.{helpless-from}
use Rattle.rc_headroll.proofs.stuck.is_helpless.Goals as goal

pub returns-in-Err-NoBackups : goal.returns-in-Err-NoBackups
returns-in-Err-NoBackups c = λ is.
    let marked : are_marked c.args.servers.now c.args.config.now.members ≡ true =
    ap (are_marked c.args.servers.now) (sym c.members.ensures) ∙ sym c.are_marked.ensures ∙ c.if-not-are_marked.false in
    helpless-from c.args.own c.args.servers.now c.args.config.now c.copy.result c.refill.new.self _ _
    c.in-Err-NoBackups.field-0-is c.copy.ensures marked c.in-Err-NoBackups.ensures.err
