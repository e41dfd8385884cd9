use Rattle.std.proofs.Common.{nat_cmp, is_eq, sym, subst, arith}
use Rattle.std.proofs.lemmas.Grind.{common_steps}
use Rattle.std.specs.Map.{lookup}
use Rattle.std.specs.BTreeMap.{get}
use Rattle.rc_ownership.specs.Bounds.{Say}
use Rattle.rc_ownership.proofs.Saying.{Say-cut, apart-cmp}
use Rattle.rc_ownership.proofs.bounds.cut_at.Goals as goal

pub returns-in_err-insert-clause-same : goal.returns-in_err-insert-clause-same
returns-in_err-insert-clause-same c =
    λ terms say. subst (λ entries. Say (λ other. lookup (λ key. is_eq (nat_cmp other key)) entries) terms)
    (sym c.in_err-insert.ensures.err) say

pub returns-in_ok-insert-clause-same : goal.returns-in_ok-insert-clause-same
returns-in_ok-insert-clause-same c =
    Say-cut (get nat_cmp c.args.bounds.now) (get nat_cmp c.insert.new.self) c.args.point c.term_at-term.result c.term_at-term.ensures
    (grind (arith, common_steps)) c.in_ok-insert.ensures.updates.1
    (λ other apart. c.in_ok-insert.ensures.updates.2 other (apart-cmp c.args.point other apart))
