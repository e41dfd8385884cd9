use Rattle.std.proofs.Common.{sym, inl, inr}
use Rattle.rc_clients.proofs.TimeLemmas.{not_written, written_first, written_none, written_so}
use Rattle.rc_clients.proofs.unwritten.unwritten_at.Goals as goal

pub returns-in_default : goal.returns-in_default
returns-in_default c = written_none (sym c.in_default.ensures)

pub returns-then-operation-eq0 : goal.returns-then-operation-eq0
returns-then-operation-eq0 c = written_first (sym c.in-Some.ensures) c.if-operation-eq0.true

pub returns-then-has_write : goal.returns-then-has_write
returns-then-has_write c = written_so (sym c.in-Some.ensures) (inl c.if-has_write.ensures)

pub returns-then-can_be_pending : goal.returns-then-can_be_pending
returns-then-can_be_pending c = written_so (sym c.in-Some.ensures) (inr c.if-can_be_pending.ensures)

pub returns : goal.returns
returns c = not_written c.args.moment (sym c.in-Some.ensures)
    c.if-operation-eq0.false c.if-has_write.ensures c.if-can_be_pending.ensures
