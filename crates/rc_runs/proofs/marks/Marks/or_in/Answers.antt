use Rattle.std.proofs.Common.{ℕ, Option, length, sym, ap, ◌∙◌, subst, ◌++◌, ◌∷◌, [], arith}
use Rattle.rc_runs.specs.Lanes.{IsLeast, InLanes}
use Rattle.rc_runs.specs.Waiting.{is_due_by}
use Rattle.rc_runs.proofs.LaneLemmas.{least_empty, least_left, least_more}
use Rattle.rc_runs.proofs.marks.Marks.or_in.Goals as goal

pub returns-then-is_empty : goal.returns-then-is_empty
returns-then-is_empty c high lanes rise least =
    least_empty (is_due_by c.args.passing.now c.args.self.now.delivered.items c.args.sent.now) c.args.from
    c.args.passing.now c.args.line.now lanes c.args.least (grind (arith, ap length c.numbers.ensures)) least

pub returns-then-is_left_by : goal.returns-then-is_left_by
returns-then-is_left_by c high lanes rise least =
    least_left (is_due_by c.args.passing.now c.args.self.now.delivered.items c.args.sent.now) c.args.from
    c.args.passing.now c.args.line.now lanes c.args.least (sym c.is_left_by.ensures ∙ c.if-is_left_by.true) least

pub returns : goal.returns
returns c high lanes rise least =
    subst (λ (best : Option ℕ). IsLeast (is_due_by c.args.passing.now c.args.self.now.delivered.items c.args.sent.now)
    c.args.from (λ n. InLanes c.args.passing.now n (lanes ++ c.args.line.now ∷ [])) best) (sym c.earlier.ensures)
    (least_more (is_due_by c.args.passing.now c.args.self.now.delivered.items c.args.sent.now) c.args.from
    c.args.passing.now c.args.line.now lanes c.args.least c.first_in.result least (c.first_in.ensures high rise))
