use Rattle.std.proofs.Common.{◌≡◌, ◌≤◌, ℕ, max, Some, sym, ◌∙◌, length, drop, subst, arith}
use Rattle.rc_runs.specs.Settling.{due_from}
use Rattle.rc_runs.specs.Waiting.{first_due}
use Rattle.rc_runs.proofs.Waitings.{noted_due, new_due}
use Rattle.rc_runs.proofs.marks.Marks.next_far.Goals as goal
use Rattle.rc_runs.proofs.marks.Marks.next_far.Goals.{in_default-via-in-Some+else-number-len, in_default-via-in_default}

pub returns-in-Some : goal.returns-in-Some
returns-in-Some c events fits =
    let marks = c.args.self.now in
    noted_due events c.args.sent.now marks.delivered.items marks.lines.items c.args.passing.now c.args.from c.in-Some.number
    fits (omega (arith, c.if-number-len.true, c.len.ensures)) (c.in-Some.ensures (length marks.delivered.items) fits.ordered)

pub returns-in_default : goal.returns-in_default
returns-in_default c events fits =
    let marks = c.args.self.now in
    let long : c.len-in_default.result ≡ length marks.delivered.items = omega arith in
    let far : (m : ℕ) → c.next_noted.result ≡ Some m → length marks.delivered.items ≤ m = λ m is.
    elim c.in_default.branch [
      | in_default-via-in-Some+else-number-len w ↦
          let same : Some w.in-Some.number ≡ Some m = sym w.in-Some.is ∙ is in
          let number : w.in-Some.number ≡ m = cc in
          omega (arith, number, w.if-number-len.false, w.len.ensures)
      | in_default-via-in_default w ↦ absurd (w.in_default.not-Some m is)
    ] in
    let last : c.max.result ≡ max c.args.from (length marks.delivered.items) = omega arith in
    c.next_new.ensures ∙ subst (λ (n : ℕ). first_due c.args.passing.now marks.delivered.items n (drop n c.args.sent.now)
    ≡ due_from c.args.passing.now events c.args.sent.now c.args.from) (sym last)
    (new_due events c.args.sent.now marks.delivered.items marks.lines.items c.args.passing.now c.args.from
    c.next_noted.result fits (c.next_noted.ensures (length marks.delivered.items) fits.ordered) far)
