use Rattle.std.proofs.Common.{◌≡◌, ℕ, List, drop, subst, sym, ap, ◌∙◌}
use Rattle.std.specs.List.{find}
use Rattle.rc_runs.specs.Lanes.{In, Ascends}
use Rattle.rc_runs.specs.Waiting.{is_due_by}
use Rattle.rc_runs.proofs.LaneLemmas.{least_in, rest_of}
use Rattle.rc_runs.proofs.marks.Marks.first_in.Goals as goal

pub returns : goal.returns
returns c high rise =
    let same = c.numbers-numbers.ensures in
    least_in (is_due_by c.args.passing.now c.args.self.now.delivered.items c.args.sent.now) c.args.from high
    c.first_from.result c.args.line.now.numbers c.first_noted.result
    (subst (λ (xs : List ℕ). Ascends c.args.from high (drop c.first_from.result xs)) same
    (c.first_from.ensures.order high (subst (λ (xs : List ℕ). Ascends 0 high xs) (sym same) rise)))
    (λ n le found. subst (λ (xs : List ℕ). In n (drop c.first_from.result xs)) same
    (c.first_from.ensures.all high n (subst (λ (xs : List ℕ). Ascends 0 high xs) (sym same) rise) le
    (subst (λ (xs : List ℕ). In n xs) (sym same) found)))
    (subst (λ (xs : List ℕ). c.first_noted.result ≡ find (is_due_by c.args.passing.now c.args.self.now.delivered.items
    c.args.sent.now) (drop c.first_from.result xs)) same
    (c.first_noted.ensures ∙ ap (find (is_due_by c.args.passing.now c.args.self.now.delivered.items c.args.sent.now))
    (rest_of c.first_from.result c.numbers-numbers.result.now)))
