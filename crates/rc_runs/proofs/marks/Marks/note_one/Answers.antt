use Rattle.std.proofs.Common.{◌≡◌, Bool, List, Some, false, ◌++◌, ◌∷◌, [], length, slice_get, sym, subst, rules}
use Rattle.rc_runs.specs.Waiting.{Fits}
use Rattle.rc_runs.proofs.marks.Marks.note_one.Goals as goal

pub returns-clause-kept : goal.returns-clause-kept
returns-clause-kept c events sent at fits =
    let marks = c.args.self.now.delivered.items in
    let same : c.reserve.new.self.items ≡ marks = c.in_ok-reserve.ensures.items in
    let more : c.push.new.self.items ≡ c.reserve.new.self.items ++ false ∷ [] = search rules in
    subst (λ (xs : List Bool). Fits events sent xs c.wait_for.new.self.lines.items) (sym more)
    (c.in_ok-wait_for.ensures.kept events sent
    (subst (λ (xs : List Bool). slice_get sent (length xs) ≡ Some c.args.message.now) (sym same) at)
    (subst (λ (xs : List Bool). Fits events sent xs c.args.self.now.lines.items) (sym same) fits))
