use Rattle.std.proofs.Common.{ℕ, List, ◌++◌, ap, sym, ◌∙◌}
use Rattle.rc_headroll.proofs.Beginnings.{none_dead}
use Rattle.rc_headroll.proofs.opening.without_dead.Goals as goal

pub returns-then-is_empty : goal.returns-then-is_empty
returns-then-is_empty c =
    none_dead _ c.args.digest.now c.args.dead.now c.args.head (sym c.is_empty.ensures ∙ c.if-is_empty.true)
    (c.in_ok-extend_from_slice.ensures.items ∙ ap (λ (all : List ℕ). all ++ c.args.digest.now) c.new-all.ensures.items)
