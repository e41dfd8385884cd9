use Rattle.std.proofs.Common.{◌≡◌, ℕ, nat_le, Bool, List, ◌++◌, take, subst, sym, ap, ◌∙◌}
use Rattle.std.specs.List.{find}
use Rattle.std.proofs.lemmas.List.{take-append-drop}
use Rattle.rc_wire.specs.Rising.{Rises}
use Rattle.rc_wire.proofs.Least.{numbers-rise, rises-after, find-last}
use Rattle.rc_wire.proofs.index.first_from.Goals as goal

pub returns-in-len1-up : goal.returns-in-len1-up
returns-in-len1-up c name sent is =
    let from = c.args.from in
    let numbers : List ℕ = c.args.numbers.now in
    let at = c.saturating_sub.result in
    let last : List ℕ = c.split_at.result.1.now in
    let enough : ℕ → Bool = λ n. nat_le from n in
    let whole : take at numbers ++ last ≡ numbers =
    ap (λ ys. take at numbers ++ ys) c.split_at.ensures.back ∙ take-append-drop at numbers in
    let rise : Rises 0 (take at numbers ++ last) = subst (Rises 0) (sym (whole ∙ is)) (numbers-rise 0 name sent) in
    c.least_in.ensures (rises-after 0 (take at numbers) last rise)
    ∙ (find-last from 0 (take at numbers) last 0 rise c.in-len1-up.len_at_least c.if-first-from.true
    ∙ ap (find enough) (whole ∙ is))

pub returns-in_default : goal.returns-in_default
returns-in_default c name sent is =
    let numbers : List ℕ = c.args.numbers.now in
    let rise : Rises 0 numbers = subst (Rises 0) (sym is) (numbers-rise 0 name sent) in
    c.least_in-in_default.ensures rise ∙ ap (find (λ n. nat_le c.args.from n)) is
