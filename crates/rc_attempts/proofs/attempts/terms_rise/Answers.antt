use Rattle.std.proofs.Common.{nat_lt, rules}
use Rattle.std.proofs.lemmas.List.Sorted.{answers_always}
use Rattle.rc_attempts.proofs.TermLemmas.{rise-answer}
use Rattle.rc_attempts.proofs.attempts.terms_rise.Goals as goal

pub returns : goal.returns
returns c =
    rise-answer c.args.parts.now c.is_sorted_by.result
    (c.is_sorted_by.ensures.cases (λ x y. nat_lt x.part.term y.part.term) (answers_always _ _ _ (λ f a r g k. search rules)))
