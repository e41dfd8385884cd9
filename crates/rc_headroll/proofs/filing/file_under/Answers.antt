use Rattle.std.proofs.Common.{◌≡◌, ℕ, List, Some, cond, refl, ap, ◌∙◌, subst}
use Rattle.std.proofs.lemmas.Bool.{false≢true}
use Rattle.std.specs.Map.{lookup}
use Rattle.std.specs.Option.{IsSome}
use Rattle.rc_model.specs.Model.{ServerId, same_id}
use Rattle.rc_headroll.specs.Watching.{is_among}
use Rattle.rc_headroll.proofs.FiledLemmas.{filed-still}
use Rattle.rc_headroll.proofs.filing.file_under.Goals as goal

pub returns-in-Some-clause-others : goal.returns-in-Some-clause-others
returns-in-Some-clause-others c =
    filed-still c.args.filed.now.entries (c.get_mut.follows.lender c.insert.new.self).entries c.args.id c.insert.new.self
    ((c.get_mut.follows.holds c.insert.new.self).3 (subst (λ found. IsSome found) c.in-Some.ensures.value refl)).0
    (λ seg there. c.insert.ensures.others seg (ap (λ found. is_among found seg) c.in-Some.ensures.value ∙ there))

pub returns-in_ok-insert-in-None-2-clause-others : goal.returns-in_ok-insert-in-None-2-clause-others
returns-in_ok-insert-in-None-2-clause-others c =
    let numbers : List ℕ = c.insert-in-None.new.self in
    let updates : (one : ServerId) → lookup (same_id one) c.insert-in-None-2.new.self.entries
    ≡ cond (same_id c.args.id one) (Some numbers) (lookup (same_id one) c.args.filed.now.entries) = λ one.
    c.in_ok-insert-in-None-2.ensures.updates.0 one
    ∙ ap (λ filed. cond (same_id c.args.id one) (Some numbers) (lookup (same_id one) filed.entries)) c.get_mut.follows.holds-at-none in
    filed-still c.args.filed.now.entries c.insert-in-None-2.new.self.entries c.args.id numbers updates
    (λ seg there. absurd (false≢true (ap (λ found. is_among found seg) c.in-None.ensures.value ∙ there)))
