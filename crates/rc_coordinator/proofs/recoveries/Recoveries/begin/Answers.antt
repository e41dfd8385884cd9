use Rattle.std.proofs.Common.{◌≡◌, ℕ, ◌+◌, ◌++◌, ◌∷◌, [], List, length, sym, ap, subst, ◌∙◌, arith}
use Rattle.std.proofs.lemmas.Grind.{common_steps}
use Rattle.std.proofs.lemmas.List.{length-append}
use Rattle.rc_model.specs.Model.{Attempt, new_attempt, put_id}
use Rattle.rc_coordinator.specs.Asked.{AreAsked}
use Rattle.rc_attempts.specs.Lookups.{number_of}
use Rattle.rc_coordinator.proofs.TableLemmas.{number_of-inserted, number_of-updated}
use Rattle.rc_coordinator.proofs.AskedLemmas.{asked-begun}
use Rattle.rc_coordinator.proofs.recoveries.Recoveries.begin.Goals as goal

pub returns-clause-current : goal.returns-clause-current
returns-clause-current c =
    let next : c.len.result + 1 ≡ length c.args.self.now.attempts + 1 =
    omega (arith, c.self.inside.attempts.ok.0, ap (λ v. length v.attempts) c.self.view_is) in
    number_of-inserted c.self.inside.current c.insert.new.self c.args.master _ c.in_ok-insert.ensures.updates
    ∙ ap (λ v. put_id (number_of v.current) c.args.master (c.len.result + 1)) c.self.view_is
    ∙ ap (put_id (number_of c.args.self.now.current) c.args.master) next

pub invariant_of-self-2 : goal.invariant_of-self-2
invariant_of-self-2 c =
    let r = c.self.inside in
    let attempts : c.push.new.self.items ≡ r.attempts.items ++ new_attempt c.args.master ∷ [] = grind (arith, common_steps) in
    let asked : c.push-2.new.self.items ≡ r.asked.items ++ (c.len.result + 1) ∷ [] = grind (arith, common_steps) in
    let next : c.len.result + 1 ≡ length r.attempts.items + 1 = omega (arith, r.attempts.ok.0) in
    let now = c.insert.new.self.entries in
    let begun = asked-begun r.attempts.items r.current.entries now r.grants.grants r.asked.items c.args.master (c.len.result + 1)
    next (number_of-updated r.current c.insert.new.self c.args.master _ c.in_ok-insert.ensures.updates) c.self.invariant.kept in
    let more : AreAsked c.push.new.self.items now r.grants.grants c.push-2.new.self.items =
    subst (λ (those : List Attempt). AreAsked those now r.grants.grants c.push-2.new.self.items) (sym attempts)
    (subst (λ (those : List ℕ). AreAsked (r.attempts.items ++ new_attempt c.args.master ∷ []) now r.grants.grants those)
    (sym asked) begun)
    in record {
      kept = more;
      few = omega (
        arith,
        ap length attempts,
        length-append r.attempts.items (new_attempt c.args.master ∷ []),
        c.requires,
        ap (λ v. length v.attempts) c.self.view_is,
      );
    }
