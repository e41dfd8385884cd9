use Rattle.std.proofs.Common.{◌≡◌, ◌≤◌, length, ap, ◌∙◌, arith}
use Rattle.std.proofs.lemmas.Result.{IfOk-weaker}
use Rattle.rc_model.specs.Tablets.{tablets_of}
use Rattle.rc_coordinator.proofs.TabletLemmas.{length-tablets_of}
use Rattle.rc_coordinator.proofs.state.State.parts.Goals as goal

pub give_parts-requires-clause-terms : goal.give_parts-requires-clause-terms
give_parts-requires-clause-terms g c =
    let same : length c.deref.result.now ≡ length (tablets_of c.args.master c.args.self.now.tablets.tablets) =
    ap length c.deref.ensures.value ∙ ap length c.in_ok-tablets.ensures in
    omega (arith, same, length-tablets_of c.args.master c.args.self.now.tablets.tablets, c.requires.numbers.terms)

pub returns-clause-few : goal.returns-clause-few
returns-clause-few g c =
    let same : length c.deref.result.now ≡ length (tablets_of c.args.master c.args.self.now.tablets.tablets) =
    ap length c.deref.ensures.value ∙ ap length c.in_ok-tablets.ensures in
    let few : length c.deref.result.now ≤ length c.args.self.now.tablets.tablets =
    omega (arith, same, length-tablets_of c.args.master c.args.self.now.tablets.tablets) in
    IfOk-weaker c.give_parts.result _ _ (λ parts all. omega (arith, few, all)) c.give_parts.ensures.few
