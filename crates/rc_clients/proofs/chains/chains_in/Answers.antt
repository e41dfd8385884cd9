use Rattle.std.proofs.Common.{◌≡◌, ◌∙◌, ◌+◌, ◌-◌, Some, ap, cond, subst, arith}
use Rattle.std.specs.Ordering.{nat_cmp}
use Rattle.std.specs.BTreeMap.{get, is_at}
use Rattle.std.proofs.lemmas.Bool.Decides.{nat_tests}
use Rattle.rc_clients.specs.Pending.{AreChains}
use Rattle.rc_clients.proofs.ChainLemmas.{chains_more}
use Rattle.rc_clients.proofs.chains.chains_in.Goals as goal

pub loop-moment-preserved-in_ok-insert-2 : goal.loop-moment-preserved-in_ok-insert-2
loop-moment-preserved-in_ok-insert-2 c =
    let before : c.loop-moment.moment ≡ c.loop-moment.moment - 1 + 1 =
    first_of (omega (arith, c.loop-moment-test.true), grind (arith, nat_tests)) in
    chains_more c.in-Some.ensures
    (subst (λ n. AreChains c.args.history.now n c.loop-moment.heads c.loop-moment.nexts) before c.loop-moment.invariant)
    c.in_ok-insert-2.ensures.updates.0 (λ i. c.in_ok-insert.ensures.updates.0 i
    ∙ ap (λ o. cond (is_at (nat_cmp (c.loop-moment.moment - 1)) i) (Some o) (get nat_cmp c.loop-moment.nexts i))
    (c.copied.ensures ∙ c.get.ensures.value))
