use Rattle.std.proofs.Common.{◌∙◌, ap, subst, sym}
use Rattle.rc_clients.specs.Matching.{AreMatched, first_write}
use Rattle.rc_clients.proofs.MatchLemmas.{found_serves, matched_begin, matched_end, matched_take, none_left, written_skips, zero_skips}
use Rattle.rc_clients.proofs.matching.unmatched_version.Goals as goal

pub loop-operation-init : goal.loop-operation-init
loop-operation-init c =
    let gives = c.into_iter-operation-iterator.ensures.into_iter_gives in
    matched_begin c.in_ok-heads.ensures c.requires.firsts gives.0 gives.5 gives.6

pub loop-operation-preserved-then-operation-eq0 : goal.loop-operation-preserved-then-operation-eq0
loop-operation-preserved-then-operation-eq0 c = zero_skips c.if-operation-eq0.true
    (subst (AreMatched c.args.history.now c.args.firsts.now c.loop-operation.heads) c.in-Some.ensures.steps
    c.loop-operation.invariant)

pub loop-operation-preserved-then-has_write : goal.loop-operation-preserved-then-has_write
loop-operation-preserved-then-has_write c = written_skips c.if-has_write.ensures
    (subst (AreMatched c.args.history.now c.args.firsts.now c.loop-operation.heads) c.in-Some.ensures.steps
    c.loop-operation.invariant)

pub returns-in_default : goal.returns-in_default
returns-in_default c = none_left c.wanted-name.result
    (subst (AreMatched c.args.history.now c.args.firsts.now c.loop-operation.heads) c.in-Some.ensures.steps
    c.loop-operation.invariant)
    c.requires.bars c.if-operation-eq0.false c.if-has_write.ensures
    c.wanted-name.ensures.0 c.wanted-name.ensures.1 c.wanted-name.ensures.2
    (ap (λ o. first_write c.args.bars.now o c.in-Some.operation.now.version) (sym (c.copied.ensures ∙ c.get.ensures.value))
    ∙ sym c.in_default.ensures)

pub loop-operation-preserved : goal.loop-operation-preserved
loop-operation-preserved c =
    let was = subst (AreMatched c.args.history.now c.args.firsts.now c.loop-operation.heads) c.in-Some.ensures.steps
    c.loop-operation.invariant in
    let wanted = c.wanted-name.ensures in
    let served = found_serves c.wanted-name.result was c.requires.bars wanted.0 wanted.1 wanted.2
    (ap (λ o. first_write c.args.bars.now o c.in-Some.operation.now.version) (sym (c.copied.ensures ∙ c.get.ensures.value))
    ∙ sym c.in-Some-first_write.ensures) in
    matched_take c.args.history.now c.args.firsts.now c.loop-operation.heads c.advance.new.heads c.in_ok-heads.heads
    c.in_ok-heads.nexts (c.in-Some.field-0-0.now, c.in-Some.operation.now) c.next.new.self c.wanted-name.result
    c.in-Some-first_write.moment was c.in_ok-heads.ensures c.requires.firsts c.if-operation-eq0.false c.if-has_write.ensures
    wanted.0 wanted.1 wanted.2 served.0 served.1 c.in_ok-advance.ensures

pub returns : goal.returns
returns c = matched_end c.in-None.ensures.steps.0 c.requires.firsts c.loop-operation.invariant
