use Rattle.std.proofs.Common.{ℕ, ◌<◌, List, length, filter, not, eqb, ap, sym, ◌∙◌, arith}
use Rattle.std.specs.List.{list_any}
use Rattle.std.proofs.lemmas.Result.{IfOk-weaker}
use Rattle.rc_model.specs.Model.{Segment, head_of}
use Rattle.rc_headroll.specs.LogData.{log_of}
use Rattle.rc_headroll.specs.contracts.log.LogHead.{the_view}
use Rattle.rc_headroll.proofs.LogSteps.{left_out-none}
use Rattle.rc_headroll.proofs.log.LogHead.left_out.Goals as goal

pub returns-then-self : goal.returns-then-self
returns-then-self c = rw (← c.self.view_is) (c.new.ensures.items ∙ sym (c.self.invariant.4.none_out c.if-self.true))

pub returns-then-len-lt2 : goal.returns-then-len-lt2
returns-then-len-lt2 c =
    let few : length c.self.inside.segments.items < 2 = omega (arith, c.if-len-lt2.true, c.len.ensures, c.self.inside.segments.ok.0) in
    rw (← c.self.view_is) (c.new-then-len-lt2.ensures.items ∙ sym (left_out-none (the_view c.self.inside) few))

pub returns : goal.returns
returns c =
    IfOk-weaker c.lacking.result _ _
    (λ rest is. is
    ∙ ap (λ (segs : List ℕ). filter (λ seg. not (list_any (eqb seg) segs)) c.digest.result.now)
    (c.digest-2.ensures ∙ ap (λ (s : Segment). s.digest) c.newest.ensures.newest)
    ∙ ap (filter (λ seg. not (list_any (eqb seg) (head_of (log_of c.args.self.now)).digest)))
    (c.digest.ensures ∙ ap (λ (s : Segment). s.digest) c.previous.ensures.previous))
    c.lacking.ensures
