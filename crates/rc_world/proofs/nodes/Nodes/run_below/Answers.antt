use Rattle.std.proofs.Common.{ℕ, [], ◌∷◌, ◌++◌, append_assoc, ap, sym, subst, ◌∙◌}
use Rattle.rc_world.specs.HostView.{HostData}
use Rattle.rc_world.proofs.CopiedHosts.{AreBelow, below-push, below-at, all-done}
use Rattle.rc_world.proofs.nodes.Nodes.run_below.Goals as goal

pub loop-index-preserved : goal.loop-index-preserved
loop-index-preserved g c =
    let done = c.loop-index.invariant.0 in
    let e : ℕ × HostData = (c.in-Some.index.now, c.in-Some.host.now) in
    let rest = c.next.new.self in (
      done ++ e ∷ [],
      append_assoc done (e ∷ []) rest ∙ ap (λ es. done ++ es) (sym c.in-Some.ensures.steps) ∙ c.loop-index.invariant.1,
      below-push c.args.hosts done e c.loop-index.invariant.2 (c.is_below.ensures c.if-not-is_below.false),
    )

pub returns : goal.returns
returns g c = λ _.
    below-at c.args.self.now.setup c.args.hosts c.args.self.now.hosts.entries
    (subst (λ es. AreBelow c.args.hosts es) (all-done c.loop-index.invariant.0 c.loop-index.index-iterator c.args.self.now.hosts.entries
    c.loop-index.invariant.1 c.in-None.ensures.steps.0) c.loop-index.invariant.2)
