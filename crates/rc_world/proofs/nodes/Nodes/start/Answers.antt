use Rattle.std.proofs.Common.{◌≡◌, ◌++◌, ℕ, List, sym, ap, subst, ◌∙◌}
use Rattle.rc_model.specs.Model.{Message, put, HostNode, starts_host, next_server}
use Rattle.rc_world.specs.HostView.{host_of, HostHasRoom}
use Rattle.rc_world.specs.WorldView.{hosts_of}
use Rattle.rc_world.proofs.HostTables.{stepped, left, there-at, OnOk-then, OnErr-then}
use Rattle.rc_world.proofs.nodes.Nodes.start.Goals as goal

pub start-requires : goal.start-requires
start-requires g c =
    let here : host_of c.in-Some.host.now ≡ hosts_of c.enroll.new.self.setup c.enroll.new.self.hosts c.args.index =
    there-at c.enroll.new.self.setup c.enroll.new.self.hosts c.args.index c.in-Some.host.now (sym c.in-Some.ensures.value) in
    let before : hosts_of c.enroll.new.self.setup c.enroll.new.self.hosts c.args.index ≡ hosts_of c.args.self.now.setup
    c.args.self.now.hosts c.args.index =
    ap (λ (t : ℕ → HostNode). t c.args.index) c.enroll.ensures.hosts in
    subst HostHasRoom (sym (here ∙ before)) c.requires.room

pub returns-clause-hosts : goal.returns-clause-hosts
returns-clause-hosts g c =
    let F : HostNode → HostNode = λ h. (starts_host h (next_server h) c.args.kept.now).0 in
    let then_put : (ℕ → HostNode) → ℕ → HostNode = λ t. put t c.args.index (F (t c.args.index)) in
    OnOk-then c.start.result
    (λ step. stepped F c.enroll.new.self.setup c.enroll.new.self.hosts (c.get_mut.follows.lender c.start.new.self) c.args.index
    c.in-Some.host.now c.start.new.self (sym c.in-Some.ensures.value) (c.get_mut.follows.holds c.start.new.self).3
    step ∙ ap then_put c.enroll.ensures.hosts)
    c.start.ensures.state

pub returns-clause-sends : goal.returns-clause-sends
returns-clause-sends g c =
    let here : host_of c.in-Some.host.now ≡ hosts_of c.enroll.new.self.setup c.enroll.new.self.hosts c.args.index =
    there-at c.enroll.new.self.setup c.enroll.new.self.hosts c.args.index c.in-Some.host.now (sym c.in-Some.ensures.value) in
    let before : hosts_of c.enroll.new.self.setup c.enroll.new.self.hosts c.args.index ≡ hosts_of c.args.self.now.setup
    c.args.self.now.hosts c.args.index =
    ap (λ (t : ℕ → HostNode). t c.args.index) c.enroll.ensures.hosts in
    let says : HostNode → List Message = λ h. c.args.sent.now.items ++ (starts_host h (next_server h) c.args.kept.now).1 in
    OnOk-then c.start.result (λ sends. sends ∙ ap says (here ∙ before)) c.start.ensures.sends

pub returns-clause-err : goal.returns-clause-err
returns-clause-err g c =
    OnErr-then c.start.result
    (λ same. left c.enroll.new.self.setup c.enroll.new.self.hosts (c.get_mut.follows.lender c.start.new.self) c.args.index
    c.in-Some.host.now c.start.new.self (sym c.in-Some.ensures.value) (c.get_mut.follows.holds c.start.new.self).3
    same ∙ c.enroll.ensures.hosts)
    c.start.ensures.err
