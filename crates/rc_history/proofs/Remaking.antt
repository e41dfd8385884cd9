-- A node that is made anew of what is left of its journal, and stopped, is where its life leads that has this journal.
use Rattle.std.proofs.Common.{◌≡◌, ℕ, true, false, List, [], ◌∷◌, filter, Option, Some, None, refl, sym, ap, ◌∙◌, subst}
use Rattle.std.specs.Prelude.{is_some}
use Rattle.rc_types.specs.declared.events.Setup.{Setup}
use Rattle.rc_types.specs.declared.messages.Message.{Message}
use Rattle.rc_model.specs.Model.{Master, master_takes, backup_takes, is_server, NodeWork, Deliver, HostNode, host_step}
use Rattle.rc_model.specs.Model.{is_for_backup, with_backup, with_master, server_takes, server_of, takes_if_running, ticks_if_running}
use Rattle.rc_model.specs.Model.{host_after, coordinator_after, coordinator_step}
use Rattle.rc_model.specs.Coordinator.{Coordinator, new_coordinator}
use Rattle.rc_model.specs.Nodes.{Tick, Stop, Start, runs, new_host, master_setup}
use Rattle.rc_model.specs.World.{NodeName, TheOutside, TheCoordinator, TheHost}
use Rattle.rc_model.proofs.Tests.{either, true_false}
use Rattle.rc_history.specs.Nodes.{Node, node_can, new_node}
use Rattle.rc_history.specs.Nodes as node
use Rattle.rc_history.specs.Remade.{stopped, SameButMaster, host_keeps, coordinator_keeps}
use Rattle.rc_history.proofs.Remade.{hosts-remade, coordinator-remade}
use Rattle.rc_history.specs.Lives.{keeps, SameNode, Life, new_life, life_next, life_after, node_after, stops, replayed}
use Rattle.rc_history.specs.Processes.{Deed, stop_deeds}
use Rattle.rc_history.proofs.OwnLife.{IsLived, works_of, life_of, life_node, life_journal}
use Rattle.rc_history.proofs.Cutting.{node_runs}

node_after-outside : (works : List NodeWork) → node_after node.TheOutside works ≡ node.TheOutside
node_after-outside [] = refl
node_after-outside (work ∷ works) = node_after-outside works

node_after-coordinator : (c : Coordinator) (works : List NodeWork) → node_after (node.TheCoordinator c) works
    ≡ node.TheCoordinator (coordinator_after c works)
node_after-coordinator c [] = refl
node_after-coordinator c (work ∷ works) = node_after-coordinator (coordinator_step c work).0 works

node_after-host : (host : HostNode) (works : List NodeWork) → node_after (node.TheHost host) works ≡ node.TheHost (host_after host works)
node_after-host host [] = refl
node_after-host host (work ∷ works) = node_after-host (host_step host work).0 works

-- Where no server runs, none was started

takes-runs : (host : HostNode) (running : Option Master) (message : Message) → host.master ≡ running →
    runs (takes_if_running host running message).0 ≡ runs host
takes-runs host None message is = refl
takes-runs host (Some m) message is =
    either (λ after. runs after.0 ≡ runs host) (is_server (server_of host) message.to) (server_takes host m message) (host, [])
    (λ _. either (λ after. runs after.0 ≡ runs host) (is_for_backup message.body)
    (with_backup host (backup_takes host.backup message.from message.body))
    (with_master host (master_takes m message.from message.body)) (λ _. refl) (λ _. sym (ap is_some is))) (λ _. refl)

ticks-runs : (host : HostNode) (running : Option Master) → host.master ≡ running → runs (ticks_if_running host running).0 ≡ runs host
ticks-runs host None is = refl
ticks-runs host (Some m) is = sym (ap is_some is)

abbrev RestsZero : Life → Type 0
RestsZero life = node_runs life.node ≡ false → life.started ≡ 0

zero-host : (name : NodeName) (host : HostNode) (journal : List NodeWork) {started : ℕ} (work : NodeWork) →
    (runs host ≡ false → started ≡ 0) →
    RestsZero (life_next name (record { node = node.TheHost host; journal = journal; started = started }) work)
zero-host name host journal (Deliver message) zero e = zero (sym (takes-runs host host.master message refl) ∙ e)
zero-host name host journal Tick zero e = zero (sym (ticks-runs host host.master refl) ∙ e)
zero-host name host journal Stop zero e = refl
zero-host name host journal (Start kept) zero e = true_false e
zero-host name host journal _ zero e = zero e

zero-coordinator : (name : NodeName) (c : Coordinator) (journal : List NodeWork) {started : ℕ} (work : NodeWork) → started ≡ 0 →
    node_can (node.TheCoordinator c) work ≡ true →
    (life_next name (record { node = node.TheCoordinator c; journal = journal; started = started }) work).started ≡ 0
zero-coordinator name c journal (Start kept) zero can = true_false (sym can)
zero-coordinator name c journal Stop zero can = refl
zero-coordinator name c journal work zero can = zero

zero-outside : (name : NodeName) (journal : List NodeWork) {started : ℕ} (work : NodeWork) → started ≡ 0 →
    node_can node.TheOutside work ≡ true →
    (life_next name (record { node = node.TheOutside; journal = journal; started = started }) work).started ≡ 0
zero-outside name journal (Start kept) zero can = true_false (sym can)
zero-outside name journal Stop zero can = refl
zero-outside name journal work zero can = zero

zero-next : (name : NodeName) (n : Node) (journal : List NodeWork) {started : ℕ} (work : NodeWork) → (node_runs n ≡ false → started ≡ 0) →
    node_can n work ≡ true → RestsZero (life_next name (record { node = n; journal = journal; started = started }) work)
zero-next name node.TheOutside journal work zero can e = zero-outside name journal work (zero refl) can
zero-next name (node.TheCoordinator c) journal work zero can e = zero-coordinator name c journal work (zero refl) can
zero-next name (node.TheHost host) journal work zero can e = zero-host name host journal work zero e

pub zero-life : (name : NodeName) (life : Life) (deeds : List Deed) → RestsZero life → IsLived name life deeds →
    RestsZero (life_of name life deeds)
zero-life name life [] zero lived = zero
zero-life name life (deed ∷ deeds) zero lived =
    zero-life name (life_next name life deed.work) deeds (zero-next name life.node life.journal deed.work zero lived.0.can)
    lived.1

zero-new : (setup : Setup) (name : NodeName) → RestsZero (new_life setup name)
zero-new setup name e = refl

-- The same after a stop

pub record Ends (name : NodeName) (one other : Life) : Type 0 where
  pub life : life_after name one (stops one.node) ≡ life_after name other (stops other.node)
  pub deeds : stop_deeds name one (stops one.node) ≡ stop_deeds name other (stops other.node)

ends-both : {name : NodeName} (base : HostNode) (one other : Option Master) {journal : List NodeWork} {started : ℕ} →
    is_some one ≡ is_some other → (is_some other ≡ false → started ≡ 0) →
    Ends name (record { node = node.TheHost (record base { master = one }); journal = journal; started = 0 })
    (record { node = node.TheHost (record base { master = other }); journal = journal; started = started })
ends-both base None None {journal} {started} both zero = record {
  life = ap (λ n. record { node = node.TheHost (record base { master = None }); journal = journal; started = n }) (sym (zero refl));
  deeds = refl;
}
ends-both base None (Some other) both zero = true_false (sym both)
ends-both base (Some one) None both zero = true_false both
ends-both base (Some one) (Some other) both zero = record { life = refl; deeds = refl }

-- hosts that are the same but for their masters, with one journal
ends-host : {name : NodeName} {one other : HostNode} {journal : List NodeWork} {started : ℕ} → SameButMaster one other →
    (runs other ≡ false → started ≡ 0) →
    Ends name (record { node = node.TheHost one; journal = journal; started = 0 })
    (record { node = node.TheHost other; journal = journal; started = started })
ends-host {name} {one} {other} {journal} {started} same zero =
    subst (λ (h : HostNode). Ends name (record { node = node.TheHost (record h { master = one.master }); journal = journal; started = 0 })
    (record { node = node.TheHost other; journal = journal; started = started })) (sym same.rest)
    (ends-both (stopped other) one.master other.master same.runs zero)

ends-same : {name : NodeName} {n : Node} {journal : List NodeWork} {started : ℕ} → started ≡ 0 →
    Ends name (record { node = n; journal = journal; started = 0 }) (record { node = n; journal = journal; started = started })
ends-same {name} {n} {journal} {started} zero =
    subst (λ s. Ends name (record { node = n; journal = journal; started = 0 }) (record { node = n; journal = journal; started = s }))
    (sym zero) (record { life = refl; deeds = refl })

ends-at : {name : NodeName} {n m one other : Node} {journal : List NodeWork} {started : ℕ} → n ≡ one → m ≡ other →
    (RestsZero (record { node = m; journal = journal; started = started })) →
    ((node_runs other ≡ false → started ≡ 0) →
    Ends name (record { node = one; journal = journal; started = 0 }) (record { node = other; journal = journal; started = started })) →
    Ends name (record { node = n; journal = journal; started = 0 }) (record { node = m; journal = journal; started = started })
ends-at {name} {m} {one} {journal} {started} e f zero ends =
    subst (λ x. Ends name (record { node = x; journal = journal; started = 0 })
    (record { node = m; journal = journal; started = started })) (sym e)
    (subst (λ x. Ends name (record { node = one; journal = journal; started = 0 })
    (record { node = x; journal = journal; started = started })) (sym f)
    (ends (λ still. zero (ap node_runs f ∙ still))))

pub remade-ends : (setup : Setup) (name : NodeName) (deeds : List Deed) → IsLived name (new_life setup name) deeds →
    Ends name (replayed setup name (life_of name (new_life setup name) deeds).journal) (life_of name (new_life setup name) deeds)
remade-ends setup TheOutside deeds lived =
    let life = life_of TheOutside (new_life setup TheOutside) deeds in
    ends-at (node_after-outside life.journal)
    (life_node TheOutside (new_life setup TheOutside) (works_of deeds) ∙ node_after-outside (works_of deeds))
    (zero-life TheOutside (new_life setup TheOutside) deeds (zero-new setup TheOutside) lived)
    (λ zero. ends-same (zero refl))
remade-ends setup TheCoordinator deeds lived =
    let life = life_of TheCoordinator (new_life setup TheCoordinator) deeds in
    let works = works_of deeds in
    let remains = node.TheCoordinator (coordinator_after new_coordinator works) in
    ends-at (node_after-coordinator new_coordinator life.journal
    ∙ ap node.TheCoordinator (ap (coordinator_after new_coordinator) (life_journal TheCoordinator (new_life setup TheCoordinator) works)
    ∙ coordinator-remade new_coordinator works))
    (life_node TheCoordinator (new_life setup TheCoordinator) works ∙ node_after-coordinator new_coordinator works)
    (zero-life TheCoordinator (new_life setup TheCoordinator) deeds (zero-new setup TheCoordinator) lived)
    (λ zero. ends-same (zero refl))
remade-ends setup (TheHost index) deeds lived =
    let life = life_of (TheHost index) (new_life setup (TheHost index)) deeds in
    let works = works_of deeds in
    let fresh = new_host index (master_setup setup index) in
    ends-at (node_after-host fresh life.journal
    ∙ ap (λ l. node.TheHost (host_after fresh l)) (life_journal (TheHost index) (new_life setup (TheHost index)) works))
    (life_node (TheHost index) (new_life setup (TheHost index)) works ∙ node_after-host fresh works)
    (zero-life (TheHost index) (new_life setup (TheHost index)) deeds (zero-new setup (TheHost index)) lived)
    (λ zero. ends-host (hosts-remade fresh works) zero)

-- the stop is a deed of its life

stop-host : (name : NodeName) (host : HostNode) (running : Option Master) (journal : List NodeWork) (started : ℕ) →
    IsLived name (record { node = node.TheHost (record host { master = running }); journal = journal; started = started })
    (stop_deeds name (record { node = node.TheHost (record host { master = running }); journal = journal; started = started })
    (stops (node.TheHost (record host { master = running }))))
stop-host name host None journal started = tt
stop-host name host (Some m) journal started = (record { can = refl; sends = refl; rests = refl }, tt)

stop-node : (name : NodeName) (n : Node) (journal : List NodeWork) (started : ℕ) →
    IsLived name (record { node = n; journal = journal; started = started })
    (stop_deeds name (record { node = n; journal = journal; started = started }) (stops n))
stop-node name node.TheOutside journal started = tt
stop-node name (node.TheCoordinator c) journal started = tt
stop-node name (node.TheHost host) journal started = stop-host name host host.master journal started

pub stop-lived : (name : NodeName) (life : Life) → IsLived name life (stop_deeds name life (stops life.node))
stop-lived name life = stop-node name life.node life.journal life.started

-- it has no other work than the stop
stop-works-host : (name : NodeName) (life : Life) (host : HostNode) (running : Option Master) →
    works_of (stop_deeds name life (stops (node.TheHost (record host { master = running }))))
    ≡ stops (node.TheHost (record host { master = running }))
stop-works-host name life host None = refl
stop-works-host name life host (Some m) = refl

stop-works-node : (name : NodeName) (life : Life) (n : Node) → works_of (stop_deeds name life (stops n)) ≡ stops n
stop-works-node name life node.TheOutside = refl
stop-works-node name life (node.TheCoordinator c) = refl
stop-works-node name life (node.TheHost host) = stop-works-host name life host host.master

pub stop-works : (name : NodeName) (life : Life) → life_of name life (stop_deeds name life (stops life.node))
    ≡ life_after name life (stops life.node)
stop-works name life = ap (life_after name life) (stop-works-node name life life.node)

-- A node that is given only what it keeps

made-at : {n m one other : Node} → n ≡ one → m ≡ other → SameNode one other → SameNode n m
made-at {m} {one} e f same =
    subst (λ (x : Node). SameNode x m) (sym e) (subst (λ (x : Node). SameNode one x) (sym f) same)

pub same-made : (setup : Setup) (name : NodeName) (works : List NodeWork) →
    SameNode (node_after (new_node setup name) (filter (keeps name) works)) (node_after (new_node setup name) works)
same-made setup TheOutside works =
    made-at (node_after-outside (filter (keeps TheOutside) works)) (node_after-outside works) tt
same-made setup TheCoordinator works =
    let kept : List NodeWork = filter coordinator_keeps works in
    made-at (node_after-coordinator new_coordinator kept) (node_after-coordinator new_coordinator works)
    (coordinator-remade new_coordinator works)
same-made setup (TheHost index) works =
    let kept : List NodeWork = filter host_keeps works in
    let fresh : HostNode = new_host index (master_setup setup index) in
    made-at (node_after-host fresh kept) (node_after-host fresh works) (hosts-remade fresh works)

pub journal-makes : (setup : Setup) (name : NodeName) (deeds : List Deed) →
    SameNode (node_after (new_node setup name) (life_of name (new_life setup name) deeds).journal)
    (life_of name (new_life setup name) deeds).node
journal-makes setup name deeds =
    subst (λ l. SameNode (node_after (new_node setup name) l) (life_of name (new_life setup name) deeds).node)
    (sym (life_journal name (new_life setup name) (works_of deeds)))
    (subst (λ (n : Node). SameNode (node_after (new_node setup name) (filter (keeps name) (works_of deeds))) n)
    (sym (life_node name (new_life setup name) (works_of deeds))) (same-made setup name (works_of deeds)))
