-- A node that is made anew of a file.
use Rattle.std.proofs.Common.{◌≡◌, ◌+◌, ℕ, zero, suc, Bool, true, false, cond, List, [], ◌∷◌, ◌++◌, length, take, refl, sym, ap, ◌∙◌}
use Rattle.std.proofs.Common.{subst, Option, Some, None, append_assoc}
use Rattle.std.proofs.Math.Seq.{take-append-add}
use Rattle.rc_types.specs.declared.events.Setup.{Setup}
use Rattle.rc_types.specs.declared.events.NodeWork.{NodeWork}
use Rattle.rc_model.specs.Nodes.{HostNode, host_can, host_step}
use Rattle.rc_model.specs.Coordinator.{Coordinator}
use Rattle.rc_model.specs.World.{NodeName}
use Rattle.rc_model.specs.World as named
use Rattle.rc_model.proofs.Tests.{true_false}
use Rattle.rc_history.specs.Nodes.{Node, TheOutside, TheCoordinator, TheHost, node_step, new_node, name_of, node_can}
use Rattle.rc_history.specs.Remade.{SameButMaster, host_keeps, stopped}
use Rattle.rc_history.proofs.Remade.{same-same, same-through, same-back}
use Rattle.rc_world.specs.NodeView.{NodeData, OutsideData, CoordinatorData}
use Rattle.rc_world.specs.NodeView.{HostNodeData, node_seen}
use Rattle.rc_keeping.specs.Keeping.{host_next, host_given}
use Rattle.rc_keeping.proofs.ComingBack.{saved-hosts-come-back, refusals-come-back}
use Rattle.rc_history.specs.Lives.{keeps, node_after, stops, SameNode}
use Rattle.rc_history.proofs.Cutting.{name-next}
use Rattle.rc_codec.proofs.Lawful.{some_is}
use Rattle.rc_keeping.specs.Saved.{Saved, HostSave, CoordinatorSave, saved_of, node_from}
use Rattle.rc_keeping.proofs.Loaded.{loaded-is-same}
use Rattle.rc_keeping.specs.Standing.{AllWritten, node_next, node_given, FilesMakeAnew, OneMoreIsWritten, FewerStandForFewer}
use Rattle.rc_keeping.specs.Standing.{StopsMakeEqual, SavesStandForAll}
use Rattle.rc_model.specs.Master.{Master}
use Rattle.std.proofs.lemmas.List.{append-nil}
use Rattle.std.specs.Prelude.{is_some}

apart : (b : Bool) (x y : HostNode) → cond b (TheHost x) (TheHost y) ≡ TheHost (cond b x y)
apart true x y = refl
apart false x y = refl

next-host : (host : HostNode) (given : NodeWork) → node_next (TheHost host) given ≡ TheHost (host_next host given)
next-host host given = apart (host_can host given) (host_step host given).0 host

-- hosts that are the same but for their masters, after one work that is kept
host-next-same : (one other : HostNode) (given : NodeWork) → SameButMaster one other → host_keeps given ≡ true →
    host_can other given ≡ true → SameButMaster (host_next one given) (host_step other given).0
host-next-same one other given same kept may =
    subst (λ b. SameButMaster (host_next one given) (cond b (host_step other given).0 other)) may
    (subst (λ b. SameButMaster (host_given one (cond b (given ∷ []) [])) (host_next other given)) kept
    (saved-hosts-come-back one other (given ∷ []) same))

next-same : (name : NodeName) (n m : Node) (given : NodeWork) → SameNode n m → name_of m ≡ name → keeps name given ≡ true →
    node_can m given ≡ true → SameNode (node_next n given) (node_step m given).0
next-same name TheOutside TheOutside given same is kept may = by (node_can TheOutside given)
  where
    by : (b : Bool) → SameNode (cond b TheOutside TheOutside) TheOutside
    by true = tt
    by false = tt
next-same name (TheCoordinator c) (TheCoordinator d) given same is kept may =
    subst (λ (x : Coordinator). SameNode (node_next (TheCoordinator x) given) (node_step (TheCoordinator d) given).0) (sym same)
    (subst (λ b. SameNode (cond b (node_step (TheCoordinator d) given).0 (TheCoordinator d)) (node_step (TheCoordinator d) given).0)
    (sym may) refl)
next-same name (TheHost one) (TheHost other) given same is kept may =
    subst (λ (x : Node). SameNode x (node_step (TheHost other) given).0) (sym (next-host one given))
    (host-next-same one other given same (subst (λ n. keeps n given ≡ true) (sym is) kept) may)
next-same name TheOutside (TheCoordinator d) given same is kept may = absurd same
next-same name TheOutside (TheHost other) given same is kept may = absurd same
next-same name (TheCoordinator c) TheOutside given same is kept may = absurd same
next-same name (TheCoordinator c) (TheHost other) given same is kept may = absurd same
next-same name (TheHost one) TheOutside given same is kept may = absurd same
next-same name (TheHost one) (TheCoordinator d) given same is kept may = absurd same

again-same : (name : NodeName) (n m : Node) (works : List NodeWork) (count : ℕ) → SameNode n m → name_of m ≡ name →
    AllWritten name m works → SameNode (node_given n (take count works)) (node_after m (take count works))
again-same name n m works zero same is written = same
again-same name n m [] (suc count) same is written = same
again-same name n m (given ∷ works) (suc count) same is written =
    again-same name (node_next n given) (node_step m given).0 works count (next-same name n m given same is written.0 written.1)
    (name-next m given ∙ is) written.2

pub name-after : (n : Node) (works : List NodeWork) → name_of (node_after n works) ≡ name_of n
name-after n [] = refl
name-after n (w ∷ works) = name-after (node_step n w).0 works ∙ name-next n w

pub name-new : (setup : Setup) (name : NodeName) → name_of (new_node setup name) ≡ name
name-new setup named.TheOutside = refl
name-new setup named.TheCoordinator = refl
name-new setup (named.TheHost index) = refl

after-append : (n : Node) (one two : List NodeWork) → node_after n (one ++ two) ≡ node_after (node_after n one) two
after-append n [] two = refl
after-append n (w ∷ one) two = after-append (node_step n w).0 one two

take-past : (one two : List NodeWork) (count : ℕ) → take (length one + count) (one ++ two) ≡ one ++ take count two
take-past one two count = take-append-add one two count

pub files-make-anew : FilesMakeAnew
files-make-anew setup name saved before works journal count stands within =
    let base : Node = node_after (new_node setup name) before in
    let cut : node_after (new_node setup name) (take (length before + count) journal)
    ≡ node_after base (take count works) =
    ap (λ l. node_after (new_node setup name) (take (length before + count) l)) stands.same
    ∙ (ap (node_after (new_node setup name)) (take-past before works count)
    ∙ after-append (new_node setup name) before (take count works)) in
    subst (SameNode (node_given (node_from saved) (take count works))) (sym cut)
    (again-same name (node_from saved) base works count stands.loaded
    (name-after (new_node setup name) before ∙ name-new setup name) stands.written)

-- One work more

written-push : (name : NodeName) (m : Node) (works : List NodeWork) (given : NodeWork) → AllWritten name m works →
    keeps name given ≡ true → node_can (node_after m works) given ≡ true →
    AllWritten name m (works ++ given ∷ [])
written-push name m [] given written kept may = (kept, may, tt)
written-push name m (first ∷ works) given written kept may =
    (written.0, written.1, written-push name (node_step m first).0 works given written.2 kept may)

-- a host that is the same but for its master can be given what is kept as well
can-same : (name : NodeName) (one other : Node) (given : NodeWork) → SameNode one other → name_of one ≡ name →
    keeps name given ≡ true → node_can other given ≡ true → node_can one given ≡ true
can-same name TheOutside TheOutside given same is kept can = can
can-same name (TheCoordinator c) (TheCoordinator d) given same is kept can = can
can-same name (TheHost one) (TheHost other) given same is kept can =
    refusals-come-back one other given same (subst (λ n. keeps n given ≡ true) (sym is) kept) ∙ can
can-same name TheOutside (TheCoordinator d) given same is kept can = absurd same
can-same name TheOutside (TheHost other) given same is kept can = absurd same
can-same name (TheCoordinator c) TheOutside given same is kept can = absurd same
can-same name (TheCoordinator c) (TheHost other) given same is kept can = absurd same
can-same name (TheHost one) TheOutside given same is kept can = absurd same
can-same name (TheHost one) (TheCoordinator d) given same is kept can = absurd same

pub one-more-is-written : OneMoreIsWritten
one-more-is-written setup name saved before works journal node given stands same kept can =
    let base : Node = node_after (new_node setup name) before in
    let last : Node = node_after base works in
    let made : node_after (new_node setup name) journal ≡ last =
    ap (node_after (new_node setup name)) stands.same ∙ after-append (new_node setup name) before works in
    let named : name_of last ≡ name = name-after base works ∙ (name-after (new_node setup name) before ∙ name-new setup name) in
    record {
      loaded = stands.loaded;
      written = written-push name base works given stands.written kept
          (can-same name last node given (subst (λ (x : Node). SameNode x node) made same) named kept can);
      same = ap (λ l. l ++ given ∷ []) stands.same ∙ append_assoc before works (given ∷ []);
    }

-- A stop

stops-both : (base : HostNode) (one other : Option Master) → is_some one ≡ is_some other →
    node_after (TheHost (record base { master = one })) (stops (TheHost (record base { master = one })))
    ≡ node_after (TheHost (record base { master = other })) (stops (TheHost (record base { master = other })))
stops-both base None None both = refl
stops-both base None (Some other) both = true_false (sym both)
stops-both base (Some one) None both = true_false both
stops-both base (Some one) (Some other) both = refl

pub stops-make-equal : StopsMakeEqual
stops-make-equal TheOutside TheOutside same = refl
stops-make-equal (TheCoordinator c) (TheCoordinator d) same = ap TheCoordinator same
stops-make-equal (TheHost one) (TheHost other) same =
    subst (λ (h : HostNode). node_after (TheHost (record h { master = one.master })) (stops (TheHost (record h { master = one.master })))
    ≡ node_after (TheHost other) (stops (TheHost other))) (sym same.rest) (stops-both (stopped other) one.master other.master same.runs)
stops-make-equal TheOutside (TheCoordinator d) same = absurd same
stops-make-equal TheOutside (TheHost other) same = absurd same
stops-make-equal (TheCoordinator c) TheOutside same = absurd same
stops-make-equal (TheCoordinator c) (TheHost other) same = absurd same
stops-make-equal (TheHost one) TheOutside same = absurd same
stops-make-equal (TheHost one) (TheCoordinator d) same = absurd same

-- A save

pub node-through : (one two three : Node) → SameNode one two → SameNode two three → SameNode one three
node-through TheOutside TheOutside TheOutside a b = tt
node-through (TheCoordinator c) (TheCoordinator d) (TheCoordinator e) a b = a ∙ b
node-through (TheHost x) (TheHost y) (TheHost z) a b = same-through a b
node-through TheOutside TheOutside (TheCoordinator e) a b = absurd b
node-through TheOutside TheOutside (TheHost e) a b = absurd b
node-through TheOutside (TheCoordinator d) three a b = absurd a
node-through TheOutside (TheHost d) three a b = absurd a
node-through (TheCoordinator c) TheOutside three a b = absurd a
node-through (TheCoordinator c) (TheHost d) three a b = absurd a
node-through (TheCoordinator c) (TheCoordinator d) TheOutside a b = absurd b
node-through (TheCoordinator c) (TheCoordinator d) (TheHost e) a b = absurd b
node-through (TheHost c) TheOutside three a b = absurd a
node-through (TheHost c) (TheCoordinator d) three a b = absurd a
node-through (TheHost c) (TheHost d) TheOutside a b = absurd b
node-through (TheHost c) (TheHost d) (TheCoordinator e) a b = absurd b

pub node-back : (one other : Node) → SameNode one other → SameNode other one
node-back TheOutside TheOutside a = tt
node-back (TheCoordinator c) (TheCoordinator d) a = sym a
node-back (TheHost x) (TheHost y) a = same-back a
node-back TheOutside (TheCoordinator d) a = absurd a
node-back TheOutside (TheHost d) a = absurd a
node-back (TheCoordinator c) TheOutside a = absurd a
node-back (TheCoordinator c) (TheHost d) a = absurd a
node-back (TheHost c) TheOutside a = absurd a
node-back (TheHost c) (TheCoordinator d) a = absurd a

pub same-itself : (n : Node) → SameNode n n
same-itself TheOutside = tt
same-itself (TheCoordinator c) = refl
same-itself (TheHost host) = same-same

-- the node of a save is the node that was saved, but for its master
pub saved-same : (node : NodeData) (saved : Saved) → saved_of node ≡ Some saved → SameNode (node_from saved) (node_seen node)
saved-same OutsideData saved e = absurd cc
saved-same (CoordinatorData book) saved e =
    subst (λ (s : Saved). SameNode (node_from s) (node_seen (CoordinatorData book))) (some_is _ saved e) refl
saved-same (HostNodeData host) (HostSave parts) e = loaded-is-same host parts e
saved-same (HostNodeData host) (CoordinatorSave book) e = absurd cc

pub saves-stand : SavesStandForAll
saves-stand setup name node saved journal its same = record {
  loaded = node-through (node_from saved) (node_seen node) (node_after (new_node setup name) journal) (saved-same node saved its)
      (node-back (node_after (new_node setup name) journal) (node_seen node) same);
  written = tt;
  same = sym (append-nil journal);
}

-- Fewer works

written-take : (name : NodeName) (m : Node) (works : List NodeWork) (count : ℕ) → AllWritten name m works →
    AllWritten name m (take count works)
written-take name m works zero is = tt
written-take name m [] (suc count) is = tt
written-take name m (given ∷ works) (suc count) is = (is.0, is.1, written-take name (node_step m given).0 works count is.2)

pub fewer-stand : FewerStandForFewer
fewer-stand setup name saved before works journal count stands within = record {
  loaded = stands.loaded;
  written = written-take name (node_after (new_node setup name) before) works count stands.written;
  same = ap (take (length before + count)) stands.same ∙ take-past before works count;
}
