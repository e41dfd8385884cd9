-- Works given again, one more.
use Rattle.std.proofs.Common.{◌≡◌, ℕ, ◌+◌, ◌<◌, List, [], ◌∷◌, ◌++◌, length, take, get_or, refl, sym, ap, ◌∙◌}
use Rattle.std.proofs.Common.{◌≤◌, Result, Ok, Err, subst, arith}
use Rattle.std.specs.Prelude.{IfErr}
use Rattle.std.proofs.lemmas.List.{take_more}
use Rattle.std.proofs.Math.Seq.{take-length}
use Rattle.rc_types.specs.declared.events.NodeWork.{NodeWork}
use Rattle.rc_history.specs.Nodes.{Node}
use Rattle.rc_keeping.specs.Standing.{node_next, node_given}
use Rattle.rc_world.specs.declared.work.StepFault.{StepFault}
use Rattle.rc_world.specs.declared.work.StepFault.TheVariants.{NoRoom}
use Rattle.rc_world.specs.NodeView.{node_seen, NodeHasRoom}
use Rattle.rc_process.specs.View.{ProcessView, IsReplayed, RunsOut, RunsOutAfter}

pub node_given-push : (node : Node) (works : List NodeWork) (work : NodeWork) →
    node_given node (works ++ work ∷ []) ≡ node_next (node_given node works) work
node_given-push node [] work = refl
node_given-push node (first ∷ works) work = node_given-push (node_next node first) works work

pub one_more : (first now after : Node) (works : List NodeWork) (i : ℕ) (work : NodeWork) → i < length works → work ≡ get_or works i work →
    now ≡ node_given first (take i works) → after ≡ node_next now work → after ≡ node_given first (take (i + 1) works)
one_more first now after works i work h is so_far gone_on =
    gone_on ∙ (ap (λ n. node_next n work) so_far ∙ (sym (node_given-push first (take i works) work)
    ∙ ap (node_given first) (sym (take_more works i work h ∙ ap (λ w. take i works ++ w ∷ []) (sym is)))))

-- a node that has no room for one of the works has none after those before it
pub runs_out : {A : Type 0} (answer : Result A StepFault) (fault : StepFault) (first now : Node) (works : List NodeWork) (i : ℕ) →
    answer ≡ Err fault → (fault ≡ NoRoom → NodeHasRoom now → ⊥) → now ≡ node_given first (take i works) → i < length works →
    IfErr answer (λ f. f ≡ NoRoom → RunsOutAfter first works)
runs_out (Ok x) fault first now works i is full so_far h = tt
runs_out (Err f) fault first now works i is full so_far h = λ no.
    let same : f ≡ fault = cc in
    record {
      count = i;
      within = omega (arith, h);
      full = λ room. full (sym same ∙ no) (subst NodeHasRoom (sym so_far) room);
    }

-- and one that has none after all of them
pub out_after_all : (node now : Node) (works : List NodeWork) → now ≡ node_given node works → (NodeHasRoom now → ⊥) →
    RunsOutAfter node works
out_after_all node now works is full = record {
  count = length works;
  within = omega arith;
  full = λ room. full (subst NodeHasRoom (sym is) (subst (λ l. NodeHasRoom (node_given node l)) (take-length works) room));
}

-- so the numbers run out where the node of a file has no room left for its stop
pub stopped_out : (file : List ℕ) (process : ProcessView) → IsReplayed file process → (NodeHasRoom process.node → ⊥) → RunsOut file
stopped_out file process r full = record {
  loaded = r.loaded;
  count = r.count;
  read = r.read;
  good = r.good;
  begins = r.begins;
  behind = r.behind;
  out = out_after_all (node_seen r.loaded) process.node r.read (ap (λ (p : ProcessView). p.node) r.is) full;
}
