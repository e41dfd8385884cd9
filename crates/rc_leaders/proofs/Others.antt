-- What happens to the other nodes happens to them in these lives.
use Rattle.std.proofs.Common.{◌≡◌, ◌≤◌, ◌+◌, ℕ, Bool, true, false, cond, ◌⊎◌, inl, inr, List, [], ◌∷◌, ◌++◌, length, filter, take}
use Rattle.std.proofs.Common.{refl, sym, ap, ◌∙◌, subst, arith, nat_le}
use Rattle.rc_types.specs.declared.events.Setup.{Setup}
use Rattle.rc_types.specs.declared.messages.Message.{Message}
use Rattle.rc_model.specs.Headline.{In}
use Rattle.rc_model.specs.Nodes.{NodeWork}
use Rattle.rc_model.specs.World.{NodeName, TheCoordinator, same_node}
use Rattle.rc_model.proofs.Members.{In-left, In-right, In-append, In-filter, filter-In, In-map}
use Rattle.rc_history.specs.Nodes.{node_can}
use Rattle.rc_history.specs.Lives.{Life, life_next, stops, replayed, remade}
use Rattle.rc_history.specs.Processes.{Deed, Process, Processes, Happening, Takes, Syncs, Leaves, Falls, with_process, May, MayTake}
use Rattle.rc_history.specs.Processes.{MayLeave, MayBeLeft, safe_at, deed_of, stop_deeds, is_left, IsBrought}
use Rattle.rc_leaders.specs.Leaders.{Cluster, IsOther, IsOfOthers, Others}
use Rattle.rc_leaders.specs.Store.{journal_in}
use Rattle.rc_leaders.proofs.Simulated.{Leads, Simulated, Comes, turned, behind-more, leads-more}

-- one of the other processes has changed, and what was done with it
abbrev with_other : Cluster → NodeName → Process → List Deed → Cluster
with_other cluster name process done = record cluster {
  nodes = record { at = with_process cluster.nodes.at name process; done = done; left = cluster.nodes.left };
}

abbrev live_with : Processes → NodeName → Process → List Deed → Processes
live_with lives name process done = record { at = with_process lives.at name process; done = done; left = lives.left }

other-changes : (cluster : Cluster) (lives : Processes) (name : NodeName) (process : Process) (done now : List Deed) → IsOther name →
    ((deed : Deed) → In deed lives.done → deed.node ≡ TheCoordinator → In deed now) →
    ((deed : Deed) → In deed done → In deed now × IsOther deed.node) → Simulated cluster lives →
    Simulated (with_other cluster name process done) (live_with lives name process now)
other-changes cluster lives name process done now other stays does sim = record {
  left = sim.left;
  others = λ one its. by one its (same_node name one);
  done = does;
  leads = subst (λ (p : Process). Leads (journal_in cluster.store) (cluster.store.under (cluster.store.epoch + 1)) p now
      (cluster.at cluster.store.leader)) (sym same) (leads-more now sim.leads stays);
  behind = λ term.
      behind-more (length (journal_in cluster.store)) (length (journal_in cluster.store)) lives.done now (cluster.at term) (omega arith)
      (λ deed at its few. stays deed at its) (sim.behind term);
}
  where
    by : (one : NodeName) → IsOther one → (b : Bool) → cond b process (lives.at one) ≡ cond b process (cluster.nodes.at one)
    by one its true = refl
    by one its false = sim.others one its

    same : with_process lives.at name process TheCoordinator ≡ lives.at TheCoordinator
    same = ap (λ b. cond b process (lives.at TheCoordinator)) (turned name other)

-- A work

pub takes : {setup : Setup} {cluster : Cluster} {lives : Processes} (name : NodeName) (work : NodeWork) → IsOther name →
    MayTake cluster.nodes name work → Simulated cluster lives → Comes setup cluster lives (Others (Takes name work))
takes {setup} {cluster} {lives} name work other may sim =
    let same : lives.at name ≡ cluster.nodes.at name = sim.others name other in
    let next : Process → Process = λ p. record { life = life_next name p.life work; safe = p.safe } in
    let deed : Process → Deed = λ p. deed_of name p.life work in
    record {
      may = (
        record {
          can = subst (λ (p : Process). node_can p.life.node work ≡ true) (sym same) may.can;
          addressed = may.addressed;
          brought = subst (λ l. IsBrought l work) (sym sim.left) may.brought;
        },
        tt,
      );
      goes = subst (λ (p : Process). Simulated (with_other cluster name (next (cluster.nodes.at name))
          (cluster.nodes.done ++ deed (cluster.nodes.at name) ∷ [])) (live_with lives name (next p) (lives.done ++ deed p ∷ []))) (sym same)
          (other-changes cluster lives name (next (cluster.nodes.at name)) (cluster.nodes.done ++ deed (cluster.nodes.at name) ∷ [])
          (lives.done ++ deed (cluster.nodes.at name) ∷ []) other
          (λ one at its. In-left one lives.done (deed (cluster.nodes.at name) ∷ []) at)
          (λ one at. by one (In-append one cluster.nodes.done (deed (cluster.nodes.at name) ∷ []) at)) sim);
    }
  where
    by : (one : Deed) → In one cluster.nodes.done ⊎ In one (deed_of name (cluster.nodes.at name).life work ∷ []) →
        In one (lives.done ++ deed_of name (cluster.nodes.at name).life work ∷ []) × IsOther one.node
    by one (inl at) = let found : In one lives.done × IsOther one.node = sim.done one at in
        (In-left one lives.done (deed_of name (cluster.nodes.at name).life work ∷ []) found.0, found.1)
    by one (inr (inl e)) = (
      In-right one lives.done (deed_of name (cluster.nodes.at name).life work ∷ []) (inl e),
      subst (λ (d : Deed). IsOther d.node) (sym e) other,
    )
    by one (inr (inr none)) = absurd none

-- Works are safe

pub syncs : {setup : Setup} {cluster : Cluster} {lives : Processes} (name : NodeName) (count : ℕ) → IsOther name →
    MayBeLeft (cluster.nodes.at name) count → Simulated cluster lives → Comes setup cluster lives (Others (Syncs name count))
syncs {setup} {cluster} {lives} name count other may sim =
    let same : lives.at name ≡ cluster.nodes.at name = sim.others name other in
    record {
      may = (subst (λ (p : Process). MayBeLeft p count) (sym same) may, tt);
      goes = subst (λ (p : Process). Simulated
          (with_other cluster name (record { life = (cluster.nodes.at name).life; safe = count }) cluster.nodes.done)
          (live_with lives name (record { life = p.life; safe = count }) lives.done)) (sym same)
          (other-changes cluster lives name (record { life = (cluster.nodes.at name).life; safe = count }) cluster.nodes.done lives.done
          other (λ deed at its. at) sim.done sim);
    }

-- A message leaves

pub leaves : {setup : Setup} {cluster : Cluster} {lives : Processes} (message : Message) →
    MayLeave (safe_at cluster.nodes) cluster.nodes.done message → Simulated cluster lives →
    Comes setup cluster lives (Others (Leaves message))
leaves {setup} {cluster} {lives} message may sim =
    let found : In may.deed lives.done × IsOther may.deed.node = sim.done may.deed may.done_before in
    record {
      may = (
        record {
          deed = may.deed;
          done_before = found.0;
          its = may.its;
          safe_by_now = subst (λ (p : Process). may.deed.rests ≤ p.safe) (sym (sim.others may.deed.node found.1)) may.safe_by_now;
        },
        tt,
      );
      goes = record {
        left = ap (λ l. l ++ message ∷ []) sim.left;
        others = sim.others;
        done = sim.done;
        leads = sim.leads;
        behind = sim.behind;
      };
    }

-- A process ends, and comes back

pub falls : {setup : Setup} {cluster : Cluster} {lives : Processes} (name : NodeName) (count : ℕ) → IsOther name →
    MayBeLeft (cluster.nodes.at name) count → Simulated cluster lives → Comes setup cluster lives (Others (Falls name count))
falls {setup} {cluster} {lives} name count other may sim =
    let same : lives.at name ≡ cluster.nodes.at name = sim.others name other in
    let kept : Process → List NodeWork = λ p. take count p.life.journal in
    let next : Process → Process = λ p. record { life = remade setup name (kept p); safe = p.safe } in
    let stop : Process → List Deed =
    λ p. stop_deeds name (replayed setup name (kept p)) (stops (replayed setup name (kept p)).node) in
    let now : List Deed = filter (is_left name count) cluster.nodes.done ++ stop (cluster.nodes.at name) in
    record {
      may = (subst (λ (p : Process). MayBeLeft p count) (sym same) may, tt);
      goes = subst (λ (p : Process). Simulated (with_other cluster name (next (cluster.nodes.at name)) now)
          (live_with lives name (next p) (filter (is_left name count) lives.done ++ stop p))) (sym same)
          (other-changes cluster lives name (next (cluster.nodes.at name)) now
          (filter (is_left name count) lives.done ++ stop (cluster.nodes.at name)) other
          (λ deed at its. In-left deed (filter (is_left name count) lives.done) (stop (cluster.nodes.at name))
          (filter-In (is_left name count) deed lives.done at (stays deed its)))
          (λ deed at. by deed (replayed setup name (kept (cluster.nodes.at name)))
          (In-append deed (filter (is_left name count) cluster.nodes.done) (stop (cluster.nodes.at name)) at)) sim);
    }
  where
    stays : (deed : Deed) → deed.node ≡ TheCoordinator → is_left name count deed ≡ true
    stays deed its = ap (λ b. cond b (nat_le deed.rests count) true) (ap (λ (n : NodeName). same_node n name) its ∙ other)

    stopped : (deed : Deed) (life : Life) (works : List NodeWork) → In deed (stop_deeds name life works) → IsOther deed.node
    stopped deed life works at =
        let found : (work : NodeWork) × (In work works) × (deed ≡ deed_of name life work) = In-map (deed_of name life) deed works at in
        subst (λ (d : Deed). IsOther d.node) (sym found.2) other

    by : (deed : Deed) (again : Life) →
        In deed (filter (is_left name count) cluster.nodes.done) ⊎ In deed (stop_deeds name again (stops again.node)) →
        In deed (filter (is_left name count) lives.done ++ stop_deeds name again (stops again.node)) × IsOther deed.node
    by deed again (inl at) =
        let was : In deed cluster.nodes.done × (is_left name count deed ≡ true) =
        In-filter (is_left name count) deed cluster.nodes.done at in
        let found : In deed lives.done × IsOther deed.node = sim.done deed was.0 in (
          In-left deed (filter (is_left name count) lives.done) (stop_deeds name again (stops again.node))
              (filter-In (is_left name count) deed lives.done found.0 was.1),
          found.1,
        )
    by deed again (inr at) = (
      In-right deed (filter (is_left name count) lives.done) (stop_deeds name again (stops again.node)) at,
      stopped deed again (stops again.node) at,
    )

-- Each of them

pub others-come : {setup : Setup} {cluster : Cluster} {lives : Processes} (one : Happening) → IsOfOthers one → May cluster.nodes one →
    Simulated cluster lives → Comes setup cluster lives (Others one)
others-come (Takes name work) other may sim = takes name work other may sim
others-come (Syncs name count) other may sim = syncs name count other may sim
others-come (Leaves message) other may sim = leaves message may sim
others-come (Falls name count) other may sim = falls name count other may sim
