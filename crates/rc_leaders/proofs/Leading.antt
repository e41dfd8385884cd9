-- What leaders do, in the life of one process.
use Rattle.std.proofs.Common.{◌≡◌, ◌≤◌, ◌<◌, ◌+◌, ℕ, Bool, true, false, cond, nat_eq, ◌⊎◌, inl, inr, List, [], ◌∷◌, ◌++◌, length}
use Rattle.std.proofs.Common.{filter, take, refl, sym, ap, ◌∙◌, subst, arith, length-append, append_assoc}
use Rattle.std.proofs.lemmas.List.{length-take-le, take-append-le, take_all, take_at}
use Rattle.std.proofs.Math.Nat.{le_refl}
use Rattle.std.proofs.lemmas.Bool.{eqb-true, ne_eqb, leb-true}
use Rattle.rc_types.specs.declared.events.Setup.{Setup}
use Rattle.rc_types.specs.declared.messages.Message.{Message}
use Rattle.rc_model.specs.Headline.{In}
use Rattle.rc_model.specs.Coordinator.{Coordinator, new_coordinator}
use Rattle.rc_model.specs.Nodes.{NodeWork, coordinator_step}
use Rattle.rc_model.specs.Tables.{put}
use Rattle.rc_model.specs.World.{NodeName, TheCoordinator}
use Rattle.rc_model.proofs.Members.{In-left, In-right, In-append, In-filter, filter-In}
use Rattle.rc_model.proofs.Tables.{put-same, put-other, put_each}
use Rattle.rc_history.specs.Nodes.{node_can}
use Rattle.rc_history.specs.Nodes as node
use Rattle.rc_history.specs.Lives.{Life, keeps, life_next, life_after, node_after, stops, replayed, remade}
use Rattle.rc_history.specs.Processes.{Deed, Process, Processes, Happening, Takes, new_processes}
use Rattle.rc_history.specs.Processes.{MayTake, safe_at, deed_of, stop_deeds, is_left, IsBrought, MayAll}
use Rattle.rc_history.specs.Processes.{after, after_all}
use Rattle.std.proofs.Common.{nat_le}
use Rattle.rc_history.specs.LifeClaims.{WasDone}
use Rattle.rc_history.proofs.Global.{left-passes}
use Rattle.rc_leaders.specs.Store.{Store, joined, journal_in, with_record, with_piece, swapped, without_epoch}
use Rattle.rc_leaders.specs.Leaders.{Leader, Cluster, leader_with, new_cluster, Event, Others, TakesLead, Gives, Appends, Confirms}
use Rattle.rc_leaders.specs.Leaders.{BeginsSave, PutsPiece, Swaps, Deletes, Sends, IsOther, MayGive, MayAppend, MaySwap, MayCome}
use Rattle.rc_leaders.specs.Leaders.{rests_within, confirmed, given, next_works, come, MayComeAll, come_all}
use Rattle.rc_leaders.specs.Claims.{in_lives, all_in_lives, cluster_of, LeadersAreOneLife, LivesGoOn}
use Rattle.rc_leaders.specs.Claims.{leading}
use Rattle.rc_leaders.proofs.Records.{joined-more, begins-more}
use Rattle.rc_leaders.proofs.Simulated.{Leads, IsBehind, Simulated, Comes, put-by, turned, behind-more}
use Rattle.rc_leaders.proofs.Others.{others-come}

-- A coordinator is not stopped when it is made anew

still : (c : Coordinator) (works : List NodeWork) → stops (node_after (node.TheCoordinator c) works) ≡ []
still c [] = refl
still c (work ∷ works) = still (coordinator_step c work).0 works

anew : (setup : Setup) (works : List NodeWork) → remade setup TheCoordinator works ≡ replayed setup TheCoordinator works
anew setup works = ap (life_after TheCoordinator (replayed setup TheCoordinator works)) (still new_coordinator works)

-- Somebody takes the lead

leads-anew : (setup : Setup) (journal : List NodeWork) (next : ℕ → List NodeWork) (p : Process) (done now : List Deed) (leader : Leader) →
    Leads journal next p done leader → Leads journal next
    (record { life = remade setup TheCoordinator (take (length journal) p.life.journal); safe = p.safe }) now
    (leader_with (remade setup TheCoordinator journal))
leads-anew setup journal next p done now leader is =
    let left : take (length journal) p.life.journal ≡ journal =
    ap (λ (l : Life). take (length journal) l.journal) is.life ∙ sym is.stored in
    let whole : (remade setup TheCoordinator journal).journal ≡ journal = ap (λ (l : Life). l.journal) (anew setup journal) in
    record {
      life = ap (remade setup TheCoordinator) left;
      safe = is.safe;
      within = subst (λ (l : List NodeWork). length journal ≤ length l) (sym whole) (le_refl (length journal));
      stored = sym (ap (take (length journal)) whole ∙ take_all (length journal) journal (le_refl (length journal)));
      held = λ deed none. absurd none;
      saving = refl;
    }

takes-lead : {setup : Setup} {cluster : Cluster} {lives : Processes} → Simulated cluster lives → Comes setup cluster lives TakesLead
takes-lead {setup} {cluster} {lives} sim =
    let journal : List NodeWork = journal_in cluster.store in
    let next : ℕ → List NodeWork = cluster.store.under (cluster.store.epoch + 1) in
    let count : ℕ = length journal in
    let term : ℕ = cluster.store.leader + 1 in
    let old : Leader = cluster.at cluster.store.leader in
    let p : Process = lives.at TheCoordinator in
    let is : Leads journal next p lives.done old = sim.leads in
    let kept : List NodeWork = take count p.life.journal in
    let again : Life = replayed setup TheCoordinator kept in
    let stop : List Deed = stop_deeds TheCoordinator again (stops again.node) in
    let now : List Deed = filter (is_left TheCoordinator count) lives.done ++ stop in
    let fresh : Leader = leader_with (remade setup TheCoordinator journal) in
    let safe : p.safe ≡ count = is.safe in
    let long : length p.life.journal ≡ length old.life.journal = ap (λ (l : Life). length l.journal) is.life in
    let within : count ≤ length old.life.journal = is.within in
    record {
      may = (record { no_less = omega arith; no_more = omega arith }, tt);
      goes = record {
        left = sim.left;
        others = λ name other. ap (λ b. cond b (record { life = remade setup TheCoordinator kept; safe = p.safe }) (lives.at name)) other
            ∙ sim.others name other;
        done = λ deed at. stays-other stop deed (sim.done deed at);
        leads = subst (λ (l : Leader). Leads journal next (record { life = remade setup TheCoordinator kept; safe = p.safe }) now l)
            (sym (put-same cluster.at term {value = fresh})) (leads-anew setup journal next p lives.done now old is);
        behind = put_each (λ term l. IsBehind count now l) cluster.at term fresh (λ deed none. absurd none)
            (λ term. behind-more count count lives.done now (cluster.at term) (omega arith)
            (λ deed at its few. stays stop deed at few) (sim.behind term));
      };
    }
  where
    stays : (stop : List Deed) (deed : Deed) → In deed lives.done → deed.rests ≤ length (journal_in cluster.store) →
        In deed (filter (is_left TheCoordinator (length (journal_in cluster.store))) lives.done ++ stop)
    stays stop deed at few =
        In-left deed (filter (is_left TheCoordinator (length (journal_in cluster.store))) lives.done) stop
        (filter-In (is_left TheCoordinator (length (journal_in cluster.store))) deed lives.done at
        (left-passes {name = TheCoordinator} {k = length (journal_in cluster.store)} (λ name. length (journal_in cluster.store)) deed
        (le_refl (length (journal_in cluster.store))) few))

    stays-other : (stop : List Deed) (deed : Deed) → In deed lives.done × IsOther deed.node →
        In deed (filter (is_left TheCoordinator (length (journal_in cluster.store))) lives.done ++ stop) × IsOther deed.node
    stays-other stop deed found = (
      In-left deed (filter (is_left TheCoordinator (length (journal_in cluster.store))) lives.done) stop
          (filter-In (is_left TheCoordinator (length (journal_in cluster.store))) deed lives.done found.0
          (ap (λ b. cond b (nat_le deed.rests (length (journal_in cluster.store))) true) (turned deed.node found.1))),
      found.1,
    )

-- A work

leads-next : {journal : List NodeWork} {next : ℕ → List NodeWork} {p : Process} {done : List Deed} {leader : Leader} (work : NodeWork) →
    Leads journal next p done leader → Leads journal next
    (record { life = life_next TheCoordinator p.life work; safe = p.safe }) (done ++ deed_of TheCoordinator p.life work ∷ [])
    (given leader work)
leads-next {journal} {next} {p} {done} {leader} work is = record {
  life = ap (λ l. life_next TheCoordinator l work) is.life;
  safe = is.safe;
  within = more (keeps TheCoordinator work);
  stored = is.stored ∙ same (keeps TheCoordinator work);
  held = λ deed at. by deed (In-append deed leader.done (deed_of TheCoordinator leader.life work ∷ []) at);
  saving = is.saving;
}
  where
    more : (b : Bool) → length journal ≤ length (cond b (leader.life.journal ++ work ∷ []) leader.life.journal)
    more true =
        let e : length (leader.life.journal ++ work ∷ []) ≡ length leader.life.journal + 1 = length-append leader.life.journal (work ∷ [])
        in
        let within : length journal ≤ length leader.life.journal = is.within in
        omega arith
    more false = is.within

    same : (b : Bool) → take (length journal) leader.life.journal
        ≡ take (length journal) (cond b (leader.life.journal ++ work ∷ []) leader.life.journal)
    same true = sym (take-append-le (length journal) leader.life.journal (work ∷ []) is.within)
    same false = refl

    by : (deed : Deed) → In deed leader.done ⊎ In deed (deed_of TheCoordinator leader.life work ∷ []) →
        In deed (done ++ deed_of TheCoordinator p.life work ∷ []) × (deed.node ≡ TheCoordinator)
    by deed (inl at) =
        let found : In deed done × (deed.node ≡ TheCoordinator) = is.held deed at in
        (In-left deed done (deed_of TheCoordinator p.life work ∷ []) found.0, found.1)
    by deed (inr (inl e)) = (
      In-right deed done (deed_of TheCoordinator p.life work ∷ [])
          (inl (e ∙ ap (λ l. deed_of TheCoordinator l work) (sym is.life))),
      ap (λ (d : Deed). d.node) e,
    )
    by deed (inr (inr none)) = absurd none

-- the process that leads takes it, and so does the one process
gives-leading : (setup : Setup) {cluster : Cluster} {lives : Processes} (work : NodeWork) →
    MayGive cluster cluster.store.leader work → Simulated cluster lives →
    MayTake lives TheCoordinator work
    × Simulated (come setup cluster (Gives cluster.store.leader work)) (after setup lives (Takes TheCoordinator work))
gives-leading setup {cluster} {lives} work may sim =
    let journal : List NodeWork = journal_in cluster.store in
    let next : ℕ → List NodeWork = cluster.store.under (cluster.store.epoch + 1) in
    let leader : ℕ = cluster.store.leader in
    let old : Leader = cluster.at leader in
    let p : Process = lives.at TheCoordinator in
    let deed : Deed = deed_of TheCoordinator p.life work in
    let now : Process = record { life = life_next TheCoordinator p.life work; safe = p.safe } in
    let is : Leads journal next p lives.done old = sim.leads in (
      record {
        can = subst (λ (l : Life). node_can l.node work ≡ true) (sym is.life) may.can;
        addressed = may.addressed;
        brought = subst (λ l. IsBrought l work) (sym sim.left) may.brought;
      },
      record {
        left = sim.left;
        others = λ name other. ap (λ b. cond b now (lives.at name)) other ∙ sim.others name other;
        done = λ one at. let found : In one lives.done × IsOther one.node = sim.done one at in
            (In-left one lives.done (deed ∷ []) found.0, found.1);
        leads = subst (λ (l : Leader). Leads journal next now (lives.done ++ deed ∷ []) l)
            (sym (put-same cluster.at leader {value = given old work}))
            (leads-next work is);
        behind = put_each (λ term l. IsBehind (length journal) (lives.done ++ deed ∷ []) l) cluster.at leader (given old work)
            (behind-more (length journal) (length journal) lives.done (lives.done ++ deed ∷ []) old (omega arith)
            (λ one at its few. In-left one lives.done (deed ∷ []) at) (sim.behind leader))
            (λ term. behind-more (length journal) (length journal) lives.done (lives.done ++ deed ∷ []) (cluster.at term) (omega arith)
            (λ one at its few. In-left one lives.done (deed ∷ []) at) (sim.behind term));
      },
    )

-- one that led before takes it: nothing that may leave has changed
gives-late : (setup : Setup) {cluster : Cluster} {lives : Processes} (term : ℕ) (work : NodeWork) →
    nat_eq term cluster.store.leader ≡ false → Simulated cluster lives → Simulated (come setup cluster (Gives term work)) lives
gives-late setup {cluster} {lives} term work differ sim = record {
  left = sim.left;
  others = sim.others;
  done = sim.done;
  leads = subst (λ (l : Leader). Leads (journal_in cluster.store) (cluster.store.under (cluster.store.epoch + 1)) (lives.at TheCoordinator)
      lives.done l) (sym (put-other cluster.at term (given (cluster.at term) work) differ)) sim.leads;
  behind = put_each (λ term l. IsBehind (length (journal_in cluster.store)) lives.done l) cluster.at term (given (cluster.at term) work)
      (sim.behind term) sim.behind;
}

gives : {setup : Setup} {cluster : Cluster} {lives : Processes} (term : ℕ) (work : NodeWork) → MayGive cluster term work →
    Simulated cluster lives → Comes setup cluster lives (Gives term work)
gives {setup} {cluster} {lives} term work may sim =
    let found = by (nat_eq term cluster.store.leader) refl in record { may = found.0; goes = found.1 }
  where
    by : (b : Bool) → nat_eq term cluster.store.leader ≡ b →
        MayAll setup lives (cond b (Takes TheCoordinator work ∷ []) [])
        × Simulated (come setup cluster (Gives term work)) (after_all setup lives (cond b (Takes TheCoordinator work ∷ []) []))
    by true e =
        let same : cluster.store.leader ≡ term = sym (eqb-true term cluster.store.leader e) in
        let found : MayTake lives TheCoordinator work
        × Simulated (come setup cluster (Gives term work)) (after setup lives (Takes TheCoordinator work)) =
        subst (λ (t : ℕ). MayTake lives TheCoordinator work
        × Simulated (come setup cluster (Gives t work)) (after setup lives (Takes TheCoordinator work))) same
        (gives-leading setup work (subst (λ (t : ℕ). MayGive cluster t work) (sym same) may) sim) in
        ((found.0, tt), found.1)
    by false e = (tt, gives-late setup term work e sim)

-- A transaction stands behind what was done

now-behind : {journal : List NodeWork} {next : ℕ → List NodeWork} {p : Process} {done : List Deed} {leader : Leader} (count : ℕ) →
    Leads journal next p done leader → IsBehind count done (confirmed leader count)
now-behind {done = done} {leader = leader} count is deed at =
    let found : In deed leader.done × (rests_within count deed ≡ true) = In-filter (rests_within count) deed leader.done at in
    let held : In deed done × (deed.node ≡ TheCoordinator) = is.held deed found.0 in
    (held.0, held.1, leb-true deed.rests count found.1)

-- Works are added

record Added (store : Store) (leader : Leader) (count : ℕ) : Type 0 where
  journal : journal_in (with_record store (next_works store leader count)) ≡ take count leader.life.journal
  next : (with_record store (next_works store leader count)).under (store.epoch + 1) ≡ store.under (store.epoch + 1)

added : {next : ℕ → List NodeWork} {p : Process} {done : List Deed} (store : Store) (leader : Leader) (count : ℕ) →
    length (journal_in store) ≤ count → Leads (journal_in store) next p done leader → Added store leader count
added store leader count low is =
    let works : List NodeWork = next_works store leader count in
    let here : ℕ → List NodeWork = put (store.under store.epoch) store.count works in
    record {
      journal = ap (λ l. joined l (store.count + 1)) (put-same store.under store.epoch {value = here})
          ∙ (joined-more (store.under store.epoch) store.count works
          ∙ begins-more (journal_in store) leader.life.journal count low is.stored);
      next = put-other store.under store.epoch here (ne_eqb store.epoch (store.epoch + 1) (λ e. omega arith));
    }

appends-leading : {setup : Setup} {cluster : Cluster} {lives : Processes} (count : ℕ) → MayAppend cluster cluster.store.leader count →
    Simulated cluster lives → Comes setup cluster lives (Appends cluster.store.leader count)
appends-leading {setup} {cluster} {lives} count may sim =
    let store : Store = cluster.store in
    let leader : Leader = cluster.at store.leader in
    let p : Process = lives.at TheCoordinator in
    let is : Leads (journal_in store) (store.under (store.epoch + 1)) p lives.done leader = sim.leads in
    let more : Added store leader count = added store leader count may.no_less is in
    let now : Store = with_record store (next_works store leader count) in
    let size : length (journal_in now) ≡ count = ap length more.journal ∙ length-take-le count leader.life.journal may.no_more in
    let safe : p.safe ≡ length (journal_in store) = is.safe in
    let long : length p.life.journal ≡ length leader.life.journal = ap (λ (l : Life). length l.journal) is.life in
    let low : length (journal_in store) ≤ count = may.no_less in
    let high : count ≤ length leader.life.journal = may.no_more in
    let synced : Process = record { life = p.life; safe = count } in
    record {
      may = (record { no_less = omega arith; no_more = omega arith }, tt);
      goes = record {
        left = sim.left;
        others = λ name other. ap (λ b. cond b synced (lives.at name)) other ∙ sim.others name other;
        done = sim.done;
        leads = subst (λ (l : Leader). Leads (journal_in now) (now.under (store.epoch + 1)) synced lives.done l)
            (sym (put-same cluster.at store.leader {value = confirmed leader count})) (record {
              life = is.life;
              safe = sym size;
              within = subst (λ n. n ≤ length leader.life.journal) (sym size) high;
              stored = more.journal ∙ ap (λ n. take n leader.life.journal) (sym size);
              held = is.held;
              saving = ap (λ n. joined n leader.pieces) more.next ∙ is.saving;
            });
        behind = put_each (λ term l. IsBehind (length (journal_in now)) lives.done l) cluster.at store.leader (confirmed leader count)
            (subst (λ n. IsBehind n lives.done (confirmed leader count)) (sym size) (now-behind count is))
            (λ term. behind-more (length (journal_in store)) (length (journal_in now)) lives.done lives.done (cluster.at term)
            (omega arith) (λ deed at its few. at)
            (sim.behind term));
      };
    }

appends : {setup : Setup} {cluster : Cluster} {lives : Processes} (term count : ℕ) → cluster.store.leader ≡ term →
    MayAppend cluster term count → Simulated cluster lives → Comes setup cluster lives (Appends term count)
appends {setup} {cluster} {lives} term count leads may sim =
    subst (λ (t : ℕ). Comes setup cluster lives (Appends t count)) leads
    (appends-leading count (subst (λ (t : ℕ). MayAppend cluster t count) (sym leads) may) sim)

-- A transaction that only reads

confirms : {setup : Setup} {cluster : Cluster} {lives : Processes} (term : ℕ) → cluster.store.leader ≡ term →
    Simulated cluster lives → Comes setup cluster lives (Confirms term)
confirms {setup} {cluster} {lives} term leads sim =
    let journal : List NodeWork = journal_in cluster.store in
    let next : ℕ → List NodeWork = cluster.store.under (cluster.store.epoch + 1) in
    let leader : Leader = cluster.at cluster.store.leader in
    let is : Leads journal next (lives.at TheCoordinator) lives.done leader = sim.leads in
    subst (λ (t : ℕ). Comes setup cluster lives (Confirms t)) leads (record {
      may = tt;
      goes = record {
        left = sim.left;
        others = sim.others;
        done = sim.done;
        leads = subst (λ (l : Leader). Leads journal next (lives.at TheCoordinator) lives.done l)
            (sym (put-same cluster.at cluster.store.leader {value = confirmed leader (length journal)})) (record {
              life = is.life;
              safe = is.safe;
              within = is.within;
              stored = is.stored;
              held = is.held;
              saving = is.saving;
            });
        behind = put_each (λ term l. IsBehind (length journal) lives.done l) cluster.at cluster.store.leader
            (confirmed leader (length journal)) (now-behind (length journal) is) sim.behind;
      };
    })

-- A save

begins-save : {setup : Setup} {cluster : Cluster} {lives : Processes} (term : ℕ) → Simulated cluster lives →
    Comes setup cluster lives (BeginsSave term)
begins-save {setup} {cluster} {lives} term sim =
    let journal : List NodeWork = journal_in cluster.store in
    let next : ℕ → List NodeWork = cluster.store.under (cluster.store.epoch + 1) in
    let is : Leads journal next (lives.at TheCoordinator) lives.done (cluster.at cluster.store.leader) = sim.leads in
    let new : Leader = record (cluster.at term) { pieces = 0; save = [] } in
    record {
      may = tt;
      goes = record {
        left = sim.left;
        others = sim.others;
        done = sim.done;
        leads = put-by (λ (l : Leader). Leads journal next (lives.at TheCoordinator) lives.done l) cluster.at term
            {value = new} cluster.store.leader
            (λ e. subst (λ (t : ℕ). Leads journal next (lives.at TheCoordinator) lives.done
            (record (cluster.at t) { pieces = 0; save = [] }))
            (sym e) (record {
              life = is.life;
              safe = is.safe;
              within = is.within;
              stored = is.stored;
              held = is.held;
              saving = refl;
            })) (λ differ. is);
        behind = put_each (λ term l. IsBehind (length journal) lives.done l) cluster.at term new (sim.behind term) sim.behind;
      };
    }

puts-leading : {setup : Setup} {cluster : Cluster} {lives : Processes} (works : List NodeWork) → Simulated cluster lives →
    Comes setup cluster lives (PutsPiece cluster.store.leader works)
puts-leading {setup} {cluster} {lives} works sim =
    let store : Store = cluster.store in
    let leader : Leader = cluster.at store.leader in
    let p : Process = lives.at TheCoordinator in
    let next : ℕ → List NodeWork = store.under (store.epoch + 1) in
    let is : Leads (journal_in store) next p lives.done leader = sim.leads in
    let now : Store = with_piece store leader.pieces works in
    let here : ℕ → List NodeWork = put next leader.pieces works in
    let new : Leader = record leader { pieces = leader.pieces + 1; save = leader.save ++ works } in
    let same : journal_in now ≡ journal_in store =
    ap (λ l. joined l store.count)
    (put-other store.under (store.epoch + 1) here (ne_eqb (store.epoch + 1) store.epoch (λ e. omega arith))) in
    record {
      may = tt;
      goes = record {
        left = sim.left;
        others = sim.others;
        done = sim.done;
        leads = subst (λ (l : Leader). Leads (journal_in now) (now.under (store.epoch + 1)) p lives.done l)
            (sym (put-same cluster.at store.leader {value = new}))
            (subst (λ j. Leads j (now.under (store.epoch + 1)) p lives.done new) (sym same) (record {
              life = is.life;
              safe = is.safe;
              within = is.within;
              stored = is.stored;
              held = is.held;
              saving = ap (λ l. joined l (leader.pieces + 1)) (put-same store.under (store.epoch + 1) {value = here})
                  ∙ (joined-more next leader.pieces works ∙ ap (λ l. l ++ works) is.saving);
            }));
        behind = subst (λ j. (term : ℕ) → IsBehind (length j) lives.done (put cluster.at store.leader new term)) (sym same)
            (put_each (λ term l. IsBehind (length (journal_in store)) lives.done l) cluster.at store.leader new (sim.behind store.leader)
            sim.behind);
      };
    }

-- the save has taken the journal's place
swaps-leading : {setup : Setup} {cluster : Cluster} {lives : Processes} → MaySwap cluster cluster.store.leader →
    Simulated cluster lives → Comes setup cluster lives (Swaps cluster.store.leader)
swaps-leading {setup} {cluster} {lives} may sim =
    let store : Store = cluster.store in
    let leader : Leader = cluster.at store.leader in
    let p : Process = lives.at TheCoordinator in
    let is : Leads (journal_in store) (store.under (store.epoch + 1)) p lives.done leader = sim.leads in
    let now : Store = swapped store leader.pieces in
    let new : Leader = record leader { pieces = 0; save = [] } in
    let count : ℕ = length leader.save in
    let synced : Process = record { life = p.life; safe = count } in
    let saved : journal_in now ≡ leader.save = is.saving in
    let size : length (journal_in now) ≡ count = ap length saved in
    let begins : take count leader.life.journal ≡ leader.save =
    ap (take count) may.its.same ∙ take_at leader.save may.its.rest count refl in
    let whole : length leader.life.journal ≡ count + length may.its.rest =
    ap length may.its.same ∙ length-append leader.save may.its.rest in
    let safe : p.safe ≡ length (journal_in store) = is.safe in
    let long : length p.life.journal ≡ length leader.life.journal = ap (λ (l : Life). length l.journal) is.life in
    let low : length (journal_in store) ≤ count = may.no_less in
    record {
      may = (record { no_less = omega arith; no_more = omega arith }, tt);
      goes = record {
        left = sim.left;
        others = λ name other. ap (λ b. cond b synced (lives.at name)) other ∙ sim.others name other;
        done = sim.done;
        leads = subst (λ (l : Leader). Leads (journal_in now) (now.under (now.epoch + 1)) synced lives.done l)
            (sym (put-same cluster.at store.leader {value = new})) (record {
              life = is.life;
              safe = sym size;
              within = omega arith;
              stored = saved ∙ (sym begins ∙ ap (λ n. take n leader.life.journal) (sym size));
              held = is.held;
              saving = refl;
            });
        behind = put_each (λ term l. IsBehind (length (journal_in now)) lives.done l) cluster.at store.leader new
            (behind-more (length (journal_in store)) (length (journal_in now)) lives.done lives.done leader
            (omega arith) (λ deed at its few. at) (sim.behind store.leader))
            (λ term. behind-more (length (journal_in store)) (length (journal_in now)) lives.done lives.done (cluster.at term)
            (omega arith) (λ deed at its few. at)
            (sim.behind term));
      };
    }

-- an epoch is deleted that `head` does not name
deletes : {setup : Setup} {cluster : Cluster} {lives : Processes} (epoch : ℕ) → epoch < cluster.store.epoch → Simulated cluster lives →
    Comes setup cluster lives (Deletes epoch)
deletes {setup} {cluster} {lives} epoch old sim =
    let store : Store = cluster.store in
    let empty : ℕ → List NodeWork = λ number. [] in
    let now : Store = without_epoch store epoch in
    let here : now.under store.epoch ≡ store.under store.epoch =
    put-other store.under epoch empty (ne_eqb epoch store.epoch (λ e. omega arith)) in
    let next : now.under (store.epoch + 1) ≡ store.under (store.epoch + 1) =
    put-other store.under epoch empty (ne_eqb epoch (store.epoch + 1) (λ e. omega arith)) in
    let same : journal_in now ≡ journal_in store = ap (λ l. joined l store.count) here in
    record {
      may = tt;
      goes = record {
        left = sim.left;
        others = sim.others;
        done = sim.done;
        leads = subst (λ j. Leads j (now.under (store.epoch + 1)) (lives.at TheCoordinator) lives.done (cluster.at store.leader)) (sym same)
            (subst (λ n. Leads (journal_in store) n (lives.at TheCoordinator) lives.done (cluster.at store.leader)) (sym next) sim.leads);
        behind = subst (λ j. (term : ℕ) → IsBehind (length j) lives.done (cluster.at term)) (sym same) sim.behind;
      };
    }

-- A message leaves

sends : {setup : Setup} {cluster : Cluster} {lives : Processes} (term : ℕ) (message : Message) →
    WasDone (cluster.at term).behind message → Simulated cluster lives → Comes setup cluster lives (Sends term message)
sends {setup} {cluster} {lives} term message may sim =
    let found : In may.deed lives.done × (may.deed.node ≡ TheCoordinator) × (may.deed.rests ≤ length (journal_in cluster.store)) =
    sim.behind term may.deed may.done_before in
    let few : may.deed.rests ≤ length (journal_in cluster.store) = found.2 in
    let safe : (lives.at TheCoordinator).safe ≡ length (journal_in cluster.store) = sim.leads.safe in
    let here : may.deed.rests ≤ (lives.at TheCoordinator).safe = omega arith in
    record {
      may = (
        record {
          deed = may.deed;
          done_before = found.0;
          its = may.its;
          safe_by_now = subst (λ (n : NodeName). may.deed.rests ≤ safe_at lives n) (sym found.1) here;
        },
        tt,
      );
      goes = record {
        left = ap (λ l. l ++ message ∷ []) sim.left;
        others = sim.others;
        done = sim.done;
        leads = sim.leads;
        behind = sim.behind;
      };
    }

-- Each event

event-comes : (setup : Setup) (cluster : Cluster) (lives : Processes) (event : Event) → MayCome cluster event → Simulated cluster lives →
    Comes setup cluster lives event
event-comes setup cluster lives (Others one) may sim = others-come one may.0 may.1 sim
event-comes setup cluster lives TakesLead may sim = takes-lead sim
event-comes setup cluster lives (Gives term work) may sim = gives term work may sim
event-comes setup cluster lives (Appends term count) may sim = appends term count may.0 may.1 sim
event-comes setup cluster lives (Confirms term) may sim = confirms term may sim
event-comes setup cluster lives (BeginsSave term) may sim = begins-save term sim
event-comes setup cluster lives (PutsPiece term works) may sim =
    subst (λ (t : ℕ). Comes setup cluster lives (PutsPiece t works)) may (puts-leading works sim)
event-comes setup cluster lives (Swaps term) may sim =
    subst (λ (t : ℕ). Comes setup cluster lives (Swaps t)) may.0
    (swaps-leading (subst (λ (t : ℕ). MaySwap cluster t) (sym may.0) may.1) sim)
event-comes setup cluster lives (Deletes epoch) may sim = deletes epoch may sim
event-comes setup cluster lives (Sends term message) may sim = sends term message may sim

-- All of them, one after another

pub after-both : (setup : Setup) (lives : Processes) (early more : List Happening) →
    after_all setup lives (early ++ more) ≡ after_all setup (after_all setup lives early) more
after-both setup lives [] more = refl
after-both setup lives (one ∷ early) more = after-both setup (after setup lives one) early more

pub may-both : (setup : Setup) (lives : Processes) (early more : List Happening) → MayAll setup lives early →
    MayAll setup (after_all setup lives early) more → MayAll setup lives (early ++ more)
may-both setup lives [] more may it = it
may-both setup lives (one ∷ early) more may it = (may.0, may-both setup (after setup lives one) early more may.1 it)

record AllCome (setup : Setup) (cluster : Cluster) (lives : Processes) (events : List Event) : Type 0 where
  may : MayAll setup lives (all_in_lives setup cluster events)
  goes : Simulated (come_all setup cluster events) (after_all setup lives (all_in_lives setup cluster events))

all-come : (setup : Setup) (cluster : Cluster) (lives : Processes) (events : List Event) → MayComeAll setup cluster events →
    Simulated cluster lives → AllCome setup cluster lives events
all-come setup cluster lives [] may sim = record { may = tt; goes = sim }
all-come setup cluster lives (event ∷ events) may sim =
    let one : Comes setup cluster lives event = event-comes setup cluster lives event may.0 sim in
    let next : Cluster = come setup cluster event in
    let here : List Happening = in_lives cluster event in
    let more : List Happening = all_in_lives setup next events in
    let rest : AllCome setup next (after_all setup lives here) events =
    all-come setup next (after_all setup lives here) events may.1 one.goes in
    record {
      may = may-both setup lives here more one.may rest.may;
      goes = subst (Simulated (come_all setup next events)) (sym (after-both setup lives here more)) rest.goes;
    }

begins : (setup : Setup) → Simulated (new_cluster setup) (new_processes setup)
begins setup = record {
  left = refl;
  others = λ name other. refl;
  done = λ deed none. absurd none;
  leads = record {
    life = refl;
    safe = refl;
    within = omega arith;
    stored = refl;
    held = λ deed none. absurd none;
    saving = refl;
  };
  behind = λ term deed none. absurd none;
}

pub one-life : LeadersAreOneLife
one-life setup events may =
    let all : AllCome setup (new_cluster setup) (new_processes setup) events =
    all-come setup (new_cluster setup) (new_processes setup) events may (begins setup) in
    record {
      may = all.may;
      left = all.goes.left;
      others = all.goes.others;
      life = all.goes.leads.life;
      stored = all.goes.leads.stored ∙ ap (λ n. take n (leading (cluster_of setup events)).life.journal) (sym all.goes.leads.safe);
    }

later : (setup : Setup) (cluster : Cluster) (events more : List Event) →
    all_in_lives setup cluster (events ++ more)
    ≡ all_in_lives setup cluster events ++ all_in_lives setup (come_all setup cluster events) more
later setup cluster [] more = refl
later setup cluster (event ∷ events) more =
    ap (λ l. in_lives cluster event ++ l) (later setup (come setup cluster event) events more)
    ∙ sym (append_assoc (in_lives cluster event) (all_in_lives setup (come setup cluster event) events)
    (all_in_lives setup (come_all setup (come setup cluster event) events) more))

pub go-on : LivesGoOn
go-on setup events more = later setup (new_cluster setup) events more

pub may-first : (setup : Setup) (cluster : Cluster) (events more : List Event) → MayComeAll setup cluster (events ++ more) →
    MayComeAll setup cluster events
may-first setup cluster [] more may = tt
may-first setup cluster (event ∷ events) more may = (may.0, may-first setup (come setup cluster event) events more may.1)
