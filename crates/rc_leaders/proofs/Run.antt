-- The run, event by event.
use Rattle.std.proofs.Common.{ℕ, List, [], ◌∷◌, ◌++◌, refl, inl, inr}
use Rattle.std.proofs.lemmas.Bool.{leb-true, ltb-true}
use Rattle.rc_model.specs.Nodes.{NodeWork, Deliver, Start, Tick}
use Rattle.rc_model.specs.World.{TheCoordinator, TheHost}
use Rattle.rc_history.specs.Lives.{new_life, remade}
use Rattle.rc_history.specs.Processes.{Deed, deed_of}
use Rattle.rc_leaders.specs.Leaders.{Event, Cluster, new_cluster, come, MayComeAll, come_all}
use Rattle.rc_leaders.specs.Claims.{cluster_of}
use Rattle.rc_leaders.specs.Worked.{setup, enlist, starts, of_term_1, of_term_2, saves, of_term_3, ItMayCome}

then-more : (cluster : Cluster) (events more : List Event) → MayComeAll setup cluster events →
    MayComeAll setup (come_all setup cluster events) more → MayComeAll setup cluster (events ++ more)
then-more cluster [] more may it = it
then-more cluster (event ∷ events) more may it = (may.0, then-more (come setup cluster event) events more may.1 it)

-- the step of a host that is started, and one of a process that has come back from these works
abbrev started : ℕ → Deed
started index = deed_of (TheHost index) (new_life setup (TheHost index)) (Start [])

abbrev taken : List NodeWork → NodeWork → Deed
taken works work = deed_of TheCoordinator (remade setup TheCoordinator works) work

abbrev first : List Event
first = starts 0

abbrev second : List Event
second = first ++ of_term_1

abbrev third : List Event
third = second ++ starts 1

abbrev fourth : List Event
fourth = third ++ of_term_2

abbrev fifth : List Event
fifth = fourth ++ saves

host-0 : MayComeAll setup (new_cluster setup) (starts 0)
host-0 = (
  (refl, record { can = refl; addressed = tt; brought = tt }),
  (
    (refl, record { no_less = leb-true 0 1 refl; no_more = leb-true 1 1 refl }),
    ((tt, record { deed = started 0; done_before = inl refl; its = inl refl; safe_by_now = leb-true 1 1 refl }), tt),
  ),
)

term-1 : MayComeAll setup (cluster_of setup first) of_term_1
term-1 = (
  tt,
  (
    record { can = refl; addressed = refl; brought = inl refl },
    (
      (refl, record { no_less = leb-true 0 1 refl; no_more = leb-true 1 1 refl }),
      (
        record { can = refl; addressed = tt; brought = tt },
        (tt, (record { deed = taken [] (Deliver (enlist 0)); done_before = inl refl; its = inl refl }, tt)),
      ),
    ),
  ),
)

host-1 : MayComeAll setup (cluster_of setup second) (starts 1)
host-1 = (
  (refl, record { can = refl; addressed = tt; brought = tt }),
  (
    (refl, record { no_less = leb-true 0 1 refl; no_more = leb-true 1 1 refl }),
    ((tt, record { deed = started 1; done_before = inr (inl refl); its = inl refl; safe_by_now = leb-true 1 1 refl }), tt),
  ),
)

abbrev enlists : Deed
enlists = taken (Deliver (enlist 0) ∷ []) (Deliver (enlist 1))

term-2 : MayComeAll setup (cluster_of setup third) of_term_2
term-2 = (
  record { can = refl; addressed = refl; brought = inr (inr (inl refl)) },
  (
    (refl, record { no_less = leb-true 1 2 refl; no_more = leb-true 2 2 refl }),
    (
      record { deed = enlists; done_before = inl refl; its = inl refl },
      (record { deed = enlists; done_before = inl refl; its = inr (inl refl) }, tt),
    ),
  ),
)

save : MayComeAll setup (cluster_of setup fourth) saves
save = (
  tt,
  (
    refl,
    (
      refl,
      (
        (refl, record { its = record { rest = []; same = refl }; no_less = leb-true 2 2 refl }),
        (ltb-true 0 1 refl, tt),
      ),
    ),
  ),
)

term-3 : MayComeAll setup (cluster_of setup fifth) of_term_3
term-3 = (
  tt,
  (
    record { can = refl; addressed = tt; brought = tt },
    (
      refl,
      (
        record {
          deed = taken (Deliver (enlist 0) ∷ Deliver (enlist 1) ∷ []) Tick;
          done_before = inl refl;
          its = inr (inl refl);
        },
        tt,
      ),
    ),
  ),
)

pub it-may-come : ItMayCome
it-may-come =
    then-more (new_cluster setup) first (of_term_1 ++ (starts 1 ++ (of_term_2 ++ (saves ++ of_term_3)))) host-0
    (then-more (cluster_of setup first) of_term_1 (starts 1 ++ (of_term_2 ++ (saves ++ of_term_3))) term-1
    (then-more (cluster_of setup second) (starts 1) (of_term_2 ++ (saves ++ of_term_3)) host-1
    (then-more (cluster_of setup third) of_term_2 (saves ++ of_term_3) term-2
    (then-more (cluster_of setup fourth) saves of_term_3 save term-3))))
