-- Worlds in which the servers of hosts have stopped, one after another.
use Rattle.std.proofs.Common.{◌≡◌, ℕ, zero, suc, ◌+◌, ◌<◌, ◌≤◌, Bool, true, false, nat_lt, nat_eq, ◌&&◌, if◌then◌else◌}
use Rattle.std.proofs.Common.{List, [], ◌∷◌, ◌++◌, length, Option, Some, None, refl, sym, ap, subst, ◌∙◌, arith}
use Rattle.std.proofs.Common.{append_assoc, length-append, add-one, true≢false}
use Rattle.std.proofs.Math.Path.{fun_ext}
use Rattle.std.proofs.lemmas.List.{append-nil}
use Rattle.std.proofs.lemmas.Bool.Decides.{nat_tests}
use Rattle.std.specs.Prelude.{is_some}
use Rattle.rc_types.specs.declared.ids.Addr.TheVariants.{Server}
use Rattle.rc_types.specs.declared.events.Event.TheVariants.{Stop}
use Rattle.rc_model.specs.Model.{MAX_EVENTS, Setup, Event, Message, HostNode, Master, World, is_possible, job_done, job_of, replay, put}
use Rattle.rc_model.specs.Ids.{is_server}
use Rattle.rc_model.specs.Nodes.{runs, server_of, is_running_at}
use Rattle.rc_types.specs.declared.ids.ServerId.{ServerId}
use Rattle.std.proofs.lemmas.Bool.{and_parts}
use Rattle.rc_history.specs.Remade.{stopped}
use Rattle.rc_world.specs.Happened.{opened, with_events, AllHappen}
use Rattle.rc_world.specs.Stops.{newest_at, runs_at, stop_at, stops_below, all_stopped, IsBelow}
use Rattle.rc_world.specs.HostView.{IsWithinLimits}
use Rattle.rc_world.specs.WorldHolds.{WorldHolds}
use Rattle.rc_world.specs.WorldView.{hosts_in, coordinator_in, world_of, IsSame}
use Rattle.rc_world.specs.declared.nodes.Nodes.{Nodes}
use Rattle.rc_world.proofs.Holding.{happens}
use Rattle.rc_world.proofs.Runs.{AllHappen-push}
use Rattle.rc_world.proofs.Steps.{goes_on, same-then}

-- the servers of the hosts below this one have stopped
abbrev pub stopped_below : (ℕ → HostNode) → ℕ → ℕ → HostNode
stopped_below hosts n host = if nat_lt host n && runs_at hosts host then stopped (hosts host) else hosts host

on : (b c : Bool) (host : HostNode) → b ≡ true → c ≡ true → (if b && c then stopped host else host) ≡ stopped host
on b c host below runs = rw (below, runs) refl

off_index : (b c : Bool) (host : HostNode) → b ≡ false → (if b && c then stopped host else host) ≡ host
off_index b c host not = rw not refl

off_runs : (b c : Bool) (host : HostNode) → c ≡ false → (if b && c then stopped host else host) ≡ host
off_runs true c host not = rw not refl
off_runs false c host not = refl

not_below : (n : ℕ) → nat_lt n n ≡ false
not_below n = grind (arith, nat_tests)

next_below : (n : ℕ) → nat_lt n (suc n) ≡ true
next_below n = grind (arith, nat_tests)

none_below : (n : ℕ) → nat_lt n 0 ≡ false
none_below n = grind (arith, nat_tests)

same_below : (n i : ℕ) → nat_eq n i ≡ false → nat_lt i (suc n) ≡ nat_lt i n
same_below n i other = grind (arith, nat_tests)

same_number : (n i : ℕ) → nat_eq n i ≡ true → n ≡ i
same_number n i same = grind (arith, nat_tests)

stopped_below-none : (hosts : ℕ → HostNode) → stopped_below hosts 0 ≡ hosts
stopped_below-none hosts = fun_ext (λ i. off_index (nat_lt i 0) (runs_at hosts i) (hosts i) (none_below i))

-- a host itself is as it was
stopped_below-own : (hosts : ℕ → HostNode) (n : ℕ) → stopped_below hosts n n ≡ hosts n
stopped_below-own hosts n = off_index (nat_lt n n) (runs_at hosts n) (hosts n) (not_below n)

-- where it doesn't run, nothing changes
stopped_below-rests : (hosts : ℕ → HostNode) (n : ℕ) → runs_at hosts n ≡ false → stopped_below hosts (suc n) ≡ stopped_below hosts n
stopped_below-rests hosts n rests = fun_ext (λ i. at i (nat_eq n i) refl)
  where
    at : (i : ℕ) (b : Bool) → nat_eq n i ≡ b → stopped_below hosts (suc n) i ≡ stopped_below hosts n i
    at i false other = ap (λ b. if b && runs_at hosts i then stopped (hosts i) else hosts i) (same_below n i other)
    at i true same =
        let not : runs_at hosts i ≡ false = subst (λ k. runs_at hosts k ≡ false) (same_number n i same) rests in
        off_runs (nat_lt i (suc n)) (runs_at hosts i) (hosts i) not ∙ sym (off_runs (nat_lt i n) (runs_at hosts i) (hosts i) not)

-- where it runs, it stops
stopped_below-stops : (hosts : ℕ → HostNode) (n : ℕ) → runs_at hosts n ≡ true →
    stopped_below hosts (suc n) ≡ put (stopped_below hosts n) n (stopped (stopped_below hosts n n))
stopped_below-stops hosts n runs = fun_ext (λ i. at i (nat_eq n i) refl)
  where
    own : stopped_below hosts (suc n) n ≡ stopped (stopped_below hosts n n)
    own = on (nat_lt n (suc n)) (runs_at hosts n) (hosts n) (next_below n) runs ∙ ap stopped (sym (stopped_below-own hosts n))

    at : (i : ℕ) (b : Bool) → nat_eq n i ≡ b
        → stopped_below hosts (suc n) i ≡ (if b then stopped (stopped_below hosts n n) else stopped_below hosts n i)
    at i false other = ap (λ b. if b && runs_at hosts i then stopped (hosts i) else hosts i) (same_below n i other)
    at i true same = subst (λ k. stopped_below hosts (suc n) k ≡ stopped (stopped_below hosts n n)) (same_number n i same) own

-- all have stopped, where servers run on hosts below this one alone
pub all-stopped : (hosts : ℕ → HostNode) (n : ℕ) → ((i : ℕ) → IsBelow n i (hosts i)) →
    all_stopped hosts ≡ stopped_below hosts n
all-stopped hosts n below = fun_ext (λ i. at i (hosts i) (runs (hosts i)) refl refl)
  where
    rests : (host : HostNode) (master : Option Master) → host.master ≡ master → is_some master ≡ false → stopped host ≡ host
    rests host None is none = ap (λ m. record host { master = m }) (sym is)
    rests host (Some master) is none = absurd (true≢false none)

    at : (i : ℕ) (host : HostNode) (b : Bool) → hosts i ≡ host → runs (hosts i) ≡ b → stopped (hosts i) ≡ stopped_below hosts n i
    at i host true is runs_so =
        let so = below i runs_so in
        let lt : nat_lt i n ≡ true = let h = so.0 in grind (arith, nat_tests, h) in
        sym (on (nat_lt i n) (runs_at hosts i) (hosts i) lt so.1)
    at i host false is rests_so =
        let not : runs_at hosts i ≡ false = ap (λ b. b && is_server (server_of (hosts i)) (Server (newest_at hosts i))) rests_so in
        rests (hosts i) (hosts i).master refl rests_so ∙ sym (off_runs (nat_lt i n) (runs_at hosts i) (hosts i) not)

-- The list of stops

pub stops_begin : (hosts : ℕ → HostNode) (before : List Event) → before ≡ before ++ stops_below hosts 0
unfolding stops_below
stops_begin hosts before = sym (append-nil before)

next_stops : (hosts : ℕ → HostNode) (n : ℕ) → stops_below hosts (n + 1) ≡ stops_below hosts n ++ stop_at hosts n
unfolding stops_below
next_stops hosts n = rw add-one refl

pub stops_more : (hosts : ℕ → HostNode) (n : ℕ) (before now after : List Event) → now ≡ before ++ stops_below hosts n →
    after ≡ now ++ stop_at hosts n → after ≡ before ++ stops_below hosts (n + 1)
stops_more hosts n before now after so_far made =
    made ∙ ap (λ es. es ++ stop_at hosts n) so_far ∙ append_assoc before (stops_below hosts n) (stop_at hosts n)
    ∙ ap (λ es. before ++ es) (sym (next_stops hosts n))

-- these stops have happened in a world that the events led to
pub record HaveStopped (setup : Setup) (events : List Event) (world : World) (n : ℕ) (stops : List Event) : Type 0 where
  pub same : IsSame (record world { hosts = stopped_below world.hosts n }) (replay setup (events ++ stops))
  pub all : AllHappen (opened setup) (events ++ stops)
  pub each : AllHappen (with_events (opened setup) events) stops

stop_is_possible : (world : World) (n : ℕ) → runs_at world.hosts n ≡ true →
    is_possible (record world { hosts = stopped_below world.hosts n }) (Stop (newest_at world.hosts n)) ≡ true
stop_is_possible world n running =
    let id : ServerId = newest_at world.hosts n in
    let up : runs (world.hosts n) ≡ true =
    (and_parts (runs (world.hosts n)) (is_server (server_of (world.hosts n)) (Server id)) running).0 in
    subst (λ host. (is_running_at host (Server id) && runs host) ≡ true)
    (sym (stopped_below-own world.hosts n)) (ap (λ b. b && runs (world.hosts n)) running ∙ up)

has_stopped : (world : World) (n : ℕ) → runs_at world.hosts n ≡ true →
    IsSame (record world { hosts = stopped_below world.hosts (suc n) })
    (job_done (record world { hosts = stopped_below world.hosts n }) (Stop (newest_at world.hosts n))
    (job_of world.sent (Stop (newest_at world.hosts n))))
has_stopped world n runs = record {
  sent = sym (append-nil world.sent);
  hosts = stopped_below-stops world.hosts n runs;
  coordinator = refl;
}

-- one host more, which rests
more_rest : (setup : Setup) (events : List Event) (world : World) (n : ℕ) (stops : List Event) →
    HaveStopped setup events world n stops → runs_at world.hosts n ≡ false → HaveStopped setup events world (suc n) (stops ++ [])
more_rest setup events world n stops so_far rests =
    let nothing : stops ≡ stops ++ [] = sym (append-nil stops) in
    subst (λ es. HaveStopped setup events world (suc n) es) nothing (record {
      same = subst (λ hosts. IsSame (record world { hosts = hosts }) (replay setup (events ++ stops)))
          (sym (stopped_below-rests world.hosts n rests)) so_far.same;
      all = so_far.all;
      each = so_far.each;
    })

-- one host more, which stops
more_stop : (setup : Setup) (events : List Event) (world : World) (n : ℕ) (stops : List Event) →
    HaveStopped setup events world n stops → runs_at world.hosts n ≡ true → length (events ++ stops) < MAX_EVENTS →
    HaveStopped setup events world (suc n) (stops ++ Stop (newest_at world.hosts n) ∷ [])
more_stop setup events world n stops so_far runs few =
    let stop : Event = Stop (newest_at world.hosts n) in
    let old : World = record world { hosts = stopped_below world.hosts n } in
    let new : World = record world { hosts = stopped_below world.hosts (suc n) } in
    let whole : (events ++ stops) ++ stop ∷ [] ≡ events ++ (stops ++ stop ∷ []) = append_assoc events stops (stop ∷ []) in
    let possible : is_possible old stop ≡ true = stop_is_possible world n runs in
    let can = happens setup (events ++ stops) stop old so_far.same few possible in
    record {
      same = subst (λ es. IsSame new (replay setup es)) whole
          (goes_on setup (events ++ stops) stop old new so_far.same possible (has_stopped world n runs));
      all = subst (λ es. AllHappen (opened setup) es) whole (AllHappen-push (opened setup) (events ++ stops) stop so_far.all can);
      each = AllHappen-push (with_events (opened setup) events) stops stop so_far.each can;
    }

more : (setup : Setup) (events : List Event) (world : World) (n : ℕ) (b : Bool) (stops : List Event) → runs_at world.hosts n ≡ b →
    length (events ++ (stops ++ (if b then Stop (newest_at world.hosts n) ∷ [] else []))) ≤ MAX_EVENTS →
    (length (events ++ stops) ≤ MAX_EVENTS → HaveStopped setup events world n stops) →
    HaveStopped setup events world (suc n) (stops ++ (if b then Stop (newest_at world.hosts n) ∷ [] else []))
more setup events world n false stops rests few so_far =
    more_rest setup events world n stops (so_far (subst (λ es. length (events ++ es) ≤ MAX_EVENTS) (append-nil stops) few)) rests
more setup events world n true stops runs few so_far =
    let stop : Event = Stop (newest_at world.hosts n) in
    let many : length (events ++ (stops ++ stop ∷ [])) ≡ length (events ++ stops) + 1 =
    ap (λ es. length es) (sym (append_assoc events stops (stop ∷ []))) ∙ length-append (events ++ stops) (stop ∷ []) in
    more_stop setup events world n stops (so_far (omega (arith, few, many))) runs (omega (arith, few, many))

pub have_stopped : (setup : Setup) (events : List Event) (world : World) → IsSame world (replay setup events) →
    AllHappen (opened setup) events → (n : ℕ) → length (events ++ stops_below world.hosts n) ≤ MAX_EVENTS →
    HaveStopped setup events world n (stops_below world.hosts n)
unfolding stops_below
have_stopped setup events world same all zero few = record {
  same = subst (λ es. IsSame (record world { hosts = stopped_below world.hosts 0 }) (replay setup es)) (sym (append-nil events))
      (subst (λ hosts. IsSame (record world { hosts = hosts }) (replay setup events)) (sym (stopped_below-none world.hosts)) same);
  all = subst (λ es. AllHappen (opened setup) es) (sym (append-nil events)) all;
  each = tt;
}
have_stopped setup events world same all (suc n) few =
    more setup events world n (runs_at world.hosts n) (stops_below world.hosts n) refl few (have_stopped setup events world same all n)

-- The copy of a world

pub stopped-holds : {A : Type 0} (old new : Nodes A) (sent copies : List Message) (events more : List Event) (n : ℕ) →
    WorldHolds old sent events → new.setup ≡ old.setup → hosts_in new ≡ all_stopped (hosts_in old) →
    coordinator_in new ≡ coordinator_in old → copies ≡ sent → more ≡ events ++ stops_below (hosts_in old) n →
    ((i : ℕ) → IsBelow n i (hosts_in old i)) → length more ≤ MAX_EVENTS → WorldHolds new copies more
stopped-holds old new sent copies events more n holds setup hosts coordinator same are below few =
    let world : World = world_of old sent in
    let stops : List Event = stops_below (hosts_in old) n in
    let so : HaveStopped old.setup events world n stops =
    have_stopped old.setup events world holds.same holds.possible n (subst (λ es. length es ≤ MAX_EVENTS) are few) in
    let one : IsSame (world_of new copies) (record world { hosts = stopped_below world.hosts n }) =
    record { sent = same; hosts = hosts ∙ all-stopped (hosts_in old) n below; coordinator = coordinator } in
    let two : IsSame (world_of new copies) (replay old.setup (events ++ stops)) =
    same-then (world_of new copies) (record world { hosts = stopped_below world.hosts n }) (replay old.setup (events ++ stops))
    one so.same in
    record {
      same = subst (λ (s : Setup). IsSame (world_of new copies) (replay s more)) (sym setup)
          (subst (λ es. IsSame (world_of new copies) (replay old.setup es)) (sym are) two);
      limits = subst (λ (s : Setup). IsWithinLimits s) (sym setup) holds.limits;
      possible = subst (λ (s : Setup). AllHappen (opened s) more) (sym setup)
          (subst (λ es. AllHappen (opened old.setup) es) (sym are) so.all);
      few = few;
    }

pub stops-happen : {A : Type 0} (old : Nodes A) (sent : List Message) (events more : List Event) (n : ℕ) →
    WorldHolds old sent events → more ≡ events ++ stops_below (hosts_in old) n → length more ≤ MAX_EVENTS →
    AllHappen (record { setup = old.setup; events = events }) (stops_below (replay old.setup events).hosts n)
stops-happen old sent events more n holds are few =
    let so : HaveStopped old.setup events (world_of old sent) n (stops_below (hosts_in old) n) =
    have_stopped old.setup events (world_of old sent) holds.same holds.possible n (subst (λ es. length es ≤ MAX_EVENTS) are few) in
    subst (λ hosts. AllHappen (record { setup = old.setup; events = events }) (stops_below hosts n)) holds.same.hosts so.each
