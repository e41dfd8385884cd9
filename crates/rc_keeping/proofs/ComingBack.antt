-- A node comes back from what it keeps, whatever of it is refused.
use Rattle.std.specs.Prelude.{◌&&◌, nat_lt}
use Rattle.std.proofs.Common.{◌≡◌, ℕ, Bool, true, false, cond, List, [], ◌∷◌, filter, refl, sym, ap, ◌∙◌}
use Rattle.rc_types.specs.declared.events.NodeWork.{NodeWork}
use Rattle.rc_types.specs.declared.events.NodeWork.TheVariants as work
use Rattle.rc_model.specs.Nodes.{host_can, host_step, coordinator_step, server_of, runs}
use Rattle.rc_model.specs.Model.{MAX_HOSTS, HostNode}
use Rattle.rc_model.specs.Coordinator.{Coordinator}
use Rattle.rc_model.proofs.Tests.{either, true_false}
use Rattle.rc_history.specs.Remade.{host_keeps, coordinator_keeps, SameButMaster}
use Rattle.rc_history.proofs.Remade.{same-same, same-through, same-back, step-unkept, step-same}
use Rattle.rc_keeping.specs.Keeping.{host_next, host_given, coordinator_given, HostsComeBack, SavedHostsComeBack, CoordinatorsComeBack}
use Rattle.rc_keeping.specs.Keeping.{RefusalsComeBack}

-- what is kept is refused at both, or at none
pub refusals-come-back : RefusalsComeBack
refusals-come-back one other work.Stop same kept = same.runs
refusals-come-back one other (work.Start taken) same kept =
    let index : one.index ≡ other.index = ap (λ (h : HostNode). h.index) same.rest in
    ap (λ (b : Bool). nat_lt one.index MAX_HOSTS && cond b false true) same.runs
    ∙ ap (λ (n : ℕ). nat_lt n MAX_HOSTS && cond (runs other) false true) index
refusals-come-back one other work.Tick same kept = absurd cc
refusals-come-back one other _ same kept = refl

-- what is not kept changes the master alone
next-unkept : (host : HostNode) (given : NodeWork) → host_keeps given ≡ false → SameButMaster (host_next host given) host
next-unkept host given unkept =
    either (λ after. SameButMaster after host) (host_can host given) (host_step host given).0 host
    (λ _. step-unkept given unkept) (λ _. same-same)

next-kept : (one other : HostNode) (given : NodeWork) → SameButMaster one other → host_keeps given ≡ true →
    SameButMaster (host_next one given) (host_next other given)
next-kept one other given same kept = by (host_can one given) (host_can other given) (refusals-come-back one other given same kept)
  where
    by : (b c : Bool) → b ≡ c → SameButMaster (cond b (host_step one given).0 one) (cond c (host_step other given).0 other)
    by true true e = step-same given same
    by false false e = same
    by true false e = true_false e
    by false true e = true_false (sym e)

-- one work more, kept or not
one-more : (one other : HostNode) (given : NodeWork) (works : List NodeWork) → SameButMaster one other →
    ((first second : HostNode) → SameButMaster first second →
    SameButMaster (host_given first (filter host_keeps works)) (host_given second works)) →
    (b : Bool) → host_keeps given ≡ b →
    SameButMaster (host_given one (cond b (given ∷ filter host_keeps works) (filter host_keeps works)))
    (host_given (host_next other given) works)
one-more one other given works same rest true e =
    rest (host_next one given) (host_next other given) (next-kept one other given same e)
one-more one other given works same rest false e = rest one (host_next other given)
    (same-through same (same-back (next-unkept other given e)))

pub saved-hosts-come-back : SavedHostsComeBack
saved-hosts-come-back loaded host [] same = same
saved-hosts-come-back loaded host (given ∷ works) same =
    one-more loaded host given works same (λ first second is. saved-hosts-come-back first second works is) (host_keeps given) refl

pub hosts-come-back : HostsComeBack
hosts-come-back host works = saved-hosts-come-back host host works same-same

pub coordinators-come-back : CoordinatorsComeBack
coordinators-come-back c [] = refl
coordinators-come-back c (work.Tick ∷ works) = coordinators-come-back c works
coordinators-come-back c (work.Stop ∷ works) = coordinators-come-back c works
coordinators-come-back c (work.Start kept ∷ works) = coordinators-come-back c works
coordinators-come-back c (work.Ask to body ∷ works) = coordinators-come-back c works
coordinators-come-back c (given ∷ works) = coordinators-come-back (coordinator_step c given).0 works
