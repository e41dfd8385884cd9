-- A node is made anew from what was kept of its works.
use Rattle.std.proofs.Common.{◌≡◌, Bool, true, false, cond, List, [], ◌∷◌, filter, Option, Some, None, refl, sym, ap, ◌∙◌, subst}
use Rattle.std.specs.Prelude.{is_some}
use Rattle.rc_model.specs.Model.{Addr, Server, Outside, Message, Body, Fetch, is_server, Backup, backup_takes, Master, master_takes}
use Rattle.rc_model.specs.Model.{NodeWork}
use Rattle.rc_model.specs.Model.{Deliver, HostNode, host_step, coordinator_step, is_for_backup, with_backup, with_master}
use Rattle.rc_model.specs.Model.{server_takes, server_of, takes_if_running, ticks_if_running, host_after, coordinator_after}
use Rattle.rc_types.specs.declared.ids.Addr.TheVariants.{Coordinator as AtCoordinator}
use Rattle.rc_model.specs.Coordinator.{Coordinator}
use Rattle.rc_model.specs.Nodes.{Tick, Stop, Start}
use Rattle.rc_model.proofs.Tests.{either, true_false}
use Rattle.rc_history.specs.Remade.{changes_backup, host_keeps, coordinator_keeps, stopped, SameButMaster, HostsCanBeRemade}
use Rattle.rc_history.specs.Remade.{CoordinatorCanBeRemade}

pub same-same : {host : HostNode} → SameButMaster host host
same-same = record { runs = refl; rest = refl }

pub same-through : {one two three : HostNode} → SameButMaster one two → SameButMaster two three → SameButMaster one three
same-through a b = record { runs = a.runs ∙ b.runs; rest = a.rest ∙ b.rest }

pub same-back : {one two : HostNode} → SameButMaster one two → SameButMaster two one
same-back a = record { runs = sym a.runs; rest = sym a.rest }

-- What is not to be kept changes the master alone

-- of the messages for a backup only a Fetch is not kept
unkept-backup : {backup : Backup} (from : Addr) (body : Body) → changes_backup body ≡ false → is_for_backup body ≡ true →
    (backup_takes backup from body).0 ≡ backup
unkept-backup (Server asker) (Fetch attempt master seg len part) unkept for_backup = refl
unkept-backup AtCoordinator (Fetch attempt master seg len part) unkept for_backup = refl
unkept-backup Outside (Fetch attempt master seg len part) unkept for_backup = refl
unkept-backup from body unkept for_backup = cc

server-unkept : {host : HostNode} {master : Master} (message : Message) → host.master ≡ Some master → changes_backup message.body ≡ false →
    SameButMaster (server_takes host master message).0 host
server-unkept {host} {master} message running unkept =
    either (λ after. SameButMaster after.0 host) (is_for_backup message.body)
    (with_backup host (backup_takes host.backup message.from message.body))
    (with_master host (master_takes master message.from message.body))
    (λ for_backup. record {
      runs = refl;
      rest = ap (λ (b : Backup). stopped (record host { backup = b }))
          (unkept-backup message.from message.body unkept for_backup);
    }) (λ _. record { runs = sym (ap is_some running); rest = refl })

takes-unkept : {host : HostNode} (running : Option Master) (message : Message) → host.master ≡ running →
    changes_backup message.body ≡ false →
    SameButMaster (takes_if_running host running message).0 host
takes-unkept None message is unkept = same-same
takes-unkept {host} (Some master) message is unkept =
    either (λ after. SameButMaster after.0 host) (is_server (server_of host) message.to) (server_takes host master message) (host, [])
    (λ _. server-unkept message is unkept) (λ _. same-same)

ticks-unkept : {host : HostNode} (running : Option Master) → host.master ≡ running → SameButMaster (ticks_if_running host running).0 host
ticks-unkept None is = same-same
ticks-unkept (Some master) is = record { runs = sym (ap is_some is); rest = refl }

pub step-unkept : {host : HostNode} (work : NodeWork) → host_keeps work ≡ false → SameButMaster (host_step host work).0 host
step-unkept {host} (Deliver message) unkept = takes-unkept host.master message refl unkept
step-unkept {host} Tick unkept = ticks-unkept host.master refl
step-unkept Stop unkept = cc
step-unkept (Start kept) unkept = cc
step-unkept _ unkept = same-same

-- Hosts that are the same but for their masters stay so

-- over the masters, where both run or neither does
server-same : (host : HostNode) (one other : Master) (message : Message) →
    SameButMaster (server_takes (record host { master = Some one }) one message).0
    (server_takes (record host { master = Some other }) other message).0
server-same host one other message = by (is_for_backup message.body)
  where
    by : (b : Bool) → SameButMaster
        (cond b (with_backup (record host { master = Some one }) (backup_takes host.backup message.from message.body))
        (with_master (record host { master = Some one }) (master_takes one message.from message.body))).0
        (cond b (with_backup (record host { master = Some other }) (backup_takes host.backup message.from message.body))
        (with_master (record host { master = Some other }) (master_takes other message.from message.body))).0
    by true = record { runs = refl; rest = refl }
    by false = record { runs = refl; rest = refl }

takes-same : (host : HostNode) (one other : Master) (message : Message) →
    SameButMaster (takes_if_running (record host { master = Some one }) (Some one) message).0
    (takes_if_running (record host { master = Some other }) (Some other) message).0
takes-same host one other message = by (is_server (server_of host) message.to)
  where
    by : (b : Bool) →
        SameButMaster (cond b (server_takes (record host { master = Some one }) one message) (record host { master = Some one }, [])).0
        (cond b (server_takes (record host { master = Some other }) other message) (record host { master = Some other }, [])).0
    by true = server-same host one other message
    by false = record { runs = refl; rest = refl }

running-same : (host : HostNode) (one other : Master) (work : NodeWork) →
    SameButMaster (host_step (record host { master = Some one }) work).0 (host_step (record host { master = Some other }) work).0
running-same host one other (Deliver message) = takes-same host one other message
running-same host one other _ = record { runs = refl; rest = refl }

either-same : (host : HostNode) (one other : Option Master) (work : NodeWork) → is_some one ≡ is_some other →
    SameButMaster (host_step (record host { master = one }) work).0 (host_step (record host { master = other }) work).0
either-same host None None work both = same-same
either-same host None (Some other) work both = true_false (sym both)
either-same host (Some one) None work both = true_false both
either-same host (Some one) (Some other) work both = running-same host one other work

pub step-same : {one other : HostNode} (work : NodeWork) → SameButMaster one other →
    SameButMaster (host_step one work).0 (host_step other work).0
step-same {one} {other} work same =
    subst (λ (h : HostNode). SameButMaster (host_step (record h { master = one.master }) work).0 (host_step other work).0) (sym same.rest)
    (either-same (stopped other) one.master other.master work same.runs)

after-same : {one other : HostNode} (works : List NodeWork) → SameButMaster one other →
    SameButMaster (host_after one works) (host_after other works)
after-same [] same = same
after-same {one} {other} (work ∷ works) same =
    after-same {one = (host_step one work).0} {other = (host_step other work).0} works (step-same {one = one} {other = other} work same)

-- one work more, kept or not
one-more : (host : HostNode) (work : NodeWork) (works : List NodeWork) →
    ((other : HostNode) → SameButMaster (host_after other (filter host_keeps works)) (host_after other works)) →
    (b : Bool) → host_keeps work ≡ b →
    SameButMaster (host_after host (cond b (work ∷ filter host_keeps works) (filter host_keeps works)))
    (host_after (host_step host work).0 works)
one-more host work works rest true e = rest (host_step host work).0
one-more host work works rest false e = same-through (rest host) (after-same works (same-back (step-unkept work e)))

pub hosts-remade : HostsCanBeRemade
hosts-remade host [] = same-same
hosts-remade host (work ∷ works) = one-more host work works (λ other. hosts-remade other works) (host_keeps work) refl

step-timer : {c : Coordinator} (work : NodeWork) → coordinator_keeps work ≡ false → (coordinator_step c work).0 ≡ c
step-timer Tick unkept = refl
step-timer _ unkept = cc

one-more-timer : (c : Coordinator) (work : NodeWork) (works : List NodeWork) →
    ((other : Coordinator) → coordinator_after other (filter coordinator_keeps works) ≡ coordinator_after other works) →
    (b : Bool) → coordinator_keeps work ≡ b →
    coordinator_after c (cond b (work ∷ filter coordinator_keeps works) (filter coordinator_keeps works))
    ≡ coordinator_after (coordinator_step c work).0 works
one-more-timer c work works rest true e = rest (coordinator_step c work).0
one-more-timer c work works rest false e = rest c ∙ ap (λ (d : Coordinator). coordinator_after d works) (sym (step-timer work e))

pub coordinator-remade : CoordinatorCanBeRemade
coordinator-remade c [] = refl
coordinator-remade c (work ∷ works) = one-more-timer c work works (λ other. coordinator-remade other works) (coordinator_keeps work) refl
