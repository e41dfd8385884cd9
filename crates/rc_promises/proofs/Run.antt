-- Runs that the definitions compute.
use Rattle.std.proofs.Common.{◌≡◌, ◌+◌, ℕ, true, false, List, [], ◌∷◌, ◌++◌, filter, drop}
use Rattle.std.proofs.Common.{Some, slice_get, refl, sym, ap, ◌∙◌, subst, inl, codes}
use Rattle.std.proofs.lemmas.Bool.{leb-true, ltb-true}
use Rattle.rc_types.specs.declared.events.Setup.{Setup}
use Rattle.rc_types.specs.declared.messages.Message.{Message}
use Rattle.rc_types.specs.declared.messages.Body.TheVariants.{Write, Read, WriteOk}
use Rattle.rc_model.specs.Messages.{to_outside}
use Rattle.rc_model.specs.Made.{made}
use Rattle.rc_model.specs.Headline.{In}
use Rattle.rc_model.specs.Model.{ServerId, Entry}
use Rattle.rc_model.specs.Nodes.{NodeWork, Deliver, Ask}
use Rattle.rc_model.specs.World.{NodeName, TheOutside, TheHost}
use Rattle.rc_model.proofs.Members.{In-filter, filter-In, In-left, In-right}
use Rattle.rc_model.proofs.Said.{HasMade-in, HasMade-from}
use Rattle.rc_model.proofs.Tests.{true_false}
use Rattle.rc_owner_laws.specs.AckClaims.{acks_place}
use Rattle.rc_history.specs.Processes.{Deed, Happening, Takes, deed_of, new_processes}
use Rattle.rc_promises.specs.LinearProcesses.{IsDone, IsUnsent, IsWrite, IsRead, asked, at_moment, in_the_end, sent_by_deeds, request_to}
use Rattle.rc_promises.specs.Script.{lines_of}
use Rattle.rc_promises.specs.WorkedLives.{holding, held_run, held_read, answered_b, HoldingMayHappen, ItIsHeldBack}
use Rattle.rc_promises.specs.WorkedLives.{id, setup, forgetting, run, ItMayHappen, ItForgets, ItShowsWhatWasAcknowledged, append_b}
use Rattle.rc_promises.specs.WorkedLives.{first_of, is_ask, brings_read, brings_append, lets_write_ok_go, lets_read_ok_go, write_a, read_a}
use Rattle.rc_promises.proofs.LastingDeeds.{before, outlives, lasts, outlasts, deed-stands, done-from}
use Rattle.rc_promises.proofs.Script.{may-lines}

pub it-may-happen : ItMayHappen
it-may-happen = may-lines setup (new_processes setup) (lines_of setup forgetting) refl

-- a step that outlives what comes after it is done
done-at : {all : Setup} {happenings : List Happening} {number : ℕ} {name : NodeName} {work : NodeWork} →
    slice_get happenings number ≡ Some (Takes name work) →
    outlives (drop (number + 1) happenings) (deed_of name ((at_moment all happenings number).at name).life work) ≡ true →
    IsDone all happenings number (deed_of name ((at_moment all happenings number).at name).life work)
done-at {all} {happenings} {number} {name} {work} takes stays = record {
  takes = takes;
  does = refl;
  stays = lasts (drop (number + 1) happenings) (deed_of name ((at_moment all happenings number).at name).life work) stays;
}

-- where the test finds nothing, nothing was sent for the place
none-sent : {all : Setup} {happenings : List Happening} {n : ℕ} {m : ServerId} {s o : ℕ} →
    made (sent_by_deeds (before all (new_processes all) happenings n)) m s o ≡ [] → IsUnsent all happenings n m s o
none-sent {all} {happenings} {n} {m} {s} {o} none number deed less done (entry, was) =
    subst (In entry) none (HasMade-in (sent_by_deeds (before all (new_processes all) happenings n)) m s o entry (record {
      message = was.message;
      among = subst (λ (l : List Deed). In was.message (sent_by_deeds l)) (sym stands.1)
          (among (before all (new_processes all) happenings number) stands.0);
      from = was.from;
      holds = was.holds;
    }))
  where
    stands : (rest : List Deed) × (before all (new_processes all) happenings n
        ≡ (before all (new_processes all) happenings number) ++ deed ∷ rest)
    stands = deed-stands all (new_processes all) happenings number n deed less (done-from done)

    among : (first rest : List Deed) → In was.message (sent_by_deeds (first ++ deed ∷ rest))
    among [] rest = In-left was.message deed.sent (sent_by_deeds rest) was.among
    among (one ∷ first) rest = In-right was.message one.sent (sent_by_deeds (first ++ deed ∷ rest)) (among first rest)

-- what the end of its process has left less than it rests on is not done
not-done : {all : Setup} {happenings : List Happening} {number : ℕ} {name : NodeName} {work : NodeWork} →
    slice_get happenings number ≡ Some (Takes name work) →
    outlives (drop (number + 1) happenings) (deed_of name ((at_moment all happenings number).at name).life work) ≡ false →
    (deed : Deed) → IsDone all happenings number deed → ⊥
not-done {all} {happenings} {number} {name} {work} takes forgotten deed done =
    true_false (sym (outlasts (drop (number + 1) happenings) deed done.stays)
    ∙ (ap (outlives (drop (number + 1) happenings)) same ∙ forgotten))
  where
    both : Some (Takes deed.node deed.work) ≡ Some (Takes name work)
    both = sym done.takes ∙ takes

    node_is : deed.node ≡ name
    node_is = cc

    work_is : deed.work ≡ work
    work_is = cc

    same : deed ≡ deed_of name ((at_moment all happenings number).at name).life work
    same = done.does ∙ (λ i. deed_of (node_is i) ((at_moment all happenings number).at (node_is i)).life (work_is i))

pub it-forgets : ItForgets
it-forgets = record {
  taken = refl;
  forgotten = not-done {all = setup} {happenings = run} {number = (first_of brings_append run)} {name = (TheHost 1)}
      {work = (Deliver append_b)} refl refl;
}

-- The write and the read

abbrev a_ok : Message
a_ok = to_outside (id 0 1) (WriteOk 1 0 1 7 5 1)

abbrev entry_a : Entry
entry_a = record { term = 1; table = 7; key = 5; version = 1; value = Some (codes "a") }

none-left : filter (acks_place (id 0 1) 1 0) (at_moment setup run (first_of lets_write_ok_go run)).left ≡ []
none-left = refl

not-left-before : In a_ok (at_moment setup run (first_of lets_write_ok_go run)).left → ⊥
not-left-before at = subst (In a_ok) none-left
    (filter-In (acks_place (id 0 1) 1 0) a_ok (at_moment setup run (first_of lets_write_ok_go run)).left at refl)

it-is-a-write : IsWrite setup run write_a
it-is-a-write = record {
  kind = refl;
  seg = 1;
  offset = 0;
  term = 1;
  request = asked
      (deed_of TheOutside ((at_moment setup run (first_of is_ask run)).at TheOutside).life (Ask (id 0 1) (Write 7 5 (Some (codes "a")))))
      (done-at {all = setup} {happenings = run} {number = (first_of is_ask run)} {name = TheOutside}
      {work = (Ask (id 0 1) (Write 7 5 (Some (codes "a"))))} refl refl)
      (inl refl);
  response = refl;
  first = not-left-before;
  made = HasMade-from (sent_by_deeds (in_the_end setup run).done) (id 0 1) 1 0 entry_a (inl refl);
  fresh = none-sent {all = setup} {happenings = run} {n = (first_of is_ask run)} {m = (id 0 1)} {s = 1} {o = 0} refl;
}

abbrev c_ok : Message
c_ok = to_outside (id 0 2) (WriteOk 1 1 2 7 5 2)

c-left : In c_ok (in_the_end setup run).left
c-left = (In-filter (acks_place (id 0 2) 1 1) c_ok (in_the_end setup run).left (inl refl)).0

abbrev the_read : NodeWork
the_read = Deliver (request_to (id 0 2) (Read 7 5))

it-is-a-read : IsRead setup run read_a
it-is-a-read = record {
  kind = refl;
  moment = first_of brings_read run;
  deed = deed_of (TheHost 0) ((at_moment setup run (first_of brings_read run)).at (TheHost 0)).life the_read;
  done = done-at {all = setup} {happenings = run} {number = (first_of brings_read run)} {name = (TheHost 0)} {work = the_read} refl refl;
  answers = inl refl;
  response = refl;
  asked_before = leb-true (first_of brings_read run) (first_of brings_read run) refl;
  leaves_after = ltb-true (first_of brings_read run) (first_of lets_read_ok_go run) refl;
  ack = record { seg = 1; offset = 1; term = 2; table = 7; key = 5; version = 2 };
  acknowledged = record { message = c_ok; among = c-left; from = refl; says = refl };
  unsent = none-sent {all = setup} {happenings = run} {n = (first_of brings_read run + 1)} {m = (id 0 2)} {s = 1} {o = 1} refl;
}

pub it-shows-what-was-acknowledged : ItShowsWhatWasAcknowledged
it-shows-what-was-acknowledged = record {
  write = it-is-a-write;
  read = it-is-a-read;
  in_turn = ltb-true (first_of lets_write_ok_go run) (first_of brings_read run) refl;
}

-- The read that is held back

pub holding-may-happen : HoldingMayHappen
holding-may-happen = may-lines setup (new_processes setup) (lines_of setup holding) refl

abbrev b_ok : Message
b_ok = to_outside (id 0 1) (WriteOk 1 1 1 7 5 2)

b-left : In b_ok (in_the_end setup held_run).left
b-left = (In-filter (acks_place (id 0 1) 1 1) b_ok (in_the_end setup held_run).left (inl refl)).0

abbrev early_read : NodeWork
early_read = Deliver (request_to (id 0 1) (Read 7 5))

held-is-a-read : IsRead setup held_run held_read
held-is-a-read = record {
  kind = refl;
  moment = first_of brings_read held_run;
  deed = deed_of (TheHost 0) ((at_moment setup held_run (first_of brings_read held_run)).at (TheHost 0)).life early_read;
  done = done-at {all = setup} {happenings = held_run} {number = (first_of brings_read held_run)} {name = (TheHost 0)}
      {work = early_read} refl refl;
  answers = inl refl;
  response = refl;
  asked_before = leb-true (first_of brings_read held_run) (first_of brings_read held_run) refl;
  leaves_after = ltb-true (first_of brings_read held_run) (first_of lets_read_ok_go held_run) refl;
  ack = record { seg = 1; offset = 1; term = 1; table = 7; key = 5; version = 2 };
  acknowledged = record { message = b_ok; among = b-left; from = refl; says = refl };
  unsent = none-sent {all = setup} {happenings = held_run} {n = (first_of brings_read held_run + 1)} {m = (id 0 1)} {s = 1} {o = 1} refl;
}

pub it-is-held-back : ItIsHeldBack
it-is-held-back = record {
  read = held-is-a-read;
  later = ltb-true answered_b (first_of lets_read_ok_go held_run) refl;
  less = ltb-true 1 2 refl;
}
