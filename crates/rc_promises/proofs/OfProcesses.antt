-- The headline, and what a client may rely on, of processes: what has left was sent in a history, of which all is proved.
use Rattle.std.proofs.Common.{◌≡◌, List, [], ◌∷◌, ◌++◌, inl, inr, sym, ap, ◌∙◌, subst, append_assoc}
use Rattle.rc_types.specs.declared.ids.ServerId.{ServerId}
use Rattle.rc_types.specs.declared.ids.Addr.TheVariants.{Server}
use Rattle.rc_types.specs.declared.messages.Body.TheVariants.{ReadOk}
use Rattle.rc_types.specs.declared.messages.Message.{Message}
use Rattle.rc_types.specs.declared.events.Setup.{Setup}
use Rattle.rc_model.specs.Breach.{breach}
use Rattle.rc_model.specs.Headline.{In, Headline, WasAccepted, HasAcknowledged}
use Rattle.rc_model.specs.Recovered.{Ack, Accepted}
use Rattle.rc_model.proofs.Headlines.{breach_is_headline}
use Rattle.rc_model.proofs.Members.{In-left}
use Rattle.rc_history.specs.Apart.{Step, sent_by, TakenApart, events_by}
use Rattle.rc_history.proofs.Apart.{apart-history}
use Rattle.rc_step_laws.proofs.KeptWorlds.{nothing-is-dropped}
use Rattle.rc_model.specs.Headline.{NothingIsDropped}
use Rattle.rc_owner_laws.proofs.VersionReplays.{there-is-no-breach}
use Rattle.rc_history.specs.Processes.{Processes, deed_of, new_processes, after_all}
use Rattle.rc_history.specs.LifeClaims.{ComesLast}
use Rattle.rc_history.proofs.Telling.{steps-come-last}
use Rattle.rc_promises.specs.Service.{Answer, HasRead}
use Rattle.rc_promises.specs.OfProcesses.{NoBreachOfProcesses, NothingIsMissingOfProcesses, StrongOfProcesses, OneWriteOfProcesses}
use Rattle.rc_promises.specs.OfProcesses.{WrittenOfProcesses, TimeOfProcesses, ReadsOfProcesses, ReadsWhenMade}
use Rattle.rc_promises.proofs.ServiceApart.{one-write-apart, written-apart, time-apart, reads-apart}

-- what is said of some messages is said of more

accepted-more : {left sent : List Message} {plan : Accepted} → ((message : Message) → In message left → In message sent) →
    WasAccepted left plan → WasAccepted sent plan
accepted-more all was =
    record { message = was.message; among = all was.message was.among; head = was.head; parts = was.parts; says = was.says }

acknowledged-more : {left sent : List Message} {m : ServerId} {ack : Ack} →
    ((message : Message) → In message left → In message sent) → HasAcknowledged left m ack → HasAcknowledged sent m ack
acknowledged-more all has =
    record { message = has.message; among = all has.message has.among; from = has.from; says = has.says }

-- The headline

pub no-breach-of-processes : NoBreachOfProcesses
no-breach-of-processes setup all history =
    ap breach (sym (apart-history history.apart).sent) ∙ there-is-no-breach setup (events_by history.steps)

pub nothing-is-missing-of-processes : NothingIsMissingOfProcesses
nothing-is-missing-of-processes setup all history plan was ack has =
    let sent : List Message = sent_by history.steps in
    let headline : Headline sent = (breach_is_headline sent).0 (no-breach-of-processes setup all history) in
    headline.there plan (accepted-more history.sent was) ack (acknowledged-more history.sent has)

pub strong-of-processes : StrongOfProcesses
strong-of-processes setup all history free plan was ack has =
    let sent : List Message = sent_by history.steps in
    let dropped : NothingIsDropped sent =
    subst NothingIsDropped (apart-history history.apart).sent
    (nothing-is-dropped setup (events_by history.steps) free) in
    dropped plan (accepted-more history.sent was) ack (acknowledged-more history.sent has)

-- What a client may rely on

pub one-write-of-processes : OneWriteOfProcesses
one-write-of-processes setup all history m ack has =
    one-write-apart setup history.steps history.apart m ack (acknowledged-more history.sent has)

pub written-of-processes : WrittenOfProcesses
written-of-processes setup all history m ack factor has = written-apart setup history.steps history.apart m ack factor
    (acknowledged-more history.sent has)

pub time-of-processes : TimeOfProcesses
time-of-processes setup early now history m x first later entry has written of_key unasked =
    time-apart setup history.steps history.more history.apart m x first later entry
    (acknowledged-more history.left_by_then has) written of_key (λ asked. unasked (history.done_by_then _ asked))

-- a member stands between others
record Between (messages : List Message) (message : Message) : Type 0 where
  first : List Message
  last : List Message
  whole : messages ≡ first ++ message ∷ last

between : (messages : List Message) (message : Message) → In message messages → Between messages message
between [] message at = absurd at
between (one ∷ messages) message (inl e) = record { first = []; last = messages; whole = ap (λ (x : Message). x ∷ messages) (sym e) }
between (one ∷ messages) message (inr at) =
    let found : Between messages message = between messages message at in
    record { first = one ∷ found.first; last = found.last; whole = ap (λ l. one ∷ l) found.whole }

true-read : {setup : Setup} {steps : List Step} → TakenApart setup steps → {m : ServerId} {before : List Message} (after : List Message)
    (message : Message) {answer : Answer} → sent_by steps ≡ before ++ message ∷ after → message.from ≡ Server m →
    message.body ≡ ReadOk answer.table answer.key answer.version answer.value → HasRead (sent_by steps) m before answer
true-read apart after message whole from says =
    record { message = message; after = after; whole = whole; from = from; says = says }

pub reads-of-processes : ReadsOfProcesses
reads-of-processes setup all history m answer has =
    let found : Between (sent_by history.steps) has.message = between (sent_by history.steps) has.message
    (history.sent has.message has.among) in
    let read : HasRead (sent_by history.steps) m found.first answer =
    true-read history.apart found.last has.message found.whole has.from has.says in
    record { before = found.first; read = read; misses = reads-apart setup history.steps history.apart m found.first answer read }

pub reads-when-made : ReadsWhenMade
reads-when-made setup happenings may name work taken m answer has =
    let all : Processes = after_all setup (new_processes setup) happenings in
    let sent : List Message = (deed_of name (all.at name).life work).sent in
    let last : ComesLast setup all sent = steps-come-last setup happenings may name work taken in
    let found : Between sent has.message = between sent has.message has.among in
    let before : List Message = last.before ++ found.first in
    let whole : sent_by last.steps ≡ before ++ has.message ∷ found.last =
    last.whole ∙ (ap (λ l. last.before ++ l) found.whole ∙ sym (append_assoc last.before found.first (has.message ∷ found.last))) in
    let read : HasRead (sent_by last.steps) m before answer =
    true-read last.apart found.last has.message whole has.from has.says in
    record {
      steps = last.steps;
      apart = last.apart;
      true_read = record { before = before; read = read; misses = reads-apart setup last.steps last.apart m before answer read };
      left_by_then = λ message at. In-left message last.before found.first (last.left_by_then message at);
    }
