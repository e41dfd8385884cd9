-- What a client may rely on, of nodes that run apart.
use Rattle.std.proofs.Common.{arith}
use Rattle.std.proofs.Common.{◌≡◌, List, ◌∷◌, ◌++◌, sym, ap, ◌∙◌, subst, append_assoc}
use Rattle.std.proofs.lemmas.List.{map-append}
use Rattle.rc_types.specs.declared.events.Setup.{Setup}
use Rattle.rc_model.specs.Model.{Entry, HasAcknowledged}
use Rattle.rc_history.specs.Apart.{Step, events_by, sent_by, TakenApart}
use Rattle.rc_history.proofs.Apart.{apart-history}
use Rattle.rc_step_laws.specs.WordClaims.{sent_after}
use Rattle.rc_promises.specs.Service.{HasAsked, IsWritten, IsOneWrite}
use Rattle.rc_promises.specs.ServiceApart.{OneWriteApart, WrittenApart, TimeApart, ReadsApart}
use Rattle.rc_promises.proofs.Once.{one-version-is-one-write, acknowledged-is-written}
use Rattle.rc_promises.proofs.Time.{writes-follow-time}
use Rattle.rc_promises.proofs.Reading.{reads-see-acknowledged-writes}

-- what was sent after the events of the steps is what the steps sent
pub sent-apart : {setup : Setup} {steps : List Step} → TakenApart setup steps →
    sent_after setup (events_by steps) ≡ sent_by steps
sent-apart apart = (apart-history apart).sent

-- the first of them are taken apart too
pub apart-first : {setup : Setup} {steps : List Step} (more : List Step) → TakenApart setup (steps ++ more) → TakenApart setup steps
apart-first more apart earlier later step e =
    apart earlier (later ++ more) step (ap (λ l. l ++ more) e ∙ append_assoc earlier (step ∷ later) more)

pub one-write-apart : OneWriteApart
one-write-apart setup steps apart m ack acknowledged =
    let sent = sent-apart apart in
    subst (λ l. IsOneWrite l m ack) sent
    (one-version-is-one-write setup (events_by steps) m ack (subst (λ l. HasAcknowledged l m ack) (sym sent) acknowledged))

pub written-apart : WrittenApart
written-apart setup steps apart m ack factor acknowledged =
    let sent = sent-apart apart in
    subst (λ l. (entry : Entry) × IsWritten l m ack entry) sent
    (acknowledged-is-written setup (events_by steps) m ack factor (subst (λ l. HasAcknowledged l m ack) (sym sent) acknowledged))

pub time-apart : TimeApart
time-apart setup steps more apart m x first later entry acknowledged written of_key unasked =
    let sent = sent-apart (apart-first more apart) in
    let all = sym (ap (sent_after setup) (map-append (λ (s : Step). s.event) steps more)) ∙ sent-apart apart in
    writes-follow-time setup (events_by steps) (events_by more) m x first later entry
    (subst (λ l. HasAcknowledged l m first) (sym sent) acknowledged)
    (subst (λ l. IsWritten l x later entry) (sym all) written)
    of_key (λ asked. unasked (subst (λ l. HasAsked l x later.table later.key entry.value) sent asked))

pub reads-apart : ReadsApart
reads-apart setup steps apart m before answer read = search (arith, reads-see-acknowledged-writes, sent-apart)
