-- The messages of each server, message by message.
use Rattle.std.proofs.Common.{◌≡◌, ℕ, ◌+◌, ◌<◌, Bool, true, false, cond, ◌&&◌, ◌||◌, List, [], ◌∷◌, ◌++◌, Option, None}
use Rattle.std.proofs.Common.{length, take, drop, get_or, refl, sym, ap, ◌∙◌}
use Rattle.std.specs.BTreeMap.{BTreeMap, get}
use Rattle.std.proofs.lemmas.List.{drop_more}
use Rattle.rc_model.specs.Model.{ServerId, Message, is_server, Ack, ack_in, acknowledged, all_acknowledged, Accepted, holds_greater}
use Rattle.rc_model.specs.Model.{is_superseded, first_missing, Breach}
use Rattle.rc_audit.specs.declared.highs.TermKey.{TermKey}
use Rattle.rc_audit.specs.Places.{id_order}
use Rattle.rc_audit.specs.declared.senders.Sent.{Sent}
use Rattle.rc_audit.specs.Senders.{sent_by, messages_by, from_by, AddsMessage, AreSenders}
use Rattle.rc_audit.specs.Superseded.{superseded_in, says_above, HasSuperseded}
use Rattle.rc_audit.proofs.PlaceLemmas.{taken_more}

sent_by-push : (m : ServerId) (sent : List Message) (message : Message) →
    sent_by m (sent ++ message ∷ []) ≡ sent_by m sent ++ from_by m message
sent_by-push m [] message = refl
sent_by-push m (first ∷ sent) message = step (is_server m first.from) (sent_by m (sent ++ message ∷ []))
    (sent_by m sent) (from_by m message) (sent_by-push m sent message)
  where
    step : (b : Bool) (more some last : List Message) → more ≡ some ++ last →
        cond b (first ∷ more) more ≡ cond b (first ∷ some) some ++ last
    step true more some last e = ap (λ xs. first ∷ xs) e
    step false more some last e = e

-- the table with one more message
pub senders_more : (old new : BTreeMap ServerId Sent) (sent : List Message) (i : ℕ) (message : Message) →
    i < length sent → message ≡ get_or sent i message →
    AreSenders old (take i sent) → AddsMessage old new message → AreSenders new (take (i + 1) sent)
senders_more old new sent i message within is before now = record {
  each = λ m. now.each m ∙ ap (λ xs. xs ++ from_by m message) (before.each m) ∙
      sym (ap (λ xs. sent_by m xs) (taken_more sent i message within is) ∙ sent_by-push m (take i sent) message);
}

-- what a master has acknowledged is what is acknowledged in its messages
pub acknowledged-by : (m : ServerId) (sent : List Message) → acknowledged sent m ≡ all_acknowledged (sent_by m sent)
acknowledged-by m [] = refl
acknowledged-by m (first ∷ sent) = step (is_server m first.from) (acknowledged sent m) (acknowledged-by m sent)
  where
    step : (b : Bool) (more : List Ack) → more ≡ all_acknowledged (sent_by m sent) →
        cond b (ack_in first.body ++ more) more ≡ all_acknowledged (cond b (first ∷ sent_by m sent) (sent_by m sent))
    step true more e = ap (λ xs. ack_in first.body ++ xs) e
    step false more e = e

-- and what supersedes is sent in its messages
pub superseded-by : (sent : List Message) (plan : Accepted) (ack : Ack) →
    superseded_in plan.rows (sent_by plan.master sent) ack ≡ is_superseded sent plan ack
superseded-by [] plan ack = refl
superseded-by (first ∷ sent) plan ack = step (is_server plan.master first.from) (is_superseded sent plan ack) (superseded-by sent plan ack)
  where
    step : (b more : Bool) → superseded_in plan.rows (sent_by plan.master sent) ack ≡ more →
        superseded_in plan.rows (cond b (first ∷ sent_by plan.master sent) (sent_by plan.master sent))
        ack ≡ ((b && holds_greater plan.rows ack first.body) || more)
    step true more e = ap (λ x. holds_greater plan.rows ack first.body || x) e
    step false more e = e

-- the rest of a list from a place on
pub drop_step : {X : Type 0} (xs : List X) (i : ℕ) (x : X) → i < length xs → x ≡ get_or xs i x → drop i xs ≡ x ∷ drop (i + 1) xs
drop_step xs i x within is = drop_more xs i x within ∙ ap (λ y. y ∷ drop (i + 1) xs) (sym is)

-- the table says of exactly those writes that a greater version is recovered, where it does of the master's messages
pub superseded_told : (highs : BTreeMap TermKey ℕ) (sent messages : List Message) (plan : Accepted) → messages ≡ sent_by plan.master sent →
    ((ack : Ack) → says_above highs ack ≡ superseded_in plan.rows messages ack) → HasSuperseded highs sent plan
superseded_told highs sent messages plan is says = record {
  each = λ ack. says ack ∙ ap (λ xs. superseded_in plan.rows xs ack) is ∙ superseded-by sent plan ack;
}

-- a search of the master's messages is one of what it has acknowledged
pub missing_told : (sent messages : List Message) (plan : Accepted) (found : Option Breach) → messages ≡ sent_by plan.master sent →
    found ≡ first_missing sent plan (all_acknowledged messages) → found ≡ first_missing sent plan (acknowledged sent plan.master)
missing_told sent messages plan found is e =
    e ∙ ap (λ xs. first_missing sent plan (all_acknowledged xs)) is ∙ ap (first_missing sent plan) (sym (acknowledged-by plan.master sent))

-- a master that has sent nothing has acknowledged nothing
pub missing_nothing : (senders : BTreeMap ServerId Sent) (sent : List Message) (plan : Accepted) →
    AreSenders senders sent → get id_order senders plan.master ≡ None →
    None ≡ first_missing sent plan (acknowledged sent plan.master)
missing_nothing senders sent plan are none =
    missing_told sent [] plan None (sym (ap messages_by none) ∙ are.each plan.master) refl
