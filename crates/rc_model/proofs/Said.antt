-- What is gathered from the messages is what they say.
use Rattle.std.proofs.Common.{◌≡◌, ◌⊎◌, ℕ, true, List, [], ◌∷◌, Some, refl, sym, ap, ◌∙◌, subst, inl, inr, arith}
use Rattle.std.specs.Option.{option_to_list}
use Rattle.rc_model.specs.Model.{ServerId, Addr, Server, Outside, Entry, Part, Message, Body, WriteOk, is_server, entry_at, made, Ack}
use Rattle.rc_model.specs.Model.{ack_in, acknowledged, all_acknowledged, Accepted, plan_in, accepted, In, HasMade, WasAcknowledged}
use Rattle.rc_model.specs.Model.{HasAcknowledged, WasAccepted}
use Rattle.rc_types.specs.declared.ids.Addr.TheVariants.{Coordinator}
use Rattle.rc_types.specs.declared.messages.Body.TheVariants.{Plan}
use Rattle.rc_model.proofs.Members.{In-append, In-left, In-right, In-gathered}
use Rattle.rc_model.proofs.Members.{In-gathered_rest}
use Rattle.rc_model.proofs.Ids.{same_id-true, same_id-refl}

-- Who sends

pub is_server-true : {m : ServerId} (from : Addr) → is_server m from ≡ true → from ≡ Server m
is_server-true (Server other) e = ap Server (sym (same_id-true e))
is_server-true Coordinator e = cc
is_server-true Outside e = cc

pub is_server-from : {m : ServerId} {from : Addr} → from ≡ Server m → is_server m from ≡ true
is_server-from {m} e = subst (λ a. is_server m a ≡ true) (sym e) (same_id-refl m)

-- What was made

made-says : (sent : List Message) (m : ServerId) (s o : ℕ) (entry : Entry) → In entry (made sent m s o) → HasMade sent m s o entry
made-says [] m s o entry at = absurd at
made-says (first ∷ sent) m s o entry at = by (made-says sent m s o entry)
    (In-gathered entry (is_server m first.from) (option_to_list (entry_at first.body s o)) (made sent m s o) at)
  where
    by : (In entry (made sent m s o) → HasMade sent m s o entry) →
        ((is_server m first.from ≡ true) × In entry (option_to_list (entry_at first.body s o))) ⊎
        In entry (made sent m s o) → HasMade (first ∷ sent) m s o entry
    by later (inl here) = search (arith, is_server-true)
    by later (inr there) = let p = later there in record { message = p.message; among = inr p.among; from = p.from; holds = p.holds }

made-said : (sent : List Message) (m : ServerId) (s o : ℕ) (entry : Entry) (message : Message) → In message sent →
    message.from ≡ Server m → entry_at message.body s o ≡ Some entry → In entry (made sent m s o)
made-said [] m s o entry message at from holds = absurd at
made-said (first ∷ sent) m s o entry message (inl e) from holds = search (arith, is_server-from)
made-said (first ∷ sent) m s o entry message (inr rest) from holds =
    In-gathered_rest entry (is_server m first.from) (option_to_list (entry_at first.body s o)) (made sent m s o)
    (made-said sent m s o entry message rest from holds)

pub HasMade-from : (sent : List Message) (m : ServerId) (s o : ℕ) (entry : Entry) → In entry (made sent m s o) → HasMade sent m s o entry
HasMade-from = made-says

pub HasMade-in : (sent : List Message) (m : ServerId) (s o : ℕ) (entry : Entry) → HasMade sent m s o entry → In entry (made sent m s o)
HasMade-in sent m s o entry p = made-said sent m s o entry p.message p.among p.from p.holds

-- What was acknowledged

abbrev says_ack : Ack → Body
says_ack ack = WriteOk ack.seg ack.offset ack.term ack.table ack.key ack.version

ack_in-says : (ack : Ack) (body : Body) → In ack (ack_in body) → body ≡ says_ack ack
ack_in-says ack (WriteOk seg offset term table key version) (inl e) = ap says_ack (sym e)
ack_in-says ack (WriteOk seg offset term table key version) (inr rest) = absurd rest
ack_in-says ack _ at = absurd at

ack_in-said : {ack : Ack} {body : Body} → body ≡ says_ack ack → In ack (ack_in body)
ack_in-said {ack} e = subst (λ b. In ack (ack_in b)) (sym e) (inl refl)

pub HasAcknowledged-from : (sent : List Message) (m : ServerId) (ack : Ack) → In ack (acknowledged sent m) → HasAcknowledged sent m ack
HasAcknowledged-from [] m ack at = absurd at
HasAcknowledged-from (first ∷ sent) m ack at =
    by (HasAcknowledged-from sent m ack) (In-gathered ack (is_server m first.from) (ack_in first.body) (acknowledged sent m) at)
  where
    by : (In ack (acknowledged sent m) → HasAcknowledged sent m ack) →
        ((is_server m first.from ≡ true) × In ack (ack_in first.body)) ⊎ In ack (acknowledged sent m) →
        HasAcknowledged (first ∷ sent) m ack
    by later (inl here) = search (arith, is_server-true, ack_in-says)
    by later (inr there) = let p = later there in record { message = p.message; among = inr p.among; from = p.from; says = p.says }

ack-said : (sent : List Message) (m : ServerId) (ack : Ack) (message : Message) → In message sent →
    message.from ≡ Server m → message.body ≡ says_ack ack → In ack (acknowledged sent m)
ack-said [] m ack message at from says = absurd at
ack-said (first ∷ sent) m ack message (inl e) from says = search (arith, is_server-from, ack_in-said)
ack-said (first ∷ sent) m ack message (inr rest) from says =
    In-gathered_rest ack (is_server m first.from) (ack_in first.body) (acknowledged sent m) (ack-said sent m ack message rest from says)

pub HasAcknowledged-in : (sent : List Message) (m : ServerId) (ack : Ack) → HasAcknowledged sent m ack → In ack (acknowledged sent m)
HasAcknowledged-in sent m ack p = ack-said sent m ack p.message p.among p.from p.says

pub WasAcknowledged-from : (sent : List Message) (ack : Ack) → In ack (all_acknowledged sent) → WasAcknowledged sent ack
WasAcknowledged-from [] ack at = absurd at
WasAcknowledged-from (first ∷ sent) ack at =
    by (WasAcknowledged-from sent ack) (In-append ack (ack_in first.body) (all_acknowledged sent) at)
  where
    by : (In ack (all_acknowledged sent) → WasAcknowledged sent ack) →
        In ack (ack_in first.body) ⊎ In ack (all_acknowledged sent) → WasAcknowledged (first ∷ sent) ack
    by later (inl here) = record { message = first; among = inl refl; says = ack_in-says ack first.body here }
    by later (inr there) = let p = later there in record { message = p.message; among = inr p.among; says = p.says }

any-said : (sent : List Message) (ack : Ack) (message : Message) → In message sent → message.body ≡ says_ack ack →
    In ack (all_acknowledged sent)
any-said [] ack message at says = absurd at
any-said (first ∷ sent) ack message (inl e) says = In-left ack (ack_in first.body) (all_acknowledged sent)
    (ack_in-said (sym (ap (λ (x : Message). x.body) e) ∙ says))
any-said (first ∷ sent) ack message (inr rest) says =
    In-right ack (ack_in first.body) (all_acknowledged sent) (any-said sent ack message rest says)

pub WasAcknowledged-in : (sent : List Message) (ack : Ack) → WasAcknowledged sent ack → In ack (all_acknowledged sent)
WasAcknowledged-in sent ack p = any-said sent ack p.message p.among p.says

-- What was accepted

record PlanSays (plan : Accepted) (body : Body) : Type 0 where
  head : ℕ
  parts : List Part
  is : body ≡ Plan head plan.attempt plan.master plan.rows parts

plan_in-says : (plan : Accepted) (body : Body) → In plan (plan_in body) → PlanSays plan body
plan_in-says plan (Plan head attempt master rows parts) (inl e) =
    record { head = head; parts = parts; is = ap (λ (p : Accepted). Plan head p.attempt p.master p.rows parts) (sym e) }
plan_in-says plan (Plan head attempt master rows parts) (inr rest) = absurd rest
plan_in-says plan _ at = absurd at

pub WasAccepted-from : (sent : List Message) (plan : Accepted) → In plan (accepted sent) → WasAccepted sent plan
WasAccepted-from [] plan at = absurd at
WasAccepted-from (first ∷ sent) plan at = by (WasAccepted-from sent plan) (In-append plan (plan_in first.body) (accepted sent) at)
  where
    by : (In plan (accepted sent) → WasAccepted sent plan) → In plan (plan_in first.body) ⊎ In plan (accepted sent) →
        WasAccepted (first ∷ sent) plan
    by later (inl here) = let p = plan_in-says plan first.body here in
        record { message = first; among = inl refl; head = p.head; parts = p.parts; says = p.is }
    by later (inr there) = search arith

plan-said : (sent : List Message) (plan : Accepted) (message : Message) (head : ℕ) (parts : List Part) →
    In message sent → message.body ≡ Plan head plan.attempt plan.master plan.rows parts → In plan (accepted sent)
plan-said [] plan message head parts at says = absurd at
plan-said (first ∷ sent) plan message head parts (inl e) says = In-left plan (plan_in first.body) (accepted sent)
    (subst (λ b. In plan (plan_in b)) (sym (sym (ap (λ (x : Message). x.body) e) ∙ says)) (inl refl))
plan-said (first ∷ sent) plan message head parts (inr rest) says =
    In-right plan (plan_in first.body) (accepted sent) (plan-said sent plan message head parts rest says)

pub WasAccepted-in : (sent : List Message) (plan : Accepted) → WasAccepted sent plan → In plan (accepted sent)
WasAccepted-in sent plan p = plan-said sent plan p.message p.head p.parts p.among p.says
