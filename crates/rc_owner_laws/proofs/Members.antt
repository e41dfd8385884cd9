-- Members of a segment: how many there are, and what is noted of them, when some are lost or replaced or tell.
use Rattle.std.proofs.Common.{arith}
use Rattle.std.proofs.Common.{◌≡◌, ◌⊎◌, ℕ, suc, Bool, true, not, List, [], ◌∷◌, length, map}
use Rattle.std.proofs.Common.{Some, refl, sym, ap, subst, inl, inr}
use Rattle.std.proofs.lemmas.Bool.{and_parts}
use Rattle.rc_model.specs.Model.{ServerId, Member, Message, Stored, same_id, between, ServerList, has_crashed}
use Rattle.rc_model.specs.Model.{new_member, told_with, is_heard, told_if_heard, lost_if_crashed, replaced, In}
use Rattle.rc_model.proofs.Ids.{same_id-true}
use Rattle.rc_model.proofs.Members.{In-map}
use Rattle.rc_model.proofs.Tests.{either}
use Rattle.rc_owner_laws.proofs.Placings.{IsKnown, AllKnown, HasClosed}

-- How many

pub many-replaced : (members : List Member) (ids : List ServerId) → length (replaced members ids) ≡ length members
many-replaced [] ids = refl
many-replaced (one ∷ members) [] = refl
many-replaced (one ∷ members) (id ∷ ids) =
    either (λ (all : List Member). length all ≡ suc (length members)) one.lost (new_member id ∷ replaced members ids)
    (one ∷ replaced members (id ∷ ids))
    (λ _. ap suc (many-replaced members ids)) (λ _. ap suc (many-replaced members (id ∷ ids)))

-- What is noted

pub known-new : {sent : List Message} {m : ServerId} {s e : ℕ} {id : ServerId} → IsKnown sent m s e (new_member id)
known-new = record { told = λ is. cc; shut = λ is. cc; closed = λ is. cc }

known-mapped : (sent : List Message) (m : ServerId) (s e : ℕ) (f : Member → Member) →
    ((member : Member) → IsKnown sent m s e member → IsKnown sent m s e (f member)) → (members : List Member) →
    AllKnown sent m s e members → AllKnown sent m s e (map f members)
known-mapped sent m s e f keeps members all member at =
    let found = In-map f member members at in subst (λ one. IsKnown sent m s e one) (sym found.2) (keeps found.0 (all found.0 found.1))

pub known-anew : (sent : List Message) (m : ServerId) (s e : ℕ) (members : List Member) →
    AllKnown sent m s e (map (λ member. new_member member.id) members)
known-anew sent m s e members member at =
    let found = In-map (λ (one : Member). new_member one.id) member members at in
    subst (λ one. IsKnown sent m s e one) (sym found.2) known-new

pub known-chosen : (sent : List Message) (m : ServerId) (s e : ℕ) (ids : List ServerId) → AllKnown sent m s e (map new_member ids)
known-chosen sent m s e ids member at =
    let found = In-map new_member member ids at in subst (λ one. IsKnown sent m s e one) (sym found.2) known-new

pub known-lost : {sent : List Message} {m : ServerId} {s e : ℕ} (servers : ServerList) (members : List Member) →
    AllKnown sent m s e members → AllKnown sent m s e (map (lost_if_crashed servers) members)
known-lost {sent} {m} {s} {e} servers members all = known-mapped sent m s e (lost_if_crashed servers)
    (λ member old. either (λ one. IsKnown sent m s e one) (has_crashed servers member.id) (record member { lost = true }) member
    (λ _. record { told = old.told; shut = old.shut; closed = old.closed }) (λ _. old)) members all

pub known-replaced : (sent : List Message) (m : ServerId) (s e : ℕ) (members : List Member) (ids : List ServerId) →
    AllKnown sent m s e members → AllKnown sent m s e (replaced members ids)
known-replaced sent m s e [] ids all member at = absurd at
known-replaced sent m s e (one ∷ members) [] all member at = all member at
known-replaced sent m s e (one ∷ members) (id ∷ ids) all member at =
    either (λ after. In member after → IsKnown sent m s e member) one.lost (new_member id ∷ replaced members ids)
    (one ∷ replaced members (id ∷ ids))
    (λ _ there. new_first (known-replaced sent m s e members ids (λ other is. all other (inr is)) member) there)
    (λ _ there. old_first (known-replaced sent m s e members (id ∷ ids) (λ other is. all other (inr is)) member) there) at
  where
    new_first : (In member (replaced members ids) → IsKnown sent m s e member) →
        (member ≡ new_member id) ⊎ In member (replaced members ids) → IsKnown sent m s e member
    new_first rec (inl same) = subst (λ x. IsKnown sent m s e x) (sym same) known-new
    new_first rec (inr rest) = rec rest

    old_first : (In member (replaced members (id ∷ ids)) → IsKnown sent m s e member) →
        (member ≡ one) ⊎ In member (replaced members (id ∷ ids)) → IsKnown sent m s e member
    old_first rec (inl same) = all member (inl same)
    old_first rec (inr rest) = rec rest

-- A Stored is noted

known-with : (sent : List Message) (m : ServerId) (s e : ℕ) (from : ServerId) (len : ℕ) (closed : Bool) →
    In (between from m (Stored s e len closed)) sent → (closed ≡ true → HasClosed sent m s) →
    (member : Member) → from ≡ member.id → IsKnown sent m s e member →
    IsKnown sent m s e (record member { told = Some (told_with member.told len closed) })
known-with sent m s e from len closed at shuts member same old = search arith

pub known-told : (sent : List Message) (m : ServerId) (s e : ℕ) (from : ServerId) (len : ℕ) (closed : Bool) →
    In (between from m (Stored s e len closed)) sent → (closed ≡ true → HasClosed sent m s) → (members : List Member) →
    AllKnown sent m s e members → AllKnown sent m s e (map (told_if_heard from len closed) members)
known-told sent m s e from len closed at shuts members all = known-mapped sent m s e (told_if_heard from len closed)
    (λ member old. either (λ one. IsKnown sent m s e one) (is_heard from member)
    (record member { told = Some (told_with member.told len closed) }) member
    (λ heard. known-with sent m s e from len closed at shuts member
    (same_id-true (and_parts (same_id from member.id) (not member.lost) heard).0) old) (λ _. old))
    members all
