-- Lists of members: what is noted of them, who they are, and whose place is given to another.
use Rattle.std.proofs.Common.{◌≡◌, ◌⊎◌, ℕ, ◌<◌, Bool, true, not, List, [], ◌∷◌, map, Some}
use Rattle.std.proofs.Common.{refl, sym, ap, ◌∙◌, subst, inl, inr, arith}
use Rattle.std.proofs.lemmas.Bool.{and_parts}
use Rattle.rc_model.specs.Model.{ServerId, Member, Message, Stored, same_id, between, ServerList, has_crashed, new_member}
use Rattle.rc_model.specs.Model.{told_with, is_heard, told_if_heard, told_len, told_closed, lost_if_crashed, replaced, ids_of, In}
use Rattle.rc_model.proofs.Members.{In-map}
use Rattle.rc_step_laws.specs.Words.{HasTold, HasToldClosed}
use Rattle.rc_model.proofs.Ids.{same_id-true}
use Rattle.rc_model.proofs.Tests.{either}

-- What is noted of one member was told

pub record NotedOf (sent : List Message) (m : ServerId) (s e : ℕ) (member : Member) : Type 0 where
  pub len : (o : ℕ) → o < told_len member.told → HasTold sent member.id m s e o
  pub closed : told_closed member.told ≡ true → HasToldClosed sent member.id m s e

abbrev pub EachNoted : List Message → ServerId → ℕ → ℕ → List Member → Type 0
EachNoted sent m s e members = (member : Member) → In member members → NotedOf sent m s e member

-- a new member has told nothing
pub noted-new : {sent : List Message} {m : ServerId} {s e : ℕ} {id : ServerId} → NotedOf sent m s e (new_member id)
noted-new = record { len = λ o less. absurd (omega arith); closed = λ is. cc }

-- a change of each member that keeps what is noted
each-mapped : (sent : List Message) (m : ServerId) (s e : ℕ) (f : Member → Member) →
    ((member : Member) → NotedOf sent m s e member → NotedOf sent m s e (f member))
    → (members : List Member) → EachNoted sent m s e members → EachNoted sent m s e (map f members)
each-mapped sent m s e f keeps members all member at =
    let found = In-map f member members at in subst (λ one. NotedOf sent m s e one) (sym found.2) (keeps found.0 (all found.0 found.1))

-- and its id
ids-mapped : (f : Member → Member) → ((member : Member) → (f member).id ≡ member.id) → (members : List Member) →
    ids_of (map f members) ≡ ids_of members
ids-mapped f same [] = refl
ids-mapped f same (member ∷ members) =
    ap (λ id. id ∷ ids_of (map f members)) (same member) ∙ ap (λ ids. member.id ∷ ids) (ids-mapped f same members)

-- A Stored is noted

told-with : (sent : List Message) (m : ServerId) (s e : ℕ) (from : ServerId) (len : ℕ) (closed : Bool) →
    In (between from m (Stored s e len closed)) sent
    → (member : Member) → from ≡ member.id → NotedOf sent m s e member →
    NotedOf sent m s e (record member { told = Some (told_with member.told len closed) })
told-with sent m s e from len closed at member same old = search arith

pub each-told : (sent : List Message) (m : ServerId) (s e : ℕ) (from : ServerId) (len : ℕ) (closed : Bool) →
    In (between from m (Stored s e len closed)) sent
    → (members : List Member) → EachNoted sent m s e members → EachNoted sent m s e (map (told_if_heard from len closed) members)
each-told sent m s e from len closed at members all = each-mapped sent m s e (told_if_heard from len closed)
    (λ member old. either (λ one. NotedOf sent m s e one) (is_heard from member)
    (record member { told = Some (told_with member.told len closed) }) member
    (λ heard. told-with sent m s e from len closed at member
    (same_id-true (and_parts (same_id from member.id) (not member.lost) heard).0) old) (λ _. old))
    members all

pub ids-told : (from : ServerId) (len : ℕ) (closed : Bool) (members : List Member) →
    ids_of (map (told_if_heard from len closed) members) ≡ ids_of members
ids-told from len closed members = search (arith, ids-mapped)

-- Members are marked lost

pub each-lost : {sent : List Message} {m : ServerId} {s e : ℕ} (servers : ServerList) (members : List Member) →
    EachNoted sent m s e members → EachNoted sent m s e (map (lost_if_crashed servers) members)
each-lost {sent} {m} {s} {e} servers members all = each-mapped sent m s e (lost_if_crashed servers)
    (λ member old. either (λ one. NotedOf sent m s e one) (has_crashed servers member.id) (record member { lost = true }) member
    (λ _. record { len = old.len; closed = old.closed }) (λ _. old)) members all

pub ids-lost : (servers : ServerList) (members : List Member) → ids_of (map (lost_if_crashed servers) members) ≡ ids_of members
ids-lost servers members = search (arith, ids-mapped)

-- Lost ones are replaced

pub each-replaced : (sent : List Message) (m : ServerId) (s e : ℕ) (members : List Member) (ids : List ServerId) →
    EachNoted sent m s e members → EachNoted sent m s e (replaced members ids)
each-replaced sent m s e [] ids all member at = absurd at
each-replaced sent m s e (one ∷ members) [] all member at = all member at
each-replaced sent m s e (one ∷ members) (id ∷ ids) all member at =
    either (λ after. In member after → NotedOf sent m s e member) one.lost (new_member id ∷ replaced members ids)
    (one ∷ replaced members (id ∷ ids))
    (λ _ there. new_first (each-replaced sent m s e members ids (λ other is. all other (inr is)) member) there)
    (λ _ there. old_first (each-replaced sent m s e members (id ∷ ids) (λ other is. all other (inr is)) member) there) at
  where
    new_first : (In member (replaced members ids) → NotedOf sent m s e member) →
        (member ≡ new_member id) ⊎ In member (replaced members ids) → NotedOf sent m s e member
    new_first rec (inl same) = subst (λ x. NotedOf sent m s e x) (sym same) noted-new
    new_first rec (inr rest) = rec rest

    old_first : (In member (replaced members (id ∷ ids)) → NotedOf sent m s e member) →
        (member ≡ one) ⊎ In member (replaced members (id ∷ ids)) → NotedOf sent m s e member
    old_first rec (inl same) = all member (inl same)
    old_first rec (inr rest) = rec rest

-- what the members are anew has told nothing
pub each-new : (sent : List Message) (m : ServerId) (s e : ℕ) (members : List Member) →
    EachNoted sent m s e (map (λ member. new_member member.id) members)
each-new sent m s e members member at =
    let found = In-map (λ (one : Member). new_member one.id) member members at in subst (λ one. NotedOf sent m s e one)
    (sym found.2) noted-new
