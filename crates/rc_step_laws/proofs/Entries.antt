-- Versions of lists of entries, and what messages carry.
use Rattle.std.proofs.Common.{ℕ, zero, suc, ◌≡◌, ◌≤◌, max, Bool, List, [], ◌∷◌, ◌++◌, map, drop, slice_get, Some, sym, subst, arith}
use Rattle.std.specs.List.{All}
use Rattle.std.proofs.lemmas.List.Elements.{All-nil, All-cons, All-head, All-tail, All-push, All-append, All-map, All-weaker}
use Rattle.rc_model.specs.Model.{ServerId, Entry, Message, Body, Place, Append, Data, between, is_of, greatest_version, to_ids}
use Rattle.rc_step_laws.proofs.Lists.{map-append}
use Rattle.rc_step_laws.specs.Numbers.{VersionsUpTo, body_within, MessagesWithin}
use Rattle.rc_model.proofs.Tests.{either}

-- what stands at a place of a list, each of whose elements has this
pub All-get : {X : Type 0} (P : X → Type 0) (xs : List X) (k : ℕ) (x : X) → All P xs → slice_get xs k ≡ Some x → P x
All-get P [] k x all e = cc
All-get P (y ∷ xs) zero x all e = let same : y ≡ x = cc in subst P same (All-head P y xs all)
All-get P (y ∷ xs) (suc k) x all e = All-get P xs k x (All-tail P y xs all) e

pub All-one : {X : Type 0} (P : X → Type 0) (x : X) → P x → All P (x ∷ [])
All-one P x p = All-cons P x [] p (All-nil P)

-- versions up to n are up to what is more
pub versions-more : {n m : ℕ} → n ≤ m → (entries : List Entry) → VersionsUpTo n entries → VersionsUpTo m entries
versions-more {n} {m} more entries all = All-weaker (λ (entry : Entry). entry.version ≤ n)
    (λ (entry : Entry). entry.version ≤ m) (λ entry p. omega (arith, p, more)) entries all

-- the greatest version of a key is one of the entries'
pub greatest-within : {n : ℕ} (term table key : ℕ) (entries : List Entry) → VersionsUpTo n entries
    → greatest_version term table key entries ≤ n
greatest-within term table key [] all = omega arith
greatest-within {n} term table key (entry ∷ entries) all =
    let first : entry.version ≤ n = All-head (λ (one : Entry). one.version ≤ n) entry entries all in
    let rest : greatest_version term table key entries ≤ n =
    greatest-within term table key entries (All-tail (λ (one : Entry). one.version ≤ n) entry entries all) in
    either (λ version. version ≤ n) (is_of term table key entry)
    (max entry.version (greatest_version term table key entries)) (greatest_version term table key entries)
    (λ e. omega (arith, first, rest)) (λ e. rest)

-- one more entry
pub versions-push : {n : ℕ} (entries : List (Entry × Bool)) (entry : Entry) (client : Bool) →
    VersionsUpTo n (map (λ one. one.0) entries) → entry.version ≤ n
    → VersionsUpTo n (map (λ one. one.0) (entries ++ (entry, client) ∷ []))
versions-push {n} entries entry client all less =
    subst (VersionsUpTo n) (sym (map-append (λ (one : Entry × Bool). one.0) entries ((entry, client) ∷ [])))
    (All-push (λ (one : Entry). one.version ≤ n) (map (λ (one : Entry × Bool). one.0) entries) entry all less)

-- without the first entries
pub versions-drop : {n : ℕ} (k : ℕ) (entries : List (Entry × Bool)) → VersionsUpTo n (map (λ one. one.0) entries) →
    VersionsUpTo n (map (λ one. one.0) (drop k entries))
versions-drop zero entries all = all
versions-drop (suc k) [] all = all
versions-drop {n} (suc k) (one ∷ entries) all =
    versions-drop k entries (All-tail (λ (entry : Entry). entry.version ≤ n) one.0 (map (λ (other : Entry × Bool). other.0) entries) all)

-- Messages

pub body-more : {n m : ℕ} → n ≤ m → (body : Body) → body_within n body → body_within m body
body-more more (Place seg epoch digest entries closed) p = versions-more more entries p
body-more more (Append seg offset entries) p = versions-more more entries p
body-more more (Data attempt seg term entries) p = versions-more more entries p
body-more more _ p = tt

pub messages-more : {n m : ℕ} → n ≤ m → (messages : List Message) → MessagesWithin n messages → MessagesWithin m messages
messages-more {n} {m} more messages all =
    All-weaker (λ (message : Message). body_within n message.body) (λ (message : Message). body_within m message.body)
    (λ message p. body-more more message.body p) messages all

pub none-within : (n : ℕ) → MessagesWithin n []
none-within n = All-nil (λ (message : Message). body_within n message.body)

pub one-within : (n : ℕ) (message : Message) → body_within n message.body → MessagesWithin n (message ∷ [])
one-within n message p = All-one (λ (one : Message). body_within n one.body) message p

pub both-within : (n : ℕ) (first second : List Message) → MessagesWithin n first → MessagesWithin n second →
    MessagesWithin n (first ++ second)
both-within n first second p q = All-append (λ (message : Message). body_within n message.body) first second p q

-- the same body to each of these
pub ids-within : (n : ℕ) (own : ServerId) (ids : List ServerId) (body : Body) → body_within n body → MessagesWithin n (to_ids own ids body)
ids-within n own ids body p = All-map (λ (message : Message). body_within n message.body)
    (λ (id : ServerId). between own id body) ids (λ k d less. p)
