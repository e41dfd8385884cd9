-- The members of a segment, by the messages alone, are who was sent a Place of it.
use Rattle.std.proofs.Common.{◌≡◌, ◌⊎◌, ℕ, Bool, true, false, List, [], ◌∷◌, sym, inl, inr, arith}
use Rattle.std.proofs.lemmas.Bool.Decides.{nat_tests}
use Rattle.rc_types.specs.declared.entries.Entry.{Entry}
use Rattle.rc_model.specs.Model.{ServerId, Addr, Server, Message, Body, Place, is_server, between, In}
use Rattle.rc_model.specs.Made.{placed_to, members_of}
use Rattle.rc_model.proofs.Members.{In-gathered, In-gathered_rest}
use Rattle.rc_model.proofs.Said.{is_server-true, is_server-from}
use Rattle.rc_step_laws.specs.All.{IsMember, MembersWerePlaced}

-- what makes x a member
record Places (to : Addr) (body : Body) (s e : ℕ) (x : ServerId) : Type 0 where
  digest : List ℕ
  entries : List Entry
  to_x : to ≡ Server x
  says : body ≡ Place s e digest entries false

same-place : {seg s epoch e : ℕ} {digest : List ℕ} {entries : List Entry} {closed : Bool} → seg ≡ s → epoch ≡ e → closed ≡ false →
    Place seg epoch digest entries closed ≡ Place s e digest entries false
same-place {digest} {entries} p q r j = Place (p j) (q j) digest entries (r j)

placed-says : (to : Addr) (body : Body) (s e : ℕ) (x : ServerId) → In x (placed_to to body s e) → Places to body s e x
placed-says (Server id) (Place seg epoch digest entries closed) s e x at = search (arith, same-place, nat_tests)
placed-says (Server id) _ s e x at = absurd at
placed-says _ _ s e x at = absurd at

placed-said : (x : ServerId) (s e : ℕ) (digest : List ℕ) (entries : List Entry) →
    In x (placed_to (Server x) (Place s e digest entries false) s e)
placed-said x s e digest entries = search (arith, nat_tests)

member-placed : (sent : List Message) (m x : ServerId) (s e : ℕ) → In x (members_of sent m s e) → IsMember sent m s e x
member-placed [] m x s e at = absurd at
member-placed (first ∷ sent) m x s e at = by (member-placed sent m x s e)
    (In-gathered x (is_server m first.from) (placed_to first.to first.body s e) (members_of sent m s e) at)
  where
    by : (In x (members_of sent m s e) → IsMember sent m s e x) →
        ((is_server m first.from ≡ true) × In x (placed_to first.to first.body s e)) ⊎ In x (members_of sent m s e) →
        IsMember (first ∷ sent) m s e x
    by later (inl here) = let p = placed-says first.to first.body s e x here.1 in record {
      digest = p.digest;
      entries = p.entries;
      placed = inl (λ j. record {
        from = sym (is_server-true first.from here.0) j;
        to = sym p.to_x j;
        body = sym p.says j;
      });
    }
    by later (inr there) = let p = later there in
        record { digest = p.digest; entries = p.entries; placed = inr p.placed }

placed-member : (sent : List Message) (m x : ServerId) (s e : ℕ) (digest : List ℕ) (entries : List Entry) →
    In (between m x (Place s e digest entries false)) sent → In x (members_of sent m s e)
placed-member [] m x s e digest entries at = absurd at
placed-member (first ∷ sent) m x s e digest entries (inl same) = search (arith, is_server-from, placed-said)
placed-member (first ∷ sent) m x s e digest entries (inr rest) =
    In-gathered_rest x (is_server m first.from) (placed_to first.to first.body s e) (members_of sent m s e)
    (placed-member sent m x s e digest entries rest)

pub members_were_placed : MembersWerePlaced
members_were_placed sent m x s e =
    (member-placed sent m x s e, λ is. placed-member sent m x s e is.digest is.entries is.placed)
