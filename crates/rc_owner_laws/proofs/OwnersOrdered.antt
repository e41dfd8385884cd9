-- What was sent of the grants stays so, and the owners of a point form one chain.
use Rattle.std.proofs.Common.{◌≡◌, ◌⊎◌, ℕ, ◌<◌, true, List, [], ◌∷◌, ◌++◌, slice_get, Some, refl, sym, ap, ◌∙◌, subst, inl, inr, arith}
use Rattle.rc_model.specs.Model.{ServerId, Addr, Grant, Message, Body, Own, from_coordinator, new_coordinator, own_body, in_range}
use Rattle.rc_model.specs.Model.{Granted, grant_in, granted, IsGranted, covers, grants_of, IsBefore, previous, onward, IsEarlier, In}
use Rattle.rc_types.specs.declared.messages.Body.TheVariants.{Plan as PlanBody}
use Rattle.rc_model.specs.Coordinator.{Coordinator}
use Rattle.rc_model.proofs.Members.{In-left, In-right, In-append, In-get, place_of, In-filter, filter-In}
use Rattle.rc_model.proofs.Befores.{before-through}
use Rattle.rc_step_laws.specs.Moves.{CoordinatorLater}
use Rattle.rc_owner_laws.specs.Grants.{grants_at, term_at, IsChain, NoneTo, OwnersDiffer, own_said, GoodGrants, GrantsMoved, GrantsKept}
use Rattle.rc_model.proofs.Ids.{server-same}
use Rattle.rc_owner_laws.proofs.Rising.{remembered, IsRemembered, granted_of}
use Rattle.rc_owner_laws.proofs.Keeping.{decided-later}

-- What was sent

said-later : {old new : Coordinator} → CoordinatorLater old new →
    ((grant : Grant) → In grant old.grants → In grant new.grants) → (to : Addr) (body : Body) → own_said old to body →
    own_said new to body
said-later later more to (Own range term before attempt) is =
    record { grant = is.grant; among = more is.grant is.among; to_is = is.to_is; body_is = is.body_is }
said-later later more to (PlanBody head number master rows parts) is = search (arith, decided-later)
said-later later more to _ is = tt

pub kept-step : (sent : List Message) (c : Coordinator) → GrantsKept sent c → (after : Coordinator × List Message) →
    CoordinatorLater c after.0 → GrantsMoved c after → GrantsKept (sent ++ after.1) after.0
kept-step sent c kept after later moved = record {
  told = λ grant at. told grant (moved.told grant at);
  known = λ message at. known message (In-append message sent after.1 at);
}
  where
    told : (grant : Grant) → In grant c.grants ⊎ In (from_coordinator grant.owner (own_body grant)) after.1 →
        In (from_coordinator grant.owner (own_body grant)) (sent ++ after.1)
    told grant (inl old) = In-left (from_coordinator grant.owner (own_body grant)) sent after.1 (kept.told grant old)
    told grant (inr new) = In-right (from_coordinator grant.owner (own_body grant)) sent after.1 new

    known : (message : Message) → In message sent ⊎ In message after.1 → own_said after.0 message.to message.body
    known message (inl old) = said-later later moved.remembers message.to message.body (kept.known message old)
    known message (inr new) = moved.says message new

pub kept-others : (sent : List Message) (c : Coordinator) → GrantsKept sent c → (messages : List Message) →
    ((message : Message) → In message messages → own_said c message.to message.body) → GrantsKept (sent ++ messages) c
kept-others sent c kept messages says = record {
  told = λ grant at. In-left (from_coordinator grant.owner (own_body grant)) sent messages (kept.told grant at);
  known = λ message at. known message (In-append message sent messages at);
}
  where
    known : (message : Message) → In message sent ⊎ In message messages → own_said c message.to message.body
    known message (inl old) = kept.known message old
    known message (inr new) = says message new

pub kept-none : GrantsKept [] new_coordinator
kept-none = record { told = λ grant at. absurd at; known = λ message at. absurd at }

-- The grants of the messages are those that are remembered

-- and each that is remembered is among those sent
granted-in : (sent : List Message) (message : Message) (one : Granted) → In message sent →
    In one (grant_in message.to message.body) → In one (granted sent)
granted-in [] message one at here = absurd at
granted-in (first ∷ sent) message one (inl same) here =
    In-left one (grant_in first.to first.body) (granted sent) (subst (λ (m : Message). In one (grant_in m.to m.body)) same here)
granted-in (first ∷ sent) message one (inr rest) here =
    In-right one (grant_in first.to first.body) (granted sent) (granted-in sent message one rest here)

-- Chains

-- these grants are all among those
abbrev pub AllAmong : List Grant → List Granted → Type 0
AllAmong grants all = (grant : Grant) → In grant grants → In (granted_of grant) all

-- the start of a chain is before each term in it
reached : (all : List Granted) (start last : ℕ) (grants : List Grant) → IsChain start grants last →
    AllAmong grants all → (grant : Grant) → In grant grants → IsBefore all start grant.term
reached all start last [] chain among grant at = absurd at
reached all start last (first ∷ grants) chain among grant at =
    by at (λ rest. reached all first.term last grants chain.2 (λ one there. among one (inr there)) grant rest)
  where
    step : IsBefore all start first.term
    step = (let found : (k : ℕ) × (slice_get all k ≡ Some (granted_of first)) = place_of all (granted_of first) (among first (inl refl)) in
        subst (λ n. IsBefore all n first.term) chain.0 (previous found.0 (granted_of first) found.1))

    by : (grant ≡ first) ⊎ In grant grants → (In grant grants → IsBefore all first.term grant.term) → IsBefore all start grant.term
    by (inl same) rec = subst (λ (one : Grant). IsBefore all start one.term) (sym same) step
    by (inr rest) rec = before-through step (rec rest)

-- of two grants of a chain one's term is before the other's
ordered : (all : List Granted) (start last : ℕ) (grants : List Grant) → IsChain start grants last →
    AllAmong grants all → (one other : Grant) → In one grants → In other grants →
    (one.term ≡ other.term) ⊎ (IsBefore all one.term other.term ⊎ IsBefore all other.term one.term)
ordered all start last [] chain among one other at there = absurd at
ordered all start last (first ∷ grants) chain among one other (inl a) (inl b) = inl (ap (λ (g : Grant). g.term) (a ∙ sym b))
ordered all start last (first ∷ grants) chain among one other (inl a) (inr rest) = search (arith, reached)
ordered all start last (first ∷ grants) chain among one other (inr rest) (inl b) = search (arith, reached)
ordered all start last (first ∷ grants) chain among one other (inr here) (inr there) =
    ordered all first.term last grants chain.2 (λ g at. among g (inr at)) one other here there

-- each grant of a chain has a greater term than its previous one
chain-rises : (start last : ℕ) (grants : List Grant) → IsChain start grants last → (grant : Grant) → In grant grants →
    grant.previous < grant.term
chain-rises start last [] chain grant at = absurd at
chain-rises start last (first ∷ grants) chain grant (inl same) =
    subst (λ (g : Grant). g.previous < g.term) (sym same) (subst (λ n. n < first.term) (sym chain.0) chain.1)
chain-rises start last (first ∷ grants) chain grant (inr rest) = chain-rises first.term last grants chain.2 grant rest

before-less : {all : List Granted} → ((one : Granted) → In one all → one.previous < one.term) → {earlier later : ℕ} →
    IsBefore all earlier later → earlier < later
before-less {all} rises (previous k grant at) = rises grant (In-get all k grant at)
before-less {all} rises {earlier} (onward from k grant at way) =
    (let one : earlier < grant.previous = before-less rises way in
    let two : grant.previous < grant.term = rises grant (In-get all k grant at) in omega (arith, one, two))

-- two grants to one owner are one
none-to : (owner : ServerId) (grants : List Grant) (grant : Grant) → NoneTo owner grants → In grant grants → grant.owner ≡ owner → ⊥
none-to owner [] grant none at same = absurd at
none-to owner (first ∷ grants) grant none (inl e) same = none.0 (ap (λ (g : Grant). g.owner) (sym e) ∙ same)
none-to owner (first ∷ grants) grant none (inr rest) same = none-to owner grants grant none.1 rest same

same-owner : (grants : List Grant) → OwnersDiffer grants → (one other : Grant) → In one grants → In other grants →
    one.owner ≡ other.owner → one ≡ other
same-owner [] differ one other at there same = absurd at
same-owner (first ∷ grants) differ one other (inl a) (inl b) same = a ∙ sym b
same-owner (first ∷ grants) differ one other (inl a) (inr rest) same =
    absurd (none-to first.owner grants other differ.0 rest (sym same ∙ ap (λ (g : Grant). g.owner) a))
same-owner (first ∷ grants) differ one other (inr rest) (inl b) same =
    absurd (none-to first.owner grants one differ.0 rest (same ∙ ap (λ (g : Grant). g.owner) b))
same-owner (first ∷ grants) differ one other (inr here) (inr there) same = same-owner grants differ.1 one other here there same

-- The owners of a point

module _ (sent : List Message) (c : Coordinator) (good : GoodGrants c) (kept : GrantsKept sent c) (table key : ℕ) where
  -- a grant of the point is remembered as one of the point
  record IsAt (one : Granted) : Type 0 where
    grant : Grant
    among : In grant (grants_at c.grants table key)
    is : one ≡ granted_of grant

  at-point : (one : Granted) → In one (granted sent) → covers table key one ≡ true → IsAt one
  at-point one at on =
      let was : IsRemembered c one = remembered c sent kept.known one at in
      record {
        grant = was.grant;
        among = filter-In (λ (g : Grant). in_range g.range table key) was.grant c.grants was.among
            (sym (ap (covers table key) was.is) ∙ on);
        is = was.is;
      }

  all-among : AllAmong (grants_at c.grants table key) (grants_of sent table key)
  all-among grant at =
      let was : In grant c.grants × (in_range grant.range table key ≡ true) =
      In-filter (λ (g : Grant). in_range g.range table key) grant c.grants at in
      filter-In (covers table key) (granted_of grant) (granted sent)
      (granted-in sent (from_coordinator grant.owner (own_body grant)) (granted_of grant) (kept.told grant was.0) (inl refl)) was.1

  pub one-chain : (one other : Granted) → IsGranted sent one → covers table key one ≡ true → IsGranted sent other →
      covers table key other ≡ true →
      (one.term ≡ other.term) ⊎ (IsEarlier sent table key one.term other.term ⊎ IsEarlier sent table key other.term one.term)
  one-chain one other p on q of =
      let a : IsAt one = at-point one (In-get (granted sent) p.0 one p.1) on in
      let b : IsAt other = at-point other (In-get (granted sent) q.0 other q.1) of in
      subst (λ (g : Granted). (g.term ≡ other.term) ⊎
      (IsEarlier sent table key g.term other.term ⊎ IsEarlier sent table key other.term g.term)) (sym a.is)
      (subst (λ (g : Granted). (a.grant.term ≡ g.term) ⊎
      (IsEarlier sent table key a.grant.term g.term ⊎ IsEarlier sent table key g.term a.grant.term)) (sym b.is)
      (ordered (grants_of sent table key) 0 (term_at c.tablets table key) (grants_at c.grants table key)
      (good.chains table key) all-among a.grant b.grant a.among b.among))

  pub earlier-less : (earlier later : ℕ) → IsEarlier sent table key earlier later → earlier < later
  earlier-less earlier later before = before-less rises before
    where
      rises : (one : Granted) → In one (grants_of sent table key) → one.previous < one.term
      rises one at =
          let was : In one (granted sent) × (covers table key one ≡ true) = In-filter (covers table key) one (granted sent) at in
          let a : IsAt one = at-point one was.0 was.1 in
          subst (λ (g : Granted). g.previous < g.term) (sym a.is)
          (chain-rises 0 (term_at c.tablets table key) (grants_at c.grants table key) (good.chains table key)
          a.grant a.among)

  pub granted-once : (one other : Granted) → IsGranted sent one → covers table key one ≡ true → IsGranted sent other →
      covers table key other ≡ true → one.owner ≡ other.owner → one ≡ other
  granted-once one other p on q of same =
      let a : IsAt one = at-point one (In-get (granted sent) p.0 one p.1) on in
      let b : IsAt other = at-point other (In-get (granted sent) q.0 other q.1) of in
      a.is ∙ (ap granted_of (same-owner (grants_at c.grants table key) (good.once table key) a.grant b.grant a.among b.among
      (server-same (sym (ap (λ (g : Granted). g.owner) a.is) ∙
      (same ∙ ap (λ (g : Granted). g.owner) b.is)))) ∙ sym b.is)
