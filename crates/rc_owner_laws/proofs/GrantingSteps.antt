-- What holds of tablets and grants stays so where no grant is made, and where one is.
use Rattle.std.proofs.Common.{◌≡◌, ◌⊎◌, ℕ, ◌<◌, ◌≤◌, Bool, true, false, List, [], ◌∷◌, ◌++◌, Some, sym, ap, ◌∙◌, subst, inl, inr, arith}
use Rattle.rc_model.specs.Model.{ServerId, Pair, Tablet, Grant, ServerList, has_crashed, Attempt, Decision, GivenPart, in_range}
use Rattle.rc_model.specs.Model.{In}
use Rattle.rc_model.specs.Coordinator.{Coordinator}
use Rattle.rc_model.proofs.Members.{In-left, In-append}
use Rattle.rc_owner_laws.specs.Grants.{TabletsApart, owner_at, term_in, term_at, grants_at, IsChain, OwnersDiffer}
use Rattle.rc_owner_laws.specs.Grants.{IsGiven, IsDecided, GoodGrants}
use Rattle.rc_owner_laws.proofs.Chains.{chain-append, differ-append, grants_at-within, grants_at-beside}
use Rattle.rc_step_laws.proofs.Copies.{split}

-- no grant is made, and who owns what stays
pub kept-good : {c : Coordinator} → GoodGrants c →
    {servers : ServerList} {ready : ServerId → Bool} {tablets : List Tablet} {least : ServerId → Pair}
    {attempts : List Attempt} {current : ServerId → ℕ} →
    TabletsApart tablets → ((table key : ℕ) → owner_at tablets table key ≡ owner_at c.tablets table key) →
    ((m : ServerId) → has_crashed c.servers m ≡ true → has_crashed servers m ≡ true) →
    ((number : ℕ) (master : ServerId) (decision : Decision) → IsDecided attempts number master decision →
    IsDecided c.attempts number master decision × (current master ≡ number → c.current master ≡ number)) →
    GoodGrants (record {
      servers = servers;
      ready = ready;
      tablets = tablets;
      least = least;
      attempts = attempts;
      current = current;
      grants = c.grants;
      last_term = c.last_term;
    })
kept-good {c} good {servers} {tablets} apart same crashes was = record {
  apart = apart;
  issued = λ table key. subst (λ n. n ≤ c.last_term) (sym (ap term_in (same table key))) (good.issued table key);
  chains = λ table key. subst (IsChain 0 (grants_at c.grants table key)) (sym (ap term_in (same table key))) (good.chains table key);
  owners = λ table key grant at. owner table key grant (good.owners table key grant at);
  once = good.once;
  fresh = λ number master decision decided. good.fresh number master decision (was number master decision decided).0;
  parted = λ number master decision decided. good.parted number master decision (was number master decision decided).0;
  waiting = λ number master decision decided is_current given at not_given table key within.
      same table key ∙ good.waiting number master decision (was number master decision decided).0
      ((was number master decision decided).1 is_current) given at not_given table key within;
}
  where
    owner : (table key : ℕ) (grant : Grant) → (has_crashed c.servers grant.owner ≡ true) ⊎
        (owner_at c.tablets table key ≡ Some (grant.owner, grant.term)) →
        (has_crashed servers grant.owner ≡ true) ⊎ (owner_at tablets table key ≡ Some (grant.owner, grant.term))
    owner table key grant (inl gone) = inl (crashes grant.owner gone)
    owner table key grant (inr owned) = inr (same table key ∙ owned)

-- what a new grant must be
pub record IsNewGrant (c : Coordinator) (tablets : List Tablet) (grant : Grant) (last : ℕ) : Type 0 where
  pub apart : TabletsApart tablets
  -- its points are its owner's from now on, and others stay whose they are
  pub within : (table key : ℕ) → in_range grant.range table key ≡ true → owner_at tablets table key ≡ Some (grant.owner, grant.term)
  pub beside : (table key : ℕ) → in_range grant.range table key ≡ false → owner_at tablets table key ≡ owner_at c.tablets table key
  -- they were under its previous term, and their owner has crashed
  pub previous : (table key : ℕ) → in_range grant.range table key ≡ true → grant.previous ≡ term_at c.tablets table key
  pub rises : (table key : ℕ) → in_range grant.range table key ≡ true → grant.previous < grant.term
  pub gone : (table key : ℕ) (m : ServerId) (n : ℕ) → in_range grant.range table key ≡ true →
      owner_at c.tablets table key ≡ Some (m, n) → has_crashed c.servers m ≡ true
  pub upto : grant.term ≤ last
  pub more : c.last_term ≤ last
  -- its owner hasn't crashed
  pub up : has_crashed c.servers grant.owner ≡ true → ⊥
  -- no other part that waits has one of its points
  pub elsewhere : (number : ℕ) (master : ServerId) (decision : Decision) → IsDecided c.attempts number master decision →
      c.current master ≡ number →
      (given : GivenPart) → In given decision.parts → (IsGiven (c.grants ++ grant ∷ []) given → ⊥) →
      (table key : ℕ) → in_range given.part.range table key ≡ true → in_range grant.range table key ≡ true → ⊥

pub granted-good : {c : Coordinator} → GoodGrants c → {tablets : List Tablet} {grant : Grant} {last : ℕ} → IsNewGrant c tablets grant last →
    GoodGrants (record c { tablets = tablets; grants = c.grants ++ grant ∷ []; last_term = last })
granted-good {c} good {tablets} {grant} {last} new = record {
  apart = new.apart;
  issued = λ table key. split (in_range grant.range table key)
      (λ e. subst (λ n. n ≤ last) (sym (ap term_in (new.within table key e))) new.upto)
      (λ e. subst (λ n. n ≤ last) (sym (ap term_in (new.beside table key e)))
      (let one : term_at c.tablets table key ≤ c.last_term = good.issued table key in
      let two : c.last_term ≤ last = new.more in omega (arith, one, two)));
  chains = λ table key. split (in_range grant.range table key)
      (λ e. subst (λ (grants : List Grant). IsChain 0 grants (term_at tablets table key))
      (sym (grants_at-within c.grants grant table key e))
      (subst (IsChain 0 (grants_at c.grants table key ++ grant ∷ [])) (sym (ap term_in (new.within table key e)))
      (chain-append 0 (grants_at c.grants table key) grant (good.chains table key) (new.previous table key e)
      (subst (λ n. n < grant.term) (new.previous table key e) (new.rises table key e)))))
      (λ e. subst (λ (grants : List Grant). IsChain 0 grants (term_at tablets table key))
      (sym (grants_at-beside c.grants grant table key e))
      (subst (IsChain 0 (grants_at c.grants table key)) (sym (ap term_in (new.beside table key e))) (good.chains table key)));
  owners = λ table key one at. split (in_range grant.range table key)
      (λ e. owner table key one e (In-append one (grants_at c.grants table key) (grant ∷ [])
      (subst (λ (grants : List Grant). In one grants) (grants_at-within c.grants grant table key e) at)))
      (λ e. old_owner table key one e (good.owners table key one
      (subst (λ (grants : List Grant). In one grants) (grants_at-beside c.grants grant table key e) at)));
  once = λ table key. split (in_range grant.range table key)
      (λ e. subst (λ (grants : List Grant). OwnersDiffer grants) (sym (grants_at-within c.grants grant table key e))
      (differ-append (grants_at c.grants table key) grant (good.once table key)
      (λ other at. other_owner table key other e (good.owners table key other at))))
      (λ e. subst (λ (grants : List Grant). OwnersDiffer grants) (sym (grants_at-beside c.grants grant table key e)) (good.once table key));
  fresh = λ number master decision decided given at. (
    (let one : given.part.term ≤ c.last_term = (good.fresh number master decision decided given at).0 in
        let two : c.last_term ≤ last = new.more in omega (arith, one, two)),
    (good.fresh number master decision decided given at).1,
  );
  parted = good.parted;
  waiting = λ number master decision decided is_current given at not_given table key within. split (in_range grant.range table key)
      (λ e. absurd (new.elsewhere number master decision decided is_current given at not_given table key within e))
      (λ e. new.beside table key e ∙ good.waiting number master decision decided is_current given at
      (λ old. not_given (given-more given old)) table key within);
}
  where
    given-more : (given : GivenPart) → IsGiven c.grants given → IsGiven (c.grants ++ grant ∷ []) given
    given-more given p = record { grant = p.grant; among = In-left p.grant c.grants (grant ∷ []) p.among; term = p.term; owner = p.owner }

    -- an earlier owner of a point of the new grant has crashed
    earlier_owner : (table key : ℕ) (one : Grant) → in_range grant.range table key ≡ true →
        (has_crashed c.servers one.owner ≡ true) ⊎ (owner_at c.tablets table key ≡ Some (one.owner, one.term)) →
        has_crashed c.servers one.owner ≡ true
    earlier_owner table key one e (inl gone) = gone
    earlier_owner table key one e (inr owned) = new.gone table key one.owner one.term e owned

    other_owner : (table key : ℕ) (one : Grant) → in_range grant.range table key ≡ true →
        (has_crashed c.servers one.owner ≡ true) ⊎ (owner_at c.tablets table key ≡ Some (one.owner, one.term)) →
        one.owner ≡ grant.owner → ⊥
    other_owner table key one e was same = new.up (subst (λ m. has_crashed c.servers m ≡ true) same (earlier_owner table key one e was))

    owner : (table key : ℕ) (one : Grant) → in_range grant.range table key ≡ true →
        In one (grants_at c.grants table key) ⊎ In one (grant ∷ []) →
        (has_crashed c.servers one.owner ≡ true) ⊎ (owner_at tablets table key ≡ Some (one.owner, one.term))
    owner table key one e (inl old) = inl (earlier_owner table key one e (good.owners table key one old))
    owner table key one e (inr (inl same)) = inr (new.within table key e ∙ ap (λ (g : Grant). Some (g.owner, g.term)) (sym same))
    owner table key one e (inr (inr never)) = absurd never

    old_owner : (table key : ℕ) (one : Grant) → in_range grant.range table key ≡ false →
        (has_crashed c.servers one.owner ≡ true) ⊎ (owner_at c.tablets table key ≡ Some (one.owner, one.term)) →
        (has_crashed c.servers one.owner ≡ true) ⊎ (owner_at tablets table key ≡ Some (one.owner, one.term))
    old_owner table key one e (inl gone) = inl gone
    old_owner table key one e (inr owned) = inr (new.beside table key e ∙ owned)
