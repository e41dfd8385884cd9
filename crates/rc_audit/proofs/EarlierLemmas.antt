-- How the terms before a term are found, grant by grant and term by term.
use Rattle.std.proofs.Common.{◌≡◌, ◌⊎◌, ℕ, ◌+◌, ◌-◌, ◌<◌, ◌≤◌, Bool, true, false, cond, List, [], ◌∷◌, ◌++◌, Some}
use Rattle.std.proofs.Common.{nat_eq, length, take, get_or, refl, sym, ap, ◌∙◌, subst, inl, inr, length-append, arith}
use Rattle.std.specs.Ordering.{nat_cmp}
use Rattle.std.specs.BTreeMap.{BTreeMap, is_at}
use Rattle.std.specs.BTreeSet.{BTreeSet, contains}
use Rattle.std.specs.Map.{lookup}
use Rattle.std.proofs.lemmas.List.{take_more}
use Rattle.std.proofs.lemmas.Bool.{eqb-true, eq-eqb, or_cases, or_left, or_right}
use Rattle.rc_model.specs.Model.{Message, in_range, IsBefore, previous, onward, IsEarlier, is_earlier, grants_of, In}
use Rattle.rc_model.proofs.Befores.{before-through, is_before-finds, is_before-found}
use Rattle.rc_model.proofs.Members.{In-left, In-right, In-append}
use Rattle.rc_audit.specs.declared.grants.Grant.{Grant}
use Rattle.rc_audit.specs.declared.grants.TermGrants.{TermGrants}
use Rattle.rc_audit.specs.Grants.{grant_of, grants_in, grants_at, AreGrants}
use Rattle.rc_audit.specs.Earlier.{AreEarlier, NotesTerm, unseen, IsStep, Follows}
use Rattle.rc_audit.proofs.GrantLemmas.{step_back, granted_at}
use Rattle.rc_model.proofs.Tests.{either}

-- fewer are unseen the more is noted

unseen-kept : (old new : BTreeSet ℕ) (grants : List Grant) →
    ((t : ℕ) → contains nat_cmp old t ≡ true → contains nat_cmp new t ≡ true) → unseen new grants ≤ unseen old grants
unseen-kept old new [] kept = omega arith
unseen-kept old new (grant ∷ grants) kept =
    by (contains nat_cmp old grant.previous) (contains nat_cmp new grant.previous) (kept grant.previous)
    (unseen old grants) (unseen new grants) (unseen-kept old new grants kept)
  where
    by : (was is : Bool) → (was ≡ true → is ≡ true) → (a b : ℕ) → b ≤ a → cond is b (b + 1) ≤ cond was a (a + 1)
    by true true same a b less = less
    by true false same a b less = let e : false ≡ true = same refl in cc
    by false true same a b less = omega (arith, less)
    by false false same a b less = omega (arith, less)

-- and one less where a grant's previous term is new
unseen-less : (old new : BTreeSet ℕ) (grants : List Grant) (grant : Grant) →
    ((t : ℕ) → contains nat_cmp old t ≡ true → contains nat_cmp new t ≡ true) →
    In grant grants → contains nat_cmp old grant.previous ≡ false → contains nat_cmp new grant.previous ≡ true →
    unseen new grants + 1 ≤ unseen old grants
unseen-less old new [] grant kept at was is = absurd at
unseen-less old new (first ∷ grants) grant kept (inl same) was is =
    let old_first : contains nat_cmp old first.previous ≡ false = ap (λ (g : Grant). contains nat_cmp old g.previous) (sym same) ∙ was in
    let new_first : contains nat_cmp new first.previous ≡ true = ap (λ (g : Grant). contains nat_cmp new g.previous) (sym same) ∙ is in
    by (contains nat_cmp old first.previous) (contains nat_cmp new first.previous) old_first new_first
    (unseen old grants) (unseen new grants) (unseen-kept old new grants kept)
  where
    by : (a b : Bool) → a ≡ false → b ≡ true → (m n : ℕ) → n ≤ m → cond b n (n + 1) + 1 ≤ cond a m (m + 1)
    by true b e f m n less = cc
    by false true e f m n less = omega (arith, less)
    by false false e f m n less = cc
unseen-less old new (first ∷ grants) grant kept (inr rest) was is =
    by (contains nat_cmp old first.previous) (contains nat_cmp new first.previous) (kept first.previous)
    (unseen old grants) (unseen new grants) (unseen-less old new grants grant kept rest was is)
  where
    by : (was is : Bool) → (was ≡ true → is ≡ true) → (a b : ℕ) → b + 1 ≤ a → cond is b (b + 1) + 1 ≤ cond was a (a + 1)
    by true true same a b less = less
    by true false same a b less = let e : false ≡ true = same refl in cc
    by false true same a b less = omega (arith, less)
    by false false same a b less = omega (arith, less)

-- one term noted

module _ (old new : BTreeSet ℕ) (waited waiting : List ℕ) (grant : Grant) (p : NotesTerm old new waited waiting grant.previous) where
  noted-kept : (t : ℕ) → contains nat_cmp old t ≡ true → contains nat_cmp new t ≡ true
  noted-kept t e = p.each t ∙ or_right (nat_eq grant.previous t) (contains nat_cmp old t) e

  noted-has : contains nat_cmp new grant.previous ≡ true
  noted-has = p.each grant.previous ∙ or_left (nat_eq grant.previous grant.previous)
      (contains nat_cmp old grant.previous) (eq-eqb grant.previous grant.previous refl)

  noted-from : (t : ℕ) → contains nat_cmp new t ≡ true → (grant.previous ≡ t) ⊎ (contains nat_cmp old t ≡ true)
  noted-from t e = by (or_cases (nat_eq grant.previous t) (contains nat_cmp old t) (sym (p.each t) ∙ e))
    where
      by : (nat_eq grant.previous t ≡ true) ⊎ (contains nat_cmp old t ≡ true) → (grant.previous ≡ t) ⊎ (contains nat_cmp old t ≡ true)
      by (inl same) = inl (eqb-true grant.previous t same)
      by (inr was) = inr was

  noted-waits : (t : ℕ) → In t waited → In t waiting
  noted-waits t at = subst (In t) (sym p.waits) (either (In t) (contains nat_cmp old grant.previous) waited
      (waited ++ grant.previous ∷ []) (λ _. at) (λ _. In-left t waited (grant.previous ∷ []) at))

  noted-waits_new : (t : ℕ) → grant.previous ≡ t → (contains nat_cmp old t ≡ true) ⊎ In t waiting
  noted-waits_new t same = by (contains nat_cmp old grant.previous) refl p.waits
    where
      by : (b : Bool) → contains nat_cmp old grant.previous ≡ b →
          waiting ≡ cond b waited (waited ++ grant.previous ∷ []) → (contains nat_cmp old t ≡ true) ⊎ In t waiting
      by true e is = inl (ap (contains nat_cmp old) (sym same) ∙ e)
      by false e is = inr (subst (In t) (sym is) (In-right t waited (grant.previous ∷ []) (inl (sym same))))

  noted-waits_from : (t : ℕ) → In t waiting → In t waited ⊎ (contains nat_cmp new t ≡ true)
  noted-waits_from t at = by (contains nat_cmp old grant.previous) p.waits
    where
      last : In t waited ⊎ In t (grant.previous ∷ []) → In t waited ⊎ (contains nat_cmp new t ≡ true)
      last (inl old_one) = inl old_one
      last (inr (inl same)) = inr (ap (contains nat_cmp new) same ∙ noted-has)
      last (inr (inr none)) = absurd none

      by : (b : Bool) → waiting ≡ cond b waited (waited ++ grant.previous ∷ []) → In t waited ⊎ (contains nat_cmp new t ≡ true)
      by true is = inl (subst (In t) is at)
      by false is = last (In-append t waited (grant.previous ∷ []) (subst (In t) is at))

  noted-fewer : (all : List Grant) → In grant all → unseen new all + length waiting ≤ unseen old all + length waited
  noted-fewer all at = by (contains nat_cmp old grant.previous) refl p.waits
    where
      one_more : length (waited ++ grant.previous ∷ []) ≡ length waited + 1
      one_more = length-append waited (grant.previous ∷ [])

      by : (b : Bool) → contains nat_cmp old grant.previous ≡ b →
          waiting ≡ cond b waited (waited ++ grant.previous ∷ []) →
          unseen new all + length waiting ≤ unseen old all + length waited
      by true e is = let long : length waiting ≡ length waited = ap length is in omega (arith, long, unseen-kept old new all noted-kept)
      by false e is = let long : length waiting ≡ length waited + 1 =
          ap length is ∙ one_more in omega (arith, long, unseen-less old new all grant noted-kept at e noted-has)

-- one grant that holds the point
pub follows_one : (table key : ℕ) (old new : BTreeSet ℕ) (waited waiting : List ℕ) (grant : Grant) →
    in_range grant.range table key ≡ true → NotesTerm old new waited waiting grant.previous →
    Follows table key (grant ∷ []) old new waited waiting
follows_one table key old new waited waiting grant holds p = record {
  kept = noted-kept old new waited waiting grant p;
  noted = noted;
  from = λ t e. from t (noted-from old new waited waiting grant p t e);
  waits = noted-waits old new waited waiting grant p;
  waits_new = λ t e. waits_new t (noted-from old new waited waiting grant p t e);
  waits_from = noted-waits_from old new waited waiting grant p;
  fewer = λ all each. noted-fewer old new waited waiting grant p all (each grant (inl refl));
}
  where
    noted : (other : Grant) → In other (grant ∷ []) → in_range other.range table key ≡ true → contains nat_cmp new other.previous ≡ true
    noted other (inl same) h = ap (λ (g : Grant). contains nat_cmp new g.previous) same ∙ noted-has old new waited waiting grant p
    noted other (inr none) h = absurd none

    from : (t : ℕ) → (grant.previous ≡ t) ⊎ (contains nat_cmp old t ≡ true) →
        (contains nat_cmp old t ≡ true) ⊎ IsStep table key (grant ∷ []) t
    from t (inl same) = inr (record { grant = grant; among = inl refl; holds = holds; is = same })
    from t (inr was) = inl was

    waits_new : (t : ℕ) → (grant.previous ≡ t) ⊎ (contains nat_cmp old t ≡ true) → (contains nat_cmp old t ≡ true) ⊎ In t waiting
    waits_new t (inl same) = noted-waits_new old new waited waiting grant p t same
    waits_new t (inr was) = inl was

-- some grants, and then others
pub follows_both : (table key : ℕ) (one other : List Grant) (old mid new : BTreeSet ℕ) (waited between waiting : List ℕ) →
    Follows table key one old mid waited between → Follows table key other mid new between waiting →
    Follows table key (one ++ other) old new waited waiting
follows_both table key one other old mid new waited between waiting p q = record {
  kept = λ t e. q.kept t (p.kept t e);
  noted = λ grant at h. noted grant h (In-append grant one other at);
  from = λ t e. from t (q.from t e);
  waits = λ t at. q.waits t (p.waits t at);
  waits_new = λ t e. waits_new t (q.waits_new t e);
  waits_from = λ t at. waits_from t (q.waits_from t at);
  fewer = λ all each. omega (
    arith,
    p.fewer all (λ grant at. each grant (In-left grant one other at)),
    q.fewer all (λ grant at. each grant (In-right grant one other at)),
  );
}
  where
    noted : (grant : Grant) → in_range grant.range table key ≡ true → In grant one ⊎ In grant other →
        contains nat_cmp new grant.previous ≡ true
    noted grant h (inl at) = q.kept grant.previous (p.noted grant at h)
    noted grant h (inr at) = q.noted grant at h

    from_one : (t : ℕ) → (contains nat_cmp old t ≡ true) ⊎ IsStep table key one t →
        (contains nat_cmp old t ≡ true) ⊎ IsStep table key (one ++ other) t
    from_one t (inl was) = inl was
    from_one t (inr step) = inr
        (record {
          grant = step.grant;
          among = In-left step.grant one other step.among;
          holds = step.holds;
          is = step.is;
        })

    from : (t : ℕ) → (contains nat_cmp mid t ≡ true) ⊎ IsStep table key other t →
        (contains nat_cmp old t ≡ true) ⊎ IsStep table key (one ++ other) t
    from t (inl was) = from_one t (p.from t was)
    from t (inr step) = inr (record {
      grant = step.grant;
      among = In-right step.grant one other step.among;
      holds = step.holds;
      is = step.is;
    })

    waits_one : (t : ℕ) → (contains nat_cmp old t ≡ true) ⊎ In t between → (contains nat_cmp old t ≡ true) ⊎ In t waiting
    waits_one t (inl was) = inl was
    waits_one t (inr at) = inr (q.waits t at)

    waits_new : (t : ℕ) → (contains nat_cmp mid t ≡ true) ⊎ In t waiting → (contains nat_cmp old t ≡ true) ⊎ In t waiting
    waits_new t (inl was) = waits_one t (p.waits_new t was)
    waits_new t (inr at) = inr at

    from_between : (t : ℕ) → In t waited ⊎ (contains nat_cmp mid t ≡ true) → In t waited ⊎ (contains nat_cmp new t ≡ true)
    from_between t (inl at) = inl at
    from_between t (inr e) = inr (q.kept t e)

    waits_from : (t : ℕ) → In t between ⊎ (contains nat_cmp new t ≡ true) → In t waited ⊎ (contains nat_cmp new t ≡ true)
    waits_from t (inl at) = from_between t (p.waits_from t at)
    waits_from t (inr e) = inr e

-- the next of the grants
pub follows_more : (table key : ℕ) (grants : List Grant) (i : ℕ) (grant : Grant) (old mid new : BTreeSet ℕ)
    (waited between waiting : List ℕ) → i < length grants →
    Follows table key (take i grants) old mid waited between →
    Follows table key (get_or grants i grant ∷ []) mid new between waiting →
    Follows table key (take (i + 1) grants) old new waited waiting
follows_more table key grants i grant old mid new waited between waiting within p q =
    subst (λ xs. Follows table key xs old new waited waiting) (sym (take_more grants i grant within))
    (follows_both table key (take i grants) (get_or grants i grant ∷ []) old mid new waited between waiting p q)

-- All grants that a table has

abbrev pub all_in : List (ℕ × TermGrants) → List Grant
all_in [] = []
all_in (entry ∷ entries) = entry.1.grants.items ++ all_in entries

pub among_all : (entries : List (ℕ × TermGrants)) (term : ℕ) (grant : Grant) →
    In grant (grants_in (lookup (is_at (nat_cmp term)) entries)) → In grant (all_in entries)
among_all [] term grant at = absurd at
among_all (entry ∷ entries) term grant at = by (is_at (nat_cmp term) entry.0) (among_all entries term grant) at
  where
    by : (b : Bool) → (In grant (grants_in (lookup (is_at (nat_cmp term)) entries)) → In grant (all_in entries)) →
        In grant (grants_in (cond b (Some entry.1) (lookup (is_at (nat_cmp term)) entries))) →
        In grant (all_in (entry ∷ entries))
    by true later here = In-left grant entry.1.grants.items (all_in entries) here
    by false later there = In-right grant entry.1.grants.items (all_in entries) (later there)

-- The search

-- all steps back from this term are noted
abbrev pub IsClosed : BTreeMap ℕ TermGrants → ℕ → ℕ → BTreeSet ℕ → ℕ → Type 0
IsClosed grants table key before t = (grant : Grant) → In grant (grants_at grants t) →
    in_range grant.range table key ≡ true → contains nat_cmp before grant.previous ≡ true

-- what is noted comes before the term, and of each that is noted, and of the term itself, all steps back are noted, or it waits
pub record Searches (grants : BTreeMap ℕ TermGrants) (table key term : ℕ) (before : BTreeSet ℕ) (waiting : List ℕ) : Type 0 where
  pub sound : (sent : List Message) → AreGrants grants sent → (t : ℕ) → contains nat_cmp before t ≡ true → IsEarlier sent table key t term
  pub waits : (t : ℕ) → In t waiting → (t ≡ term) ⊎ (contains nat_cmp before t ≡ true)
  pub closed : (t : ℕ) → (t ≡ term) ⊎ (contains nat_cmp before t ≡ true) → In t waiting ⊎ IsClosed grants table key before t

-- a term that waited is gone over
pub search_goes_on : (grants : BTreeMap ℕ TermGrants) (table key term : ℕ) (old new : BTreeSet ℕ)
    (waited rest waiting : List ℕ) (later : ℕ) → waited ≡ rest ++ later ∷ [] →
    Searches grants table key term old waited → Follows table key (grants_at grants later) old new rest waiting →
    Searches grants table key term new waiting
search_goes_on grants table key term old new waited rest waiting later split p q = record {
  sound = λ sent are t e. sound sent are t (q.from t e);
  waits = λ t at. waits t (q.waits_from t at);
  closed = λ t either_. closed t either_;
}
  where
    in_waited : (t : ℕ) → In t rest → In t waited
    in_waited t at = subst (In t) (sym split) (In-left t rest (later ∷ []) at)

    later_waits : (later ≡ term) ⊎ (contains nat_cmp old later ≡ true)
    later_waits = p.waits later (subst (In later) (sym split) (In-right later rest (later ∷ []) (inl refl)))

    back : (sent : List Message) → AreGrants grants sent → (t : ℕ) → IsBefore (grants_of sent table key) t later →
        (later ≡ term) ⊎ (contains nat_cmp old later ≡ true) → IsEarlier sent table key t term
    back sent are t step (inl same) = subst (λ x. IsBefore (grants_of sent table key) t x) same step
    back sent are t step (inr e) = before-through step (p.sound sent are later e)

    sound : (sent : List Message) → AreGrants grants sent → (t : ℕ) →
        (contains nat_cmp old t ≡ true) ⊎ IsStep table key (grants_at grants later) t → IsEarlier sent table key t term
    sound sent are t (inl was) = p.sound sent are t was
    sound sent are t (inr step) = back sent are t (subst (λ x. IsBefore (grants_of sent table key) x later) step.is
        (step_back grants sent are later table key step.grant step.among step.holds)) later_waits

    kept : (t : ℕ) → (t ≡ term) ⊎ (contains nat_cmp old t ≡ true) → (t ≡ term) ⊎ (contains nat_cmp new t ≡ true)
    kept t (inl same) = inl same
    kept t (inr e) = inr (q.kept t e)

    waits : (t : ℕ) → In t rest ⊎ (contains nat_cmp new t ≡ true) → (t ≡ term) ⊎ (contains nat_cmp new t ≡ true)
    waits t (inl at) = kept t (p.waits t (in_waited t at))
    waits t (inr e) = inr e

    last : (t : ℕ) → In t rest ⊎ In t (later ∷ []) → In t waiting ⊎ IsClosed grants table key new t
    last t (inl at) = inl (q.waits t at)
    last t (inr (inl same)) = inr (λ grant at h. q.noted grant (subst (λ x. In grant (grants_at grants x)) same at) h)
    last t (inr (inr none)) = absurd none

    stays : (t : ℕ) → In t waited ⊎ IsClosed grants table key old t → In t waiting ⊎ IsClosed grants table key new t
    stays t (inl at) = last t (In-append t rest (later ∷ []) (subst (In t) split at))
    stays t (inr done) = inr (λ grant at h. q.kept grant.previous (done grant at h))

    new_one : (t : ℕ) → (contains nat_cmp old t ≡ true) ⊎ In t waiting → In t waiting ⊎ IsClosed grants table key new t
    new_one t (inl was) = stays t (p.closed t (inr was))
    new_one t (inr at) = inl at

    closed : (t : ℕ) → (t ≡ term) ⊎ (contains nat_cmp new t ≡ true) → In t waiting ⊎ IsClosed grants table key new t
    closed t (inl same) = stays t (p.closed t (inl same))
    closed t (inr e) = new_one t (q.waits_new t e)

-- what comes before a term whose steps back are noted, and all of whose steps are, is noted
reached : (grants : BTreeMap ℕ TermGrants) (sent : List Message) (table key term : ℕ) (before : BTreeSet ℕ) → AreGrants grants sent →
    ((t : ℕ) → (t ≡ term) ⊎ (contains nat_cmp before t ≡ true) → IsClosed grants table key before t) →
    (earlier later : ℕ) → IsBefore (grants_of sent table key) earlier later →
    (later ≡ term) ⊎ (contains nat_cmp before later ≡ true) → contains nat_cmp before earlier ≡ true
reached grants sent table key term before are closed earlier later (previous k grant at) from =
    let found = granted_at grants sent are table key k grant at in closed grant.term from (grant_of grant) found.0 found.1
reached grants sent table key term before are closed earlier later (onward _ k grant at rest) from =
    let found = granted_at grants sent are table key k grant at in
    reached grants sent table key term before are closed earlier grant.previous rest
    (inr (closed grant.term from (grant_of grant) found.0 found.1))

-- when none waits, all is noted
pub search_ends : (grants : BTreeMap ℕ TermGrants) (table key term : ℕ) (before : BTreeSet ℕ) (waiting : List ℕ) →
    waiting ≡ [] → Searches grants table key term before waiting →
    (sent : List Message) → AreGrants grants sent → AreEarlier before sent table key term
search_ends grants table key term before waiting empty p sent are =
    record { each = λ t. same t (contains nat_cmp before t) (is_earlier sent table key t term) (there t) (here t) }
  where
    done : (t : ℕ) → In t waiting ⊎ IsClosed grants table key before t → IsClosed grants table key before t
    done t (inl at) = absurd (subst (In t) empty at)
    done t (inr closed) = closed

    there : (t : ℕ) → contains nat_cmp before t ≡ true → is_earlier sent table key t term ≡ true
    there t e = is_before-found (grants_of sent table key) (p.sound sent are t e)

    here : (t : ℕ) → is_earlier sent table key t term ≡ true → contains nat_cmp before t ≡ true
    here t e = reached grants sent table key term before are (λ x either_. done x (p.closed x either_)) t term
        (is_before-finds (grants_of sent table key) e) (inl refl)

    same : (t : ℕ) (a b : Bool) → (a ≡ true → b ≡ true) → (b ≡ true → a ≡ true) → a ≡ b
    same t true b f g = sym (f refl)
    same t false true f g = g refl
    same t false false f g = refl

-- a search comes nearer to its end with each term that is gone over
pub search_shrinks : (grants : BTreeMap ℕ TermGrants) (table key : ℕ) (old new : BTreeSet ℕ)
    (waited rest waiting : List ℕ) (later : ℕ) → waited ≡ rest ++ later ∷ [] →
    Follows table key (grants_at grants later) old new rest waiting →
    unseen new (all_in grants.entries) + length waiting < unseen old (all_in grants.entries) + length waited
search_shrinks grants table key old new waited rest waiting later split q =
    let long : length waited ≡ length (rest ++ later ∷ []) = ap length split in
    let one : length (rest ++ later ∷ []) ≡ length rest + 1 = length-append rest (later ∷ []) in
    omega (arith, long, one, q.fewer (all_in grants.entries) (λ grant at. among_all grants.entries later grant at))

-- a list of which a pop took nothing
pub none_left : (old new : List ℕ) (n : ℕ) → n ≡ 0 → new ≡ take (n - 1) old → old ≡ new ++ [] → old ≡ []
none_left old new n none rest items = items ∙ ap (λ xs. xs ++ []) (rest ∙ ap (λ k. take (k - 1) old) none)
