-- Writes without a response, each with the next of its value, with one event more.
use Rattle.std.proofs.Common.{◌≡◌, ◌⊎◌, ◌∙◌, ℕ, ◌+◌, ◌<◌, ◌≤◌, Bool, true, false, cond, List, [], length}
use Rattle.std.proofs.Common.{Option, Some, None, refl, sym, ap, subst, inl, inr, true≢false, arith}
use Rattle.std.specs.Prelude.{nat_lt}
use Rattle.std.specs.Ordering.{nat_cmp, is_eq}
use Rattle.std.specs.BTreeMap.{BTreeMap, get, is_at}
use Rattle.std.proofs.lemmas.Bool.Decides.{nat_tests}
use Rattle.std.proofs.lemmas.Option.{slice_get_within}
use Rattle.rc_clients.specs.declared.events.ClientEvent.{ClientEvent}
use Rattle.rc_clients.specs.declared.pending.ValueName.{ValueName}
use Rattle.rc_clients.specs.Pending.{AreChains, IsFirst, IsPendingOf, value_order}
use Rattle.rc_clients.proofs.Facts.{get_empty, number_itself, numbers_same}
use Rattle.rc_clients.proofs.PendingLemmas.{alike_at, both_at, get_alike, moved, same_value}

-- from a moment on: at it, or later
pub level : {m k : ℕ} → m ≤ k → (m ≡ k) ⊎ (m + 1 ≤ k)
level {m} {k} h = by (nat_lt m k) refl
  where
    by : (b : Bool) → nat_lt m k ≡ b → (m ≡ k) ⊎ (m + 1 ≤ k)
    by true e = inr (grind (arith, nat_tests))
    by false e = inl (grind (arith, nat_tests))

pub chains_begin : {history : List ClientEvent} {heads : BTreeMap ValueName ℕ} {nexts : BTreeMap ℕ (Option ℕ)} →
    heads.entries ≡ [] → AreChains history (length history) heads nexts
chains_begin {history} {heads} e = record {
  first = λ q. subst (IsFirst history q (length history)) (sym (get_empty value_order heads q e)) (λ k p h. none q k p h);
  next = λ q i h p. absurd (none q i p h);
}
  where
    none : (q : ValueName) (k : ℕ) → IsPendingOf history q k → length history ≤ k → ⊥
    none q k p h = let there : k < length history = slice_get_within history k _ p.invoked in omega (arith, h, there)

first_down : {history : List ClientEvent} {q : ValueName} {m : ℕ} (o : Option ℕ) → (IsPendingOf history q m → ⊥) →
    IsFirst history q (m + 1) o → IsFirst history q m o
first_down {history} {q} {m} None none first = λ k p h. by k p (level h)
  where
    by : (k : ℕ) → IsPendingOf history q k → (m ≡ k) ⊎ (m + 1 ≤ k) → ⊥
    by k p (inl e) = none (subst (IsPendingOf history q) (sym e) p)
    by k p (inr h) = first k p h
first_down {history} {q} {m} (Some f) none first =
    (first.0, (let h = first.1 in omega (arith, h)), λ k p h. by k p (level h))
  where
    by : (k : ℕ) → IsPendingOf history q k → (m ≡ k) ⊎ (m + 1 ≤ k) → f ≤ k
    by k p (inl e) = absurd (none (subst (IsPendingOf history q) (sym e) p))
    by k p (inr h) = first.2 k p h

pub chains_skip : {history : List ClientEvent} {m : ℕ} {heads : BTreeMap ValueName ℕ} {nexts : BTreeMap ℕ (Option ℕ)} →
    ((q : ValueName) → IsPendingOf history q m → ⊥) → AreChains history (m + 1) heads nexts → AreChains history m heads nexts
chains_skip {history} {m} {heads} {nexts} none was = record {
  first = λ q. first_down (get value_order heads q) (none q) (was.first q);
  next = λ q i h p. by q i p (level h);
}
  where
    by : (q : ValueName) (i : ℕ) → IsPendingOf history q i → (m ≡ i) ⊎ (m + 1 ≤ i) →
        (o : Option ℕ) × (get nat_cmp nexts i ≡ Some o) × IsFirst history q (i + 1) o
    by q i p (inl e) = absurd (none q (subst (IsPendingOf history q) (sym e) p))
    by q i p (inr h) = was.next q i h p

pub chains_more : {history : List ClientEvent} {m : ℕ} {heads heads' : BTreeMap ValueName ℕ}
    {nexts nexts' : BTreeMap ℕ (Option ℕ)} {name : ValueName} → IsPendingOf history name m →
    AreChains history (m + 1) heads nexts →
    ((q : ValueName) → get value_order heads' q ≡ cond (is_at (value_order name) q) (Some m) (get value_order heads q)) →
    ((i : ℕ) → get nat_cmp nexts' i ≡ cond (is_at (nat_cmp m) i) (Some (get value_order heads name)) (get nat_cmp nexts i)) →
    AreChains history m heads' nexts'
chains_more {history} {m} {heads} {nexts} {nexts'} {name} is was headed followed = record {
  first = λ q. subst (IsFirst history q m) (sym (headed q)) (first q (is_at (value_order name) q) refl);
  next = λ q i h p. next q i p (level h);
}
  where
    none : (q : ValueName) → is_at (value_order name) q ≡ false → IsPendingOf history q m → ⊥
    none q e p = true≢false (sym (alike_at (both_at is p)) ∙ e)

    first : (q : ValueName) (b : Bool) → is_at (value_order name) q ≡ b →
        IsFirst history q m (cond b (Some m) (get value_order heads q))
    first q true e = (moved (same_value e) is, omega arith, λ k p h. h)
    first q false e = first_down (get value_order heads q) (none q e) (was.first q)

    next : (q : ValueName) (i : ℕ) → IsPendingOf history q i → (m ≡ i) ⊎ (m + 1 ≤ i) →
        (o : Option ℕ) × (get nat_cmp nexts' i ≡ Some o) × IsFirst history q (i + 1) o
    next q i p (inl e) = (
      get value_order heads name,
      followed i ∙ ap (λ b. cond b (Some (get value_order heads name)) (get nat_cmp nexts i))
          (ap is_eq (ap (nat_cmp m) (sym e) ∙ number_itself m)),
      subst (IsFirst history q (i + 1)) (sym (get_alike heads (both_at is (subst (IsPendingOf history q) (sym e) p))))
          (subst (λ n. IsFirst history q (n + 1) (get value_order heads q)) e (was.first q)),
    )
    next q i p (inr h) =
        let old = was.next q i h p in (
          old.0,
          followed i ∙ ap (λ b. cond b (Some (get value_order heads name)) (get nat_cmp nexts i)) (other (is_at (nat_cmp m) i) refl)
              ∙ old.1,
          old.2,
        )
      where
        other : (b : Bool) → is_at (nat_cmp m) i ≡ b → is_at (nat_cmp m) i ≡ false
        other false e = e
        other true e = let same : m ≡ i = numbers_same e in absurd (omega (arith, same, h))
