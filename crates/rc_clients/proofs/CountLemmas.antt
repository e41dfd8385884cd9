-- More versions than writes: so two of them would have one.
use Rattle.std.proofs.Common.{◌≡◌, ◌≢◌, ◌⊎◌, ◌∙◌, ℕ, ◌+◌, ◌<◌, ◌≤◌, Some, List, [], ◌∷◌, length, refl, sym, ap, subst, inl, inr, arith}
use Rattle.rc_clients.specs.declared.events.ClientEvent.{ClientEvent}
use Rattle.rc_clients.specs.declared.events.ClientEvent.TheVariants.{Invoked}
use Rattle.rc_clients.specs.declared.events.Request.TheVariants as request
use Rattle.rc_clients.specs.declared.operations.Operation.{Operation}
use Rattle.rc_clients.specs.Operations.{value_of, IsOperation}
use Rattle.rc_clients.specs.Linearizable.{AreWanting, HasWrite, IsAmong, IsLinearizable, IsPendingWrite, IsTooMany}
use Rattle.rc_clients.specs.Linearizable.{IsWanting, WasWritten}

-- this number is one of those
abbrev IsIn : ℕ → List ℕ → Type 0
IsIn n [] = ⊥
IsIn n (m ∷ others) = (m ≡ n) ⊎ IsIn n others

abbrev AreDifferent : List ℕ → Type 0
AreDifferent [] = Unit {0}
AreDifferent (n ∷ others) = (IsIn n others → ⊥) × AreDifferent others

-- without one pair of this moment
record IsWithout (moment : ℕ) (others : List (Operation × ℕ)) : Type 0 where
  rest : List (Operation × ℕ)
  fewer : length rest + 1 ≡ length others
  kept : (n : ℕ) → IsAmong n others → (n ≡ moment → ⊥) → IsAmong n rest

without_more : {moment : ℕ} {one : Operation × ℕ} {others : List (Operation × ℕ)} → IsWithout moment others →
    IsWithout moment (one ∷ others)
without_more {moment} {one} {others} less = record {
  rest = one ∷ less.rest;
  fewer = let f = less.fewer in omega (arith, f);
  kept = λ n at differ. kept n at differ;
}
  where
    kept : (n : ℕ) → IsAmong n (one ∷ others) → (n ≡ moment → ⊥) → IsAmong n (one ∷ less.rest)
    kept n (inl f) differ = inl f
    kept n (inr i) differ = inr (less.kept n i differ)

without_first : {moment : ℕ} {one : Operation × ℕ} {others : List (Operation × ℕ)} → one.1 ≡ moment →
    IsWithout moment (one ∷ others)
without_first {moment} {one} {others} e = record {
  rest = others;
  fewer = omega arith;
  kept = λ n at differ. kept n at differ;
}
  where
    kept : (n : ℕ) → IsAmong n (one ∷ others) → (n ≡ moment → ⊥) → IsAmong n others
    kept n (inl f) differ = absurd (differ (sym f ∙ e))
    kept n (inr h) differ = h

without : {moment : ℕ} (others : List (Operation × ℕ)) → IsAmong moment others → IsWithout moment others
without [] h = absurd h
without (one ∷ others) (inl e) = without_first e
without (one ∷ others) (inr h) = without_more (without others h)

-- different numbers that are all among those are no more than those
fewer : (xs : List ℕ) (others : List (Operation × ℕ)) → AreDifferent xs → ((n : ℕ) → IsIn n xs → IsAmong n others) →
    length xs ≤ length others
fewer [] others differ among = omega arith
fewer (x ∷ xs) others differ among =
    let less = without others (among x (inl refl)) in
    let h = fewer xs less.rest differ.1 (λ n at. less.kept n (among n (inr at))
    (λ e. differ.0 (subst (λ k. IsIn k xs) e at))) in
    let f = less.fewer in omega (arith, h, f)

-- the writes of versions that want one
record HasWrites (history : List ClientEvent) (op : Operation) (got : ℕ → ℕ) (version : ℕ) (many : ℕ) : Type 0 where
  writes : List ℕ
  as_many : length writes ≡ many
  different : AreDifferent writes
  of_lower : (n : ℕ) → IsIn n writes → got n < version
  pending : (n : ℕ) → IsIn n writes → IsPendingWrite history op n

one_more : {history : List ClientEvent} {op : Operation} (good : IsLinearizable history) {version : ℕ}
    (one : Operation × ℕ) (others : List (Operation × ℕ)) → version ≤ op.version →
    IsWanting history op.table op.key (value_of history op) version one.0 →
    HasWrites history op good.got one.0.version (length others) →
    HasWrites history op good.got version (length (one ∷ others))
one_more {history} {op} good {version} one others under want more = by (good.written one.0 want.is want.later)
  where
    low : one.0.version < version
    low = want.below

    serves : (n : ℕ) → IsPendingWrite history one.0 n → IsPendingWrite history op n
    serves n p = record {
      invoked = p.invoked ∙ ap (λ t. Some (Invoked t one.0.key (request.Write (value_of history one.0)))) want.table_is
          ∙ ap (λ k. Some (Invoked op.table k (request.Write (value_of history one.0)))) want.key_is
          ∙ ap (λ v. Some (Invoked op.table op.key (request.Write v))) want.value_is;
      unanswered = p.unanswered;
      in_time = λ a is on early.
          let h = p.in_time a is (record { table_is = on.table_is ∙ sym want.table_is; key_is = on.key_is ∙ sym want.key_is }) early in
          omega (arith, h, low, under);
    }

    by : WasWritten history good.got one.0 → HasWrites history op good.got version (length (one ∷ others))
    by (inl h) = absurd (want.unwritten h)
    by (inr (m, p, e)) = record {
      writes = m ∷ more.writes;
      as_many = let h = more.as_many in omega (arith, h);
      different = (λ at. let h = more.of_lower m at in omega (arith, h, e), more.different);
      of_lower = λ n at. lower n at;
      pending = λ n at. is_pending n at;
    }
      where
        lower : (n : ℕ) → IsIn n (m ∷ more.writes) → good.got n < version
        lower n (inl f) = subst (λ k. good.got k < version) f (omega (arith, e, low))
        lower n (inr at) = let h = more.of_lower n at in omega (arith, h, low)

        is_pending : (n : ℕ) → IsIn n (m ∷ more.writes) → IsPendingWrite history op n
        is_pending n (inl f) = subst (IsPendingWrite history op) f (serves m p)
        is_pending n (inr at) = more.pending n at

writes_of : {history : List ClientEvent} {op : Operation} (good : IsLinearizable history) {version : ℕ}
    (others : List (Operation × ℕ)) → version ≤ op.version →
    AreWanting history op.table op.key (value_of history op) version others →
    HasWrites history op good.got version (length others)
writes_of good [] under wanting = record {
  writes = [];
  as_many = refl;
  different = tt;
  of_lower = λ n at. absurd at;
  pending = λ n at. absurd at;
}
writes_of good (one ∷ others) under wanting = one_more good one others under wanting.0
    (writes_of good others (let low = wanting.0.below in omega (arith, low, under)) wanting.1)

pub too_many : {history : List ClientEvent} {op : Operation} {others : List (Operation × ℕ)} → IsOperation history op →
    op.version ≢ 0 → (HasWrite history op → ⊥) → IsTooMany history op others → IsLinearizable history → ⊥
too_many {history} {op} {others} is later unwritten many good = by (good.written op is later)
  where
    below : HasWrites history op good.got op.version (length others)
    below = writes_of good others (omega arith) many.wanting

    by : WasWritten history good.got op → ⊥
    by (inl h) = unwritten h
    by (inr (m, p, e)) =
        let h = fewer (m ∷ below.writes) others
        (λ at. let h = below.of_lower m at in omega (arith, h, e), below.different) among in
        let f = below.as_many in omega (arith, h, f)
      where
        among : (n : ℕ) → IsIn n (m ∷ below.writes) → IsAmong n others
        among n (inl f) = subst (λ k. IsAmong k others) f (many.no_more m p)
        among n (inr at) = many.no_more n (below.pending n at)
