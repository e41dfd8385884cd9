-- Versions and pending writes, one after another.
use Rattle.std.proofs.Common.{◌≡◌, ◌≢◌, ◌⊎◌, ◌∙◌, ℕ, ◌+◌, ◌<◌, ◌≤◌, Bool, true, false, cond, List, [], ◌∷◌, length}
use Rattle.std.proofs.Common.{Option, Some, None, unwrap_or, refl, sym, ap, subst, inl, inr, arith}
use Rattle.std.specs.Prelude.{nat_lt, option_and_then}
use Rattle.std.specs.declared.cmp.Ordering.TheVariants.{Less}
use Rattle.std.specs.Ordering.{nat_cmp, ordering_then, is_eq, is_lt}
use Rattle.std.specs.List.{All, AllByRecursion}
use Rattle.std.specs.List.Sorted.{IsStrictlySortedBy}
use Rattle.std.specs.Map.{keys_of, lookup}
use Rattle.std.specs.BTreeMap.{BTreeMap, get, is_at}
use Rattle.std.proofs.lemmas.Bool.Decides.{nat_tests}
use Rattle.std.proofs.lemmas.List.Elements.{All-cons, All-head, All-nil, All-tail}
use Rattle.std.proofs.lemmas.Map.Keys.{sorted_head, sorted_tail}
use Rattle.rc_clients.specs.declared.events.ClientEvent.{ClientEvent}
use Rattle.rc_clients.specs.declared.events.ClientEvent.TheVariants.{Invoked}
use Rattle.rc_clients.specs.declared.events.Request.TheVariants as request
use Rattle.rc_clients.specs.declared.operations.Operation.{Operation}
use Rattle.rc_clients.specs.declared.bars.Top.{Top}
use Rattle.rc_clients.specs.declared.doubled.VersionName.{VersionName}
use Rattle.rc_clients.specs.declared.judging.Violation.TheVariants as violation
use Rattle.rc_clients.specs.declared.pending.ValueName.{ValueName}
use Rattle.rc_clients.specs.Operations.{value_of, IsOperation}
use Rattle.rc_clients.specs.Linearizable.{AreWanting, Breaks, HasWrite, IsAmong, IsPendingWrite}
use Rattle.rc_clients.specs.Linearizable.{WasWritten}
use Rattle.rc_clients.specs.Evidence.{AreBars, AreFirsts, HasChoice, bar_at, is_at_least, version_of, version_order}
use Rattle.rc_clients.specs.Pending.{AreChains, IsFirst, IsPendingOf, bytes_in, next_at, value_order}
use Rattle.rc_clients.specs.Matching.{AreMatched, AreUsed, IsSettled, IsUsed, first_write}
use Rattle.rc_clients.proofs.Facts.{below, number_itself, numbers_same, within}
use Rattle.rc_clients.proofs.PendingLemmas.{AreAlike, alike_at, asked, both_at, get_alike, moved, no_some, same_value, serves, too_late}
use Rattle.rc_clients.proofs.VersionLemmas.{same_version}

abbrev Entry : Type 0
Entry = VersionName × Operation

abbrev IsNamed : List ClientEvent → Entry → Type 0
IsNamed history e = IsOperation history e.1 × (version_of e.1 ≡ e.0)

abbrev IsAbove : ValueName → ℕ → Entry → Type 0
IsAbove q top e = e.0.table ≡ q.table → e.0.key ≡ q.key → top ≤ e.0.version

-- The beginning

pub matched_begin : {history : List ClientEvent} {firsts : BTreeMap VersionName Operation} {heads : BTreeMap ValueName ℕ}
    {nexts : BTreeMap ℕ (Option ℕ)} {left : List Entry} → AreChains history 0 heads nexts →
    AreFirsts history (length history) firsts → left ≡ firsts.entries →
    IsStrictlySortedBy version_order (keys_of firsts.entries) →
    All (λ (e : Entry). get version_order firsts e.0 ≡ Some e.1) firsts.entries → AreMatched history firsts heads left
matched_begin {history} chains are whole rising found = record {
  got = λ m. 0;
  settled = λ a is later. inr (ap (lookup (is_at (version_order (version_of a)))) whole);
  each = λ q. record {
    from = 0;
    top = 0;
    others = [];
    first = chains.first q;
    wanting = tt;
    used = λ k p h. absurd (no k h);
    above = λ k d h table key. omega arith;
  };
  named = subst (All (IsNamed history)) (sym whole) (λ k d h. let f = are.found _ _ (found k d h) in (f.0, f.1));
  rising = subst (λ es. IsStrictlySortedBy version_order (keys_of es)) (sym whole) rising;
}
  where
    no : (n : ℕ) → n < 0 → ⊥
    no n h = omega (arith, h)

-- An entry of which all operations have an answered write

left_still : (firsts : BTreeMap VersionName Operation) (a : Operation) (e : Entry) (left : List Entry) →
    is_at (version_order (version_of a)) e.0 ≡ false →
    lookup (is_at (version_order (version_of a))) (e ∷ left) ≡ get version_order firsts (version_of a) →
    lookup (is_at (version_order (version_of a))) left ≡ get version_order firsts (version_of a)
left_still firsts a e left other h =
    sym (ap (λ b. cond b (Some e.1) (lookup (is_at (version_order (version_of a))) left)) other) ∙ h

pub matched_skip : {history : List ClientEvent} {firsts : BTreeMap VersionName Operation} {heads : BTreeMap ValueName ℕ}
    {e : Entry} {left : List Entry} →
    ((a : Operation) → IsOperation history a → version_of a ≡ e.0 → a.version ≢ 0 → HasWrite history a) →
    AreMatched history firsts heads (e ∷ left) → AreMatched history firsts heads left
matched_skip {history} {firsts} {heads} {e} {left} written was = record {
  got = was.got;
  settled = λ a is later. by a is later (is_at (version_order (version_of a)) e.0) refl (was.settled a is later);
  each = λ q. let u = was.each q in record {
    from = u.from;
    top = u.top;
    others = u.others;
    first = u.first;
    wanting = u.wanting;
    used = u.used;
    above = All-tail (IsAbove q u.top) e left u.above;
  };
  named = All-tail (IsNamed history) e left was.named;
  rising = sorted_tail version_order e.0 (keys_of left) was.rising;
}
  where
    by : (a : Operation) → IsOperation history a → a.version ≢ 0 → (b : Bool) →
        is_at (version_order (version_of a)) e.0 ≡ b → IsSettled history heads was.got a
        ⊎ (lookup (is_at (version_order (version_of a))) (e ∷ left) ≡ get version_order firsts (version_of a)) →
        IsSettled history heads was.got a
        ⊎ (lookup (is_at (version_order (version_of a))) left ≡ get version_order firsts (version_of a))
    by a is later b at (inl h) = inl h
    by a is later true at (inr h) = inl (inl (written a is (same_version at) later))
    by a is later false at (inr h) = inr (left_still firsts a e left at h)

-- one of version 0 wants none
pub zero_skips : {history : List ClientEvent} {firsts : BTreeMap VersionName Operation} {heads : BTreeMap ValueName ℕ}
    {e : Entry} {left : List Entry} → e.1.version ≡ 0 → AreMatched history firsts heads (e ∷ left) →
    AreMatched history firsts heads left
zero_skips {history} {e} {left} zero was = matched_skip
    (λ a is same later. absurd (later (ap (λ (v : VersionName). v.version) (same ∙ sym named.1) ∙ zero))) was
  where
    named : IsNamed history e
    named = All-head (IsNamed history) e left was.named

-- one with an answered write has one
pub written_skips : {history : List ClientEvent} {firsts : BTreeMap VersionName Operation} {heads : BTreeMap ValueName ℕ}
    {e : Entry} {left : List Entry} → HasWrite history e.1 → AreMatched history firsts heads (e ∷ left) →
    AreMatched history firsts heads left
written_skips {history} {e} {left} (write, h) was = matched_skip written was
  where
    named : IsNamed history e
    named = All-head (IsNamed history) e left was.named

    written : (a : Operation) → IsOperation history a → version_of a ≡ e.0 → a.version ≢ 0 → HasWrite history a
    written a is same later =
        let own : version_of e.1 ≡ version_of a = named.1 ∙ sym same in (
          write,
          record {
            is = h.is;
            on_key = record {
              table_is = h.on_key.table_is ∙ ap (λ (v : VersionName). v.table) own;
              key_is = h.on_key.key_is ∙ ap (λ (v : VersionName). v.key) own;
            };
            kind = h.kind;
            version_is = h.version_is ∙ ap (λ (v : VersionName). v.version) own;
          },
        )

-- An entry that takes a write

lower : {a : VersionName} (b : VersionName) → version_order a b ≡ Less → a.table ≡ b.table →
    a.key ≡ b.key → a.version < b.version
lower {a} b less table key = number (sym versions ∙ less)
  where
    versions : version_order a b ≡ nat_cmp a.version b.version
    versions = ap (λ o. ordering_then o (ordering_then (nat_cmp a.key b.key) (nat_cmp a.version b.version)))
        (ap (nat_cmp a.table) (sym table) ∙ number_itself a.table)
        ∙ ap (λ o. ordering_then o (nat_cmp a.version b.version)) (ap (nat_cmp a.key) (sym key) ∙ number_itself a.key)

    number : nat_cmp a.version b.version ≡ Less → a.version < b.version
    number e = let t : is_lt (nat_cmp a.version b.version) ≡ true = ap is_lt e in grind (arith, nat_tests)

-- a greater version may stand above them
wanting_above : (history : List ClientEvent) (table key : ℕ) (value : Option (List ℕ)) {low high : ℕ}
    (others : List (Operation × ℕ)) → low ≤ high → AreWanting history table key value low others →
    AreWanting history table key value high others
wanting_above history table key value [] under h = tt
wanting_above history table key value (one ∷ others) under h = (
  record {
    is = h.0.is;
    table_is = h.0.table_is;
    key_is = h.0.key_is;
    value_is = h.0.value_is;
    below = let b = h.0.below in omega (arith, b, under);
    later = h.0.later;
    unwritten = h.0.unwritten;
  },
  h.1,
)

-- what has the version of an operation that a write serves is served by it, too
same_served : {history : List ClientEvent} {op a : Operation} {m : ℕ} → version_of a ≡ version_of op →
    value_of history op ≡ value_of history a → IsPendingWrite history op m → IsPendingWrite history a m
same_served {history} {op} {a} same value p = record {
  invoked = p.invoked ∙ ap (λ t. Some (Invoked t op.key (request.Write (value_of history op)))) (sym table)
      ∙ ap (λ k. Some (Invoked a.table k (request.Write (value_of history op)))) (sym key)
      ∙ ap (λ v. Some (Invoked a.table a.key (request.Write v))) value;
  unanswered = p.unanswered;
  in_time = λ b is on early. subst (λ v. b.version < v) (sym version)
      (p.in_time b is (record { table_is = on.table_is ∙ table; key_is = on.key_is ∙ key }) early);
}
  where
    table : a.table ≡ op.table
    table = ap (λ (v : VersionName). v.table) same

    key : a.key ≡ op.key
    key = ap (λ (v : VersionName). v.key) same

    version : a.version ≡ op.version
    version = ap (λ (v : VersionName). v.version) same

module _ (history : List ClientEvent) (firsts : BTreeMap VersionName Operation) (heads heads' first_heads : BTreeMap ValueName ℕ)
    (nexts : BTreeMap ℕ (Option ℕ)) (e : Entry) (left : List Entry) (name : ValueName) (h : ℕ)
    (was : AreMatched history firsts heads (e ∷ left)) (chains : AreChains history 0 first_heads nexts)
    (are : AreFirsts history (length history) firsts) (later : e.1.version ≢ 0) (unwritten : HasWrite history e.1 → ⊥)
    (table : name.table ≡ e.1.table) (key : name.key ≡ e.1.key) (value : bytes_in name ≡ value_of history e.1)
    (head : get value_order heads name ≡ Some h) (served : IsPendingWrite history e.1 h)
    (advanced : (q : ValueName) → get value_order heads' q
    ≡ cond (is_at (value_order name) q) (next_at nexts h) (get value_order heads q)) where
  named : IsNamed history e
  named = All-head (IsNamed history) e left was.named

  is_pending : IsPendingOf history name h
  is_pending = asked table key value served

  -- behind it stands the next of its value
  behind : {q : ValueName} → AreAlike name q → IsFirst history q (h + 1) (next_at nexts h)
  behind {q} alike =
      let there = chains.next q h (omega arith) (moved alike is_pending) in
      subst (IsFirst history q (h + 1)) (sym (ap (option_and_then (λ o. o)) there.1)) there.2

  next_head : (q : ValueName) (i m : ℕ) → is_at (value_order name) q ≡ true → get value_order heads' q ≡ Some i → h + 1 ≤ i
  next_head q i m at got = first.1
    where
      first : IsFirst history q (h + 1) (Some i)
      first = subst (IsFirst history q (h + 1))
          (sym (advanced q ∙ ap (λ b. cond b (next_at nexts h) (get value_order heads q)) at) ∙ got)
          (behind (same_value at))

  other_head : (q : ValueName) → is_at (value_order name) q ≡ false → get value_order heads' q ≡ get value_order heads q
  other_head q at = advanced q ∙ ap (λ b. cond b (next_at nexts h) (get value_order heads q)) at

  now_used : IsUsed history heads' h
  now_used q i got p =
      let n = next_head q i h (alike_at (both_at is_pending p)) got in omega (arith, n)

  still_used : {m : ℕ} → IsUsed history heads m → IsUsed history heads' m
  still_used {m} used q i got p = by (is_at (value_order name) q) refl
    where
      back : AreAlike name q → AreAlike q name
      back a = record { table_is = sym a.table_is; key_is = sym a.key_is; value_is = sym a.value_is }

      by : (b : Bool) → is_at (value_order name) q ≡ b → m < i
      by true at =
          let n = next_head q i m at got in
          let u = used name h head (moved (back (same_value at)) p) in omega (arith, n, u)
      by false at = used q i (sym (other_head q at) ∙ got) p

  got' : ℕ → ℕ
  got' m = cond (is_at (nat_cmp h) m) e.1.version (was.got m)

  settled : (a : Operation) → IsOperation history a → (b : Bool) → is_at (version_order (version_of a)) e.0 ≡ b →
      IsSettled history heads was.got a
      ⊎ (lookup (is_at (version_order (version_of a))) (e ∷ left) ≡ get version_order firsts (version_of a)) →
      IsSettled history heads' got' a
      ⊎ (lookup (is_at (version_order (version_of a))) left ≡ get version_order firsts (version_of a))
  unfolding got'
  settled a is b at (inl (inl w)) = inl (inl w)
  settled a is b at (inl (inr (m, p, g, used))) = inl (inr (m, p, other (is_at (nat_cmp h) m) refl ∙ g, still_used used))
    where
      other : (c : Bool) → is_at (nat_cmp h) m ≡ c → cond (is_at (nat_cmp h) m) e.1.version (was.got m) ≡ was.got m
      other false c = ap (λ d. cond d e.1.version (was.got m)) c
      other true c =
          let same : h ≡ m = numbers_same c in
          let u = used name h head (subst (IsPendingOf history name) same is_pending) in
          absurd (no h m same u)
        where
          no : (x y : ℕ) → x ≡ y → y < x → ⊥
          no x y f l = omega (arith, f, l)
  settled a is true at (inr look) =
      let same : version_of a ≡ version_of e.1 = same_version at ∙ sym named.1 in
      let there = are.kept a is (within history is) in
      let first : e.1 ≡ there.0 = ap (λ o. unwrap_or o e.1)
      (sym (ap (λ c. cond c (Some e.1) (lookup (is_at (version_order (version_of a))) left)) at) ∙ look ∙ there.1) in
      inl (inr (
        h,
        same_served same (ap (value_of history) first ∙ there.2) served,
        ap (λ c. cond c e.1.version (was.got h)) (ap is_eq (number_itself h))
            ∙ sym (ap (λ (v : VersionName). v.version) same),
        now_used,
      ))
  settled a is false at (inr look) = inr (left_still firsts a e left at look)

  each : (q : ValueName) (b : Bool) → is_at (value_order name) q ≡ b → AreUsed history heads (e ∷ left) q →
      AreUsed history heads' left q
  each q false at u = record {
    from = u.from;
    top = u.top;
    others = u.others;
    first = subst (IsFirst history q u.from) (sym (other_head q at)) u.first;
    wanting = u.wanting;
    used = u.used;
    above = All-tail (IsAbove q u.top) e left u.above;
  }
  each q true at u = record {
    from = h + 1;
    top = e.1.version + 1;
    others = (e.1, h) ∷ u.others;
    first = subst (IsFirst history q (h + 1))
        (sym (advanced q ∙ ap (λ b. cond b (next_at nexts h) (get value_order heads q)) at)) (behind alike);
    wanting = (
      record {
        is = named.0;
        table_is = sym table ∙ alike.table_is;
        key_is = sym key ∙ alike.key_is;
        value_is = sym value ∙ alike.value_is;
        below = omega arith;
        later = later;
        unwritten = unwritten;
      },
      wanting_above history q.table q.key (bytes_in q) u.others under u.wanting,
    );
    used = λ k p early. used k p (below k h early);
    above = All-from_above;
  }
    where
      alike : AreAlike name q
      alike = same_value at

      versions : e.0.version ≡ e.1.version
      versions = sym (ap (λ (v : VersionName). v.version) named.1)

      tables : e.0.table ≡ q.table
      tables = sym (ap (λ (v : VersionName). v.table) named.1) ∙ sym table ∙ alike.table_is

      keys : e.0.key ≡ q.key
      keys = sym (ap (λ (v : VersionName). v.key) named.1) ∙ sym key ∙ alike.key_is

      under : u.top ≤ e.1.version
      under = let a = All-head (IsAbove q u.top) e left u.above tables keys in omega (arith, a, versions)

      first : IsFirst history q u.from (Some h)
      first = subst (IsFirst history q u.from) (sym (get_alike heads alike) ∙ head) u.first

      used : (k : ℕ) → IsPendingOf history q k → (k < h) ⊎ (k ≡ h) → IsAmong k ((e.1, h) ∷ u.others)
      used k p (inr same) = inl (sym same)
      used k p (inl early) = by (nat_lt k u.from) refl
        where
          by : (b : Bool) → nat_lt k u.from ≡ b → IsAmong k ((e.1, h) ∷ u.others)
          by true l = inr (u.used k p (grind (arith, nat_tests)))
          by false l = let least : h ≤ k = first.2 k p (grind (arith, nat_tests)) in absurd (omega (arith, least, early))

      All-from_above : All (IsAbove q (e.1.version + 1)) left
      All-from_above = rest left (sorted_head version_order e.0 (keys_of left) was.rising)
        where
          rest : (es : List Entry) → AllByRecursion (λ k. version_order e.0 k ≡ Less) (keys_of es) →
              All (IsAbove q (e.1.version + 1)) es
          rest [] less = All-nil (IsAbove q (e.1.version + 1))
          rest (f ∷ es) less = All-cons (IsAbove q (e.1.version + 1)) f es one (rest es less.1)
            where
              one : IsAbove q (e.1.version + 1) f
              one t k = let l = lower f.0 less.0 (tables ∙ sym t) (keys ∙ sym k) in omega (arith, l, versions)

  pub matched_take : AreMatched history firsts heads' left
  matched_take = record {
    got = got';
    settled = λ a is after. settled a is (is_at (version_order (version_of a)) e.0) refl (was.settled a is after);
    each = λ q. each q (is_at (value_order name) q) refl (was.each q);
    named = All-tail (IsNamed history) e left was.named;
    rising = sorted_tail version_order e.0 (keys_of left) was.rising;
  }

-- the first that is free serves, where it is the one that is found
pub found_serves : {history : List ClientEvent} {firsts : BTreeMap VersionName Operation} {heads : BTreeMap ValueName ℕ}
    {bars : List (Option Top)} {left : List Entry} {op : Operation} (name : ValueName) {h : ℕ} →
    AreMatched history firsts heads left → AreBars history (length history) bars →
    name.table ≡ op.table → name.key ≡ op.key → bytes_in name ≡ value_of history op →
    first_write bars (get value_order heads name) op.version ≡ Some h →
    (get value_order heads name ≡ Some h) × IsPendingWrite history op h
found_serves {history} {heads} {bars} {left} {op} name {h} was bar table key value found =
    by (get value_order heads name) refl found
  where
    u : AreUsed history heads left name
    u = was.each name

    at : (i : ℕ) (b : Bool) → is_at_least (bar_at bars i) op.version ≡ b → get value_order heads name ≡ Some i →
        cond b None (Some i) ≡ Some h → (get value_order heads name ≡ Some h) × IsPendingWrite history op h
    at i true low head e = absurd (no_some refl e)
    at i false low head e =
        let same : i ≡ h = ap (λ o. unwrap_or o i) e in
        let first : IsFirst history name u.from (Some i) = subst (IsFirst history name u.from) head u.first in
        (head ∙ e, subst (IsPendingWrite history op) same (serves bar first.0 table key value low))

    by : (o : Option ℕ) → get value_order heads name ≡ o → first_write bars o op.version ≡ Some h →
        (get value_order heads name ≡ Some h) × IsPendingWrite history op h
    by None head e = absurd (no_some refl e)
    by (Some i) head e = at i (is_at_least (bar_at bars i) op.version) refl head e

-- An entry for which no write is left

wanting_of : (history : List ClientEvent) {table key table' key' : ℕ} {value value' : Option (List ℕ)} (version : ℕ)
    (others : List (Operation × ℕ)) → table ≡ table' → key ≡ key' → value ≡ value' →
    AreWanting history table key value version others → AreWanting history table' key' value' version others
wanting_of history {key} {table'} {key'} {value} version others t k v h =
    subst (λ w. AreWanting history table' key' w version others) v
    (subst (λ w. AreWanting history table' w value version others) k
    (subst (λ w. AreWanting history w key value version others) t h))

pub none_left : {history : List ClientEvent} {firsts : BTreeMap VersionName Operation} {heads : BTreeMap ValueName ℕ}
    {bars : List (Option Top)} {e : Entry} {left : List Entry} (name : ValueName) →
    AreMatched history firsts heads (e ∷ left) → AreBars history (length history) bars →
    e.1.version ≢ 0 → (HasWrite history e.1 → ⊥) →
    name.table ≡ e.1.table → name.key ≡ e.1.key → bytes_in name ≡ value_of history e.1 →
    first_write bars (get value_order heads name) e.1.version ≡ None →
    Breaks history (violation.TooFewWrites e.1.response)
none_left {history} {heads} {bars} {e} {left} name was bar later unwritten table key value none = (
  e.1,
  named.0,
  later,
  unwritten,
  u.others,
  record {
    wanting = wanting_of history e.1.version u.others table key value
        (wanting_above history name.table name.key (bytes_in name) u.others under u.wanting);
    no_more = λ m p. no_more m p (nat_lt m u.from) refl;
  },
)
  where
    named : IsNamed history e
    named = All-head (IsNamed history) e left was.named

    u : AreUsed history heads (e ∷ left) name
    u = was.each name

    under : u.top ≤ e.1.version
    under =
        let a = All-head (IsAbove name u.top) e left u.above
        (sym (ap (λ (v : VersionName). v.table) named.1) ∙ sym table)
        (sym (ap (λ (v : VersionName). v.key) named.1) ∙ sym key) in
        let v : e.1.version ≡ e.0.version = ap (λ (v : VersionName). v.version) named.1 in omega (arith, a, v)

    free : (m i : ℕ) (b : Bool) → IsPendingWrite history e.1 m → is_at_least (bar_at bars i) e.1.version ≡ b →
        IsFirst history name u.from (Some i) → u.from ≤ m → cond b None (Some i) ≡ None → ⊥
    free m i true p high first from f = too_late bar first.0 table key high
        (first.2 m (asked table key value p) from) p
    free m i false p low first from f = no_some f refl

    late : (m : ℕ) (o : Option ℕ) → IsPendingWrite history e.1 m → IsFirst history name u.from o → u.from ≤ m →
        first_write bars o e.1.version ≡ None → ⊥
    late m None p first from f = first m (asked table key value p) from
    late m (Some i) p first from f = free m i (is_at_least (bar_at bars i) e.1.version) p refl first from f

    no_more : (m : ℕ) → IsPendingWrite history e.1 m → (b : Bool) → nat_lt m u.from ≡ b → IsAmong m u.others
    no_more m p true l = u.used m (asked table key value p) (grind (arith, nat_tests))
    no_more m p false l = absurd (late m (get value_order heads name) p u.first (grind (arith, nat_tests)) none)

-- The end

pub matched_end : {history : List ClientEvent} {firsts : BTreeMap VersionName Operation} {heads : BTreeMap ValueName ℕ}
    {left : List Entry} → left ≡ [] → AreFirsts history (length history) firsts → AreMatched history firsts heads left →
    HasChoice history
matched_end {history} {firsts} {heads} {left} empty are was = record {
  got = was.got;
  written = λ a is later. by a is (was.settled a is later);
}
  where
    by : (a : Operation) → IsOperation history a → IsSettled history heads was.got a
        ⊎ (lookup (is_at (version_order (version_of a))) left ≡ get version_order firsts (version_of a)) →
        WasWritten history was.got a
    by a is (inl (inl w)) = inl w
    by a is (inl (inr (m, p, g, used))) = inr (m, p, g)
    by a is (inr look) =
        let there = are.kept a is (within history is) in
        absurd (no_some refl (sym (ap (lookup (is_at (version_order (version_of a)))) empty) ∙ look ∙ there.1))
