-- Writes without a response, by what they are to write.
use Rattle.std.proofs.Common.{◌≡◌, ◌⊎◌, ◌∙◌, ℕ, ◌+◌, ◌<◌, ◌≤◌, Bool, true, false, not, cond, List, [], ◌∷◌, length}
use Rattle.std.proofs.Common.{Option, Some, None, MatchBool, MatchOption, Bor, is_some, unwrap_or, option_map, refl}
use Rattle.std.proofs.Common.{sym, ap, subst, inl, inr}
use Rattle.std.proofs.Common.{true≢false, arith}
use Rattle.std.specs.Prelude.{slice_get, option_and_then}
use Rattle.std.specs.declared.cmp.Ordering.{Ordering}
use Rattle.std.specs.declared.cmp.Ordering.TheVariants.{Equal}
use Rattle.std.specs.Ordering.{nat_cmp, ordering_then, is_eq}
use Rattle.std.specs.Option.{option_cmp}
use Rattle.std.specs.Cmp.Lexicographic.{slice_cmp}
use Rattle.std.specs.List.{list_any}
use Rattle.std.specs.Map.{lookup}
use Rattle.std.specs.BTreeMap.{BTreeMap, get, is_at}
use Rattle.std.specs.BTreeSet.{BTreeSet, contains}
use Rattle.std.proofs.lemmas.Bool.Decides.{nat_tests}
use Rattle.std.proofs.lemmas.Option.{slice_get_within}
use Rattle.rc_clients.specs.declared.events.ClientEvent.{ClientEvent}
use Rattle.rc_clients.specs.declared.events.ClientEvent.TheVariants.{Invoked}
use Rattle.rc_clients.specs.declared.events.Request.TheVariants as request
use Rattle.rc_clients.specs.declared.operations.Operation.{Operation}
use Rattle.rc_clients.specs.declared.bars.Top.{Top}
use Rattle.rc_clients.specs.declared.pending.ValueName.{ValueName}
use Rattle.rc_clients.specs.Operations.{value_of, IsOperation}
use Rattle.rc_clients.specs.Linearizable.{AreOnKey, HasPending, IsPendingWrite, IsUnanswered, answered_at, answered_in}
use Rattle.rc_clients.specs.Evidence.{AreAnswered, AreBars, IsTop, bar_at, is_at_least}
use Rattle.rc_clients.specs.Pending.{ArePending, IsPendingOf, IsWriteOf, value_order}
use Rattle.rc_clients.proofs.Facts.{below, get_empty, is_operation, key_asked, number_itself, numbers_same, then_equal, told}

pub no_some : {A : Type 0} {o : Option A} {x : A} → o ≡ None → o ≡ Some x → ⊥
no_some none some = cc

-- The order of values, on plain data

abbrev pub bytes : Option (Bor (List ℕ)) → Option (List ℕ)
bytes value = option_map (λ s. s.now) value

abbrev plain_order : ℕ → ℕ → Option (List ℕ) → ValueName → Ordering
plain_order table key value b =
    ordering_then (nat_cmp table b.table) (ordering_then (nat_cmp key b.key) (option_cmp (slice_cmp nat_cmp) value (bytes b.value)))

cmp_by : (o p : Option (Bor (List ℕ))) →
    option_cmp (λ x y. slice_cmp nat_cmp x.now y.now) o p ≡ option_cmp (slice_cmp nat_cmp) (bytes o) (bytes p)
cmp_by None None = refl
cmp_by None (Some y) = refl
cmp_by (Some x) None = refl
cmp_by (Some x) (Some y) = refl

order_by : (a b : ValueName) → value_order a b ≡ plain_order a.table a.key (bytes a.value) b
order_by a b = ap (λ o. ordering_then (nat_cmp a.table b.table) (ordering_then (nat_cmp a.key b.key) o)) (cmp_by a.value b.value)

-- names of one value
pub record AreAlike (a b : ValueName) : Type 0 where
  pub table_is : a.table ≡ b.table
  pub key_is : a.key ≡ b.key
  pub value_is : bytes a.value ≡ bytes b.value

alike_orders : {a b : ValueName} → AreAlike a b → (q : ValueName) → value_order a q ≡ value_order b q
alike_orders {a} {b} h q = order_by a q ∙ ap (λ t. plain_order t a.key (bytes a.value) q) h.table_is
    ∙ ap (λ k. plain_order b.table k (bytes a.value) q) h.key_is
    ∙ ap (λ v. plain_order b.table b.key v q) h.value_is ∙ sym (order_by b q)

lookup_alike : (entries : List (ValueName × ℕ)) {f g : ValueName → Bool} → ((q : ValueName) → f q ≡ g q) →
    lookup f entries ≡ lookup g entries
lookup_alike [] same = refl
lookup_alike (e ∷ entries) {f} {g} same =
    ap (λ b. cond b (Some e.1) (lookup f entries)) (same e.0) ∙ ap (λ o. cond (g e.0) (Some e.1) o) (lookup_alike entries same)

pub get_alike : (m : BTreeMap ValueName ℕ) {a b : ValueName} → AreAlike a b → get value_order m a ≡ get value_order m b
get_alike m h = lookup_alike m.entries (λ q. ap is_eq (alike_orders h q))

lists_same : (xs ys : List ℕ) → is_eq (slice_cmp nat_cmp xs ys) ≡ true → xs ≡ ys
lists_same [] [] e = refl
lists_same [] (y ∷ ys) e = absurd (true≢false (sym e))
lists_same (x ∷ xs) [] e = absurd (true≢false (sym e))
lists_same (x ∷ xs) (y ∷ ys) e =
    let parts = then_equal (nat_cmp x y) (slice_cmp nat_cmp xs ys) e in
    let first : x ≡ y = numbers_same parts.0 in let rest : xs ≡ ys = lists_same xs ys parts.1 in cc

values_same : (v w : Option (List ℕ)) → is_eq (option_cmp (slice_cmp nat_cmp) v w) ≡ true → v ≡ w
values_same None None e = refl
values_same None (Some y) e = absurd (true≢false (sym e))
values_same (Some x) None e = absurd (true≢false (sym e))
values_same (Some x) (Some y) e = ap Some (lists_same x y e)

pub same_value : {a b : ValueName} → is_at (value_order a) b ≡ true → AreAlike a b
same_value {a} {b} e =
    let plain = sym (ap is_eq (order_by a b)) ∙ e in
    let one = then_equal (nat_cmp a.table b.table) (ordering_then (nat_cmp a.key b.key)
    (option_cmp (slice_cmp nat_cmp) (bytes a.value) (bytes b.value))) plain in
    let two = then_equal (nat_cmp a.key b.key) (option_cmp (slice_cmp nat_cmp) (bytes a.value) (bytes b.value)) one.1 in
    record {
      table_is = numbers_same one.0;
      key_is = numbers_same two.0;
      value_is = values_same (bytes a.value) (bytes b.value) two.1;
    }

list_itself : (xs : List ℕ) → slice_cmp nat_cmp xs xs ≡ Equal
list_itself [] = refl
list_itself (x ∷ xs) = ap (λ o. ordering_then o (slice_cmp nat_cmp xs xs)) (number_itself x) ∙ list_itself xs

value_itself : (v : Option (List ℕ)) → option_cmp (slice_cmp nat_cmp) v v ≡ Equal
value_itself None = refl
value_itself (Some x) = list_itself x

name_itself : (a : ValueName) → is_at (value_order a) a ≡ true
name_itself a = ap is_eq (order_by a a
    ∙ ap (λ o. ordering_then o (ordering_then (nat_cmp a.key a.key) (option_cmp (slice_cmp nat_cmp) (bytes a.value) (bytes a.value))))
    (number_itself a.table)
    ∙ ap (λ o. ordering_then o (option_cmp (slice_cmp nat_cmp) (bytes a.value) (bytes a.value))) (number_itself a.key)
    ∙ value_itself (bytes a.value))

pub alike_at : {a b : ValueName} → AreAlike a b → is_at (value_order a) b ≡ true
alike_at {b} h = ap is_eq (alike_orders h b) ∙ name_itself b

-- What was answered

pub answered_begin : {history : List ClientEvent} {answered : BTreeSet ℕ} → answered.keys ≡ [] →
    AreAnswered history 0 answered
answered_begin e = record {
  found = λ i has. absurd (true≢false (sym has ∙ ap (list_any (is_at (nat_cmp i))) e));
  kept = λ n i h at. absurd (no n h);
}
  where
    no : (n : ℕ) → n < 0 → ⊥
    no n h = omega (arith, h)

pub answered_none : {history : List ClientEvent} {moment : ℕ} {answered : BTreeSet ℕ} → answered_at history moment ≡ None →
    AreAnswered history moment answered → AreAnswered history (moment + 1) answered
answered_none {history} {moment} {answered} none was = record {
  found = was.found;
  kept = λ n i h at. by n i at (below n moment h);
}
  where
    by : (n i : ℕ) → answered_at history n ≡ Some i → (n < moment) ⊎ (n ≡ moment) → contains nat_cmp answered i ≡ true
    by n i at (inl h) = was.kept n i h at
    by n i at (inr e) = absurd (no_some none (ap (answered_at history) (sym e) ∙ at))

pub answered_more : {history : List ClientEvent} {moment invocation : ℕ} {old new : BTreeSet ℕ} →
    answered_at history moment ≡ Some invocation → AreAnswered history moment old →
    ((q : ℕ) → contains nat_cmp new q ≡ cond (is_at (nat_cmp invocation) q) true (contains nat_cmp old q)) →
    AreAnswered history (moment + 1) new
answered_more {history} {moment} {invocation} {old} is was updates = record {
  found = λ i has unmet. found i (is_at (nat_cmp invocation) i) refl (sym (updates i) ∙ has) unmet;
  kept = λ n i h at. updates i ∙ kept n i at (is_at (nat_cmp invocation) i) refl (below n moment h);
}
  where
    found : (i : ℕ) (b : Bool) → is_at (nat_cmp invocation) i ≡ b → cond b true (contains nat_cmp old i) ≡ true →
        IsUnanswered history i → ⊥
    found i true e has unmet = unmet.none moment (is ∙ ap Some (numbers_same e))
    found i false e has unmet = was.found i has unmet

    some_number : (x y : ℕ) → ◌≡◌ {A = Option ℕ} (Some x) (Some y) → x ≡ y
    some_number x y e = ap (λ o. unwrap_or o x) e

    kept : (n i : ℕ) → answered_at history n ≡ Some i → (b : Bool) → is_at (nat_cmp invocation) i ≡ b →
        (n < moment) ⊎ (n ≡ moment) → cond b true (contains nat_cmp old i) ≡ true
    kept n i at true e which = refl
    kept n i at false e (inl h) = was.kept n i h at
    kept n i at false e (inr same) =
        let own : invocation ≡ i = some_number invocation i (sym is ∙ ap (answered_at history) (sym same) ∙ at) in
        absurd (true≢false (sym (ap is_eq (ap (nat_cmp invocation) (sym own) ∙ number_itself invocation)) ∙ e))

pub unanswered : (history : List ClientEvent) (moment : ℕ) (answered : BTreeSet ℕ) →
    AreAnswered history (length history) answered → contains nat_cmp answered moment ≡ false → IsUnanswered history moment
unanswered history moment answered are not_there = record { none = λ n at. no n at }
  where
    within : (n : ℕ) (o : Option ClientEvent) → slice_get history n ≡ o → option_and_then answered_in o ≡ Some moment →
        n < length history
    within n None is e = absurd (no_some refl e)
    within n (Some event) is e = slice_get_within history n event is

    no : (n : ℕ) → answered_at history n ≡ Some moment → ⊥
    no n at = true≢false (sym (are.kept n moment (within n (slice_get history n) refl at) at) ∙ not_there)

-- a write that was not answered
pub pending_of : {history : List ClientEvent} {moment : ℕ} (found : Option ValueName) → IsUnanswered history moment →
    MatchOption found ((q : ValueName) → IsWriteOf history q moment → ⊥) (λ name. IsWriteOf history name moment) →
    MatchOption found ((q : ValueName) → IsPendingOf history q moment → ⊥) (λ name. IsPendingOf history name moment)
pending_of None unmet h = λ q p. h q p.invoked
pending_of (Some name) unmet h = record { invoked = h; unanswered = unmet }

-- one that was is none
pub pending_not : {history : List ClientEvent} {moment : ℕ} {answered : BTreeSet ℕ} →
    AreAnswered history (length history) answered → contains nat_cmp answered moment ≡ true →
    (q : ValueName) → IsPendingOf history q moment → ⊥
pending_not {moment} are there q p = are.found moment there p.unanswered

-- one of a value is one of the other, where they are alike
pub moved : {history : List ClientEvent} {a b : ValueName} {i : ℕ} → AreAlike a b → IsPendingOf history a i →
    IsPendingOf history b i
moved {a} {b} h p = record {
  invoked = p.invoked ∙ ap (λ t. Some (Invoked t a.key (request.Write (bytes a.value)))) h.table_is
      ∙ ap (λ k. Some (Invoked b.table k (request.Write (bytes a.value)))) h.key_is
      ∙ ap (λ v. Some (Invoked b.table b.key (request.Write v))) h.value_is;
  unanswered = p.unanswered;
}

-- of one moment they are alike
pub both_at : {history : List ClientEvent} {a b : ValueName} {i : ℕ} → IsPendingOf history a i → IsPendingOf history b i →
    AreAlike a b
both_at {a} {b} p q =
    let parts = same_parts a.table b.table a.key b.key (bytes a.value) (bytes b.value) (sym p.invoked ∙ q.invoked) in
    record { table_is = parts.0; key_is = parts.1; value_is = parts.2 }
  where
    same_parts : (t u k l : ℕ) (v w : Option (List ℕ)) →
        ◌≡◌ {A = Option ClientEvent} (Some (Invoked t k (request.Write v))) (Some (Invoked u l (request.Write w))) →
        (t ≡ u) × (k ≡ l) × (v ≡ w)
    same_parts t u k l v w e = (cc, cc, cc)

-- The pending writes, with one event more

pub pending_begin : {history : List ClientEvent} {pending : BTreeMap ValueName ℕ} → pending.entries ≡ [] →
    ArePending history 0 pending
pending_begin {pending} e = record {
  found = λ q i got. absurd (no_some (get_empty value_order pending q e) got);
  kept = λ q i h p. absurd (no i h);
}
  where
    no : (n : ℕ) → n < 0 → ⊥
    no n h = omega (arith, h)

pub pending_skip : {history : List ClientEvent} {moment : ℕ} {pending : BTreeMap ValueName ℕ} →
    ((q : ValueName) → IsPendingOf history q moment → ⊥) → ArePending history moment pending →
    ArePending history (moment + 1) pending
pending_skip {history} {moment} {pending} none was = record {
  found = λ q i got. let h = was.found q i got in let b = h.1 in (h.0, omega (arith, b));
  kept = λ q i h p. by q i p (below i moment h);
}
  where
    by : (q : ValueName) (i : ℕ) → IsPendingOf history q i → (i < moment) ⊎ (i ≡ moment) →
        (j : ℕ) × (get value_order pending q ≡ Some j) × (j ≤ i)
    by q i p (inl h) = was.kept q i h p
    by q i p (inr e) = absurd (none q (subst (IsPendingOf history q) e p))

pub pending_more : {history : List ClientEvent} {moment : ℕ} {old new : BTreeMap ValueName ℕ} {name : ValueName} →
    IsPendingOf history name moment → ArePending history moment old →
    ((q : ValueName) → get value_order new q ≡ cond (is_some (get value_order old name)) (get value_order old q)
    (cond (is_at (value_order name) q) (Some moment) (get value_order old q))) →
    ArePending history (moment + 1) new
pending_more {history} {moment} {old} {new} {name} is was updates = record {
  found = λ q i got. found q i (is_some (get value_order old name)) (is_at (value_order name) q) refl (sym (updates q) ∙ got);
  kept = λ q i h p. kept q i p (get value_order old name) refl (is_at (value_order name) q) refl (below i moment h);
}
  where
    some_number : (x y : ℕ) → ◌≡◌ {A = Option ℕ} (Some x) (Some y) → x ≡ y
    some_number x y e = ap (λ o. unwrap_or o x) e

    found : (q : ValueName) (i : ℕ) (known at : Bool) → is_at (value_order name) q ≡ at →
        cond known (get value_order old q) (cond at (Some moment) (get value_order old q)) ≡ Some i →
        IsPendingOf history q i × (i < moment + 1)
    found q i true at e got = let h = was.found q i got in let b = h.1 in (h.0, omega (arith, b))
    found q i false false e got = let h = was.found q i got in let b = h.1 in (h.0, omega (arith, b))
    found q i false true e got =
        let same : moment ≡ i = some_number moment i got in (
          subst (IsPendingOf history q) same (record {
            invoked = (moved (same_value e) is).invoked;
            unanswered = is.unanswered;
          }),
          omega (arith, same),
        )

    -- what the new table has, by what the old one has of the name, and whether the key is the name's
    now : (q : ValueName) (known : Option ℕ) (at : Bool) → get value_order old name ≡ known → is_at (value_order name) q ≡ at →
        get value_order new q ≡ cond (is_some known) (get value_order old q) (cond at (Some moment) (get value_order old q))
    now q known at k e = updates q
        ∙ ap (λ o. cond (is_some o) (get value_order old q) (cond (is_at (value_order name) q) (Some moment) (get value_order old q))) k
        ∙ ap (λ b. cond (is_some known) (get value_order old q) (cond b (Some moment) (get value_order old q))) e

    before : (q : ValueName) (i : ℕ) → IsPendingOf history q i → i < moment → (known : Option ℕ) →
        get value_order old name ≡ known → (at : Bool) → is_at (value_order name) q ≡ at →
        (j : ℕ) × (get value_order old q ≡ Some j) × (j ≤ i) → (j : ℕ) × (get value_order new q ≡ Some j) × (j ≤ i)
    before q i p h (Some x) k at e there = (there.0, now q (Some x) at k e ∙ there.1, there.2)
    before q i p h None k false e there = (there.0, now q None false k e ∙ there.1, there.2)
    before q i p h None k true e there = absurd (no_some (sym (get_alike old (same_value e)) ∙ k) there.1)

    here : (q : ValueName) → AreAlike name q → (known : Option ℕ) → get value_order old name ≡ known →
        (j : ℕ) × (get value_order new q ≡ Some j) × (j ≤ moment)
    here q alike (Some x) k =
        let early : x < moment = (was.found name x k).1 in
        (x, now q (Some x) true k (alike_at alike) ∙ sym (get_alike old alike) ∙ k, omega (arith, early))
    here q alike None k = (moment, now q None true k (alike_at alike), omega arith)

    kept : (q : ValueName) (i : ℕ) → IsPendingOf history q i → (known : Option ℕ) → get value_order old name ≡ known →
        (at : Bool) → is_at (value_order name) q ≡ at → (i < moment) ⊎ (i ≡ moment) →
        (j : ℕ) × (get value_order new q ≡ Some j) × (j ≤ i)
    kept q i p known k at e (inl h) = before q i p h known k at e (was.kept q i h p)
    kept q i p known k at e (inr same) =
        let there = here q (both_at is (subst (IsPendingOf history q) same p)) known k in
        let level : there.0 ≤ moment = there.2 in (there.0, there.1, omega (arith, level, same))

-- Whether a write without a response can have got a version

-- what was answered before an invocation of this key
bar_asked : (history : List ClientEvent) (bars : List (Option Top)) (table key i : ℕ) (value : Option (List ℕ)) →
    AreBars history (length history) bars → slice_get history i ≡ Some (Invoked table key (request.Write value)) →
    IsTop history table key i (bar_at bars i)
bar_asked history bars table key i value are at =
    are.each i (slice_get_within history i (Invoked table key (request.Write value)) at)
    (record { table = table; key = key }) (key_asked history i at)

-- one that was invoked before any such version was answered can have got this one
pub serves : {history : List ClientEvent} {bars : List (Option Top)} {op : Operation} {name : ValueName} {i : ℕ} →
    AreBars history (length history) bars → IsPendingOf history name i → name.table ≡ op.table → name.key ≡ op.key →
    bytes name.value ≡ value_of history op → is_at_least (bar_at bars i) op.version ≡ false → IsPendingWrite history op i
serves {history} {bars} {op} {name} {i} bar pending table key value low = record {
  invoked = at;
  unanswered = pending.unanswered;
  in_time = λ a is on early. by a is on early (bar_at bars i) low
      (bar_asked history bars op.table op.key i (value_of history op) bar at);
}
  where
    at : slice_get history i ≡ Some (Invoked op.table op.key (request.Write (value_of history op)))
    at = pending.invoked ∙ ap (λ t. Some (Invoked t name.key (request.Write (bytes name.value)))) table
        ∙ ap (λ k. Some (Invoked op.table k (request.Write (bytes name.value)))) key
        ∙ ap (λ v. Some (Invoked op.table op.key (request.Write v))) value

    by : (a : Operation) → IsOperation history a → AreOnKey a op → a.response < i → (o : Option Top) →
        is_at_least o op.version ≡ false → IsTop history op.table op.key i o → a.version < op.version
    by a is on early None e top = absurd (top.none a is on.table_is on.key_is early)
    by a is on early (Some t) e top =
        let under : a.version ≤ t.version = top.greatest a is on.table_is on.key_is early in
        let over : t.version < op.version = grind (arith, nat_tests) in omega (arith, under, over)

pub can_be : {history : List ClientEvent} {bars : List (Option Top)} {pending : BTreeMap ValueName ℕ} {op : Operation}
    (name : ValueName) {i : ℕ} → AreBars history (length history) bars → ArePending history (length history) pending →
    name.table ≡ op.table → name.key ≡ op.key → bytes name.value ≡ value_of history op →
    get value_order pending name ≡ Some i → is_at_least (bar_at bars i) op.version ≡ false → HasPending history op
can_be name {i} bar are table key value got low = (i, serves bar (are.found name i got).0 table key value low)

-- a write that can have got the version is one of the value
pub asked : {history : List ClientEvent} {op : Operation} {name : ValueName} {i : ℕ} → name.table ≡ op.table →
    name.key ≡ op.key → bytes name.value ≡ value_of history op → IsPendingWrite history op i → IsPendingOf history name i
asked {history} {op} {name} table key value p = record {
  invoked = p.invoked ∙ ap (λ t. Some (Invoked t op.key (request.Write (value_of history op)))) (sym table)
      ∙ ap (λ k. Some (Invoked name.table k (request.Write (value_of history op)))) (sym key)
      ∙ ap (λ v. Some (Invoked name.table name.key (request.Write v))) (sym value);
  unanswered = p.unanswered;
}

-- no write of the value is pending
pub can_not : {history : List ClientEvent} {pending : BTreeMap ValueName ℕ} {op : Operation} (name : ValueName) →
    ArePending history (length history) pending → name.table ≡ op.table → name.key ≡ op.key →
    bytes name.value ≡ value_of history op → get value_order pending name ≡ None → HasPending history op → ⊥
can_not {history} name are table key value none (i, p) =
    let there = are.kept name i (slice_get_within history i _ p.invoked) (asked table key value p) in
    no_some none there.1

-- one that was invoked after an answer with no lower version can't, nor can any after it
pub too_late : {history : List ClientEvent} {bars : List (Option Top)} {op : Operation} {name : ValueName} {i n : ℕ} →
    AreBars history (length history) bars → IsPendingOf history name i → name.table ≡ op.table → name.key ≡ op.key →
    is_at_least (bar_at bars i) op.version ≡ true → i ≤ n → IsPendingWrite history op n → ⊥
too_late {history} {bars} {op} {name} {i} bar pending table key high first p =
    by (bar_at bars i) high (bar_asked history bars name.table name.key i (bytes name.value) bar pending.invoked)
  where
    by : (o : Option Top) → is_at_least o op.version ≡ true → IsTop history name.table name.key i o → ⊥
    by None e top = true≢false (sym e)
    by (Some t) e top =
        let a : Operation = top.op in
        let early : t.response < i = top.before in
        let answered : a.response ≡ t.response = (told top.is).response_is in
        let less : a.version < op.version = p.in_time a (is_operation history t.response top.is)
        (record { table_is = top.table_is ∙ table; key_is = top.key_is ∙ key })
        (omega (arith, early, answered, first)) in
        let same : a.version ≡ t.version = top.version_is in
        let over : op.version ≤ t.version = grind (arith, nat_tests) in
        no a.version t.version op.version less same over
      where
        no : (a t v : ℕ) → a < v → a ≡ t → v ≤ t → ⊥
        no a t v h e f = omega (arith, h, e, f)

-- or the first that is was invoked too late
pub can_not_yet : {history : List ClientEvent} {bars : List (Option Top)} {pending : BTreeMap ValueName ℕ} {op : Operation}
    (name : ValueName) {i : ℕ} → AreBars history (length history) bars → ArePending history (length history) pending →
    name.table ≡ op.table → name.key ≡ op.key → bytes name.value ≡ value_of history op →
    get value_order pending name ≡ Some i → is_at_least (bar_at bars i) op.version ≡ true → HasPending history op → ⊥
can_not_yet {history} {pending} name {i} bar are table key value got high (n, p) =
    too_late bar (are.found name i got).0 table key high first p
  where
    there : (j : ℕ) × (get value_order pending name ≡ Some j) × (j ≤ n)
    there = are.kept name n (slice_get_within history n _ p.invoked) (asked table key value p)

    first : i ≤ n
    first =
        let same : i ≡ there.0 = ap (λ o. unwrap_or o i) (sym got ∙ there.1) in
        let level : there.0 ≤ n = there.2 in omega (arith, same, level)

-- by what was answered before it
pub can_be_so : {history : List ClientEvent} {bars : List (Option Top)} {pending : BTreeMap ValueName ℕ} (op : Operation)
    (name : ValueName) {i : ℕ} {result : Bool} → AreBars history (length history) bars →
    ArePending history (length history) pending → name.table ≡ op.table → name.key ≡ op.key →
    bytes name.value ≡ value_of history op → get value_order pending name ≡ Some i →
    result ≡ not (is_at_least (bar_at bars i) op.version) →
    MatchBool result (HasPending history op) (HasPending history op → ⊥)
can_be_so {history} {bars} op name {i} {result} bar are table key value got is =
    by result (is_at_least (bar_at bars i) op.version) refl is
  where
    by : (r b : Bool) → is_at_least (bar_at bars i) op.version ≡ b → r ≡ not b →
        MatchBool r (HasPending history op) (HasPending history op → ⊥)
    by true false low e = can_be name bar are table key value got low
    by false true high e = can_not_yet name bar are table key value got high
    by true true h e = absurd (true≢false e)
    by false false h e = absurd (true≢false (sym e))
