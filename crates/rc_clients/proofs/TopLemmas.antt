-- The greatest version of each key, with one event more.
use Rattle.std.proofs.Common.{◌≡◌, ◌⊎◌, ◌∙◌, ℕ, ◌+◌, ◌<◌, ◌≤◌, Bool, true, false, cond, List, [], ◌∷◌, ◌++◌, length}
use Rattle.std.proofs.Common.{Option, Some, None, unwrap_or, refl, sym, ap, subst, inl, inr, true≢false, arith}
use Rattle.std.specs.Prelude.{nat_le, option_and_then}
use Rattle.std.specs.Ordering.{nat_cmp, ordering_then, is_eq}
use Rattle.std.specs.BTreeMap.{BTreeMap, get, is_at}
use Rattle.std.proofs.lemmas.Bool.Decides.{nat_tests}
use Rattle.rc_clients.specs.declared.events.ClientEvent.{ClientEvent}
use Rattle.rc_clients.specs.declared.operations.Operation.{Operation}
use Rattle.rc_clients.specs.declared.bars.KeyName.{KeyName}
use Rattle.rc_clients.specs.declared.bars.Top.{Top}
use Rattle.rc_clients.specs.Operations.{operation_at, IsOperation}
use Rattle.rc_clients.specs.Evidence.{AreBars, AreTops, IsBar, IsTop, bar_at, is_at_least, key_at, key_of, key_order}
use Rattle.std.proofs.lemmas.List.{length_push}
use Rattle.rc_clients.proofs.Facts.{answered_below, below, get_empty, get_front, get_last}
use Rattle.rc_clients.proofs.Facts.{number_itself, numbers_same, one_at, then_equal}

-- a key by its parts
pub key_from : {a b : KeyName} → a.table ≡ b.table → a.key ≡ b.key → a ≡ b
key_from {a} {b} table key =
    let whole : ◌≡◌ {A = KeyName} (record { table = a.table; key = a.key }) (record { table = b.table; key = b.key }) = cc in whole

same_key : {a b : KeyName} → is_at (key_order a) b ≡ true → a ≡ b
same_key {a} {b} e =
    let parts = then_equal (nat_cmp a.table b.table) (nat_cmp a.key b.key) e in
    key_from (numbers_same parts.0) (numbers_same parts.1)

key_itself : (a : KeyName) → is_at (key_order a) a ≡ true
key_itself a = ap is_eq (ap (λ o. ordering_then o (nat_cmp a.key a.key)) (number_itself a.table) ∙ number_itself a.key)

-- no operation on the key is answered now, or one with no greater version
pub top_kept : (history : List ClientEvent) {table key : ℕ} (moment : ℕ) (top : Option Top) →
    ((a : Operation) → operation_at history moment ≡ Some a → a.table ≡ table → a.key ≡ key →
    is_at_least top a.version ≡ true) →
    IsTop history table key moment top → IsTop history table key (moment + 1) top
top_kept history {table} {key} moment None now was = record {
  none = λ a is ta ka before. by a is ta ka (answered_below history is before);
}
  where
    by : (a : Operation) → IsOperation history a → a.table ≡ table → a.key ≡ key →
        (a.response < moment) ⊎ (operation_at history moment ≡ Some a) → ⊥
    by a is ta ka (inl h) = was.none a is ta ka h
    by a is ta ka (inr at) = true≢false (sym (now a at ta ka))
top_kept history {table} {key} moment (Some top) now was = record {
  op = was.op;
  is = was.is;
  table_is = was.table_is;
  key_is = was.key_is;
  version_is = was.version_is;
  before = let h = was.before in omega arith;
  greatest = λ a is ta ka before. by a is ta ka (answered_below history is before);
}
  where
    level : (v w : ℕ) → nat_le v w ≡ true → v ≤ w
    level v w e = grind (arith, nat_tests)

    by : (a : Operation) → IsOperation history a → a.table ≡ table → a.key ≡ key →
        (a.response < moment) ⊎ (operation_at history moment ≡ Some a) → a.version ≤ top.version
    by a is ta ka (inl h) = was.greatest a is ta ka h
    by a is ta ka (inr at) = level a.version top.version (now a at ta ka)

-- nothing is answered now
pub tops_none : {history : List ClientEvent} {moment : ℕ} {tops : BTreeMap KeyName Top} →
    operation_at history moment ≡ None → AreTops history moment tops → AreTops history (moment + 1) tops
tops_none {history} {moment} {tops} none was = record {
  each = λ q. top_kept history moment (get key_order tops q) (λ a at ta ka. absurd (no a (sym none ∙ at))) (was.each q);
}
  where
    no : (a : Operation) → ◌≡◌ {A = Option Operation} None (Some a) → ⊥
    no a e = cc

-- an operation with no greater version is
pub tops_low : {history : List ClientEvent} {moment : ℕ} {tops : BTreeMap KeyName Top} {op : Operation} {name : KeyName} →
    operation_at history moment ≡ Some op → name ≡ key_of op → is_at_least (get key_order tops name) op.version ≡ true →
    AreTops history moment tops → AreTops history (moment + 1) tops
tops_low {history} {moment} {tops} {op} is named under was = record {
  each = λ q. top_kept history moment (get key_order tops q) (now q) (was.each q);
}
  where
    low : is_at_least (get key_order tops (key_of op)) op.version ≡ true
    low = subst (λ k. is_at_least (get key_order tops k) op.version ≡ true) named under

    now : (q : KeyName) (a : Operation) → operation_at history moment ≡ Some a → a.table ≡ q.table → a.key ≡ q.key →
        is_at_least (get key_order tops q) a.version ≡ true
    now q a at ta ka =
        let same : op ≡ a = one_at history moment is at in
        let here : key_of op ≡ q = ap key_of same ∙ key_from ta ka in
        subst (λ v. is_at_least (get key_order tops q) v ≡ true) (ap (λ o. o.version) same)
        (subst (λ k. is_at_least (get key_order tops k) op.version ≡ true) here low)

-- one with a greater version is
pub tops_more : {history : List ClientEvent} {moment : ℕ} {old new : BTreeMap KeyName Top} {op : Operation} {top : Top}
    {name : KeyName} → operation_at history moment ≡ Some op → name ≡ key_of op → top.response ≡ moment →
    top.version ≡ op.version → is_at_least (get key_order old name) op.version ≡ false → AreTops history moment old →
    ((q : KeyName) → get key_order new q ≡ cond (is_at (key_order name) q) (Some top) (get key_order old q)) →
    AreTops history (moment + 1) new
tops_more {history} {moment} {old} {new} {op} {top} is named response version low was more = record {
  each = λ q. subst (λ o. IsTop history q.table q.key (moment + 1) o) (sym (updates q)) (by q (is_at (key_order (key_of op)) q) refl);
}
  where
    high : is_at_least (get key_order old (key_of op)) op.version ≡ false
    high = subst (λ k. is_at_least (get key_order old k) op.version ≡ false) named low

    updates : (q : KeyName) → get key_order new q ≡ cond (is_at (key_order (key_of op)) q) (Some top) (get key_order old q)
    updates q = subst (λ k. get key_order new q ≡ cond (is_at (key_order k) q) (Some top) (get key_order old q)) named (more q)

    lower : (o : Option Top) → is_at_least o op.version ≡ false → (a : Operation) → IsOperation history a →
        a.table ≡ op.table → a.key ≡ op.key → a.response < moment → IsTop history op.table op.key moment o →
        a.version ≤ op.version
    lower None e a at ta ka h was = absurd (was.none a at ta ka h)
    lower (Some t) e a at ta ka h was =
        let under : a.version ≤ t.version = was.greatest a at ta ka h in
        let over : t.version < op.version = grind (arith, nat_tests) in omega arith

    greatest : (a : Operation) → IsOperation history a → a.table ≡ op.table → a.key ≡ op.key →
        (a.response < moment) ⊎ (operation_at history moment ≡ Some a) → a.version ≤ top.version
    greatest a at ta ka (inl h) =
        let under : a.version ≤ op.version = lower (get key_order old (key_of op)) high a at ta ka h (was.each (key_of op)) in
        omega (arith, under, version)
    greatest a at ta ka (inr now) =
        let same : op.version ≡ a.version = ap (λ o. o.version) (one_at history moment is now) in
        omega (arith, same, version)

    here : IsTop history op.table op.key (moment + 1) (Some top)
    here = record {
      op = op;
      is = subst (λ m. operation_at history m ≡ Some op) (sym response) is;
      table_is = refl;
      key_is = refl;
      version_is = sym version;
      before = omega (arith, response);
      greatest = λ a at ta ka before. greatest a at ta ka (answered_below history at before);
    }

    elsewhere : (q : KeyName) → is_at (key_order (key_of op)) q ≡ false → (a : Operation) →
        operation_at history moment ≡ Some a → a.table ≡ q.table → a.key ≡ q.key →
        is_at_least (get key_order old q) a.version ≡ true
    elsewhere q other a at ta ka =
        let same : op ≡ a = one_at history moment is at in
        let here : key_of op ≡ q = ap key_of same ∙ key_from ta ka in
        absurd (true≢false (sym (subst (λ k. is_at (key_order (key_of op)) k ≡ true) here (key_itself (key_of op))) ∙ other))

    by : (q : KeyName) (at : Bool) → is_at (key_order (key_of op)) q ≡ at →
        IsTop history q.table q.key (moment + 1) (cond at (Some top) (get key_order old q))
    by q true e = subst (λ k. IsTop history k.table k.key (moment + 1) (Some top)) (same_key e) here
    by q false e = top_kept history moment (get key_order old q) (elsewhere q e) (was.each q)

-- Bars

-- what is kept of an invocation is the top of its key
pub bar_noted : {history : List ClientEvent} {moment : ℕ} {tops : BTreeMap KeyName Top} {name : KeyName} {bar : Option Top} →
    AreTops history moment tops → key_at history moment ≡ Some name → bar ≡ get key_order tops name →
    IsBar history moment bar
bar_noted {history} {moment} {tops} {name} are is got q key =
    subst (λ b. IsTop history q.table q.key moment b) (sym got)
    (subst (λ k. IsTop history q.table q.key moment (get key_order tops k)) (some_key q name (sym key ∙ is)) (are.each q))
  where
    some_key : (x y : KeyName) → ◌≡◌ {A = Option KeyName} (Some x) (Some y) → x ≡ y
    some_key x y e = ap (λ o. unwrap_or o x) e

pub bar_none : (history : List ClientEvent) (moment : ℕ) (bar : Option Top) → key_at history moment ≡ None →
    IsBar history moment bar
bar_none history moment bar none q key = absurd (no (sym none ∙ key))
  where
    no : ◌≡◌ {A = Option KeyName} None (Some q) → ⊥
    no e = cc

pub tops_begin : {history : List ClientEvent} {tops : BTreeMap KeyName Top} → tops.entries ≡ [] → AreTops history 0 tops
tops_begin {history} {tops} e = record {
  each = λ q. subst (λ o. IsTop history q.table q.key 0 o) (sym (get_empty key_order tops q e))
      (record { none = λ a is ta ka before. no a.response before });
}
  where
    no : (n : ℕ) → n < 0 → ⊥
    no n h = omega (arith, h)

pub bars_begin : {history : List ClientEvent} {bars : List (Option Top)} → bars ≡ [] → AreBars history 0 bars
bars_begin e = record { many = ap length e; each = λ i h. absurd (no i h) }
  where
    no : (n : ℕ) → n < 0 → ⊥
    no n h = omega (arith, h)

bar_front : (bars : List (Option Top)) (bar : Option Top) {i : ℕ} → i < length bars → bar_at (bars ++ bar ∷ []) i ≡ bar_at bars i
unfolding bar_at
bar_front bars bar {i} h = ap (option_and_then (λ b. b)) (get_front bars bar i h)

bar_last : (bars : List (Option Top)) {bar : Option Top} {i : ℕ} → i ≡ length bars → bar_at (bars ++ bar ∷ []) i ≡ bar
unfolding bar_at
bar_last bars e = ap (option_and_then (λ b. b)) (get_last bars e)

-- one more bar
pub bars_more : {history : List ClientEvent} {moment : ℕ} {old new : List (Option Top)} (bar : Option Top) →
    new ≡ old ++ bar ∷ [] → IsBar history moment bar → AreBars history moment old → AreBars history (moment + 1) new
bars_more {history} {moment} {old} bar is here was = record {
  many = ap length is ∙ (let n = length_push old bar in let m = was.many in omega (arith, n, m));
  each = λ i h. subst (λ bars. IsBar history i (bar_at bars i)) (sym is) (by i (below i moment h));
}
  where
    by : (i : ℕ) → (i < moment) ⊎ (i ≡ moment) → IsBar history i (bar_at (old ++ bar ∷ []) i)
    by i (inl h) = subst (IsBar history i) (sym (bar_front old bar (let m = was.many in omega (arith, m, h)))) (was.each i h)
    by i (inr e) = subst (IsBar history i) (sym (bar_last old (let m = was.many in omega (arith, m, e))))
        (subst (λ m. IsBar history m bar) (sym e) here)
