-- What an operation of a history is.
use Rattle.std.proofs.Common.{◌≡◌, ◌⊎◌, ◌∙◌, ℕ, ◌+◌, ◌<◌, Bool, true, false, cond, List, length, Option, Some, None, unwrap_or}
use Rattle.std.proofs.Common.{[], ◌∷◌, ◌++◌, zero, suc, refl, sym, ap, subst, inl, inr, true≢false, arith}
use Rattle.std.specs.declared.cmp.Ordering.{Ordering}
use Rattle.std.specs.declared.cmp.Ordering.TheVariants.{Less, Equal, Greater}
use Rattle.std.specs.Ordering.{nat_cmp, ordering_then, is_eq}
use Rattle.std.specs.Map.{lookup}
use Rattle.std.specs.BTreeMap.{BTreeMap, get, is_at}
use Rattle.std.specs.Prelude.{nat_lt, slice_get, option_and_then}
use Rattle.std.proofs.lemmas.Bool.Decides.{nat_tests}
use Rattle.std.proofs.lemmas.Option.{slice_get_within}
use Rattle.rc_clients.specs.declared.events.Request.{Request}
use Rattle.rc_clients.specs.declared.events.ClientEvent.{ClientEvent}
use Rattle.rc_clients.specs.declared.events.ClientEvent.TheVariants.{Invoked, Written, Shown, Failed}
use Rattle.rc_clients.specs.declared.operations.Kind.{Kind}
use Rattle.rc_clients.specs.declared.operations.Kind.TheVariants as kind
use Rattle.rc_clients.specs.declared.operations.Operation.{Operation}
use Rattle.rc_clients.specs.Operations.{asks_for, operation_of, answered_by, operation_at, IsOperation}
use Rattle.rc_clients.specs.Evidence.{key_at, key_in, key_of}

-- what is known of the operation that is answered at a moment
pub record IsTold (history : List ClientEvent) (moment : ℕ) (op : Operation) : Type 0 where
  pub response_is : op.response ≡ moment
  pub asked_before : op.invocation < moment
  pub key_is : key_at history op.invocation ≡ Some (key_of op)

some_same : {x y : Operation} → ◌≡◌ {A = Option Operation} (Some x) (Some y) → x ≡ y
some_same {x} e = ap (λ o. unwrap_or o x) e

pub key_asked : (history : List ClientEvent) (moment : ℕ) {event : ClientEvent} → slice_get history moment ≡ Some event →
    key_at history moment ≡ key_in event
unfolding key_at
key_asked history moment is = ap (option_and_then key_in) is

pub told : {history : List ClientEvent} {moment : ℕ} {op : Operation} → operation_at history moment ≡ Some op →
    IsTold history moment op
unfolding operation_at
told {history} {moment} {op} e = by (slice_get history moment) e
  where
    under : (i : ℕ) → nat_lt i moment ≡ true → i < moment
    under i t = grind (arith, nat_tests)

    asked : (k : Kind) (i v table key : ℕ) (request : Request) (b : Bool) →
        slice_get history i ≡ Some (Invoked table key request) → i < moment →
        cond b (Some (record { kind = k; table = table; key = key; version = v; invocation = i; response = moment })) None ≡
        Some op → IsTold history moment op
    asked k i v table key request false s below e = cc
    asked k i v table key request true s below e =
        subst (λ o. IsTold history moment o) (some_same e) (record {
          response_is = refl;
          asked_before = below;
          key_is = key_asked history i s;
        })

    answers : (k : Kind) (i v : ℕ) (b : Bool) → nat_lt i moment ≡ b → (event : Option ClientEvent) →
        slice_get history i ≡ event →
        cond b (option_and_then (operation_of k i moment v) event) None ≡ Some op → IsTold history moment op
    answers k i v false t event s e = cc
    answers k i v true t None s e = cc
    answers k i v true t (Some (Invoked table key request)) s e =
        asked k i v table key request (asks_for k request) s (under i t) e
    answers k i v true t (Some (Written a b)) s e = cc
    answers k i v true t (Some (Shown a b c)) s e = cc
    answers k i v true t (Some (Failed a)) s e = cc

    by : (o : Option ClientEvent) → option_and_then (answered_by history moment) o ≡ Some op → IsTold history moment op
    by None e = cc
    by (Some (Invoked table key request)) e = cc
    by (Some (Written i v)) e = answers kind.Write i v (nat_lt i moment) refl (slice_get history i) refl e
    by (Some (Shown i v x)) e = answers kind.Read i v (nat_lt i moment) refl (slice_get history i) refl e
    by (Some (Failed i)) e = cc

-- an operation stands within its history
pub within : (history : List ClientEvent) {moment : ℕ} {op : Operation} → operation_at history moment ≡ Some op →
    moment < length history
unfolding operation_at
within history {moment} {op} e = by (slice_get history moment) refl e
  where
    by : (o : Option ClientEvent) → slice_get history moment ≡ o →
        option_and_then (answered_by history moment) o ≡ Some op → moment < length history
    by None is e = cc
    by (Some event) is e = slice_get_within history moment event is

-- it is the one at the moment of its response
pub is_operation : (history : List ClientEvent) (moment : ℕ) {op : Operation} → operation_at history moment ≡ Some op →
    IsOperation history op
is_operation history moment {op} e = subst (λ m. operation_at history m ≡ Some op) (sym (told e).response_is) e

-- of one moment there is one
pub one_at : (history : List ClientEvent) (moment : ℕ) {a b : Operation} → operation_at history moment ≡ Some a →
    operation_at history moment ≡ Some b → a ≡ b
one_at history moment e f = some_same (sym e ∙ f)

-- one that is answered before the next moment is answered before this one, or at it
pub below : (a m : ℕ) → a < m + 1 → (a < m) ⊎ (a ≡ m)
below a m h = by (nat_lt a m) refl
  where
    by : (b : Bool) → nat_lt a m ≡ b → (a < m) ⊎ (a ≡ m)
    by true e = inl (grind (arith, nat_tests))
    by false e = inr (grind (arith, nat_tests))

pub answered_below : (history : List ClientEvent) {moment : ℕ} {a : Operation} → IsOperation history a →
    a.response < moment + 1 → (a.response < moment) ⊎ (operation_at history moment ≡ Some a)
answered_below history {moment} {a} is before = by (below a.response moment before)
  where
    by : (a.response < moment) ⊎ (a.response ≡ moment) → (a.response < moment) ⊎ (operation_at history moment ≡ Some a)
    by (inl h) = inl h
    by (inr e) = inr (subst (λ m. operation_at history m ≡ Some a) e is)

-- Tables and lists

pub get_empty : {K V : Type 0} (R : K → K → Ordering) (m : BTreeMap K V) (q : K) → m.entries ≡ [] → get R m q ≡ None
get_empty R m q e = ap (lookup (is_at (R q))) e

-- a list with one element more: those before it, and itself
pub get_front : {A : Type 0} (xs : List A) (x : A) (i : ℕ) → i < length xs → slice_get (xs ++ x ∷ []) i ≡ slice_get xs i
get_front [] x i h = absurd (no i h)
  where
    no : (n : ℕ) → n < 0 → ⊥
    no n h = omega (arith, h)
get_front (y ∷ xs) x zero h = refl
get_front (y ∷ xs) x (suc i) h = get_front xs x i (omega (arith, h))

at_end : {A : Type 0} (xs : List A) {x : A} → slice_get (xs ++ x ∷ []) (length xs) ≡ Some x
at_end [] = refl
at_end (y ∷ xs) = at_end xs

pub get_last : {A : Type 0} (xs : List A) {x : A} {i : ℕ} → i ≡ length xs → slice_get (xs ++ x ∷ []) i ≡ Some x
get_last xs {x} e = ap (slice_get (xs ++ x ∷ [])) e ∙ at_end xs

-- Orders

pub then_equal : (o p : Ordering) → is_eq (ordering_then o p) ≡ true → (is_eq o ≡ true) × (is_eq p ≡ true)
then_equal Less p e = absurd (true≢false (sym e))
then_equal Equal p e = (refl, e)
then_equal Greater p e = absurd (true≢false (sym e))

pub numbers_same : {a b : ℕ} → is_eq (nat_cmp a b) ≡ true → a ≡ b
numbers_same e = grind (arith, nat_tests)

pub number_itself : (a : ℕ) → nat_cmp a a ≡ Equal
number_itself a = equal (nat_cmp a a) (grind (arith, nat_tests))
  where
    equal : (o : Ordering) → is_eq o ≡ true → o ≡ Equal
    equal Less e = absurd (true≢false (sym e))
    equal Equal e = refl
    equal Greater e = absurd (true≢false (sym e))
