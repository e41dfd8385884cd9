-- Lists and objects of JSON, an item or a member at a time.
use Rattle.std.proofs.Common.{◌≡◌, ℕ, zero, suc, ◌-◌, ◌<◌, ◌≤◌, List, [], ◌∷◌, length, Option, Some, None, option_map}
use Rattle.std.proofs.Common.{option_and_then, refl, sym, ap, ◌∙◌, arith}
use Rattle.json.specs.Token.{Token}
use Rattle.json.specs.Json as json
use Rattle.json.specs.Json.{Parse, parse_map, after_end_array, read_key, items_step, members_step, items, members, value}
use Rattle.json.proofs.Grammar.{left, value-begin_array, value-begin_object, items_end, items_more, items_fail}
use Rattle.json.proofs.Grammar.{members_end, members_no_key, members_more, Takes, skip_value-shorter, read_key-shorter}
use Rattle.serde_json.specs.Data.{Data, array, object, Items, no_items, item, Members, no_members, put}
use Rattle.serde_json.specs.Read.{of_json, of_items, of_members, converted}
use Rattle.rc_reading.specs.All.{listed, data_at, items_at, members_at, told, says, taken_from, folds}

-- ---- the bound on the turns plays no part

none_left : {A : Type 0} (o : Option (A × List Token)) → ((r : List Token) → left o ≡ Some r → ⊥) → o ≡ None
none_left None h = refl
none_left (Some q) h = absurd (h q.1 refl)

nothing : (p : Parse json.Json) → Takes p → p [] ≡ None
nothing p takes = none_left (p []) (λ r e. let less = takes [] r e in omega arith)

module _ (p : Parse json.Json) (takes : Takes p) where
  after : {A B : Type 0} (f : json.Json → A → B) (m n : Parse A) (ts : List Token) (o : Option (json.Json × List Token))
      → p ts ≡ o → ((r : List Token) → length r < length ts → m r ≡ n r)
      → option_and_then (λ q. parse_map (f q.0) (m q.1)) o ≡ option_and_then (λ q. parse_map (f q.0) (n q.1)) o
  after f m n ts None is same = refl
  after f m n ts (Some q) is same = ap (parse_map (f q.0)) (same q.1 (takes ts q.1 (ap left is)))

  one_turn : (m n : Parse json.Items) (ts : List Token) (o : Option (List Token)) →
      ((r : List Token) → length r < length ts → m r ≡ n r) → items_step p m ts o ≡ items_step p n ts o
  one_turn m n ts (Some r) same = refl
  one_turn m n ts None same = after json.item m n ts (p ts) refl same

  pub enough_items : (m n : ℕ) (ts : List Token) → length ts ≤ m → length ts ≤ n → items p m ts ≡ items p n ts
  unfolding items
  enough_items zero zero ts few less = refl
  enough_items zero (suc n) [] few less = sym (items_fail p (suc n) [] refl (nothing p takes))
  enough_items zero (suc n) (t ∷ ts) few less = absurd (omega arith)
  enough_items (suc m) zero [] few less = items_fail p (suc m) [] refl (nothing p takes)
  enough_items (suc m) zero (t ∷ ts) few less = absurd (omega arith)
  enough_items (suc m) (suc n) ts few less = one_turn (items p m) (items p n) ts (after_end_array ts)
      (λ r shorter. enough_items m n r (omega arith) (omega arith))

  member_turn : (m n : Parse json.Members) (ts : List Token) (o : Option (Option (List ℕ) × List Token)) →
      read_key ts ≡ o → ((r : List Token) → length r < length ts → m r ≡ n r)
      → option_and_then (λ q. members_step p m q.0 q.1) o ≡ option_and_then (λ q. members_step p n q.0 q.1) o
  member_turn m n ts None is same = refl
  member_turn m n ts (Some (None, r)) is same = refl
  member_turn m n ts (Some (Some k, r)) is same = after (json.member k) m n r (p r) refl
      (λ s shorter. same s (omega (arith, shorter, read_key-shorter ts (Some k) r is)))

  pub enough_members : (m n : ℕ) (ts : List Token) → length ts ≤ m → length ts ≤ n → members p m ts ≡ members p n ts
  unfolding members
  enough_members zero zero ts few less = refl
  enough_members zero (suc n) [] few less = sym (members_no_key p (suc n) [] refl)
  enough_members zero (suc n) (t ∷ ts) few less = absurd (omega arith)
  enough_members (suc m) zero [] few less = members_no_key p (suc m) [] refl
  enough_members (suc m) zero (t ∷ ts) few less = absurd (omega arith)
  enough_members (suc m) (suc n) ts few less = member_turn (members p m) (members p n) ts (read_key ts) refl
      (λ r shorter. enough_members m n r (omega arith) (omega arith))

-- ---- what was converted

abbrev pick : {A : Type 0} → A → Option A → A
pick d None = d
pick d (Some a) = a

found : {A B : Type 0} (a : A) (r s : List Token) (x : Option B) (b : B) →
    option_map {U = B × List Token} (λ y. (y, r)) x ≡ Some (b, s) → (r ≡ s) × (x ≡ Some b)
found a r s None b e = absurd (cc)
found a r s (Some y) b e = let same = ap (pick (y, r)) e in (ap (λ p. p.1) same, ap (λ p. Some p.0) same)

pub converted_some : {A B : Type 0} (f : A → Option B) (o : Option (A × List Token)) (b : B) (r : List Token) →
    converted f o ≡ Some (b, r) → (a : A) × (o ≡ Some (a, r)) × (f a ≡ Some b)
converted_some f None b r e = absurd (cc)
converted_some f (Some p) b r e = let both = found p.0 p.1 r (f p.0) b e in (p.0, ap (λ s. Some (p.0, s)) both.0, both.1)

pub refused : {B : Type 0} (r : List Token) (x : Option B) → option_map {U = B × List Token} (λ y. (y, r)) x ≡ None → x ≡ None
refused r None e = refl
refused r (Some y) e = absurd (cc)

twice : {A B : Type 0} (g : A → B) (r : List Token) (x : Option A) →
    option_map (λ b. (b, r)) (option_map g x) ≡ told g (option_map (λ a. (a, r)) x)
twice g r None = refl
twice g r (Some a) = refl

converted-array : (o : Option (json.Items × List Token)) → converted of_json (parse_map json.array o) ≡ told array (converted of_items o)
converted-array None = refl
converted-array (Some p) = twice array p.1 (of_items p.0)

converted-object : (o : Option (json.Members × List Token)) →
    converted of_json (parse_map json.object o) ≡ told object (converted (λ ms. of_members ms no_members) o)
converted-object None = refl
converted-object (Some p) = twice object p.1 (of_members p.0 no_members)

with_item : (j : json.Json) (d : Data) → of_json j ≡ Some d → (o : Option (json.Items × List Token)) →
    converted of_items (parse_map (json.item j) o) ≡ told (item d) (converted of_items o)
with_item j d e None = refl
with_item j d e (Some p) = rw e (twice (item d) p.1 (of_items p.0))

without_item : (j : json.Json) → of_json j ≡ None → (o : Option (json.Items × List Token)) →
    converted of_items (parse_map (json.item j) o) ≡ None
without_item j e None = refl
without_item j e (Some p) = rw e

with_member : (k : List ℕ) (j : json.Json) (d : Data) (old : Members) → of_json j ≡ Some d → (o : Option (json.Members × List Token))
    → converted (λ ms. of_members ms old) (parse_map (json.member k j) o) ≡ converted (λ ms. of_members ms (put k d old)) o
with_member k j d old e None = refl
with_member k j d old e (Some p) = rw e

without_member : (k : List ℕ) (j : json.Json) (old : Members) → of_json j ≡ None →
    (o : Option (json.Members × List Token)) →
    converted (λ ms. of_members ms old) (parse_map (json.member k j) o) ≡ None
without_member k j old e None = refl
without_member k j old e (Some p) = rw e

-- ---- a value that opens a list or an object

pub opened_list : (depth : ℕ) (ts : List Token) → 0 < depth → data_at depth (Token.begin_array ∷ ts) ≡ told array (items_at (depth - 1) ts)
unfolding data_at items_at
opened_list depth ts some = ap (converted of_json) (value-begin_array depth ts some) ∙
    converted-array (items (value (depth - 1)) (length ts) ts)

pub opened_object : (depth : ℕ) (ts : List Token) → 0 < depth →
    data_at depth (Token.begin_object ∷ ts) ≡ told object (members_at no_members (depth - 1) ts)
unfolding data_at members_at
opened_object depth ts some = ap (converted of_json) (value-begin_object depth ts some) ∙
    converted-object (members (value (depth - 1)) (length ts) ts)

-- ---- items, one at a time

pub items_over : (depth : ℕ) (ts r : List Token) → after_end_array ts ≡ Some r → items_at depth ts ≡ Some (no_items, r)
unfolding items_at
items_over depth ts r e = ap (converted of_items) (items_end (value depth) (length ts) ts r (omega arith) e)

some_token : (p : Parse json.Json) (ts r : List Token) (j : json.Json) → Takes p → p ts ≡ Some (j, r) → length r < length ts
some_token p ts r j takes e = takes ts r (ap left e)

pub item_read : (depth : ℕ) (ts r : List Token) (d : Data) → after_end_array ts ≡ None →
    data_at depth ts ≡ Some (d, r) → items_at depth ts ≡ told (item d) (items_at depth r)
unfolding data_at items_at
item_read depth ts r d going e =
    let p = value depth in
    let j = converted_some of_json (p ts) d r e in
    let less = some_token p ts r j.0 (skip_value-shorter depth) j.1 in
    ap (converted of_items) (items_more p (length ts) ts r j.0 (omega (arith, less)) going j.1) ∙ with_item j.0 d j.2 _
    ∙ ap (λ o. told (item d) (converted of_items o)) (enough_items p (skip_value-shorter depth) (length ts - 1)
    (length r) r (omega (arith, less)) (omega arith))

no_item : (more : Parse json.Items) (o : Option (json.Json × List Token)) → converted of_json o ≡ None →
    converted of_items (option_and_then (λ q. parse_map (json.item q.0) (more q.1)) o) ≡ None
no_item more None e = refl
no_item more (Some q) e = without_item q.0 (refused q.1 (of_json q.0) e) (more q.1)

item_refused_in : (p : Parse json.Json) (n : ℕ) (ts : List Token) → after_end_array ts ≡ None →
    converted of_json (p ts) ≡ None → converted of_items (items p n ts) ≡ None
unfolding items
item_refused_in p zero ts going e = refl
item_refused_in p (suc n) ts going e = ap (λ o. converted of_items (items_step p (items p n) ts o)) going ∙ no_item (items p n) (p ts) e

pub item_refused : (depth : ℕ) (ts : List Token) → after_end_array ts ≡ None → data_at depth ts ≡ None → items_at depth ts ≡ None
unfolding data_at items_at
item_refused depth ts going e = item_refused_in (value depth) (length ts) ts going e

-- ---- members, one at a time

pub members_over : (old : Members) (depth : ℕ) (ts r : List Token) → read_key ts ≡ Some (None, r) → members_at old depth ts ≡ Some (old, r)
unfolding members_at
members_over old depth ts r e = ap (converted (λ ms. of_members ms old)) (members_end (value depth) (length ts) ts r (omega arith) e)

pub member_read : (old : Members) (depth : ℕ) (k : List ℕ) (ts s r : List Token) (d : Data) →
    read_key ts ≡ Some (Some k, s) → data_at depth s ≡ Some (d, r)
    → members_at old depth ts ≡ members_at (put k d old) depth r
unfolding data_at members_at
member_read old depth k ts s r d key e =
    let p = value depth in
    let j = converted_some of_json (p s) d r e in
    let less = some_token p s r j.0 (skip_value-shorter depth) j.1 in
    let lesser = read_key-shorter ts (Some k) s key in
    ap (converted (λ ms. of_members ms old)) (members_more p (length ts) k ts s r j.0 (omega (arith, lesser)) key j.1) ∙
    with_member k j.0 d old j.2 _
    ∙ ap (converted (λ ms. of_members ms (put k d old))) (enough_members p (skip_value-shorter depth) (length ts - 1)
    (length r) r (omega (arith, less, lesser)) (omega arith))

no_member : (old : Members) (k : List ℕ) (more : Parse json.Members) (o : Option (json.Json × List Token)) → converted of_json o ≡ None
    → converted (λ ms. of_members ms old) (option_and_then (λ q. parse_map (json.member k q.0) (more q.1)) o) ≡ None
no_member old k more None e = refl
no_member old k more (Some q) e = without_member k q.0 old (refused q.1 (of_json q.0) e) (more q.1)

member_refused_in : (old : Members) (p : Parse json.Json) (n : ℕ) (k : List ℕ) (ts s : List Token) →
    read_key ts ≡ Some (Some k, s) → converted of_json (p s) ≡ None
    → converted (λ ms. of_members ms old) (members p n ts) ≡ None
unfolding members
member_refused_in old p zero k ts s key e = refl
member_refused_in old p (suc n) k ts s key e = rw key (no_member old k (members p n) (p s) e)

pub member_refused : (old : Members) (depth : ℕ) (k : List ℕ) (ts s : List Token) → read_key ts ≡ Some (Some k, s) →
    data_at depth s ≡ None → members_at old depth ts ≡ None
unfolding data_at members_at
member_refused old depth k ts s key e = member_refused_in old (value depth) (length ts) k ts s key e

pub key_refused : (old : Members) (depth : ℕ) (ts : List Token) → read_key ts ≡ None → members_at old depth ts ≡ None
unfolding members_at
key_refused old depth ts e = ap (converted (λ ms. of_members ms old)) (members_no_key (value depth) (length ts) ts e)

-- ---- what is told of a value

pub told_of : {A B : Type 0} (o : Option (A × List Token)) (f : A → B) (b : B) (r : List Token) →
    told f o ≡ Some (b, r) → (a : A) × (o ≡ Some (a, r)) × (f a ≡ b)
told_of None f b r e = absurd (cc)
told_of (Some q) f b r e = let same = ap (pick (f q.0, q.1)) e in (q.0, ap (λ s. Some (q.0, s)) (ap (λ p. p.1) same), ap (λ p. p.0) same)

pub says_some : {A : Type 0} (f : Data → A) (depth : ℕ) (ts r : List Token) (a : A) → says f depth ts ≡ Some (a, r) →
    (d : Data) × (data_at depth ts ≡ Some (d, r)) × (f d ≡ a)
says_some f depth ts r a e = told_of (data_at depth ts) f a r e

-- what is told of one thing, of another that is made of it
pub says_as : {A B : Type 0} (f : Data → A) (g : Data → B) (h : A → B) → ((d : Data) → g d ≡ h (f d)) → (depth : ℕ)
    (ts r : List Token) (a : A) → says f depth ts ≡ Some (a, r) → says g depth ts ≡ Some (h a, r)
says_as f g h is depth ts r a e =
    let d = says_some f depth ts r a e in ap (told g) d.1 ∙ ap (λ b. Some (b, r)) (is d.0 ∙ ap h d.2)

-- ---- a fold over items

pub folds_over : {A : Type 0} (takes : A → Data → Option A) (a : Option A) (depth : ℕ) (ts r : List Token) →
    after_end_array ts ≡ Some r → folds takes a depth ts ≡ Some (a, r)
folds_over takes None depth ts r e = ap (told (taken_from takes None)) (items_over depth ts r e)
folds_over takes (Some b) depth ts r e = ap (told (taken_from takes (Some b))) (items_over depth ts r e)

one_taken : {A : Type 0} (takes : A → Data → Option A) (a : Option A) (d : Data) (o : Option (Items × List Token))
    → told (taken_from takes a) (told (item d) o) ≡ told (taken_from takes (option_and_then (λ b. takes b d) a)) o
one_taken takes a d None = refl
one_taken takes None d (Some q) = refl
one_taken takes (Some b) d (Some q) = refl

-- one more item was taken
pub folds_more : {A : Type 0} (takes : A → Data → Option A) (a next : Option A) (depth : ℕ) (ts r : List Token) →
    after_end_array ts ≡ None → says (λ d. option_and_then (λ s. takes s d) a) depth ts ≡ Some (next, r)
    → folds takes a depth ts ≡ folds takes next depth r
folds_more takes a next depth ts r going e =
    let d = says_some (λ d. option_and_then (λ s. takes s d) a) depth ts r next e in
    ap (told (taken_from takes a)) (item_read depth ts r d.0 going d.1) ∙ one_taken takes a d.0 (items_at depth r)
    ∙ ap (λ s. folds takes s depth r) d.2

-- what is told of a fold's end
pub folded_told : {A B : Type 0} (takes : A → Data → Option A) (a b : Option A) (g : List Data → B) (h : Option A →
    B) (depth : ℕ) (ts r : List Token)
    → ((ds : Items) → g (listed ds) ≡ h (taken_from takes a ds)) → folds takes a depth ts ≡ Some (b, r) →
    told (λ ds. g (listed ds)) (items_at depth ts) ≡ Some (h b, r)
folded_told takes a b g h depth ts r is e =
    let q = told_of (items_at depth ts) (taken_from takes a) b r e in
    ap (told (λ ds. g (listed ds))) q.1 ∙ ap (λ c. Some (c, r)) (is q.0 ∙ ap h q.2)
