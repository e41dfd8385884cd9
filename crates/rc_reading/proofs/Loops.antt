-- What a loop over the items of a list, or the members of an object, has read so far.
use Rattle.std.proofs.Common.{◌≡◌, ℕ, ◌<◌, ◌≤◌, ◌-◌, List, ◌∷◌, length, Option, Some, None, option_and_then, Result, IfOk, sym, ap}
use Rattle.std.proofs.Common.{◌∙◌, subst, arith}
use Rattle.std.proofs.lemmas.Result.{IfOk-weaker}
use Rattle.json.specs.Token.{Token}
use Rattle.json.specs.Json.{after_end_array, read_key}
use Rattle.json.proofs.Grammar.{read_key-shorter}
use Rattle.serde_json.specs.Data.{Data, object, Items, Members, no_members, put}
use Rattle.rc_reading.specs.All.{listed, list_of, data_at, items_at, members_at, told, says, taken_from, folds}
use Rattle.rc_reading.proofs.Turns.{folds_more, folds_over, folded_told, item_refused, says_some, member_read, member_refused}
use Rattle.rc_reading.proofs.Turns.{members_over, key_refused}
use Rattle.rc_reading.proofs.Folds.{folds_refused}
use Rattle.rc_reading.proofs.Firsts.{listed_says, list_refused}

-- the items to come make of what there is now what all of them make of the start
abbrev pub AreFolded : {A : Type 0} → (A → Data → Option A) → Option A → Option A → ℕ → List Token → List Token → Type 0
AreFolded takes start now depth all ts = (folds takes now depth ts ≡ folds takes start depth all) × (length ts ≤ length all)

-- the members so far say this, and all members are those and the ones to come
abbrev pub SaySo : {T : Type 0} → (Data → T) → T → ℕ → List Token → List Token → Type 0
SaySo fields now depth all ts =
    (found : Members) × (now ≡ fields (object found)) × (members_at found depth ts ≡ members_at no_members depth all) ×
    (length ts ≤ length all)

module _ {A : Type 0} (takes : A → Data → Option A) (start now : Option A) (depth : ℕ) (all ts : List Token)
    (so_far : AreFolded takes start now depth all ts)
  where
    pub item_taken : (next : Option A) (s r : List Token) → (after_end_array ts ≡ None) × (s ≡ ts) →
        says (λ d. option_and_then (λ a. takes a d) now) depth s ≡ Some (next, r) → length r < length s
        → AreFolded takes start next depth all r
    item_taken next s r going read less = (
      sym (folds_more takes now next depth ts r going.0
          (subst (λ t. says (λ d. option_and_then (λ a. takes a d) now) depth t ≡ Some (next, r)) going.1 read)) ∙ so_far.0,
      omega (arith, so_far.1, ap length going.1, less),
    )

    pub item_fails : (s : List Token) → (after_end_array ts ≡ None) × (s ≡ ts) → data_at depth s ≡ None → items_at depth all ≡ None
    item_fails s going none = folds_refused takes now start depth ts all so_far.0
        (item_refused depth ts going.0 (subst (λ t. data_at depth t ≡ None) going.1 none))

    pub items_end : (r : List Token) → after_end_array ts ≡ Some r → folds takes start depth all ≡ Some (now, r)
    items_end r over = sym so_far.0 ∙ folds_over takes now depth ts r over

    pub items_tell : {B : Type 0} (g : List Data → B) (h : Option A → B) (r : List Token) →
        ((ds : Items) → g (listed ds) ≡ h (taken_from takes start ds)) → after_end_array ts ≡ Some r
        → told (λ ds. g (listed ds)) (items_at depth all) ≡ Some (h now, r)
    items_tell g h r is over = folded_told takes start now g h depth all r is (items_end r over)

module _ {T : Type 0} (fields : Data → T) (now : T) (depth : ℕ) (all ts : List Token) (so_far : SaySo fields now depth all ts) where
  pub member_taken : (noted : List ℕ → Data → T → T) (next : T) (k : List ℕ) (s r : List Token) →
      ((k : List ℕ) (d : Data) (ms : Members) → fields (object (put k d ms)) ≡ noted k d (fields (object ms)))
      → read_key ts ≡ Some (Some k, s) → says (λ d. noted k d now) depth s ≡ Some (next, r) → length r < length s
      → SaySo fields next depth all r
  member_taken noted next k s r notes key took less =
      let read = says_some (λ d. noted k d now) depth s r next took in (
        put k read.0 so_far.0,
        sym read.2 ∙ ap (noted k read.0) so_far.1 ∙ sym (notes k read.0 so_far.0),
        sym (member_read so_far.0 depth k ts s r read.0 key read.1) ∙ so_far.2,
        omega (arith, so_far.3, less, read_key-shorter ts (Some k) s key),
      )

  pub member_fails : (k : List ℕ) (s : List Token) → read_key ts ≡ Some (Some k, s) → data_at depth s ≡ None →
      members_at no_members depth all ≡ None
  member_fails k s key none = sym so_far.2 ∙ member_refused so_far.0 depth k ts s key none

  pub key_fails : read_key ts ≡ None → members_at no_members depth all ≡ None
  key_fails none = sym so_far.2 ∙ key_refused so_far.0 depth ts none

  pub members_tell : (r : List Token) → read_key ts ≡ Some (None, r) →
      told (λ ms. fields (object ms)) (members_at no_members depth all) ≡ Some (now, r)
  members_tell r over = ap (told (λ ms. fields (object ms))) (sym so_far.2 ∙ members_over so_far.0 depth ts r over) ∙
      ap (λ f. Some (f, r)) (sym so_far.1)

-- a list whose items were read after its bracket
module _ (depth : ℕ) (all ts : List Token) (begun : (all ≡ Token.begin_array ∷ ts) × (0 < depth)) where
  pub list_says : {A E : Type 0} (f : List Data → Option A) (r : List Token) (result : Result (Option A) E) →
      IfOk result (λ a. told (λ ds. f (listed ds)) (items_at (depth - 1) ts) ≡ Some (a, r))
      → IfOk result (λ a. says (λ d. option_and_then f (list_of d)) depth all ≡ Some (a, r))
  list_says f r result read = IfOk-weaker result _ _ (λ a e. rw begun.0 (listed_says f depth ts r a begun.1 e)) read

  pub list_fails : items_at (depth - 1) ts ≡ None → data_at depth all ≡ None
  list_fails none = rw begun.0 (list_refused depth ts begun.1 none)
