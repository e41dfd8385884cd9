-- The least number of a message to a node, from a number on.
use Rattle.std.proofs.Common.{◌≡◌, ◌⊎◌, inl, inr, ℕ, zero, suc, ◌+◌, ◌<◌, ◌≤◌, nat_le, Bool, true, false, cond, List, [], ◌∷◌, length}
use Rattle.std.proofs.Common.{Some, None, slice_get, refl, sym, ap, ◌∙◌, arith}
use Rattle.std.specs.List.{find}
use Rattle.rc_model.specs.Model.{Message, NodeName, same_node, node_of}
use Rattle.rc_wire.specs.Numbers.{numbers_from}

at-most : (from x : ℕ) → from ≤ x → nat_le from x ≡ true
at-most from x le = grind (arith, le)

pub is-at-most : (from x : ℕ) → nat_le from x ≡ true → from ≤ x
is-at-most from x is = grind (arith, is)

-- a search that finds nothing finds nothing in what is left
none-left : (from first : ℕ) (own : Bool) (numbers : List ℕ) → find (λ n. nat_le from n) (cond own (first ∷ numbers) numbers) ≡ None →
    find (λ n. nat_le from n) numbers ≡ None
none-left from first false numbers none = none
none-left from first true numbers none = by (nat_le from first) none
  where
    by : (b : Bool) → cond b (Some first) (find (λ n. nat_le from n) numbers) ≡ None → find (λ n. nat_le from n) numbers ≡ None
    by true e = cc
    by false e = e

-- one that finds a number finds the first, or it is found in what is left
some-left : (from first number : ℕ) (own : Bool) (numbers : List ℕ) →
    find (λ n. nat_le from n) (cond own (first ∷ numbers) numbers) ≡ Some number →
    ((own ≡ true) × (nat_le from first ≡ true) × (first ≡ number)) ⊎
    (((own ≡ true) → nat_le from first ≡ false) × (find (λ n. nat_le from n) numbers ≡ Some number))
some-left from first number false numbers some = inr ((λ e. cc), some)
some-left from first number true numbers some = by (nat_le from first) some
  where
    by : (b : Bool) → cond b (Some first) (find (λ n. nat_le from n) numbers) ≡ Some number →
        ((true ≡ true) × (b ≡ true) × (first ≡ number)) ⊎ (((true ≡ true) → b ≡ false) × (find (λ n. nat_le from n) numbers ≡ Some number))
    by true e = inl (refl, refl, cc)
    by false e = inr ((λ x. refl), e)

-- where none is found, no message from there on is to this node
pub none-found : (from first : ℕ) (name : NodeName) (messages : List Message) (k : ℕ) (message : Message) →
    find (λ n. nat_le from n) (numbers_from first name messages) ≡ None → slice_get messages k ≡ Some message →
    same_node (node_of message.to) name ≡ true → from ≤ first + k → ⊥
none-found from first name [] k message none at own le = cc
none-found from first name (m ∷ messages) zero message none at own le =
    let same : m ≡ message = cc in
    let mine : same_node (node_of m.to) name ≡ true = ap (λ (x : Message). same_node (node_of x.to) name) same ∙ own in
    let rest = numbers_from (first + 1) name messages in
    let e : find (λ n. nat_le from n) (first ∷ rest) ≡ None =
    ap (λ b. find (λ n. nat_le from n) (cond b (first ∷ rest) rest)) (sym mine) ∙ none in
    let f : cond true (Some first) (find (λ n. nat_le from n) rest) ≡ None =
    ap (λ b. cond b (Some first) (find (λ n. nat_le from n) rest)) (sym (at-most from first (omega (arith, le)))) ∙ e in
    cc
none-found from first name (m ∷ messages) (suc k) message none at own le =
    none-found from (first + 1) name messages k message
    (none-left from first (same_node (node_of m.to) name) (numbers_from (first + 1) name messages) none) at own (omega (arith, le))

-- where one is found, no message from there on to this node comes before it,
pub none-before : (from first number : ℕ) (name : NodeName) (messages : List Message) (k : ℕ) (message : Message) →
    find (λ n. nat_le from n) (numbers_from first name messages) ≡ Some number → slice_get messages k ≡ Some message →
    same_node (node_of message.to) name ≡ true → from ≤ first + k → number ≤ first + k
none-before from first number name [] k message some at own le = cc
none-before from first number name (m ∷ messages) zero message some at own le =
    let same : m ≡ message = cc in
    let mine : same_node (node_of m.to) name ≡ true = ap (λ (x : Message). same_node (node_of x.to) name) same ∙ own in
    elim (some-left from first number (same_node (node_of m.to) name) (numbers_from (first + 1) name messages) some) [
      | inl here ↦ (let e : first ≡ number = here.2 in omega (arith, e))
      | inr later ↦ (let no : nat_le from first ≡ false = later.0 mine in
          let yes : nat_le from first ≡ true = at-most from first (omega (arith, le)) in cc)
    ]
none-before from first number name (m ∷ messages) (suc k) message some at own le =
    elim (some-left from first number (same_node (node_of m.to) name) (numbers_from (first + 1) name messages) some) [
      | inl here ↦ (let e : first ≡ number = here.2 in omega (arith, e))
      | inr later ↦ (let h = none-before from (first + 1) number name messages k message later.1 at own (omega (arith, le)) in
          omega (arith, h))
    ]

-- and it is not below where the search began, and is the number of a message
pub within-found : (from first number : ℕ) (name : NodeName) (messages : List Message) →
    find (λ n. nat_le from n) (numbers_from first name messages) ≡ Some number → (from ≤ number) × (number < first + length messages)
within-found from first number name [] some = cc
within-found from first number name (m ∷ messages) some =
    elim (some-left from first number (same_node (node_of m.to) name) (numbers_from (first + 1) name messages) some) [
      | inl here ↦ (let e : first ≡ number = here.2 in
          let le : from ≤ first = is-at-most from first here.1 in (omega (arith, e, le), omega (arith, e)))
      | inr later ↦ (let h = within-found from (first + 1) number name messages later.1 in (h.0, omega (arith, h.1)))
    ]

-- a number that is found is not below where counting begins,
found-above : (from first number : ℕ) (name : NodeName) (messages : List Message) →
    find (λ n. nat_le from n) (numbers_from first name messages) ≡ Some number → first ≤ number
found-above from first number name [] some = cc
found-above from first number name (m ∷ messages) some =
    elim (some-left from first number (same_node (node_of m.to) name) (numbers_from (first + 1) name messages) some) [
      | inl here ↦ (let e : first ≡ number = here.2 in omega (arith, e))
      | inr later ↦ (let h = found-above from (first + 1) number name messages later.1 in omega (arith, h))
    ]

-- and is that of a message to this node
pub found-own : (from first number : ℕ) (name : NodeName) (messages : List Message) (k : ℕ) (message : Message) →
    find (λ n. nat_le from n) (numbers_from first name messages) ≡ Some number → slice_get messages k ≡ Some message →
    number ≡ first + k → same_node (node_of message.to) name ≡ true
found-own from first number name [] k message some at is = cc
found-own from first number name (m ∷ messages) zero message some at is =
    let same : m ≡ message = cc in
    elim (some-left from first number (same_node (node_of m.to) name) (numbers_from (first + 1) name messages) some) [
      | inl here ↦ ap (λ (x : Message). same_node (node_of x.to) name) (sym same) ∙ here.0
      | inr later ↦ (let h = found-above from (first + 1) number name messages later.1 in absurd (omega (arith, h, is)))
    ]
found-own from first number name (m ∷ messages) (suc k) message some at is =
    elim (some-left from first number (same_node (node_of m.to) name) (numbers_from (first + 1) name messages) some) [
      | inl here ↦ (let e : first ≡ number = here.2 in absurd (omega (arith, e, is)))
      | inr later ↦ found-own from (first + 1) number name messages k message later.1 at (omega (arith, is))
    ]
