-- Lists of an index, one of which is changed.
use Rattle.std.proofs.Common.{◌≡◌, ◌≢◌, ℕ, ◌+◌, ◌<◌, ◌≤◌, ⊎_elim, List, length, Some, slice_get, slice_set, sym, ap, ◌∙◌, subst, arith}
use Rattle.rc_model.specs.Model.{Message, node_of}
use Rattle.rc_types.specs.Names.{number_of}
use Rattle.rc_wire.proofs.Indexes.{get-set, get-set-other, same-or, some-is}

-- the lists of the nodes of the messages in these places are such
abbrev pub Reach : {V : Type 0} → (ℕ → Type 0) → (V → Type 0) → List V → List Message → Type 0
Reach {V} In P lists messages =
    (place : ℕ) (message : Message) (list : V) → In place → slice_get messages place ≡ Some message →
    slice_get lists (number_of (node_of message.to)) ≡ Some list → P list

-- one list more is such; the others stay
pub reach-more : {V : Type 0} (P : V → Type 0) (lists : List V) (messages : List Message) (upto : ℕ) (one : Message) (new : V) →
    Reach (λ place. place < upto) P lists messages → slice_get messages upto ≡ Some one →
    number_of (node_of one.to) < length lists → P new →
    Reach (λ place. place < upto + 1) P (slice_set lists (number_of (node_of one.to)) new) messages
reach-more {V} P lists messages upto one new before at within good place message list below there found =
    let k : ℕ = number_of (node_of one.to) in
    ⊎_elim (λ (same : k ≡ number_of (node_of message.to)).
    let here : slice_get (slice_set lists k new) k ≡ Some list = ap (slice_get (slice_set lists k new)) same ∙ found in
    subst P (some-is new list (sym (get-set lists k new within) ∙ here)) good)
    (λ (differ : k ≢ number_of (node_of message.to)).
    let earlier : slice_get lists (number_of (node_of message.to)) ≡ Some list =
    sym (get-set-other lists k (number_of (node_of message.to)) new differ) ∙ found in
    ⊎_elim (λ (same : place ≡ upto).
    let one_is : one ≡ message = some-is one message (sym at ∙ (ap (slice_get messages) (sym same) ∙ there)) in
    absurd (differ (ap (λ (m : Message). number_of (node_of m.to)) one_is)))
    (λ (other : place ≢ upto). before place message list (omega arith) there earlier)
    (same-or place upto))
    (same-or k (number_of (node_of message.to)))

-- one list is such; the others stay, and are such in the new sense too
pub reach-set : {V : Type 0} (P Q : V → Type 0) (from : ℕ) (lists : List V) (messages : List Message) (k : ℕ) (new : V) →
    Reach (λ place. from ≤ place) P lists messages → k < length lists → Q new → ((list : V) → P list → Q list) →
    Reach (λ place. from + 1 ≤ place) Q (slice_set lists k new) messages
reach-set {V} P Q from lists messages k new before within good weaker place message list above there found =
    ⊎_elim (λ (same : k ≡ number_of (node_of message.to)).
    let here : slice_get (slice_set lists k new) k ≡ Some list = ap (slice_get (slice_set lists k new)) same ∙ found in
    subst Q (some-is new list (sym (get-set lists k new within) ∙ here)) good)
    (λ (differ : k ≢ number_of (node_of message.to)).
    let earlier : slice_get lists (number_of (node_of message.to)) ≡ Some list =
    sym (get-set-other lists k (number_of (node_of message.to)) new differ) ∙ found in
    weaker list (before place message list (omega arith) there earlier))
    (same-or k (number_of (node_of message.to)))
