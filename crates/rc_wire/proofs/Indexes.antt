-- An index goes on, message by message.
use Rattle.std.proofs.Common.{◌≡◌, ◌≢◌, ℕ, zero, suc, ◌+◌, ◌<◌, ◌⊎◌, inl, inr, ⊎_elim, List, [], ◌∷◌, ◌++◌, length, map, take, Some}
use Rattle.std.proofs.Common.{option_map, slice_get, slice_set, refl, sym, ap, ◌∙◌, subst, arith, length-append, append_assoc}
use Rattle.std.proofs.lemmas.List.{length-set, map-set}
use Rattle.std.proofs.lemmas.Option.{slice_get-map}
use Rattle.rc_model.specs.Model.{Message, node_of}
use Rattle.rc_wire.specs.Views.{name_at}
use Rattle.rc_types.specs.Names.{number_of}
use Rattle.rc_wire.specs.Numbers.{numbers_to}
use Rattle.rc_wire.specs.Index.{IsIndex}
use Rattle.rc_types.specs.declared.ids.TheConstants.{NODE_NUMBERS}
use Rattle.rc_wire.proofs.Named.{same_node-number, same_node-other}
use Rattle.rc_wire.proofs.Numbers.{numbers-own, numbers-other}

pub get-set : {A : Type 0} (l : List A) (i : ℕ) (a : A) → i < length l → slice_get (slice_set l i a) i ≡ Some a
get-set [] i a within = absurd (omega arith)
get-set (x ∷ xs) zero a within = refl
get-set (x ∷ xs) (suc i) a within = get-set xs i a (omega arith)

pub get-set-other : {A : Type 0} (l : List A) (i j : ℕ) (a : A) → i ≢ j → slice_get (slice_set l i a) j ≡ slice_get l j
get-set-other [] i j a differ = refl
get-set-other (x ∷ xs) zero zero a differ = absurd (differ refl)
get-set-other (x ∷ xs) zero (suc j) a differ = refl
get-set-other (x ∷ xs) (suc i) zero a differ = refl
get-set-other (x ∷ xs) (suc i) (suc j) a differ = get-set-other xs i j a (λ e. differ (ap suc e))

pub same-or : (i j : ℕ) → (i ≡ j) ⊎ (i ≢ j)
same-or zero zero = inl refl
same-or zero (suc j) = inr (λ e. absurd (omega arith))
same-or (suc i) zero = inr (λ e. absurd (omega arith))
same-or (suc i) (suc j) = ⊎_elim (λ (e : i ≡ j). inl (ap suc e)) (λ (d : i ≢ j). inr (λ e. d (omega arith))) (same-or i j)

pub some-is : {X : Type 0} (a b : X) → Some a ≡ Some b → a ≡ b
some-is a b e = cc

-- a message more, noted in the list of its node
pub index-push : (lists : List (List ℕ)) (sent : List Message) (message : Message) (list : List ℕ) →
    IsIndex lists sent → slice_get lists (number_of (node_of message.to)) ≡ Some list → number_of (node_of message.to) < NODE_NUMBERS →
    IsIndex (slice_set lists (number_of (node_of message.to)) (list ++ length sent ∷ [])) (sent ++ message ∷ [])
index-push lists sent message list index there within =
    let k : ℕ = number_of (node_of message.to) in
    let first : length sent ≡ 0 + length sent = omega arith in
    record {
      all = length-set lists k (list ++ length sent ∷ []) ∙ index.all;
      each = λ number below.
          ⊎_elim (λ (same : k ≡ number).
          let own : list ≡ numbers_to (name_at k) sent =
          some-is list (numbers_to (name_at k) sent) (sym there ∙ index.each k within) in
          let now : slice_get (slice_set lists k (list ++ length sent ∷ [])) k
          ≡ Some (numbers_to (name_at k) (sent ++ message ∷ [])) =
          get-set lists k (list ++ length sent ∷ []) (subst (λ n. k < n) (sym index.all) within)
          ∙ (ap (λ l. Some (l ++ length sent ∷ [])) own
          ∙ (ap (λ n. Some (numbers_to (name_at k) sent ++ n ∷ [])) first
          ∙ ap Some (sym (numbers-own 0 (name_at k) sent message (same_node-number (node_of message.to)))))) in
          subst (λ n. slice_get (slice_set lists k (list ++ length sent ∷ [])) n ≡ Some (numbers_to (name_at n) (sent ++ message ∷ [])))
          same now)
          (λ (differ : k ≢ number).
          get-set-other lists k number (list ++ length sent ∷ []) differ
          ∙ (index.each number below
          ∙ ap Some (sym (numbers-other 0 (name_at number) sent message (same_node-other (node_of message.to) number differ)))))
          (same-or k number);
    }

-- One message more of a list

take-suc : {A : Type 0} (xs : List A) (n : ℕ) (x : A) → slice_get xs n ≡ Some x → take (suc n) xs ≡ take n xs ++ x ∷ []
take-suc [] n x found = cc
take-suc (y ∷ xs) zero x found = ap (λ z. z ∷ []) (some-is y x found)
take-suc (y ∷ xs) (suc n) x found = ap (λ l. y ∷ l) (take-suc xs n x found)

pub take-more : {A : Type 0} (xs : List A) (n : ℕ) (x : A) → slice_get xs n ≡ Some x → take (n + 1) xs ≡ take n xs ++ x ∷ []
take-more xs n x found =
    let next : n + 1 ≡ suc n = omega arith in
    ap (λ m. take m xs) next ∙ take-suc xs n x found

pub take-length : {A : Type 0} (xs : List A) (n : ℕ) (x : A) → slice_get xs n ≡ Some x → length (take n xs) ≡ n
take-length [] n x found = cc
take-length (y ∷ xs) zero x found = refl
take-length (y ∷ xs) (suc n) x found = ap suc (take-length xs n x found)

pub note-step : {W : Type 0} (items : W → List ℕ) (lists : List W) (k : ℕ) (old new : W) (sent messages : List Message)
    (place first : ℕ) (message : Message) →
    IsIndex (map items lists) (sent ++ take place messages) → slice_get lists k ≡ Some old →
    k ≡ number_of (node_of message.to) → k < NODE_NUMBERS →
    slice_get messages place ≡ Some message → length sent ≡ first → items new ≡ items old ++ (first + place) ∷ [] →
    IsIndex (map items (slice_set lists k new)) (sent ++ take (place + 1) messages)
note-step {W} items lists k old new sent messages place first message index there is within at count pushed =
    let so_far : List Message = sent ++ take place messages in
    let many : first + place ≡ length so_far =
    omega (arith, length-append sent (take place messages), take-length messages place message at, count) in
    let here : slice_get (map items lists) (number_of (node_of message.to)) ≡ Some (items old) =
    ap (slice_get (map items lists)) (sym is) ∙ (slice_get-map items lists k ∙ ap (option_map items) there) in
    let noted : IsIndex (slice_set (map items lists) (number_of (node_of message.to)) (items old ++ length so_far ∷ []))
    (so_far ++ message ∷ []) =
    index-push (map items lists) so_far message (items old) index here (subst (λ n. n < NODE_NUMBERS) is within) in
    let longer : so_far ++ message ∷ [] ≡ sent ++ take (place + 1) messages =
    append_assoc sent (take place messages) (message ∷ []) ∙ ap (λ l. sent ++ l) (sym (take-more messages place message at)) in
    let lists_are : slice_set (map items lists) (number_of (node_of message.to)) (items old ++ length so_far ∷ [])
    ≡ map items (slice_set lists k new) =
    ap (λ n. slice_set (map items lists) n (items old ++ length so_far ∷ [])) (sym is)
    ∙ (ap (λ n. slice_set (map items lists) k (items old ++ n ∷ [])) (sym many)
    ∙ (ap (slice_set (map items lists) k) (sym pushed) ∙ sym (map-set items lists k new))) in
    subst (λ l. IsIndex l (sent ++ take (place + 1) messages)) lists_are
    (subst (IsIndex (slice_set (map items lists) (number_of (node_of message.to)) (items old ++ length so_far ∷ []))) longer noted)
