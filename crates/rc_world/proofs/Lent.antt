-- A message that was taken out of its list, and put back at the end.
use Rattle.std.proofs.Common.{◌≡◌, ℕ, ◌<◌, zero, suc, List, [], ◌∷◌, ◌++◌, length, slice_set, refl, sym, ap, subst, ◌∙◌}
use Rattle.std.proofs.lemmas.List.{set-get_or, set-append_left, length-set}
use Rattle.rc_types.specs.declared.messages.Message.{Message}
use Rattle.rc_world.specs.Lending.{nothing, message_at}

set-set : {X : Type 0} (xs : List X) (n : ℕ) (a b : X) → slice_set (slice_set xs n a) n b ≡ slice_set xs n b
set-set [] n a b = refl
set-set (x ∷ xs) zero a b = refl
set-set {X = X} (x ∷ xs) (suc n) a b = ap (λ (ys : List X). x ∷ ys) (set-set xs n a b)

-- it is put back, and nothing was sent
pub given_back : (sent : List Message) (number : ℕ) → slice_set (slice_set sent number nothing) number (message_at sent number) ≡ sent
given_back sent number = set-set sent number nothing (message_at sent number) ∙ set-get_or sent number nothing

still_there : (sent : List Message) (number : ℕ) → number < length sent → number < length (slice_set sent number nothing)
still_there sent number there = subst (λ (n : ℕ). number < n) (sym (length-set sent number nothing)) there

-- it is put back, after more was sent
pub given_back-after : (sent more : List Message) (number : ℕ) → number < length sent →
    slice_set (slice_set sent number nothing ++ more) number (message_at sent number) ≡ sent ++ more
given_back-after sent more number there =
    set-append_left (slice_set sent number nothing) more number (message_at sent number) (still_there sent number there)
    ∙ ap (λ (front : List Message). front ++ more) (given_back sent number)

-- the message was taken out, what it brings about was sent, and it was put back
pub sent_after : (F : Message → List Message) (sent lent mid after : List Message) (number : ℕ) (message : Message) → number < length sent →
    message ≡ message_at sent number → lent ≡ slice_set sent number nothing → mid ≡ lent ++ F message →
    after ≡ slice_set mid number message →
    after ≡ sent ++ F (message_at sent number)
sent_after F sent lent mid after number message there is left says back =
    rw (back, says, left, is) (given_back-after sent (F (message_at sent number)) number there)

-- the message was taken out, nothing was sent, and it was put back
pub sent_nothing : (sent lent mid after : List Message) (number : ℕ) (message : Message) →
    message ≡ message_at sent number → lent ≡ slice_set sent number nothing → mid ≡ lent →
    after ≡ slice_set mid number message → after ≡ sent
sent_nothing sent lent mid after number message is left says back = rw (back, says, left, is) (given_back sent number)
