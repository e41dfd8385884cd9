-- The numbers of the messages that a seat has delivered.
use Rattle.std.proofs.Common.{◌≡◌, ℕ, Bool, true, false, ◌||◌, nat_eq, List, [], ◌∷◌, ◌++◌, refl, sym, ap, ◌∙◌}
use Rattle.std.specs.List.{list_any}
use Rattle.std.proofs.lemmas.List.{append-nil}
use Rattle.std.proofs.lemmas.List.Folds.{list_any-append}
use Rattle.rc_types.specs.declared.events.Event.TheVariants.{Deliver}
use Rattle.rc_model.specs.Model.{Event}
use Rattle.rc_history.specs.Nodes.{Node, event_of}
use Rattle.rc_types.specs.declared.events.NodeWork.{NodeWork}
use Rattle.rc_types.specs.declared.events.NodeWork.TheVariants as work
use Rattle.rc_wire.specs.Given.{is_delivery}
use Rattle.rc_wire.specs.Works.{is_delivery_of, was_delivered}

or-false : (b : Bool) → (b || false) ≡ b
or-false true = refl
or-false false = refl

or-swap : (a b : Bool) → (a || (b || false)) ≡ (b || a)
or-swap true true = refl
or-swap true false = refl
or-swap false true = refl
or-swap false false = refl

-- one event more
pub delivered-push : (mine : List Event) (event : Event) (n : ℕ) →
    was_delivered (mine ++ event ∷ []) n ≡ (was_delivered mine n || (is_delivery_of n event || false))
delivered-push mine event n = list_any-append (is_delivery_of n) mine (event ∷ [])

-- a work that is no delivery delivers nothing
none-delivered : (node : Node) (given : NodeWork) (n : ℕ) → is_delivery given ≡ false → is_delivery_of n (event_of node 0 given) ≡ false
none-delivered node (work.Deliver message) n is = cc
none-delivered node _ n is = refl

-- so the numbers stay those of the messages that were delivered
pub given-noted : (numbers : List ℕ) (mine : List Event) (event : Event) (node : Node) (given : NodeWork) → is_delivery given ≡ false →
    event ≡ event_of node 0 given → ((n : ℕ) → list_any (nat_eq n) numbers ≡ was_delivered (mine ++ []) n) →
    (n : ℕ) → list_any (nat_eq n) numbers ≡ was_delivered (mine ++ event ∷ []) n
given-noted numbers mine event node given none is h n =
    let quiet : is_delivery_of n event ≡ false = ap (is_delivery_of n) is ∙ none-delivered node given n none in
    h n ∙ (ap (λ (l : List Event). was_delivered l n) (append-nil mine)
    ∙ sym (delivered-push mine event n ∙ (ap (λ b. was_delivered mine n || (b || false)) quiet ∙ or-false (was_delivered mine n))))

-- and with the number of one that is delivered, they are
pub message-noted : (old new : List ℕ) (mine : List Event) (event : Event) (number : ℕ) → event ≡ Deliver number →
    ((n : ℕ) → list_any (nat_eq n) new ≡ (nat_eq n number || list_any (nat_eq n) old)) →
    ((n : ℕ) → list_any (nat_eq n) old ≡ was_delivered (mine ++ []) n) →
    (n : ℕ) → list_any (nat_eq n) new ≡ was_delivered (mine ++ event ∷ []) n
message-noted old new mine event number is noted h n =
    let before : list_any (nat_eq n) old ≡ was_delivered mine n = h n ∙ ap (λ (l : List Event). was_delivered l n) (append-nil mine) in
    noted n ∙ (ap (λ b. nat_eq n number || b) before
    ∙ sym (delivered-push mine event n ∙ (ap (λ (e : Event). was_delivered mine n || (is_delivery_of n e || false)) is
    ∙ or-swap (was_delivered mine n) (nat_eq n number))))
