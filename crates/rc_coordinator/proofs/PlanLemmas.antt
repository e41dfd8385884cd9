-- The parts of a recovery, given in turn.
use Rattle.std.proofs.Common.{◌≡◌, ℕ, ◌+◌, ◌%◌, List, [], ◌∷◌, ◌++◌, length, slice_get, Some, append_assoc, sym, ap, ◌∙◌}
use Rattle.rc_model.specs.Model.{ServerId, Tablet, GivenPart, part_of, gives_parts, given_to}

-- a tablet is given next
pub given-next : (ids : List ServerId) (place term next_place next_term : ℕ) (parts now : List GivenPart)
    (tablet : Tablet) (rest : List Tablet) (to : ServerId)
    → slice_get ids (place % length ids) ≡ Some to →
    now ≡ parts ++ (record { to = to; part = part_of tablet term }) ∷ [] → next_place ≡ place + 1 →
    next_term ≡ term + 1
    → now ++ gives_parts ids next_place next_term rest ≡ parts ++ gives_parts ids place term (tablet ∷ rest)
given-next ids place term next_place next_term parts now tablet rest to found next np nt =
    let one : GivenPart = record { to = to; part = part_of tablet term } in
    let others : List GivenPart = gives_parts ids (place + 1) (term + 1) rest in
    ap (λ p. now ++ gives_parts ids p next_term rest) np
    ∙ ap (λ t. now ++ gives_parts ids (place + 1) t rest) nt
    ∙ ap (λ l. l ++ others) next
    ∙ append_assoc parts (one ∷ []) others
    ∙ ap (λ o. parts ++ given_to o (part_of tablet term) others) (sym found)
