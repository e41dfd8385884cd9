-- Room to note of each part whose end wasn't told that it is.
use Rattle.std.proofs.Common.{◌≡◌, ℕ, ◌+◌, ◌≤◌, inl, inr, Bool, true, false, cond, nat_eq, Some, List, [], ◌∷◌, ◌++◌, length, length-append}
use Rattle.std.proofs.Common.{take, zero, suc, ap, ◌∙◌, refl, arith}
use Rattle.std.specs.Map.{lookup, set_value}
use Rattle.rc_types.specs.declared.kept.GrantedRange.{GrantedRange}
use Rattle.rc_model.specs.Ownership.{PartState, joined, all_came, entries_that_came}
use Rattle.rc_ownership.specs.declared.part.Before.{Before}
use Rattle.rc_ownership.specs.Parts.{parts_in, part_before, undo_in, undone, untold, count_untold}
use Rattle.rc_ownership.specs.Unfinished.{HoldOthers, HoldUnfinished, is_finished}
use Rattle.rc_ownership.proofs.Places.{finished-parts}

untold-small : (state : PartState) → untold state ≤ 1
untold-small state = by state.answered
  where
    by : (b : Bool) → cond b 0 1 ≤ 1
    by true = omega arith
    by false = omega arith

pub untold-told : (state : PartState) → state.answered ≡ true → untold state ≡ 0
untold-told state told = ap (λ b. cond b 0 1) told

pub untold-not : (state : PartState) → state.answered ≡ false → untold state ≡ 1
untold-not state told = ap (λ b. cond b 0 1) told

-- one part changed
pub untold-set : (term : ℕ) (entries : List (ℕ × PartState)) (old new : PartState) → lookup (nat_eq term) entries ≡ Some old →
    count_untold (parts_in (set_value (nat_eq term) entries new)) + untold old ≡ count_untold (parts_in entries) + untold new
untold-set term [] old new found = absurd (cc)
untold-set term (entry ∷ entries) old new found = by (nat_eq term entry.0) found (untold-set term entries old new)
  where
    by : (b : Bool) → cond b (Some entry.1) (lookup (nat_eq term) entries) ≡ Some old →
        (lookup (nat_eq term) entries ≡ Some old →
        count_untold (parts_in (set_value (nat_eq term) entries new)) + untold old ≡ count_untold (parts_in entries) + untold new) →
        count_untold (parts_in (cond b ((entry.0, new) ∷ entries) (entry ∷ set_value (nat_eq term) entries new))) + untold old
        ≡ untold entry.1 + count_untold (parts_in entries) + untold new
    by true is later =
        let it : entry.1 ≡ old = cc in
        let same : untold entry.1 ≡ untold old = ap untold it in
        let goal : untold new + count_untold (parts_in entries) + untold old
        ≡ untold entry.1 + count_untold (parts_in entries) + untold new = omega (arith, same) in
        goal
    by false is later =
        let rest = later is in
        let goal : untold entry.1 + count_untold (parts_in (set_value (nat_eq term) entries new)) + untold old
        ≡ untold entry.1 + count_untold (parts_in entries) + untold new = omega (arith, rest) in
        goal

-- what is undone makes one end untold at most
untold-undo : (change : ℕ × Before) (entries : List (ℕ × PartState)) →
    count_untold (parts_in (undo_in change entries)) ≤ 1 + count_untold (parts_in entries)
untold-undo change [] = omega arith
untold-undo change (entry ∷ entries) = by (nat_eq change.0 entry.0) (untold-undo change entries)
  where
    by : (b : Bool) → count_untold (parts_in (undo_in change entries)) ≤ 1 + count_untold (parts_in entries) →
        count_untold (parts_in (cond b ((entry.0, part_before change.1 entry.1) ∷ entries) (entry ∷ undo_in change entries)))
        ≤ 1 + (untold entry.1 + count_untold (parts_in entries))
    by true later =
        let small = untold-small (part_before change.1 entry.1) in
        let goal : untold (part_before change.1 entry.1) + count_untold (parts_in entries)
        ≤ 1 + (untold entry.1 + count_untold (parts_in entries)) = omega (arith, small) in
        goal
    by false later =
        let goal : untold entry.1 + count_untold (parts_in (undo_in change entries))
        ≤ 1 + (untold entry.1 + count_untold (parts_in entries)) = omega (arith, later) in
        goal

untold-undone : (changes : List (ℕ × Before)) (entries : List (ℕ × PartState)) →
    count_untold (parts_in (undone changes entries)) ≤ length changes + count_untold (parts_in entries)
untold-undone [] entries = omega arith
untold-undone (change ∷ changes) entries =
    let first = untold-undo change (undone changes entries) in
    let rest = untold-undone changes entries in
    let goal : count_untold (parts_in (undo_in change (undone changes entries)))
    ≤ suc (length changes) + count_untold (parts_in entries) = omega (arith, first, rest) in
    goal

untold-take : (count : ℕ) (entries : List (ℕ × PartState)) →
    count_untold (parts_in (take count entries)) ≤ count_untold (parts_in entries)
untold-take zero [] = omega arith
untold-take zero (entry ∷ entries) = omega arith
untold-take (suc count) [] = omega arith
untold-take (suc count) (entry ∷ entries) =
    let rest = untold-take count entries in
    let goal : untold entry.1 + count_untold (parts_in (take count entries))
    ≤ untold entry.1 + count_untold (parts_in entries) = omega (arith, rest) in
    goal

untold-push : (entries : List (ℕ × PartState)) (entry : ℕ × PartState) →
    count_untold (parts_in (entries ++ entry ∷ [])) ≤ 1 + count_untold (parts_in entries)
untold-push [] entry =
    let small = untold-small entry.1 in
    let goal : untold entry.1 + 0 ≤ 1 + 0 = omega (arith, small) in
    goal
untold-push (first ∷ entries) entry =
    let rest = untold-push entries entry in
    let goal : untold first.1 + count_untold (parts_in (entries ++ entry ∷ []))
    ≤ 1 + (untold first.1 + count_untold (parts_in entries)) = omega (arith, rest) in
    goal

-- the parts whose end wasn't told are among those that may be unfinished
untold-within : (grants : List GrantedRange) (at : ℕ) (places : List ℕ) (parts : List PartState) →
    HoldOthers (λ state. is_finished grants state ≡ true) at places parts → count_untold parts ≤ length places
untold-within grants at places [] none = omega arith
untold-within grants at places (state ∷ parts) (inl (done, rest)) =
    let told = untold-told state (finished-parts grants state done).1 in
    let later = untold-within grants (at + 1) places parts rest in
    let goal : untold state + count_untold parts ≤ length places = omega (arith, told, later) in
    goal
untold-within grants at places (state ∷ parts) (inr (others, is, rest)) =
    let small = untold-small state in
    let later = untold-within grants (at + 1) others parts rest in
    let long : length places ≡ suc (length others) = ap length is in
    let goal : untold state + count_untold parts ≤ length places = omega (arith, small, later, long) in
    goal

-- a row that came tells no end
pub joined-answered : (state : PartState) → (joined state).answered ≡ state.answered
joined-answered state = by (all_came state.rows)
  where
    by : (b : Bool) →
        (cond b (record state { rows = []; size = length (entries_that_came state.rows) }) state).answered ≡ state.answered
    by true = refl
    by false = refl

-- Room stays

-- one more part was begun, and room was made for it
pub room-push : (entries now : List (ℕ × PartState)) (entry : ℕ × PartState) (changes : List (ℕ × Before))
    (grants : List GrantedRange) (places : List ℕ) (room : ℕ) → HoldUnfinished grants places (parts_in entries) →
    now ≡ entries ++ entry ∷ [] → length changes + (length places + 1) ≤ room →
    length changes + count_untold (parts_in now) ≤ room
room-push entries now entry changes grants places room hold last enough =
    let within = untold-within grants 0 places (parts_in entries) hold in
    let more = untold-push entries entry in
    let same : count_untold (parts_in now) ≡ count_untold (parts_in (entries ++ entry ∷ [])) =
    ap (λ es. count_untold (parts_in es)) last in
    omega (arith, within, more, same, enough)

-- a change of a part whose end is as it was
pub room-change : (entries changed : List (ℕ × PartState)) (changes now : List (ℕ × Before)) (change : ℕ × Before)
    (term : ℕ) (old new : PartState) (grants : List GrantedRange) (places : List ℕ) (room : ℕ) →
    HoldUnfinished grants places (parts_in entries) → lookup (nat_eq term) entries ≡ Some old →
    changed ≡ set_value (nat_eq term) entries new → now ≡ changes ++ change ∷ [] → new.answered ≡ old.answered →
    length changes + (length places + 1) ≤ room → length now + count_untold (parts_in changed) ≤ room
room-change entries changed changes now change term old new grants places room hold found written noted told enough =
    let within = untold-within grants 0 places (parts_in entries) hold in
    let set = untold-set term entries old new found in
    let same : count_untold (parts_in changed) ≡ count_untold (parts_in (set_value (nat_eq term) entries new)) =
    ap (λ es. count_untold (parts_in es)) written in
    let ends : untold new ≡ untold old = ap (λ b. cond b 0 1) told in
    let long : length now ≡ length changes + 1 = ap length noted ∙ length-append changes (change ∷ []) in
    omega (arith, within, set, same, ends, long, enough)

-- there is room where an end wasn't told
pub room-there : (entries : List (ℕ × PartState)) (changes : List (ℕ × Before)) (term : ℕ) (old new : PartState) (room : ℕ) →
    length changes + count_untold (parts_in entries) ≤ room → lookup (nat_eq term) entries ≡ Some old →
    old.answered ≡ false → new.answered ≡ true → length changes + 1 ≤ room
room-there entries changes term old new room within found before after =
    let set = untold-set term entries old new found in
    let one = untold-not old before in
    let none = untold-told new after in
    omega (arith, within, set, one, none)

-- an end was told
pub room-told : (entries changed : List (ℕ × PartState)) (changes now : List (ℕ × Before)) (change : ℕ × Before)
    (term : ℕ) (old new : PartState) (room after : ℕ) →
    length changes + count_untold (parts_in entries) ≤ room → lookup (nat_eq term) entries ≡ Some old →
    changed ≡ set_value (nat_eq term) entries new → now ≡ changes ++ change ∷ [] → old.answered ≡ false →
    new.answered ≡ true → room ≤ after → length now + count_untold (parts_in changed) ≤ after
room-told entries changed changes now change term old new room after within found written noted untold_before told more =
    let set = untold-set term entries old new found in
    let same : count_untold (parts_in changed) ≡ count_untold (parts_in (set_value (nat_eq term) entries new)) =
    ap (λ es. count_untold (parts_in es)) written in
    let one = untold-not old untold_before in
    let none = untold-told new told in
    let long : length now ≡ length changes + 1 = ap length noted ∙ length-append changes (change ∷ []) in
    omega (arith, within, set, same, one, none, long, more)

-- each part is again what it was
pub room-restored : (entries now : List (ℕ × PartState)) (changes left : List (ℕ × Before)) (kept room : ℕ) →
    length changes + count_untold (parts_in entries) ≤ room → now ≡ take kept (undone changes entries) → left ≡ [] →
    length left + count_untold (parts_in now) ≤ room
room-restored entries now changes left kept room within is none =
    let cut = untold-take kept (undone changes entries) in
    let back = untold-undone changes entries in
    let same : count_untold (parts_in now) ≡ count_untold (parts_in (take kept (undone changes entries))) =
    ap (λ es. count_untold (parts_in es)) is in
    let nothing : length left ≡ 0 = ap length none in
    omega (arith, within, cut, back, same, nothing)
