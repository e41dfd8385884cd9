-- Versions rise over owners: write by write.
use Rattle.std.proofs.Common.{◌≡◌, ℕ, Bool, true, false, not, ◌&&◌, List, [], ◌∷◌, Option, Some, None}
use Rattle.std.proofs.Common.{nat_eq, nat_lt, refl, ◌∙◌, inl, inr, subst, arith}
use Rattle.std.specs.BTreeMap.{BTreeMap, get}
use Rattle.std.proofs.lemmas.Bool.{cond-false, and_parts, eqb-true, false_from_ne_true}
use Rattle.std.proofs.lemmas.Bool.Decides.{nat_tests}
use Rattle.rc_model.specs.Model.{Message, Version, Ack, all_acknowledged, is_earlier, falls, first_fall, In}
use Rattle.rc_audit.specs.declared.highs.TermKey.{TermKey}
use Rattle.rc_audit.specs.Highs.{key_order, ack_key, is_level}
use Rattle.rc_audit.specs.Bars.{IsBar, AreBars}

-- a write above its bar falls from none
fall_none : (sent : List Message) (later : Ack) (acks : List Ack) →
    ((earlier : Ack) → In earlier acks → falls sent later earlier ≡ false) → first_fall sent later acks ≡ None
fall_none sent later [] each = refl
fall_none sent later (first ∷ acks) each =
    cond-false (falls sent later first)
    (Some (Version later.table later.key first.term first.version later.term later.version))
    (first_fall sent later acks) (each first (inl refl))
    ∙ fall_none sent later acks (λ other at. each other (inr at))

pub above_bar : (sent : List Message) (later : Ack) (bar : Option ℕ) → IsBar bar sent (ack_key later) →
    is_level bar later.version ≡ false → first_fall sent later (all_acknowledged sent) ≡ None
above_bar sent later bar is above = fall_none sent later (all_acknowledged sent)
    (λ earlier at. false_from_ne_true (falls sent later earlier) (no_fall earlier at))
  where
    less : (found : Option ℕ) (high low : ℕ) → is_level found high ≡ true → is_level found low ≡ false → nat_lt high low ≡ false → ⊥
    less None high low e f g = cc
    less (Some most) high low e f g = grind (arith, nat_tests)

    not_true : (b : Bool) → not b ≡ true → b ≡ false
    not_true true e = cc
    not_true false e = refl

    no_fall : (earlier : Ack) → In earlier (all_acknowledged sent) → falls sent later earlier ≡ true → ⊥
    no_fall earlier at e =
        let one = and_parts (nat_eq earlier.table later.table) (nat_eq earlier.key later.key &&
        (not (nat_lt earlier.version later.version) && is_earlier sent later.table later.key earlier.term
        later.term)) e in
        let two = and_parts (nat_eq earlier.key later.key) (not (nat_lt earlier.version later.version) &&
        is_earlier sent later.table later.key earlier.term later.term) one.1 in
        let three = and_parts (not (nat_lt earlier.version later.version))
        (is_earlier sent later.table later.key earlier.term later.term) two.1 in
        less bar earlier.version later.version
        (is.each earlier at (eqb-true earlier.table later.table one.0) (eqb-true earlier.key later.key two.0) three.1)
        above (not_true (nat_lt earlier.version later.version) three.0)

-- above a bar that a table has
pub above_found : (bars : BTreeMap TermKey (Option ℕ)) (sent : List Message) (later : Ack) (key : TermKey) (bar : Option ℕ) →
    AreBars bars sent → key ≡ ack_key later → get key_order bars key ≡ Some bar → not (is_level bar later.version) ≡ true →
    first_fall sent later (all_acknowledged sent) ≡ None
above_found bars sent later key bar are same found above =
    above_bar sent later bar (subst (λ (k : TermKey). IsBar bar sent k) same (are.each key bar found))
    (not_level (is_level bar later.version) above)
  where
    not_level : (b : Bool) → not b ≡ true → b ≡ false
    not_level true e = cc
    not_level false e = refl
