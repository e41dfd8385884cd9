-- The events of a legal history can all happen, one after another.
use Rattle.std.proofs.Common.{◌≡◌, ℕ, zero, suc, ◌<◌, nat_lt, Bool, true, false, ◌&&◌, List, [], ◌∷◌, length, take, Some, slice_get}
use Rattle.std.proofs.Common.{refl, sym, ap, ◌∙◌, subst, arith}
use Rattle.std.specs.Option.{IfSome}
use Rattle.std.proofs.lemmas.Bool.{and_parts}
use Rattle.std.proofs.lemmas.List.{length-take-le}
use Rattle.std.proofs.lemmas.Option.{slice_get_within}
use Rattle.rc_model.specs.Model.{Event, MAX_EVENTS, World, opening, replay_from, replay, is_possible, step}
use Rattle.rc_model.proofs.Tests.{true_false}
use Rattle.rc_history.specs.Events.{is_legal_from}
use Rattle.rc_world.specs.Happened.{Happened, opened, with_events, can_happen}
use Rattle.rc_wire.specs.Names.{WireName}
use Rattle.rc_wire.specs.Sound.{IsHistory}

some-is : {X : Type 0} (a b : X) → Some a ≡ Some b → a ≡ b
some-is a b e = cc

-- each event of a legal list is possible where it stands
legal-at : (world : World) (events : List Event) (n : ℕ) (event : Event) → is_legal_from world events ≡ true →
    slice_get events n ≡ Some event → is_possible (replay_from world (take n events)) event ≡ true
legal-at world [] n event legal at = cc
legal-at world (first ∷ events) zero event legal at =
    let parts = and_parts (is_possible world first) (is_legal_from (step world first) events) legal in
    ap (is_possible world) (sym (some-is first event at)) ∙ parts.0
legal-at world (first ∷ events) (suc n) event legal at =
    let parts = and_parts (is_possible world first) (is_legal_from (step world first) events) legal in
    legal-at (step world first) events n event parts.1 at

both : (a b : Bool) → a ≡ true → b ≡ true → (a && b) ≡ true
both a b p q = ap (λ c. c && b) p ∙ q

-- so none of them is refused
pub none-refused : (name : WireName) (events : List Event) (n : ℕ) (event : Event) (stopped : Happened) → IsHistory name events →
    slice_get events n ≡ Some event → stopped ≡ with_events (opened name.setup) (take n events) → can_happen stopped event ≡ false → ⊥
none-refused name events n event stopped history at is refused =
    let within : n < length events = slice_get_within events n event at in
    let few : length (take n events) ≡ n = length-take-le n events (omega (arith, within)) in
    let room : nat_lt (length (take n events)) MAX_EVENTS ≡ true = grind (arith, few, within, history.few) in
    let can : can_happen stopped event ≡ true =
    ap (λ (w : Happened). can_happen w event) is
    ∙ both (nat_lt (length (take n events)) MAX_EVENTS) (is_possible (replay name.setup (take n events)) event) room
    (legal-at (opening name.setup) events n event history.legal at) in
    true_false (sym can ∙ refused)

event-at : (events : List Event) (n : ℕ) → n < length events → (event : Event) × (slice_get events n ≡ Some event)
event-at [] n within = absurd (omega (arith, within))
event-at (first ∷ events) zero within = (first, refl)
event-at (first ∷ events) (suc n) within = event-at events n (omega (arith, within))

pub not-refused : (name : WireName) (events : List Event) (n : ℕ) (stopped : Happened) → IsHistory name events →
    n < length events → stopped ≡ with_events (opened name.setup) (take n events) →
    IfSome (slice_get events n) (λ event. can_happen stopped event ≡ false) → ⊥
not-refused name events n stopped history within is refused =
    let at = event-at events n within in
    none-refused name events n at.0 stopped history at.1 is (subst (λ o. IfSome o (λ event. can_happen stopped event ≡ false)) at.1 refused)
