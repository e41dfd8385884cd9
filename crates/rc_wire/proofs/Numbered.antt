-- What a look and a step keep.
use Rattle.std.proofs.Common.{◌≡◌, ℕ, zero, suc, ◌+◌, ◌<◌, Bool, true, ◌&&◌, List, [], ◌∷◌, ◌++◌, length, map, refl, sym, ap, ◌∙◌}
use Rattle.std.proofs.Common.{subst, length-append, arith}
use Rattle.std.specs.List.{range_with_len}
use Rattle.rc_model.specs.Model.{Setup, Event, Message, MAX_EVENTS, opening, replay, is_possible}
use Rattle.rc_history.specs.Events.{is_legal}
use Rattle.rc_history.proofs.Longer.{legal_from-append, events_of-other}
use Rattle.rc_wire.specs.declared.ledger.Ledger.{Ledger}
use Rattle.rc_wire.specs.declared.view.Place.{Place}
use Rattle.rc_wire.specs.declared.view.View.{View}
use Rattle.rc_wire.specs.Views.{name_at, at_place, new_place}
use Rattle.rc_wire.specs.Passes.{Pass, view, IsPassOf, Added}
use Rattle.rc_wire.proofs.Named.{other-names}
use Rattle.rc_wire.specs.Names.{WireName}
use Rattle.rc_wire.specs.Index.{IsIndex}
use Rattle.rc_wire.specs.Tokens.{place_if, place_in}
use Rattle.rc_wire.specs.Sound.{desk_of, IsHistory, Sound}
use Rattle.rc_wire.specs.JournalCalls.{new_places, IsStep}

-- what a token that sits for a node knows
pub place-as : (pass : Pass) (place : Place) → view pass ≡ at_place place → place_in pass ≡ place
place-as pass place e = ap (λ (v : View). place_if v.place) e

pub sits-as : (pass : Pass) (place : Place) → view pass ≡ at_place place → view pass ≡ at_place (place_in pass)
sits-as pass place e = e ∙ ap at_place (sym (place-as pass place e))

-- one number more
range-suc : (a n : ℕ) → range_with_len a (suc n) ≡ range_with_len a n ++ (a + n) ∷ []
range-suc a zero =
    let same : a ≡ a + 0 = omega arith in ap (λ m. m ∷ []) same
range-suc a (suc n) =
    let same : (a + 1) + n ≡ a + suc n = omega arith in
    ap (λ l. a ∷ l) (range-suc (a + 1) n) ∙ ap (λ m. a ∷ (range_with_len (a + 1) n ++ m ∷ [])) same

range-push : (a n : ℕ) → range_with_len a (n + 1) ≡ range_with_len a n ++ (a + n) ∷ []
range-push a n =
    let next : n + 1 ≡ suc n = omega arith in
    ap (range_with_len a) next ∙ range-suc a n

map-push : {A B : Type 0} (f : A → B) (xs : List A) (x : A) → map f (xs ++ x ∷ []) ≡ map f xs ++ f x ∷ []
map-push f [] x = refl
map-push f (y ∷ xs) x = ap (λ l. f y ∷ l) (map-push f xs x)

-- what is made of each number below one more
pub numbered-push : {A : Type 0} (f : ℕ → A) (n : ℕ) → map f (range_with_len 0 (n + 1)) ≡ map f (range_with_len 0 n) ++ f n ∷ []
numbered-push f n =
    let same : 0 + n ≡ n = omega arith in
    ap (map f) (range-push 0 n) ∙ (map-push f (range_with_len 0 n) (0 + n) ∙ ap (λ m. map f (range_with_len 0 n) ++ f m ∷ []) same)

pub places-push : (n : ℕ) → new_places (n + 1) ≡ new_places n ++ new_place n ∷ []
places-push n = numbered-push new_place n

-- A history goes on by a step of a seat

legal-push : (a b : Bool) → a ≡ true → b ≡ true → (a && (b && true)) ≡ true
legal-push a b p q = ap (λ c. c && (b && true)) p ∙ ap (λ c. c && true) q

pub history-push : (name : WireName) (events : List Event) (place : Place) (event : Event) (messages : List Message) →
    IsHistory name events → IsStep name events place event messages → place.node < name.nodes → length events < MAX_EVENTS →
    IsHistory name (events ++ event ∷ [])
history-push name events place event messages history step seated few = record {
  few = omega (arith, length-append events (event ∷ []));
  legal =
      legal_from-append (opening name.setup) events (event ∷ [])
      ∙ legal-push (is_legal name.setup events) (is_possible (replay name.setup events) event) history.legal step.possible;
  others = λ number le.
      events_of-other name.setup (name_at place.node) (name_at number) events event step.own
      (other-names place.node number (λ same. absurd (omega arith))) ∙ history.others number le;
}

-- what a journal is after a step
pub sound-push : (name : WireName) (ledger : Ledger) (keeper keeper_after : Pass) (setup : Setup)
    (events events_after : List Event) (messages messages_after more : List Message) (lists lists_after : List (List ℕ))
    (place : Place) (event : Event) (seat_after : View) →
    Sound name ledger keeper setup events messages lists → IsStep name events place event more → length events < MAX_EVENTS →
    Added (desk_of name events) place event (view keeper_after) seat_after → IsPassOf ledger keeper_after →
    events_after ≡ events ++ event ∷ [] → messages_after ≡ messages ++ more → IsIndex lists_after messages_after →
    Sound name ledger keeper_after setup events_after messages_after lists_after
sound-push name ledger keeper keeper_after setup events events_after messages messages_after more lists lists_after place event seat_after
    sound step few added pass longer sent index =
    subst (λ (l : List Event). Sound name ledger keeper_after setup l messages_after lists_after) (sym longer) (record {
      opened = sound.opened;
      history = history-push name events place event more sound.history step added.seated few;
      kept = record { table = sound.kept.table; pass = pass; desk = added.kept };
      sends = record { sent = sent ∙ (ap (λ l. l ++ more) sound.sends.sent ∙ sym step.sends); index = index };
    })
