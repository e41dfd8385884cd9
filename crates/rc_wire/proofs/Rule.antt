-- Each kind of step keeps the rule.
use Rattle.std.proofs.Common.{◌≡◌, ◌≢◌, ℕ, zero, suc, ◌+◌, ◌<◌, ⊎_elim, true, List, [], ◌∷◌, ◌++◌, length, set, Some, refl}
use Rattle.std.proofs.Common.{sym, ap, ◌∙◌, subst, arith}
use mathlib.Core.Option.{some, some-injective, some-ne-none}
use lib.ListN.{get_elem?}
use Rattle.atomic_table.proofs.Lists.{at_set}
use Rattle.rc_model.specs.Model.{Setup, Event, replay, is_possible, job_of}
use Rattle.rc_history.specs.Events.{StartsWith, is_for}
use Rattle.rc_history.proofs.Lists.{starts-same, starts-append, starts-through}
use Rattle.rc_history.proofs.Longer.{events_of-own, events_of-other}
use Rattle.rc_wire.specs.declared.view.Desk.{Desk}
use Rattle.rc_wire.specs.declared.view.Place.{Place}
use Rattle.rc_wire.specs.declared.view.View.{View}
use Rattle.rc_wire.specs.Views.{name_at, idle, at_desk, at_place, hosting, new_desk, new_place, dealt, looked, with_event, with_own}
use Rattle.rc_wire.specs.Law.{Knows, Fits, Kept}
use Rattle.rc_wire.specs.Moves.{CanAdd}
use Rattle.rc_wire.proofs.Rows.{last-there, with_one, with_one-same, with_one-other}
use Rattle.rc_wire.proofs.Named.{other-names}

-- the desk of a log
abbrev desk_of : Setup → List Event → ℕ → Desk
desk_of setup log next = record { setup = setup; history = log; next = next }

some-is : {X : Type 0} (a b : X) → Some a ≡ Some b → a ≡ b
some-is a b e = cc

-- One view

fits-idle : (setup : Setup) (log : List Event) (next keeper : ℕ) (seat : ℕ → ℕ) (by : ℕ) → Fits setup log next keeper seat by idle
fits-idle setup log next keeper seat by = record { keeps = λ desk e. cc; sits = λ place e. cc }

fits-desk : (setup : Setup) (log : List Event) (next keeper : ℕ) (seat : ℕ → ℕ) (by : ℕ) (desk : Desk) →
    by ≡ keeper → desk ≡ desk_of setup log next → Fits setup log next keeper seat by (at_desk desk)
fits-desk setup log next keeper seat by desk own is =
    record { keeps = λ other e. (own, sym (some-is desk other e) ∙ is); sits = λ place e. cc }

-- what a seat has to know
record Seated (setup : Setup) (log : List Event) (next : ℕ) (seat : ℕ → ℕ) (by : ℕ) (place : Place) : Type 0 where
  own : by ≡ seat place.node
  known : place.node < next
  knows : Knows setup log place

seated-as : (setup : Setup) (log : List Event) (next : ℕ) (seat : ℕ → ℕ) (by : ℕ) (place other : Place) →
    Seated setup log next seat by place → place ≡ other → (by ≡ seat other.node) × (other.node < next) × Knows setup log other
seated-as setup log next seat by place other s e =
    subst (λ (p : Place). (by ≡ seat p.node) × (p.node < next) × Knows setup log p) e (s.own, s.known, s.knows)

fits-place : (setup : Setup) (log : List Event) (next keeper : ℕ) (seat : ℕ → ℕ) (by : ℕ) (place : Place) →
    Seated setup log next seat by place → Fits setup log next keeper seat by (at_place place)
fits-place setup log next keeper seat by place s =
    record { keeps = λ desk e. cc; sits = λ other e. seated-as setup log next seat by place other s (some-is place other e) }

fits-hosting : (setup : Setup) (log : List Event) (next keeper : ℕ) (seat : ℕ → ℕ) (by : ℕ) (desk : Desk) (place : Place) →
    by ≡ keeper → desk ≡ desk_of setup log next → Seated setup log next seat by place →
    Fits setup log next keeper seat by (hosting desk place)
fits-hosting setup log next keeper seat by desk place own is s = record {
  keeps = λ other e. (own, sym (some-is desk other e) ∙ is);
  sits = λ other e. seated-as setup log next seat by place other s (some-is place other e);
}

-- A view that stays, where another one changes

-- the seat of a node has gone to another token
fits-apart : (setup : Setup) (log : List Event) (next keeper : ℕ) (seat : ℕ → ℕ) (by id node target : ℕ) (view : View) →
    Fits setup log next keeper seat by view → by ≢ id → id ≡ seat node → Fits setup log next keeper (with_one seat node target) by view
fits-apart setup log next keeper seat by id node target view f differ was = record {
  keeps = f.keeps;
  sits = λ place e.
      let s = f.sits place e in
      let apart : node ≢ place.node = λ same. differ (s.0 ∙ (ap seat (sym same) ∙ sym was)) in
      (s.0 ∙ sym (with_one-other seat node target place.node apart), s.1, s.2);
}

-- each view of a changed list
set-each : (P : ℕ → View → Type 0) (views : List View) (id : ℕ) (view : View) → P id view →
    ((by : ℕ) (v : View) → by ≢ id → get_elem? views by ≡ some v → P by v) →
    (by : ℕ) (v : View) → get_elem? (set views id view) by ≡ some v → P by v
set-each P views id view here others by v at =
    ⊎_elim (λ (t : (by ≡ id) × (view ≡ v)). subst (P by) t.1 (subst (λ n. P n view) (sym t.0) here))
    (λ (t : (by ≢ id) × (get_elem? views by ≡ some v)). others by v t.0 t.1) (at_set views id by view v at)

-- and of a list with one more
push-each : (P : ℕ → View → Type 0) (views : List View) (view : View) → P (length views) view →
    ((by : ℕ) (v : View) → get_elem? views by ≡ some v → P by v) → (by : ℕ) (v : View) → get_elem? (views ++ view ∷ []) by ≡ some v → P by v
push-each P views view last others by v at =
    ⊎_elim (λ (t : (by ≡ length views) × (view ≡ v)). subst (P by) t.1 (subst (λ n. P n view) (sym t.0) last))
    (λ (t : get_elem? views by ≡ some v). others by v t) (last-there views by view v at)

-- The beginning

pub kept-new : (setup : Setup) → Kept setup (at_desk (new_desk setup) ∷ [])
kept-new setup = record {
  log = [];
  next = 0;
  keeper = 0;
  seat = λ _. 0;
  unseated = λ node later. refl;
  each = λ by view at. first by view at;
}
  where
    first : (by : ℕ) (view : View) → get_elem? (at_desk (new_desk setup) ∷ []) by ≡ some view → Fits setup [] 0 0 (λ _. 0) by view
    first zero view at = subst (Fits setup [] 0 0 (λ _. 0) 0) (some-injective (at_desk (new_desk setup)) view at)
        (fits-desk setup [] 0 0 (λ _. 0) 0 (new_desk setup) refl refl)
    first (suc by) view at = absurd (some-ne-none view (sym at))

-- A node more is given a seat

pub kept-deal : (setup : Setup) (views : List View) (id : ℕ) (desk : Desk) → Kept setup views → get_elem? views id ≡ some (at_desk desk) →
    Kept setup (set views id (at_desk (dealt desk)) ++ at_place (new_place desk.next) ∷ [])
kept-deal setup views id desk k at =
    let mine = (k.each id (at_desk desk) at).keeps desk refl in
    let next : desk.next ≡ k.next = ap (λ (d : Desk). d.next) mine.1 in
    let target : ℕ = length (set views id (at_desk (dealt desk))) in
    let seat : ℕ → ℕ = with_one k.seat k.next target in
    record {
      log = k.log;
      next = k.next + 1;
      keeper = k.keeper;
      seat = seat;
      unseated = λ node later. k.unseated node (omega arith);
      each =
          push-each (Fits setup k.log (k.next + 1) k.keeper seat) (set views id (at_desk (dealt desk))) (at_place (new_place desk.next))
          (subst (λ n. Fits setup k.log (k.next + 1) k.keeper seat target (at_place (new_place n))) (sym next)
          (fits-place setup k.log (k.next + 1) k.keeper seat target (new_place k.next)
          (record {
            own = sym (with_one-same k.seat k.next target);
            known = omega arith;
            knows = record { seen = starts-append k.log; mine = k.unseated k.next (omega arith) };
          }))) (set-each (Fits setup k.log (k.next + 1) k.keeper seat) views id (at_desk (dealt desk))
          (fits-desk setup k.log (k.next + 1) k.keeper seat id (dealt desk) mine.0 (ap dealt mine.1))
          (λ by v differ there.
          let f = k.each by v there in record {
            keeps = λ d e. absurd (differ ((f.keeps d e).0 ∙ sym mine.0));
            sits = λ place e.
                let s = f.sits place e in
                let inside : place.node < k.next = s.1 in
                let apart : k.next ≢ place.node = λ same. absurd (omega arith) in
                (s.0 ∙ sym (with_one-other k.seat k.next target place.node apart), omega arith, s.2);
          }));
    }

-- A token's seat goes to a new token, and that token to the keeper

moved : (setup : Setup) (views : List View) (k : Kept setup views) (id target : ℕ) (place : Place) (by : ℕ) (v : View) →
    id ≡ k.seat place.node → by ≢ id → get_elem? views by ≡ some v →
    Fits setup k.log k.next k.keeper (with_one k.seat place.node target) by v
moved setup views k id target place by v was differ there =
    fits-apart setup k.log k.next k.keeper k.seat by id place.node target v (k.each by v there) differ was

seated-at : (setup : Setup) (log : List Event) (next : ℕ) (seat : ℕ → ℕ) (target : ℕ) (place : Place) →
    place.node < next → Knows setup log place → Seated setup log next (with_one seat place.node target) target place
seated-at setup log next seat target place known knows =
    record { own = sym (with_one-same seat place.node target); known = known; knows = knows }

pub kept-leave : (setup : Setup) (views : List View) (id : ℕ) (place : Place) → Kept setup views →
    get_elem? views id ≡ some (at_place place) →
    Kept setup (set views id idle ++ at_place place ∷ [])
kept-leave setup views id place k at =
    let mine = (k.each id (at_place place) at).sits place refl in
    let target : ℕ = length (set views id idle) in
    let seat : ℕ → ℕ = with_one k.seat place.node target in
    record {
      log = k.log;
      next = k.next;
      keeper = k.keeper;
      seat = seat;
      unseated = k.unseated;
      each = push-each (Fits setup k.log k.next k.keeper seat) (set views id idle) (at_place place)
          (fits-place setup k.log k.next k.keeper seat target place (seated-at setup k.log k.next k.seat target place mine.1 mine.2))
          (set-each (Fits setup k.log k.next k.keeper seat) views id idle (fits-idle setup k.log k.next k.keeper seat id)
          (λ by v differ there. moved setup views k id target place by v mine.0 differ there));
    }

pub kept-host : (setup : Setup) (views : List View) (id other : ℕ) (desk : Desk) (place : Place) → Kept setup views →
    get_elem? views id ≡ some (at_desk desk) → other ≢ id → get_elem? views other ≡ some (at_place place) →
    Kept setup (set (set views id (hosting desk place)) other idle)
kept-host setup views id other desk place k at differ guest =
    let own = (k.each id (at_desk desk) at).keeps desk refl in
    let mine = (k.each other (at_place place) guest).sits place refl in
    let seat : ℕ → ℕ = with_one k.seat place.node id in
    record {
      log = k.log;
      next = k.next;
      keeper = k.keeper;
      seat = seat;
      unseated = k.unseated;
      each = set-each (Fits setup k.log k.next k.keeper seat) (set views id (hosting desk place)) other idle
          (fits-idle setup k.log k.next k.keeper seat other) (λ by v apart there.
          ⊎_elim (λ (t : (by ≡ id) × (hosting desk place ≡ v)).
          subst (Fits setup k.log k.next k.keeper seat by) t.1
          (subst (λ n. Fits setup k.log k.next k.keeper seat n (hosting desk place)) (sym t.0)
          (fits-hosting setup k.log k.next k.keeper seat id desk place own.0 own.1
          (seated-at setup k.log k.next k.seat id place mine.1 mine.2))))
          (λ (t : (by ≢ id) × (get_elem? views by ≡ some v)). moved setup views k other id place by v mine.0 apart t.1)
          (at_set views id by (hosting desk place) v there));
    }

pub kept-part : (setup : Setup) (views : List View) (id : ℕ) (desk : Desk) (place : Place) → Kept setup views →
    get_elem? views id ≡ some (hosting desk place) → Kept setup (set views id (at_desk desk) ++ at_place place ∷ [])
kept-part setup views id desk place k at =
    let own = (k.each id (hosting desk place) at).keeps desk refl in
    let mine = (k.each id (hosting desk place) at).sits place refl in
    let target : ℕ = length (set views id (at_desk desk)) in
    let seat : ℕ → ℕ = with_one k.seat place.node target in
    record {
      log = k.log;
      next = k.next;
      keeper = k.keeper;
      seat = seat;
      unseated = k.unseated;
      each = push-each (Fits setup k.log k.next k.keeper seat) (set views id (at_desk desk)) (at_place place)
          (fits-place setup k.log k.next k.keeper seat target place (seated-at setup k.log k.next k.seat target place mine.1 mine.2))
          (set-each (Fits setup k.log k.next k.keeper seat) views id (at_desk desk)
          (fits-desk setup k.log k.next k.keeper seat id desk own.0 own.1)
          (λ by v differ there. moved setup views k id target place by v mine.0 differ there));
    }

-- The guest looks, and adds an event of its own

pub knows-guest : (setup : Setup) (views : List View) (id : ℕ) (desk : Desk) (place : Place) → Kept setup views →
    get_elem? views id ≡ some (hosting desk place) → (place.node < desk.next) × Knows desk.setup desk.history place
knows-guest setup views id desk place k at =
    let own = (k.each id (hosting desk place) at).keeps desk refl in
    let mine = (k.each id (hosting desk place) at).sits place refl in
    subst (λ (d : Desk). (place.node < d.next) × Knows d.setup d.history place) (sym own.1) (mine.1, mine.2)

pub kept-look : (setup : Setup) (views : List View) (id : ℕ) (desk : Desk) (place : Place) → Kept setup views →
    get_elem? views id ≡ some (hosting desk place) → Kept setup (set views id (hosting desk (looked desk place)))
kept-look setup views id desk place k at =
    let own = (k.each id (hosting desk place) at).keeps desk refl in
    let mine = (k.each id (hosting desk place) at).sits place refl in
    let whole : desk.history ≡ k.log = ap (λ (d : Desk). d.history) own.1 in
    record {
      log = k.log;
      next = k.next;
      keeper = k.keeper;
      seat = k.seat;
      unseated = k.unseated;
      each = set-each (Fits setup k.log k.next k.keeper k.seat) views id (hosting desk (looked desk place))
          (fits-hosting setup k.log k.next k.keeper k.seat id desk (looked desk place) own.0 own.1
          (record {
            own = mine.0;
            known = mine.1;
            knows = record { seen = subst (StartsWith k.log) (sym whole) starts-same; mine = mine.2.mine };
          })) (λ by v differ there. k.each by v there);
    }

-- the event can be added to this log
can-log : (setup : Setup) (log : List Event) (next : ℕ) (desk : Desk) (place : Place) (event : Event) → desk ≡ desk_of setup log next →
    CanAdd desk place event →
    (is_possible (replay setup log) event ≡ true) × (is_for (name_at place.node) (job_of (replay setup log).sent event) ≡ true)
can-log setup log next desk place event is can =
    subst (λ (d : Desk). (is_possible (replay d.setup d.history) event ≡ true)
    × (is_for (name_at place.node) (job_of (replay d.setup d.history).sent event) ≡ true))
    is (can.possible, can.own)

-- another node's seat still knows only what is true
knows-longer : (setup : Setup) (log : List Event) (event : Event) (node : ℕ) (other : Place) →
    is_for (name_at node) (job_of (replay setup log).sent event) ≡ true → node ≢ other.node → Knows setup log other →
    Knows setup (log ++ event ∷ []) other
knows-longer setup log event node other own differ knows = record {
  seen = starts-through (starts-append (event ∷ [])) knows.seen;
  mine =
      events_of-other setup (name_at node) (name_at other.node) log event own (other-names node other.node differ) ∙ knows.mine;
}

pub kept-add : (setup : Setup) (views : List View) (id : ℕ) (desk : Desk) (place : Place) (event : Event) → Kept setup views →
    get_elem? views id ≡ some (hosting desk place) → CanAdd desk place event →
    Kept setup (set views id (hosting (with_event desk event) (with_own desk place event)))
kept-add setup views id desk place event k at can =
    let own = (k.each id (hosting desk place) at).keeps desk refl in
    let mine = (k.each id (hosting desk place) at).sits place refl in
    let whole : desk.history ≡ k.log = ap (λ (d : Desk). d.history) own.1 in
    let may = can-log setup k.log k.next desk place event own.1 can in
    let log : List Event = k.log ++ event ∷ [] in
    record {
      log = log;
      next = k.next;
      keeper = k.keeper;
      seat = k.seat;
      unseated = λ node later.
          let inside : place.node < k.next = mine.1 in
          events_of-other setup (name_at place.node) (name_at node) k.log event may.1
          (other-names place.node node (λ same. absurd (omega arith))) ∙ k.unseated node later;
      each =
          set-each (Fits setup log k.next k.keeper k.seat) views id (hosting (with_event desk event) (with_own desk place event))
          (fits-hosting setup log k.next k.keeper k.seat id (with_event desk event) (with_own desk place event) own.0
          (ap (λ (d : Desk). with_event d event) own.1)
          (record {
            own = mine.0;
            known = mine.1;
            knows = record {
              seen = subst (StartsWith log) (ap (λ l. l ++ event ∷ []) (sym whole)) starts-same;
              mine = events_of-own setup (name_at place.node) k.log event may.0 may.1 ∙ ap (λ l. l ++ event ∷ []) mine.2.mine;
            };
          })) (λ by v differ there.
          let f = k.each by v there in record {
            keeps = λ d e. absurd (differ ((f.keeps d e).0 ∙ sym own.0));
            sits = λ other e.
                let s = f.sits other e in
                let apart : place.node ≢ other.node = λ same. differ (s.0 ∙ (ap k.seat (sym same) ∙ sym mine.0)) in
                (s.0, s.1, knows-longer setup k.log event place.node other may.1 apart s.2);
          });
    }
