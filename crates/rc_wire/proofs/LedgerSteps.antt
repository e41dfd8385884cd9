-- What the table asks of each step.
use Rattle.std.proofs.Common.{◌≡◌, ℕ, [], ◌∷◌, ◌++◌, Some, set, refl, sym, ap, ◌∙◌, subst, ◌==◌}
use mathlib.Core.Option.{some, none, some-injective}
use lib.ListN.{get_elem?}
use prog.Atomic.{either}
use Rattle.atomic_table.specs.Table.{State, Me, step, keeps, Allows, Splits, Joins}
use Rattle.atomic_table.proofs.Lists.{set_else}
use Rattle.rc_model.specs.Model.{Setup, Event}
use Rattle.rc_wire.specs.declared.view.Desk.{Desk}
use Rattle.rc_wire.specs.declared.view.Place.{Place}
use Rattle.rc_wire.specs.declared.view.View.{View}
use Rattle.rc_wire.specs.Views.{idle, at_desk, at_place, hosting, looked, with_event, with_own, after_dealing, newcomer}
use Rattle.rc_wire.specs.Views.{desk_alone, place_alone, with_guest}
use Rattle.rc_wire.specs.Law.{Kept}
use Rattle.rc_wire.specs.Moves.{Looks, tells_look, CanAdd, tells_add}
use Rattle.rc_wire.specs.Passes.{Keeps, Sits, HasGuest, MayWrite}
use Rattle.rc_wire.proofs.Rule.{kept-deal, kept-leave, kept-host, kept-part, kept-look, kept-add, knows-guest}

abbrev pub Rule : Setup → State Event View → Type 0
Rule setup s = Kept setup s.views

pub splits-deal : (setup : Setup) (id : ℕ) (v : View) → Keeps v → Splits (Rule setup) id v (after_dealing v) (newcomer v)
splits-deal setup id v is s k at =
    subst (λ w. Kept setup (set s.views id (after_dealing w) ++ newcomer w ∷ [])) (sym is.1)
    (kept-deal setup s.views id is.0 k (at ∙ ap some is.1))

pub splits-leave : (setup : Setup) (id : ℕ) (v : View) → Sits v → Splits (Rule setup) id v idle v
splits-leave setup id v is s k at =
    subst (λ w. Kept setup (set s.views id idle ++ w ∷ [])) (sym is.1) (kept-leave setup s.views id is.0 k (at ∙ ap some is.1))

pub splits-part : (setup : Setup) (id : ℕ) (v : View) → HasGuest v → Splits (Rule setup) id v (desk_alone v) (place_alone v)
splits-part setup id v is s k at =
    subst (λ w. Kept setup (set s.views id (desk_alone w) ++ place_alone w ∷ [])) (sym is.2)
    (kept-part setup s.views id is.0 is.1 k (at ∙ ap some is.2))

pub joins-host : (setup : Setup) (id : ℕ) (v : View) (other : ℕ) (w : View) → Keeps v → Sits w →
    Joins (Rule setup) id v other w (with_guest v w) idle
joins-host setup id v other w is guest s k at differ there =
    let both : with_guest v w ≡ hosting is.0 guest.0 = ap (λ x. with_guest x w) is.1 ∙ ap (with_guest (at_desk is.0)) guest.1 in
    let before : get_elem? s.views other ≡ some (at_place guest.0) =
    sym (set_else s.views id other (with_guest v w) differ) ∙ (there ∙ ap some guest.1) in
    subst (λ x. Kept setup (set (set s.views id x) other idle)) (sym both)
    (kept-host setup s.views id other is.0 guest.0 k (at ∙ ap some is.1) differ before)

-- a host and its guest are known by the view
some-is : {X : Type 0} (a b : X) → Some a ≡ Some b → a ≡ b
some-is a b e = cc

same-desk : (desk other : Desk) (place guest : Place) → hosting desk place ≡ hosting other guest → desk ≡ other
same-desk desk other place guest e = some-is desk other (ap (λ (v : View). v.desk) e)

same-place : (desk other : Desk) (place guest : Place) → hosting desk place ≡ hosting other guest → place ≡ guest
same-place desk other place guest e = some-is place guest (ap (λ (v : View). v.place) e)

pub allows-look : (setup : Setup) (slots id : ℕ) (me : Me Event View) (word : ℕ) → HasGuest me.0 →
    Allows (Rule setup) slots id me word (λ n. n) (tells_look (step slots word 0 0 none) me)
allows-look setup slots id me word is s k sized at small =
    let there : get_elem? s.views id ≡ some (hosting is.0 is.1) = at ∙ ap some is.2 in
    let knows = knows-guest setup s.views id is.0 is.1 k there in
    let looks : Looks is.0 is.1 (hosting is.0 (looked is.0 is.1)) = record { view = refl; seated = knows.0; knows = knows.1 } in (
      hosting is.0 (looked is.0 is.1),
      keeps,
      tt,
      kept-look setup s.views id is.0 is.1 k there,
      (
        refl,
        λ desk place e.
            let same : hosting is.0 is.1 ≡ hosting desk place = sym is.2 ∙ e in
            subst (λ (d : Desk). Looks d place (hosting is.0 (looked is.0 is.1))) (same-desk is.0 desk is.1 place same)
            (subst (λ (p : Place). Looks is.0 p (hosting is.0 (looked is.0 is.1))) (same-place is.0 desk is.1 place same) looks),
      ),
    )

pub allows-add : (setup : Setup) (slots id : ℕ) (me : Me Event View) (word : ℕ) (event : Event) → HasGuest me.0 → MayWrite me.0 event →
    Allows (Rule setup) slots id me word (λ n. either (n == 0) 0 n) (tells_add (step slots word 0 0 (some event)) me)
allows-add setup slots id me word event is may s k sized at small =
    let there : get_elem? s.views id ≡ some (hosting is.0 is.1) = at ∙ ap some is.2 in
    let after : View = hosting (with_event is.0 event) (with_own is.0 is.1 event) in (
      after,
      keeps,
      tt,
      kept-add setup s.views id is.0 is.1 event k there (may is.0 is.1 is.2),
      (
        refl,
        λ desk place one e said.
            let same : hosting is.0 is.1 ≡ hosting desk place = sym is.2 ∙ e in
            ap (λ (d : Desk). hosting (with_event d event) (with_own d is.1 event)) (same-desk is.0 desk is.1 place same)
            ∙ (ap (λ (p : Place). hosting (with_event desk event) (with_own desk p event)) (same-place is.0 desk is.1 place same)
            ∙ ap (λ (x : Event). hosting (with_event desk x) (with_own desk place x)) (some-injective event one said)),
      ),
    )

-- what the guest may add, it may add after a look
pub can-looked : (desk other : Desk) (place guest : Place) (event : Event) → CanAdd desk place event →
    hosting desk (looked desk place) ≡ hosting other guest → CanAdd other guest event
can-looked desk other place guest event can same =
    subst (λ (d : Desk). CanAdd d guest event) (same-desk desk other (looked desk place) guest same)
    (subst (λ (p : Place). CanAdd desk p event) (same-place desk other (looked desk place) guest same)
    (record { possible = can.possible; own = can.own }))
