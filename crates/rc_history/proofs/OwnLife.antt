-- What one node has done, one after another.
use Rattle.std.proofs.Common.{◌≡◌, Bool, true, false, cond, List, [], ◌∷◌, ◌++◌, map, filter, refl, sym}
use Rattle.std.proofs.Common.{◌∙◌}
use Rattle.std.proofs.Common.{append_assoc}
use Rattle.std.proofs.lemmas.List.{append-nil}
use Rattle.rc_model.specs.Nodes.{NodeWork}
use Rattle.rc_model.specs.World.{NodeName}
use Rattle.rc_history.specs.Nodes.{node_can, node_step}
use Rattle.rc_history.specs.Lives.{Life, keeps, life_next, life_after, rests_on, node_after}
use Rattle.rc_history.specs.Processes.{Deed, deed_of}

pub record Lives (name : NodeName) (life : Life) (deed : Deed) : Type 0 where
  pub can : node_can life.node deed.work ≡ true
  pub sends : deed.sent ≡ (node_step life.node deed.work).1
  pub rests : deed.rests ≡ rests_on name life deed.work

abbrev pub IsLived : NodeName → Life → List Deed → Type 0
IsLived name life [] = Unit {0}
IsLived name life (deed ∷ deeds) = Lives name life deed × IsLived name (life_next name life deed.work) deeds

abbrev pub works_of : List Deed → List NodeWork
works_of deeds = map (λ (deed : Deed). deed.work) deeds

abbrev pub life_of : NodeName → Life → List Deed → Life
life_of name life deeds = life_after name life (works_of deeds)

pub life_of-append : (name : NodeName) (life : Life) (deeds more : List Deed) →
    life_of name life (deeds ++ more) ≡ life_of name (life_of name life deeds) more
life_of-append name life [] more = refl
life_of-append name life (deed ∷ deeds) more = life_of-append name (life_next name life deed.work) deeds more

pub lived-append : (name : NodeName) (life : Life) (deeds more : List Deed) → IsLived name life deeds →
    IsLived name (life_of name life deeds) more → IsLived name life (deeds ++ more)
lived-append name life [] more one two = two
lived-append name life (deed ∷ deeds) more one two = (one.0, lived-append name (life_next name life deed.work) deeds more one.1 two)

pub lived-first : (name : NodeName) (life : Life) (deeds more : List Deed) → IsLived name life (deeds ++ more) → IsLived name life deeds
lived-first name life [] more lived = tt
lived-first name life (deed ∷ deeds) more lived = (lived.0, lived-first name (life_next name life deed.work) deeds more lived.1)

pub lived-last : (name : NodeName) (life : Life) (deeds more : List Deed) → IsLived name life (deeds ++ more) →
    IsLived name (life_of name life deeds) more
lived-last name life [] more lived = lived
lived-last name life (deed ∷ deeds) more lived = lived-last name (life_next name life deed.work) deeds more lived.1

-- the node is where its works lead, and the journal has those that are kept
pub life_node : (name : NodeName) (life : Life) (works : List NodeWork) → (life_after name life works).node ≡ node_after life.node works
life_node name life [] = refl
life_node name life (work ∷ works) = life_node name (life_next name life work) works

pub life_journal : (name : NodeName) (life : Life) (works : List NodeWork) →
    (life_after name life works).journal ≡ life.journal ++ filter (keeps name) works
life_journal name life [] = sym (append-nil life.journal)
life_journal name life (work ∷ works) = life_journal name (life_next name life work) works ∙ by (keeps name work)
  where
    by : (b : Bool) → cond b (life.journal ++ work ∷ []) life.journal ++ filter (keeps name) works
        ≡ life.journal ++ cond b (work ∷ filter (keeps name) works) (filter (keeps name) works)
    by true = append_assoc life.journal (work ∷ []) (filter (keeps name) works)
    by false = refl

pub deed_lives : {name : NodeName} {life : Life} {work : NodeWork} → node_can life.node work ≡ true →
    Lives name life (deed_of name life work)
deed_lives can = record { can = can; sends = refl; rests = refl }
