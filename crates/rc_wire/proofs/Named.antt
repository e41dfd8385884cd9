-- Numbers of seats and names of nodes.
use Rattle.std.proofs.Common.{◌≡◌, ◌≢◌, ℕ, zero, suc, true, false, refl, sym, ap, ◌∙◌}
use Rattle.std.proofs.lemmas.Bool.{eq-eqb, ne_eqb}
use Rattle.rc_model.specs.World.{NodeName, TheOutside, TheCoordinator, TheHost, same_node}
use Rattle.rc_wire.specs.Views.{name_at}
use Rattle.rc_types.specs.Names.{number_of}

-- seats with other numbers are those of other nodes
pub other-names : (a b : ℕ) → a ≢ b → same_node (name_at a) (name_at b) ≡ false
other-names zero zero differ = absurd (differ refl)
other-names zero (suc zero) differ = refl
other-names zero (suc (suc j)) differ = refl
other-names (suc zero) zero differ = refl
other-names (suc zero) (suc zero) differ = absurd (differ refl)
other-names (suc zero) (suc (suc j)) differ = refl
other-names (suc (suc i)) zero differ = refl
other-names (suc (suc i)) (suc zero) differ = refl
other-names (suc (suc i)) (suc (suc j)) differ = ne_eqb i j (λ e. differ (ap (λ n. suc (suc n)) e))

-- the name of a node's number is its own
pub named : (name : NodeName) → name_at (number_of name) ≡ name
named TheOutside = refl
named TheCoordinator = refl
named (TheHost index) = refl

pub same_node-same : (name : NodeName) → same_node name name ≡ true
same_node-same TheOutside = refl
same_node-same TheCoordinator = refl
same_node-same (TheHost index) = eq-eqb index index refl

-- a node is that of its number
pub same_node-number : (name : NodeName) → same_node name (name_at (number_of name)) ≡ true
same_node-number name = ap (same_node name) (named name) ∙ same_node-same name

-- and of no other number
pub same_node-other : (name : NodeName) (number : ℕ) → number_of name ≢ number → same_node name (name_at number) ≡ false
same_node-other name number differ =
    ap (λ n. same_node n (name_at number)) (sym (named name)) ∙ other-names (number_of name) number differ
