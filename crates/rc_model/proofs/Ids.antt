-- Ids and nodes: what their tests say.
use Rattle.std.proofs.Common.{◌≡◌, true, refl, ap, arith}
use Rattle.std.proofs.lemmas.Bool.{eqb-true, eq-eqb}
use Rattle.std.proofs.lemmas.Bool.Decides.{nat_tests}
use Rattle.rc_model.specs.Model.{ServerId, same_id, NodeName, TheOutside, TheCoordinator, TheHost, same_node, Server}

-- ids with the same parts are one
pub same_parts : {a b : ServerId} → a.index ≡ b.index → a.generation ≡ b.generation → a ≡ b
same_parts p q j = record { index = p j; generation = q j }

-- ids that pass the test are one
pub same_id-true : {a b : ServerId} → same_id a b ≡ true → a ≡ b
same_id-true h = same_parts (grind (arith, nat_tests)) (grind (arith, nat_tests))

-- an id passes the test with itself
pub same_id-refl : (a : ServerId) → same_id a a ≡ true
same_id-refl a = grind (arith, nat_tests)

-- nodes that pass the test are one
pub same_node-true : (a b : NodeName) → same_node a b ≡ true → a ≡ b
same_node-true TheOutside TheOutside e = refl
same_node-true TheOutside TheCoordinator e = cc
same_node-true TheOutside (TheHost other) e = cc
same_node-true TheCoordinator TheOutside e = cc
same_node-true TheCoordinator TheCoordinator e = refl
same_node-true TheCoordinator (TheHost other) e = cc
same_node-true (TheHost index) TheOutside e = cc
same_node-true (TheHost index) TheCoordinator e = cc
same_node-true (TheHost index) (TheHost other) e = ap TheHost (eqb-true index other e)

-- a node passes the test with itself
pub same_node-refl : (a : NodeName) → same_node a a ≡ true
same_node-refl TheOutside = refl
same_node-refl TheCoordinator = refl
same_node-refl (TheHost index) = eq-eqb index index refl

-- one address of a server is that of one server
pub server-same : {a b : ServerId} → Server a ≡ Server b → a ≡ b
server-same e = cc
