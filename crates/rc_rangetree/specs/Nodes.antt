-- What a node of the tree stands for, how deep it is, and where its forks have their bounds.
use Rattle.std.specs.Prelude.{◌≡◌, ℕ, ◌+◌, ◌<◌, ◌≤◌, max, Bool, false, List, [], ◌∷◌, ◌++◌, map, length, Result, Ok}
use Rattle.std.specs.Prelude.{Err}
use Rattle.rc_types.specs.declared.rows.Tablet.{Tablet}
use Rattle.rc_rangetree.specs.declared.limits.TheConstants.{MAX_FORKS}
use Rattle.rc_rangetree.specs.declared.nodes.Node.{Node}
use Rattle.rc_rangetree.specs.declared.nodes.Node.TheVariants.{Empty, Leaf, Fork'}
use Rattle.rc_rangetree.specs.Points.{BeginsAt}
use Rattle.rc_rangetree.specs.Ranges.{AreInOrder, AreTablets}
use Rattle.rc_rangetree.specs.Trees.{Tree}

-- the tablets of the leaves, from left to right. In `Fork'` the pointer of a box stands before its value.
abbrev pub leaves : {A : _} → Node A → List Tablet
leaves Empty = []
leaves (Leaf tablet) = tablet ∷ []
leaves (Fork' bound p left q right) = leaves left ++ leaves right

-- for each of the leaves, from left to right, the number of forks above it
abbrev pub forks_above : {A : _} → Node A → List ℕ
forks_above Empty = []
forks_above (Leaf tablet) = 0 ∷ []
forks_above (Fork' bound p left q right) = map (λ n. n + 1) (forks_above left ++ forks_above right)

-- the greatest number of forks on a way down
abbrev pub node_depth : {A : _} → Node A → ℕ
node_depth Empty = 0
node_depth (Leaf tablet) = 0
node_depth (Fork' bound p left q right) = max (node_depth left) (node_depth right) + 1

-- what callers see of a tree with this root
abbrev pub tree_at : {A : _} → Node A → Tree
tree_at root = record { tablets = leaves root; forks = forks_above root }

-- the bound of each fork is where the first tablet on its right begins, and there is one on its left
abbrev pub HasBounds : {A : _} → Node A → Type 0
HasBounds Empty = Unit {0}
HasBounds (Leaf tablet) = Unit {0}
HasBounds (Fork' bound p left q right) =
    BeginsAt bound (leaves right) × HasBounds left × HasBounds right × (0 < length (leaves left))

-- the node may be searched
pub record IsSearchTree {A : _} (node : Node A) : Type 0 where
  pub bounds : HasBounds node
  pub in_order : AreInOrder (leaves node)

-- a tree that may be searched, of these many tablets, none of them below more than `MAX_FORKS` forks
pub record IsTree {A : _} (root : Node A) (count : ℕ) : Type 0 where
  pub tablets : AreTablets (leaves root)
  pub bounds : HasBounds root
  pub shallow : node_depth root ≤ MAX_FORKS
  pub counted : count ≡ length (leaves root)

-- a change found the memory and the room that it takes
abbrev pub is_made : {E : Type 0} → Result Bool E → Bool
is_made (Ok made) = made
is_made (Err e) = false
