-- Which node an address is of, and the numbers of nodes.
use Rattle.std.specs.Prelude.{ℕ, suc}
use Rattle.rc_types.specs.declared.ids.Addr.{Addr}
use Rattle.rc_types.specs.declared.ids.Addr.TheVariants as addr
use Rattle.rc_types.specs.declared.ids.NodeName.{NodeName}
use Rattle.rc_types.specs.declared.ids.NodeName.TheVariants as node

-- all servers of a host, one after the other, are one node
abbrev pub node_of : Addr → NodeName
node_of addr.Outside = node.Outside
node_of addr.Coordinator = node.Coordinator
node_of (addr.Server id) = node.Host id.index

-- the number of a node
abbrev pub number_of : NodeName → ℕ
number_of node.Outside = 0
number_of node.Coordinator = 1
number_of (node.Host index) = suc (suc index)
