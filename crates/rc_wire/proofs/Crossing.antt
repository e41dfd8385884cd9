-- A seat may cross to another thread, step by step up from the tree of tablets, which holds itself.
use denote.RattleType.{RattleType}
use denote.Param.Send.{IsSend, sendable}
use Rattle.std.proofs.Crossing.{crosses}
use Rattle.std.proofs.MapsCrossing as maps
use Rattle.std.specs.contracts.alloc.Global as Heap
use Rattle.std.specs.contracts.impls.GlobalAllocator.TheImpl.{ghosts}
use Rattle.rc_types.proofs.messages.Message.TheSendSync as message
use Rattle.rc_serverlist.proofs.list.ServerList.TheSendSync as list
use Rattle.rc_rangetree.proofs.nodes.Node.TheLaws.TheKnot as knot
use Rattle.rc_rangetree.specs.contracts.trees.RangeTree as RangeTree
use Rattle.rc_coordinator.proofs.recoveries.Recoveries.TheSendSync as recoveries
use Rattle.rc_coordinator.specs.contracts.coordinator.Coordinator as Coordinator
use Rattle.rc_world.proofs.host.Host.TheSendSync as host
use Rattle.rc_world.specs.contracts.node.NodeState as NodeState
use Rattle.rc_wire.specs.declared.names.Naming as naming
use Rattle.rc_wire.proofs.token.Token.TheSendSync as token
use Rattle.rc_wire.proofs.offer.Offer.TheSendSync as offer
use Rattle.rc_wire.specs.contracts.seat.Seat as Seat

tablets-send : IsSend (RangeTree.the_row Heap.the_row ghosts)
tablets-send = search (knot.crosses, sendable, crosses) depth 60

coordinator-send : IsSend (Coordinator.the_row Heap.the_row ghosts)
coordinator-send = search (tablets-send, list.the_send, recoveries.the_send, sendable, crosses) depth 100 fits 100000

node-send : IsSend (NodeState.the_row Heap.the_row ghosts)
node-send = search (coordinator-send, host.the_send, sendable, crosses) depth 100 fits 100000

pub seat_send : (N : RattleType) (names : naming.Ghosts N.Denot) → IsSend N → IsSend (Seat.the_row N names)
seat_send N names s =
    search (node-send, message.the_send, offer.the_send, token.the_send, maps.crosses, sendable, crosses) depth 100 fits 100000
