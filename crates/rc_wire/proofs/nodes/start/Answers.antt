use contract.Lifetimes.{Lfts}
use denote.Param.Send.{IsSend, IsSync, param_send, sendable}
use Rattle.std.proofs.Crossing.{crosses}
use Rattle.rc_wire.proofs.wire.Wire.TheSendSync as wire
use Rattle.rc_wire.proofs.steps.Step.TheSendSync as step
use Rattle.rc_wire.proofs.board.Board.TheSendSync as board
use Rattle.rc_wire.proofs.Crossing.{seat_send}
use Rattle.rc_wire.specs.contracts.nodes.start as callee
use Rattle.rc_wire.proofs.nodes.start.Given as given
use Rattle.rc_wire.proofs.nodes.start.Lts as lts
use Rattle.rc_wire.proofs.nodes.start.Goals as goal

crosses-T : (g : given.Over) (κs : Lfts 12) → IsSend (callee.N-row g.row.E g.row.N g.row.R g.row.G) →
    IsSend (lts.arg-1-3 g.row.E g.row.N g.row.R g.row.G g.E.laws g.N.laws g.R.laws g.G.laws g.N.Naming g.N.Naming-dict g.R.Threads
    g.R.Threads-dict g.R.Wait g.R.Wait-dict g.G.Gate g.G.Gate-dict κs)
crosses-T g κs s = search (seat_send, sendable, crosses) depth 100 fits 100000

crosses-F : (g : given.Over) (κs : Lfts 12) → IsSend (callee.N-row g.row.E g.row.N g.row.R g.row.G) →
    IsSync (callee.N-row g.row.E g.row.N g.row.R g.row.G) → IsSync (callee.R-row g.row.E g.row.N g.row.R g.row.G) →
    IsSync (callee.G-row g.row.E g.row.N g.row.R g.row.G) →
    IsSend (lts.arg-1-2 g.row.E g.row.N g.row.R g.row.G g.E.laws g.N.laws g.R.laws g.G.laws g.N.Naming g.N.Naming-dict g.R.Threads
    g.R.Threads-dict g.R.Wait g.R.Wait-dict g.G.Gate g.G.Gate-dict κs)
crosses-F g κs s y r gate = search (seat_send, wire.the_sync, step.the_sync, board.the_sync, sendable, crosses) depth 100 fits 100000

pub spawn_with-requires-send-F : goal.spawn_with-requires-send-F
spawn_with-requires-send-F g c κs within =
    param_send 2 _ (crosses-F g κs c.type_bounds.send-N c.type_bounds.sync-N c.type_bounds.sync-R c.type_bounds.sync-G)

pub spawn_with-requires-send-T : goal.spawn_with-requires-send-T
spawn_with-requires-send-T g c κs within = param_send 3 _ (crosses-T g κs c.type_bounds.send-N)
