use Rattle.rc_world.proofs.NodeRooms.{new-nodes-within, steps-stay-within, more-allow-more, nodes-have-room}
use Rattle.rc_world.proofs.Rooms.{histories-leave-room}
use Rattle.rc_world.proofs.laws.nodes_have_room.Goals as goal

pub returns-clause-new : goal.returns-clause-new
returns-clause-new c = new-nodes-within

pub returns-clause-steps : goal.returns-clause-steps
returns-clause-steps c = steps-stay-within

pub returns-clause-more : goal.returns-clause-more
returns-clause-more c = more-allow-more

pub returns-clause-room : goal.returns-clause-room
returns-clause-room c = nodes-have-room

pub returns-clause-histories : goal.returns-clause-histories
returns-clause-histories c = histories-leave-room
