use Rattle.rc_step_laws.proofs.Rooms.{coordinator-has-room, generations-have-room, versions-have-room, next-versions-have-room}
use Rattle.rc_step_laws.proofs.bounds.numbers_have_room.Goals as goal

pub returns-clause-coordinator : goal.returns-clause-coordinator
returns-clause-coordinator c = coordinator-has-room

pub returns-clause-generations : goal.returns-clause-generations
returns-clause-generations c = generations-have-room

pub returns-clause-versions : goal.returns-clause-versions
returns-clause-versions c = versions-have-room

pub returns-clause-next : goal.returns-clause-next
returns-clause-next c = next-versions-have-room
