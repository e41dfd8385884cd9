-- What processes that end at any moment do is a history of steps that nodes take apart.
use Rattle.std.specs.Prelude.{◌≡◌, List, ◌++◌}
use Rattle.rc_types.specs.declared.events.Setup.{Setup}
use Rattle.rc_types.specs.declared.messages.Message.{Message}
use Rattle.rc_model.specs.Headline.{In}
use Rattle.rc_model.specs.Nodes.{NodeWork}
use Rattle.rc_model.specs.World.{NodeName}
use Rattle.rc_history.specs.Nodes.{new_node}
use Rattle.rc_history.specs.Apart.{Step, sent_by, left_at, TakenApart}
use Rattle.rc_history.specs.Lives.{node_after, SameNode}
use Rattle.rc_history.specs.Processes.{Deed, Processes, Happening, new_processes, MayTake, MayAll, after_all, deed_of}

-- steps that nodes take apart have sent all that has ever left, and each node is where its own steps led
pub record HasHistory (setup : Setup) (all : Processes) : Type 0 where
  pub steps : List Step
  pub apart : TakenApart setup steps
  pub sent : (message : Message) → In message all.left → In message (sent_by steps)
  pub nodes : (name : NodeName) → left_at name (new_node setup name) steps ≡ (all.at name).life.node

-- whatever happens
abbrev pub LivesAreAHistory : Type 0
LivesAreAHistory = (setup : Setup) (happenings : List Happening) → MayAll setup (new_processes setup) happenings →
    HasHistory setup (after_all setup (new_processes setup) happenings)

-- a node is the one that its journal makes, a host but for its master
abbrev pub JournalsMakeNodes : Type 0
JournalsMakeNodes = (setup : Setup) (happenings : List Happening) → MayAll setup (new_processes setup) happenings →
    let all = after_all setup (new_processes setup) happenings in
    (name : NodeName) → SameNode (node_after (new_node setup name) (all.at name).life.journal) (all.at name).life.node

-- Histories go on

-- something that was done has sent the message
pub record WasDone (done : List Deed) (message : Message) : Type 0 where
  pub deed : Deed
  pub done_before : In deed done
  pub its : In message deed.sent

-- One history has both moments. What had left by the early one was sent in its first steps, and they have sent nothing
-- that had not been done by then; what has left by now was sent in all of its steps, and they lead to where the nodes
-- are now.
pub record GoesOn (setup : Setup) (early now : Processes) : Type 0 where
  pub steps : List Step
  pub more : List Step
  pub apart : TakenApart setup (steps ++ more)
  pub left_by_then : (message : Message) → In message early.left → In message (sent_by steps)
  pub done_by_then : (message : Message) → In message (sent_by steps) → WasDone early.done message
  pub left_by_now : (message : Message) → In message now.left → In message (sent_by (steps ++ more))
  pub nodes : (name : NodeName) → left_at name (new_node setup name) (steps ++ more) ≡ (now.at name).life.node

abbrev pub WhatHasLeftStays : Type 0
WhatHasLeftStays = (setup : Setup) (early more : List Happening) → MayAll setup (new_processes setup) (early ++ more) →
    GoesOn setup (after_all setup (new_processes setup) early) (after_all setup (new_processes setup) (early ++ more))

-- A step that may be taken now can stand in the history after all that has left by now
pub record ComesLast (setup : Setup) (all : Processes) (sent : List Message) : Type 0 where
  pub steps : List Step
  pub apart : TakenApart setup steps
  pub before : List Message
  pub whole : sent_by steps ≡ before ++ sent
  pub left_by_then : (message : Message) → In message all.left → In message before

abbrev pub StepsComeLast : Type 0
StepsComeLast = (setup : Setup) (happenings : List Happening) → MayAll setup (new_processes setup) happenings →
    let all = after_all setup (new_processes setup) happenings in
    (name : NodeName) (work : NodeWork) → MayTake all name work →
    ComesLast setup all (deed_of name (all.at name).life work).sent
