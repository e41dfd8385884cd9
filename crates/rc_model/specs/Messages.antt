-- Short forms for messages, by who sends them.
use Rattle.std.specs.Prelude.{List, map}
use Rattle.rc_types.specs.declared.ids.ServerId.{ServerId}
use Rattle.rc_types.specs.declared.ids.Addr.TheVariants.{Coordinator, Server, Outside}
use Rattle.rc_types.specs.declared.faults.Fault.{Fault}
use Rattle.rc_types.specs.declared.messages.Message.{Message}
use Rattle.rc_types.specs.declared.messages.Body.{Body}
use Rattle.rc_types.specs.declared.messages.Body.TheVariants.{Refused}
use Rattle.rc_types.specs.Codes.{code_of}

-- from a server to a server
abbrev pub between : ServerId → ServerId → Body → Message
between sender addressee body = record { from = Server sender; to = Server addressee; body = body }

-- from a server to the coordinator
abbrev pub to_coordinator : ServerId → Body → Message
to_coordinator sender body = record { from = Server sender; to = Coordinator; body = body }

-- from a server to the outside
abbrev pub to_outside : ServerId → Body → Message
to_outside sender body = record { from = Server sender; to = Outside; body = body }

-- from the coordinator to a server
abbrev pub from_coordinator : ServerId → Body → Message
from_coordinator addressee body = record { from = Coordinator; to = Server addressee; body = body }

-- the same to each of these, in their order
abbrev pub to_each : List ServerId → Body → List Message
to_each ids body = map (λ id. from_coordinator id body) ids

-- a refusal by a server, and one by the coordinator, to the outside
abbrev pub refuses : ServerId → Fault → Message
refuses sender fault = to_outside sender (Refused (code_of fault))

abbrev pub coordinator_refuses : Fault → Message
coordinator_refuses fault = record { from = Coordinator; to = Outside; body = Refused (code_of fault) }

-- from the coordinator to the outside
abbrev pub coordinator_tells : Body → Message
coordinator_tells body = record { from = Coordinator; to = Outside; body = body }
