-- What a cell owns, and what is shown of a node to a caller of C.
use mathlib.Core.Bool.{Bool, true, false}
use base.Stored.{Coded}
use base.Fml.{Fml, ftrue}
use denote.RawPtr.{Ptr}
use Rattle.std.specs.Prelude.{[], None}
use Rattle.std.specs.Global.{Global}
use Rattle.std.specs.Box.Ownership.{box_owns}
use Rattle.std.specs.contracts.impls.GlobalAllocator.TheImpl.{ghosts}
use Rattle.rc_world.specs.NodeView.{OutsideData}
use Rattle.rc_process.specs.View.{begun}
use Rattle.rc_session.specs.View.{SessionData}
use Rattle.rc_session.specs.contracts.session.Session.{the_row}

abbrev pub session_coded : Coded the_row.Denot
session_coded = the_row.coded

-- any session, where there is none
abbrev pub nobody : SessionData
nobody = record { process = begun OutsideData 0; journal = []; second = []; hand = None }

-- a full cell owns the box of a session, and an empty one nothing
abbrev pub held : Bool → Global → Ptr → SessionData → Fml
held true alloc at session = box_owns (ghosts.dealloc_token alloc) the_row at session
held false alloc at session = ftrue
