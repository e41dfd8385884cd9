-- How the phase of a log goes on by what its members have told.
use Rattle.std.specs.Prelude.{Bool, if◌then◌else◌, Option, Some, None, unwrap_or, is_some}
use Rattle.rc_model.specs.Log.{Log}
use Rattle.rc_model.specs.Heads.{with_shut, may_start, starts, may_close, closes_old, may_write, writes_on}

-- the first head writes, or else the old head is closed, or else the new head writes, if one of these may be
abbrev pub next_phase : Log → Option Log
next_phase log =
    if may_start log then Some (starts log)
    else (if may_close log then Some (closes_old log)
    else (if may_write log then Some (writes_on log) else None))

-- what is shut is marked, and then the phase goes on, if it may
abbrev pub advanced : Log → Log
advanced log = unwrap_or (next_phase (with_shut log)) (with_shut log)

-- whether the phase goes on, once what is shut is marked
abbrev pub advances : Log → Bool
advances log = is_some (next_phase (with_shut log))
