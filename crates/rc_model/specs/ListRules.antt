-- What a master does about the servers that it knows: it replaces members that have crashed, and opens its first head.
use Rattle.std.specs.Prelude.{ℕ, Bool, nat_eq, ◌&&◌, if◌then◌else◌, List, [], ◌∷◌, ◌++◌, Result, Ok, Err}
use Rattle.rc_types.specs.declared.ids.ServerId.{ServerId}
use Rattle.rc_types.specs.declared.faults.Fault.{Fault}
use Rattle.rc_types.specs.declared.messages.Message.{Message}
use Rattle.rc_model.specs.ServerList.{ServerList, newer_than, is_up}
use Rattle.rc_model.specs.Log.{Log, numbers_to}
use Rattle.rc_model.specs.Heads.{open_first, loses}
use Rattle.rc_model.specs.Master.{Master, with_log, to_ids, place_of, places_head}

-- what was done, and then this
abbrev pub then_does : Master × List Message → (Master → Master × List Message) → Master × List Message
then_does (master, messages) rule = let after = rule master in (after.0, messages ++ after.1)

-- a segment goes whole to those who are to be sent it, closed where it is shut; a refused change sends nothing
abbrev pub places_segment : ℕ → Master → Log × Result (List ServerId) Fault → Master × List Message
places_segment seg master (log, Ok ids) =
    (with_log master log, to_ids log.own ids (place_of log seg (log.segments seg).shut))
places_segment seg master (log, Err fault) = (with_log master log, [])

-- lost members of a segment are replaced, if it wasn't freed
abbrev pub replaces_lost : Master → ℕ → Master × List Message
replaces_lost master seg =
    if (master.log.segments seg).freed then (master, [])
    else places_segment seg master (loses master.known seg master.log)

-- of these segments, one after another
abbrev pub replaces_lost_of : List ℕ → Master → Master × List Message
replaces_lost_of [] master = (master, [])
replaces_lost_of (seg ∷ segs) master = then_does (replaces_lost master seg) (λ after. replaces_lost_of segs after)

abbrev pub opens_first : Master → Log × Result Bool Fault → Master × List Message
opens_first master (log, Ok opened) = (with_log master log, places_head log)
opens_first master (log, Err fault) = (master, [])

-- where no head was ever opened, this id is up and there are enough others, the first head is opened
abbrev pub tries_first : Master → Master × List Message
tries_first master =
    if nat_eq master.log.head 0 && is_up master.known master.log.own
    then opens_first master (open_first master.known master.log) else (master, [])

-- the list rules: over the segments, ascending, and then the first head
abbrev pub obeys_list : Master → Master × List Message
obeys_list master = then_does (replaces_lost_of (numbers_to master.log.head) master) tries_first

-- a List message: one that is newer is taken
abbrev pub takes_list : Master → ServerList → Master × List Message
takes_list master servers =
    if newer_than servers master.known then obeys_list (record master { known = servers }) else (master, [])
