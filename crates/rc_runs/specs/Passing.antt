-- Which messages a pass leaves alone.
use Rattle.std.specs.Prelude.{Bool, true, false, ◌||◌}
use Rattle.rc_types.specs.declared.ids.Addr.{Addr}
use Rattle.rc_types.specs.declared.ids.Addr.TheVariants.{Server, Coordinator, Outside}
use Rattle.rc_types.specs.declared.messages.Message.{Message}
use Rattle.rc_reading.specs.declared.hosts.Hosts.{Hosts}
use Rattle.rc_reading.specs.Hosts.{has_host}
use Rattle.rc_types.specs.Kinds.{kind_of}
use Rattle.rc_reading.specs.Kinds.{has_kind}
use Rattle.rc_runs.specs.declared.passing.Passing.{Passing}

-- what is for the outside, and what is for one of these hosts
abbrev pub is_for_one_of : Hosts → Addr → Bool
is_for_one_of hosts Outside = true
is_for_one_of hosts Coordinator = false
is_for_one_of hosts (Server id) = has_host hosts id.index

-- the pass leaves the message alone
abbrev pub is_left_alone : Passing → Message → Bool
is_left_alone passing message = is_for_one_of passing.hosts message.to || has_kind passing.kinds (kind_of message.body)
