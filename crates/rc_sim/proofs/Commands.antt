-- A command that was asked for is the one that is done.
use Rattle.std.proofs.Common.{◌≡◌, ◌∙◌, Option, Some, None, refl, sym, ap}
use Rattle.rc_commands.specs.declared.asking.Asked.{Asked}
use Rattle.rc_commands.specs.declared.asking.Asked.TheVariants as asked
use Rattle.rc_commands.specs.Asking.{as_command}

abbrev command_or : Asked → Option Asked → Asked
command_or other None = other
command_or other (Some command) = command

same-command : (command : Asked) → command_or command (as_command command) ≡ command
same-command (asked.Run heap) = refl
same-command asked.Trace = refl
same-command asked.Audit = refl
same-command asked.History = refl
same-command asked.Check = refl
same-command (asked.Fuzz seed steps free) = refl
same-command (asked.Stops seed steps) = refl
same-command (asked.StopsExplored drawing) = refl
same-command (asked.Threads hosts writes) = refl
same-command (asked.Explore drawing save progress) = refl
same-command (asked.Survey drawing last progress) = refl
same-command (asked.Until goal drawing last save progress) = refl
same-command (asked.Shrink keep) = refl
same-command asked.Log = refl
same-command (asked.Heal power_cycle) = refl
same-command (asked.Tell told) = refl
same-command (asked.Wrong told) = refl

pub command_is : (command other : Asked) → as_command command ≡ Some other → command ≡ other
command_is command other same = sym (same-command command) ∙ ap (command_or command) same
