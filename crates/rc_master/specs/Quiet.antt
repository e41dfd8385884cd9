-- A master that waits for its next input.
use Rattle.std.specs.Prelude.{◌≡◌, Bool, true, false, None}
use Rattle.rc_types.specs.declared.ids.Addr.{Addr}
use Rattle.rc_types.specs.declared.ids.Addr.TheVariants.{Coordinator}
use Rattle.rc_types.specs.declared.messages.Body.{Body}
use Rattle.rc_types.specs.declared.messages.Body.TheVariants.{Refused, Own}
use Rattle.rc_model.specs.Master.{Master}
use Rattle.rc_model.specs.FollowUps.{marks_shut, follow_up}

-- unless it is deposed, no rule applies, and what is shut is marked
abbrev pub IsQuiet : Master → Type 0
IsQuiet master = master.deposed ≡ false → (marks_shut master ≡ master) × (follow_up master ≡ None)

-- the message gives rise to no rule
abbrev pub is_quiet_message : Addr → Body → Bool
is_quiet_message Coordinator (Refused code) = true
is_quiet_message from (Own range term previous attempt) = true
is_quiet_message _ _ = false
