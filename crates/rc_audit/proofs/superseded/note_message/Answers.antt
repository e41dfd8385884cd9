use Rattle.std.proofs.Common.{◌∙◌}
use Rattle.rc_audit.proofs.SupersededLemmas.{place_noted, append_noted}
use Rattle.rc_audit.proofs.superseded.note_message.Goals as goal

pub returns-in_ok-note_entries-in-Place : goal.returns-in_ok-note_entries-in-Place
returns-in_ok-note_entries-in-Place c =
    place_noted _ _ c.args.recovery.now.rows.now c.args.message.now.body _ _ _ _ c.as_slice.result.now _ c.number_of-reach.result
    c.in-Place.is c.as_slice.ensures (c.number_of-reach.ensures ∙ c.requires.reach_of _) c.in_ok-note_entries-in-Place.ensures

pub returns-in_ok-note_entries-in-Append : goal.returns-in_ok-note_entries-in-Append
returns-in_ok-note_entries-in-Append c =
    append_noted _ _ c.args.recovery.now.rows.now c.args.message.now.body _ _ _ c.as_slice-in-Append.result.now
    c.number_of-reach-in-Append.result
    c.in-Append.is c.as_slice-in-Append.ensures (c.number_of-reach-in-Append.ensures ∙ c.requires.reach_of _)
    c.in_ok-note_entries-in-Append.ensures
