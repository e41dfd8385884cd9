use Rattle.std.proofs.Common.{Some, None, ap, ◌∙◌}
use Rattle.rc_ownership.specs.Notes.{replayed_in}
use Rattle.rc_ownership.specs.Parts.{Fetched}
use Rattle.rc_ownership.specs.Looks.{progress_of}
use Rattle.rc_ownership.proofs.ShownParts.{shown-of}
use Rattle.rc_ownership.proofs.parts.Parts.progress.Goals as goal

pub returns-in-Some : goal.returns-in-Some
returns-in-Some c =
    ap Some c.progress.ensures
    ∙ shown-of (progress_of (replayed_in c.args.notes.now)) c.self.inside.begun.entries c.args.self.now.parts
    c.args.number (Some (c.in-Some.field-0-0.now, c.in-Some.part.now)) (ap (λ (f : Fetched). f.parts) c.self.view_is)
    c.in-Some.ensures.entry

pub returns-in-None : goal.returns-in-None
returns-in-None c =
    shown-of (progress_of (replayed_in c.args.notes.now)) c.self.inside.begun.entries c.args.self.now.parts
    c.args.number None (ap (λ (f : Fetched). f.parts) c.self.view_is) c.in-None.ensures.entry
