use Rattle.std.proofs.Common.{ap, ◌∙◌}
use Rattle.rc_ownership.specs.Highs.{last_version}
use Rattle.rc_ownership.proofs.RecordHighs.{last_version-greatest}
use Rattle.rc_ownership.proofs.notes.Notes.greatest_version.Goals as goal

pub returns : goal.returns
returns c =
    c.last_version.ensures ∙ ap last_version c.highs.ensures
    ∙ last_version-greatest c.args.term c.args.table c.args.key c.args.self.now.noted
