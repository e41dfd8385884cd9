use Rattle.std.proofs.Common.{nat_lt, take, ap, sym, ◌∙◌}
use Rattle.rc_ownership.specs.Highs.{last_version}
use Rattle.rc_ownership.proofs.RecordHighs.{last_version-greatest}
use Rattle.rc_ownership.proofs.Reading.{list_any-greatest}
use Rattle.rc_ownership.proofs.notes.Notes.is_outdated.Goals as goal

pub returns : goal.returns
returns c =
    let entry = c.args.entry.now in
    let durable = take c.args.self.now.durable c.args.self.now.noted in
    ap (nat_lt entry.version)
    (c.last_version.ensures ∙ ap last_version c.durable_highs-highs.ensures ∙ last_version-greatest entry.term
    entry.table entry.key durable)
    ∙ sym (list_any-greatest entry.term entry.table entry.key entry.version durable)
