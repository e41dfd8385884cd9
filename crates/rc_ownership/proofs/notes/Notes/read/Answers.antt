use Rattle.std.proofs.Common.{take, ap, sym, ◌∙◌}
use Rattle.rc_model.specs.Versions.{Found}
use Rattle.rc_ownership.proofs.Reading.{read-none, read-nothing, read-some}
use Rattle.rc_ownership.proofs.notes.Notes.read.Goals as goal

pub returns-in_default : goal.returns-in_default
returns-in_default c =
    read-none c.args.term c.args.table c.args.key (take c.args.self.now.durable c.args.self.now.noted) c.durable_highs.result.now
    c.durable_highs.ensures (sym c.in_default.ensures.value)

pub returns-in_default-durable_entry : goal.returns-in_default-durable_entry
returns-in_default-durable_entry c =
    read-nothing c.args.term c.args.table c.args.key (take c.args.self.now.durable c.args.self.now.noted)
    c.durable_highs.result.now c.in-Some.field-0.now
    c.durable_highs.ensures (sym c.in-Some.ensures.value) (sym c.in_default-durable_entry.ensures)

pub returns : goal.returns
returns c =
    read-some c.args.term c.args.table c.args.key (take c.args.self.now.durable c.args.self.now.noted)
    c.durable_highs.result.now c.in-Some.field-0.now
    c.in-Some-durable_entry.entry.now c.durable_highs.ensures (sym c.in-Some.ensures.value) (sym c.in-Some-durable_entry.ensures)
    ∙ ap (λ value. let found : Found = record { version = c.in-Some-durable_entry.entry.now.version; value = value } in found)
    (sym c.in_ok-value.ensures)
