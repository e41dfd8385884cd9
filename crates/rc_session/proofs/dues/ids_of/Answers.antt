use Rattle.std.proofs.Common.{arith}
use Rattle.rc_codec.specs.Parts.{listed}
use Rattle.rc_codec.specs.Fields.{id_code}
use Rattle.rc_codec.proofs.Lawful.{listed_lawful}
use Rattle.rc_codec.proofs.EachKind.{id_law}
use Rattle.rc_session.proofs.Wholes.{nothing_behind}
use Rattle.rc_session.proofs.dues.ids_of.Goals as goal

pub returns-in-Ok-default-empty : goal.returns-in-Ok-default-empty
returns-in-Ok-default-empty c =
    nothing_behind c.args.bytes.now (listed id_code c.in-Ok-default-empty.ids) c.in-Ok-default-empty.field-0-1.now
    ((listed_lawful id_law).takes c.args.bytes.now c.in-Ok-default-empty.ids c.in-Ok-default-empty.field-0-1.now
    (λ i. omega (arith, c.type_inv.bytes i)) c.in-Ok-default-empty.ensures) (omega (arith, c.in-Ok-default-empty.len_below))
