use Rattle.rc_keeping.proofs.SaveLaws.{is-loaded, none-coded, none-sealed}
use Rattle.rc_keeping.proofs.saves.load.Goals as goal

pub returns-in-Ok-load_code-clause-loaded : goal.returns-in-Ok-load_code-clause-loaded
returns-in-Ok-load_code-clause-loaded g c = is-loaded c.args.bytes.now c.in-Ok.code.now c.in-Ok.rest.now c.in-Ok-load_code.node
    c.in-Ok.ensures.opened c.in-Ok-load_code.ensures.loaded

pub returns-in-Err-load_code-clause-refused : goal.returns-in-Err-load_code-clause-refused
returns-in-Err-load_code-clause-refused g c = λ malformed.
    none-coded c.args.bytes.now c.in-Ok.code.now c.in-Ok.rest.now c.in-Ok.ensures.opened
    (c.in-Err-load_code.ensures.refused malformed)

pub returns-in-Err-clause-refused : goal.returns-in-Err-clause-refused
returns-in-Err-clause-refused g c = λ malformed. none-sealed c.args.bytes.now (c.in-Err.ensures.refused malformed)
