use Rattle.std.proofs.Common.{◌≡◌, [], sym}
use Rattle.std.proofs.lemmas.List.{append-nil}
use Rattle.rc_model.specs.Model.{Free, Segment, Log, has_segment, to_unlost}
use Rattle.rc_headroll.specs.LogData.{log_of}
use Rattle.rc_master.proofs.Unknown.{unknown-members, nothing-found}
use Rattle.rc_master.proofs.closing.add_frees_of.Goals as goal

pub returns-in_default-clause-ok : goal.returns-in_default-clause-ok
returns-in_default-clause-ok c =
    let log : Log = log_of c.args.log.now in
    let none : to_unlost log c.args.seg (Free c.args.seg) ≡ [] =
    unknown-members c.args.log.now c.args.seg (Free c.args.seg)
    (nothing-found {X = Segment} (has_segment log c.args.seg) (log.segments c.args.seg) c.in_default.ensures) in
    rw none (sym (append-nil _))
