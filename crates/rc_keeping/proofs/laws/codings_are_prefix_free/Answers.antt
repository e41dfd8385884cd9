use Rattle.rc_codec.proofs.Promises.{is_prefix_free}
use Rattle.rc_keeping.proofs.WorkLaws.{coded_work_law}
use Rattle.rc_keeping.proofs.RecordLaws.{record_law}
use Rattle.rc_keeping.proofs.SealLaws.{sealed_law}
use Rattle.rc_keeping.proofs.laws.codings_are_prefix_free.Goals as goal

pub returns-clause-works : goal.returns-clause-works
returns-clause-works c = is_prefix_free coded_work_law

pub returns-clause-records : goal.returns-clause-records
returns-clause-records c = is_prefix_free record_law

pub returns-clause-sealed : goal.returns-clause-sealed
returns-clause-sealed c = is_prefix_free sealed_law
