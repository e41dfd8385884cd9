-- What the test of a run's order says: a run whose test fails refutes what is said of reads, and none fails.
use Rattle.std.specs.Prelude.{◌≡◌, true, false}
use Rattle.rc_worked.specs.Sentences.{Run}
use Rattle.rc_worked.specs.Ordered.{order_of}
use Rattle.rc_promises.specs.Confirmed.{ConfirmedReadsMissNothing, ReadsFollowTime, WritesFollowReads}
use Rattle.rc_promises.specs.Confirmed.{ReadsShowOneValue}
use Rattle.rc_promises.specs.Linearizable.{HasReplicas}

abbrev pub BrokenOrderRefutes : Type 0
BrokenOrderRefutes = (run : Run) → HasReplicas run.setup → order_of run ≡ false →
    ConfirmedReadsMissNothing → ReadsFollowTime → WritesFollowReads → ReadsShowOneValue → ⊥

abbrev pub NoRunBreaksTheOrder : Type 0
NoRunBreaksTheOrder = (run : Run) → HasReplicas run.setup → order_of run ≡ true
