-- What the tests of runs say: a run whose test names a sentence refutes that sentence, and none does.
use Rattle.std.specs.Prelude.{◌≡◌, []}
use Rattle.rc_model.specs.Headline.{In}
use Rattle.rc_worked.specs.Sentences.{Run, OneVersionOneWrite, WritesInTime, ReadsSeeWrites, broken}
use Rattle.rc_promises.specs.Service.{OneVersionIsOneWrite, WritesFollowTime, ReadsSeeAcknowledgedWrites}

abbrev pub BrokenVersionsRefute : Type 0
BrokenVersionsRefute = (run : Run) → In OneVersionOneWrite (broken run) → OneVersionIsOneWrite → ⊥

abbrev pub BrokenTimeRefutes : Type 0
BrokenTimeRefutes = (run : Run) → In WritesInTime (broken run) → WritesFollowTime → ⊥

abbrev pub BrokenReadsRefute : Type 0
BrokenReadsRefute = (run : Run) → In ReadsSeeWrites (broken run) → ReadsSeeAcknowledgedWrites → ⊥

abbrev pub NoRunBreaksOne : Type 0
NoRunBreaksOne = (run : Run) → broken run ≡ []
