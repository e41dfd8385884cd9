use Rattle.std.proofs.Common.{◌≡◌, ◌-◌, length}
use Rattle.std.specs.Io.KnownBytes.{Consumes}
use Rattle.rc_sim.proofs.outlets.read_all.Given as goal

-- the bytes so far came from the reader, and no read has failed
abbrev pub invariant-loop-chunk : goal.invariant-loop-chunk
invariant-loop-chunk g l = record {
  came : Consumes (g.R.Read.remaining l.fn.reader.inner) (g.R.Read.remaining l.reader.inner) l.bytes.items;
  counted : l.reader.failures ≡ l.fn.reader.failures;
}

-- there is an end to what is read
abbrev pub decreases-loop-chunk : goal.decreases-loop-chunk
decreases-loop-chunk g l = 16777217 - length l.bytes.items
