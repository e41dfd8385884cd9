-- How a count of failures goes on.
use Rattle.std.specs.Prelude.{◌≡◌, ◌⊎◌, ℕ, ◌+◌, ◌%◌, ◌^◌, zero, suc, Result, Ok, Err}
use Rattle.rc_sim.specs.declared.verdicts.SimFault.{SimFault}
use Rattle.rc_sim.specs.declared.verdicts.SimFault.TheVariants.{Read, Write}

-- one failure more
abbrev pub once_more : ℕ → ℕ
once_more failures = (failures + 1) % 2 ^ 64

-- a read fails by an error
abbrev pub after_read : {E : Type 0} → Result ℕ E → ℕ → ℕ
after_read (Ok count) failures = failures
after_read (Err error) failures = once_more failures

-- a write fails by an error, and where it takes no byte
abbrev pub after_write : {E : Type 0} → Result ℕ E → ℕ → ℕ
after_write (Ok zero) failures = once_more failures
after_write (Ok (suc count)) failures = failures
after_write (Err error) failures = once_more failures

-- one failure more where a whole reading, or a whole writing, failed by it
abbrev pub failed_reads : {T : Type 0} → Result T SimFault → ℕ → ℕ
failed_reads (Err Read) failures = once_more failures
failed_reads _ failures = failures

abbrev pub failed_writes : {T : Type 0} → Result T SimFault → ℕ → ℕ
failed_writes (Err (Write count)) failures = once_more failures
failed_writes _ failures = failures

-- just one of the two failed, the reader or the writer: how often each had failed before, and how often then
abbrev pub OneFailed : ℕ → ℕ → ℕ → ℕ → Type 0
OneFailed reads reads' writes writes' =
    ((reads' ≡ once_more reads) × (writes' ≡ writes)) ⊎ ((reads' ≡ reads) × (writes' ≡ once_more writes))
