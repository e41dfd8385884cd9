-- What came of a command.
use Rattle.std.proofs.Common.{◌≡◌, ◌≢◌, ℕ, List, Option, Some, None, Result, Ok, Err, IfOk, refl, sym, subst}
use Rattle.std.specs.Option.{IfSome}
use Rattle.std.specs.Io.KnownBytes.{Keeps}
use Rattle.rc_sim.specs.declared.verdicts.Verdict.{Verdict}
use Rattle.rc_sim.specs.declared.verdicts.SimFault.{SimFault}
use Rattle.rc_sim.specs.declared.verdicts.SimFault.TheVariants.{Memory, Read, Write}
use Rattle.rc_sim.specs.Written.{IsWritten, IsBegun}
use Rattle.rc_sim.specs.Statuses.{Answered}

pub keeps_same : (known : Option (List ℕ)) → Keeps known known
keeps_same None = tt
keeps_same (Some bytes) = refl

abbrev failing : SimFault → Result Verdict SimFault
failing fault = Err fault

-- nothing is written where nothing could be read, or memory was refused
pub unread : (F : List ℕ → Verdict → List ℕ → Type 0) {T : Type 0} (reading : Result T SimFault) (fault : SimFault)
    (input known : Option (List ℕ)) → reading ≡ Err fault → ((count : ℕ) → reading ≢ Err (Write count))
    → Answered F (failing fault) input known known
unread F reading Memory input known is none = keeps_same known
unread F reading Read input known is none = keeps_same known
unread F reading (Write count) input known is none = absurd (none count is)

pub not_read : (F : List ℕ → Verdict → List ℕ → Type 0) {T : Type 0} (outcome : Result Verdict SimFault)
    (reading : Result T SimFault) (fault : SimFault) (input known : Option (List ℕ)) → outcome ≡ Err fault →
    reading ≡ Err fault → ((count : ℕ) → reading ≢ Err (Write count)) → Answered F outcome input known known
not_read F outcome reading fault input known e is none =
    subst (λ o. Answered F o input known known) (sym e) (unread F reading fault input known is none)

pub no_memory : (F : List ℕ → Verdict → List ℕ → Type 0) (outcome : Result Verdict SimFault)
    (input known : Option (List ℕ)) → outcome ≡ Err Memory → Answered F outcome input known known
no_memory F outcome input known e = subst (λ o. Answered F o input known known) (sym e) (keeps_same known)

-- what an answer says of each outcome

pub wholly : (F : List ℕ → Verdict → List ℕ → Type 0) (outcome : Result Verdict SimFault) (input old new : Option (List ℕ))
    → Answered F outcome input old new → IfOk outcome (λ verdict. IfSome input (λ bytes. IsWritten (F bytes) verdict old new))
wholly F (Ok verdict) input old new answered = answered
wholly F (Err fault) input old new answered = tt

pub partly : (F : List ℕ → Verdict → List ℕ → Type 0) (outcome : Result Verdict SimFault)
    (input old new : Option (List ℕ)) (count : ℕ) → Answered F outcome input old new →
    outcome ≡ Err (Write count) → IfSome input (λ bytes. IsBegun (F bytes) count old new)
partly F outcome input old new count answered is = subst (λ o. Answered F o input old new) is answered

pub without_memory : (F : List ℕ → Verdict → List ℕ → Type 0) (outcome : Result Verdict SimFault)
    (input old new : Option (List ℕ)) → Answered F outcome input old new → outcome ≡ Err Memory → Keeps old new
without_memory F outcome input old new answered is = subst (λ o. Answered F o input old new) is answered

pub without_input : (F : List ℕ → Verdict → List ℕ → Type 0) (outcome : Result Verdict SimFault)
    (input old new : Option (List ℕ)) → Answered F outcome input old new → outcome ≡ Err Read → Keeps old new
without_input F outcome input old new answered is = subst (λ o. Answered F o input old new) is answered
