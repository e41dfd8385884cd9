-- What holds of whatever a rule did.
use Rattle.std.proofs.Common.{◌≡◌, Bool, true, false, List, Option, Some, None, refl}
use Rattle.std.specs.Option.{option_or}
use Rattle.rc_model.specs.Model.{Message, Master, when}

-- it holds of what was done, if anything was
abbrev pub AllDone : (Master × List Message → Type 0) → Option (Master × List Message) → Type 0
AllDone P None = Unit {0}
AllDone P (Some done) = P done

pub done-or : (P : Master × List Message → Type 0) (one other : Option (Master × List Message)) → AllDone P one →
    AllDone P other → AllDone P (option_or one other)
done-or P (Some done) other p q = p
done-or P None other p q = q

pub done-when : (P : Master × List Message → Type 0) (b : Bool) {done : Master × List Message} → (b ≡ true → P done) →
    AllDone P (when b done)
done-when P true p = p refl
done-when P false p = tt
