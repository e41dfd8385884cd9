use Rattle.std.proofs.Common.{◌≡◌, ◌-◌, List}
use Rattle.rc_types.specs.declared.messages.Message.{Message}
use Rattle.rc_traces.specs.Codes.{codes_of}
use Rattle.rc_traces.proofs.ListedCodes.{AreAhead}
use Rattle.rc_traces.proofs.codes.Codes.decoded.Given as goal

-- of those whose codes these are, so many are there
abbrev pub invariant-loop : goal.invariant-loop
invariant-loop l = (all : List Message) → l.self ≡ codes_of all →
    AreAhead all l.messages.items (l.self.count - l.counter) l.rest
