-- What is written down in pieces may happen, where a test of its lines says so.
use Rattle.std.proofs.Common.{◌≡◌, ℕ, Bool, true, false, ◌&&◌, nat_le, List, [], ◌∷◌, length, Option, Some, None, slice_get, refl, sym}
use Rattle.std.proofs.Common.{arith}
use Rattle.std.proofs.lemmas.Bool.{and_parts, leb-true}
use Rattle.rc_types.specs.declared.events.Setup.{Setup}
use Rattle.rc_types.specs.declared.messages.Message.{Message}
use Rattle.rc_model.specs.Nodes.{NodeWork, Deliver, Start, Ask, Ordered}
use Rattle.rc_model.specs.World.{NodeName, node_of}
use Rattle.rc_model.proofs.Members.{In-get}
use Rattle.rc_model.proofs.Tests.{true_false}
use Rattle.rc_history.specs.Nodes.{node_can}
use Rattle.rc_history.specs.Processes.{Deed, Processes, MayTake, May, MayAll, after}
use Rattle.rc_promises.specs.Script.{Line, Gives, Brings, AllIsSafe, Lets, Ends, brings, lets_go, message_of}
use Rattle.rc_promises.specs.Script.{happening_of, happenings_of}

-- such a work names its node, or none
abbrev pub is_plain : NodeWork → Bool
is_plain (Start kept) = true
is_plain (Ask to body) = true
is_plain (Ordered order) = true
is_plain _ = false

abbrev pub can_bring : Processes → Option Message → Bool
can_bring all (Some message) = node_can (all.at (node_of message.to)).life.node (Deliver message)
can_bring all None = false

abbrev pub can_let : Processes → Option Deed → Option Message → Bool
can_let all (Some deed) (Some message) = nat_le deed.rests (all.at deed.node).safe
can_let all _ _ = false

abbrev pub can_line : Processes → Line → Bool
can_line all (Gives name work) = node_can (all.at name).life.node work && is_plain work
can_line all (Brings number) = can_bring all (slice_get all.left number)
can_line all (AllIsSafe name) = nat_le (all.at name).safe (length (all.at name).life.journal)
can_line all (Lets deed number) = can_let all (slice_get all.done deed) (message_of (slice_get all.done deed) number)
can_line all (Ends name) = nat_le (all.at name).safe (length (all.at name).life.journal)

abbrev pub can_all : Setup → Processes → List Line → Bool
can_all setup all [] = true
can_all setup all (line ∷ lines) = can_line all line && can_all setup (after setup all (happening_of all line)) lines

may-give : {all : Processes} {name : NodeName} (work : NodeWork) → node_can (all.at name).life.node work ≡ true → is_plain work ≡ true →
    MayTake all name work
may-give (Start kept) can plain = record { can = can; addressed = tt; brought = tt }
may-give (Ask to body) can plain = record { can = can; addressed = tt; brought = tt }
may-give (Ordered order) can plain = record { can = can; addressed = tt; brought = tt }
may-give _ can plain = true_false (sym plain)

may-bring : (all : Processes) (number : ℕ) (found : Option Message) → slice_get all.left number ≡ found → can_bring all found ≡ true →
    May all (brings found)
may-bring all number None is can = true_false (sym can)
may-bring all number (Some message) is can =
    record { can = can; addressed = refl; brought = In-get all.left number message is }

may-let : (all : Processes) (deed number : ℕ) (found : Option Deed) → slice_get all.done deed ≡ found → (sent : Option Message) →
    message_of found number ≡ sent → can_let all found sent ≡ true → May all (lets_go sent)
may-let all deed number None is sent sends can = true_false (sym can)
may-let all deed number (Some one) is None sends can = true_false (sym can)
may-let all deed number (Some one) is (Some message) sends can = record {
  deed = one;
  done_before = In-get all.done deed one is;
  its = In-get one.sent number message sends;
  safe_by_now = leb-true one.rests (all.at one.node).safe can;
}

may-line : (all : Processes) (line : Line) → can_line all line ≡ true → May all (happening_of all line)
may-line all (Gives name work) can =
    let both = and_parts (node_can (all.at name).life.node work) (is_plain work) can in may-give work both.0 both.1
may-line all (Brings number) can = may-bring all number (slice_get all.left number) refl can
may-line all (AllIsSafe name) can =
    record { no_less = leb-true (all.at name).safe (length (all.at name).life.journal) can; no_more = omega arith }
may-line all (Lets deed number) can = may-let all deed number (slice_get all.done deed) refl
    (message_of (slice_get all.done deed) number) refl can
may-line all (Ends name) can =
    record { no_less = omega arith; no_more = leb-true (all.at name).safe (length (all.at name).life.journal) can }

pub may-lines : (setup : Setup) (all : Processes) (lines : List Line) → can_all setup all lines ≡ true →
    MayAll setup all (happenings_of setup all lines)
may-lines setup all [] can = tt
may-lines setup all (line ∷ lines) can =
    let both = and_parts (can_line all line) (can_all setup (after setup all (happening_of all line)) lines) can in
    (may-line all line both.0, may-lines setup (after setup all (happening_of all line)) lines both.1)
