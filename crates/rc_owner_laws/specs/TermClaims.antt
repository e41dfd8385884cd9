-- What is claimed of terms, of every setup and every list of events.
use Rattle.std.specs.Prelude.{◌≡◌, ℕ, List, [], ◌∷◌, map}
use Rattle.rc_types.specs.declared.ids.Addr.{Addr}
use Rattle.rc_types.specs.declared.rows.KeyRange.{KeyRange}
use Rattle.rc_types.specs.declared.rows.Part.{Part}
use Rattle.rc_types.specs.declared.events.Setup.{Setup}
use Rattle.rc_types.specs.declared.events.Event.{Event}
use Rattle.rc_types.specs.declared.messages.Message.{Message}
use Rattle.rc_types.specs.declared.messages.Body.{Body}
use Rattle.rc_types.specs.declared.messages.Body.TheVariants.{Own, Plan as PlanBody}
use Rattle.rc_model.specs.World.{replay}
use Rattle.rc_model.specs.Headline.{In}
use Rattle.rc_owner_laws.specs.Terms.{GoodTerms}

-- what holds of terms holds of every world
abbrev pub TermsAlwaysHold : Type 0
TermsAlwaysHold = (setup : Setup) (events : List Event) →
    GoodTerms (replay setup events).sent (replay setup events).coordinator

-- Terms are issued once

-- a term as it was issued: to whom, for which keys, after which term, in which attempt, which is 0 for a new table
pub record Issue : Type 0 where
  pub term : ℕ
  pub to : Addr
  pub range : KeyRange
  pub previous : ℕ
  pub attempt : ℕ

-- the term of a part, as a plan gives it
abbrev pub issue_of : Addr → ℕ → Part → Issue
issue_of to attempt part =
    record {
      term = part.term;
      to = to;
      range = part.range;
      previous = part.previous;
      attempt = attempt;
    }

abbrev pub issues_in : Addr → Body → List Issue
issues_in to (Own range term previous attempt) =
    record { term = term; to = to; range = range; previous = previous; attempt = attempt } ∷ []
issues_in to (PlanBody head attempt master rows parts) = map (issue_of to attempt) parts
issues_in to _ = []

-- an Own or a Plan that was sent says so
pub record WasIssued (sent : List Message) (issue : Issue) : Type 0 where
  pub message : Message
  pub among : In message sent
  pub says : In issue (issues_in message.to message.body)

-- whatever was sent of a term: it is one owner's, for one range, after one term, in one attempt
abbrev pub TermsAreIssuedOnce : Type 0
TermsAreIssuedOnce = (setup : Setup) (events : List Event) (one other : Issue) →
    WasIssued (replay setup events).sent one →
    WasIssued (replay setup events).sent other → one.term ≡ other.term → one ≡ other
