-- Attempts to recover a crashed master: the answers that are gathered for one, and what is decided on them.
use Rattle.std.specs.Prelude.{ℕ, ◌+◌, ◌%◌, Bool, if◌then◌else◌, List, [], ◌∷◌, length, Option, None, slice_get}
use Rattle.std.specs.Prelude.{is_none, option_map}
use Rattle.std.specs.List.{list_any, flat_map, cons_option}
use Rattle.rc_types.specs.declared.ids.ServerId.{ServerId}
use Rattle.rc_types.specs.declared.rows.Row.{Row}
use Rattle.rc_types.specs.declared.rows.Plan.{Plan}
use Rattle.rc_types.specs.declared.rows.Part.{Part}
use Rattle.rc_types.specs.declared.rows.Tablet.{Tablet}
use Rattle.rc_types.specs.declared.messages.Message.{Message}
use Rattle.rc_types.specs.declared.messages.Body.TheVariants.{Plan as PlanBody}
use Rattle.rc_model.specs.Ids.{same_id}
use Rattle.rc_model.specs.Messages.{from_coordinator}

-- a part and the recovery master that it goes to
pub record GivenPart : Type 0 where
  pub to : ServerId
  pub part : Part

-- what was decided: where the log is, and who recovers which part
pub record Decision : Type 0 where
  pub plan : Plan
  pub parts : List GivenPart

-- an attempt to recover a crashed master: the answers to its Gathers, in the order of their coming, each from a backup
-- with its rows; and what was decided
pub record Attempt : Type 0 where
  pub master : ServerId
  pub replies : List (ServerId × List Row)
  pub decided : Option Decision

abbrev pub new_attempt : ServerId → Attempt
new_attempt master = record { master = master; replies = []; decided = None }

-- the id has answered already
abbrev pub has_answered : ServerId → List (ServerId × List Row) → Bool
has_answered id replies = list_any (λ reply. same_id id reply.0) replies

abbrev pub is_gathering : Attempt → Bool
is_gathering attempt = is_none attempt.decided

-- the part of a tablet, under a fresh term
abbrev pub part_of : Tablet → ℕ → Part
part_of tablet term = record { range = tablet.range; previous = tablet.term; term = term }

-- a part for this id, before others
abbrev pub given_to : Option ServerId → Part → List GivenPart → List GivenPart
given_to to part others = cons_option (option_map (λ id. record { to = id; part = part }) to) others

-- the tablets go to the ready ids in turn, from this place on, each under the next term
abbrev pub gives_parts : List ServerId → ℕ → ℕ → List Tablet → List GivenPart
gives_parts ids place term [] = []
gives_parts ids place term (tablet ∷ tablets) =
    given_to (slice_get ids (place % length ids)) (part_of tablet term) (gives_parts ids (place + 1) (term + 1) tablets)

-- the parts of one recovery master
abbrev pub parts_of : ServerId → List GivenPart → List Part
parts_of id [] = []
parts_of id (given ∷ others) = if same_id id given.to then given.part ∷ parts_of id others else parts_of id others

-- the plan to one recovery master: its parts alone and all rows; none where it has no part
abbrev pub plan_message : ℕ → ServerId → Plan → ServerId → List Part → List Message
plan_message number master plan id [] = []
plan_message number master plan id (part ∷ parts) =
    from_coordinator id (PlanBody plan.head number master plan.rows (part ∷ parts)) ∷ []

-- the plan to each of these that has a part
abbrev pub plan_messages : ℕ → ServerId → Decision → List ServerId → List Message
plan_messages number master decision ids =
    flat_map (λ id. plan_message number master decision.plan id (parts_of id decision.parts)) ids
