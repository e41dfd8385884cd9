-- Which attempts a timer has to look at: those that wait for something.
use Rattle.std.specs.Prelude.{◌≡◌, ◌⊎◌, ℕ, ◌^◌, ◌<◌, ◌≤◌, Bool, true, false, not, if◌then◌else◌}
use Rattle.std.specs.Prelude.{nat_eq, ◌&&◌, List, [], ◌∷◌, ◌++◌, length, Option, Some, None}
use Rattle.std.specs.List.{list_any}
use Rattle.rc_types.specs.declared.ids.ServerId.{ServerId}
use Rattle.rc_types.specs.declared.kept.Grant.{Grant}
use Rattle.rc_types.specs.declared.messages.Message.{Message}
use Rattle.rc_model.specs.Attempts.{GivenPart, Decision, Attempt}
use Rattle.rc_model.specs.Coordinator.{Coordinator, attempt_at}
use Rattle.rc_model.specs.Deciding.{is_current}
use Rattle.rc_model.specs.CoordinatorStep.{asks_again}
use Rattle.rc_attempts.specs.Lookups.{number_of, attempt_of}
use Rattle.rc_coordinator.specs.Recovering.{is_granted}

-- one of these parts isn't granted
abbrev pub has_open_part : List Grant → List GivenPart → Bool
has_open_part grants parts = list_any (λ given. not (is_granted grants given.part.term)) parts

-- nothing is decided, or a part isn't granted
abbrev pub is_open : List Grant → Option Decision → Bool
is_open grants None = true
is_open grants (Some decision) = has_open_part grants decision.parts

-- the attempt of this number is its master's current one, and is open
abbrev pub waits : List (ServerId × ℕ) → List Grant → ℕ → Attempt → Bool
waits current grants number attempt =
    nat_eq (number_of current attempt.master) number && is_open grants attempt.decided

abbrev pub waits_at : List (ServerId × ℕ) → List Grant → ℕ → Option Attempt → Bool
waits_at current grants number None = false
waits_at current grants number (Some attempt) = waits current grants number attempt

-- what the attempt of this number asks, where it is its master's current one
abbrev pub asks_of : Coordinator → ℕ → Option Attempt → List Message
asks_of c number None = []
asks_of c number (Some attempt) =
    if is_current c number attempt then asks_again c number attempt attempt.decided else []

-- what the attempts of these numbers ask
abbrev pub asks_of_all : Coordinator → List ℕ → List Message
asks_of_all c [] = []
asks_of_all c (number ∷ numbers) = asks_of c number (attempt_at c number) ++ asks_of_all c numbers

-- the number is one of these
abbrev pub IsIn : ℕ → List ℕ → Type 0
IsIn number [] = ⊥
IsIn number (one ∷ others) = (number ≡ one) ⊎ IsIn number others

-- all of these are above the number
abbrev pub AllAbove : ℕ → List ℕ → Type 0
AllAbove number [] = Unit {0}
AllAbove number (one ∷ others) = (number < one) × AllAbove number others

-- each is above all before it
abbrev pub AreRising : List ℕ → Type 0
AreRising [] = Unit {0}
AreRising (one ∷ others) = AllAbove one others × AreRising others

-- the numbers rise, each is an attempt's, and none of an attempt that waits is missing
pub record AreAsked (attempts : List Attempt) (current : List (ServerId × ℕ)) (grants : List Grant) (asked : List ℕ) :
    Type 0 where
  pub rising : AreRising asked
  pub within : (number : ℕ) → IsIn number asked → (0 < number) × (number ≤ length attempts)
  pub all : (number : ℕ) (attempt : Attempt) → attempt_of attempts number ≡ Some attempt →
      waits current grants number attempt ≡ true → IsIn number asked

-- and the numbers have four bytes
pub record AreNumbered (attempts : List Attempt) (current : List (ServerId × ℕ)) (grants : List Grant)
    (asked : List ℕ) : Type 0 where
  pub kept : AreAsked attempts current grants asked
  pub few : length attempts < 2 ^ 32

-- the numbers from 1 up to this one, and no others, rising
pub record AreUpTo (count : ℕ) (numbers : List ℕ) : Type 0 where
  pub rising : AreRising numbers
  pub within : (number : ℕ) → IsIn number numbers → (0 < number) × (number ≤ count)
  pub all : (number : ℕ) → 0 < number → number ≤ count → IsIn number numbers
