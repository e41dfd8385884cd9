-- The messages that wait, by kind and host.
use Rattle.std.specs.Prelude.{◌≡◌, ◌⊎◌, ◌≤◌, ◌<◌, ℕ, ◌+◌, Bool, true, false, nat_lt, ◌||◌, List, [], ◌∷◌, ⊤, Option}
use Rattle.std.specs.Prelude.{Some, None, slice_get, unwrap_or}
use Rattle.rc_types.specs.declared.ids.Addr.{Addr}
use Rattle.rc_types.specs.declared.messages.Kind.{Kind}
use Rattle.rc_reading.specs.Kinds.{has_kind}
use Rattle.rc_runs.specs.declared.passing.Passing.{Passing}
use Rattle.rc_runs.specs.Passing.{is_for_one_of}

-- Lists of numbers

abbrev pub In : ℕ → List ℕ → Type 0
In n [] = ⊥
In n (first ∷ numbers) = (n ≡ first) ⊎ In n numbers

-- the numbers rise, from low or more to below high
abbrev pub Ascends : ℕ → ℕ → List ℕ → Type 0
Ascends low high [] = ⊤
Ascends low high (first ∷ numbers) = (low ≤ first) × (first < high) × Ascends (first + 1) high numbers

-- Marks

-- the mark of this number; where there is none yet, it is unmarked
abbrev pub marked : List Bool → ℕ → Bool
marked marks n = unwrap_or (slice_get marks n) false

-- Lanes

-- the numbers of messages of one kind, all to servers on one host, or all to the coordinator
pub record Lane : Type 0 where
  pub kind : Kind
  -- an addressee of one of them
  pub to : Addr
  pub numbers : List ℕ

-- the pass leaves messages of this kind to this addressee alone
abbrev pub is_lane_left : Passing → Kind → Addr → Bool
is_lane_left passing kind to = is_for_one_of passing.hosts to || has_kind passing.kinds kind

-- the number is in a lane that the pass does not leave alone
abbrev pub InLanes : Passing → ℕ → List Lane → Type 0
InLanes passing n [] = ⊥
InLanes passing n (lane ∷ lanes) =
    ((is_lane_left passing lane.kind lane.to ≡ false) × In n lane.numbers) ⊎ InLanes passing n lanes

-- the numbers of each lane rise, to below high
abbrev pub AllAscend : ℕ → List Lane → Type 0
AllAscend high [] = ⊤
AllAscend high (lane ∷ lanes) = Ascends 0 high lane.numbers × AllAscend high lanes

-- the least of the numbers from a bound on that are due, among those of a set; or there is none
abbrev pub IsLeast : (ℕ → Bool) → ℕ → (ℕ → Type 0) → Option ℕ → Type 0
IsLeast due from P None = (n : ℕ) → from ≤ n → P n → due n ≡ true → ⊥
IsLeast due from P (Some least) =
    (from ≤ least) × (due least ≡ true) × ((n : ℕ) → from ≤ n → P n → due n ≡ true → least ≤ n)

abbrev pub lesser : Bool → ℕ → ℕ → Option ℕ
lesser true n m = Some n
lesser false n m = Some m

-- the lesser of two
abbrev pub earlier_of : Option ℕ → Option ℕ → Option ℕ
earlier_of None other = other
earlier_of (Some n) None = Some n
earlier_of (Some n) (Some m) = lesser (nat_lt n m) n m

-- the number has joined the lanes, for a message of this kind to this addressee
pub record Joins (kind : Kind) (to : Addr) (number : ℕ) (old new : List Lane) : Type 0 where
  pub kept : (passing : Passing) (n : ℕ) → InLanes passing n old → InLanes passing n new
  pub joined : (passing : Passing) → is_lane_left passing kind to ≡ false → InLanes passing number new
  pub ordered : AllAscend number old → AllAscend (number + 1) new

-- only what is marked has left the lanes
pub record AreTidied (marks : List Bool) (old new : List Lane) : Type 0 where
  pub kept : (passing : Passing) (n : ℕ) → marked marks n ≡ false → InLanes passing n old → InLanes passing n new
  pub ordered : (high : ℕ) → AllAscend high old → AllAscend high new
