-- What is remembered of recoveries.
use Rattle.std.specs.Prelude.{ℕ, Bool, nat_eq, List}
use Rattle.std.specs.List.{list_any}
use Rattle.rc_types.specs.declared.ids.ServerId.{ServerId}
use Rattle.rc_types.specs.declared.kept.Grant.{Grant}
use Rattle.rc_model.specs.Attempts.{Attempt}

pub record Recovering : Type 0 where
  -- that of number k stands at place k - 1
  pub attempts : List Attempt
  -- of each master that had one the number of its current attempt
  pub current : List (ServerId × ℕ)
  pub grants : List Grant
  -- there is room for one more grant
  pub ready : Bool

-- the term was granted
abbrev pub is_granted : List Grant → ℕ → Bool
is_granted grants term = list_any (λ grant. nat_eq grant.term term) grants
