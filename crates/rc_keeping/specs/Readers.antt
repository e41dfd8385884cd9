-- Reading of works and of records.
use Rattle.std.specs.Prelude.{ℕ, List, [], ◌∷◌, length, take, drop, Option, Some, None, nat_eq, nat_lt, if◌then◌else◌}
use Rattle.rc_codec.specs.Reading.{◌>>=◌, Reader, made, ◌⊗◌, nothing_at, listed_at}
use Rattle.rc_codec.specs.Fields.{u32_at, u64_at, id_at, kept_at, chosen_at, versioned_at}
use Rattle.rc_codec.specs.Bodies.{body_at, message_at}
use Rattle.rc_codec.specs.Events.{ordered}
use Rattle.rc_types.specs.declared.events.NodeWork.{NodeWork}
use Rattle.rc_types.specs.declared.events.NodeWork.TheVariants as work
use Rattle.rc_keeping.specs.Spelling.{sum_of}

abbrev pub ask_at : Reader NodeWork
ask_at = made (id_at ⊗ body_at) (λ p. work.Ask p.0 p.1)

abbrev pub deliver_at : Reader NodeWork
deliver_at = made message_at work.Deliver

abbrev pub start_at : Reader NodeWork
start_at = made (listed_at kept_at) work.Start

abbrev pub works : List (Reader NodeWork)
works = ask_at ∷ deliver_at ∷ made nothing_at (λ _. work.Tick) ∷ made nothing_at (λ _. work.Stop) ∷ start_at
    ∷ ordered work.Order

unfoldable pub node_work_at : Reader NodeWork
node_work_at = chosen_at works

abbrev pub coded_at : Reader NodeWork
coded_at = versioned_at node_work_at

-- what was read, where nothing is left
abbrev pub alone : {A : Type 0} → A × List ℕ → Option A
alone (x, []) = Some x
alone (x, b ∷ rest) = None

unfoldable pub alone_at : List ℕ → Option NodeWork
alone_at code = coded_at code >>= alone

-- the work of bytes that have this sum
unfoldable pub summed_at : ℕ → List ℕ → Option NodeWork
summed_at sum code = if nat_eq (sum_of code) sum then alone_at code else None

-- so many bytes, that have this sum
unfoldable pub sealed_at : ℕ → ℕ → Reader NodeWork
sealed_at count sum xs =
    if nat_lt (length xs) count then None else summed_at sum (take count xs) >>= λ w. Some (w, drop count xs)

unfoldable pub record_at : Reader NodeWork
record_at xs = (u64_at ⊗ u32_at) xs >>= λ head. sealed_at head.0.0 head.0.1 head.1

-- so many bytes, that have this sum, whatever they say
unfoldable pub opened_with : ℕ → ℕ → Reader (List ℕ)
opened_with count sum xs =
    if nat_lt (length xs) count then None
    else (if nat_eq (sum_of (take count xs)) sum then Some (take count xs, drop count xs) else None)

unfoldable pub opened_at : Reader (List ℕ)
opened_at xs = (u64_at ⊗ u32_at) xs >>= λ head. opened_with head.0.0 head.0.1 head.1
