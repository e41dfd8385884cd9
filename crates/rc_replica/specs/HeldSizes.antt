-- How much a backup keeps of one master.
use Rattle.std.specs.Prelude.{ℕ, List, length}
use Rattle.std.specs.List.{sum_by}
use Rattle.rc_model.specs.Replica.{Replica}
use Rattle.rc_replica.specs.Sizes.{value_bytes as bytes_of_entries}

-- how many entries they have
abbrev pub count_entries : List (ℕ × Replica) → ℕ
count_entries replicas = sum_by (λ one. length one.1.entries) replicas

-- the bytes of the values of all of them
abbrev pub value_bytes : List (ℕ × Replica) → ℕ
value_bytes replicas = sum_by (λ one. bytes_of_entries one.1.entries) replicas
