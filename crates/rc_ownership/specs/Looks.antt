-- What is shown of the parts of a recovery.
use Rattle.std.specs.Prelude.{ℕ, List, [], ◌∷◌, length}
use Rattle.rc_types.specs.declared.entries.Entry.{Entry}
use Rattle.rc_model.specs.Ownership.{PartRow, PartState, entries_that_came, count_under}
use Rattle.rc_ownership.specs.Rows.{count_missing}
use Rattle.rc_ownership.specs.declared.looks.PartProgress.{PartProgress}

-- how many entries have come of the rows that a part waits for; of one that waits for none, how many it has
abbrev pub count_came : List PartRow → ℕ → ℕ
count_came [] size = size
count_came (row ∷ rows) size = length (entries_that_came (row ∷ rows))

-- how far a part has come, where these entries are durable
abbrev pub progress_of : List Entry → PartState → PartProgress
progress_of durable state = record {
  part = state.part;
  missing = count_missing state.rows;
  entries = count_came state.rows state.size;
  durable = count_under state.part.term durable;
  answered = state.answered;
}
