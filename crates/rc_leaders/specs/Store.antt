-- The store: what stands there, and what a transaction leaves. A transaction happens in one moment, or never. What
-- stands under an epoch is its save, in pieces, and the records behind that. In place of bytes they are works here: a
-- record is the works that it writes down, and the pieces of a save are the works that it stands for.
use Rattle.std.specs.Prelude.{ℕ, ◌+◌, zero, suc, List, [], ◌++◌}
use Rattle.rc_model.specs.Nodes.{NodeWork}
use Rattle.rc_model.specs.Tables.{put}

-- The term that leads; which epoch `head` names, and how many numbers of it; and what stands under each epoch and
-- number.
pub record Store : Type 0 where
  pub leader : ℕ
  pub epoch : ℕ
  pub count : ℕ
  pub under : ℕ → ℕ → List NodeWork

-- at first the process of term 0 leads, and there is nothing
abbrev pub new_store : Store
new_store = record { leader = 0; epoch = 0; count = 0; under = λ epoch number. [] }

-- what stands under the first so many numbers of an epoch, in order
abbrev pub joined : (ℕ → List NodeWork) → ℕ → List NodeWork
joined numbers zero = []
joined numbers (suc count) = joined numbers count ++ numbers count

-- the journal is what `head` names
abbrev pub journal_in : Store → List NodeWork
journal_in store = joined (store.under store.epoch) store.count

-- these works stand under this number of an epoch
abbrev pub with_works : Store → ℕ → ℕ → List NodeWork → ℕ → ℕ → List NodeWork
with_works store epoch number works = put store.under epoch (put (store.under epoch) number works)

-- What transactions leave

-- somebody takes the lead: the term is the next one, and `head` is read in the same moment
abbrev pub taken_over : Store → Store
taken_over store = record store { leader = store.leader + 1 }

-- one record more, and `head` names it
abbrev pub with_record : Store → List NodeWork → Store
with_record store works = record {
  leader = store.leader;
  epoch = store.epoch;
  count = store.count + 1;
  under = with_works store store.epoch store.count works;
}

-- a piece of a save, under the next epoch
abbrev pub with_piece : Store → ℕ → List NodeWork → Store
with_piece store number works = record store { under = with_works store (store.epoch + 1) number works }

-- `head` names so many pieces of the next epoch
abbrev pub swapped : Store → ℕ → Store
swapped store count = record store { epoch = store.epoch + 1; count = count }

-- nothing stands under an epoch any more
abbrev pub without_epoch : Store → ℕ → Store
without_epoch store epoch = record store { under = put store.under epoch (λ number. []) }
