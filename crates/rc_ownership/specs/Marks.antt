-- Entries of which some are marked.
use Rattle.std.specs.Prelude.{Bool, if◌then◌else◌, List, [], ◌∷◌}
use Rattle.rc_types.specs.declared.entries.Entry.{Entry}

-- of these entries, those whose marks are set
abbrev pub marked : List Bool → List Entry → List Entry
marked [] entries = []
marked (mark ∷ marks) [] = []
marked (mark ∷ marks) (entry ∷ entries) = if mark then entry ∷ marked marks entries else marked marks entries
