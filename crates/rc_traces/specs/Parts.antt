-- Entries and rows, an item at a time.
use Rattle.std.specs.Prelude.{nat_eq, if◌then◌else◌, Option, Some, None}
use Rattle.rc_types.specs.declared.entries.Entry.{Entry}
use Rattle.rc_types.specs.declared.rows.PlanRow.{PlanRow}
use Rattle.serde_json.specs.Data.{Data}
use Rattle.rc_reading.specs.Values.{given3, id_of, table_of, key_of}
use Rattle.rc_traces.specs.declared.lists.EntryParts.{EntryParts}
use Rattle.rc_traces.specs.declared.lists.RowParts.{RowParts}
use Rattle.rc_traces.specs.Values.{given5, seg_of, number_of, value_of}
use Rattle.rc_traces.specs.Trace.{entry_with, row_with}

abbrev pub no_entry_parts : EntryParts
no_entry_parts = record { count = 0; term = None; table = None; key = None; version = None; value = None }

-- one more item of an entry
abbrev pub entry_part : EntryParts → Data → EntryParts
entry_part parts d =
    if nat_eq parts.count 0 then record parts { count = 1; term = number_of d }
    else (if nat_eq parts.count 1 then record parts { count = 2; table = table_of d }
    else (if nat_eq parts.count 2 then record parts { count = 3; key = key_of d }
    else (if nat_eq parts.count 3 then record parts { count = 4; version = key_of d }
    else (if nat_eq parts.count 4 then record parts { count = 5; value = value_of d }
    else record parts { count = 6 }))))

abbrev pub takes_entry_part : EntryParts → Data → Option EntryParts
takes_entry_part parts d = Some (entry_part parts d)

-- the entry that five items say
abbrev pub entry_made : EntryParts → Option Entry
entry_made parts = if nat_eq parts.count 5 then given5 entry_with parts.term parts.table parts.key parts.version
    parts.value else None

abbrev pub no_row_parts : RowParts
no_row_parts = record { count = 0; seg = None; holder = None; len = None }

-- one more item of a row
abbrev pub row_part : RowParts → Data → RowParts
row_part parts d =
    if nat_eq parts.count 0 then record parts { count = 1; seg = seg_of d }
    else (if nat_eq parts.count 1 then record parts { count = 2; holder = id_of d }
    else (if nat_eq parts.count 2 then record parts { count = 3; len = number_of d }
    else record parts { count = 4 }))

abbrev pub takes_row_part : RowParts → Data → Option RowParts
takes_row_part parts d = Some (row_part parts d)

-- the row that three items say
abbrev pub row_made : RowParts → Option PlanRow
row_made parts = if nat_eq parts.count 3 then given3 row_with parts.seg parts.holder parts.len else None
