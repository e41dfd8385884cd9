-- Sets of kinds: a bit for each kind.
use Rattle.std.specs.Prelude.{Bool}
use Rattle.rc_types.specs.declared.messages.Kind.{Kind}
use Rattle.rc_types.specs.Kinds.{kind_number}
use Rattle.rc_reading.specs.declared.kinds.Kinds.{Kinds}
use Rattle.rc_reading.specs.Bits.{with_bit, has_bit}

abbrev pub no_kinds : Kinds
no_kinds = record { bits = 0 }

abbrev pub with_kind : Kinds → Kind → Kinds
with_kind kinds kind = record { bits = with_bit kinds.bits (kind_number kind) }

abbrev pub has_kind : Kinds → Kind → Bool
has_kind kinds kind = has_bit kinds.bits (kind_number kind)
