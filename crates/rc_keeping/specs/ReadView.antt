-- What was read, as contracts see it.
use Rattle.rc_keeping.specs.Saved.{Saved, HostSave, CoordinatorSave}
use Rattle.rc_keeping.specs.declared.reading.Kind.{Kind}
use Rattle.rc_keeping.specs.declared.reading.Kind.TheVariants.{Host, Coordinator}

abbrev pub read_view : Kind → Saved
read_view (Host parts) = HostSave parts
read_view (Coordinator book) = CoordinatorSave book
