-- What a computed run unfolds.
use Rattle.std.specs.Prelude.{⊤}
use Rattle.std.specs.Fmt.{digits}
use Rattle.std.specs.Str.{chars, is_utf8}
use Rattle.serde_json.proofs.OnLiterals.{serde_json_on_literals}
use Rattle.rc_reading.specs.All.{kind_named, event_of}

-- how its numbers are spelled, and its text is read
unfoldable pub computed : ⊤
unfolding digits chars is_utf8 serde_json_on_literals kind_named event_of
computed = tt
