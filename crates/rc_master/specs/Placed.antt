-- Messages of one segment.
use Rattle.std.specs.Prelude.{ℕ, Bool, map}
use Rattle.rc_types.specs.declared.messages.Body.{Body}
use Rattle.rc_types.specs.declared.messages.Body.TheVariants.{Place}
use Rattle.rc_model.specs.Segment.{Segment}

-- a segment whole, under its epoch
abbrev pub place_in : ℕ → Segment → Bool → Body
place_in seg segment closed = Place seg segment.config.epoch segment.digest (map (λ one. one.0) segment.entries) closed
