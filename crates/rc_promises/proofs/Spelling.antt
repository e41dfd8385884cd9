-- What a computed run spells its numbers with.
pub use Rattle.std.specs.Fmt.{digits}
