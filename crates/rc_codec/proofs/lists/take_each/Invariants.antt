use Rattle.std.proofs.Common.{◌≡◌, ◌-◌}
use Rattle.rc_codec.specs.Reading.{each_at}
use Rattle.rc_codec.proofs.Repeating.{with_front}
use Rattle.rc_codec.proofs.lists.take_each.Given as goal

abbrev pub invariant-loop : goal.invariant-loop
invariant-loop g l = with_front l.items.items (each_at g.T.Take.read (l.count - l.counter) l.rest) ≡ each_at g.T.Take.read l.count l.bytes
