-- The generator of the words.
use Rattle.std.specs.Prelude.{ℕ}
use Rattle.rand_pcg.specs.Lcg.{Lcg, started, increment_of}
use Rattle.rand_pcg.specs.Pcg.{multiplier_64, pcg32}

-- that of a seed
unfoldable pub generator : ℕ → Lcg
generator seed = started 64 multiplier_64 seed (increment_of 64 54)

-- its next word, and the generator after it
unfoldable pub word : Lcg → ℕ
word g = (pcg32 g).0

unfoldable pub moved : Lcg → Lcg
moved g = (pcg32 g).1
