-- The three words that choose an event.
use Rattle.rand_pcg.specs.Lcg.{Lcg}
use Rattle.rc_runs.specs.declared.words.Words.{Words}
use Rattle.rc_runs.specs.Generator.{word, moved}

abbrev pub next_words : Lcg → Words
next_words g = record { kind = word g; target = word (moved g); detail = word (moved (moved g)) }

abbrev pub after_words : Lcg → Lcg
after_words g = moved (moved (moved g))
