-- What is left of a list where not all could be added to it.
use Rattle.std.specs.Prelude.{◌≡◌, List, length, take}

-- the new list begins with the old one
abbrev pub IsBeginning : {X : Type 0} → List X → List X → Type 0
IsBeginning {X} old new = take (length old) new ≡ old
