-- Reading from left to right: what stands at the front, and the bytes after it; nothing where the bytes
-- begin with no coding.
use Rattle.std.specs.Prelude.{◌≡◌, ℕ, zero, suc, ◌+◌, ◌*◌, List, [], ◌∷◌, length, take, drop, Bool, true, false, Option}
use Rattle.std.specs.Prelude.{Some, None, Result, Ok, Err, nat_lt, if◌then◌else◌}
use Rattle.rc_codec.specs.declared.faults.DecodeFault.{DecodeFault}
use Rattle.rc_codec.specs.declared.faults.DecodeFault.TheVariants.{OutOfMemory, Malformed}

infixl 10 ◌>>=◌
abbrev pub ◌>>=◌ : {A B : Type 0} → Option A → (A → Option B) → Option B
(Some x) >>= f = f x
None >>= f = None

-- what a function answered is what reading gives, unless memory ran out
abbrev pub Fails : {Y : Type 0} → DecodeFault → Option Y → Type 0
Fails OutOfMemory read = Unit {0}
Fails Malformed read = read ≡ None

abbrev pub Gives : {X Y : Type 0} → (X → Y) → Result X DecodeFault → Option Y → Type 0
Gives view (Ok x) read = read ≡ Some (view x)
Gives view (Err e) read = Fails e read

-- a reader of A
abbrev pub Reader : Type 0 → Type 0
Reader A = List ℕ → Option (A × List ℕ)

-- something made of what is read
abbrev pub made : {A B : Type 0} → Reader A → (A → B) → Reader B
made read f xs = read xs >>= λ x. Some (f x.0, x.1)

-- one after the other
infixl 20 ◌⊗◌
abbrev pub ◌⊗◌ : {A B : Type 0} → Reader A → Reader B → Reader (A × B)
(first ⊗ second) xs = first xs >>= λ x. second x.1 >>= λ y. Some ((x.0, y.0), y.1)

abbrev pub nothing_at : Reader (Unit {0})
nothing_at xs = Some (tt, xs)

abbrev pub three : {A B C : Type 0} → Reader A → Reader B → Reader C → Reader (A × B × C)
three a b c = made (a ⊗ b ⊗ c) (λ p. (p.0.0, p.0.1, p.1))

abbrev pub four : {A B C D : Type 0} → Reader A → Reader B → Reader C → Reader D → Reader (A × B × C × D)
four a b c d = made (three a b c ⊗ d) (λ p. (p.0.0, p.0.1, p.0.2, p.1))

abbrev pub five : {A B C D E : Type 0} → Reader A → Reader B → Reader C → Reader D → Reader E
    → Reader (A × B × C × D × E)
five a b c d e = made (four a b c d ⊗ e) (λ p. (p.0.0, p.0.1, p.0.2, p.0.3, p.1))

abbrev pub six : {A B C D E F : Type 0} → Reader A → Reader B → Reader C → Reader D → Reader E → Reader F
    → Reader (A × B × C × D × E × F)
six a b c d e f = made (five a b c d e ⊗ f) (λ p. (p.0.0, p.0.1, p.0.2, p.0.3, p.0.4, p.1))

abbrev pub number_at : ℕ → Reader ℕ
number_at more [] = None
number_at zero (b ∷ rest) = Some (b, rest)
number_at (suc more) (b ∷ rest) = number_at more rest >>= λ high. Some (b + 256 * high.0, high.1)

abbrev pub flag_at : Reader Bool
flag_at [] = None
flag_at (zero ∷ rest) = Some (false, rest)
flag_at (suc zero ∷ rest) = Some (true, rest)
flag_at (suc (suc b) ∷ rest) = None

unfoldable pub bytes_at : Reader (List ℕ)
bytes_at xs = number_at 7 xs >>= λ n. if nat_lt (length n.1) n.0 then None else Some (take n.0 n.1, drop n.0 n.1)

abbrev pub optional_at : {A : Type 0} → Reader A → Reader (Option A)
optional_at read [] = None
optional_at read (zero ∷ rest) = Some (None, rest)
optional_at read (suc zero ∷ rest) = read rest >>= λ x. Some (Some x.0, x.1)
optional_at read (suc (suc b) ∷ rest) = None

-- this many, one after the other
unfoldable pub each_at : {A : Type 0} → Reader A → ℕ → Reader (List A)
each_at read zero xs = Some ([], xs)
each_at read (suc n) xs = read xs >>= λ first. each_at read n first.1 >>= λ others. Some (first.0 ∷ others.0, others.1)

unfoldable pub listed_at : {A : Type 0} → Reader A → Reader (List A)
listed_at read xs = number_at 7 xs >>= λ n. each_at read n.0 n.1
