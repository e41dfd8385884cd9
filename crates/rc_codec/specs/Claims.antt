-- What encoding and decoding promise, of any coding.
use Rattle.std.specs.Prelude.{◌≡◌, ◌⊎◌, ℕ, List, ◌++◌, length, Result, Ok, Err}
use Rattle.rc_codec.specs.declared.faults.DecodeFault.{DecodeFault}
use Rattle.rc_codec.specs.declared.faults.DecodeFault.TheVariants.{OutOfMemory}

-- the first n of the bytes are this coding
abbrev pub IsFront : List ℕ → ℕ → List ℕ → Type 0
IsFront code n xs = (n ≡ length code) × ((rest : List ℕ) × (xs ≡ code ++ rest))

-- a coding that the bytes begin with is decoded, and exactly its bytes are taken, unless memory runs out
abbrev pub DecodesFront : {A : Type 0} → (A → List ℕ) → List ℕ → Result (A × ℕ) DecodeFault → Type 0
DecodesFront {A} code xs answer = (x : A) (rest : List ℕ) → xs ≡ code x ++ rest
    → (answer ≡ Ok (x, length (code x))) ⊎ (answer ≡ Err OutOfMemory)

-- no coding stands at the front
abbrev pub BeginsWithNone : {A : Type 0} → (A → List ℕ) → List ℕ → Type 0
BeginsWithNone {A} code xs = (x : A) (rest : List ℕ) → xs ≡ code x ++ rest → ⊥

-- no coding begins another one, and two of them that are equal code the same
abbrev pub IsPrefixFree : {A : Type 0} → (A → List ℕ) → Type 0
IsPrefixFree {A} code = (x y : A) (xs ys : List ℕ) → code x ++ xs ≡ code y ++ ys → (x ≡ y) × (xs ≡ ys)
