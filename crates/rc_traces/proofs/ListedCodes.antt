-- Messages as their codes: what is added to them, and what is read back.
use Rattle.std.proofs.Common.{◌≡◌, ℕ, ◌-◌, ◌<◌, List, [], ◌∷◌, ◌++◌, length, Option, Some, None, Result, Ok, Err}
use Rattle.std.proofs.Common.{refl, ap, ap₂, ◌∙◌, sym, arith, length-append, append_assoc, option_map, ◌⊎◌, inl, inr, drop}
use Rattle.std.proofs.Math.Seq.{drop-append_seam}
use Rattle.std.specs.List.{flat_map}
use Rattle.std.proofs.lemmas.List.{flat_map_more}
use Rattle.serde_json.specs.Data.{Data}
use Rattle.rc_types.specs.declared.messages.Message.{Message}
use Rattle.rc_codec.specs.Claims.{DecodesFront}
use Rattle.rc_codec.specs.Bodies.{coded_message}
use Rattle.rc_codec.specs.declared.faults.DecodeFault.{DecodeFault}
use Rattle.rc_codec.specs.declared.faults.DecodeFault.TheVariants.{OutOfMemory, Malformed}
use Rattle.rc_reading.specs.All.{each, placed, takes_placed}
use Rattle.rc_traces.specs.declared.listed.Listed.TheVariants.{Coded}
use Rattle.rc_traces.specs.Listed.{listed, one_more, takes_listed}

-- What is added

more_listed : (all : Result (List Message) ℕ) (one : Option Message) → one_more (listed all) one ≡ listed (placed all one)
more_listed (Err place) one = refl
more_listed (Ok all) None = refl
more_listed (Ok all) (Some one) =
    ap₂ (λ bytes count. Coded (record { bytes = bytes; count = count })) (flat_map_more coded_message [] all one)
    (omega (arith, length-append all (one ∷ [])))

pub each_listed : (said : Data → Option Message) (all : Result (List Message) ℕ) (ds : List Data) →
    each (takes_listed said) (listed all) ds ≡ option_map listed (each (takes_placed said) all ds)
each_listed said all [] = refl
each_listed said all (d ∷ ds) =
    ap (λ more. each (takes_listed said) more ds) (more_listed all (said d)) ∙ each_listed said (placed all (said d)) ds

-- What is read back

-- of all messages these are there, and so many are still to come from what is left of the codes
abbrev pub AreAhead : List Message → List Message → ℕ → List ℕ → Type 0
AreAhead all there more rest =
    (later : List Message) × (all ≡ there ++ later) × (more ≡ length later) × (rest ≡ flat_map coded_message later)

-- the next of them is the message that is decoded
pub next_read : (all there : List Message) (more : ℕ) (rest : List ℕ) (answer : Result (Message × ℕ) DecodeFault)
    (found : Message × ℕ) → 0 < more → AreAhead all there more rest → DecodesFront coded_message rest answer →
    answer ≡ Ok found → AreAhead all (there ++ found.0 ∷ []) (more - 1) (drop found.1 rest)
next_read all there more rest answer found some ([], is, long, codes) again ok = absurd (omega (arith, some, long))
next_read all there more rest answer found some (m ∷ later, is, long, codes) again ok =
    by (again m (flat_map coded_message later) codes)
  where
    by : (answer ≡ Ok (m, length (coded_message m))) ⊎ (answer ≡ Err OutOfMemory) →
        AreAhead all (there ++ found.0 ∷ []) (more - 1) (drop found.1 rest)
    by (inl same) =
        let e : found ≡ (m, length (coded_message m)) = cc in
        rw e (
          later,
          is ∙ sym (append_assoc there (m ∷ []) later),
          omega (arith, long),
          ap (drop (length (coded_message m))) codes ∙ drop-append_seam (coded_message m) (flat_map coded_message later),
        )
    by (inr none) = absurd (cc)

-- while there are some, there is one
pub next_is_one : (all there : List Message) (more : ℕ) (rest : List ℕ) (answer : Result (Message × ℕ) DecodeFault) →
    0 < more → AreAhead all there more rest → DecodesFront coded_message rest answer → answer ≡ Err Malformed → ⊥
next_is_one all there more rest answer some ([], is, long, codes) again bad = omega (arith, some, long)
next_is_one all there more rest answer some (m ∷ later, is, long, codes) again bad =
    by (again m (flat_map coded_message later) codes)
  where
    by : (answer ≡ Ok (m, length (coded_message m))) ⊎ (answer ≡ Err OutOfMemory) → ⊥
    by (inl same) = cc
    by (inr none) = cc
