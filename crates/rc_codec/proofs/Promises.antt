-- What follows for whoever decodes, from a reader that reads each coding back and nothing else.
use Rattle.std.proofs.Common.{◌≡◌, ℕ, ◌+◌, ◌-◌, ◌≤◌, List, length, Option, Some, None, Result, Ok, Err, refl, sym, ap, ◌∙◌, inl, inr, arith}
use Rattle.std.proofs.lemmas.List.{length-append}
use Rattle.rc_codec.specs.declared.faults.DecodeFault.{DecodeFault}
use Rattle.rc_codec.specs.declared.faults.DecodeFault.TheVariants.{OutOfMemory, Malformed}
use Rattle.rc_codec.specs.Claims.{IsFront, DecodesFront, BeginsWithNone, IsPrefixFree}
use Rattle.rc_codec.specs.Reading.{Reader, Fails}
use Rattle.rc_codec.proofs.Lawful.{IsBytes, Lawful, some_is}

pub is_prefix_free : {A : Type 0} {code : A → List ℕ} {read : Reader A} → Lawful code read → IsPrefixFree code
is_prefix_free {A} {code} {read} l x y xs ys e =
    let same = some_is (x, xs) (y, ys) (sym (l.again x xs) ∙ ap read e ∙ l.again y ys) in
    (ap (λ (p : A × List ℕ). p.0) same, ap (λ (p : A × List ℕ). p.1) same)

-- what is left is no longer than what was read from
pub is_shorter : {A : Type 0} {code : A → List ℕ} {read : Reader A} → Lawful code read → (xs : List ℕ) (x : A) (rest : List ℕ)
    → IsBytes xs → read xs ≡ Some (x, rest) → length rest ≤ length xs
is_shorter {A} {code} l xs x rest fits e =
    let same : length xs ≡ length (code x) + length rest = ap length (l.takes xs x rest fits e) ∙ length-append (code x) rest in
    omega (arith, same)

pub front_is : {A : Type 0} {code : A → List ℕ} {read : Reader A} → Lawful code read → (xs : List ℕ) (x : A) (rest : List ℕ) → IsBytes xs
    → read xs ≡ Some (x, rest) → IsFront (code x) (length xs - length rest) xs
front_is {A} {code} l xs x rest fits e =
    let whole = l.takes xs x rest fits e in
    let same : length xs ≡ length (code x) + length rest = ap length whole ∙ length-append (code x) rest in
    (omega (arith, same), (rest, whole))

abbrev done : {A : Type 0} → A × ℕ → Result (A × ℕ) DecodeFault
done x = Ok x

pub decodes_front : {A : Type 0} {code : A → List ℕ} {read : Reader A} → Lawful code read → (xs : List ℕ) (x : A) (rest : List ℕ)
    → IsBytes xs → read xs ≡ Some (x, rest) → DecodesFront code xs (Ok (x, length xs - length rest))
decodes_front {A} {code} {read} l xs x rest fits e y more h =
    let same = some_is (x, rest) (y, more) (sym e ∙ ap read h ∙ l.again y more) in
    let n = (front_is l xs x rest fits e).0 in
    inl (ap (λ (k : ℕ). done (x, k)) n ∙ ap (λ (p : A × List ℕ). done (p.0, length (code p.0))) same)

no_value : {A : Type 0} (r : Option A) (x : A) → r ≡ Some x → r ≡ None → ⊥
no_value (Some y) x e f = absurd cc
no_value None x e f = absurd cc

-- what reading nothing says
none_there : {A : Type 0} {code : A → List ℕ} {read : Reader A} → Lawful code read → (xs : List ℕ) → read xs ≡ None → BeginsWithNone code xs
none_there {A} {code} {read} l xs e x rest h = no_value (read xs) (x, rest) (ap read h ∙ l.again x rest) e

pub fails_so : {A : Type 0} {code : A → List ℕ} {read : Reader A} → Lawful code read → (xs : List ℕ) (f : DecodeFault) → Fails f (read xs)
    → DecodesFront code xs (Err f)
fails_so l xs OutOfMemory h x rest e = inr refl
fails_so l xs Malformed h x rest e = absurd (none_there l xs h x rest e)

pub refuses_so : {A : Type 0} {code : A → List ℕ} {read : Reader A} → Lawful code read → (xs : List ℕ) (f : DecodeFault)
    → Fails f (read xs) → f ≡ Malformed → BeginsWithNone code xs
refuses_so l xs OutOfMemory h e = absurd cc
refuses_so l xs Malformed h e = none_there l xs h
