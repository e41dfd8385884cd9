-- What `parse` and the getters of `clap` tell of a number.
use Rattle.std.proofs.Common.{◌≡◌, ◌≢◌, ◌∙◌, ◌<◌, ◌≤◌, ◌^◌, ◌&&◌, ℕ, Bool, cond, true, false, length, Option, Some}
use Rattle.std.proofs.Common.{None, Result, Ok, Err, refl, sym, ap, arith, nat_lt, lt-ltb, ltb-true}
use Rattle.std.specs.Prelude.{⊤, nat_le, option_map}
use Rattle.std.specs.Option.{option_map_or}
use Rattle.std.specs.List.{slice_index}
use Rattle.std.specs.Borrow.{Bor}
use Rattle.std.specs.Str.{all_ascii_digits}
use Rattle.std.specs.Str.Parse.{ParsesUnsigned, digits_value}
use Rattle.std.proofs.lemmas.Bool.{le-leb, leb-true}
use Rattle.std.proofs.lemmas.Str.Parse.{IsNumeralModel, numerals_by_value, parse_plain, tells_all_ascii_digits}
use Rattle.clap.specs.Walk.{Text, first_of, rows_of}
use Rattle.clap.specs.Matches.{first_value}
use Rattle.clap.specs.declared.parser.matches.Found.{Found}
use Rattle.clap.proofs.WalkLemmas.{both, first_value-rows}
use Rattle.rc_commands.specs.Numbers.{decimal_in}

-- ---- digits

abbrev Digits : Text → Type 0
Digits ds = all_ascii_digits ds ≡ true

own : IsNumeralModel Digits (digits_value 10)
own = numerals_by_value Digits tells_all_ascii_digits

module _ (least most : ℕ) where
  module _ (text : Text) (plain : slice_index text 0 ≢ 43) where
    pub taken : (n : ℕ) → ParsesUnsigned {E = ⊤} 64 10 text (Ok n) → least ≤ n → n ≤ most → Some n ≡ decimal_in least most text
    taken n read low high =
        let r : Result ℕ ⊤ = Ok n in
        let h = parse_plain own 64 text r read plain in
        let value : n ≡ digits_value 10 text = h.1 in
        let low_is : least ≤ digits_value 10 text = omega arith in
        let high_is : digits_value 10 text ≤ most = omega arith in
        rw (
          lt-ltb 0 (length text) h.0.1,
          h.0.0,
          le-leb least (digits_value 10 text) low_is,
          le-leb (digits_value 10 text) most high_is,
        ) (ap Some value)

    pub refused : {E : Type 0} (e : E) → ParsesUnsigned 64 10 text (Err e) → most < 2 ^ 64 → None ≡ decimal_in least most text
    refused e read fits = go _ refl
      where
        none : Digits text → 0 < length text → digits_value 10 text < 2 ^ 64 → ⊥
        none digits some below = parse_plain own 64 text (Err e) read plain (digits, some, below)

        go : (b : Bool) → b ≡ ((nat_lt 0 (length text) && all_ascii_digits text) &&
            (nat_le least (digits_value 10 text) && nat_le (digits_value 10 text) most))
            → None ≡ cond b (Some (digits_value 10 text)) None
        go true h =
            let outer = both _ _ (sym h) in
            let digits = both _ _ outer.0 in
            let range = both _ _ outer.1 in
            let high : digits_value 10 text ≤ most = leb-true _ _ range.1 in
            absurd (none digits.1 (ltb-true _ _ digits.0) (omega arith))
        go false h = refl

-- ---- the getters

-- what `get_str` gave, by the rows
pub as_given : {X : Type 0} (read : Text → X) (default : X) (f : Found) (name : Text) (o : Option (Bor Text)) →
    option_map (λ s. s.now) o ≡ first_value f name
    → option_map_or read (first_of name (rows_of f)) default ≡ option_map_or read (option_map (λ s. s.now) o) default
as_given read default f name o is = ap (λ t. option_map_or read t default) (sym (is ∙ first_value-rows f name))

-- the text that was given, by the rows
pub as_mapped : {X : Type 0} (read : Text → X) (f : Found) (name : Text) (o : Option (Bor Text)) →
    option_map (λ s. s.now) o ≡ first_value f name
    → option_map read (first_of name (rows_of f)) ≡ option_map read (option_map (λ s. s.now) o)
as_mapped read f name o is = ap (option_map read) (sym (is ∙ first_value-rows f name))

-- the text itself, if one was given
pub as_found : (f : Found) (name : Text) (o : Option (Bor Text)) → option_map (λ s. s.now) o ≡ first_value f name
    → first_of name (rows_of f) ≡ option_map (λ s. s.now) o
as_found f name o is = sym (is ∙ first_value-rows f name)
