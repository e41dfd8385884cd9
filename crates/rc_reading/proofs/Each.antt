-- What each of a list says in turn, an item at a time.
use Rattle.std.proofs.Common.{◌≡◌, ℕ, ◌+◌, List, [], ◌∷◌, ◌++◌, length, Option, Some, None, Result, Ok, Err, refl, ap}
use Rattle.std.proofs.Common.{◌∙◌, sym, arith, append_assoc, append-nil, length-append}
use Rattle.serde_json.specs.Data.{Data}
use Rattle.rc_reading.specs.All.{each, all_said, said_more, takes_placed}

module _ {A : Type 0} (said : Data → Option A) where
  -- these, and then the later ones
  abbrev before : List A → Result (List A) ℕ → Result (List A) ℕ
  before there (Ok later) = Ok (there ++ later)
  before there (Err place) = Err place

  wrong_stays : (place : ℕ) (ds : List Data) → each (takes_placed said) (Err place) ds ≡ Some (Err place)
  wrong_stays place [] = refl
  wrong_stays place (d ∷ ds) = wrong_stays place ds

  one_more : (there : List A) (one : A) (place : ℕ) (later : Result (List A) ℕ) →
      before (there ++ one ∷ []) later ≡ before there (said_more place (Some one) later)
  one_more there one place (Ok later) = ap Ok (simp append_assoc)
  one_more there one place (Err p) = refl

  next_place : (there : List A) (one : A) → 2 + length (there ++ one ∷ []) ≡ 2 + length there + 1
  next_place there one = omega (arith, length-append there (one ∷ []))

  by_one : (there : List A) (d : Data) (ds : List Data) (one : Option A) → said d ≡ one
      → ((all : List A) → each (takes_placed said) (Ok all) ds ≡ Some (before all (all_said said (2 + length all) ds)))
      → each (takes_placed said) (Ok there) (d ∷ ds) ≡ Some (before there (all_said said (2 + length there) (d ∷ ds)))
  by_one there d ds None is later = rw is (wrong_stays (2 + length there) ds)
  by_one there d ds (Some one) is later =
      rw is
      (later (there ++ one ∷ []) ∙ ap (λ place. Some (before (there ++ one ∷ []) (all_said said place ds))) (next_place there one)
      ∙ ap Some (one_more there one (2 + length there) (all_said said (2 + length there + 1) ds)))

  all_taken : (there : List A) (ds : List Data) →
      each (takes_placed said) (Ok there) ds ≡ Some (before there (all_said said (2 + length there) ds))
  all_taken there [] = ap (λ all. Some (Ok all)) (sym (append-nil there))
  all_taken there (d ∷ ds) = by_one there d ds (said d) refl (λ all. all_taken all ds)

  none_before : (all : Result (List A) ℕ) → before [] all ≡ all
  none_before (Ok all) = refl
  none_before (Err place) = refl

  pub each_placed : (ds : List Data) → each (takes_placed said) (Ok []) ds ≡ Some (all_said said 2 ds)
  each_placed ds = all_taken [] ds ∙ ap Some (none_before (all_said said 2 ds))
