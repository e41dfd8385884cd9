-- Lists and objects of JSON, an item or a member at a time: what is added to what there is.
use Rattle.std.specs.Prelude.{◌≡◌, ℕ, ◌+◌, nat_lt, if◌then◌else◌, List, [], ◌∷◌, ◌++◌, length, Option}
use Rattle.std.specs.Prelude.{Some, None, option_map, option_and_then, Result, Ok, Err}
use Rattle.serde_json.specs.Data.{Data, Members, object, put}
use Rattle.serde_json.specs.Find.{as_object}
use Rattle.rc_types.specs.declared.limits.TheConstants.{MAX_HOSTS}

-- nothing, once an item has said nothing
abbrev pub added : {A S : Type 0} → (S → A → S) → Option S → Option A → Option S
added add all one = option_and_then (λ s. option_map (add s) one) all

abbrev pub at_end : {A : Type 0} → List A → A → List A
at_end all one = all ++ one ∷ []

-- no more factors than hosts
abbrev pub factor_added : Option (List ℕ) → Option ℕ → Option (List ℕ)
factor_added all factor =
    option_and_then (λ factors. if nat_lt (length factors) MAX_HOSTS then option_map (λ f. factors ++ f ∷ []) factor
    else None) all

-- one more item, or the place of one that says nothing; the first item has place 2
abbrev pub placed : {A : Type 0} → Result (List A) ℕ → Option A → Result (List A) ℕ
placed (Err place) one = Err place
placed (Ok all) None = Err (2 + length all)
placed (Ok all) (Some one) = Ok (all ++ one ∷ [])

-- the same, of what a value says; it never ends in nothing
abbrev pub takes_placed : {A : Type 0} → (Data → Option A) → Result (List A) ℕ → Data → Option (Result (List A) ℕ)
takes_placed said all d = Some (placed all (said d))

-- what each value says, or the place of the first that says nothing; the first has this place
abbrev pub said_more : {A : Type 0} → ℕ → Option A → Result (List A) ℕ → Result (List A) ℕ
said_more place None rest = Err place
said_more place (Some one) (Ok all) = Ok (one ∷ all)
said_more place (Some one) (Err later) = Err later

abbrev pub all_said : {A : Type 0} → (Data → Option A) → ℕ → List Data → Result (List A) ℕ
all_said said place [] = Ok []
all_said said place (d ∷ ds) = said_more place (said d) (all_said said (place + 1) ds)

-- what all members of an object say; nothing, where the value is no object
abbrev pub if_object : {A : Type 0} → (Data → A) → Data → Option A
if_object of d = option_map (λ _. of d) (as_object d)

-- what all members say is what was noted of each in turn
abbrev pub IsNoted : {A : Type 0} → (Data → A) → (List ℕ → Data → A → A) → Type 0
IsNoted of noted =
    (k : List ℕ) (d : Data) (ms : Members) → of (object (put k d ms)) ≡ noted k d (of (object ms))
