-- Texts, as the value that they are.
use Rattle.std.proofs.Common.{◌≡◌, ℕ, List, [], ◌∷◌, Option, Some, None, option_and_then, refl, ap, ◌∙◌}
use Rattle.json.specs.Token.{Token}
use Rattle.json.specs.Lex.{tokens}
use Rattle.json.specs.Json as json
use Rattle.json.specs.Json.{if_last, value}
use Rattle.serde_json.specs.Data.{Data}
use Rattle.serde_json.specs.Read.{of_json, converted, read}
use Rattle.rc_reading.specs.All.{data_at, says}
use Rattle.rc_reading.proofs.Turns.{converted_some, refused, says_some}

abbrev whole : Option (json.Json × List Token) → Option Data
whole o = option_and_then of_json (option_and_then (λ p. if_last p.0 p.1) o)

whole_read : (text : List ℕ) (d : Data) → data_at 127 (tokens text) ≡ Some (d, []) → read text ≡ Some d
unfolding data_at
whole_read text d e = let j = converted_some of_json (value 127 (tokens text)) d [] e in ap whole j.1 ∙ j.2

whole_and_more : (text : List ℕ) (d : Data) (t : Token) (r : List Token) → data_at 127 (tokens text) ≡ Some (d, t ∷ r) → read text ≡ None
unfolding data_at
whole_and_more text d t r e = ap whole (converted_some of_json (value 127 (tokens text)) d (t ∷ r) e).1

whole_none : (o : Option (json.Json × List Token)) → converted of_json o ≡ None → whole o ≡ None
whole_none None e = refl
whole_none (Some (j, [])) e = refused [] (of_json j) e
whole_none (Some (j, t ∷ r)) e = refl

-- a text whose tokens were read
module _ (text : List ℕ) (ts : List Token) (is : ts ≡ tokens text) where
  -- a value and nothing after it
  pub text_says : {A : Type 0} (of : Data → A) (said : A) (r : List Token) → says of 127 ts ≡ Some (said, r) → r ≡ [] →
      (d : Data) × (read text ≡ Some d) × (of d ≡ said)
  text_says of said r e over =
      let d = says_some of 127 ts r said e in
      (d.0, whole_read text d.0 (rw (← is, ← over) d.1), d.2)

  -- something after a value
  pub text_and_more : {A : Type 0} (of : Data → A) (said : A) (r : List Token) (t : Token) (more : List Token) →
      says of 127 ts ≡ Some (said, r) → r ≡ t ∷ more → read text ≡ None
  text_and_more of said r t more e some =
      let d = says_some of 127 ts r said e in
      whole_and_more text d.0 t more (rw (← is, ← some) d.1)

  -- no value
  pub text_refused : data_at 127 ts ≡ None → read text ≡ None
  unfolding data_at
  text_refused e = whole_none (value 127 (tokens text)) (rw (← is) e)
