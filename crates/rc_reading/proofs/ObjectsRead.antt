-- What an object says by its members, and what is no object.
use Rattle.std.proofs.Common.{◌≡◌, ℕ, ◌-◌, ◌<◌, List, ◌∷◌, Some, None, option_map, ap, ◌∙◌}
use Rattle.json.specs.Token.{Token}
use Rattle.serde_json.specs.Data.{Data, object, no_members}
use Rattle.serde_json.specs.Find.{as_object}
use Rattle.rc_reading.specs.All.{data_at, told, says, members_at, if_object}
use Rattle.rc_reading.proofs.Turns.{told_of, says_some, opened_object}
use Rattle.rc_reading.proofs.Firsts.{object_refused}

-- an object whose members were read after its brace
module _ (depth : ℕ) (all ts : List Token) (opened : (all ≡ Token.begin_object ∷ ts) × (0 < depth)) where
  pub object_says : {T : Type 0} (of : Data → T) (r : List Token) (t : T) →
      told (λ ms. of (object ms)) (members_at no_members (depth - 1) ts) ≡ Some (t, r)
      → says (if_object of) depth all ≡ Some (Some t, r)
  object_says of r t e =
      let q = told_of (members_at no_members (depth - 1) ts) (λ ms. of (object ms)) t r e in
      rw opened.0 (ap (told (if_object of)) (opened_object depth ts opened.1 ∙ ap (told object) q.1) ∙
      ap (λ o. Some (Some o, r)) q.2)

  pub object_fails : members_at no_members (depth - 1) ts ≡ None → data_at depth all ≡ None
  object_fails none = rw opened.0 (object_refused depth ts opened.1 none)

pub no_object_says : {T : Type 0} (of : Data → T) (depth : ℕ) (ts r : List Token) →
    says as_object depth ts ≡ Some (None, r) → says (if_object of) depth ts ≡ Some (None, r)
no_object_says of depth ts r e =
    let q = says_some as_object depth ts r None e in
    ap (told (if_object of)) q.1 ∙ ap (λ o. Some (option_map (λ _. of q.0) o, r)) q.2
