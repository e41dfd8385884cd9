-- How far the rows of a plan reach, row by row.
use Rattle.std.proofs.Common.{◌≡◌, ℕ, Bool, true, false, cond, List, [], ◌∷◌, ◌++◌, length, subst, Option, Some, max}
use Rattle.std.proofs.Common.{unwrap_or, refl, ap, ◌∙◌, arith}
use Rattle.std.specs.Prelude.{nat_eq}
use Rattle.std.specs.Ordering.{nat_cmp}
use Rattle.std.specs.BTreeMap.{BTreeMap, get, keys, insert_entry, is_at}
use Rattle.std.specs.Map.{keys_of, lookup}
use Rattle.std.proofs.lemmas.Grind.{common_steps}
use Rattle.std.proofs.lemmas.Bool.Decides.{nat_tests}
use Rattle.std.proofs.lemmas.Bool.{eqb-true}
use Rattle.rc_model.specs.Model.{PlanRow, insert_once, reach}
use Rattle.rc_audit.specs.Recoveries.{HasReaches}

-- a map puts a new key where the list of the different numbers has it
pub keys_of-insert_entry : (k v : ℕ) (entries : List (ℕ × ℕ)) → keys_of (insert_entry nat_cmp entries k v) ≡ insert_once k (keys_of entries)
keys_of-insert_entry k v [] = refl
keys_of-insert_entry k v (e ∷ entries) =
    let later = keys_of-insert_entry k v entries in grind (arith, common_steps, nat_tests)

-- no row reaches anywhere
pub has_reaches_none : (reaches : BTreeMap ℕ ℕ) → reaches.entries ≡ [] → HasReaches reaches []
has_reaches_none reaches none = record {
  segments = ap (λ x. keys_of x) none;
  reach_of = λ s. ap (λ x. unwrap_or (lookup (is_at (nat_cmp s)) x) 0) none;
}

-- one more row
pub has_reaches_more : (old new : BTreeMap ℕ ℕ) (row : PlanRow) (rows : List PlanRow) → HasReaches old rows →
    keys new ≡ insert_once row.seg (keys old) →
    ((s : ℕ) → get nat_cmp new s ≡ cond (nat_eq row.seg s) (Some (max (unwrap_or (get nat_cmp old row.seg) 0) row.len))
    (get nat_cmp old s)) → HasReaches new (row ∷ rows)
has_reaches_more old new row rows before key raised = record {
  segments = key ∙ ap (λ x. insert_once row.seg x) before.segments;
  reach_of = λ s. ap (λ x. unwrap_or x 0) (raised s)
      ∙ more (nat_eq row.seg s) (get nat_cmp old row.seg) (get nat_cmp old s) (reach rows row.seg) (reach rows s)
      row.len (λ e. ap (λ x. reach rows x) (eqb-true row.seg s e)) (before.reach_of row.seg) (before.reach_of s);
}
  where
    more : (b : Bool) (here there : Option ℕ) (reach_here reach_there len : ℕ) → (b ≡ true → reach_here ≡ reach_there) →
        unwrap_or here 0 ≡ reach_here → unwrap_or there 0 ≡ reach_there →
        unwrap_or (cond b (Some (max (unwrap_or here 0) len)) there) 0 ≡ cond b (max len reach_there) reach_there
    more true here there reach_here reach_there len same at_here at_there = let is : reach_here ≡ reach_there = same refl in omega arith
    more false here there reach_here reach_there len same at_here at_there = at_there

-- and when no row is left, all were taken
pub has_reaches_all : (reaches : BTreeMap ℕ ℕ) (rest taken rows : List PlanRow) → length rest ≡ 0 →
    rest ++ taken ≡ rows → HasReaches reaches taken → HasReaches reaches rows
has_reaches_all reaches [] taken rows none all h = subst (λ x. HasReaches reaches x) all h
has_reaches_all reaches (row ∷ rest) taken rows none all h = absurd (omega arith)
