-- Segments that are filed under their members.
use Rattle.std.proofs.Common.{◌≡◌, ℕ, ◌+◌, ◌<◌, Bool, true, false, cond, not, ◌&&◌, List, [], ◌∷◌, length}
use Rattle.std.proofs.Common.{get_or, take, filter, Option, Some, None, refl, ap, sym, ◌∙◌, subst}
use Rattle.std.specs.List.{list_all}
use Rattle.std.specs.Map.{lookup}
use Rattle.std.proofs.lemmas.Bool.{and_from, false≢true}
use Rattle.std.proofs.lemmas.List.{take_more}
use Rattle.std.proofs.lemmas.List.Folds.{list_all-append}
use Rattle.std.proofs.lemmas.Map.Entries.{lookup-filter-keys}
use Rattle.rc_model.specs.Model.{ServerId, Member, same_id, ServerList, has_crashed}
use Rattle.rc_model.proofs.Ids.{same_id-true, same_id-refl}
use Rattle.rc_headroll.specs.Watching.{has_number, is_among, is_under}

-- One more segment is filed under an id

module _ (old new : List (ServerId × List ℕ)) (id : ServerId) (numbers : List ℕ)
    (updates : (other : ServerId) → lookup (same_id other) new ≡ cond (same_id id other) (Some numbers) (lookup (same_id other) old)) where
  pub filed-there : (seg : ℕ) → has_number numbers seg ≡ true → is_among (lookup (same_id id) new) seg ≡ true
  filed-there seg there = ap (λ (found : Option (List ℕ)). is_among found seg)
      (updates id ∙ ap (λ (b : Bool). cond b (Some numbers) (lookup (same_id id) old)) (same_id-refl id)) ∙ there

  pub filed-still : ((seg : ℕ) → is_among (lookup (same_id id) old) seg ≡ true → has_number numbers seg ≡ true) →
      (one : ServerId) (seg : ℕ) → is_among (lookup (same_id one) old) seg ≡ true → is_among (lookup (same_id one) new) seg ≡ true
  filed-still more one seg filed =
      ap (λ (found : Option (List ℕ)). is_among found seg) (updates one) ∙ by (same_id id one) refl
    where
      by : (b : Bool) → same_id id one ≡ b → is_among (cond b (Some numbers) (lookup (same_id one) old)) seg ≡ true
      by true same =
          more seg (subst (λ (o : ServerId). is_among (lookup (same_id o) old) seg ≡ true) (sym (same_id-true same)) filed)
      by false other = filed

-- and under one more member
pub filed-next : (old new : List (ServerId × List ℕ)) (seg : ℕ) (members : List Member) (i : ℕ) (d : Member) → i < length members →
    ((id : ServerId) (o : ℕ) → is_under old id o ≡ true → is_under new id o ≡ true) →
    list_all (λ member. is_under old member.id seg) (take i members) ≡ true → is_under new (get_or members i d).id seg ≡ true →
    list_all (λ member. is_under new member.id seg) (take (i + 1) members) ≡ true
filed-next old new seg members i d inside more filed here =
    ap (list_all (λ member. is_under new member.id seg)) (take_more members i d inside)
    ∙ list_all-append (λ member. is_under new member.id seg) (take i members) (get_or members i d ∷ [])
    ∙ and_from (list_all (λ member. is_under new member.id seg) (take i members)) (is_under new (get_or members i d).id seg && true)
    (each (take i members) filed) (and_from (is_under new (get_or members i d).id seg) true here refl)
  where
    step : (a b a' b' : Bool) → (a ≡ true → a' ≡ true) → (b ≡ true → b' ≡ true) → (a && b) ≡ true → (a' && b') ≡ true
    step true b a' b' first others e = and_from a' b' (first refl) (others e)
    step false b a' b' first others e = absurd (false≢true e)

    each : (ms : List Member) → list_all (λ member. is_under old member.id seg) ms ≡ true →
        list_all (λ member. is_under new member.id seg) ms ≡ true
    each [] all = refl
    each (m ∷ ms) all =
        step (is_under old m.id seg) (list_all (λ member. is_under old member.id seg) ms) (is_under new m.id seg)
        (list_all (λ member. is_under new member.id seg) ms) (more m.id seg) (each ms) all

-- Ids that have crashed are on file no more

module _ (servers : ServerList) (old new : List (ServerId × List ℕ))
    (kept : new ≡ filter (λ entry. not (has_crashed servers entry.0)) old) (id : ServerId) (seg : ℕ) where
  same-answer : (k : ServerId) → same_id id k ≡ true → not (has_crashed servers k) ≡ not (has_crashed servers id)
  same-answer k same = ap (λ (o : ServerId). not (has_crashed servers o)) (sym (same_id-true same))

  found : lookup (same_id id) new ≡ cond (not (has_crashed servers id)) (lookup (same_id id) old) None
  found = ap (lookup (same_id id)) kept
      ∙ lookup-filter-keys (same_id id) (λ k. not (has_crashed servers k)) (not (has_crashed servers id)) same-answer old

  pub dropped-crashed : has_crashed servers id ≡ true → is_among (lookup (same_id id) new) seg ≡ false
  dropped-crashed crashed = ap (λ (o : Option (List ℕ)). is_among o seg)
      (found ∙ ap (λ (b : Bool). cond (not b) (lookup (same_id id) old) None) crashed)

  pub dropped-others : has_crashed servers id ≡ false → is_among (lookup (same_id id) old) seg ≡ true →
      is_among (lookup (same_id id) new) seg ≡ true
  dropped-others up filed = ap (λ (o : Option (List ℕ)). is_among o seg)
      (found ∙ ap (λ (b : Bool). cond (not b) (lookup (same_id id) old) None) up) ∙ filed

  -- each other one is, unless the segment was added
  pub still-filed : (awake : List ℕ) → (has_crashed servers id ≡ true → is_under old id seg ≡ true → has_number awake seg ≡ true) →
      is_under old id seg ≡ true → has_number awake seg ≡ false → is_under new id seg ≡ true
  still-filed awake woken filed asleep = by (has_crashed servers id) refl
    where
      by : (b : Bool) → has_crashed servers id ≡ b → is_under new id seg ≡ true
      by true crashed = absurd (false≢true (sym asleep ∙ woken crashed filed))
      by false up = dropped-others up filed
