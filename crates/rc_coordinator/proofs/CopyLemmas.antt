-- Entries of different ids, inserted in turn.
use Rattle.std.proofs.Common.{◌≡◌, false, List, [], ◌∷◌, ◌++◌, refl, sym, ap, subst, ◌∙◌}
use Rattle.std.specs.List.{IsDistinct, AllByRecursion}
use Rattle.std.specs.Map.{keys_of}
use Rattle.std.proofs.lemmas.Map.Keys.{IsDistinct-head, IsDistinct-tail}
use Rattle.indexmap.specs.IndexMap.{insert_entry}
use Rattle.rc_model.specs.Model.{ServerId, same_id}
use Rattle.rc_serverlist.proofs.IdLemmas.{same_id-sym}

-- the id is none of these
abbrev IsNew : ServerId → List ServerId → Type 0
IsNew id ids = AllByRecursion (λ other. same_id id other ≡ false) ids

insert_entry-new : {V : Type 0} (before : List (ServerId × V)) (e : ServerId × V) → IsNew e.0 (keys_of before) →
    insert_entry same_id before e.0 e.1 ≡ before ++ e ∷ []
insert_entry-new [] e new = refl
insert_entry-new (one ∷ before) e new = rw new.0 (ap (λ es. one ∷ es) (insert_entry-new before e new.1))

apart : {V : Type 0} (id : ServerId) (before after : List (ServerId × V)) (e : ServerId × V) →
    IsNew id (keys_of (before ++ e ∷ after)) → same_id id e.0 ≡ false
apart id [] after e new = new.0
apart id (one ∷ before) after e new = apart id before after e new.1

new_after : {V : Type 0} (before after : List (ServerId × V)) (e : ServerId × V) →
    IsDistinct same_id (keys_of (before ++ e ∷ after)) → IsNew e.0 (keys_of before)
new_after [] after e distinct = tt
new_after (one ∷ before) after e distinct = (
  same_id-sym e.0 one.0 ∙ apart one.0 before after e (IsDistinct-head same_id one.0 (keys_of (before ++ e ∷ after)) distinct),
  new_after before after e (IsDistinct-tail same_id one.0 (keys_of (before ++ e ∷ after)) distinct),
)

-- where the ids differ, an entry comes behind those before it
pub inserted_behind : {V : Type 0} (before : List (ServerId × V)) (e : ServerId × V) (after all : List (ServerId × V)) →
    before ++ e ∷ after ≡ all → IsDistinct same_id (keys_of all) → insert_entry same_id before e.0 e.1 ≡ before ++ e ∷ []
inserted_behind before e after all is distinct =
    insert_entry-new before e (new_after before after e (subst (λ es. IsDistinct same_id (keys_of es)) (sym is) distinct))
