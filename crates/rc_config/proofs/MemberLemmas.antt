-- Loops over members, one after another.
use Rattle.std.proofs.Common.{◌≡◌, ◌⊎◌, ⊎_elim, ℕ, ◌+◌, ◌<◌, ◌≤◌, true, false, List, [], ◌∷◌, ◌++◌, length, take, drop}
use Rattle.std.proofs.Common.{get_or, set, map, min, None, refl, ap, sym, ◌∙◌, arith, append_assoc}
use Rattle.std.proofs.lemmas.List.{take_more, take_more_set, drop_more, drop-set-lt, drop_all, get_or_default, length-set}
use Rattle.std.proofs.lemmas.List.Edits.{map_over_more}
use Rattle.rc_model.specs.Model.{Member, ServerId, least_told, told_len, new_member, replaced}

-- an id, and a member, for reads past the end
abbrev pub no_id : ServerId
no_id = record { index = 0; generation = 0 }

abbrev pub no_member : Member
no_member = record { id = no_id; lost = false; told = None }

-- The least length told

-- one more member at the end
pub least_told-push : (first : Member) (members : List Member) (last : Member) →
    least_told (first ∷ (members ++ last ∷ [])) ≡ min (least_told (first ∷ members)) (told_len last.told)
least_told-push first [] last = refl
least_told-push first (member ∷ members) last =
    let rest : least_told (member ∷ (members ++ last ∷ [])) ≡ min (least_told (member ∷ members)) (told_len last.told) =
    least_told-push member members last in
    rw rest (omega arith)

-- one more member of a list
pub least_told-more : (first : Member) (members : List Member) (i : ℕ) (d : Member) → i < length members →
    least_told (first ∷ take (i + 1) members) ≡ min (least_told (first ∷ take i members)) (told_len (get_or members i d).told)
least_told-more first members i d h = rw (take_more members i d h) (least_told-push first (take i members) (get_or members i d))

-- A change of each member in its place

-- one more member is changed
pub map_over_step : (f : Member → Member) (xs ys : List Member) (i : ℕ) → i < length ys → i < length xs →
    ys ≡ map f (take i xs) ++ drop i xs →
    set ys i (f (get_or ys i no_member)) ≡ map f (take (i + 1) xs) ++ drop (i + 1) xs
map_over_step f xs ys i within h so_far =
    map_over_more f xs ys i (get_or ys i no_member) h so_far (get_or_default ys i no_member (get_or ys i no_member) within)

-- Lost members replaced, one after another

-- nobody is there to replace them
pub replaced-none : (members : List Member) → replaced members [] ≡ members
replaced-none [] = refl
replaced-none (member ∷ members) = refl

-- a lost member gives its place to the next id
pub replaced-lost : (member : Member) (members : List Member) (id : ServerId) (ids : List ServerId) → member.lost ≡ true →
    replaced (member ∷ members) (id ∷ ids) ≡ new_member id ∷ replaced members ids
replaced-lost member members id ids lost = rw lost refl

-- a member that isn't lost stays
pub replaced-staying : (member : Member) (members : List Member) (ids : List ServerId) → member.lost ≡ false →
    replaced (member ∷ members) ids ≡ member ∷ replaced members ids
replaced-staying member members [] stays = ap (λ others. member ∷ others) (sym (replaced-none members))
replaced-staying member members (id ∷ ids) stays = rw stays refl

-- a member stays too where no id is left
pub replaced-left : (member : Member) (members : List Member) (ids : List ServerId) → ids ≡ [] →
    replaced (member ∷ members) ids ≡ member ∷ replaced members ids
replaced-left member members ids none = rw none (ap (λ others. member ∷ others) (sym (replaced-none members)))

-- so far the members are replaced, the others are as they were
pub record ReplacesSoFar (xs ys : List Member) (ids : List ServerId) (i n : ℕ) : Type 0 where
  pub same_length : length ys ≡ length xs
  pub behind : drop i ys ≡ drop i xs
  pub result : replaced xs ids ≡ take i ys ++ replaced (drop i xs) (drop n ids)

same_tail : (xs ys : List Member) (i : ℕ) → i < length ys → i < length xs → drop i ys ≡ drop i xs → drop (i + 1) ys ≡ drop (i + 1) xs
same_tail xs ys i inside h same =
    let cut : (get_or ys i no_member ∷ drop (i + 1) ys) ≡ (get_or xs i no_member ∷ drop (i + 1) xs) =
    sym (drop_more ys i no_member inside) ∙ same ∙ drop_more xs i no_member h in
    cc

pub replaces_lost : (xs ys : List Member) (ids : List ServerId) (i n : ℕ) → i < length xs → n < length ids →
    ReplacesSoFar xs ys ids i n → (get_or ys i no_member).lost ≡ true →
    ReplacesSoFar xs (set ys i (new_member (get_or ids n no_id))) ids (i + 1) (n + 1)
replaces_lost xs ys ids i n h within so_far lost =
    let id : ServerId = get_or ids n no_id in
    let inside : i < length ys = omega (arith, so_far.same_length) in
    let was : Member = get_or ys i no_member in
    let rest : List Member = drop (i + 1) xs in
    let here : drop i xs ≡ was ∷ drop (i + 1) ys = sym so_far.behind ∙ drop_more ys i no_member inside in
    let tails : drop (i + 1) ys ≡ rest = same_tail xs ys i inside h so_far.behind in
    record {
      same_length = length-set ys i (new_member id) ∙ so_far.same_length;
      behind = drop-set-lt (i + 1) ys i (new_member id) (omega arith) ∙ tails;
      result =
          so_far.result
          ∙ ap (λ members. take i ys ++ replaced members (drop n ids)) (here ∙ ap (λ members. was ∷ members) tails)
          ∙ ap (λ others. take i ys ++ replaced (was ∷ rest) others) (drop_more ids n no_id within)
          ∙ ap (λ members. take i ys ++ members) (replaced-lost was rest id (drop (n + 1) ids) lost)
          ∙ sym (append_assoc (take i ys) (new_member id ∷ []) (replaced rest (drop (n + 1) ids)))
          ∙ ap (λ members. members ++ replaced rest (drop (n + 1) ids)) (sym (take_more_set ys i (new_member id) inside));
    }

pub replaces_no_more : (xs ys : List Member) (ids : List ServerId) (i n : ℕ) → i < length xs →
    ReplacesSoFar xs ys ids i n → ((get_or ys i no_member).lost ≡ false) ⊎ (length ids ≤ n) →
    ReplacesSoFar xs ys ids (i + 1) n
replaces_no_more xs ys ids i n h so_far stays =
    let inside : i < length ys = omega (arith, so_far.same_length) in
    let was : Member = get_or ys i no_member in
    let rest : List Member = drop (i + 1) xs in
    let here : drop i xs ≡ was ∷ drop (i + 1) ys = sym so_far.behind ∙ drop_more ys i no_member inside in
    let tails : drop (i + 1) ys ≡ rest = same_tail xs ys i inside h so_far.behind in
    let stays : replaced (was ∷ rest) (drop n ids) ≡ was ∷ replaced rest (drop n ids) =
    ⊎_elim {C = replaced (was ∷ rest) (drop n ids) ≡ was ∷ replaced rest (drop n ids)}
    (λ (here : was.lost ≡ false). replaced-staying was rest (drop n ids) here)
    (λ (none : length ids ≤ n). replaced-left was rest (drop n ids) (drop_all n ids none)) stays in
    record {
      same_length = so_far.same_length;
      behind = tails;
      result =
          so_far.result
          ∙ ap (λ members. take i ys ++ replaced members (drop n ids)) (here ∙ ap (λ members. was ∷ members) tails)
          ∙ ap (λ members. take i ys ++ members) stays
          ∙ sym (append_assoc (take i ys) (was ∷ []) (replaced rest (drop n ids)))
          ∙ ap (λ members. members ++ replaced rest (drop n ids)) (sym (take_more ys i no_member inside));
    }
