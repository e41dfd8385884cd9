-- The greatest versions under earlier terms.
use Rattle.std.proofs.Common.{◌≡◌, ◌⊎◌, ℕ, ◌+◌, ◌<◌, Bool, true, false, cond, max, List, [], ◌∷◌, ◌++◌, Option, Some, None, unwrap_or}
use Rattle.std.proofs.Common.{length, take, get_or, refl, sym, ap, ◌∙◌, subst, inl, inr, append_assoc, arith}
use Rattle.std.specs.Ordering.{nat_cmp}
use Rattle.std.specs.List.{list_any}
use Rattle.std.specs.BTreeMap.{BTreeMap, get, is_at}
use Rattle.std.specs.BTreeSet.{BTreeSet, contains}
use Rattle.std.proofs.lemmas.Bool.{or_cases, le-leb, eq-eqb, and_from}
use Rattle.std.proofs.lemmas.Bool.Decides.{nat_tests}
use Rattle.std.proofs.lemmas.List.{append-nil}
use Rattle.rc_model.specs.Model.{Message, Ack, ack_in, all_acknowledged, In}
use Rattle.rc_model.proofs.Members.{In-append}
use Rattle.rc_audit.specs.declared.highs.TermKey.{TermKey}
use Rattle.rc_audit.specs.Highs.{key_order, same_key, ack_key, high_at, is_level, NotesVersion}
use Rattle.rc_audit.specs.Bars.{NotesAcks, HasLevels, IsBar, AreBars}
use Rattle.rc_audit.specs.Earlier.{AreEarlier}
use Rattle.rc_audit.proofs.PlaceLemmas.{taken_more}
use Rattle.rc_audit.proofs.SupersededLemmas.{same_key-true}

-- the greatest of what was there and one more is level with what either is
level_more : (found : Option ℕ) (version v : ℕ) → is_level found v ≡ true → is_level (Some (max (unwrap_or found 0) version)) v ≡ true
level_more None version v e = cc
level_more (Some high) version v e = grind (arith, nat_tests)

level_new : (found : Option ℕ) (version : ℕ) → is_level (Some (max (unwrap_or found 0) version)) version ≡ true
level_new found version = le-leb version (max (unwrap_or found 0) version) (omega arith)

-- a version is noted: what was level stays so, and so is the version
module _ (old new : BTreeMap TermKey ℕ) (key : TermKey) (version : ℕ) (p : NotesVersion old new key version) where
  pub version_kept : (q : TermKey) (v : ℕ) → is_level (high_at old q) v ≡ true → is_level (high_at new q) v ≡ true
  version_kept q v e = ap (λ x. is_level x v) (p.each q) ∙ by (same_key key q) refl
    where
      by : (b : Bool) → same_key key q ≡ b →
          is_level (cond b (Some (max (unwrap_or (high_at old key) 0) version)) (high_at old q)) v ≡ true
      by true same = level_more (high_at old key) version v
          (ap (λ k. is_level (high_at old k) v) (same_key-true key q same) ∙ e)
      by false same = e

  same_itself : same_key key key ≡ true
  same_itself = and_from _ _ (eq-eqb key.term key.term refl)
      (and_from _ _ (eq-eqb key.table key.table refl) (eq-eqb key.key key.key refl))

  pub version_noted : is_level (high_at new key) version ≡ true
  version_noted = ap (λ x. is_level x version) (p.each key)
      ∙ ap (λ b. is_level (cond b (Some (max (unwrap_or (high_at old key) 0) version)) (high_at old key)) version) same_itself
      ∙ level_new (high_at old key) version

-- one more acknowledged write
pub ack_noted : (old new : BTreeMap TermKey ℕ) (ack : Ack) (acks : List Ack) → ack ∷ [] ≡ acks →
    NotesVersion old new (ack_key ack) ack.version → NotesAcks old new acks
ack_noted old new ack acks is p = record {
  kept = version_kept old new (ack_key ack) ack.version p;
  noted = λ other at. noted other (subst (In other) (sym is) at);
}
  where
    noted : (other : Ack) → In other (ack ∷ []) → is_level (high_at new (ack_key other)) other.version ≡ true
    noted other (inl same) = ap (λ (a : Ack). is_level (high_at new (ack_key a)) a.version) same
        ∙ version_noted old new (ack_key ack) ack.version p
    noted other (inr none) = absurd none

all_acknowledged-push : (sent : List Message) (message : Message) →
    all_acknowledged (sent ++ message ∷ []) ≡ all_acknowledged sent ++ ack_in message.body
all_acknowledged-push [] message = append-nil (ack_in message.body)
all_acknowledged-push (first ∷ sent) message =
    ap (λ xs. ack_in first.body ++ xs) (all_acknowledged-push sent message) ∙
    sym (append_assoc (ack_in first.body) (all_acknowledged sent) (ack_in message.body))

-- the table with one more message
pub levels_more : (old new : BTreeMap TermKey ℕ) (sent : List Message) (i : ℕ) (message : Message) → i < length sent →
    message ≡ get_or sent i message →
    HasLevels old (take i sent) → NotesAcks old new (ack_in message.body) → HasLevels new (take (i + 1) sent)
levels_more old new sent i message within is before now = record {
  each = λ ack at. by ack (In-append ack (all_acknowledged (take i sent)) (ack_in message.body)
      (subst (In ack) (ap all_acknowledged (taken_more sent i message within is) ∙ all_acknowledged-push (take i sent) message) at));
}
  where
    by : (ack : Ack) → In ack (all_acknowledged (take i sent)) ⊎ In ack (ack_in message.body) →
        is_level (high_at new (ack_key ack)) ack.version ≡ true
    by ack (inl was) = now.kept (ack_key ack) ack.version (before.each ack was)
    by ack (inr here) = now.noted ack here

-- The greatest over some terms

-- what is level with the highest of all terms is so with that of the terms so far, or of one to come
pub record HighestSoFar (highs : BTreeMap TermKey ℕ) (table key : ℕ) (before : BTreeSet ℕ) (rest : List ℕ)
    (highest : Option ℕ) : Type 0 where
  pub each : (term v : ℕ) → contains nat_cmp before term ≡ true →
      is_level (high_at highs (record { term = term; table = table; key = key })) v ≡ true →
      In term rest ⊎ (is_level highest v ≡ true)

is_at-same : (a b : ℕ) → is_at (nat_cmp a) b ≡ true → a ≡ b
is_at-same a b h = grind (arith, nat_tests)

In-any : (term : ℕ) (terms : List ℕ) → list_any (is_at (nat_cmp term)) terms ≡ true → In term terms
In-any term [] e = cc
In-any term (first ∷ terms) e = by (In-any term terms) (or_cases (is_at (nat_cmp term) first) (list_any (is_at (nat_cmp term)) terms) e)
  where
    by : (list_any (is_at (nat_cmp term)) terms ≡ true → In term terms) → (is_at (nat_cmp term) first ≡ true) ⊎
        (list_any (is_at (nat_cmp term)) terms ≡ true) → (term ≡ first) ⊎ In term terms
    by later (inl here) = inl (is_at-same term first here)
    by later (inr there) = inr (later there)

pub highest_begins : (highs : BTreeMap TermKey ℕ) (table key : ℕ) (before : BTreeSet ℕ) (rest : List ℕ) →
    rest ≡ before.keys → HighestSoFar highs table key before rest None
highest_begins highs table key before rest all =
    record { each = λ term v has level. inl (subst (In term) (sym all) (In-any term before.keys has)) }

-- a bar, from the terms before
pub bar_found : (highs : BTreeMap TermKey ℕ) (before : BTreeSet ℕ) (sent : List Message) (key : TermKey)
    (bar : Option ℕ) → HasLevels highs sent → AreEarlier before sent key.table key.key key.term →
    ((term v : ℕ) → contains nat_cmp before term ≡ true →
    is_level (high_at highs (record { term = term; table = key.table; key = key.key })) v ≡ true →
    is_level bar v ≡ true) →
    IsBar bar sent key
bar_found highs before sent key bar levels are highest = record {
  each = λ ack at table k earlier. highest ack.term ack.version (are.each ack.term ∙ earlier)
      (ap (λ x. is_level (high_at highs (record { term = ack.term; table = x; key = key.key })) ack.version) (sym table)
      ∙ ap (λ x. is_level (high_at highs (record { term = ack.term; table = ack.table; key = x })) ack.version)
      (sym k) ∙ levels.each ack at);
}

-- one more bar
pub bars_more : (old new : BTreeMap TermKey (Option ℕ)) (sent : List Message) (key : TermKey) (bar : Option ℕ) →
    IsBar bar sent key → AreBars old sent →
    ((q : TermKey) → get key_order new q ≡ cond (is_at (key_order key) q) (Some bar) (get key_order old q)) → AreBars new sent
bars_more old new sent key bar is before updates =
    record { each = λ q b found. by q b (is_at (key_order key) q) refl (sym (updates q) ∙ found) }
  where
    same_term : (q : TermKey) → is_at (key_order key) q ≡ true → key ≡ q
    same_term q e =
        let term : key.term ≡ q.term = grind (arith, nat_tests) in
        let table : key.table ≡ q.table = grind (arith, nat_tests) in
        let k : key.key ≡ q.key = grind (arith, nat_tests) in
        let whole : ◌≡◌ {A = TermKey} (record { term = key.term; table = key.table; key = key.key })
        (record { term = q.term; table = q.table; key = q.key }) = cc in whole

    some_same : (x y : Option ℕ) → ◌≡◌ {A = Option (Option ℕ)} (Some x) (Some y) → x ≡ y
    some_same x y e = cc

    by : (q : TermKey) (b : Option ℕ) (at : Bool) → is_at (key_order key) q ≡ at →
        ◌≡◌ {A = Option (Option ℕ)} (cond at (Some bar) (get key_order old q)) (Some b) → IsBar b sent q
    by q b true e found = subst (λ x. IsBar x sent q) (some_same bar b found) (subst (λ k. IsBar bar sent k) (same_term q e) is)
    by q b false e found = before.each q b found
