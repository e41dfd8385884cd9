-- Terms in an order: what comes before a term stands before it.
use Rattle.std.proofs.Common.{◌≡◌, ◌⊎◌, ℕ, Bool, true, false, cond, ◌&&◌, List, [], ◌∷◌}
use Rattle.std.proofs.Common.{Option, Some, None, refl, sym, ap, ◌∙◌, inl, inr, subst, arith}
use Rattle.std.specs.Ordering.{nat_cmp}
use Rattle.std.specs.BTreeMap.{BTreeMap, get, is_at}
use Rattle.std.specs.List.{list_all}
use Rattle.std.specs.Map.{lookup}
use Rattle.std.proofs.lemmas.Bool.Decides.{nat_tests}
use Rattle.rc_model.specs.Model.{Message, IsBefore, previous, onward, grants_of, In}
use Rattle.rc_model.proofs.Befores.{is_before-finds}
use Rattle.rc_audit.specs.declared.grants.Grant.{Grant}
use Rattle.rc_audit.specs.declared.grants.TermGrants.{TermGrants}
use Rattle.rc_audit.specs.declared.highs.TermKey.{TermKey}
use Rattle.rc_audit.specs.declared.orders.Span.{Span}
use Rattle.rc_audit.specs.Grants.{grant_of, grants_in, AreGrants}
use Rattle.rc_audit.specs.Orders.{stands_after, is_after, Keeps, AreOver}
use Rattle.rc_audit.specs.Highs.{ack_key}
use Rattle.rc_audit.specs.Bars.{HasLevels, AreBars}
use Rattle.rc_audit.proofs.GrantLemmas.{granted_at}

stands_on : (a b c : Option Span) → stands_after a b ≡ true → stands_after b c ≡ true → stands_after a c ≡ true
stands_on None b c ab bc = cc
stands_on (Some a) None c ab bc = cc
stands_on (Some a) (Some b) None ab bc = cc
stands_on (Some a) (Some b) (Some c) ab bc = grind (arith, nat_tests)

-- what comes before a term stands before it
stands_before : (order : BTreeMap ℕ Span) (grants : BTreeMap ℕ TermGrants) (sent : List Message) (table key : ℕ) →
    Keeps order grants → AreGrants grants sent →
    (earlier later : ℕ) → IsBefore (grants_of sent table key) earlier later → is_after order earlier later ≡ true
stands_before order grants sent table key keeps are earlier later (previous k grant at) =
    keeps.each grant.term (grant_of grant) (granted_at grants sent are table key k grant at).0
stands_before order grants sent table key keeps are earlier later (onward _ k grant at rest) =
    stands_on (get nat_cmp order earlier) (get nat_cmp order grant.previous) (get nat_cmp order grant.term)
    (stands_before order grants sent table key keeps are earlier grant.previous rest)
    (keeps.each grant.term (grant_of grant) (granted_at grants sent are table key k grant at).0)

-- what is over all that stands before is a bar
pub bars_from_over : (order : BTreeMap ℕ Span) (grants : BTreeMap ℕ TermGrants) (highs : BTreeMap TermKey ℕ)
    (bars : BTreeMap TermKey (Option ℕ)) (sent : List Message) →
    Keeps order grants → AreGrants grants sent → HasLevels highs sent → AreOver order highs bars → AreBars bars sent
bars_from_over order grants highs bars sent keeps are levels over = record {
  each = λ key bar found. record {
    each = λ ack at table k earlier. (over.each key bar found).each (ack_key ack) ack.version table k
        (stands_before order grants sent key.table key.key keeps are ack.term key.term
        (is_before-finds (grants_of sent key.table key.key) earlier)) (levels.each ack at);
  };
}

-- The check of an order

in_all : (p : Grant → Bool) (grant : Grant) (grants : List Grant) → list_all p grants ≡ true → In grant grants → p grant ≡ true
in_all p grant [] all at = absurd at
in_all p grant (x ∷ xs) all (inl same) = by (p x) (list_all p xs) refl all
  where
    by : (b c : Bool) → p x ≡ b → (b && c) ≡ true → p grant ≡ true
    by true c is all = ap p same ∙ is
    by false c is all = cc
in_all p grant (x ∷ xs) all (inr rest) = by (p x) (list_all p xs) all (λ e. in_all p grant xs e rest)
  where
    by : (b c : Bool) → (b && c) ≡ true → (c ≡ true → p grant ≡ true) → p grant ≡ true
    by true c all later = later all
    by false c all later = cc

-- the terms of these entries stand after the previous ones of their grants
pub record KeepsAmong (order : BTreeMap ℕ Span) (entries rest : List (ℕ × TermGrants)) : Type 0 where
  pub each : (term : ℕ) (grant : Grant) → In grant (grants_in (lookup (is_at (nat_cmp term)) entries)) →
      In grant (grants_in (lookup (is_at (nat_cmp term)) rest)) ⊎ (is_after order grant.previous term ≡ true)

pub keeps_begins : (order : BTreeMap ℕ Span) (entries rest : List (ℕ × TermGrants)) → rest ≡ entries → KeepsAmong order entries rest
keeps_begins order entries rest all =
    record {
      each = λ term grant at. inl (subst
          (λ (xs : List (ℕ × TermGrants)). In grant (grants_in (lookup (is_at (nat_cmp term)) xs))) (sym all) at);
    }

is_at-same : (a b : ℕ) → is_at (nat_cmp a) b ≡ true → a ≡ b
is_at-same a b h = grind (arith, nat_tests)

pub keeps_more : (order : BTreeMap ℕ Span) (entries was rest : List (ℕ × TermGrants)) (term : ℕ) (of_term : TermGrants)
    (grants : List Grant) → was ≡ (term, of_term) ∷ rest → KeepsAmong order entries was → grants ≡ of_term.grants.items →
    list_all (λ (grant : Grant). is_after order grant.previous term) grants ≡ true → KeepsAmong order entries rest
keeps_more order entries was rest term of_term grants split before same all = record {
  each = λ t grant at. by t grant (before.each t grant at);
}
  where
    first : (t : ℕ) (grant : Grant) (here : Bool) → is_at (nat_cmp t) term ≡ here
        → In grant (grants_in (cond here (Some of_term) (lookup (is_at (nat_cmp t)) rest)))
        → In grant (grants_in (lookup (is_at (nat_cmp t)) rest)) ⊎ (is_after order grant.previous t ≡ true)
    first t grant true is at = inr (subst (λ (x : ℕ). is_after order grant.previous x ≡ true) (sym (is_at-same t term is))
        (in_all (λ (g : Grant). is_after order g.previous term) grant grants all (subst (λ (xs : List Grant). In grant xs) (sym same) at)))
    first t grant false is at = inl at

    by : (t : ℕ) (grant : Grant) → In grant (grants_in (lookup (is_at (nat_cmp t)) was)) ⊎ (is_after order grant.previous t ≡ true)
        → In grant (grants_in (lookup (is_at (nat_cmp t)) rest)) ⊎ (is_after order grant.previous t ≡ true)
    by t grant (inl at) = first t grant (is_at (nat_cmp t) term) refl
        (subst (λ (xs : List (ℕ × TermGrants)). In grant (grants_in (lookup (is_at (nat_cmp t)) xs))) split at)
    by t grant (inr done) = inr done

pub keeps_ends : (order : BTreeMap ℕ Span) (grants : BTreeMap ℕ TermGrants) (rest : List (ℕ × TermGrants)) → rest ≡ [] →
    KeepsAmong order grants.entries rest → Keeps order grants
keeps_ends order grants rest none among = record { each = λ term grant at. by term grant (among.each term grant at) }
  where
    by : (term : ℕ) (grant : Grant) →
        In grant (grants_in (lookup (is_at (nat_cmp term)) rest)) ⊎ (is_after order grant.previous term ≡ true) →
        is_after order grant.previous term ≡ true
    by term grant (inl at) = absurd (subst
        (λ (xs : List (ℕ × TermGrants)). In grant (grants_in (lookup (is_at (nat_cmp term)) xs))) none at)
    by term grant (inr done) = done
