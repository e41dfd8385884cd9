-- Copies of the hosts of a world, whose servers have stopped.
use Rattle.std.proofs.Common.{◌≡◌, ℕ, Bool, true, false, nat_eq, cond, List, [], ◌∷◌, ◌++◌, map, Option, Some, None, option_map}
use Rattle.std.proofs.Common.{refl, sym, ap, subst, ◌∙◌, arith, true≢false, append-nil}
use Rattle.std.proofs.Math.Path.{fun_ext}
use Rattle.std.proofs.lemmas.Bool.Decides.{nat_tests}
use Rattle.std.proofs.lemmas.Map.Keys.{IsDistinct-head, IsDistinct-tail}
use Rattle.std.specs.List.{IsDistinct, AllByRecursion}
use Rattle.std.specs.Map.{keys_of, lookup}
use Rattle.indexmap.specs.IndexMap.{insert_entry}
use Rattle.rc_model.specs.Model.{Setup}
use Rattle.rc_world.specs.HostView.{HostData, host_of}
use Rattle.rc_history.specs.Remade.{stopped}
use Rattle.rc_world.specs.Stops.{all_stopped, halted, halted_entry, IsBelow}
use Rattle.rc_world.specs.WorldView.{Hosts, host_at, hosts_of}

abbrev pub Entries : Type 0
Entries = List (ℕ × HostData)

-- Insertion behind entries of other indices

abbrev IsNew : ℕ → List ℕ → Type 0
IsNew index indices = AllByRecursion (λ other. nat_eq index other ≡ false) indices

turned : (n m : ℕ) → nat_eq n m ≡ false → nat_eq m n ≡ false
turned n m other = grind (arith, nat_tests)

behind : (before : Entries) (index : ℕ) (host : HostData) → IsNew index (keys_of before) →
    insert_entry nat_eq (map halted_entry before) index host ≡ map halted_entry before ++ (index, host) ∷ []
behind [] index host new = refl
behind (one ∷ before) index host new = rw new.0 (ap (λ es. halted_entry one ∷ es) (behind before index host new.1))

apart : (index : ℕ) (before after : Entries) (e : ℕ × HostData) → IsNew index (keys_of (before ++ e ∷ after)) → nat_eq index e.0 ≡ false
apart index [] after e new = new.0
apart index (one ∷ before) after e new = apart index before after e new.1

new_after : (before after : Entries) (e : ℕ × HostData) → IsDistinct nat_eq (keys_of (before ++ e ∷ after)) → IsNew e.0 (keys_of before)
new_after [] after e distinct = tt
new_after (one ∷ before) after e distinct = (
  turned one.0 e.0 (apart one.0 before after e (IsDistinct-head nat_eq one.0 (keys_of (before ++ e ∷ after)) distinct)),
  new_after before after e (IsDistinct-tail nat_eq one.0 (keys_of (before ++ e ∷ after)) distinct),
)

pub copied_behind : (before : Entries) (e : ℕ × HostData) (after all : Entries) → before ++ e ∷ after ≡ all →
    IsDistinct nat_eq (keys_of all) →
    insert_entry nat_eq (map halted_entry before) e.0 (halted e.1) ≡ map halted_entry before ++ halted_entry e ∷ []
copied_behind before e after all is distinct =
    behind before e.0 (halted e.1)
    (new_after before after e (subst (λ es. IsDistinct nat_eq (keys_of es)) (sym is) distinct))

-- Hosts by their index

lookup_halted : (index : ℕ) (es : Entries) → lookup (nat_eq index) (map halted_entry es) ≡ option_map halted (lookup (nat_eq index) es)
lookup_halted index [] = refl
lookup_halted index (e ∷ es) = by (nat_eq index e.0) (lookup_halted index es)
  where
    by : (b : Bool) → lookup (nat_eq index) (map halted_entry es) ≡ option_map halted (lookup (nat_eq index) es) →
        cond b (Some (halted e.1)) (lookup (nat_eq index) (map halted_entry es))
        ≡ option_map halted (cond b (Some e.1) (lookup (nat_eq index) es))
    by true rest = refl
    by false rest = rest

halted_at : (setup : Setup) (index : ℕ) (found : Option HostData) →
    host_at setup index (option_map halted found) ≡ stopped (host_at setup index found)
halted_at setup index None = refl
halted_at setup index (Some host) = refl

pub hosts-halted : (setup old : Setup) (copies hosts : Hosts) → setup ≡ old → copies.entries ≡ map halted_entry hosts.entries →
    hosts_of setup copies ≡ all_stopped (hosts_of old hosts)
hosts-halted setup old copies hosts same are = fun_ext (λ index.
    ap (λ entries. host_at setup index (lookup (nat_eq index) entries)) are
    ∙ ap (λ found. host_at setup index found) (lookup_halted index hosts.entries)
    ∙ halted_at setup index (lookup (nat_eq index) hosts.entries)
    ∙ ap (λ s. stopped (host_at s index (lookup (nat_eq index) hosts.entries))) same)

-- Hosts below another

abbrev pub AreBelow : ℕ → Entries → Type 0
AreBelow n [] = Unit {0}
AreBelow n (e ∷ es) = IsBelow n e.0 (host_of e.1) × AreBelow n es

pub below-push : (n : ℕ) (es : Entries) (e : ℕ × HostData) → AreBelow n es → IsBelow n e.0 (host_of e.1) → AreBelow n (es ++ e ∷ [])
below-push n [] e are is = (is, tt)
below-push n (one ∷ es) e are is = (are.0, below-push n es e are.1 is)

-- the whole list was gone over
pub all-done : {X : Type 0} (done rest all : List X) → done ++ rest ≡ all → rest ≡ [] → done ≡ all
all-done done rest all is none = sym (append-nil done) ∙ ap (λ xs. done ++ xs) (sym none) ∙ is

pub below-at : (setup : Setup) (n : ℕ) (es : Entries) → AreBelow n es → (index : ℕ) →
    IsBelow n index (host_at setup index (lookup (nat_eq index) es))
below-at setup n [] are index = λ runs. absurd (true≢false (sym runs))
below-at setup n (e ∷ es) are index = by (nat_eq index e.0) refl (below-at setup n es are.1 index)
  where
    by : (b : Bool) → nat_eq index e.0 ≡ b → IsBelow n index (host_at setup index (lookup (nat_eq index) es)) →
        IsBelow n index (host_at setup index (cond b (Some e.1) (lookup (nat_eq index) es)))
    by false other rest = rest
    by true same rest =
        let here : e.0 ≡ index = grind (arith, nat_tests, same) in
        subst (λ k. IsBelow n k (host_of e.1)) here are.0
