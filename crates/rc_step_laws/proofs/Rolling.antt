-- Dead segments, the digest that leaves them out, and a roll.
use Rattle.std.proofs.Common.{◌≡◌, ◌⊎◌, ℕ, ◌+◌, ◌<◌, ◌≤◌, Bool, true, false, cond, not, nat_eq, nat_lt, ◌&&◌, ◌||◌, List, [], ◌∷◌, ◌++◌}
use Rattle.std.proofs.Common.{filter, Some, refl, sym, ap, ◌∙◌, subst, inl, inr, arith}
use Rattle.std.proofs.lemmas.Bool.{and_parts, eqb-true, eq-eqb, ltb-true, or_left}
use Rattle.std.specs.List.{list_any}
use Rattle.rc_model.specs.Model.{ServerId, Entry, Phase, Opening, Closing, Writing, Message}
use Rattle.rc_model.specs.Model.{head_of, places_of, entries_of, is_writing, next_digest}
use Rattle.rc_model.specs.Model.{is_of, is_outdated, is_dead, Master, durable_entries, is_dead_segment, dead_segments}
use Rattle.rc_model.specs.Model.{In}
use Rattle.rc_model.proofs.Members.{In-get, In-left, In-right, In-append, In-filter, filter-In}
use Rattle.rc_step_laws.specs.All.{log_in, IsOutdated, IsDead, IsDigest}
use Rattle.rc_step_laws.proofs.Copies.{split}
use Rattle.rc_step_laws.proofs.Tests.{all-each, any-one, get-map, In-take}
use Rattle.rc_step_laws.proofs.LogMoves.{GoodLog}
use Rattle.rc_step_laws.proofs.Places.{IsOf, places_to-are, place-logged}
use Rattle.rc_step_laws.proofs.Openings.{NewDigest}
use Rattle.rc_model.proofs.Tests.{true_false}

-- Dead segments

of-parts : {term table key version : ℕ} (other : Entry) → (is_of term table key other && nat_lt version other.version) ≡ true
    → (other.term ≡ term) × (other.table ≡ table) × (other.key ≡ key) × (version < other.version)
of-parts {term} {table} {key} {version} other e = search (arith, and_parts, nat_lt, eqb-true, ltb-true)

outdated-is : {sent : List Message} {m : ServerId} (master : Master) {entry : Entry} → GoodLog sent m master.log →
    is_outdated (durable_entries master) entry ≡ true → IsOutdated sent m master.log entry
outdated-is master good e =
    let found = any-one (durable_entries master) e in
    let same = of-parts found.0 found.2 in
    let at = In-take master.log.durable (entries_of master.log) found.0 found.1 in
    let place = get-map (places_of master.log) at.0 at.2 in
    let is : IsOf master.log.segments master.log.head place.0 = places_to-are master.log.head at.0 place.1 in
    record {
      seg = place.0.seg;
      offset = place.0.offset;
      other = found.0;
      safe = good.counted at.0 place.0 at.1 place.1;
      holds = place-logged master.log is ∙ ap Some place.2;
      term = same.0;
      table = same.1;
      key = same.2;
      greater = same.3;
    }

pub dead-is : {sent : List Message} {m : ServerId} (master : Master) {s : ℕ} → GoodLog sent m master.log →
    is_dead_segment master s ≡ true → IsDead sent m master.log s
dead-is master {s} good e =
    let both = and_parts (master.log.segments s).shut (is_dead (durable_entries master) (log_in master.log s)) e in
    record {
      shut = both.0;
      outdated = λ o entry at. outdated-is master good
          (all-each (is_outdated (durable_entries master)) entry (log_in master.log s) both.1
          (In-get (log_in master.log s) o entry at));
    }

-- what is among the dead segments is dead
dead-among : {sent : List Message} {m : ServerId} (master : Master) {s : ℕ} → GoodLog sent m master.log →
    list_any (nat_eq s) (dead_segments master) ≡ true → IsDead sent m master.log s
dead-among {sent} {m} master {s} good e =
    let found = any-one (dead_segments master) e in
    let same : s ≡ found.0 = eqb-true s found.0 found.2 in
    subst (λ n. IsDead sent m master.log n) (sym same) (by master.free found.0 found.1)
  where
    by : (b : Bool) (t : ℕ) → In t (cond b (filter (is_dead_segment master) (head_of master.log).digest) []) → IsDead sent m master.log t
    by true t at = dead-is master good (In-filter (is_dead_segment master) t (head_of master.log).digest at).1
    by false t at = absurd at

-- The digest of the next head

pub next-digest : {sent : List Message} {m : ServerId} (master : Master) → GoodLog sent m master.log →
    0 < master.log.head → NewDigest sent m master.log (next_digest master.log (dead_segments master))
next-digest {sent} {m} master good above = record {
  own = In-right h old (h ∷ []) (inl refl);
  upto = λ t at. by_upto t (In-append t old (h ∷ []) at);
  lacks = λ t over less. by_lacks t (last_or t less) over;
}
  where
    h : ℕ
    h = master.log.head + 1

    test : ℕ → Bool
    test s = nat_eq s master.log.head || not (list_any (nat_eq s) (dead_segments master))

    old : List ℕ
    old = filter test (head_of master.log).digest

    is : IsDigest sent m master.log master.log.head (head_of master.log).digest
    is = good.digests master.log.head (record { above = above; below = omega arith })

    by_upto : (t : ℕ) → In t old ⊎ ((t ≡ h) ⊎ ⊥) → (0 < t) × (t ≤ h)
    by_upto t (inl there) = (let p = is.upto t (In-filter test t (head_of master.log).digest there).0 in (p.0, omega (arith, p.1)))
    by_upto t (inr (inl e)) = (omega arith, omega arith)
    by_upto t (inr (inr none)) = absurd none

    last_or : (t : ℕ) → t < h → (t ≡ master.log.head) ⊎ (t < master.log.head)
    last_or t less = search arith

    or_not : (a b : Bool) → b ≡ false → (a || not b) ≡ true
    or_not true b e = refl
    or_not false false e = refl
    or_not false true e = true_false e

    in_old : (t : ℕ) → In t (head_of master.log).digest → (In t old ⊎ IsDead sent m master.log t)
    in_old t at = split (list_any (nat_eq t) (dead_segments master)) (λ dead. inr (dead-among master good dead))
        (λ alive. inl (filter-In test t (head_of master.log).digest at
        (or_not (nat_eq t master.log.head) (list_any (nat_eq t) (dead_segments master)) alive)))

    further : (t : ℕ) → In t old ⊎ IsDead sent m master.log t → In t (old ++ h ∷ []) ⊎ IsDead sent m master.log t
    further t (inl there) = inl (In-left t old (h ∷ []) there)
    further t (inr dead) = inr dead

    by_digest : (t : ℕ) → In t (head_of master.log).digest ⊎ IsDead sent m master.log t → In t (old ++ h ∷ []) ⊎ IsDead sent m master.log t
    by_digest t (inl there) = further t (in_old t there)
    by_digest t (inr dead) = inr dead

    by_lacks : (t : ℕ) → (t ≡ master.log.head) ⊎ (t < master.log.head) → 0 < t → In t (old ++ h ∷ []) ⊎ IsDead sent m master.log t
    by_lacks t (inl same) over = inl (In-left t old (h ∷ [])
        (filter-In test t (head_of master.log).digest (subst (λ n. In n (head_of master.log).digest) (sym same) is.own)
        (or_left (nat_eq t master.log.head) (not (list_any (nat_eq t) (dead_segments master))) (eq-eqb t master.log.head same))))
    by_lacks t (inr less) over = by_digest t (is.lacks t over less)

-- What a roll comes to

-- the phase is Writing
pub writing-is : (phase : Phase) → is_writing phase ≡ true → phase ≡ Writing
writing-is Writing e = refl
writing-is Opening e = true_false (sym e)
writing-is Closing e = true_false (sym e)
