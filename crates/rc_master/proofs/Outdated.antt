-- Dead segments, entry by entry.
use Rattle.std.proofs.Common.{◌≡◌, ℕ, zero, suc, ◌≤◌, Bool, true, false, cond, ◌&&◌, ◌||◌, List, [], ◌∷◌, length, map, Some, None}
use Rattle.std.proofs.Common.{refl, sym, ap, ◌∙◌, subst, arith, nat_eq, nat_lt, not, take}
use Rattle.std.specs.List.{list_any}
use Rattle.std.proofs.lemmas.List.{get_or_past}
use Rattle.std.proofs.lemmas.Bool.{and_parts, eqb-true}
use Rattle.std.proofs.lemmas.Bool.Decides.{nat_tests}
use Rattle.rc_model.specs.Model.{Entry, Segment, no_segment, has_segment, is_of, is_outdated, is_dead, Master}
use Rattle.rc_model.specs.Model.{durable_entries, is_dead_segment}
use Rattle.rc_config.specs.Lists.{segment_at}
use Rattle.rc_ownership.specs.Groups.{group_of, IsQuiet}
use Rattle.rc_ownership.specs.Slots.{slot_of}
use Rattle.rc_headroll.specs.Alive.{has_alive, IsFound}
use Rattle.rc_headroll.specs.declared.alive.AliveEntry.{AliveEntry}
use Rattle.rc_headroll.specs.LogData.{LogData, log_of}

abbrev pub bare : List (Entry × Bool) → List Entry
bare entries = map (λ one. one.0) entries

-- a segment that the log doesn't have isn't shut
pub unknown-open : (kept : LogData) (seg : ℕ) → has_segment (log_of kept) seg ≡ false → (segment_at kept.segments seg).shut ≡ false
unfolding segment_at
unknown-open kept zero e = refl
unknown-open kept (suc place) e =
    let past : length kept.segments ≤ place = grind (arith, nat_tests) in
    ap (λ (s : Segment). s.shut) (get_or_past kept.segments place (no_segment (suc place)) past)

-- what isn't shut is not dead
pub open-alive : (master : Master) (seg : ℕ) → (master.log.segments seg).shut ≡ false → false ≡ is_dead_segment master seg
open-alive master seg e =
    ap (λ b. b && is_dead (durable_entries master) (map (λ one. one.0) (master.log.segments seg).entries)) (sym e)

pub none-unknown : {X : Type 0} (b : Bool) (x : X) → None ≡ cond b (Some x) None → b ≡ false
none-unknown true x e = cc
none-unknown false x e = refl

and-false : (a : Bool) → (a && false) ≡ false
and-false true = refl
and-false false = refl

-- what passes no test among the first so many passes none among fewer
none-of-fewer : (p : Entry → Bool) (n d : ℕ) (xs : List Entry) → list_any p (take n xs) ≡ false →
    list_any p (take n (take d xs)) ≡ false
none-of-fewer p zero d xs none = refl
none-of-fewer p (suc n) zero xs none = refl
none-of-fewer p (suc n) (suc d) [] none = refl
none-of-fewer p (suc n) (suc d) (x ∷ xs) none = by (p x) refl none (none-of-fewer p n d xs)
  where
    by : (first : Bool) → p x ≡ first → (first || list_any p (take n xs)) ≡ false →
        (list_any p (take n xs) ≡ false → list_any p (take n (take d xs)) ≡ false) →
        (p x || list_any p (take n (take d xs))) ≡ false
    by false e is rest = ap (λ b. b || list_any p (take n (take d xs))) e ∙ rest is
    by true e is rest = cc

-- an entry of a group that is quiet, which wasn't outdated, isn't
one-alive : (all durable : List Entry) (d : ℕ) (found : AliveEntry) (one : Entry) → durable ≡ take d all →
    IsQuiet durable found.group found.durable →
    (nat_eq (group_of (slot_of one)) found.group && not (is_outdated (take found.durable all) one)) ≡ true →
    is_outdated durable one ≡ false
one-alive all durable d found one is quiet e =
    let parts = and_parts (nat_eq (group_of (slot_of one)) found.group) (not (is_outdated (take found.durable all) one)) e in
    quiet one (eqb-true (group_of (slot_of one)) found.group parts.0)
    (subst (λ (es : List Entry). is_outdated (take found.durable es) one ≡ false) (sym is)
    (none-of-fewer (λ other. is_of one.term one.table one.key other && nat_lt one.version other.version) found.durable d all
    (not-true (is_outdated (take found.durable all) one) parts.1)))
  where
    not-true : (b : Bool) → not b ≡ true → b ≡ false
    not-true false e = refl
    not-true true e = cc

among-alive : (all durable : List Entry) (d : ℕ) (entries : List (Entry × Bool)) (found : AliveEntry) → durable ≡ take d all →
    IsQuiet durable found.group found.durable → has_alive (take found.durable all) found.group entries ≡ true →
    is_dead durable (bare entries) ≡ false
among-alive all durable d [] found is quiet e = cc
among-alive all durable d (first ∷ entries) found is quiet e =
    by (nat_eq (group_of (slot_of first.0)) found.group && not (is_outdated (take found.durable all) first.0)) refl e
    (among-alive all durable d entries found is quiet)
  where
    by : (b : Bool) → (nat_eq (group_of (slot_of first.0)) found.group && not (is_outdated (take found.durable all) first.0)) ≡ b →
        (b || has_alive (take found.durable all) found.group entries) ≡ true →
        (has_alive (take found.durable all) found.group entries ≡ true → is_dead durable (bare entries) ≡ false) →
        is_dead durable (bare (first ∷ entries)) ≡ false
    by true one e rest = ap (λ b. b && is_dead durable (bare entries)) (one-alive all durable d found first.0 is quiet one)
    by false one e rest = ap (λ b. is_outdated durable first.0 && b) (rest e) ∙ and-false (is_outdated durable first.0)

-- a segment of which an entry was found is not dead while that entry's group is quiet
pub quiet-alive : (all durable : List Entry) (d : ℕ) (entries : List (Entry × Bool)) (found : AliveEntry) →
    durable ≡ take d all → IsFound all entries found → IsQuiet durable found.group found.durable →
    is_dead durable (bare entries) ≡ false
quiet-alive all durable d entries found is was quiet = among-alive all durable d entries found is quiet was.alive
