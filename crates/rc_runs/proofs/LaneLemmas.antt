-- Lanes of numbers, and the least number in them that is due.
use Rattle.std.proofs.Common.{◌≡◌, ◌⊎◌, inl, inr, ◌≤◌, ◌<◌, ℕ, ◌+◌, zero, suc, Bool, true, false, not, nat_lt, cond, List, [], ◌∷◌, ◌++◌}
use Rattle.std.proofs.Common.{length, drop, take, filter, Option, Some, None, slice_get, slice_set, refl, sym, ap, ◌∙◌, arith, true≢false}
use Rattle.std.proofs.Common.{subst, ◌-◌, length-drop}
use Rattle.std.proofs.lemmas.List.{take_all}
use Rattle.std.specs.List.{find}
use Rattle.rc_types.specs.declared.ids.Addr.{Addr}
use Rattle.rc_types.specs.declared.messages.Kind.{Kind}
use Rattle.rc_runs.specs.declared.passing.Passing.{Passing}
use Rattle.rc_runs.specs.Lanes.{In, Ascends, marked, Lane, is_lane_left, InLanes, AllAscend, IsLeast, lesser, earlier_of}
use Rattle.rc_runs.specs.Lanes.{Joins, AreTidied}

-- Numbers that rise

-- a number of the list is at least its lower bound
pub in_range : (low high : ℕ) (xs : List ℕ) (n : ℕ) → Ascends low high xs → In n xs → (low ≤ n) × (n < high)
in_range low high [] n rise found = absurd found
in_range low high (x ∷ xs) n rise (inl same) = (omega (arith, rise.0, same), omega (arith, rise.1, same))
in_range low high (x ∷ xs) n rise (inr later) =
    let h = in_range (x + 1) high xs n rise.2 later in
    (omega (arith, rise.0, h.0), h.1)

pub rises_from : (low lower high : ℕ) (xs : List ℕ) → lower ≤ low → Ascends low high xs → Ascends lower high xs
rises_from low lower high [] le rise = tt
rises_from low lower high (x ∷ xs) le rise = (omega (arith, rise.0), rise.1, rise.2)

pub rises_to : (low high higher : ℕ) (xs : List ℕ) → high ≤ higher → Ascends low high xs → Ascends low higher xs
rises_to low high higher [] le rise = tt
rises_to low high higher (x ∷ xs) le rise = (rise.0, omega (arith, rise.1), rises_to (x + 1) high higher xs le rise.2)

pub rises_one : (low high : ℕ) (xs : List ℕ) → low ≤ high → Ascends low high xs → Ascends low (high + 1) (xs ++ high ∷ [])
rises_one low high [] le rise = (le, omega arith, tt)
rises_one low high (x ∷ xs) le rise = (rise.0, omega (arith, rise.1), rises_one (x + 1) high xs (omega (arith, rise.1)) rise.2)

pub in_more : (n : ℕ) (xs ys : List ℕ) → In n xs → In n (xs ++ ys)
in_more n [] ys found = absurd found
in_more n (x ∷ xs) ys (inl same) = inl same
in_more n (x ∷ xs) ys (inr later) = inr (in_more n xs ys later)

pub in_last : (n : ℕ) (xs : List ℕ) → In n (xs ++ n ∷ [])
in_last n [] = inl refl
in_last n (x ∷ xs) = inr (in_last n xs)

pub kept_rises : (p : ℕ → Bool) (low high : ℕ) (xs : List ℕ) → Ascends low high xs → Ascends low high (filter p xs)
kept_rises p low high [] rise = tt
kept_rises p low high (x ∷ xs) rise = by_test (p x) (kept_rises p (x + 1) high xs rise.2)
  where
    by_test : (kept : Bool) → Ascends (x + 1) high (filter p xs) → Ascends low high (cond kept (x ∷ filter p xs) (filter p xs))
    by_test true rest = (rise.0, rise.1, rest)
    by_test false rest = rises_from (x + 1) low high (filter p xs) (omega (arith, rise.0)) rest

pub kept_in : (p : ℕ → Bool) (n : ℕ) (xs : List ℕ) → p n ≡ true → In n xs → In n (filter p xs)
kept_in p n [] is found = absurd found
kept_in p n (x ∷ xs) is (inl same) = let this : p x ≡ true = rw (← same) is in rw this (inl same)
kept_in p n (x ∷ xs) is (inr later) = by_test (p x) (kept_in p n xs is later)
  where
    by_test : (kept : Bool) → In n (filter p xs) → In n (cond kept (x ∷ filter p xs) (filter p xs))
    by_test true rest = inr rest
    by_test false rest = rest

-- Lanes

all_to : (high higher : ℕ) (lanes : List Lane) → high ≤ higher → AllAscend high lanes → AllAscend higher lanes
all_to high higher [] le rise = tt
all_to high higher (lane ∷ lanes) le rise = (rises_to 0 high higher lane.numbers le rise.0, all_to high higher lanes le rise.1)

pub all_wider : (high higher : ℕ) (lanes : List Lane) → high ≤ higher → AllAscend high lanes → AllAscend higher lanes
all_wider high higher lanes le rise = all_to high higher lanes le rise

pub ascends_at : (high : ℕ) (lanes : List Lane) (place : ℕ) (lane : Lane) → AllAscend high lanes →
    slice_get lanes place ≡ Some lane → Ascends 0 high lane.numbers
ascends_at high [] place lane rise at = cc
ascends_at high (x ∷ xs) zero lane rise at =
    let same : x ≡ lane = cc in subst (λ (l : Lane). Ascends 0 high l.numbers) same rise.0
ascends_at high (x ∷ xs) (suc place) lane rise at = ascends_at high xs place lane rise.1 at

-- a lane in place of another
abbrev pub Follows : Passing → ℕ → Lane → Lane → Type 0
Follows passing n old new =
    (is_lane_left passing new.kind new.to ≡ is_lane_left passing old.kind old.to) × (In n old.numbers → In n new.numbers)

pub set_kept : (passing : Passing) (n : ℕ) (new : Lane) (lanes : List Lane) (place : ℕ)
    → ((old : Lane) → slice_get lanes place ≡ Some old → Follows passing n old new) → InLanes passing n lanes →
    InLanes passing n (slice_set lanes place new)
set_kept passing n new [] place there found = found
set_kept passing n new (x ∷ xs) zero there (inl here) = inl ((there x refl).0 ∙ here.0, (there x refl).1 here.1)
set_kept passing n new (x ∷ xs) zero there (inr later) = inr later
set_kept passing n new (x ∷ xs) (suc place) there (inl here) = inl here
set_kept passing n new (x ∷ xs) (suc place) there (inr later) = inr (set_kept passing n new xs place there later)

set_joined : (passing : Passing) (n : ℕ) (new : Lane) (lanes : List Lane) (place : ℕ) → place < length lanes
    → is_lane_left passing new.kind new.to ≡ false → In n new.numbers → InLanes passing n (slice_set lanes place new)
set_joined passing n new [] place within left found = absurd (omega (arith, within))
set_joined passing n new (x ∷ xs) zero within left found = inl (left, found)
set_joined passing n new (x ∷ xs) (suc place) within left found =
    inr (set_joined passing n new xs place (omega (arith, within)) left found)

pub set_ascends : (high : ℕ) (new : Lane) (lanes : List Lane) (place : ℕ) → Ascends 0 high new.numbers →
    AllAscend high lanes → AllAscend high (slice_set lanes place new)
set_ascends high new [] place one rise = tt
set_ascends high new (x ∷ xs) zero one rise = (one, rise.1)
set_ascends high new (x ∷ xs) (suc place) one rise = (rise.0, set_ascends high new xs place one rise.1)

end_kept : (passing : Passing) (n : ℕ) (lanes more : List Lane) → InLanes passing n lanes → InLanes passing n (lanes ++ more)
end_kept passing n [] more found = absurd found
end_kept passing n (x ∷ xs) more (inl here) = inl here
end_kept passing n (x ∷ xs) more (inr later) = inr (end_kept passing n xs more later)

end_joined : (passing : Passing) (n : ℕ) (lane : Lane) (lanes : List Lane) → is_lane_left passing lane.kind lane.to ≡ false
    → In n lane.numbers → InLanes passing n (lanes ++ lane ∷ [])
end_joined passing n lane [] left found = inl (left, found)
end_joined passing n lane (x ∷ xs) left found = inr (end_joined passing n lane xs left found)

end_ascends : (high : ℕ) (lane : Lane) (lanes : List Lane) → Ascends 0 high lane.numbers → AllAscend high lanes →
    AllAscend high (lanes ++ lane ∷ [])
end_ascends high lane [] one rise = (one, tt)
end_ascends high lane (x ∷ xs) one rise = (rise.0, end_ascends high lane xs one rise.1)

-- the number joins a lane that is there
abbrev pub longer : Lane → ℕ → Lane
longer old number = record { kind = old.kind; to = old.to; numbers = old.numbers ++ number ∷ [] }

follows_at : (passing : Passing) (n number place : ℕ) (old was : Lane) (lanes : List Lane) → slice_get lanes place ≡ Some old
    → slice_get lanes place ≡ Some was → Follows passing n was (longer old number)
follows_at passing n number place old was lanes at there =
    let some : Some old ≡ Some was = sym at ∙ there in
    let same : old ≡ was = cc in
    subst (λ (l : Lane). Follows passing n l (longer old number)) same (refl, λ found. in_more n old.numbers (number ∷ []) found)

pub joins_at : (kind : Kind) (to : Addr) (number place : ℕ) (old new : Lane) (lanes : List Lane)
    → slice_get lanes place ≡ Some old → place < length lanes
    → ((passing : Passing) → is_lane_left passing old.kind old.to ≡ is_lane_left passing kind to)
    → new ≡ longer old number → Joins kind to number lanes (slice_set lanes place new)
joins_at kind to number place old new lanes at within alike made = rw made (record {
  kept = λ passing n found. set_kept passing n (longer old number) lanes place
      (λ was there. follows_at passing n number place old was lanes at there) found;
  joined = λ passing left. set_joined passing number (longer old number) lanes place within (alike passing ∙ left)
      (in_last number old.numbers);
  ordered = λ rise. set_ascends (number + 1) (longer old number) lanes place
      (rises_one 0 number old.numbers (omega arith) (ascends_at number lanes place old rise at))
      (all_to number (number + 1) lanes (omega arith) rise);
})

-- the number joins by a lane of its own
pub joins_end : (kind : Kind) (to : Addr) (number : ℕ) (lanes now : List Lane)
    → now ≡ lanes ++ record { kind = kind; to = to; numbers = number ∷ [] } ∷ [] → Joins kind to number lanes now
joins_end kind to number lanes now made = rw made (record {
  kept = λ passing n found. end_kept passing n lanes _ found;
  joined = λ passing left. end_joined passing number (record { kind = kind; to = to; numbers = number ∷ [] }) lanes left (inl refl);
  ordered = λ rise. end_ascends (number + 1) (record { kind = kind; to = to; numbers = number ∷ [] }) lanes
      (omega arith, omega arith, tt) (all_to number (number + 1) lanes (omega arith) rise);
})

-- What is left of a lane

pub tidied_at : (marks : List Bool) (place : ℕ) (old new : Lane) (first lanes : List Lane) → slice_get lanes place ≡ Some old
    → new.kind ≡ old.kind → new.to ≡ old.to
    → (new.numbers ≡ old.numbers) ⊎ (new.numbers ≡ filter (λ n. not (marked marks n)) old.numbers)
    → AreTidied marks first lanes → AreTidied marks first (slice_set lanes place new)
tidied_at marks place old new first lanes at kind to numbers so_far = record {
  kept = λ passing n mark found. set_kept passing n new lanes place (λ was there. follows passing n mark was there)
      (so_far.kept passing n mark found);
  ordered = λ high rise. let now = so_far.ordered high rise in
      set_ascends high new lanes place (rises high (ascends_at high lanes place old now at) numbers) now;
}
  where
    stays : (n : ℕ) → marked marks n ≡ false → In n old.numbers
        → (new.numbers ≡ old.numbers) ⊎ (new.numbers ≡ filter (λ n. not (marked marks n)) old.numbers) → In n new.numbers
    stays n mark found (inl same) = rw same found
    stays n mark found (inr kept) = rw kept (kept_in (λ m. not (marked marks m)) n old.numbers (rw mark refl) found)

    rises : (high : ℕ) → Ascends 0 high old.numbers
        → (new.numbers ≡ old.numbers) ⊎ (new.numbers ≡ filter (λ n. not (marked marks n)) old.numbers) → Ascends 0 high new.numbers
    rises high rise (inl same) = rw same rise
    rises high rise (inr kept) = rw kept (kept_rises (λ m. not (marked marks m)) 0 high old.numbers rise)

    follows : (passing : Passing) (n : ℕ) → marked marks n ≡ false → (was : Lane) → slice_get lanes place ≡ Some was →
        Follows passing n was new
    follows passing n mark was there =
        let some : Some old ≡ Some was = sym at ∙ there in
        let same : old ≡ was = cc in
        subst (λ (l : Lane). Follows passing n l new) same (rw (kind, to) refl, λ found. stays n mark found numbers)

-- The least that is due

pub least_wider : (due : ℕ → Bool) (from : ℕ) (P Q : ℕ → Type 0) (best : Option ℕ) → ((n : ℕ) → from ≤ n → Q n → P n)
    → (IsLeast due from (λ n. P n) best) → ((n : ℕ) → P n → Q n) → IsLeast due from (λ n. Q n) best
least_wider due from P Q None back least there = λ n le found is. least n le (back n le found) is
least_wider due from P Q (Some m) back least there =
    (least.0, least.1, λ n le found is. least.2 n le (back n le found) is)

split_end : (passing : Passing) (n : ℕ) (lane : Lane) (lanes : List Lane) → InLanes passing n (lanes ++ lane ∷ [])
    → InLanes passing n lanes ⊎ ((is_lane_left passing lane.kind lane.to ≡ false) × In n lane.numbers)
split_end passing n lane [] (inl here) = inr here
split_end passing n lane [] (inr later) = absurd later
split_end passing n lane (x ∷ xs) (inl here) = inl (inl here)
split_end passing n lane (x ∷ xs) (inr later) = up (split_end passing n lane xs later)
  where
    up : InLanes passing n xs ⊎ ((is_lane_left passing lane.kind lane.to ≡ false) × In n lane.numbers)
        → InLanes passing n (x ∷ xs) ⊎ ((is_lane_left passing lane.kind lane.to ≡ false) × In n lane.numbers)
    up (inl before) = inl (inr before)
    up (inr last) = inr last

-- where the pass leaves the lane alone
pub least_left : (due : ℕ → Bool) (from : ℕ) (passing : Passing) (lane : Lane) (lanes : List Lane) (best : Option ℕ)
    → is_lane_left passing lane.kind lane.to ≡ true → IsLeast due from (λ n. InLanes passing n lanes) best
    → IsLeast due from (λ n. InLanes passing n (lanes ++ lane ∷ [])) best
least_left due from passing lane lanes best left least =
    least_wider due from (λ n. InLanes passing n lanes) (λ n. InLanes passing n (lanes ++ lane ∷ [])) best
    (λ n le found. before n (split_end passing n lane lanes found)) least (λ n found. end_kept passing n lanes (lane ∷ []) found)
  where
    before : (n : ℕ) → InLanes passing n lanes ⊎ ((is_lane_left passing lane.kind lane.to ≡ false) × In n lane.numbers)
        → InLanes passing n lanes
    before n (inl found) = found
    before n (inr last) = absurd (true≢false (sym left ∙ last.0))

in_none : (n : ℕ) (numbers : List ℕ) → length numbers ≡ 0 → In n numbers → ⊥
in_none n [] none found = found
in_none n (first ∷ numbers) none found = omega (arith, none)

-- where the lane has no number
pub least_empty : (due : ℕ → Bool) (from : ℕ) (passing : Passing) (lane : Lane) (lanes : List Lane) (best : Option ℕ)
    → length lane.numbers ≡ 0 → IsLeast due from (λ n. InLanes passing n lanes) best
    → IsLeast due from (λ n. InLanes passing n (lanes ++ lane ∷ [])) best
least_empty due from passing lane lanes best none least =
    least_wider due from (λ n. InLanes passing n lanes) (λ n. InLanes passing n (lanes ++ lane ∷ [])) best
    (λ n le found. before n (split_end passing n lane lanes found)) least (λ n found. end_kept passing n lanes (lane ∷ []) found)
  where
    before : (n : ℕ) → InLanes passing n lanes ⊎ ((is_lane_left passing lane.kind lane.to ≡ false) × In n lane.numbers)
        → InLanes passing n lanes
    before n (inl found) = found
    before n (inr last) = absurd (in_none n lane.numbers none last.1)

least_of : (due : ℕ → Bool) (from : ℕ) (P Q R : ℕ → Type 0) → ((n : ℕ) → R n → P n ⊎ Q n) → (one other : Option ℕ)
    → IsLeast due from (λ n. P n) one → IsLeast due from (λ n. Q n) other → IsLeast due from (λ n. R n) (earlier_of one other)
least_of due from P Q R parts None None none also = λ n le found is. either n le is (parts n found)
  where
    either : (n : ℕ) → from ≤ n → due n ≡ true → P n ⊎ Q n → ⊥
    either n le is (inl p) = none n le p is
    either n le is (inr q) = also n le q is
least_of due from P Q R parts None (Some m) none also = (also.0, also.1, λ n le found is. either n le is (parts n found))
  where
    either : (n : ℕ) → from ≤ n → due n ≡ true → P n ⊎ Q n → m ≤ n
    either n le is (inl p) = absurd (none n le p is)
    either n le is (inr q) = also.2 n le q is
least_of due from P Q R parts (Some k) None one none = (one.0, one.1, λ n le found is. either n le is (parts n found))
  where
    either : (n : ℕ) → from ≤ n → due n ≡ true → P n ⊎ Q n → k ≤ n
    either n le is (inl p) = one.2 n le p is
    either n le is (inr q) = absurd (none n le q is)
least_of due from P Q R parts (Some k) (Some m) one other = by_test (nat_lt k m) refl
  where
    first : (n : ℕ) → k < m → from ≤ n → due n ≡ true → P n ⊎ Q n → k ≤ n
    first n lt le is (inl p) = one.2 n le p is
    first n lt le is (inr q) = let above = other.2 n le q is in omega (arith, above, lt)

    second : (n : ℕ) → m ≤ k → from ≤ n → due n ≡ true → P n ⊎ Q n → m ≤ n
    second n ge le is (inl p) = let above = one.2 n le p is in omega (arith, above, ge)
    second n ge le is (inr q) = other.2 n le q is

    by_test : (below : Bool) → nat_lt k m ≡ below → IsLeast due from (λ n. R n) (lesser below k m)
    by_test true is = (one.0, one.1, λ n le found due_n. first n (grind (arith, is)) le due_n (parts n found))
    by_test false is = (other.0, other.1, λ n le found due_n. second n (grind (arith, is)) le due_n (parts n found))

pub least_more : (due : ℕ → Bool) (from : ℕ) (passing : Passing) (lane : Lane) (lanes : List Lane) (best one : Option ℕ)
    → IsLeast due from (λ n. InLanes passing n lanes) best → IsLeast due from (λ n. In n lane.numbers) one
    → IsLeast due from (λ n. InLanes passing n (lanes ++ lane ∷ [])) (earlier_of best one)
least_more due from passing lane lanes best one least found =
    least_of due from (λ n. InLanes passing n lanes) (λ n. In n lane.numbers) (λ n. InLanes passing n (lanes ++ lane ∷ []))
    (λ n is. last n (split_end passing n lane lanes is)) best one least found
  where
    last : (n : ℕ) → InLanes passing n lanes ⊎ ((is_lane_left passing lane.kind lane.to ≡ false) × In n lane.numbers)
        → InLanes passing n lanes ⊎ In n lane.numbers
    last n (inl before) = inl before
    last n (inr end) = inr end.1

-- the first of rising numbers that is due is the least
found_least : (due : ℕ → Bool) (from low high : ℕ) (xs : List ℕ) → from ≤ low → Ascends low high xs →
    IsLeast due from (λ n. In n xs) (find due xs)
found_least due from low high [] le rise = λ n ge found is. absurd found
found_least due from low high (x ∷ xs) le rise =
    by_test (due x) refl (find due xs) (found_least due from (x + 1) high xs (omega (arith, le, rise.0)) rise.2)
  where
    above : (n : ℕ) → In n (x ∷ xs) → x ≤ n
    above n (inl same) = omega (arith, same)
    above n (inr later) = let far = in_range (x + 1) high xs n rise.2 later in omega (arith, far.0)

    later_of : (n : ℕ) → due x ≡ false → due n ≡ true → In n (x ∷ xs) → In n xs
    later_of n isnt is (inl same) = absurd (true≢false (sym is ∙ ap due same ∙ isnt))
    later_of n isnt is (inr later) = later

    by_test : (b : Bool) → due x ≡ b → (rest : Option ℕ) → IsLeast due from (λ n. In n xs) rest →
        IsLeast due from (λ n. In n (x ∷ xs)) (cond b (Some x) rest)
    by_test true is rest least = (omega (arith, le, rise.0), is, λ n ge found due_n. above n found)
    by_test false is None least = λ n ge found due_n. least n ge (later_of n is due_n found) due_n
    by_test false is (Some m) least = (least.0, least.1, λ n ge found due_n. least.2 n ge (later_of n is due_n found) due_n)

pub least_in : (due : ℕ → Bool) (from high place : ℕ) (xs : List ℕ) (found : Option ℕ) → Ascends from high (drop place xs)
    → ((n : ℕ) → from ≤ n → In n xs → In n (drop place xs)) → found ≡ find due (drop place xs)
    → IsLeast due from (λ n. In n xs) found
least_in due from high place xs found rise all same =
    rw same (wider (find due (drop place xs)) (found_least due from from high (drop place xs) (omega arith) rise))
  where
    wider : (best : Option ℕ) → IsLeast due from (λ n. In n (drop place xs)) best → IsLeast due from (λ n. In n xs) best
    wider None least = λ n le is due_n. least n le (all n le is) due_n
    wider (Some m) least = (least.0, least.1, λ n le is due_n. least.2 n le (all n le is) due_n)

-- one lane after another
pub take_more : (lanes : List Lane) (place : ℕ) (lane : Lane) → slice_get lanes place ≡ Some lane →
    take (place + 1) lanes ≡ take place lanes ++ lane ∷ []
take_more lanes place lane at = let next : place + 1 ≡ suc place = omega arith in rw next (taken lanes place at)
  where
    taken : (xs : List Lane) (n : ℕ) → slice_get xs n ≡ Some lane → take (suc n) xs ≡ take n xs ++ lane ∷ []
    taken [] n at = cc
    taken (x ∷ xs) zero at = let same : x ≡ lane = cc in ap (λ y. y ∷ []) same
    taken (x ∷ xs) (suc n) at = ap (λ ys. x ∷ ys) (taken xs n at)

-- what is left of a list from a place on
pub rest_of : (place : ℕ) (xs : List ℕ) → take (length xs - place) (drop place xs) ≡ drop place xs
rest_of place xs = take_all (length xs - place) (drop place xs) (omega (arith, length-drop place xs))

-- the least of one lane more, and of them all
pub least_next : (due : ℕ → Bool) (from : ℕ) (passing : Passing) (lanes : List Lane) (place : ℕ) (lane : Lane) (best : Option ℕ)
    → slice_get lanes place ≡ Some lane → IsLeast due from (λ n. InLanes passing n (take place lanes ++ lane ∷ [])) best
    → IsLeast due from (λ n. InLanes passing n (take (place + 1) lanes)) best
least_next due from passing lanes place lane best at least =
    subst (λ (xs : List Lane). IsLeast due from (λ n. InLanes passing n xs) best) (sym (take_more lanes place lane at)) least

pub least_all : (due : ℕ → Bool) (from : ℕ) (passing : Passing) (lanes : List Lane) (place : ℕ) (best : Option ℕ)
    → length lanes ≤ place → IsLeast due from (λ n. InLanes passing n (take place lanes)) best
    → IsLeast due from (λ n. InLanes passing n lanes) best
least_all due from passing lanes place best past least =
    subst (λ (xs : List Lane). IsLeast due from (λ n. InLanes passing n xs) best) (take_all place lanes past) least
