-- Which messages are due, by the marks and the numbers that wait.
use Rattle.std.proofs.Common.{◌≡◌, ◌≢◌, ◌⊎◌, inl, inr, ◌≤◌, ◌<◌, ℕ, ◌+◌, ◌-◌, zero, suc, Bool, true, false, not, nat_eq, nat_lt, max}
use Rattle.std.proofs.Common.{◌||◌, if◌then◌else◌, List, [], ◌∷◌, ◌++◌, length, drop, filter, Option, Some, None, slice_get, refl, sym}
use Rattle.std.proofs.Common.{ap, ◌∙◌, arith, true≢false, slice_index_or, slice_set, is_some, subst, length-append}
use Rattle.std.specs.Bool.{⊤}
use Rattle.std.specs.List.{items_where_true, AllWithin}
use Rattle.std.specs.List.Sorted.{IsPartitionedBy}
use Rattle.std.specs.List.Retain.{ReturnsInTurn}
use Rattle.std.proofs.lemmas.Option.{slice_get_within}
use Rattle.rc_model.specs.Model.{Outside, Message, Event}
use Rattle.rc_runs.specs.declared.passing.Passing.{Passing}
use Rattle.rc_runs.specs.Delivered.{is_delivered}
use Rattle.rc_runs.specs.Settling.{next_due, due_from}
use Rattle.rc_types.specs.declared.messages.Kind.{Kind}
use Rattle.rc_types.specs.Kinds.{kind_of}
use Rattle.rc_runs.specs.Passing.{is_left_alone}
use Rattle.rc_runs.specs.Lanes.{In, Ascends, marked, Lane, is_lane_left, InLanes, IsLeast, Joins, AreTidied}
use Rattle.rc_runs.specs.Waiting.{is_due_marked, is_due_by, first_due, Fits}
use Rattle.rc_runs.proofs.LaneLemmas.{rises_from, all_wider}

either : {P Q R : Type 0} → (P → R) → (Q → R) → P ⊎ Q → R
either f g (inl p) = f p
either f g (inr q) = g q

-- Numbers that rise

-- the numbers below a bound come before the others
pub rises_parted : (from low high : ℕ) (xs : List ℕ) → Ascends low high xs → IsPartitionedBy (λ n. nat_lt n from) xs
rises_parted from low high [] rise i j d le lt below = absurd (omega (arith, lt))
rises_parted from low high (x ∷ xs) rise zero zero d le lt below = below
rises_parted from low high (x ∷ xs) rise zero (suc j) d le lt below = below_first from x high xs j d rise.2 (omega (arith, lt)) below
  where
    below_first : (from x high : ℕ) (xs : List ℕ) (j d : ℕ) → Ascends (x + 1) high xs → j < length xs →
        nat_lt (slice_index_or xs j d) from ≡ true → nat_lt x from ≡ true
    below_first from x high [] j d rise lt below = absurd (omega (arith, lt))
    below_first from x high (y ∷ ys) zero d rise lt below = grind (arith, rise.0)
    below_first from x high (y ∷ ys) (suc j) d rise lt below = below_first from x high ys j d
        (rises_from (y + 1) (x + 1) high ys (omega (arith, rise.0)) rise.2) (omega (arith, lt)) below
rises_parted from low high (x ∷ xs) rise (suc i) zero d le lt below = absurd (omega (arith, le))
rises_parted from low high (x ∷ xs) rise (suc i) (suc j) d le lt below =
    rises_parted from (x + 1) high xs rise.2 i j d (omega (arith, le)) (omega (arith, lt)) below

-- what the place between them divides
pub rises_after : (from low high : ℕ) (xs : List ℕ) (place : ℕ) → Ascends low high xs
    → AllWithin (λ n. nat_lt n from ≡ false) xs place (length xs) → Ascends from high (drop place xs)
rises_after from low high [] zero rise above = tt
rises_after from low high [] (suc place) rise above = tt
rises_after from low high (x ∷ xs) zero rise above =
    let not_below : nat_lt x from ≡ false = above 0 0 (omega arith) (omega arith) in
    (grind (arith, not_below), rise.1, rise.2)
rises_after from low high (x ∷ xs) (suc place) rise above =
    rises_after from (x + 1) high xs place rise.2 (λ k d le lt. above (suc k) d (omega (arith, le)) (omega (arith, lt)))

pub in_after : (from : ℕ) (xs : List ℕ) (place n : ℕ) → AllWithin (λ m. nat_lt m from ≡ true) xs 0 place
    → from ≤ n → In n xs → In n (drop place xs)
in_after from [] place n below le found = absurd found
in_after from (x ∷ xs) zero n below le found = found
in_after from (x ∷ xs) (suc place) n below le (inl same) =
    let is_below : nat_lt x from ≡ true = below 0 0 (omega arith) (omega arith) in
    absurd (grind (arith, is_below, same, le))
in_after from (x ∷ xs) (suc place) n below le (inr later) =
    in_after from xs place n (λ k d ge lt. below (suc k) d (omega arith) (omega (arith, lt))) le later

-- What is due

-- by the marks, what is due is what the definitions say
same_due : (passing : Passing) (events : List Event) (delivered : List Bool) → ((n : ℕ) → marked delivered n ≡ is_delivered n events)
    → (n : ℕ) (messages : List Message) → first_due passing delivered n messages ≡ next_due passing events n messages
same_due passing events delivered marks n [] = refl
same_due passing events delivered marks n (message ∷ messages) = rw (marks n, same_due passing events delivered marks (n + 1) messages) refl

-- one number after another
turned : Passing → List Bool → ℕ → List Message → Option Message → Option ℕ
turned passing delivered n rest None = None
turned passing delivered n rest (Some message) = if is_due_marked passing (marked delivered n) (Some message) then Some
    n else first_due passing delivered (n + 1) rest

turn_at : (passing : Passing) (delivered : List Bool) (sent : List Message) (place n : ℕ)
    → first_due passing delivered n (drop place sent) ≡ turned passing delivered n (drop (suc place) sent) (slice_get sent place)
unfolding turned
turn_at passing delivered [] zero n = refl
turn_at passing delivered [] (suc place) n = refl
turn_at passing delivered (message ∷ sent) zero n = refl
turn_at passing delivered (message ∷ sent) (suc place) n = turn_at passing delivered sent place n

some_is_none : {message : Message} → Some message ≡ None → ⊥
some_is_none {message} same = true≢false (ap is_some same)

past_end : (passing : Passing) (delivered : List Bool) (sent : List Message) (place n : ℕ) →
    slice_get sent place ≡ None → first_due passing delivered n (drop (suc place) sent) ≡ None
past_end passing delivered [] place n none = refl
past_end passing delivered (message ∷ sent) zero n none = absurd (some_is_none none)
past_end passing delivered (message ∷ sent) (suc place) n none = past_end passing delivered sent place n none

turn_by : (passing : Passing) (delivered : List Bool) (sent : List Message) (n : ℕ) (message : Option Message) → slice_get sent n ≡ message
    → turned passing delivered n (drop (suc n) sent)
    message ≡ (if is_due_marked passing (marked delivered n) message then Some n
    else first_due passing delivered (n + 1) (drop (n + 1) sent))
unfolding turned
turn_by passing delivered sent n None none =
    let next : suc n ≡ n + 1 = omega arith in sym (rw (← next) (past_end passing delivered sent n (suc n) none))
turn_by passing delivered sent n (Some message) some = let next : suc n ≡ n + 1 = omega arith in rw next refl

-- the first that is due from n on is n, or the first from n + 1 on
turn : (passing : Passing) (delivered : List Bool) (sent : List Message) (n : ℕ)
    → first_due passing delivered n (drop n sent) ≡ (if is_due_by passing delivered sent n then Some n
    else first_due passing delivered (n + 1) (drop (n + 1) sent))
turn passing delivered sent n = turn_at passing delivered sent n n ∙ turn_by passing delivered sent n (slice_get sent n) refl

pub found_at : (passing : Passing) (delivered : List Bool) (sent : List Message) (n : ℕ) → is_due_by passing delivered sent n ≡ true
    → first_due passing delivered n (drop n sent) ≡ Some n
found_at passing delivered sent n due = turn passing delivered sent n ∙ rw due refl

pub not_at : (passing : Passing) (delivered : List Bool) (sent : List Message) (n : ℕ) → is_due_by passing delivered sent n ≡ false
    → first_due passing delivered n (drop n sent) ≡ first_due passing delivered (n + 1) (drop (n + 1) sent)
not_at passing delivered sent n due = turn passing delivered sent n ∙ rw due refl

-- where none of some numbers is due, they can be passed over
passed_over : (passing : Passing) (delivered : List Bool) (sent : List Message) (n k : ℕ)
    → ((m : ℕ) → n ≤ m → m < n + k → is_due_by passing delivered sent m ≡ false)
    → first_due passing delivered n (drop n sent) ≡ first_due passing delivered (n + k) (drop (n + k) sent)
passed_over passing delivered sent n zero none = let same : n + 0 ≡ n = omega arith in rw same refl
passed_over passing delivered sent n (suc k) none =
    let this : is_due_by passing delivered sent n ≡ false = none n (omega arith) (omega arith) in
    let rest = passed_over passing delivered sent (n + 1) k (λ m ge lt. none m (omega (arith, ge)) (omega (arith, lt))) in
    let moved : (n + 1) + k ≡ n + suc k = omega arith in
    turn passing delivered sent n ∙ rw this (rest ∙ rw moved refl)

not_true : (b : Bool) → (b ≡ true → ⊥) → b ≡ false
not_true true never = absurd (never refl)
not_true false never = refl

-- every number that is due is among those that wait
covered : (events : List Event) (sent : List Message) (delivered : List Bool) (waiting : List Lane) (passing : Passing) (from : ℕ)
    (best : Option ℕ) → Fits events sent delivered waiting
    → IsLeast (is_due_by passing delivered sent) from (λ n. InLanes passing n waiting) best
    → IsLeast (is_due_by passing delivered sent) from (λ n. n < length delivered) best
covered events sent delivered waiting passing from None waits least =
    λ n le lt due. least n le (waits.covers passing n lt due) due
covered events sent delivered waiting passing from (Some m) waits least =
    (least.0, least.1, λ n le lt due. least.2 n le (waits.covers passing n lt due) due)

first_at : (passing : Passing) (delivered : List Bool) (sent : List Message) (from last : ℕ) → from ≤ last
    → ((m : ℕ) → from ≤ m → m < last → is_due_by passing delivered sent m ≡ true → ⊥)
    → first_due passing delivered from (drop from sent) ≡ first_due passing delivered last (drop last sent)
first_at passing delivered sent from last le none =
    let width : from + (last - from) ≡ last = omega (arith, le) in
    passed_over passing delivered sent from (last - from)
    (λ m ge lt. not_true (is_due_by passing delivered sent m) (λ due. none m ge (omega (arith, lt, width)) due)) ∙ rw width refl

pub near_due : (events : List Event) (sent : List Message) (delivered : List Bool) (waiting : List Lane) (passing : Passing)
    (from : ℕ) (best : Option ℕ) → Fits events sent delivered waiting → first_due passing delivered from (drop from sent) ≡ best
    → best ≡ due_from passing events sent from
near_due events sent delivered waiting passing from best waits is =
    sym is ∙ same_due passing events delivered waits.marks from (drop from sent)

pub noted_due : (events : List Event) (sent : List Message) (delivered : List Bool) (waiting : List Lane) (passing : Passing)
    (from number : ℕ) → Fits events sent delivered waiting → number < length delivered
    → IsLeast (is_due_by passing delivered sent) from (λ n. InLanes passing n waiting) (Some number)
    → Some number ≡ due_from passing events sent from
noted_due events sent delivered waiting passing from number waits within least =
    let here = covered events sent delivered waiting passing from (Some number) waits least in
    sym (sym (same_due passing events delivered waits.marks from (drop from sent))
    ∙ first_at passing delivered sent from number here.0
    (λ m ge lt due. let above = here.2 m ge (omega (arith, lt, within)) due in omega (arith, above, lt))
    ∙ found_at passing delivered sent number here.1)

pub new_due : (events : List Event) (sent : List Message) (delivered : List Bool) (waiting : List Lane) (passing : Passing)
    (from : ℕ) (best : Option ℕ) → Fits events sent delivered waiting
    → IsLeast (is_due_by passing delivered sent) from (λ n. InLanes passing n waiting) best
    → ((m : ℕ) → best ≡ Some m → length delivered ≤ m)
    → first_due passing delivered (max from (length delivered)) (drop (max from (length delivered)) sent)
    ≡ due_from passing events sent from
new_due events sent delivered waiting passing from best waits least far =
    let last : ℕ = max from (length delivered) in
    sym (sym (same_due passing events delivered waits.marks from (drop from sent))
    ∙ first_at passing delivered sent from last (omega arith)
    (λ m ge lt due. none best (covered events sent delivered waiting passing from best waits least) far m ge (omega (arith, lt, ge)) due))
  where
    none : (one : Option ℕ) → IsLeast (is_due_by passing delivered sent) from (λ n. n < length delivered) one
        → ((m : ℕ) → one ≡ Some m → length delivered ≤ m)
        → (m : ℕ) → from ≤ m → m < length delivered → is_due_by passing delivered sent m ≡ true → ⊥
    none None least far m ge lt due = least m ge lt due
    none (Some k) least far m ge lt due =
        let above = least.2 m ge lt due in
        let beyond = far k refl in
        omega (arith, above, beyond, lt)

-- Notes

unmarked_end : (marks : List Bool) (n : ℕ) → marked (marks ++ false ∷ []) n ≡ marked marks n
unmarked_end [] zero = refl
unmarked_end [] (suc n) = refl
unmarked_end (mark ∷ marks) zero = refl
unmarked_end (mark ∷ marks) (suc n) = unmarked_end marks n

-- nothing to the outside is ever due
abbrev pub IsForOutside : Option Message → Type 0
IsForOutside None = ⊤
IsForOutside (Some message) = message.to ≡ Outside

outside_not_due : (passing : Passing) (mark : Bool) (message : Option Message) → IsForOutside message →
    is_due_marked passing mark message ≡ false
outside_not_due passing mark None outside = refl
outside_not_due passing true (Some message) outside = refl
outside_not_due passing false (Some message) outside = rw outside refl

last_or_before : (n high : ℕ) → n < high + 1 → (n < high) ⊎ (n ≡ high)
last_or_before n high lt = by_test (nat_lt n high) refl
  where
    by_test : (below : Bool) → nat_lt n high ≡ below → (n < high) ⊎ (n ≡ high)
    by_test true is = inl (grind (arith, is))
    by_test false is = inr (grind (arith, is, lt))

-- one message more is noted, and its number waits
pub noted_waiting : (events : List Event) (sent : List Message) (delivered marks : List Bool) (waiting lanes : List Lane)
    (message : Message) (kind : Kind) → slice_get sent (length delivered) ≡ Some message → kind ≡ kind_of message.body
    → marks ≡ delivered ++ false ∷ [] → Joins kind message.to (length delivered) waiting lanes
    → Fits events sent delivered waiting → Fits events sent marks lanes
noted_waiting events sent delivered marks waiting lanes message kind at is same joins waits =
    let longer : length (delivered ++ false ∷ []) ≡ length delivered + 1 = length-append delivered (false ∷ []) in
    let more = slice_get_within sent (length delivered) message at in
    rw same (record {
      marks = λ n. unmarked_end delivered n ∙ waits.marks n;
      within = omega (arith, longer, waits.within, more);
      ordered = rw longer (joins.ordered waits.ordered);
      covers = λ passing n lt due. at_end passing n (omega (arith, lt, longer)) (rw (← unmarked_end delivered n) due);
    })
  where
    open_lane : (passing : Passing) (mark : Bool) (found : Option Message) → found ≡ Some message →
        is_due_marked passing mark found ≡ true → is_lane_left passing kind message.to ≡ false
    open_lane passing mark None there due = absurd (true≢false (sym due))
    open_lane passing true (Some one) there due = absurd (true≢false (sym due))
    open_lane passing false (Some one) there due =
        let same : one ≡ message = cc in
        let alone : is_left_alone passing one ≡ false = not_true (is_left_alone passing one) (λ left. true≢false (sym due ∙ ap not left)) in
        rw is (subst (λ (m : Message). is_left_alone passing m ≡ false) same alone)

    at_end : (passing : Passing) (n : ℕ) → n < length delivered + 1 → is_due_by passing delivered sent n ≡ true →
        InLanes passing n lanes
    at_end passing n lt due =
        either {R = InLanes passing n lanes}
        (λ before. joins.kept passing n (waits.covers passing n before due))
        (λ last. let left = open_lane passing (marked delivered n) (slice_get sent n) (rw last at) due in
        rw last (joins.joined passing left)) (last_or_before n (length delivered) lt)

outside_at : (found : Option Message) (message : Message) → found ≡ Some message → message.to ≡ Outside → IsForOutside found
outside_at None message at to = tt
outside_at (Some one) message at to = let same : one ≡ message = cc in ap (λ (m : Message). m.to) same ∙ to

-- one message more is noted, which is for the outside
pub noted_outside : (events : List Event) (sent : List Message) (delivered marks : List Bool) (waiting lanes : List Lane)
    (message : Message) → slice_get sent (length delivered) ≡ Some message → message.to ≡ Outside
    → marks ≡ delivered ++ false ∷ [] → lanes ≡ waiting
    → Fits events sent delivered waiting → Fits events sent marks lanes
noted_outside events sent delivered marks waiting lanes message at outside same stay waits =
    let longer : length (delivered ++ false ∷ []) ≡ length delivered + 1 = length-append delivered (false ∷ []) in
    let more = slice_get_within sent (length delivered) message at in
    rw (same, stay) (record {
      marks = λ n. unmarked_end delivered n ∙ waits.marks n;
      within = omega (arith, longer, waits.within, more);
      ordered = rw longer (all_wider (length delivered) (length delivered + 1) waiting (omega arith) waits.ordered);
      covers = λ passing n lt due. at_end passing n (omega (arith, lt, longer)) (rw (← unmarked_end delivered n) due);
    })
  where
    at_end : (passing : Passing) (n : ℕ) → n < length delivered + 1 → is_due_by passing delivered sent n ≡ true →
        InLanes passing n waiting
    at_end passing n lt due =
        either {R = InLanes passing n waiting} (λ before. waits.covers passing n before due)
        (λ last. absurd (true≢false
        (sym due ∙ outside_not_due passing (marked delivered n) (slice_get sent n)
        (outside_at (slice_get sent n) message (rw last at) outside))))
        (last_or_before n (length delivered) lt)

-- What was delivered waits no longer

-- what `retain` keeps, where its test changes nothing
pub retained : {X P : Type 0} (R : P → X → Bool → P → Type 0) (p : P) (test : X → Bool) →
    ((x : X) (b : Bool) (q : P) → R p x b q → (q ≡ p) × (b ≡ test x))
    → (xs : List X) (bs : List Bool) (q : P) → length bs ≡ length xs → ReturnsInTurn R p bs xs q → items_where_true bs xs ≡ filter test xs
retained R p test says [] [] q same turns = refl
retained R p test says [] (b ∷ bs) q same turns = absurd (omega (arith, same))
retained R p test says (x ∷ xs) [] q same turns = absurd (omega (arith, same))
retained R p test says (x ∷ xs) (true ∷ bs) q same turns =
    let told = says x true turns.0 turns.1 in
    let rest = retained R p test says xs bs q (omega (arith, same)) (subst (λ j. ReturnsInTurn R j bs xs q) told.0 turns.2) in
    rw (← told.1) (ap (λ ys. x ∷ ys) rest)
retained R p test says (x ∷ xs) (false ∷ bs) q same turns =
    let told = says x false turns.0 turns.1 in
    let rest = retained R p test says xs bs q (omega (arith, same)) (subst (λ j. ReturnsInTurn R j bs xs q) told.0 turns.2) in
    rw (← told.1) rest

due_unmarked : (passing : Passing) (mark : Bool) (message : Option Message) → is_due_marked passing mark message ≡ true → not mark ≡ true
due_unmarked passing mark None due = absurd (true≢false (sym due))
due_unmarked passing true (Some message) due = absurd (true≢false (sym due))
due_unmarked passing false (Some message) due = refl

not_marked : (mark : Bool) → not mark ≡ true → mark ≡ false
not_marked true is = absurd (true≢false (sym is))
not_marked false is = refl

pub tidied_as : (events : List Event) (sent : List Message) (delivered marks : List Bool) (waiting lanes : List Lane) →
    Fits events sent delivered waiting → marks ≡ delivered → AreTidied delivered waiting lanes
    → Fits events sent marks lanes
tidied_as events sent delivered marks waiting lanes waits same tidied = rw same (record {
  marks = waits.marks;
  within = waits.within;
  ordered = tidied.ordered (length delivered) waits.ordered;
  covers = λ passing n lt due. tidied.kept passing n
      (not_marked (marked delivered n) (due_unmarked passing (marked delivered n) (slice_get sent n) due))
      (waits.covers passing n lt due);
})

-- A step

mark_same : (marks : List Bool) (n : ℕ) → n < length marks → marked (slice_set marks n true) n ≡ true
mark_same [] n lt = absurd (omega (arith, lt))
mark_same (mark ∷ marks) zero lt = refl
mark_same (mark ∷ marks) (suc n) lt = mark_same marks n (omega (arith, lt))

mark_other : (marks : List Bool) (n m : ℕ) → n ≢ m → marked (slice_set marks m true) n ≡ marked marks n
mark_other [] n m other = refl
mark_other (mark ∷ marks) zero zero other = absurd (other refl)
mark_other (mark ∷ marks) (suc n) zero other = refl
mark_other (mark ∷ marks) zero (suc m) other = refl
mark_other (mark ∷ marks) (suc n) (suc m) other = mark_other marks n m (λ same. other (ap suc same))

pub mark_length : (marks : List Bool) (n : ℕ) → length (slice_set marks n true) ≡ length marks
mark_length [] n = refl
mark_length (mark ∷ marks) zero = refl
mark_length (mark ∷ marks) (suc n) = ap suc (mark_length marks n)

-- the marks after a message is delivered
pub mark_at : (marks : List Bool) (n m : ℕ) → m < length marks → marked (slice_set marks m true) n ≡ (marked marks n || nat_eq n m)
mark_at marks n m lt = by_test (nat_eq n m) refl (marked marks n) refl
  where
    by_test : (same : Bool) → nat_eq n m ≡ same → (mark : Bool) → marked marks n ≡ mark → marked (slice_set marks m true) n ≡ (mark || same)
    by_test true is true was = let same : n ≡ m = grind (arith, is) in rw same (mark_same marks m lt)
    by_test true is false was = let same : n ≡ m = grind (arith, is) in rw same (mark_same marks m lt)
    by_test false is true was = let other : n ≢ m = grind (arith, is) in mark_other marks n m other ∙ was
    by_test false is false was = let other : n ≢ m = grind (arith, is) in mark_other marks n m other ∙ was
