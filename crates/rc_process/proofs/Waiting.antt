-- Both queues as one list: what comes, leaves and moves in them does so in that.
use Rattle.std.proofs.Common.{◌≡◌, ◌≤◌, ◌<◌, ◌+◌, ℕ, Bool, true, false, cond, nat_le, nat_lt, inl, inr, List, [], ◌∷◌, ◌++◌, map}
use Rattle.std.proofs.Common.{Option, Some, None, IfSome, IfNone, is_some, refl, sym, ap, ◌∙◌, subst, arith, append_assoc}
use Rattle.std.specs.Option.{option_map}
use Rattle.std.proofs.Math.Nat.{le-min, min-le_left, min-le_right}
use Rattle.std.proofs.lemmas.Bool.{leb-true, leb-false, le-leb, lt-leb, ltb-true, ltb-false, lt-ltb, le-ltb}
use Rattle.rc_types.specs.declared.events.NodeWork.{NodeWork}
use Rattle.rc_types.specs.declared.events.NodeWork.TheVariants as work
use Rattle.rc_types.specs.declared.messages.Message.{Message}
use Rattle.rc_history.specs.Nodes.{Node, node_step}
use Rattle.rc_world.specs.NodeView.{NodeData}
use Rattle.rc_process.specs.declared.saving.Saving.{Saving}
use Rattle.rc_process.specs.View.{Held, ProcessView, AllAbove, past_one, first_ready, LARGEST, moved_place, move_mark, move_held}
use Rattle.rc_process.specs.View.{moved_held, Leaves, started_next, ProcessData, process_seen, moved}
use Rattle.rc_process.specs.View.{written_next, rests_on, given}
use Rattle.rc_process.specs.Order.{Turned, came_before, came_since, in_turn, turn_of, rests_of, Climbs, AreInOrder, ready_turn, is_before}
use Rattle.rc_process.specs.Order.{move_turned, TakenInTurn, OfMasters, OfOthers}

-- What climbs

climbs_wider : (key : Turned → ℕ) (lower low high higher : ℕ) (queue : List Turned) → lower ≤ low → high ≤ higher →
    Climbs key low queue high → Climbs key lower queue higher
climbs_wider key lower low high higher [] down up climbs = omega arith
climbs_wider key lower low high higher (one ∷ later) down up climbs =
    (omega (arith, climbs.0), climbs_wider key (key one) (key one) high higher later (omega arith) up climbs.1)

climbs_under : (key : Turned → ℕ) (low high : ℕ) (queue : List Turned) → Climbs key low queue high → low ≤ high
climbs_under key low high [] climbs = climbs
climbs_under key low high (one ∷ later) climbs = omega (arith, climbs.0, climbs_under key (key one) high later climbs.1)

climbs_on : (key : Turned → ℕ) (low high higher : ℕ) (queue : List Turned) (one : Turned) → Climbs key low queue high → high ≤ key one →
    key one ≤ higher → Climbs key low (queue ++ one ∷ []) higher
climbs_on key low high higher [] one climbs up top = (omega (arith, climbs), top)
climbs_on key low high higher (y ∷ later) one climbs up top =
    (climbs.0, climbs_on key (key y) high higher later one climbs.1 up top)

climbs_behind : (key : Turned → ℕ) (high : ℕ) (one : Turned) (later : List Turned) → Climbs key 0 (one ∷ later) high →
    Climbs key 0 later high
climbs_behind key high one later climbs = climbs_wider key 0 (key one) high high later (omega arith) (omega arith) climbs.1

climbs_since : (key : Turned → ℕ) (low high turn : ℕ) (queue : List Turned) → Climbs key low queue high →
    Climbs key low (came_since turn queue) high
climbs_since key low high turn [] climbs = climbs
climbs_since key low high turn (one ∷ later) climbs =
    by (nat_lt one.turn turn)
    (climbs_wider key low (key one) high high (came_since turn later) climbs.0 (omega arith)
    (climbs_since key (key one) high turn later climbs.1))
  where
    by : (b : Bool) → Climbs key low (came_since turn later) high → Climbs key low (cond b (came_since turn later) (one ∷ later)) high
    by true rest = rest
    by false rest = climbs

-- All above

above_none : (safe : ℕ) → AllAbove safe []
unfolding AllAbove
above_none safe held at = absurd at

above_more : (safe : ℕ) (one : Held) (held : List Held) → safe < one.0 → AllAbove safe held → AllAbove safe (one ∷ held)
unfolding AllAbove
above_more safe one held first rest h (inl e) = subst (λ (x : Held). safe < x.0) (sym e) first
above_more safe one held first rest h (inr at) = rest h at

above_both : (safe : ℕ) (xs ys : List Held) → AllAbove safe xs → AllAbove safe ys → AllAbove safe (xs ++ ys)
unfolding AllAbove
above_both safe [] ys one two held at = two held at
above_both safe (x ∷ xs) ys one two held (inl e) = one held (inl e)
above_both safe (x ∷ xs) ys one two held (inr at) = above_both safe xs ys (λ h in_xs. one h (inr in_xs)) two held at

above_before : (safe low high turn : ℕ) (queue : List Turned) → safe < low → Climbs rests_of low queue high →
    AllAbove safe (came_before turn queue)
above_before safe low high turn [] below climbs = above_none safe
above_before safe low high turn (one ∷ later) below climbs =
    by (nat_lt one.turn turn) (above_before safe one.held.0 high turn later (omega (arith, climbs.0)) climbs.1)
  where
    by : (b : Bool) → AllAbove safe (came_before turn later) → AllAbove safe (cond b (one.held ∷ came_before turn later) [])
    by true rest = above_more safe one.held (came_before turn later) (omega (arith, climbs.0)) rest
    by false rest = above_none safe

above_map : (safe low high : ℕ) (queue : List Turned) → safe < low → Climbs rests_of low queue high →
    AllAbove safe (map (λ (x : Turned). x.held) queue)
above_map safe low high [] below climbs = above_none safe
above_map safe low high (one ∷ later) below climbs =
    above_more safe one.held (map (λ (x : Turned). x.held) later) (omega (arith, climbs.0))
    (above_map safe one.held.0 high later (omega (arith, climbs.0)) climbs.1)

above_in_turn : (safe low high lower higher : ℕ) (masters others : List Turned) → safe < low → Climbs rests_of low masters high →
    safe < lower → Climbs rests_of lower others higher → AllAbove safe (in_turn masters others)
above_in_turn safe low high lower higher [] others one climbs two climbs_too = above_map safe lower higher others two climbs_too
above_in_turn safe low high lower higher (m ∷ masters) others one climbs two climbs_too =
    above_both safe (came_before m.turn others) (m.held ∷ in_turn masters (came_since m.turn others))
    (above_before safe lower higher m.turn others two climbs_too)
    (above_more safe m.held (in_turn masters (came_since m.turn others)) (omega (arith, climbs.0))
    (above_in_turn safe m.held.0 high lower higher masters (came_since m.turn others) (omega (arith, climbs.0)) climbs.1 two
    (climbs_since rests_of lower higher m.turn others climbs_too)))

-- where the first of a queue has to wait, all do
waits_above : (safe high : ℕ) (queue : List Turned) → ready_turn safe queue ≡ None → Climbs rests_of 0 queue high →
    Climbs rests_of (safe + 1) queue (high + (safe + 1))
waits_above safe high [] e climbs = omega arith
waits_above safe high (one ∷ later) e climbs = by (nat_le one.held.0 safe) refl e
  where
    by : (b : Bool) → nat_le one.held.0 safe ≡ b → cond b (Some one.turn) None ≡ None →
        Climbs rests_of (safe + 1) (one ∷ later) (high + (safe + 1))
    by true is same = absurd cc
    by false is same =
        let above : safe < one.held.0 = leb-false one.held.0 safe is in
        (omega arith, climbs_wider rests_of one.held.0 one.held.0 high (high + (safe + 1)) later (omega arith) (omega arith) climbs.1)

-- One more comes

map_on : (queue : List Turned) (x : Turned) →
    map (λ (y : Turned). y.held) (queue ++ x ∷ []) ≡ map (λ (y : Turned). y.held) queue ++ x.held ∷ []
map_on [] x = refl
map_on (y ∷ queue) x = ap (λ (l : List Held). y.held ∷ l) (map_on queue x)

before_on : (turn : ℕ) (queue : List Turned) (x : Turned) → turn ≤ x.turn → came_before turn (queue ++ x ∷ []) ≡ came_before turn queue
before_on turn [] x late = ap (λ (b : Bool). cond b (x.held ∷ []) []) (le-ltb x.turn turn late)
before_on turn (y ∷ queue) x late =
    ap (λ (l : List Held). cond (nat_lt y.turn turn) (y.held ∷ l) []) (before_on turn queue x late)

since_on : (turn : ℕ) (queue : List Turned) (x : Turned) → turn ≤ x.turn →
    came_since turn (queue ++ x ∷ []) ≡ came_since turn queue ++ x ∷ []
since_on turn [] x late = ap (λ (b : Bool). cond b [] (x ∷ [])) (le-ltb x.turn turn late)
since_on turn (y ∷ queue) x late = by (nat_lt y.turn turn) (since_on turn queue x late)
  where
    by : (b : Bool) → came_since turn (queue ++ x ∷ []) ≡ came_since turn queue ++ x ∷ [] →
        cond b (came_since turn (queue ++ x ∷ [])) (y ∷ (queue ++ x ∷ [])) ≡ cond b (came_since turn queue) (y ∷ queue) ++ x ∷ []
    by true rest = rest
    by false rest = refl

others_on : (low high : ℕ) (masters others : List Turned) (x : Turned) → Climbs turn_of low masters high → high ≤ x.turn →
    in_turn masters (others ++ x ∷ []) ≡ in_turn masters others ++ x.held ∷ []
others_on low high [] others x climbs late = map_on others x
others_on low high (m ∷ masters) others x climbs late =
    let under : m.turn ≤ high = climbs_under turn_of m.turn high masters climbs.1 in
    let before : List Held = came_before m.turn others in
    let since : List Turned = came_since m.turn others in
    ap (λ (l : List Held). l ++ m.held ∷ in_turn masters (came_since m.turn (others ++ x ∷ []))) (before_on m.turn others x (omega arith))
    ∙ (ap (λ (l : List Turned). before ++ m.held ∷ in_turn masters l) (since_on m.turn others x (omega arith))
    ∙ (ap (λ (l : List Held). before ++ m.held ∷ l) (others_on m.turn high masters since x climbs.1 late)
    ∙ sym (append_assoc before (m.held ∷ in_turn masters since) (x.held ∷ []))))

all_before : (low high turn : ℕ) (queue : List Turned) → Climbs turn_of low queue high → high < turn →
    (came_before turn queue ≡ map (λ (y : Turned). y.held) queue) × (came_since turn queue ≡ [])
all_before low high turn [] climbs late = (refl, refl)
all_before low high turn (y ∷ queue) climbs late =
    let under : y.turn ≤ high = climbs_under turn_of y.turn high queue climbs.1 in
    let is : nat_lt y.turn turn ≡ true = lt-ltb y.turn turn (omega arith) in
    let rest = all_before y.turn high turn queue climbs.1 late in (
      ap (λ (b : Bool). cond b (y.held ∷ came_before turn queue) []) is ∙ ap (λ (l : List Held). y.held ∷ l) rest.0,
      ap (λ (b : Bool). cond b (came_since turn queue) (y ∷ queue)) is ∙ rest.1,
    )

masters_on : (low high : ℕ) (masters others : List Turned) (x : Turned) → Climbs turn_of low others high → high < x.turn →
    in_turn (masters ++ x ∷ []) others ≡ in_turn masters others ++ x.held ∷ []
masters_on low high [] others x climbs late =
    let all = all_before low high x.turn others climbs late in
    ap (λ (l : List Held). l ++ x.held ∷ map (λ (y : Turned). y.held) (came_since x.turn others)) all.0
    ∙ ap (λ (l : List Turned). map (λ (y : Turned). y.held) others ++ x.held ∷ map (λ (y : Turned). y.held) l) all.1
masters_on low high (m ∷ masters) others x climbs late =
    let before : List Held = came_before m.turn others in
    let since : List Turned = came_since m.turn others in
    ap (λ (l : List Held). before ++ m.held ∷ l)
    (masters_on low high masters since x (climbs_since turn_of low high m.turn others climbs) late)
    ∙ sym (append_assoc before (m.held ∷ in_turn masters since) (x.held ∷ []))

-- The first leaves

none_before : (low high turn : ℕ) (queue : List Turned) → Climbs turn_of low queue high → turn ≤ low →
    (came_before turn queue ≡ []) × (came_since turn queue ≡ queue)
none_before low high turn [] climbs early = (refl, refl)
none_before low high turn (y ∷ queue) climbs early =
    let is : nat_lt y.turn turn ≡ false = le-ltb y.turn turn (omega (arith, climbs.0)) in (
      ap (λ (b : Bool). cond b (y.held ∷ came_before turn queue) []) is,
      ap (λ (b : Bool). cond b (came_since turn queue) (y ∷ queue)) is,
    )

before_parts : (turn : ℕ) (queue : List Turned) →
    map (λ (y : Turned). y.held) queue ≡ came_before turn queue ++ map (λ (y : Turned). y.held) (came_since turn queue)
before_parts turn [] = refl
before_parts turn (y ∷ queue) = by (nat_lt y.turn turn) (before_parts turn queue)
  where
    by : (b : Bool) →
        map (λ (z : Turned). z.held) queue ≡ came_before turn queue ++ map (λ (z : Turned). z.held) (came_since turn queue) →
        y.held ∷ map (λ (z : Turned). z.held) queue
        ≡ cond b (y.held ∷ came_before turn queue) [] ++ map (λ (z : Turned). z.held) (cond b (came_since turn queue) (y ∷ queue))
    by true rest = ap (λ (l : List Held). y.held ∷ l) rest
    by false rest = refl

before_two : (first second : ℕ) (queue : List Turned) → first ≤ second →
    came_before second queue ≡ came_before first queue ++ came_before second (came_since first queue)
before_two first second [] order = refl
before_two first second (y ∷ queue) order = by (nat_lt y.turn first) refl (before_two first second queue order)
  where
    by : (b : Bool) → nat_lt y.turn first ≡ b →
        came_before second queue ≡ came_before first queue ++ came_before second (came_since first queue) →
        came_before second (y ∷ queue)
        ≡ cond b (y.held ∷ came_before first queue) [] ++ came_before second (cond b (came_since first queue) (y ∷ queue))
    by true is rest =
        let below : y.turn < first = ltb-true y.turn first is in
        ap (λ (c : Bool). cond c (y.held ∷ came_before second queue) []) (lt-ltb y.turn second (omega arith))
        ∙ ap (λ (l : List Held). y.held ∷ l) rest
    by false is rest = refl

since_two : (first second : ℕ) (queue : List Turned) → first ≤ second →
    came_since second queue ≡ came_since second (came_since first queue)
since_two first second [] order = refl
since_two first second (y ∷ queue) order = by (nat_lt y.turn first) refl (since_two first second queue order)
  where
    by : (b : Bool) → nat_lt y.turn first ≡ b → came_since second queue ≡ came_since second (came_since first queue) →
        came_since second (y ∷ queue) ≡ came_since second (cond b (came_since first queue) (y ∷ queue))
    by true is rest =
        let below : y.turn < first = ltb-true y.turn first is in
        ap (λ (c : Bool). cond c (came_since second queue) (y ∷ queue)) (lt-ltb y.turn second (omega arith)) ∙ rest
    by false is rest = refl

-- without a master's that came in this turn
without_masters : (high turn : ℕ) (masters others : List Turned) → Climbs turn_of turn masters high →
    in_turn masters others ≡ came_before turn others ++ in_turn masters (came_since turn others)
without_masters high turn [] others climbs = before_parts turn others
without_masters high turn (k ∷ masters) others climbs =
    let early : List Held = came_before turn others in
    let since : List Turned = came_since turn others in
    ap (λ (l : List Held). l ++ k.held ∷ in_turn masters (came_since k.turn others)) (before_two turn k.turn others climbs.0)
    ∙ (ap (λ (l : List Turned). (early ++ came_before k.turn since) ++ k.held ∷ in_turn masters l)
    (since_two turn k.turn others climbs.0)
    ∙ append_assoc early (came_before k.turn since) (k.held ∷ in_turn masters (came_since k.turn since)))

-- the first that may leave of a list, and the list without it
pub record IsLeft (safe : ℕ) (old : List Held) (one : Held) (new : List Held) : Type 0 where
  pub before : List Held
  pub later : List Held
  pub stood : old ≡ before ++ one ∷ later
  pub waits : AllAbove safe before
  pub left : new ≡ before ++ later

-- one of the others, before which no master's may leave
others_leave : (safe high higher : ℕ) (masters others : List Turned) (o : Turned) → Climbs rests_of (safe + 1) masters high →
    Climbs turn_of o.turn others higher → IsLeft safe (in_turn masters (o ∷ others)) o.held (in_turn masters others)
others_leave safe high higher [] others o rests came = record {
  before = [];
  later = map (λ (y : Turned). y.held) others;
  stood = refl;
  waits = above_none safe;
  left = refl;
}
others_leave safe high higher (m ∷ masters) others o rests came =
    by (nat_lt o.turn m.turn) refl
    (others_leave safe high higher masters others o
    (climbs_wider rests_of (safe + 1) m.held.0 high high masters rests.0 (omega arith) rests.1) came)
  where
    by : (b : Bool) → nat_lt o.turn m.turn ≡ b → IsLeft safe (in_turn masters (o ∷ others)) o.held (in_turn masters others) →
        IsLeft safe
        (cond b (o.held ∷ came_before m.turn others) [] ++ m.held ∷ in_turn masters (cond b (came_since m.turn others) (o ∷ others)))
        o.held (in_turn (m ∷ masters) others)
    by true is rest = record {
      before = [];
      later = in_turn (m ∷ masters) others;
      stood = refl;
      waits = above_none safe;
      left = refl;
    }
    by false is rest =
        let none = none_before o.turn higher m.turn others came (ltb-false o.turn m.turn is) in
        record {
          before = m.held ∷ rest.before;
          later = rest.later;
          stood = ap (λ (l : List Held). m.held ∷ l) rest.stood;
          waits = above_more safe m.held rest.before (omega (arith, rests.0)) rest.waits;
          left =
              ap (λ (l : List Held). l ++ m.held ∷ in_turn masters (came_since m.turn others)) none.0
              ∙ (ap (λ (l : List Turned). m.held ∷ in_turn masters l) none.1 ∙ ap (λ (l : List Held). m.held ∷ l) rest.left);
        }

-- one of the others, which came before the masters' first
others_lead : (safe : ℕ) (m o : Turned) (masters others : List Turned) → o.turn < m.turn →
    IsLeft safe (in_turn (m ∷ masters) (o ∷ others)) o.held (in_turn (m ∷ masters) others)
others_lead safe m o masters others early =
    subst (λ (b : Bool). IsLeft safe
    (cond b (o.held ∷ came_before m.turn others) [] ++ m.held ∷ in_turn masters (cond b (came_since m.turn others) (o ∷ others)))
    o.held (in_turn (m ∷ masters) others)) (sym (lt-ltb o.turn m.turn early)) (record {
      before = [];
      later = in_turn (m ∷ masters) others;
      stood = refl;
      waits = above_none safe;
      left = refl;
    })

-- the masters' first
masters_leave : (safe high : ℕ) (m : Turned) (masters others : List Turned) → Climbs turn_of m.turn masters high →
    AllAbove safe (came_before m.turn others) → IsLeft safe (in_turn (m ∷ masters) others) m.held (in_turn masters others)
masters_leave safe high m masters others came above = record {
  before = came_before m.turn others;
  later = in_turn masters (came_since m.turn others);
  stood = refl;
  waits = above;
  left = without_masters high m.turn masters others came;
}

-- where the first of a queue may leave, none came before an earlier turn
late_first : (safe high turn early : ℕ) (queue : List Turned) → Climbs turn_of 0 queue high → ready_turn safe queue ≡ Some turn →
    early ≤ turn → came_before early queue ≡ []
late_first safe high turn early [] climbs e order = refl
late_first safe high turn early (o ∷ queue) climbs e order = by (nat_le o.held.0 safe) e
  where
    by : (b : Bool) → cond {A = Option ℕ} b (Some o.turn) None ≡ Some turn → came_before early (o ∷ queue) ≡ []
    by true same =
        let turns : o.turn ≡ turn = cc in
        (none_before o.turn high early (o ∷ queue) (omega arith, climbs.1) (omega arith)).0
    by false same = absurd cc

from_masters : (safe high higher : ℕ) (m : Turned) (masters others : List Turned) → Climbs turn_of 0 (m ∷ masters) high →
    Climbs turn_of 0 others high → Climbs rests_of 0 others higher →
    is_before (ready_turn safe (m ∷ masters)) (ready_turn safe others) ≡ true →
    (m.held.0 ≤ safe) × IsLeft safe (in_turn (m ∷ masters) others) m.held (in_turn masters others)
from_masters safe high higher m masters others came others_came rest first = by (nat_le m.held.0 safe) refl first
  where
    above : (found : Option ℕ) → ready_turn safe others ≡ found → is_before (Some m.turn) found ≡ true →
        AllAbove safe (came_before m.turn others)
    above None is before =
        above_before safe (safe + 1) (higher + (safe + 1)) m.turn others (omega arith) (waits_above safe higher others is rest)
    above (Some turn) is before =
        subst (AllAbove safe) (sym (late_first safe high turn m.turn others others_came is (leb-true m.turn turn before))) (above_none safe)

    by : (b : Bool) → nat_le m.held.0 safe ≡ b → is_before (cond {A = Option ℕ} b (Some m.turn) None) (ready_turn safe others) ≡ true →
        (m.held.0 ≤ safe) × IsLeft safe (in_turn (m ∷ masters) others) m.held (in_turn masters others)
    by true is before =
        (leb-true m.held.0 safe is, masters_leave safe high m masters others came.1 (above (ready_turn safe others) refl before))
    by false is before = absurd cc

others_go : (safe high higher : ℕ) (o : Turned) (masters others : List Turned) → Climbs turn_of o.turn others high →
    Climbs rests_of 0 masters higher → is_before (ready_turn safe masters) (Some o.turn) ≡ false →
    IsLeft safe (in_turn masters (o ∷ others)) o.held (in_turn masters others)
others_go safe high higher o [] others came rest later = others_leave safe (safe + 1) high [] others o (omega arith) came
others_go safe high higher o (m ∷ masters) others came rest later = by (nat_le m.held.0 safe) refl later
  where
    by : (b : Bool) → nat_le m.held.0 safe ≡ b → is_before (cond {A = Option ℕ} b (Some m.turn) None) (Some o.turn) ≡ false →
        IsLeft safe (in_turn (m ∷ masters) (o ∷ others)) o.held (in_turn (m ∷ masters) others)
    by true is late = others_lead safe m o masters others (leb-false m.turn o.turn late)
    by false is late =
        others_leave safe (higher + (safe + 1)) high (m ∷ masters) others o
        (waits_above safe higher (m ∷ masters) (ap (λ (b : Bool). cond {A = Option ℕ} b (Some m.turn) None) is) rest) came

from_others : (safe high higher : ℕ) (o : Turned) (masters others : List Turned) → Climbs turn_of 0 (o ∷ others) high →
    Climbs rests_of 0 masters higher → is_before (ready_turn safe masters) (ready_turn safe (o ∷ others)) ≡ false →
    is_some (ready_turn safe (o ∷ others)) ≡ true →
    (o.held.0 ≤ safe) × IsLeft safe (in_turn masters (o ∷ others)) o.held (in_turn masters others)
from_others safe high higher o masters others came rest first some = by (nat_le o.held.0 safe) refl first some
  where
    by : (b : Bool) → nat_le o.held.0 safe ≡ b → is_before (ready_turn safe masters) (cond {A = Option ℕ} b (Some o.turn) None) ≡ false →
        is_some (cond {A = Option ℕ} b (Some o.turn) None) ≡ true →
        (o.held.0 ≤ safe) × IsLeft safe (in_turn masters (o ∷ others)) o.held (in_turn masters others)
    by true is later found = (leb-true o.held.0 safe is, others_go safe high higher o masters others came.1 rest later)
    by false is later found = absurd cc

-- a queue whose first may leave is not empty
pub masters_stand : (safe : ℕ) (queue : List Turned) (other : Option ℕ) → is_before (ready_turn safe queue) other ≡ true →
    queue ≡ [] → ⊥
masters_stand safe [] other before none = absurd cc
masters_stand safe (one ∷ queue) other before none = absurd cc

pub others_stand : (safe turn : ℕ) (queue : List Turned) → ready_turn safe queue ≡ Some turn → queue ≡ [] → ⊥
others_stand safe turn [] ready none = absurd cc
others_stand safe turn (one ∷ queue) ready none = absurd cc

filled : (before later : List Held) (one : Held) → before ++ one ∷ later ≡ [] → ⊥
filled [] later one none = absurd cc
filled (x ∷ before) later one none = absurd cc

-- nothing is held back where both queues are empty
pub none_held : (masters others : List Turned) → in_turn masters others ≡ [] → (masters ≡ []) × (others ≡ [])
none_held [] [] none = (refl, refl)
none_held [] (o ∷ others) none = absurd cc
none_held (m ∷ masters) others none =
    absurd (filled (came_before m.turn others) (in_turn masters (came_since m.turn others)) m.held none)

pub both_empty : (masters others : List Turned) → masters ≡ [] → others ≡ [] → in_turn masters others ≡ []
both_empty [] [] one two = refl
both_empty [] (o ∷ others) one two = absurd cc
both_empty (m ∷ masters) others one two = absurd cc

-- What is taken is the first that may leave

pub record HasLeft (safe : ℕ) (old new : List Held) (messages : List Message) : Type 0 where
  pub one : Held
  pub sent : one.1 ≡ messages
  pub ready : one.0 ≤ safe
  pub is : IsLeft safe old one new

pub taken_left : (safe turn written started : ℕ) (masters others masters_left others_left : List Turned) (messages : List Message) →
    AreInOrder turn written started masters others → TakenInTurn safe masters others masters_left others_left messages →
    HasLeft safe (in_turn masters others) (in_turn masters_left others_left) messages
taken_left safe turn written started masters others masters_left others_left messages order (OfMasters before taken same) =
    let m : Turned = taken.one in
    let came : Climbs turn_of 0 (m ∷ masters_left) turn =
    subst (λ (l : List Turned). Climbs turn_of 0 l turn) taken.stood order.masters_came in
    let first : is_before (ready_turn safe (m ∷ masters_left)) (ready_turn safe others) ≡ true =
    ap (λ (l : List Turned). is_before (ready_turn safe l) (ready_turn safe others)) (sym taken.stood) ∙ before in
    let found = from_masters safe turn written m masters_left others came order.others_came order.others_rest first in
    record {
      one = m.held;
      sent = taken.sent;
      ready = found.0;
      is =
          subst (λ (l : List Turned). IsLeft safe (in_turn l others) m.held (in_turn masters_left others_left)) (sym taken.stood)
          (subst (λ (l : List Turned). IsLeft safe (in_turn (m ∷ masters_left) others) m.held (in_turn masters_left l)) (sym same) found.1);
    }
taken_left safe turn written started masters others masters_left others_left messages order (OfOthers later some taken same) =
    let o : Turned = taken.one in
    let came : Climbs turn_of 0 (o ∷ others_left) turn =
    subst (λ (l : List Turned). Climbs turn_of 0 l turn) taken.stood order.others_came in
    let first : is_before (ready_turn safe masters) (ready_turn safe (o ∷ others_left)) ≡ false =
    ap (λ (l : List Turned). is_before (ready_turn safe masters) (ready_turn safe l)) (sym taken.stood) ∙ later in
    let found_one : is_some (ready_turn safe (o ∷ others_left)) ≡ true =
    ap (λ (l : List Turned). is_some (ready_turn safe l)) (sym taken.stood) ∙ some in
    let found = from_others safe turn started o masters others_left came order.masters_rest first found_one in
    record {
      one = o.held;
      sent = taken.sent;
      ready = found.0;
      is =
          subst (λ (l : List Turned). IsLeft safe (in_turn masters l) o.held (in_turn masters_left others_left)) (sym taken.stood)
          (subst (λ (l : List Turned). IsLeft safe (in_turn masters (o ∷ others_left)) o.held (in_turn l others_left)) (sym same) found.1);
    }

pub either_found : {V R : Type 0} (found : Option V) (P : V → Type 0) (Q : Type 0) → IfSome found P → IfNone found Q →
    ((x : V) → P x → R) → (Q → R) → R
either_found None P Q some none one two = two none
either_found (Some x) P Q some none one two = one x some

pub where_none : {V : Type 0} (found : Option V) (P Q : Type 0) → (P → Q) → IfNone found P → IfNone found Q
where_none None P Q so none = so none
where_none (Some x) P Q so none = tt

pub taken_order : (safe turn written started : ℕ) (masters others masters_left others_left : List Turned) (messages : List Message) →
    AreInOrder turn written started masters others → TakenInTurn safe masters others masters_left others_left messages →
    AreInOrder turn written started masters_left others_left
taken_order safe turn written started masters others masters_left others_left messages order (OfMasters before taken same) =
    subst (λ (l : List Turned). AreInOrder turn written started masters_left l) (sym same) (record {
      masters_came =
          climbs_behind turn_of turn taken.one masters_left
          (subst (λ (l : List Turned). Climbs turn_of 0 l turn) taken.stood order.masters_came);
      others_came = order.others_came;
      masters_rest =
          climbs_behind rests_of started taken.one masters_left
          (subst (λ (l : List Turned). Climbs rests_of 0 l started) taken.stood order.masters_rest);
      others_rest = order.others_rest;
      early = order.early;
    })
taken_order safe turn written started masters others masters_left others_left messages order (OfOthers later some taken same) =
    subst (λ (l : List Turned). AreInOrder turn written started l others_left) (sym same) (record {
      masters_came = order.masters_came;
      others_came =
          climbs_behind turn_of turn taken.one others_left
          (subst (λ (l : List Turned). Climbs turn_of 0 l turn) taken.stood order.others_came);
      masters_rest = order.masters_rest;
      others_rest =
          climbs_behind rests_of written taken.one others_left
          (subst (λ (l : List Turned). Climbs rests_of 0 l written) taken.stood order.others_rest);
      early = order.early;
    })

first_found : (safe : ℕ) (before later : List Held) (one : Held) → AllAbove safe before → one.0 ≤ safe →
    first_ready safe (before ++ one ∷ later) ≡ Some (one.1, before ++ later)
unfolding AllAbove
first_found safe [] later one above ready =
    ap (λ (b : Bool). cond {A = Option (List Message × List Held)} b (Some (one.1, later))
    (option_map (past_one one) (first_ready safe later)))
    (le-leb one.0 safe ready)
first_found safe (x ∷ before) later one above ready =
    ap (λ (b : Bool). cond {A = Option (List Message × List Held)} b (Some (x.1, before ++ one ∷ later))
    (option_map (past_one x) (first_ready safe (before ++ one ∷ later))))
    (lt-leb x.0 safe (above x (inl refl)))
    ∙ ap (λ (found : Option (List Message × List Held)). option_map (past_one x) found)
    (first_found safe before later one (λ held at. above held (inr at)) ready)

pub left_is_first : (safe : ℕ) (old new : List Held) (messages : List Message) → HasLeft safe old new messages →
    first_ready safe old ≡ Some (messages, new)
left_is_first safe old new messages left =
    ap (λ (l : List Held). first_ready safe l) left.is.stood
    ∙ (first_found safe left.is.before left.is.later left.one left.is.waits left.ready
    ∙ (ap (λ (l : List Held). Some (left.one.1, l)) (sym left.is.left) ∙ ap (λ (m : List Message). Some (m, new)) left.sent))

pub left_leaves : (old new : ProcessView) (messages : List Message) → HasLeft old.safe old.held new.held messages →
    new ≡ record old { held = new.held } → Leaves old new messages
left_leaves old new messages left same = record {
  before = left.is.before;
  rests = left.one.0;
  later = left.is.later;
  stood = left.is.stood ∙ ap (λ (m : List Message). left.is.before ++ (left.one.0, m) ∷ left.is.later) left.sent;
  safe = left.ready;
  left = same ∙ ap (λ (l : List Held). record old { held = l }) left.is.left;
}

pub all_wait : (safe turn written started : ℕ) (masters others : List Turned) → AreInOrder turn written started masters others →
    ready_turn safe masters ≡ None → ready_turn safe others ≡ None → AllAbove safe (in_turn masters others)
all_wait safe turn written started masters others order one two =
    above_in_turn safe (safe + 1) (started + (safe + 1)) (safe + 1) (written + (safe + 1)) masters others (omega arith)
    (waits_above safe started masters one order.masters_rest) (omega arith) (waits_above safe written others two order.others_rest)

-- One more is held back

abbrev turned : ℕ → ℕ → List Message → Turned
turned turn rests messages = record { turn = turn; held = (rests, messages) }

masters_next : (turn written started next more starts : ℕ) (masters others : List Turned) (messages : List Message) →
    AreInOrder turn written started masters others → next ≡ turn + 1 → written ≤ more → started ≤ starts → starts ≤ more →
    AreInOrder next more starts (masters ++ turned next started messages ∷ []) others
masters_next turn written started next more starts masters others messages order is grows on within =
    let one : Turned = turned next started messages in
    record {
      masters_came = climbs_on turn_of 0 turn next masters one order.masters_came (omega arith) (omega arith);
      others_came = climbs_wider turn_of 0 0 turn next others (omega arith) (omega arith) order.others_came;
      masters_rest = climbs_on rests_of 0 started starts masters one order.masters_rest (omega arith) on;
      others_rest = climbs_wider rests_of 0 0 written more others (omega arith) grows order.others_rest;
      early = within;
    }

others_next : (turn written started next more starts : ℕ) (masters others : List Turned) (messages : List Message) →
    AreInOrder turn written started masters others → next ≡ turn + 1 → written ≤ more → started ≤ starts → starts ≤ more →
    AreInOrder next more starts masters (others ++ turned next more messages ∷ [])
others_next turn written started next more starts masters others messages order is grows on within =
    let one : Turned = turned next more messages in
    record {
      masters_came = climbs_wider turn_of 0 0 turn next masters (omega arith) (omega arith) order.masters_came;
      others_came = climbs_on turn_of 0 turn next others one order.others_came (omega arith) (omega arith);
      masters_rest = climbs_wider rests_of 0 0 started starts masters (omega arith) on order.masters_rest;
      others_rest = climbs_on rests_of 0 written more others one order.others_rest grows (omega arith);
      early = within;
    }

masters_more : (turn written started next rests : ℕ) (masters others : List Turned) (messages : List Message) →
    AreInOrder turn written started masters others → next ≡ turn + 1 →
    in_turn (masters ++ turned next rests messages ∷ []) others ≡ in_turn masters others ++ (rests, messages) ∷ []
masters_more turn written started next rests masters others messages order is =
    masters_on 0 turn masters others (turned next rests messages) order.others_came (omega arith)

others_more : (turn written started next rests : ℕ) (masters others : List Turned) (messages : List Message) →
    AreInOrder turn written started masters others → next ≡ turn + 1 →
    in_turn masters (others ++ turned next rests messages ∷ []) ≡ in_turn masters others ++ (rests, messages) ∷ []
others_more turn written started next rests masters others messages order is =
    others_on 0 turn masters others (turned next rests messages) order.masters_came (omega arith)

-- a queue in which room was made, and to which this was added then
pushed_is : (queue wide pushed : List Turned) (one : Turned) (turn rests : ℕ) (messages : List Message) → wide ≡ queue →
    one ≡ turned turn rests messages → pushed ≡ wide ++ one ∷ [] → pushed ≡ queue ++ turned turn rests messages ∷ []
pushed_is queue wide pushed one turn rests messages room is push =
    push ∙ (ap (λ (l : List Turned). l ++ one ∷ []) room ∙ ap (λ (x : Turned). queue ++ x ∷ []) is)

pub masters_pushed : (turn written started next more starts : ℕ) (masters others wide kept pushed : List Turned) (one : Turned)
    (messages : List Message) → AreInOrder turn written started masters others → next ≡ turn + 1 → written ≤ more → started ≤ starts →
    starts ≤ more → wide ≡ masters → kept ≡ others → one ≡ turned next started messages → pushed ≡ wide ++ one ∷ [] →
    AreInOrder next more starts pushed kept
masters_pushed turn written started next more starts masters others wide kept pushed one messages order is grows on within room same held
    push =
    subst (λ (l : List Turned). AreInOrder next more starts l kept)
    (sym (pushed_is masters wide pushed one next started messages room held push))
    (subst (λ (l : List Turned). AreInOrder next more starts (masters ++ turned next started messages ∷ []) l) (sym same)
    (masters_next turn written started next more starts masters others messages order is grows on within))

pub others_pushed : (turn written started next more starts : ℕ) (masters others wide kept pushed : List Turned) (one : Turned)
    (messages : List Message) → AreInOrder turn written started masters others → next ≡ turn + 1 → written ≤ more → started ≤ starts →
    starts ≤ more → wide ≡ others → kept ≡ masters → one ≡ turned next more messages → pushed ≡ wide ++ one ∷ [] →
    AreInOrder next more starts kept pushed
others_pushed turn written started next more starts masters others wide kept pushed one messages order is grows on within room same held
    push =
    subst (λ (l : List Turned). AreInOrder next more starts kept l)
    (sym (pushed_is others wide pushed one next more messages room held push))
    (subst (λ (l : List Turned). AreInOrder next more starts l (others ++ turned next more messages ∷ [])) (sym same)
    (others_next turn written started next more starts masters others messages order is grows on within))

-- what is held back then
pub masters_held : (turn written started next : ℕ) (masters others wide kept pushed : List Turned) (one : Turned)
    (fresh messages sent : List Message) → AreInOrder turn written started masters others → next ≡ turn + 1 → wide ≡ masters →
    kept ≡ others → one ≡ turned next started messages → pushed ≡ wide ++ one ∷ [] → fresh ≡ [] → messages ≡ fresh ++ sent →
    in_turn pushed kept ≡ in_turn masters others ++ (started, sent) ∷ []
masters_held turn written started next masters others wide kept pushed one fresh messages sent order is room same held push none adds =
    ap (λ (l : List Turned). in_turn l kept) (pushed_is masters wide pushed one next started messages room held push)
    ∙ (ap (λ (l : List Turned). in_turn (masters ++ turned next started messages ∷ []) l) same
    ∙ (masters_more turn written started next started masters others messages order is
    ∙ ap (λ (l : List Message). in_turn masters others ++ (started, l) ∷ []) (adds ∙ ap (λ (l : List Message). l ++ sent) none)))

pub others_held : (turn written started next more : ℕ) (masters others wide kept pushed : List Turned) (one : Turned)
    (fresh messages sent : List Message) → AreInOrder turn written started masters others → next ≡ turn + 1 → wide ≡ others →
    kept ≡ masters → one ≡ turned next more messages → pushed ≡ wide ++ one ∷ [] → fresh ≡ [] → messages ≡ fresh ++ sent →
    in_turn kept pushed ≡ in_turn masters others ++ (more, sent) ∷ []
others_held turn written started next more masters others wide kept pushed one fresh messages sent order is room same held push none adds =
    ap (λ (l : List Turned). in_turn kept l) (pushed_is others wide pushed one next more messages room held push)
    ∙ (ap (λ (l : List Turned). in_turn l (others ++ turned next more messages ∷ [])) same
    ∙ (others_more turn written started next more masters others messages order is
    ∙ ap (λ (l : List Message). in_turn masters others ++ (more, l) ∷ []) (adds ∙ ap (λ (l : List Message). l ++ sent) none)))

-- A save takes the journal's place

abbrev moved_queue : Saving → List Turned → List Turned
moved_queue saving queue = map (move_turned saving) queue

before_moved : (saving : Saving) (turn : ℕ) (queue : List Turned) →
    came_before turn (moved_queue saving queue) ≡ moved_held saving (came_before turn queue)
before_moved saving turn [] = refl
before_moved saving turn (y ∷ queue) = by (nat_lt y.turn turn) (before_moved saving turn queue)
  where
    by : (b : Bool) → came_before turn (moved_queue saving queue) ≡ moved_held saving (came_before turn queue) →
        cond b (move_held saving y.held ∷ came_before turn (moved_queue saving queue)) []
        ≡ moved_held saving (cond b (y.held ∷ came_before turn queue) [])
    by true rest = ap (λ (l : List Held). move_held saving y.held ∷ l) rest
    by false rest = refl

since_moved : (saving : Saving) (turn : ℕ) (queue : List Turned) →
    came_since turn (moved_queue saving queue) ≡ moved_queue saving (came_since turn queue)
since_moved saving turn [] = refl
since_moved saving turn (y ∷ queue) = by (nat_lt y.turn turn) (since_moved saving turn queue)
  where
    by : (b : Bool) → came_since turn (moved_queue saving queue) ≡ moved_queue saving (came_since turn queue) →
        cond b (came_since turn (moved_queue saving queue)) (move_turned saving y ∷ moved_queue saving queue)
        ≡ moved_queue saving (cond b (came_since turn queue) (y ∷ queue))
    by true rest = rest
    by false rest = refl

map_held : (saving : Saving) (queue : List Turned) →
    map (λ (y : Turned). y.held) (moved_queue saving queue) ≡ moved_held saving (map (λ (y : Turned). y.held) queue)
map_held saving [] = refl
map_held saving (y ∷ queue) = ap (λ (l : List Held). move_held saving y.held ∷ l) (map_held saving queue)

moved_parts : (saving : Saving) (before later : List Held) (one : Held) →
    moved_held saving (before ++ one ∷ later) ≡ moved_held saving before ++ move_held saving one ∷ moved_held saving later
moved_parts saving [] later one = refl
moved_parts saving (x ∷ before) later one = ap (λ (l : List Held). move_held saving x ∷ l) (moved_parts saving before later one)

pub in_turn_moved : (saving : Saving) (masters others : List Turned) →
    in_turn (map (move_turned saving) masters) (map (move_turned saving) others) ≡ moved_held saving (in_turn masters others)
in_turn_moved saving [] others = map_held saving others
in_turn_moved saving (m ∷ masters) others =
    ap (λ (l : List Held). l ++ move_held saving m.held
    ∷ in_turn (moved_queue saving masters) (came_since m.turn (moved_queue saving others)))
    (before_moved saving m.turn others)
    ∙ (ap (λ (l : List Turned). moved_held saving (came_before m.turn others) ++ move_held saving m.held
    ∷ in_turn (moved_queue saving masters) l)
    (since_moved saving m.turn others)
    ∙ (ap (λ (l : List Held). moved_held saving (came_before m.turn others) ++ move_held saving m.held ∷ l)
    (in_turn_moved saving masters (came_since m.turn others))
    ∙ sym (moved_parts saving (came_before m.turn others) (in_turn masters (came_since m.turn others)) m.held)))

mark_up : (saving : Saving) (a b : ℕ) → a ≤ b → move_mark saving a ≤ move_mark saving b
mark_up saving a b h =
    let first : move_mark saving a ≤ moved_place saving a = min-le_left (moved_place saving a) LARGEST in
    let up : move_mark saving a ≤ moved_place saving b = omega arith in
    le-min up (min-le_right (moved_place saving a) LARGEST)

rests_moved : (saving : Saving) (low high : ℕ) (queue : List Turned) → Climbs rests_of low queue high →
    Climbs rests_of (move_mark saving low) (moved_queue saving queue) (move_mark saving high)
rests_moved saving low high [] climbs = mark_up saving low high climbs
rests_moved saving low high (one ∷ later) climbs =
    (mark_up saving low one.held.0 climbs.0, rests_moved saving one.held.0 high later climbs.1)

turns_moved : (saving : Saving) (low high : ℕ) (queue : List Turned) → Climbs turn_of low queue high →
    Climbs turn_of low (moved_queue saving queue) high
turns_moved saving low high [] climbs = climbs
turns_moved saving low high (one ∷ later) climbs = (climbs.0, turns_moved saving one.turn high later climbs.1)

from_zero : (saving : Saving) (high : ℕ) (queue : List Turned) → Climbs rests_of 0 queue high →
    Climbs rests_of 0 (moved_queue saving queue) (move_mark saving high)
from_zero saving high queue climbs =
    climbs_wider rests_of 0 (move_mark saving 0) (move_mark saving high) (move_mark saving high) (moved_queue saving queue) (omega arith)
    (omega arith) (rests_moved saving 0 high queue climbs)

pub moved_order : (saving : Saving) (turn written started : ℕ) (masters others : List Turned) →
    AreInOrder turn written started masters others →
    AreInOrder turn (move_mark saving written) (move_mark saving started) (moved_queue saving masters) (moved_queue saving others)
moved_order saving turn written started masters others order = record {
  masters_came = turns_moved saving 0 turn masters order.masters_came;
  others_came = turns_moved saving 0 turn others order.others_came;
  masters_rest = from_zero saving started masters order.masters_rest;
  others_rest = from_zero saving written others order.others_rest;
  early = mark_up saving started written order.early;
}

-- what a process is then
pub is_moved : (old : ProcessData) (saving : Saving) (begun : Option Saving) (node : NodeData) (written started safe : ℕ)
    (held : List Held) →
    record { node = node; written = written; started = started; safe = safe; held = held; saving = begun } ≡ old →
    begun ≡ Some saving →
    process_seen (record {
      node = node;
      written = move_mark saving written;
      started = move_mark saving started;
      safe = move_mark saving safe;
      held = moved_held saving held;
      saving = None;
    }) ≡ moved (process_seen old)
is_moved old saving begun node written started safe held same is =
    subst (λ (d : ProcessData). process_seen (record {
      node = node;
      written = move_mark saving written;
      started = move_mark saving started;
      safe = move_mark saving safe;
      held = moved_held saving held;
      saving = None;
    }) ≡ moved (process_seen d)) same (rw is refl)

-- the last start of a server is later then, and no later than what is written
pub started_between : (process : ProcessView) (given : NodeWork) (started written starts : ℕ) →
    starts ≡ started_next process given written → process.started ≡ started → started ≤ written → (started ≤ starts) × (starts ≤ written)
started_between process (work.Start kept) started written starts is e h = (omega arith, omega arith)
started_between process _ started written starts is e h = (omega arith, omega arith)

-- what a process is after a work, part by part
pub is_given : (old : ProcessView) (work : NodeWork) (node : Node) (written started : ℕ) (held : List Held) →
    node ≡ (node_step old.node work).0 → written ≡ written_next old work → started ≡ started_next old work written →
    held ≡ old.held ++ (rests_on old work, (node_step old.node work).1) ∷ [] →
    record { node = node; written = written; started = started; safe = old.safe; held = held; saving = old.saving } ≡ given old work
is_given old work node written started held one two three four =
    ap (λ (n : Node). record { node = n; written = written; started = started; safe = old.safe; held = held; saving = old.saving }) one
    ∙ (ap (λ (s : ℕ). record {
      node = (node_step old.node work).0;
      written = written;
      started = s;
      safe = old.safe;
      held = held;
      saving = old.saving;
    }) three
    ∙ (ap (λ (w : ℕ). record {
      node = (node_step old.node work).0;
      written = w;
      started = started_next old work w;
      safe = old.safe;
      held = held;
      saving = old.saving;
    }) two
    ∙ ap (λ (h : List Held). record {
      node = (node_step old.node work).0;
      written = written_next old work;
      started = started_next old work (written_next old work);
      safe = old.safe;
      held = h;
      saving = old.saving;
    }) four))
