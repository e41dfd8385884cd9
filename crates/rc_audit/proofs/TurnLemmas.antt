-- Turns in the sequence of their places: what is found is over all that stands before.
use Rattle.std.proofs.Common.{◌≡◌, ◌⊎◌, ℕ, suc, ◌<◌, ◌≤◌, Bool, true, false, cond, nat_le}
use Rattle.std.proofs.Common.{List, [], ◌∷◌, Option, Some, None, refl, sym, ap, ◌∙◌, inl, inr, subst, arith, is_some}
use Rattle.std.specs.declared.cmp.Ordering.{Ordering}
use Rattle.std.specs.declared.cmp.Ordering.TheVariants.{Less, Equal, Greater}
use Rattle.std.specs.Ordering.{nat_cmp, bool_cmp, ordering_then, is_eq}
use Rattle.std.specs.BTreeMap.{BTreeMap, get, is_at}
use Rattle.std.specs.BTreeSet.{BTreeSet, contains, Updates}
use Rattle.std.specs.List.{list_any, All}
use Rattle.std.specs.BTreeMap.Range.{IsLtBy}
use Rattle.std.specs.Map.{lookup}
use Rattle.std.proofs.lemmas.Bool.{or_cases, false≢true}
use Rattle.std.proofs.lemmas.Bool.Decides.{nat_tests}
use Rattle.rc_model.specs.Headline.{In}
use Rattle.rc_audit.specs.declared.highs.TermKey.{TermKey}
use Rattle.rc_audit.specs.declared.orders.Span.{Span}
use Rattle.rc_audit.specs.declared.turns.Turn.{Turn}
use Rattle.rc_audit.specs.Orders.{stands_after, IsOver, AreOver}
use Rattle.rc_audit.specs.Highs.{key_order, high_at, is_level, NotesVersion}
use Rattle.rc_audit.proofs.BarLemmas.{version_kept, version_noted}
use Rattle.rc_audit.specs.Turns.{turn_order, of_all_terms, noting, HasTurn, HasTurns, IsFound, TakesTurn}

same_key_at : (a b : TermKey) → is_at (key_order a) b ≡ true → a ≡ b
same_key_at a b e =
    let term : a.term ≡ b.term = grind (arith, nat_tests) in
    let table : a.table ≡ b.table = grind (arith, nat_tests) in
    let k : a.key ≡ b.key = grind (arith, nat_tests) in
    let whole : ◌≡◌ {A = TermKey} (record { term = a.term; table = a.table; key = a.key })
    (record { term = b.term; table = b.table; key = b.key }) = cc in whole

some_same : {X : Type 0} (x y : X) → Some x ≡ Some y → x ≡ y
some_same x y e = cc

-- The turns of all keys

pub turn_added : (order : BTreeMap ℕ Span) (old mid new : BTreeSet Turn) (key : TermKey) (span : Span) (other : Turn) →
    get nat_cmp order key.term ≡ Some span → Updates turn_order old mid other true →
    Updates turn_order mid new (noting span key) true → HasTurn order old new key
turn_added order old mid new key span other stands one two = record {
  kept = λ t e. by (is_at (turn_order (noting span key)) t) (contains turn_order mid t) (contains turn_order new t) (two.0 t)
      (by (is_at (turn_order other) t) (contains turn_order old t) (contains turn_order mid t) (one.0 t) e);
  added = λ at is. subst (λ (s : Span). contains turn_order new (noting s key) ≡ true) (some_same span at (sym stands ∙ is)) two.1;
}
  where
    by : (at was now : Bool) → now ≡ cond at true was → was ≡ true → now ≡ true
    by true was now e is = e
    by false was now e is = e ∙ is

-- the turns of these entries are there, or they are still to come
pub record TurnsAmong (order : BTreeMap ℕ Span) (highs : BTreeMap TermKey ℕ) (rest : List (TermKey × ℕ)) (turns : BTreeSet Turn) :
    Type 0 where
  pub each : (key : TermKey) (v : ℕ) (span : Span) → is_level (high_at highs key) v ≡ true → get nat_cmp order key.term ≡ Some span →
      (is_level (lookup (is_at (key_order key)) rest) v ≡ true) ⊎ (contains turn_order turns (noting span key) ≡ true)

pub turns_begin : (order : BTreeMap ℕ Span) (highs : BTreeMap TermKey ℕ) (rest : List (TermKey × ℕ)) (turns : BTreeSet Turn) →
    rest ≡ highs.entries → TurnsAmong order highs rest turns
turns_begin order highs rest turns all = record {
  each = λ key v span level stands. inl
      (subst (λ (xs : List (TermKey × ℕ)). is_level (lookup (is_at (key_order key)) xs) v ≡ true) (sym all) level);
}

pub turns_more : (order : BTreeMap ℕ Span) (highs : BTreeMap TermKey ℕ) (was rest : List (TermKey × ℕ)) (key : TermKey) (version : ℕ)
    (old new : BTreeSet Turn) → was ≡ (key, version) ∷ rest → TurnsAmong order highs was old → HasTurn order old new key →
    TurnsAmong order highs rest new
turns_more order highs was rest key version old new split before more = record {
  each = λ q v span level stands. by q v span stands (before.each q v span level stands);
}
  where
    first : (q : TermKey) (v : ℕ) (span : Span) → get nat_cmp order q.term ≡ Some span → (here : Bool)
        → is_at (key_order q) key ≡ here → is_level (cond here (Some version) (lookup (is_at (key_order q)) rest)) v ≡ true
        → (is_level (lookup (is_at (key_order q)) rest) v ≡ true) ⊎ (contains turn_order new (noting span q) ≡ true)
    first q v span stands true is level =
        let same : key ≡ q = sym (same_key_at q key is) in
        inr (subst (λ (k : TermKey). contains turn_order new (noting span k) ≡ true) same
        (more.added span (ap (λ (k : TermKey). get nat_cmp order k.term) same ∙ stands)))
    first q v span stands false is level = inl level

    by : (q : TermKey) (v : ℕ) (span : Span) → get nat_cmp order q.term ≡ Some span
        → (is_level (lookup (is_at (key_order q)) was) v ≡ true) ⊎ (contains turn_order old (noting span q) ≡ true)
        → (is_level (lookup (is_at (key_order q)) rest) v ≡ true) ⊎ (contains turn_order new (noting span q) ≡ true)
    by q v span stands (inl level) = first q v span stands (is_at (key_order q) key) refl
        (subst (λ (xs : List (TermKey × ℕ)). is_level (lookup (is_at (key_order q)) xs) v ≡ true) split level)
    by q v span stands (inr done) = inr (more.kept (noting span q) done)

pub turns_end : (order : BTreeMap ℕ Span) (highs : BTreeMap TermKey ℕ) (rest : List (TermKey × ℕ)) (turns : BTreeSet Turn) →
    rest ≡ [] → TurnsAmong order highs rest turns → HasTurns order highs turns
turns_end order highs rest turns none among =
    record { each = λ key v span level stands. by key v span (among.each key v span level stands) }
  where
    by : (key : TermKey) (v : ℕ) (span : Span)
        → (is_level (lookup (is_at (key_order key)) rest) v ≡ true) ⊎ (contains turn_order turns (noting span key) ≡ true)
        → contains turn_order turns (noting span key) ≡ true
    by key v span (inl level) =
        let never : is_level None v ≡ true =
        subst (λ (xs : List (TermKey × ℕ)). is_level (lookup (is_at (key_order key)) xs) v ≡ true) none level in
        absurd (false≢true never)
    by key v span (inr done) = done

-- A turn is taken

level_below : (high : Option ℕ) (version v : ℕ) → is_level high version ≡ true → nat_le v version ≡ true → is_level high v ≡ true
level_below None version v level below = cc
level_below (Some high) version v level below = grind (arith, nat_tests)

-- it notes a version
pub taken_noted : (order : BTreeMap ℕ Span) (highs old new : BTreeMap TermKey ℕ) (bars : BTreeMap TermKey (Option ℕ)) (turn : Turn)
    (key : TermKey) (version : ℕ) → Some version ≡ high_at highs turn.key → key ≡ of_all_terms turn.key →
    NotesVersion old new key version → TakesTurn order highs old new bars bars turn
taken_noted order highs old new bars turn key version is same p = record {
  kept = version_kept old new key version p;
  noted = λ v _ level. subst (λ (k : TermKey). is_level (high_at new k) v ≡ true) same
      (level_below (high_at new key) version v (version_noted old new key version p)
      (subst (λ (o : Option ℕ). is_level o v ≡ true) (sym is) level));
  bars = λ q bar at. inl at;
}

-- it finds a bar
pub taken_found : (order : BTreeMap ℕ Span) (highs noted : BTreeMap TermKey ℕ) (found finds : BTreeMap TermKey (Option ℕ))
    (turn : Turn) (key : TermKey) (span : Span) (bar : Option ℕ) → turn.is_noted ≡ false →
    get nat_cmp order turn.key.term ≡ Some span → span.bound ≤ turn.place →
    bar ≡ high_at noted key → key ≡ of_all_terms turn.key →
    ((q : TermKey) → get key_order finds q ≡ cond (is_at (key_order turn.key) q) (Some bar) (get key_order found q)) →
    TakesTurn order highs noted noted found finds turn
taken_found order highs noted found finds turn key span bar is stands passed is_bar same updates = record {
  kept = λ q v e. e;
  noted = λ v is_noted level. absurd (false≢true (sym is ∙ is_noted));
  bars = λ q b at. by q b (is_at (key_order turn.key) q) refl (sym (updates q) ∙ at);
}
  where
    by : (q : TermKey) (b : Option ℕ) (at : Bool) → is_at (key_order turn.key) q ≡ at →
        cond at (Some bar) (get key_order found q) ≡ Some b → (get key_order found q ≡ Some b) ⊎ IsFound order noted turn q b
    by q b true e at = inr (record {
      finds = is;
      is_key = sym (same_key_at turn.key q e);
      is_bar = sym (some_same bar b at) ∙ is_bar ∙ ap (λ (k : TermKey). high_at noted k) same;
      span = span;
      stands = stands;
      passed = passed;
    })
    by q b false e at = inl at

-- All turns, in sequence

-- what all of a list are, each in it is
in_all : (P : Turn → Type 0) (t : Turn) (ts : List Turn) → All P ts → In t ts → P t
in_all P t [] all at = absurd at
in_all P t (x ∷ ts) all (inl same) = subst P (sym same) (all 0 x (omega arith))
in_all P t (x ∷ ts) all (inr rest) = in_all P t ts (λ k d lt. all (suc k) d (omega (arith, lt))) rest

place_before : (a b : Turn) → turn_order a b ≡ Less → a.place ≤ b.place
place_before a b less = grind (arith, nat_tests)

-- of each key its turn is to come, or it is noted; and the bars so far are over all that they are to be over
pub record TurnsSoFar (order : BTreeMap ℕ Span) (highs : BTreeMap TermKey ℕ) (rest : List Turn) (noted : BTreeMap TermKey ℕ)
    (bars : BTreeMap TermKey (Option ℕ)) : Type 0 where
  pub waits : (key : TermKey) (v : ℕ) (span : Span) → is_level (high_at highs key) v ≡ true → get nat_cmp order key.term ≡ Some span →
      In (noting span key) rest ⊎ (is_level (high_at noted (of_all_terms key)) v ≡ true)
  pub over : AreOver order highs bars

eq_parts : (o p : Ordering) → is_eq (ordering_then o p) ≡ true → (is_eq o ≡ true) × (is_eq p ≡ true)
eq_parts Less p e = absurd (false≢true e)
eq_parts Equal p e = (refl, e)
eq_parts Greater p e = absurd (false≢true e)

bool_same : (a b : Bool) → is_eq (bool_cmp a b) ≡ true → a ≡ b
bool_same true true e = refl
bool_same true false e = absurd (false≢true e)
bool_same false true e = absurd (false≢true e)
bool_same false false e = refl

nat_same : (a b : ℕ) → is_eq (nat_cmp a b) ≡ true → a ≡ b
nat_same a b e = grind (arith, nat_tests)

same_turn : (a b : Turn) → is_at (turn_order a) b ≡ true → a ≡ b
same_turn a b e =
    let parts = eq_parts (nat_cmp a.place b.place) (ordering_then (bool_cmp a.is_noted b.is_noted) (key_order a.key b.key)) e in
    let more = eq_parts (bool_cmp a.is_noted b.is_noted) (key_order a.key b.key) parts.1 in
    let place : a.place ≡ b.place = nat_same a.place b.place parts.0 in
    let is_noted : a.is_noted ≡ b.is_noted = bool_same a.is_noted b.is_noted more.0 in
    let key : a.key ≡ b.key = same_key_at a.key b.key more.1 in
    let whole : ◌≡◌ {A = Turn} (record { place = a.place; is_noted = a.is_noted; key = a.key })
    (record { place = b.place; is_noted = b.is_noted; key = b.key }) = cc in whole

turn_among : (t : Turn) (turns : List Turn) → list_any (is_at (turn_order t)) turns ≡ true → In t turns
turn_among t [] e = absurd (false≢true e)
turn_among t (first ∷ turns) e =
    by (turn_among t turns) (or_cases (is_at (turn_order t) first) (list_any (is_at (turn_order t)) turns) e)
  where
    by : (list_any (is_at (turn_order t)) turns ≡ true → In t turns) → (is_at (turn_order t) first ≡ true) ⊎
        (list_any (is_at (turn_order t)) turns ≡ true) → (t ≡ first) ⊎ In t turns
    by later (inl here) = inl (same_turn t first here)
    by later (inr there) = inr (later there)

pub taking_begins : (order : BTreeMap ℕ Span) (highs : BTreeMap TermKey ℕ) (turns : BTreeSet Turn)
    (noted : BTreeMap TermKey ℕ) (bars : BTreeMap TermKey (Option ℕ)) → HasTurns order highs turns →
    bars.entries ≡ [] → TurnsSoFar order highs turns.keys noted bars
taking_begins order highs turns noted bars has none = record {
  waits = λ key v span level stands. inl (turn_among (noting span key) turns.keys (has.each key v span level stands));
  over = record {
    each = λ key bar at.
        let found : ◌≡◌ {A = Option (Option ℕ)} (lookup (is_at (key_order key)) []) (Some bar) =
        subst (λ (xs : List (TermKey × Option ℕ)). lookup (is_at (key_order key)) xs ≡ Some bar) none at in
        absurd (false≢true (ap is_some found));
  };
}

pub taking_more : (order : BTreeMap ℕ Span) (highs : BTreeMap TermKey ℕ) (was rest : List Turn) (turn : Turn)
    (old new : BTreeMap TermKey ℕ) (found finds : BTreeMap TermKey (Option ℕ)) → was ≡ turn ∷ rest →
    All (IsLtBy turn_order turn) rest → TurnsSoFar order highs was old found → TakesTurn order highs old new found finds turn →
    TurnsSoFar order highs rest new finds
taking_more order highs was rest turn old new found finds split after before takes = record {
  waits = λ key v span level stands. waits key v span level (comes key v span level stands);
  over = record { each = λ key bar at. over key bar (takes.bars key bar at) };
}
  where
    comes : (key : TermKey) (v : ℕ) (span : Span) → is_level (high_at highs key) v ≡ true → get nat_cmp order key.term ≡ Some span →
        In (noting span key) (turn ∷ rest) ⊎ (is_level (high_at old (of_all_terms key)) v ≡ true)
    comes key v span level stands = subst
        (λ (xs : List Turn). In (noting span key) xs ⊎ (is_level (high_at old (of_all_terms key)) v ≡ true)) split
        (before.waits key v span level stands)

    waits : (key : TermKey) (v : ℕ) (span : Span) → is_level (high_at highs key) v ≡ true →
        In (noting span key) (turn ∷ rest) ⊎ (is_level (high_at old (of_all_terms key)) v ≡ true) →
        In (noting span key) rest ⊎ (is_level (high_at new (of_all_terms key)) v ≡ true)
    waits key v span level (inl (inl same)) =
        let is_key : turn.key ≡ key = ap (λ (t : Turn). t.key) (sym same) in
        inr (subst (λ (k : TermKey). is_level (high_at new (of_all_terms k)) v ≡ true) is_key
        (takes.noted v (ap (λ (t : Turn). t.is_noted) (sym same))
        (subst (λ (k : TermKey). is_level (high_at highs k) v ≡ true) (sym is_key) level)))
    waits key v span level (inl (inr later)) = inl later
    waits key v span level (inr is) = inr (takes.kept (of_all_terms key) v is)

    -- a key that stands before a turn that finds is noted
    noted_before : (key : TermKey) (v : ℕ) (span : Span) → span.place < turn.place →
        In (noting span key) (turn ∷ rest) ⊎ (is_level (high_at old (of_all_terms key)) v ≡ true) →
        is_level (high_at old (of_all_terms key)) v ≡ true
    noted_before key v span less (inl (inl same)) =
        let place : span.place ≡ turn.place = ap (λ (t : Turn). t.place) same in absurd (omega (arith, place, less))
    noted_before key v span less (inl (inr later)) =
        let above : turn.place ≤ span.place =
        place_before turn (noting span key) (in_all (IsLtBy turn_order turn) (noting span key) rest after later) in
        absurd (omega (arith, above, less))
    noted_before key v span less (inr is) = is

    placed : (earlier : Option Span) (later : Span) → stands_after earlier (Some later) ≡ true →
        (span : Span) × (earlier ≡ Some span) × (span.place < later.bound)
    placed None later after = absurd (false≢true after)
    placed (Some span) later after = (span, refl, grind (arith, nat_tests))

    over_found : (key : TermKey) (bar : Option ℕ) → IsFound order old turn key bar → IsOver order highs key bar
    over_found key bar is = record {
      each = λ q v table k after level. by q v table k level
          (placed (get nat_cmp order q.term) is.span
          (subst (λ (o : Option Span). stands_after (get nat_cmp order q.term) o ≡ true)
          (ap (λ (x : TermKey). get nat_cmp order x.term) is.is_key ∙ is.stands) after));
    }
      where
        by : (q : TermKey) (v : ℕ) → q.table ≡ key.table → q.key ≡ key.key → is_level (high_at highs q) v ≡ true →
            ((span : Span) × (get nat_cmp order q.term ≡ Some span) × (span.place < is.span.bound)) → is_level bar v ≡ true
        by q v table k level at =
            let less : at.0.place < turn.place = omega (arith, at.2, is.passed) in
            let here = noted_before q v at.0 less (comes q v at.0 level at.1) in
            let same_table : q.table ≡ turn.key.table = table ∙ ap (λ (x : TermKey). x.table) is.is_key in
            let same_key : q.key ≡ turn.key.key = k ∙ ap (λ (x : TermKey). x.key) is.is_key in
            let same : of_all_terms q ≡ of_all_terms turn.key = cc in
            subst (λ (o : Option ℕ). is_level o v ≡ true) (sym is.is_bar)
            (subst (λ (x : TermKey). is_level (high_at old x) v ≡ true) same here)

    over : (key : TermKey) (bar : Option ℕ) → (get key_order found key ≡ Some bar) ⊎ IsFound order old turn key bar →
        IsOver order highs key bar
    over key bar (inl was_there) = before.over.each key bar was_there
    over key bar (inr is) = over_found key bar is
