-- A row comes, a range is granted, a part is begun, and its end is told.
use Rattle.std.proofs.Common.{◌≡◌, ◌⊎◌, ℕ, ◌≤◌, Bool, true, false, cond, ◌||◌, List, [], ◌∷◌, ◌++◌, length, map}
use Rattle.std.proofs.Common.{take, nat_eq, nat_le, Some, None, refl, sym, ap, ◌∙◌, subst, inl, inr, arith}
use Rattle.std.specs.List.{list_any}
use Rattle.std.proofs.lemmas.Bool.{and_parts, eqb-true, eq-eqb, leb-true, or_right, or_left, or_parts}
use Rattle.std.proofs.lemmas.List.{length-map}
use Rattle.rc_model.specs.Model.{ServerId, Entry, Part, GrantedRange, Message, LogPlace, PartRow, PartState, Ownership, owns_term}
use Rattle.rc_model.specs.Model.{has_part, knows_term, awaited_row, rows_in_order, insert_row, awaits}
use Rattle.rc_model.specs.Model.{under_term, joined, joining, part_with_row, data_in, replay_in, put_data, new_part}
use Rattle.rc_model.specs.Model.{count_under, replayed_at, is_complete, answered_in, after_answer, Task, attempt_of, In}
use Rattle.rc_model.proofs.Members.{In-append, In-left, In-right}
use Rattle.rc_step_laws.specs.Words.{Begins}
use Rattle.rc_step_laws.proofs.Lists.{begins-refl}
use Rattle.rc_owner_laws.specs.Parts.{PartView, logged, under, durable_under, RangeWasGranted, WasPlanned, HasSent, rows_of_task}
use Rattle.rc_owner_laws.specs.Parts.{SomeCame, IsWaiting, HasJoined, IsPart, IsClients, IsReplayed, GoodParts}
use Rattle.rc_owner_laws.specs.PartMoves.{IsComplete}
use Rattle.rc_owner_laws.proofs.PartLists.{append-nil, under-append, under-all, under-none, count-replayed, count-take, nothing-more}
use Rattle.rc_owner_laws.proofs.Appending.{knows-part, owns-granted}
use Rattle.rc_owner_laws.proofs.States.{has_term, has_term-same, differ-same, one-term, differ-append, awaits-some, joined-part}
use Rattle.rc_owner_laws.proofs.States.{awaits-term, same-data, replay-term, IsOther, IsTaker, data-cases, some-with_row, rows-some}
use Rattle.rc_owner_laws.proofs.States.{all-came, SameState, same-answered, answered-was, was-answered, data-stays}
use Rattle.rc_model.proofs.Tests.{true_false, either}

abbrev pub with_own : Ownership → PartView → PartView
with_own own v = record v { own = own }

-- Tests of two

-- A row comes

module _ (sent : List Message) (m : ServerId) (v : PartView) (good : GoodParts sent m v) (term seg : ℕ)
    (from : ServerId) (entries : List Entry) (was : HasSent sent m from term seg entries) where
  has-now : (t : ℕ) → has_part (put_data term seg from entries v.own) t ≡ has_part v.own t
  has-now t = has_term-same t v.own.parts (data_in term seg from entries v.own.parts) (same-data term seg from entries v.own.parts)

  knows-now : (t : ℕ) → knows_term (put_data term seg from entries v.own) t ≡ knows_term v.own t
  knows-now t = search (arith, has_term-same, same-data)

  under-data : (t : ℕ) → under t (replay_in term seg from entries v.own.parts) ≡ [] →
      under t (v.own.replay ++ replay_in term seg from entries v.own.parts) ≡ under t v.own.replay
  under-data t none = under-append t v.own.replay (replay_in term seg from entries v.own.parts) ∙
      ap (λ l. under t v.own.replay ++ l) none ∙ append-nil (under t v.own.replay)

  -- a part to which nothing came
  beside : {state : PartState} {task : Task} →
      under state.part.term (replay_in term seg from entries v.own.parts) ≡ [] →
      IsWaiting sent m v task state ⊎ HasJoined sent m v task state →
      IsWaiting sent m (with_own (put_data term seg from entries v.own) v) task state ⊎
      HasJoined sent m (with_own (put_data term seg from entries v.own) v) task state
  beside {state} none (inl p) = search (arith, under-data)
  beside {state} none (inr p) = search (arith, under-data)

  other : (state : PartState) → IsOther term v.own.parts (replay_in term seg from entries v.own.parts) state →
      IsPart sent m (with_own (put_data term seg from entries v.own) v) state
  other state p =
      let q = good.parts_are state p.among in
      record {
        task = q.task;
        among = q.among;
        part_is = q.part_is;
        attempt_is = q.attempt_is;
        how = beside (none p.beside) q.how;
      }
    where
      none : (state.part.term ≡ term → ⊥) ⊎ (replay_in term seg from entries v.own.parts ≡ []) →
          under state.part.term (replay_in term seg from entries v.own.parts) ≡ []
      none (inl differs) = under-none (replay_in term seg from entries v.own.parts)
          (λ x at same. differs (sym same ∙ (replay-term term seg from entries v.own.parts x at).0))
      none (inr empty) = ap (under state.part.term) empty

  -- the part that takes the row
  taken : (state : PartState) (task : Task) (now : PartState) → awaits term seg from state ≡ true →
      now ≡ joined (part_with_row seg from entries state) →
      replay_in term seg from entries v.own.parts ≡ joining (part_with_row seg from entries state) →
      IsWaiting sent m v task state ⊎ HasJoined sent m v task state →
      IsWaiting sent m (with_own (put_data term seg from entries v.own) v) task now ⊎
      HasJoined sent m (with_own (put_data term seg from entries v.own) v) task now
  taken state task now awaited now_is replay_is (inr p) = absurd (awaits-some term seg from state awaited p.rows)
  taken state task now awaited now_is replay_is (inl p) =
      search (arith, some-with_row, awaits-term, all-came, under-append, under-all, rows-some, under-data)

  taker : {now : PartState} → IsTaker term seg from entries v.own.parts (replay_in term seg from entries v.own.parts)
      now → IsPart sent m (with_own (put_data term seg from entries v.own) v) now
  taker {now} p =
      let q = good.parts_are p.state p.among in
      let part : now.part ≡ p.state.part =
      ap (λ (one : PartState). one.part) p.now_is ∙ joined-part (part_with_row seg from entries p.state) in
      record {
        task = q.task;
        among = q.among;
        part_is = q.part_is ∙ sym part;
        attempt_is = subst (λ (one : Part). attempt_of one.term v.tasks ≡ q.task.attempt) (sym part) q.attempt_is;
        how = taken p.state q.task now p.awaited p.now_is p.replay_is q.how;
      }

  -- a client's entry has all of its part before it
  client_after : {before : List LogPlace} {entry : Entry} → IsClients v before entry → {now : PartState} →
      IsOther term v.own.parts (replay_in term seg from entries v.own.parts) now ⊎ IsTaker term seg from entries
      v.own.parts (replay_in term seg from entries v.own.parts) now →
      now.part.term ≡ entry.term → (now.rows ≡ []) × (now.size ≤ count_under entry.term (logged before))
  client_after p {now} (inl q) same = p.after now q.among same
  client_after p {now} (inr q) same =
      let part : now.part ≡ q.state.part =
      ap (λ (one : PartState). one.part) q.now_is ∙ joined-part (part_with_row seg from entries q.state) in
      absurd (awaits-some term seg from q.state q.awaited (p.after q.state q.among (ap (λ (one : Part). one.term) (sym part) ∙ same)).0)

  pub good-data : GoodParts sent m (with_own (put_data term seg from entries v.own) v)
  good-data = record {
    granted = good.granted;
    planned = good.planned;
    task_known = λ task at. has_term-same task.part.term v.own.parts (data_in term seg from entries v.own.parts)
        (same-data term seg from entries v.own.parts) ∙ good.task_known task at;
    differ = differ-same v.own.parts (data_in term seg from entries v.own.parts) (same-data term seg from entries v.own.parts) good.differ;
    parts_are = λ now at. parts now (data-cases term seg from entries v.own.parts now good.differ at);
    logged_known = λ entry at. knows-now entry.term ∙ good.logged_known entry at;
    waiting_part = λ entry at. has-now entry.term ∙
        waits entry (In-append entry v.own.replay (replay_in term seg from entries v.own.parts) at);
    replays = λ before after place e client. (let p = good.replays before after place e client in
        record {
          state = p.state;
          among = data-stays term seg from entries v.own.parts p.state p.among p.rows;
          term_is = p.term_is;
          rows = p.rows;
          first = p.first;
        });
    clients = λ before after place e client. (let p = good.clients before after place e client in
        record {
          grant = p.grant;
          among = p.among;
          term_is = p.term_is;
          holds = p.holds;
          rises = p.rises;
          after = λ now at same. client_after p (data-cases term seg from entries v.own.parts now good.differ at) same;
        });
  }
    where
      parts : (now : PartState) → IsOther term v.own.parts (replay_in term seg from entries v.own.parts) now ⊎
          IsTaker term seg from entries v.own.parts (replay_in term seg from entries v.own.parts) now →
          IsPart sent m (with_own (put_data term seg from entries v.own) v) now
      parts now (inl p) = other now p
      parts now (inr p) = taker p

      waits : (entry : Entry) → In entry v.own.replay ⊎ In entry (replay_in term seg from entries v.own.parts) →
          has_part v.own entry.term ≡ true
      waits entry (inl old) = good.waiting_part entry old
      waits entry (inr new) = (let p = replay-term term seg from entries v.own.parts entry new in
          ap (λ t. has_term t v.own.parts) p.0 ∙ p.1)

-- A range is granted

granted-test : (term : ℕ) (grants : List GrantedRange) (granted : GrantedRange) →
    list_any (λ (one : GrantedRange). nat_eq one.term term)
    (grants ++ granted ∷ []) ≡ (list_any (λ (one : GrantedRange). nat_eq one.term term) grants ||
    nat_eq granted.term term)
granted-test term [] granted = search arith
granted-test term (first ∷ grants) granted = by (nat_eq first.term term) (granted-test term grants granted)
  where
    by : (b : Bool) → list_any (λ (one : GrantedRange). nat_eq one.term term)
        (grants ++ granted ∷ []) ≡ (list_any (λ (one : GrantedRange). nat_eq one.term term) grants ||
        nat_eq granted.term term) →
        (b || list_any (λ (one : GrantedRange). nat_eq one.term term) (grants ++ granted ∷ [])) ≡
        ((b || list_any (λ (one : GrantedRange). nat_eq one.term term) grants) || nat_eq granted.term term)
    by true rec = refl
    by false rec = rec

abbrev pub owning : GrantedRange → Ownership → Ownership
owning granted own = record own { grants = own.grants ++ granted ∷ [] }

module _ (sent : List Message) (m : ServerId) (v : PartView) (good : GoodParts sent m v) (granted : GrantedRange)
    (was : RangeWasGranted sent m granted) (new : owns_term v.own granted.term ≡ false)
    (ended : (state : PartState) → In state v.own.parts → state.part.term ≡ granted.term → IsComplete v granted.term) where
  owns-now : (term : ℕ) → owns_term (owning granted v.own) term ≡ (owns_term v.own term || nat_eq granted.term term)
  owns-now term = granted-test term v.own.grants granted

  knows-more : (term : ℕ) → knows_term v.own term ≡ true → knows_term (owning granted v.own) term ≡ true
  knows-more term e = search (arith, owns-now)

  is-ended : (state : PartState) → In state v.own.parts → state.part.term ≡ granted.term →
      (state.rows ≡ []) × (state.size ≤ durable_under granted.term v)
  is-ended state at same =
      let p = ended state at same in
      let one : p.state ≡ state = one-term v.own.parts p.state state good.differ p.among at (p.term_is ∙ sym same) in
      subst (λ (it : PartState). (it.rows ≡ []) × (it.size ≤ durable_under granted.term v)) one (p.rows, p.durable)

  how-owning : (state : PartState) (task : Task) → In state v.own.parts → IsWaiting sent m v task state ⊎ HasJoined sent m v task state →
      IsWaiting sent m (with_own (owning granted v.own) v) task state ⊎ HasJoined sent m (with_own (owning granted v.own) v) task state
  how-owning state task at (inl p) = inl (record {
    rows = p.rows;
    some = p.some;
    none_logged = p.none_logged;
    none_waits = p.none_waits;
    unowned = owns-now state.part.term ∙ by (nat_eq granted.term state.part.term) refl;
  })
    where
      by : (b : Bool) → nat_eq granted.term state.part.term ≡ b → (owns_term v.own state.part.term || b) ≡ false
      by true e = absurd (p.some (is-ended state at (sym (eqb-true granted.term state.part.term e))).0)
      by false e = ap (λ b. b || false) p.unowned
  how-owning state task at (inr p) = inr (record {
    rows = p.rows;
    entries = p.entries;
    came = p.came;
    size = p.size;
    fresh = λ unowned. p.fresh (or_parts (owns_term v.own state.part.term) (nat_eq granted.term state.part.term)
        (sym (owns-now state.part.term) ∙ unowned)).0;
    owned = λ owns. by (owns_term v.own state.part.term) refl (nat_eq granted.term state.part.term) refl
        (sym (owns-now state.part.term) ∙ owns);
  })
    where
      base : List Entry
      base = map (under_term state.part.term) p.entries

      Owned : Type 0
      Owned = Begins (map (under_term state.part.term) p.entries) (under state.part.term (logged v.places))
          × (under state.part.term v.own.replay ≡ []) × (state.size ≤ durable_under state.part.term v)

      first : owns_term v.own state.part.term ≡ false → state.part.term ≡ granted.term → Owned
      first unowned same =
          let done : state.size ≤ durable_under granted.term v = (is-ended state at same).1 in
          let durable : state.size ≤ durable_under state.part.term v = subst (λ t. state.size ≤ durable_under t v) (sym same) done in
          let taken : durable_under state.part.term v ≤ count_under state.part.term (logged v.places) =
          count-take state.part.term v.durable (logged v.places) in
          let long : length base ≡ length p.entries = length-map p.entries (under_term state.part.term) in
          let size : state.size ≡ length p.entries = p.size in
          let all = nothing-more (under state.part.term v.own.replay) (p.fresh unowned) (omega arith) in
          (subst (Begins base) (sym all.1) begins-refl, all.0, durable)

      by : (b : Bool) → owns_term v.own state.part.term ≡ b → (c : Bool) → nat_eq granted.term state.part.term ≡ c →
          (owns_term v.own state.part.term || nat_eq granted.term state.part.term) ≡ true → Owned
      by true e c f owns = p.owned e
      by false e true f owns = first e (sym (eqb-true granted.term state.part.term f))
      by false e false f owns = true_false (sym owns ∙ (ap (λ b. b || nat_eq granted.term state.part.term) e ∙ f))

  pub good-owning : GoodParts sent m (with_own (owning granted v.own) v)
  good-owning = record {
    granted = λ one at. which one (In-append one v.own.grants (granted ∷ []) at);
    planned = good.planned;
    task_known = good.task_known;
    differ = good.differ;
    parts_are = λ state at. (let p = good.parts_are state at in
        record { task = p.task; among = p.among; part_is = p.part_is; attempt_is = p.attempt_is; how = how-owning state p.task at p.how });
    logged_known = λ entry at. knows-more entry.term (good.logged_known entry at);
    waiting_part = good.waiting_part;
    replays = λ before after place e client. (let p = good.replays before after place e client in
        record { state = p.state; among = p.among; term_is = p.term_is; rows = p.rows; first = p.first });
    clients = λ before after place e client. (let p = good.clients before after place e client in
        record {
          grant = p.grant;
          among = In-left p.grant v.own.grants (granted ∷ []) p.among;
          term_is = p.term_is;
          holds = p.holds;
          rises = p.rises;
          after = p.after;
        });
  }
    where
      which : (one : GrantedRange) → In one v.own.grants ⊎ ((one ≡ granted) ⊎ ⊥) → RangeWasGranted sent m one
      which one (inl old) = good.granted one old
      which one (inr (inl same)) = subst (RangeWasGranted sent m) (sym same) was
      which one (inr (inr never)) = absurd never

-- A part is begun

pub attempt-stays : (term : ℕ) (tasks : List Task) (new task : Task) → In task tasks → task.part.term ≡ term →
    attempt_of term (tasks ++ new ∷ []) ≡ attempt_of term tasks
attempt-stays term [] new task at e = absurd at
attempt-stays term (first ∷ tasks) new task at e = by (nat_eq first.part.term term) refl at (attempt-stays term tasks new task)
  where
    by : (b : Bool) → nat_eq first.part.term term ≡ b → (task ≡ first) ⊎ In task tasks →
        (In task tasks → task.part.term ≡ term → attempt_of term (tasks ++ new ∷ []) ≡ attempt_of term tasks) →
        cond b first.attempt (attempt_of term (tasks ++ new ∷ [])) ≡ cond b first.attempt (attempt_of term tasks)
    by true is found rec = refl
    by false is (inl same) rec = true_false (sym (eq-eqb first.part.term term (ap (λ (one : Task). one.part.term) (sym same) ∙ e)) ∙ is)
    by false is (inr rest) rec = rec rest e

attempt-new : {term : ℕ} (tasks : List Task) (new : Task) →
    ((task : Task) → In task tasks → task.part.term ≡ term → ⊥) → new.part.term ≡ term →
    attempt_of term (tasks ++ new ∷ []) ≡ new.attempt
attempt-new {term} [] new none e = ap (λ b. cond b new.attempt 0) (eq-eqb new.part.term term e)
attempt-new {term} (first ∷ tasks) new none e =
    either (λ n. n ≡ new.attempt) (nat_eq first.part.term term) first.attempt (attempt_of term (tasks ++ new ∷ []))
    (λ is. absurd (none first (inl refl) (eqb-true first.part.term term is)))
    (λ _. attempt-new tasks new (λ task at. none task (inr at)) e)

-- rows that nothing has come of
abbrev NoneCame : List PartRow → Type 0
NoneCame rows = (row : PartRow) → In row rows → row.came ≡ None

In-insert : (row new : PartRow) (rows : List PartRow) → In row (insert_row new rows) → (row ≡ new) ⊎ In row rows
In-insert row new [] at = at
In-insert row new (other ∷ rows) at = either (λ (l : List PartRow). In row l → (row ≡ new) ⊎ In row (other ∷ rows))
    (Rattle.std.specs.Prelude.nat_lt other.seg new.seg) (other ∷ insert_row new rows) (new ∷ other ∷ rows)
    (λ _ now. further (In-insert row new rows) now) (λ _ now. now) at
  where
    further : (In row (insert_row new rows) → (row ≡ new) ⊎ In row rows) →
        (row ≡ other) ⊎ In row (insert_row new rows) → (row ≡ new) ⊎ In row (other ∷ rows)
    further rec (inl same) = inr (inl same)
    further rec (inr rest) = search arith

none-came : (names : List (ℕ × ServerId)) → NoneCame (rows_in_order (map awaited_row names))
none-came [] row at = absurd at
none-came (name ∷ names) row at = which (none-came names row) (In-insert row (awaited_row name) (rows_in_order (map awaited_row names)) at)
  where
    which : (In row (rows_in_order (map awaited_row names)) → row.came ≡ None) →
        (row ≡ awaited_row name) ⊎ In row (rows_in_order (map awaited_row names)) → row.came ≡ None
    which rec (inl same) = ap (λ (one : PartRow). one.came) same
    which rec (inr rest) = rec rest

some-none : (sent : List Message) (m : ServerId) (term : ℕ) (rows : List PartRow) → NoneCame rows → SomeCame sent m term rows rows
some-none sent m term [] none = tt
some-none sent m term (row ∷ rows) none = (
  refl,
  refl,
  λ entries came. never entries (sym (none row (inl refl)) ∙ came),
  some-none sent m term rows (λ other at. none other (inr at)),
)
  where
    never : (entries : List Entry) → None ≡ Some entries → HasSent sent m row.holder term row.seg entries
    never entries e = cc

module _ (sent : List Message) (m : ServerId) (v : PartView) (good : GoodParts sent m v) (task : Task)
    (was : WasPlanned sent m task) (unknown : knows_term v.own task.part.term ≡ false) where
  abbrev new : PartState
  new = new_part task.part (map (λ row. (row.seg, row.holder)) task.rows)

  abbrev pub begun : PartView
  begun = record v {
    own = record v.own
        { parts = v.own.parts ++ new_part task.part (map (λ row. (row.seg, row.holder)) task.rows) ∷ [] };
    tasks = v.tasks ++ task ∷ [];
  }

  tests : (has_part v.own task.part.term ≡ false) × (owns_term v.own task.part.term ≡ false)
  tests = or_parts (has_part v.own task.part.term) (owns_term v.own task.part.term) unknown

  no-task : (other : Task) → In other v.tasks → other.part.term ≡ task.part.term → ⊥
  no-task other at e = true_false (sym (good.task_known other at) ∙ (ap (has_part v.own) e ∙ tests.0))

  no-entry : (entries : List Entry) → ((entry : Entry) → In entry entries → knows_term v.own entry.term ≡ true) →
      under task.part.term entries ≡ []
  no-entry entries known = under-none entries (λ x at e. true_false (sym (known x at) ∙ (ap (knows_term v.own) e ∙ unknown)))

  has-more : (term : ℕ) (states : List PartState) → has_term term states ≡ true →
      has_term term (states ++ new_part task.part (map (λ row. (row.seg, row.holder)) task.rows) ∷ []) ≡ true
  has-more term [] e = true_false (sym e)
  has-more term (state ∷ states) e = by (nat_eq state.part.term term) e (has-more term states)
    where
      by : (b : Bool) → (b || has_term term states) ≡ true → (has_term term states ≡ true →
          has_term term (states ++ new_part task.part (map (λ row. (row.seg, row.holder)) task.rows) ∷ []) ≡ true) →
          (b || has_term term (states ++ new_part task.part (map (λ row. (row.seg, row.holder)) task.rows) ∷ [])) ≡ true
      by true p rec = refl
      by false p rec = rec p

  has-new : (states : List PartState) →
      has_term task.part.term (states ++ new_part task.part (map (λ row. (row.seg, row.holder)) task.rows) ∷ []) ≡ true
  has-new [] = or_left (nat_eq task.part.term task.part.term) false (eq-eqb task.part.term task.part.term refl)
  has-new (state ∷ states) = or_right (nat_eq state.part.term task.part.term)
      (has_term task.part.term (states ++ new_part task.part (map (λ row. (row.seg, row.holder)) task.rows) ∷ []))
      (has-new states)

  knows-begun : (term : ℕ) → knows_term v.own term ≡ true → knows_term begun.own term ≡ true
  knows-begun term e = search (arith, or_left, has-more, or_right)

  how-begun : {state : PartState} {one : Task} → IsWaiting sent m v one state ⊎ HasJoined sent m v one state →
      IsWaiting sent m begun one state ⊎ HasJoined sent m begun one state
  how-begun (inl p) = search arith
  how-begun (inr p) = search arith

  how-new : (rows : List PartRow) → rows_of_task task ≡ rows → IsWaiting sent m begun task new ⊎ HasJoined sent m begun task new
  how-new [] e = search (arith, no-entry, knows-part, tests)
  how-new (row ∷ rows) e = inl (record {
    rows = some-none sent m task.part.term (rows_of_task task) (none-came (map (λ row. (row.seg, row.holder)) task.rows));
    some = λ none. never (sym e ∙ none);
    none_logged = no-entry (logged v.places) good.logged_known;
    none_waits = no-entry v.own.replay (λ entry at. knows-part v.own entry.term (good.waiting_part entry at));
    unowned = tests.1;
  })
    where
      never : row ∷ rows ≡ [] → ⊥
      never x = cc

  pub good-begun : GoodParts sent m begun
  good-begun = record {
    granted = good.granted;
    planned = λ one at. planned one (In-append one v.tasks (task ∷ []) at);
    task_known = λ one at. known one (In-append one v.tasks (task ∷ []) at);
    differ = differ-append v.own.parts new good.differ tests.0;
    parts_are = λ state at. part state (In-append state v.own.parts (new ∷ []) at);
    logged_known = λ entry at. knows-begun entry.term (good.logged_known entry at);
    waiting_part = λ entry at. has-more entry.term v.own.parts (good.waiting_part entry at);
    replays = λ before after place e client. (let p = good.replays before after place e client in
        record { state = p.state; among = In-left p.state v.own.parts _ p.among; term_is = p.term_is; rows = p.rows; first = p.first });
    clients = λ before after place e client. (let p = good.clients before after place e client in
        record {
          grant = p.grant;
          among = p.among;
          term_is = p.term_is;
          holds = p.holds;
          rises = p.rises;
          after = λ state at same. of_client before place.entry p state (In-append state v.own.parts (new ∷ []) at) same;
        });
  }
    where
      planned : (one : Task) → In one v.tasks ⊎ ((one ≡ task) ⊎ ⊥) → WasPlanned sent m one
      planned one (inl old) = good.planned one old
      planned one (inr (inl same)) = subst (WasPlanned sent m) (sym same) was
      planned one (inr (inr never)) = absurd never

      known : (one : Task) → In one v.tasks ⊎ ((one ≡ task) ⊎ ⊥) → has_part begun.own one.part.term ≡ true
      known one (inl old) = has-more one.part.term v.own.parts (good.task_known one old)
      known one (inr (inl same)) = subst (λ (it : Task). has_part begun.own it.part.term ≡ true) (sym same) (has-new v.own.parts)
      known one (inr (inr never)) = absurd never

      part : (state : PartState) → In state v.own.parts ⊎ ((state ≡ new) ⊎ ⊥) → IsPart sent m begun state
      part state (inl old) = (let p = good.parts_are state old in
          record {
            task = p.task;
            among = In-left p.task v.tasks (task ∷ []) p.among;
            part_is = p.part_is;
            attempt_is = attempt-stays state.part.term v.tasks task p.task p.among (ap (λ (one : Part). one.term) p.part_is) ∙ p.attempt_is;
            how = how-begun p.how;
          })
      part state (inr (inl same)) = subst (IsPart sent m begun) (sym same) (record {
        task = task;
        among = In-right task v.tasks (task ∷ []) (inl refl);
        part_is = refl;
        attempt_is = attempt-new v.tasks task no-task refl;
        how = how-new (rows_of_task task) refl;
      })
      part state (inr (inr never)) = absurd never

      of_client : (before : List LogPlace) (entry : Entry) → IsClients v before entry → (state : PartState) →
          In state v.own.parts ⊎ ((state ≡ new) ⊎ ⊥) → state.part.term ≡ entry.term →
          (state.rows ≡ []) × (state.size ≤ count_under entry.term (logged before))
      of_client before entry p state (inl old) same = p.after state old same
      of_client before entry p state (inr (inl is)) same =
          let owned : owns_term v.own entry.term ≡ true = owns-granted v.own p.grant entry.term p.among p.term_is in
          let term : task.part.term ≡ entry.term = ap (λ (one : PartState). one.part.term) (sym is) ∙ same in
          true_false (sym owned ∙ (ap (owns_term v.own) (sym term) ∙ tests.1))
      of_client before entry p state (inr (inr never)) same = absurd never

-- The end of a part is told

pub good-answered : {sent : List Message} {m : ServerId} {v : PartView} (durable : List Entry) → GoodParts sent m v →
    GoodParts sent m (with_own (after_answer durable v.own) v)
good-answered {sent} {m} {v} durable good = record {
  granted = good.granted;
  planned = good.planned;
  task_known = λ task at. has_term-same task.part.term v.own.parts (answered_in durable v.own.parts)
      (same-answered durable v.own.parts) ∙ good.task_known task at;
  differ = differ-same v.own.parts (answered_in durable v.own.parts) (same-answered durable v.own.parts) good.differ;
  parts_are = λ now at. part now (answered-was durable v.own.parts now at);
  logged_known = λ entry at. knows entry.term ∙ good.logged_known entry at;
  waiting_part = λ entry at. has_term-same entry.term v.own.parts (answered_in durable v.own.parts)
      (same-answered durable v.own.parts) ∙ good.waiting_part entry at;
  replays = λ before after place e client. of_replay before place.entry (good.replays before after place e client);
  clients = λ before after place e client. (let p = good.clients before after place e client in
      record {
        grant = p.grant;
        among = p.among;
        term_is = p.term_is;
        holds = p.holds;
        rises = p.rises;
        after = λ now at same. of_client before place.entry p now (answered-was durable v.own.parts now at) same;
      });
}
  where
    knows : (t : ℕ) → knows_term (after_answer durable v.own) t ≡ knows_term v.own t
    knows t = ap (λ b. b || owns_term v.own t) (has_term-same t v.own.parts (answered_in durable v.own.parts)
        (same-answered durable v.own.parts))

    How : Task → PartState → Type 0
    How task state = IsWaiting sent m (with_own (after_answer durable v.own) v) task state ⊎
        HasJoined sent m (with_own (after_answer durable v.own) v) task state

    how : (task : Task) (state : PartState) → IsWaiting sent m v task state ⊎ HasJoined sent m v task state → How task state
    how task state (inl p) = search arith
    how task state (inr p) = inr
        (record { rows = p.rows; entries = p.entries; came = p.came; size = p.size; fresh = p.fresh; owned = p.owned })

    -- by the part, the rows and the size alone
    like : (task : Task) (old now : PartState) → SameState old now → How task old → How task now
    like task old now same p = search arith

    part : (now : PartState) → (old : PartState) × (In old v.own.parts) × SameState old now →
        IsPart sent m (with_own (after_answer durable v.own) v) now
    part now (old, at, same) =
        let p = good.parts_are old at in
        record {
          task = p.task;
          among = p.among;
          part_is = p.part_is ∙ sym same.part;
          attempt_is = subst (λ (one : Part). attempt_of one.term v.tasks ≡ p.task.attempt) (sym same.part) p.attempt_is;
          how = like p.task old now same (how p.task old p.how);
        }

    of_client : (before : List LogPlace) (entry : Entry) → IsClients v before entry → (now : PartState) →
        (old : PartState) × (In old v.own.parts) × SameState old now → now.part.term ≡ entry.term →
        (now.rows ≡ []) × (now.size ≤ count_under entry.term (logged before))
    of_client before entry p now (old, at, same) is =
        let q = p.after old at (ap (λ (one : Part). one.term) (sym same.part) ∙ is) in
        (same.rows ∙ q.0, subst (λ n. n ≤ count_under entry.term (logged before)) (sym same.size) q.1)

    of_replay : (before : List LogPlace) (entry : Entry) → IsReplayed v before entry →
        IsReplayed (with_own (after_answer durable v.own) v) before entry
    of_replay before entry p = by (was-answered durable v.own.parts p.state p.among)
      where
        by : (now : PartState) × (In now (answered_in durable v.own.parts)) × SameState p.state now →
            IsReplayed (with_own (after_answer durable v.own) v) before entry
        by (now, at, same) = search arith

-- what the test of a complete part says
pub complete-is : (v : PartView) (state : PartState) → In state v.own.parts →
    is_complete (replayed_at (take v.durable v.places)) state ≡ true → IsComplete v state.part.term
complete-is v state at e =
    let own = count_under state.part.term (replayed_at (take v.durable v.places)) in
    let both = and_parts (nat_eq (length state.rows) 0) (nat_le state.size own) e in
    let less : state.size ≤ own = leb-true state.size own both.1 in
    let all : own ≤ durable_under state.part.term v = count-replayed state.part.term v.durable v.places in
    record {
      state = state;
      among = at;
      term_is = refl;
      rows = empty state.rows (eqb-true (length state.rows) 0 both.0);
      durable = omega arith;
    }
  where
    empty : (rows : List PartRow) → length rows ≡ 0 → rows ≡ []
    empty [] none = refl
    empty (row ∷ rows) none = absurd (omega (arith, none))
