-- Data, and the base of a grant, by what was sent.
use Rattle.std.proofs.Common.{◌≡◌, ℕ, zero, suc, ◌<◌, Bool, true, false, cond, List, [], ◌∷◌, ◌++◌, map, filter}
use Rattle.std.proofs.Common.{take, slice_get, Some, refl, sym, ap, ◌∙◌, subst, inl, inr, arith}
use Rattle.rc_model.specs.Model.{ServerId, Addr, Server, Outside, Entry, Part, PlanRow, Grant, Message, Body, between, made, one_of}
use Rattle.rc_model.specs.Model.{made_below, recovered_entries, is_carried, base, is_in_part, places_of, under_term, Master, Task}
use Rattle.rc_model.specs.Model.{HostNode, Accepted, In, HasMade, WasAccepted}
use Rattle.rc_types.specs.declared.ids.Addr.TheVariants.{Coordinator as AtCoordinator}
use Rattle.rc_types.specs.declared.messages.Body.TheVariants as body
use Rattle.rc_model.specs.Coordinator.{Coordinator}
use Rattle.rc_model.proofs.Said.{HasMade-from, HasMade-in}
use Rattle.rc_step_laws.specs.All.{Begins, log_in, Good}
use Rattle.rc_step_laws.proofs.Attempting.{numbered-same}
use Rattle.rc_step_laws.proofs.Clauses.{made-is, accepted-is, held-made}
use Rattle.rc_owner_laws.specs.Terms.{IsGivenBy}
use Rattle.rc_owner_laws.specs.Data.{IsCut, data_fine, data_between}
use Rattle.rc_owner_laws.specs.Parts.{part_view, logged, under, AllCame, WasPlanned}
use Rattle.rc_owner_laws.specs.PartMoves.{HasFetched}
use Rattle.rc_owner_laws.specs.Worlds.{AllHold}
use Rattle.rc_owner_laws.specs.Words.{IsPlanCut, StartsFromBase}
use Rattle.rc_owner_laws.proofs.Rows.{waited, in-order}
use Rattle.rc_owner_laws.proofs.Bases.{cut_of, task-of, task-ascends, row-cut, IsStarted, started, joined-begins, base-safe}
use Rattle.rc_owner_laws.proofs.Rising.{granted_of, term-started}

-- Lists

take-more : {X : Type 0} (n : ℕ) (xs : List X) {x : X} → slice_get xs n ≡ Some x → take (suc n) xs ≡ take n xs ++ x ∷ []
take-more n [] e = cc
take-more zero (y ∷ xs) {x} e = (let same : y ≡ x = cc in ap (λ z. z ∷ []) same)
take-more (suc n) (y ∷ xs) e = ap (λ l. y ∷ l) (take-more n xs e)

filter-append : {X : Type 0} (test : X → Bool) (xs ys : List X) → filter test (xs ++ ys) ≡ filter test xs ++ filter test ys
filter-append test [] ys = refl
filter-append test (x ∷ xs) ys = filter-step test x xs ys (test x) (filter-append test xs ys)
  where
    filter-step : {X : Type 0} (test : X → Bool) (x : X) (xs ys : List X) (b : Bool) →
        filter test (xs ++ ys) ≡ filter test xs ++ filter test ys →
        cond b (x ∷ filter test (xs ++ ys)) (filter test (xs ++ ys)) ≡ cond b (x ∷ filter test xs) (filter test xs) ++ filter test ys
    filter-step test x xs ys true rec = ap (λ l. x ∷ l) rec
    filter-step test x xs ys false rec = rec

filter-same : {X : Type 0} {f g : X → Bool} (xs : List X) → ((x : X) → f x ≡ g x) → filter f xs ≡ filter g xs
filter-same [] same = refl
filter-same {f} {g} (x ∷ xs) same =
    ap (λ b. cond b (x ∷ filter f xs) (filter f xs)) (same x) ∙ ap (λ l. cond (g x) (x ∷ l) l) (filter-same xs same)

-- Plans

-- accepted recoveries of one attempt are one
pub one-plan : {sent : List Message} {masters : ServerId → Master} {hosts : ℕ → HostNode} {c : Coordinator} →
    Good sent masters hosts c → {one other : Accepted} → WasAccepted sent one → WasAccepted sent other →
    one.attempt ≡ other.attempt → one ≡ other
one-plan {sent} {masters} {hosts} {c} good {one} {other} was is same = search (arith, numbered-same)

-- What was made

module _ (sent : List Message) (masters : ServerId → Master) (hosts : ℕ → HostNode) (c : Coordinator)
    (good : Good sent masters hosts c) where
  -- one entry was made for a place
  pub one-made : {m : ServerId} {s o : ℕ} {entry : Entry} → slice_get (log_in (masters m).log s) o ≡ Some entry →
      HasMade sent m s o entry → one_of (made sent m s o) ≡ entry ∷ []
  one-made {m} {s} {o} {entry} stands was = by (made sent m s o) refl (HasMade-in sent m s o entry was)
    where
      by : (entries : List Entry) → made sent m s o ≡ entries → In entry entries → one_of entries ≡ entry ∷ []
      by [] e at = absurd at
      by (first ∷ rest) e at =
          let there : slice_get (log_in (masters m).log s) o ≡ Some first = made-is good
          (HasMade-from sent m s o first (subst (In first) (sym e) (inl refl))) in
          let same : first ≡ entry = cc in
          ap (λ one. one ∷ []) same

  made-below : {m : ServerId} {s : ℕ} (len : ℕ) →
      ((o : ℕ) → o < len → (entry : Entry) × (slice_get (log_in (masters m).log s) o ≡ Some entry) ×
      HasMade sent m s o entry) →
      made_below sent m s len ≡ take len (log_in (masters m).log s)
  made-below zero each = refl
  made-below {m} {s} (suc len) each =
      let last = each len (omega arith) in
      ap (λ l. l ++ one_of (made sent m s len)) (made-below len (λ o less. each o (omega arith)))
      ∙ ap (λ l. take len (log_in (masters m).log s) ++ l) (one-made last.1 last.2)
      ∙ sym (take-more len (log_in (masters m).log s) last.1)

module _ (sent : List Message) (masters : ServerId → Master) (hosts : ℕ → HostNode) (c : Coordinator)
    (all : AllHold sent masters hosts c) where
  -- what a row of a task holds was made
  pub row-made : (x : ServerId) (task : Task) (row : PlanRow) → In task (masters x).tasks → In row task.rows →
      made_below sent task.master row.seg row.len ≡ take row.len (log_in (masters task.master).log row.seg)
  row-made x task row at there = made-below sent masters hosts c all.good row.len (λ o less. held-made hosts
      (accepted-is all.good
      (task-of sent masters hosts c all x task at).accepted) (record { row = row; among = there; seg = refl; below = less }))

  cut-made : (x : ServerId) (task : Task) (row : PlanRow) → In task (masters x).tasks → In row task.rows →
      cut_of masters task row ≡ filter (is_in_part task.part) (made_below sent task.master row.seg row.len)
  cut-made x task row at there = ap (filter (is_in_part task.part)) (sym (row-made x task row at there))

  -- Data

  cut-is : {y x : ServerId} {attempt seg term : ℕ} {entries : List Entry} → IsCut sent masters y x attempt seg term entries →
      IsPlanCut sent (between y x (body.Data attempt seg term entries)) attempt seg term entries
  cut-is {y} {x} {attempt} {seg} {term} cut = record {
    plan = plan.message;
    among = plan.among;
    to = plan.to;
    master = asked.task.master;
    head = plan.head;
    rows = asked.task.rows;
    parts = plan.parts;
    says = subst (λ n. plan.message.body ≡ body.Plan plan.head n asked.task.master asked.task.rows plan.parts) asked.attempt_is plan.says;
    part = asked.task.part;
    part_among = plan.part;
    term_is = ap (λ (part : Part). part.term) asked.part_is ∙ cut.term_is;
    row = asked.row;
    row_among = asked.row_among;
    seg_is = asked.seg_is;
    from = asked.to_is;
    entries_are = cut.entries_are
        ∙ ap (λ part. filter (is_in_part part) (take cut.len (log_in (masters cut.master).log seg))) (sym asked.part_is)
        ∙ ap (λ m. filter (is_in_part asked.task.part) (take cut.len (log_in (masters m).log seg))) (sym asked.master_is)
        ∙ ap (λ n. filter (is_in_part asked.task.part) (take n (log_in (masters asked.task.master).log seg))) (sym asked.len_is)
        ∙ ap (λ s. filter (is_in_part asked.task.part) (take asked.row.len (log_in (masters asked.task.master).log s))) (sym asked.seg_is)
        ∙ cut-made x asked.task asked.row asked.among asked.row_among
        ∙ ap (λ s. filter (is_in_part asked.task.part) (made_below sent asked.task.master s asked.row.len)) asked.seg_is;
  }
    where
      asked : HasFetched (part_view (masters x)) (Server y) attempt cut.master seg cut.len cut.part
      asked = all.parts.said (between x y (body.Fetch attempt cut.master seg cut.len cut.part)) cut.asked

      plan : WasPlanned sent x asked.task
      plan = (all.parts.each x).planned asked.task asked.among

  pub data-is-cut : (message : Message) → In message sent → (attempt seg term : ℕ) (entries : List Entry) →
      message.body ≡ body.Data attempt seg term entries → IsPlanCut sent message attempt seg term entries
  data-is-cut message at attempt seg term entries e =
      subst (λ (says : Body). IsPlanCut sent (record { from = message.from; to = message.to; body = says }) attempt seg
      term entries) (sym e)
      (by message.from message.to (subst (data_fine sent masters message.from message.to) e (all.cuts message at)))
    where
      by : (from to : Addr) → data_between sent masters from to attempt seg term entries →
          IsPlanCut sent (record { from = from; to = to; body = body.Data attempt seg term entries }) attempt seg term
          entries
      by (Server y) (Server x) cut = cut-is cut
      by (Server y) AtCoordinator cut = absurd cut
      by (Server y) Outside cut = absurd cut
      by AtCoordinator to cut = absurd cut
      by Outside to cut = absurd cut

  -- The base

  -- all that came for a task's rows is its master's log, cut to the part
  pub all-cut : (x : ServerId) (task : Task) → In task (masters x).tasks → (rows : List PlanRow) →
      ((row : PlanRow) → In row rows → In row task.rows) → (entries : List Entry) →
      AllCame sent x task.part.term (waited rows) entries →
      entries ≡ filter (is_in_part task.part) (recovered_entries sent task.master rows)
  all-cut x task at [] among entries came = came
  all-cut x task at (row ∷ rows) among entries came = came.4
      ∙ ap (λ l. l ++ came.1) ((row-cut sent masters hosts c all x task row came.0 at (among row (inl refl)) came.2).0 ∙
      cut-made x task row at (among row (inl refl)))
      ∙ ap (λ l. filter (is_in_part task.part) (made_below sent task.master row.seg row.len) ++ l)
      (all-cut x task at rows (λ other there. among other (inr there)) came.1 came.3)
      ∙ sym (filter-append (is_in_part task.part) (made_below sent task.master row.seg row.len) (recovered_entries sent task.master rows))

  -- the tests of a grant and of its part are one
  carried : (grant : Grant) (part : Part) → grant.range ≡ part.range → grant.previous ≡ part.previous →
      (entry : Entry) → is_in_part part entry ≡ is_carried (granted_of grant) entry
  carried grant part range before entry = search arith

  -- the recovery in which a grant was given
  abbrev pub plan-of : (grant : Grant) → IsGivenBy sent c grant → Accepted
  plan-of grant given = record {
    attempt = (started sent masters hosts c all grant given).task.attempt;
    master = (started sent masters hosts c all grant given).task.master;
    rows = (started sent masters hosts c all grant given).task.rows;
  }

  -- what joined of a grant's part is its base
  pub base-is : {grant : Grant} (given : IsGivenBy sent c grant) →
      map (under_term (started sent masters hosts c all grant given).state.part.term)
      (started sent masters hosts c all grant given).joined.entries
      ≡ base sent (plan-of grant given) (granted_of grant)
  base-is {grant} given = ap (λ t. map (under_term t) s.joined.entries) same_term
      ∙ ap (map (under_term grant.term)) (all-cut grant.owner s.task s.task_among s.task.rows (λ row there. there) s.joined.entries came)
      ∙ ap (map (under_term grant.term)) (filter-same (recovered_entries sent s.task.master s.task.rows)
      (carried grant s.task.part (given.range_is ∙ ap (λ (part : Part). part.range) (sym s.given_is))
      (given.previous_is ∙ ap (λ (part : Part). part.previous) (sym s.given_is))))
    where
      s : IsStarted sent masters hosts c all grant given
      s = started sent masters hosts c all grant given

      T : ℕ
      T = s.state.part.term

      same_term : s.state.part.term ≡ grant.term
      same_term = term-started sent masters hosts c all grant given

      came : AllCame sent grant.owner s.task.part.term (waited s.task.rows) s.joined.entries
      came = subst (λ t. AllCame sent grant.owner t (waited s.task.rows) s.joined.entries) (ap (λ (part : Part). part.term) (sym s.part_is))
          (subst (λ rows. AllCame sent grant.owner T rows s.joined.entries)
          (in-order s.task.rows (task-ascends sent masters hosts c all grant.owner s.task s.task_among))
          s.joined.came)

  pub starts-from-base : {grant : Grant} (given : IsGivenBy sent c grant) →
      StartsFromBase sent grant.owner (masters grant.owner).log (granted_of grant)
  starts-from-base {grant} given = record {
    plan = record { attempt = s.task.attempt; master = s.task.master; rows = s.task.rows };
    accepted = (task-of sent masters hosts c all grant.owner s.task s.task_among).accepted;
    attempt_is = s.attempt_is;
    only = λ other accepted same. one-plan all.good accepted
        (task-of sent masters hosts c all grant.owner s.task s.task_among).accepted (same ∙ sym s.attempt_is);
    begins = subst (λ entries. Begins entries (under grant.term
        (take (masters grant.owner).log.durable (logged (places_of (masters grant.owner).log))))) (base-is given)
        (subst (λ t. Begins (map (under_term T) s.joined.entries)
        (under t (take (masters grant.owner).log.durable (logged (places_of (masters grant.owner).log))))) same_term
        (joined-begins sent masters hosts c all grant.owner s.task s.state s.joined s.durable));
    safe = λ entry at. base-safe sent masters hosts c all grant.owner s.task s.state s.joined s.durable entry
        (subst (In entry) (sym (base-is given)) at);
  }
    where
      s : IsStarted sent masters hosts c all grant given
      s = started sent masters hosts c all grant given

      T : ℕ
      T = s.state.part.term

      same_term : s.state.part.term ≡ grant.term
      same_term = term-started sent masters hosts c all grant given
