-- Recoveries that were seen to miss nothing.
use Rattle.std.proofs.Common.{◌≡◌, ℕ, ◌+◌, ◌<◌, Bool, true, false, cond, not, ◌&&◌, ◌||◌, List, [], ◌∷◌}
use Rattle.std.proofs.Common.{◌++◌, length, drop, get_or}
use Rattle.std.proofs.Common.{Option, Some, None, nat_eq, refl, sym, ap, ◌∙◌, subst, arith}
use Rattle.std.specs.Option.{is_some, option_or}
use Rattle.std.specs.BTreeMap.{BTreeMap, get, is_at}
use Rattle.std.specs.Cmp.Lexicographic.{pointwise}
use Rattle.std.proofs.lemmas.Bool.{and_parts, eqb-true}
use Rattle.std.proofs.lemmas.Bool.Decides.{nat_tests}
use Rattle.rc_model.specs.Model.{ServerId, PlanRow, Message, Body, Breach, Missing, Ack, Accepted, acknowledged, plan_in, accepted}
use Rattle.rc_model.specs.Model.{is_recovered, all_agree, holds_greater, is_superseded, is_missing, first_missing, missing_of, made}
use Rattle.rc_model.specs.Model.{same_id, is_server}
use Rattle.rc_audit.specs.declared.missing.Clean.{Clean}
use Rattle.rc_audit.specs.declared.missing.CleanKey.{CleanKey}
use Rattle.rc_audit.specs.Clean.{clean_order, AreClean}
use Rattle.rc_audit.proofs.PlaceLemmas.{id_from}
use Rattle.rc_audit.proofs.SenderLemmas.{drop_step}
use Rattle.rc_model.proofs.Ids.{same_id-true}

-- what is superseded hangs on no number of an attempt
superseded_any : (sent : List Message) (m : ServerId) (rows : List PlanRow) (one other : ℕ) (ack : Ack) →
    is_superseded sent (record { attempt = one; master = m; rows = rows }) ack ≡ is_superseded sent
    (record { attempt = other; master = m; rows = rows }) ack
superseded_any [] m rows one other ack = refl
superseded_any (message ∷ sent) m rows one other ack =
    ap (λ x. (is_server m message.from && holds_greater rows ack message.body) || x)
    (superseded_any sent m rows one other ack)

missing_any : (sent : List Message) (m : ServerId) (rows : List PlanRow) (one other : ℕ) (ack : Ack) →
    is_missing sent (record { attempt = one; master = m; rows = rows }) ack ≡ is_missing sent
    (record { attempt = other; master = m; rows = rows }) ack
missing_any sent m rows one other ack =
    ap (λ x. not (is_recovered rows ack.seg ack.offset || x) || not (all_agree ack (made sent m ack.seg ack.offset)))
    (superseded_any sent m rows one other ack)

-- nothing is missing under one number of an attempt where nothing is under another
any_attempt : (sent : List Message) (m : ServerId) (rows : List PlanRow) (one other : ℕ) (acks : List Ack) →
    first_missing sent (record { attempt = one; master = m; rows = rows }) acks ≡ None →
    first_missing sent (record { attempt = other; master = m; rows = rows }) acks ≡ None
any_attempt sent m rows one other [] e = refl
any_attempt sent m rows one other (ack ∷ acks) e =
    by (is_missing sent (record { attempt = one; master = m; rows = rows }) ack)
    (is_missing sent (record { attempt = other; master = m; rows = rows }) ack)
    (missing_any sent m rows one other ack) e (any_attempt sent m rows one other acks)
  where
    by : (b c : Bool) → b ≡ c → cond b (Some (Missing one m ack.seg ack.offset))
        (first_missing sent (record { attempt = one; master = m; rows = rows }) acks) ≡ None →
        (first_missing sent (record { attempt = one; master = m; rows = rows }) acks ≡ None →
        first_missing sent (record { attempt = other; master = m; rows = rows }) acks ≡ None) →
        cond c (Some (Missing other m ack.seg ack.offset))
        (first_missing sent (record { attempt = other; master = m; rows = rows }) acks) ≡ None
    by true c same none later = cc
    by false true same none later = cc
    by false false same none later = later none

-- rows that the code finds equal are equal

row_same : (a b : PlanRow) → (nat_eq a.seg b.seg && (same_id a.holder b.holder && nat_eq a.len b.len)) ≡ true → a ≡ b
row_same a b e =
    let one = and_parts (nat_eq a.seg b.seg) (same_id a.holder b.holder && nat_eq a.len b.len) e in
    let two = and_parts (same_id a.holder b.holder) (nat_eq a.len b.len) one.1 in
    let seg : a.seg ≡ b.seg = eqb-true a.seg b.seg one.0 in
    let holder : a.holder ≡ b.holder = same_id-true two.0 in
    let len : a.len ≡ b.len = eqb-true a.len b.len two.1 in
    let whole : ◌≡◌ {A = PlanRow} (record { seg = a.seg; holder = a.holder; len = a.len })
    (record { seg = b.seg; holder = b.holder; len = b.len }) = cc in whole

pub rows_same : (xs ys : List PlanRow) →
    pointwise (λ (a b : PlanRow). nat_eq a.seg b.seg && (same_id a.holder b.holder && nat_eq a.len b.len)) xs
    ys ≡ true → xs ≡ ys
rows_same [] [] e = refl
rows_same [] (y ∷ ys) e = cc
rows_same (x ∷ xs) [] e = cc
rows_same (x ∷ xs) (y ∷ ys) e =
    let parts = and_parts (nat_eq x.seg y.seg && (same_id x.holder y.holder && nat_eq x.len y.len))
    (pointwise (λ (a b : PlanRow). nat_eq a.seg b.seg && (same_id a.holder b.holder && nat_eq a.len b.len)) xs ys)
    e in
    let first : x ≡ y = row_same x y parts.0 in let rest : xs ≡ ys = rows_same xs ys parts.1 in cc

-- one more recovery that misses nothing
pub clean_more : (old new : BTreeMap CleanKey Clean) (sent : List Message) (key : CleanKey) (m : ServerId) (clean : Clean)
    (attempt : ℕ) → key.master ≡ m →
    first_missing sent (record { attempt = attempt; master = m; rows = clean.rows.now }) (acknowledged sent m) ≡ None → AreClean old sent →
    ((q : CleanKey) → get clean_order new q ≡ cond (is_at (clean_order key) q) (Some clean) (get clean_order old q)) → AreClean new sent
clean_more old new sent key m clean attempt of none before updates =
    record { each = λ q c found a. by q c a (is_at (clean_order key) q) refl (sym (updates q) ∙ found) }
  where
    same_master : (q : CleanKey) → is_at (clean_order key) q ≡ true → m ≡ q.master
    same_master q e =
        let index : key.master.index ≡ q.master.index = grind (arith, nat_tests) in
        let generation : key.master.generation ≡ q.master.generation = grind (arith, nat_tests) in
        sym of ∙ id_from index generation

    some_same : (x y : Clean) → Some x ≡ Some y → x ≡ y
    some_same x y e = cc

    by : (q : CleanKey) (c : Clean) (a : ℕ) (at : Bool) → is_at (clean_order key) q ≡ at →
        cond at (Some clean) (get clean_order old q) ≡ Some c →
        first_missing sent (record { attempt = a; master = q.master; rows = c.rows.now }) (acknowledged sent q.master) ≡ None
    by q c a true e found =
        subst (λ x. first_missing sent (record { attempt = a; master = q.master; rows = x.rows.now })
        (acknowledged sent q.master) ≡ None) (some_same clean c found)
        (subst (λ x. first_missing sent (record { attempt = a; master = x; rows = clean.rows.now })
        (acknowledged sent x) ≡ None) (same_master q e)
        (any_attempt sent m clean.rows.now attempt a (acknowledged sent m) none))
    by q c a false e found = before.each q c found a

-- the rows are those of one that misses nothing
pub clean_told : (table : BTreeMap CleanKey Clean) (sent : List Message) (key : CleanKey) (plan : Accepted) (clean : Clean) →
    key.master ≡ plan.master → get clean_order table key ≡ Some clean → clean.rows.now ≡ plan.rows →
    AreClean table sent → first_missing sent plan (acknowledged sent plan.master) ≡ None
clean_told table sent key plan clean of found same are =
    subst (λ m. first_missing sent (record { attempt = plan.attempt; master = m; rows = plan.rows })
    (acknowledged sent m) ≡ None) of
    (subst (λ rows. first_missing sent (record { attempt = plan.attempt; master = key.master; rows = rows })
    (acknowledged sent key.master) ≡ None) same (are.each key clean found plan.attempt))

-- the plans from a message on
pub plans_from : (sent : List Message) (i : ℕ) (message : Message) → i < length sent → message ≡ get_or sent i message →
    accepted (drop i sent) ≡ plan_in message.body ++ accepted (drop (i + 1) sent)
plans_from sent i message within is = ap accepted (drop_step sent i message within is)

-- the search passes a plan that misses nothing
pub plan_kept : (sent : List Message) (body : Body) (plan : Accepted) (whole here rest : List Accepted) →
    here ≡ plan_in body ++ rest → plan ∷ [] ≡ plan_in body →
    first_missing sent plan (acknowledged sent plan.master) ≡ None → missing_of sent whole ≡ missing_of sent here →
    missing_of sent whole ≡ missing_of sent rest
plan_kept sent body plan whole here rest next is none before =
    before ∙ ap (missing_of sent) (next ∙ ap (λ plans. plans ++ rest) (sym is))
    ∙ ap (λ found. option_or found (missing_of sent rest)) none

pub none_from : (found : Option Breach) → is_some found ≡ false → found ≡ None
none_from None e = refl
none_from (Some breach) e = cc
