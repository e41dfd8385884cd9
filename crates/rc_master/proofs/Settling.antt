-- The rules, repeated until none applies, are the definitions' repetition.
use Rattle.std.proofs.Common.{◌≡◌, ◌≢◌, ℕ, zero, suc, ◌+◌, ◌-◌, ◌<◌, ◌≤◌, true, false, List, [], ◌++◌}
use Rattle.std.proofs.Common.{drop, get_or, Option, Some, None}
use Rattle.std.proofs.Common.{refl, sym, ap, ◌∙◌, subst, arith, append_assoc}
use Rattle.std.proofs.lemmas.List.{append-nil, drop_more}
use Rattle.std.specs.Option.{option_or}
use Rattle.rc_model.specs.Model.{Message, Log, with_segment, old_head_of, shuts, Master, follows_change, follows_stored, follows_data}
use Rattle.rc_model.specs.Model.{follows_replay, follow_up, marks_shut, further, followed, measure, enough}
use Rattle.rc_model.proofs.Tests.{either, true_false}
use Rattle.rc_model.proofs.Measures.{AllLower, lowers, measure-marks_shut, measure-enough}
use Rattle.rc_master.specs.declared.following.TheConstants.{RULES}
use Rattle.rc_master.specs.declared.following.Rule.{Rule}
use Rattle.rc_master.specs.declared.following.Rule.TheVariants as rule
use Rattle.rc_master.specs.Rules.{did, or_still, does, first_of, settled, follows_rest}

-- Many times

factor-marked : (master : Master) → (marks_shut master).log.factor ≡ master.log.factor
factor-marked master =
    either (λ (log : Log). log.factor ≡ master.log.factor) (shuts master.log)
    (with_segment (master.log.head - 1) (record (old_head_of master.log) { shut = true }) master.log) master.log
    (λ _. refl) (λ _. refl)

-- what a rule did after the marks
pub record LowersMarked (old new : Master) : Type 0 where
  pub lower : measure new < measure old
  pub factor : new.log.factor ≡ old.log.factor

abbrev pub AllLowerMarked : Master → Option (Master × List Message) → Type 0
AllLowerMarked old None = Unit {0}
AllLowerMarked old (Some done) = LowersMarked old done.0

lower-marked : (master : Master) (done : Option (Master × List Message)) → AllLower (marks_shut master) done → AllLowerMarked master done
lower-marked master None less = tt
lower-marked master (Some done) less =
    let same : measure (marks_shut master) ≡ measure master = measure-marks_shut master in
    record { lower = omega (arith, less.lower); factor = less.factor ∙ factor-marked master }

pub lowers-marked : (master : Master) → master.log.factor ≢ 0 → AllLowerMarked master (follow_up (marks_shut master))
lowers-marked master factor =
    lower-marked master (follow_up (marks_shut master)) (lowers (marks_shut master) (λ e. factor (sym (factor-marked master) ∙ e)))

none-left : (master : Master) (done : Option (Master × List Message)) → AllLowerMarked master done → measure master ≤ 0 → done ≡ None
none-left master None less most = refl
none-left master (Some done) less most = absurd (omega (arith, less.lower))

-- any number of times that suffices gives the same
pub same-enough : (n k : ℕ) (master : Master) → master.log.factor ≢ 0 → measure master ≤ n → measure master ≤ k →
    followed n master ≡ followed k master
same-enough zero zero master factor a b = refl
same-enough zero (suc k) master factor a b =
    sym (ap (λ (done : Option (Master × List Message)). further done (marks_shut master) (λ next. followed k next))
    (none-left master (follow_up (marks_shut master)) (lowers-marked master factor) a))
same-enough (suc n) zero master factor a b =
    ap (λ (done : Option (Master × List Message)). further done (marks_shut master) (λ next. followed n next))
    (none-left master (follow_up (marks_shut master)) (lowers-marked master factor) b)
same-enough (suc n) (suc k) master factor a b =
    by (follow_up (marks_shut master)) (lowers-marked master factor) (same-enough n k)
  where
    by : (done : Option (Master × List Message)) → AllLowerMarked master done →
        ((next : Master) → next.log.factor ≢ 0 → measure next ≤ n → measure next ≤ k → followed n next ≡ followed k next) →
        further done (marks_shut master) (λ next. followed n next) ≡ further done (marks_shut master) (λ next. followed k next)
    by None less rec = refl
    by (Some done) less rec =
        ap (λ (after : Master × List Message). (after.0, done.1 ++ after.1))
        (rec done.0 (λ z. factor (sym less.factor ∙ z)) (omega (arith, less.lower)) (omega (arith, less.lower)))

once-more : (master : Master) → master.log.factor ≢ 0 →
    settled master ≡ further (follow_up (marks_shut master)) (marks_shut master) (λ next. followed (measure master) next)
once-more master factor =
    same-enough (enough master) (suc (measure master)) master factor (measure-enough master) (omega arith)

-- where the code is: what is still to be done from here leads where all of it leads from the start
pub record IsOnTheWay (start now : Master) (before sent : List Message) : Type 0 where
  pub state : (settled start).0 ≡ (settled now).0
  pub sends : before ++ (settled start).1 ≡ sent ++ (settled now).1
  pub factor : now.log.factor ≢ 0

pub way-start : (start : Master) (before : List Message) → start.log.factor ≢ 0 → IsOnTheWay start start before before
way-start start before factor = record { state = refl; sends = refl; factor = factor }

-- one rule further
pub way-on : (start now : Master) (before sent : List Message) (done : Master × List Message) → IsOnTheWay start now before sent →
    follow_up (marks_shut now) ≡ Some done → IsOnTheWay start done.0 before (sent ++ done.1) × (measure done.0 < measure now)
way-on start now before sent done way e =
    let less : LowersMarked now done.0 = subst (AllLowerMarked now) e (lowers-marked now way.factor) in
    let apart : done.0.log.factor ≢ 0 = λ z. way.factor (sym less.factor ∙ z) in
    let step : settled now ≡ ((followed (measure now) done.0).0, done.1 ++ (followed (measure now) done.0).1) =
    once-more now way.factor ∙
    ap (λ (d : Option (Master × List Message)). further d (marks_shut now) (λ next. followed (measure now) next))
    e in
    let rest : followed (measure now) done.0 ≡ settled done.0 =
    same-enough (measure now) (enough done.0) done.0 apart (omega (arith, less.lower)) (measure-enough done.0) in
    let whole : settled now ≡ ((settled done.0).0, done.1 ++ (settled done.0).1) =
    step ∙ ap (λ (after : Master × List Message). (after.0, done.1 ++ after.1)) rest in (
      record {
        state = way.state ∙ ap (λ (after : Master × List Message). after.0) whole;
        sends = way.sends ∙ (ap (λ (after : Master × List Message). sent ++ after.1) whole ∙
            sym (append_assoc sent done.1 (settled done.0).1));
        factor = apart;
      },
      less.lower,
    )

-- at the end
pub way-end : (start now : Master) (before sent : List Message) → IsOnTheWay start now before sent → follow_up (marks_shut now) ≡ None →
    ((settled start).0 ≡ marks_shut now) × (before ++ (settled start).1 ≡ sent)
way-end start now before sent way e =
    let whole : settled now ≡ (marks_shut now, []) =
    once-more now way.factor ∙
    ap (λ (d : Option (Master × List Message)). further d (marks_shut now) (λ next. followed (measure now) next))
    e in (
      way.state ∙ ap (λ (after : Master × List Message). after.0) whole,
      way.sends ∙ (ap (λ (after : Master × List Message). sent ++ after.1) whole ∙ append-nil sent),
    )

-- Rounds, as the code says what they did

did-some : (done : Option (Master × List Message)) → did done ≡ true → (what : Master × List Message) × (done ≡ Some what)
did-some None e = true_false (sym e)
did-some (Some done) e = (done, refl)

did-none : (done : Option (Master × List Message)) → did done ≡ false → done ≡ None
did-none None e = refl
did-none (Some done) e = true_false e

pub round-on : (start now next : Master) (before sent more : List Message) → IsOnTheWay start now before sent →
    true ≡ did (follow_up (marks_shut now)) →
    next ≡ (or_still (marks_shut now) (follow_up (marks_shut now))).0 →
    more ≡ sent ++ (or_still (marks_shut now) (follow_up (marks_shut now))).1 →
    IsOnTheWay start next before more × (measure next < measure now)
round-on start now next before sent more way applied state sends =
    let some = did-some (follow_up (marks_shut now)) (sym applied) in
    let done : Master × List Message = some.0 in
    let on : IsOnTheWay start done.0 before (sent ++ done.1) × (measure done.0 < measure now) =
    way-on start now before sent done way some.1 in
    let to : next ≡ done.0 = state ∙ ap (λ (d : Option (Master × List Message)). (or_still (marks_shut now) d).0) some.1 in
    let says : more ≡ sent ++ done.1 =
    sends ∙ ap (λ (d : Option (Master × List Message)). sent ++ (or_still (marks_shut now) d).1) some.1 in (
      subst (λ (m : Master). IsOnTheWay start m before more) (sym to)
          (subst (λ (s : List Message). IsOnTheWay start done.0 before s) (sym says) on.0),
      subst (λ (m : Master). measure m < measure now) (sym to) on.1,
    )

pub round-end : (start now next : Master) (before sent more : List Message) → IsOnTheWay start now before sent →
    false ≡ did (follow_up (marks_shut now)) →
    next ≡ (or_still (marks_shut now) (follow_up (marks_shut now))).0 →
    more ≡ sent ++ (or_still (marks_shut now) (follow_up (marks_shut now))).1 →
    (next ≡ (settled start).0) × (more ≡ before ++ (settled start).1)
round-end start now next before sent more way applied state sends =
    let none : follow_up (marks_shut now) ≡ None = did-none (follow_up (marks_shut now)) (sym applied) in
    let ended = way-end start now before sent way none in (
      state ∙ (ap (λ (d : Option (Master × List Message)). (or_still (marks_shut now) d).0) none ∙ sym ended.0),
      sends ∙ (ap (λ (d : Option (Master × List Message)). sent ++ (or_still (marks_shut now) d).1) none ∙ (append-nil sent ∙ sym ended.1)),
    )

-- Rules in their order, of which the first that applies is made

or-none : (one : Option (Master × List Message)) → option_or one None ≡ one
or-none None = refl
or-none (Some done) = refl

pub first-of-all : (master : Master) → first_of RULES master ≡ follows_rest master
first-of-all master =
    ap (λ last. option_or (follows_change master) (option_or (follows_stored master) (option_or (follows_data master) last)))
    (or-none (follows_replay master))

abbrev pub rule_at : ℕ → Rule
rule_at i = get_or RULES i rule.Change

from-here : (i : ℕ) (master : Master) → i < 4 → first_of (drop i RULES) master ≡ follows_rest master →
    option_or (does (rule_at i) master) (first_of (drop (i + 1) RULES) master) ≡ follows_rest master
from-here i master inside left = sym (ap (λ rules. first_of rules master) (drop_more RULES i rule.Change inside)) ∙ left

-- what was done is what the first rule that applies does
pub record IsFirst (start next : Master) (before sent : List Message) : Type 0 where
  pub applied : true ≡ did (follows_rest start)
  pub state : next ≡ (or_still start (follows_rest start)).0
  pub sends : sent ≡ before ++ (or_still start (follows_rest start)).1

applies : (start next : Master) (before sent : List Message) (one rest : Option (Master × List Message)) →
    option_or one rest ≡ follows_rest start → true ≡ did one → next ≡ (or_still start one).0 →
    sent ≡ before ++ (or_still start one).1 →
    IsFirst start next before sent
applies start next before sent None rest left is state sends = true_false is
applies start next before sent (Some done) rest left is state sends = record {
  applied = ap did left;
  state = state ∙ ap (λ (one : Option (Master × List Message)). (or_still start one).0) left;
  sends = sends ∙ ap (λ (one : Option (Master × List Message)). before ++ (or_still start one).1) left;
}

pub rule-applies : (i : ℕ) (start now next : Master) (before sent more : List Message) → i < 4 → now ≡ start → sent ≡ before →
    first_of (drop i RULES) start ≡ follows_rest start → true ≡ did (does (rule_at i) now) →
    next ≡ (or_still now (does (rule_at i) now)).0 → more ≡ sent ++ (or_still now (does (rule_at i) now)).1 →
    IsFirst start next before more
rule-applies i start now next before sent more inside same unsent left is state sends =
    applies start next before more (does (rule_at i) start) (first_of (drop (i + 1) RULES) start) (from-here i start inside left)
    (is ∙ ap (λ m. did (does (rule_at i) m)) same) (state ∙ ap (λ m. (or_still m (does (rule_at i) m)).0) same)
    (sends ∙ (ap (λ messages. messages ++ (or_still now (does (rule_at i) now)).1) unsent
    ∙ ap (λ m. before ++ (or_still m (does (rule_at i) m)).1) same))

-- nothing was done, and the rules that are left are all
pub record IsStill (start next : Master) (before sent : List Message) (rest : Option (Master × List Message)) : Type 0 where
  pub same : next ≡ start
  pub sends : sent ≡ before
  pub left : rest ≡ follows_rest start

fails : (start next : Master) (before sent : List Message) (one rest : Option (Master × List Message)) →
    option_or one rest ≡ follows_rest start → false ≡ did one → next ≡ (or_still start one).0 →
    sent ≡ before ++ (or_still start one).1 →
    IsStill start next before sent rest
fails start next before sent None rest left isn't state sends = record { same = state; sends = sends ∙ append-nil before; left = left }
fails start next before sent (Some done) rest left isn't state sends = true_false (sym isn't)

pub rule-fails : (i : ℕ) (start now next : Master) (before sent more : List Message) → i < 4 → now ≡ start → sent ≡ before →
    first_of (drop i RULES) start ≡ follows_rest start → false ≡ did (does (rule_at i) now) →
    next ≡ (or_still now (does (rule_at i) now)).0 → more ≡ sent ++ (or_still now (does (rule_at i) now)).1 →
    IsStill start next before more (first_of (drop (i + 1) RULES) start)
rule-fails i start now next before sent more inside same unsent left isn't state sends =
    fails start next before more (does (rule_at i) start) (first_of (drop (i + 1) RULES) start) (from-here i start inside left)
    (isn't ∙ ap (λ m. did (does (rule_at i) m)) same) (state ∙ ap (λ m. (or_still m (does (rule_at i) m)).0) same)
    (sends ∙ (ap (λ messages. messages ++ (or_still now (does (rule_at i) now)).1) unsent
    ∙ ap (λ m. before ++ (or_still m (does (rule_at i) m)).1) same))

pub apart-some : (n : ℕ) → 0 < n → n ≢ 0
apart-some n some e = omega arith
