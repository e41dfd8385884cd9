-- The order of time, and what comes before the first write.
use Rattle.std.proofs.Common.{◌≡◌, ◌≢◌, ◌⊎◌, ◌∙◌, ℕ, ◌+◌, ◌<◌, ◌≤◌, Bool, true, false, List, length}
use Rattle.std.proofs.Common.{Option, Some, None, refl, sym, ap, subst, inl, inr, arith, is_some}
use Rattle.std.specs.Prelude.{nat_lt}
use Rattle.std.proofs.lemmas.Bool.Decides.{nat_tests}
use Rattle.rc_clients.specs.declared.events.ClientEvent.{ClientEvent}
use Rattle.rc_clients.specs.declared.operations.Kind.{Kind}
use Rattle.rc_clients.specs.declared.operations.Kind.TheVariants.{Write, Read}
use Rattle.rc_clients.specs.declared.operations.Operation.{Operation}
use Rattle.rc_clients.specs.declared.bars.Top.{Top}
use Rattle.rc_clients.specs.declared.judging.Violation.{Violation}
use Rattle.rc_clients.specs.declared.judging.Violation.TheVariants as violation
use Rattle.rc_clients.specs.Operations.{operation_at, IsOperation}
use Rattle.rc_clients.specs.Linearizable.{AreOnKey, Breaks, HasPending, HasWrite, Precedes, StandsBefore, CanBeWritten}
use Rattle.rc_clients.specs.Evidence.{AreBars, Else, IsBegunAt, IsBehind, IsTimelyAt, IsTop, IsWrittenAt}
use Rattle.rc_clients.specs.Evidence.{ShowsNothing, bar_at, behind_by, key_of}
use Rattle.rc_clients.proofs.Facts.{below, one_at, told, within}

no_some : {A : Type 0} {o : Option A} {x : A} → o ≡ None → o ≡ Some x → ⊥
no_some none some = cc

-- what was answered before an operation was invoked
pub bar_of : {history : List ClientEvent} (moment : ℕ) {bars : List (Option Top)} {op : Operation} →
    AreBars history (length history) bars → operation_at history moment ≡ Some op →
    IsTop history op.table op.key op.invocation (bar_at bars op.invocation)
bar_of {history} moment {op} are is =
    let known = told is in
    let end : moment < length history = within history is in
    let before : op.invocation < moment = known.asked_before in
    are.each op.invocation (omega (arith, end, before)) (key_of op) known.key_is

pub timely_none : {history : List ClientEvent} {moment : ℕ} → operation_at history moment ≡ None → IsTimelyAt history moment
timely_none none =
    record { each = λ a b is at on before. absurd (no_some none at) }

pub timely_untold : {history : List ClientEvent} {moment : ℕ} {bars : List (Option Top)} {op : Operation} →
    AreBars history (length history) bars → operation_at history moment ≡ Some op → bar_at bars op.invocation ≡ None →
    IsTimelyAt history moment
timely_untold {history} {moment} {op} are is none = record {
  each = λ a b at now on before. absurd (no a b at (one_at history moment is now) on before);
}
  where
    untold : IsTop history op.table op.key op.invocation None
    untold = subst (λ o. IsTop history op.table op.key op.invocation o) none (bar_of moment are is)

    no : (a b : Operation) → IsOperation history a → op ≡ b → AreOnKey a b → Precedes a b → ⊥
    no a b at same on before = untold.none a at (on.table_is ∙ sym (ap (λ (o : Operation). o.table) same))
        (on.key_is ∙ sym (ap (λ (o : Operation). o.key) same))
        (let i : op.invocation ≡ b.invocation = ap (λ (o : Operation). o.invocation) same in omega (arith, i, before))

pub timely_behind : {history : List ClientEvent} {moment : ℕ} {bars : List (Option Top)} {op : Operation} {top : Top} →
    AreBars history (length history) bars → operation_at history moment ≡ Some op → bar_at bars op.invocation ≡ Some top →
    IsBehind top.version op → IsTimelyAt history moment
timely_behind {history} {moment} {op} {top} are is some behind = record {
  each = λ a b at now on before. subst (λ x. StandsBefore a x) (one_at history moment is now)
      (here a at (subst (λ x. AreOnKey a x) (sym (one_at history moment is now)) on)
      (subst (λ x. Precedes a x) (sym (one_at history moment is now)) before));
}
  where
    greatest : IsTop history op.table op.key op.invocation (Some top)
    greatest = subst (λ o. IsTop history op.table op.key op.invocation o) some (bar_of moment are is)

    level : (v w : ℕ) → v ≤ w → (v < w) ⊎ (v ≡ w)
    level v w h = by (nat_lt v w) refl
      where
        by : (b : Bool) → nat_lt v w ≡ b → (v < w) ⊎ (v ≡ w)
        by true e = inl (grind (arith, nat_tests))
        by false e = inr (grind (arith, nat_tests))

    read : (a : Operation) → op.kind ≡ Read → a.response < op.response → (a.version < op.version) ⊎ (a.version ≡ op.version) →
        StandsBefore a op
    read a kind earlier (inl h) = inl h
    read a kind earlier (inr e) = inr (e, kind, inr earlier)

    by : (a : Operation) (k : Kind) → op.kind ≡ k → behind_by k top.version op.version → a.version ≤ top.version →
        a.response < op.response → StandsBefore a op
    by a Write kind h under earlier = inl (omega (arith, h, under))
    by a Read kind h under earlier = read a kind earlier (level a.version op.version (omega (arith, h, under)))

    here : (a : Operation) → IsOperation history a → AreOnKey a op → Precedes a op → StandsBefore a op
    here a at on before =
        let known = told is in
        let asked : op.invocation < moment = known.asked_before in
        let answered : op.response ≡ moment = known.response_is in
        by a op.kind refl behind (greatest.greatest a at on.table_is on.key_is before)
        (omega (arith, before, asked, answered))

pub late_found : {history : List ClientEvent} {moment : ℕ} {bars : List (Option Top)} {op : Operation} {top : Top} →
    AreBars history (length history) bars → operation_at history moment ≡ Some op → bar_at bars op.invocation ≡ Some top →
    (IsBehind top.version op → ⊥) → Breaks history (violation.OutOfTime top.response moment)
late_found {history} {moment} {op} {top} are is some not_behind = (
  greatest.op,
  op,
  record {
    first = greatest.is;
    second = is;
    on_key = record { table_is = greatest.table_is; key_is = greatest.key_is };
  },
  before,
  λ stands. not_behind (behind op.kind refl stands),
)
  where
    greatest : IsTop history op.table op.key op.invocation (Some top)
    greatest = subst (λ o. IsTop history op.table op.key op.invocation o) some (bar_of moment are is)

    before : Precedes greatest.op op
    before =
        let answered : greatest.op.response ≡ top.response = (told greatest.is).response_is in
        let early : top.response < op.invocation = greatest.before in
        omega (arith, answered, early)

    no_write : op.kind ≡ Write → op.kind ≡ Read → ⊥
    no_write a b = cc

    behind : (k : Kind) → op.kind ≡ k → StandsBefore greatest.op op → behind_by k top.version op.version
    behind Write kind (inl h) = let e : greatest.op.version ≡ top.version = greatest.version_is in omega (arith, h, e)
    behind Write kind (inr h) = absurd (no_write kind h.1)
    behind Read kind (inl h) = let e : greatest.op.version ≡ top.version = greatest.version_is in omega (arith, h, e)
    behind Read kind (inr h) =
        let e : greatest.op.version ≡ top.version = greatest.version_is in
        let same : greatest.op.version ≡ op.version = h.0 in omega (arith, same, e)

-- Moment by moment

pub always_more : (P : ℕ → Type 0) {moment : ℕ} → ((i : ℕ) → i < moment → P i) → P moment →
    (i : ℕ) → i < moment + 1 → P i
always_more P {moment} was now i h = by (below i moment h)
  where
    by : (i < moment) ⊎ (i ≡ moment) → P i
    by (inl h) = was i h
    by (inr e) = subst P (sym e) now

-- nothing was found now
pub else_none : (history : List ClientEvent) (P : Type 0) (found : Option Violation) → is_some found ≡ false →
    Else history P found → P
else_none history P None e h = h
else_none history P (Some v) e h = cc

-- what was found breaks the history, whatever else was looked for
pub else_some : (history : List ClientEvent) (P Q : Type 0) (found : Option Violation) → is_some found ≡ true →
    Else history P found → Else history Q found
else_some history P Q None e h = cc
else_some history P Q (Some v) e h = h

-- The beginning

pub begun_none : {history : List ClientEvent} {moment : ℕ} → operation_at history moment ≡ None → IsBegunAt history moment
begun_none none = record { each = λ a at zero. absurd (no_some none at) }

pub begun_later : {history : List ClientEvent} {moment : ℕ} {op : Operation} → operation_at history moment ≡ Some op →
    op.version ≢ 0 → IsBegunAt history moment
begun_later {history} {moment} is later = record {
  each = λ a at zero. absurd (later (ap (λ (o : Operation). o.version) (one_at history moment is at) ∙ zero));
}

pub begun_nothing : {history : List ClientEvent} {moment : ℕ} {op : Operation} → operation_at history moment ≡ Some op →
    ShowsNothing history op → IsBegunAt history moment
begun_nothing {history} {moment} is nothing = record {
  each = λ a at zero. subst (ShowsNothing history) (one_at history moment is at) nothing;
}

-- Written

pub written_none : {history : List ClientEvent} {moment : ℕ} → operation_at history moment ≡ None → IsWrittenAt history moment
written_none none = record { each = λ a at later. absurd (no_some none at) }

pub written_first : {history : List ClientEvent} {moment : ℕ} {op : Operation} → operation_at history moment ≡ Some op →
    op.version ≡ 0 → IsWrittenAt history moment
written_first {history} {moment} is zero = record {
  each = λ a at later. absurd (later (sym (ap (λ (o : Operation). o.version) (one_at history moment is at)) ∙ zero));
}

pub written_so : {history : List ClientEvent} {moment : ℕ} {op : Operation} → operation_at history moment ≡ Some op →
    CanBeWritten history op → IsWrittenAt history moment
written_so {history} {moment} is written = record {
  each = λ a at later. subst (CanBeWritten history) (one_at history moment is at) written;
}

pub not_begun : (history : List ClientEvent) (moment : ℕ) {op : Operation} → operation_at history moment ≡ Some op →
    op.version ≡ 0 → (ShowsNothing history op → ⊥) → Breaks history (violation.NotNothing moment)
not_begun history moment {op} is zero wrong = (op, is, zero, wrong)

pub not_written : {history : List ClientEvent} (moment : ℕ) {op : Operation} → operation_at history moment ≡ Some op →
    op.version ≢ 0 → (HasWrite history op → ⊥) → (HasPending history op → ⊥) → Breaks history (violation.NeverWritten moment)
not_written {history} moment {op} is later no_write no_pending = (op, is, later, none)
  where
    none : CanBeWritten history op → ⊥
    none (inl h) = no_write h
    none (inr h) = no_pending h
