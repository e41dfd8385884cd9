-- What the judge answers is so, and never both.
use Rattle.std.proofs.Common.{◌∙◌, ℕ, List, length, Option, Some, None, sym, inl, inr}
use Rattle.std.specs.BTreeMap.{BTreeMap}
use Rattle.rc_clients.specs.declared.events.ClientEvent.{ClientEvent}
use Rattle.rc_clients.specs.declared.operations.Operation.{Operation}
use Rattle.rc_clients.specs.declared.doubled.VersionName.{VersionName}
use Rattle.rc_clients.specs.declared.judging.Violation.{Violation}
use Rattle.rc_clients.specs.declared.judging.Violation.TheVariants as violation
use Rattle.rc_clients.specs.Linearizable.{BreaksRefute, Judged, WasWritten}
use Rattle.rc_clients.specs.Evidence.{Always, AreFirsts, AreWrites, Else, HasChoice, IsBegunAt, IsTimelyAt}
use Rattle.rc_clients.proofs.Facts.{is_operation, told, within}
use Rattle.rc_clients.proofs.CountLemmas.{too_many}
use Rattle.rc_clients.proofs.VersionLemmas.{one_value, one_write}

-- where nothing was found the history is linearizable
pub all_found : {history : List ClientEvent} {writes : BTreeMap VersionName ℕ}
    {firsts : BTreeMap VersionName Operation} (found : Option Violation) →
    Always history (IsTimelyAt history) → Always history (IsBegunAt history) → AreWrites history (length history) writes →
    AreFirsts history (length history) firsts → Else history (HasChoice history) found → Judged history found
all_found (Some v) timely begun are values breaks = breaks
all_found {history} {writes} {firsts} None timely begun are values choice = record {
  in_time = λ a b is_a is_b on before. (timely.each b.response (within history is_b)).each a b is_a is_b on before;
  begins = λ a is zero. (begun.each a.response (within history is)).each a is zero;
  got = choice.got;
  written = choice.written;
  one_write = λ a b is_a is_b on version kind_a kind_b. one_write history writes a b are is_a is_b on version kind_a kind_b;
  one_value = λ a b is_a is_b on version. (one_value history firsts values).each a b is_a is_b on version;
}

pub breaks_refute : BreaksRefute
breaks_refute history (violation.OutOfTime one other) (a, b, pair, before, wrong) good =
    wrong (good.in_time a b (is_operation history one pair.first) (is_operation history other pair.second) pair.on_key before)
breaks_refute history (violation.NotNothing one) (a, is, zero, wrong) good = wrong (good.begins a (is_operation history one is) zero)
breaks_refute history (violation.NeverWritten one) (a, is, later, wrong) good =
    by (good.written a (is_operation history one is) later)
  where
    by : WasWritten history good.got a → ⊥
    by (inl h) = wrong (inl h)
    by (inr (m, p, e)) = wrong (inr (m, p))
breaks_refute history (violation.TooFewWrites one) (a, is, later, unwritten, others, many) good =
    too_many (is_operation history one is) later unwritten many good
breaks_refute history (violation.TwoWrites one other) (a, b, pair, version, kind_a, kind_b, differ) good =
    differ (sym (told pair.first).response_is
    ∙ good.one_write a b (is_operation history one pair.first) (is_operation history other pair.second)
    pair.on_key version kind_a kind_b ∙ (told pair.second).response_is)
breaks_refute history (violation.TwoValues one other) (a, b, pair, version, differ) good =
    differ (good.one_value a b (is_operation history one pair.first) (is_operation history other pair.second) pair.on_key version)
