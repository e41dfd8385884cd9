-- Conditional writes take effect on the version that was expected.
use Rattle.std.proofs.Common.{◌≡◌, ◌⊎◌, ℕ, ◌+◌, ◌<◌, ◌≤◌, List, sym, ◌∙◌, subst, inl, inr, arith}
use Rattle.std.proofs.lemmas.Bool.{cases_lt}
use Rattle.rc_types.specs.declared.messages.Message.{Message}
use Rattle.rc_model.specs.Model.{replay}
use Rattle.rc_promises.specs.Linearizable.{Kind, Operation, AWrite, ARead, IsOn, StandsBefore, IsLinearizable}
use Rattle.rc_promises.specs.Conditional.{IsDoneBehind, TakesEffectOn, ConditionalWritesAreLinearizable}
use Rattle.rc_promises.specs.Conditional.{ConditionalWritesApart, NextVersionSuffices}
use Rattle.rc_promises.proofs.Linear.{linearizable-always, linearizable-apart}

-- what writes does not read
no-read : (a : Operation) → a.kind ≡ AWrite → a.kind ≡ ARead → ⊥
no-read a writes reads = (let e : ◌≡◌ {A = Kind} AWrite ARead = sym writes ∙ reads in cc)

-- of operations of which two stand one before the other, or have one response
module _ (IsOne : Operation → Type 0)
    (total : (a b : Operation) → IsOne a → IsOne b →
    StandsBefore a b ⊎ (StandsBefore b a ⊎ (a.response ≡ b.response)))
    (expected : ℕ) where
  -- nothing that is below what is done behind a version is above that version
  at-most : (op : Operation) → IsDoneBehind IsOne expected op → (a : Operation) → IsOne a → a.version < op.version →
      a.version ≤ expected
  at-most op done a is less = by (cases_lt expected a.version)
    where
      by : (expected < a.version) ⊎ (a.version ≤ expected) → a.version ≤ expected
      by (inl above) = absurd (done.next a is above less)
      by (inr within) = within

  -- of two writes of which one stands before the other it has the lower version
  lower : (a b : Operation) → b.kind ≡ AWrite → StandsBefore a b → a.version < b.version
  lower a b writes (inl less) = less
  lower a b writes (inr (same, reads, how)) = absurd (no-read b writes reads)

  -- two that are done behind one version don't stand one before the other
  not-before : (a b : Operation) → IsDoneBehind IsOne expected a → IsDoneBehind IsOne expected b → StandsBefore a b → ⊥
  not-before a b one other before = other.next a one.is one.above (lower a b other.writes before)

  pub takes-effect : (op : Operation) → IsDoneBehind IsOne expected op → TakesEffectOn IsOne expected op
  takes-effect op done = record {
    behind = λ a is before. at-most op done a is (lower a op done.writes before);
    before = λ a is within. inl (let above = done.above in omega (arith, within, above));
    alone = λ b other. by b other (total b op other.is done.is);
  }
    where
      by : (b : Operation) → IsDoneBehind IsOne expected b →
          StandsBefore b op ⊎ (StandsBefore op b ⊎ (b.response ≡ op.response)) → b.response ≡ op.response
      by b other (inl before) = absurd (not-before b op other done before)
      by b other (inr (inl behind)) = absurd (not-before op b done other behind)
      by b other (inr (inr same)) = same

-- in any list of messages that is linearizable
conditionally : (sent : List Message) → IsLinearizable sent → (table key expected : ℕ) (op : Operation) →
    IsDoneBehind (IsOn sent table key) expected op → TakesEffectOn (IsOn sent table key) expected op
conditionally sent linear table key expected op done =
    takes-effect (IsOn sent table key) (linear table key).total expected op done

pub conditional-writes : ConditionalWritesAreLinearizable
conditional-writes setup events table key expected op some done =
    conditionally (replay setup events).sent (linearizable-always setup events some) table key expected op done

pub conditional-writes-apart : ConditionalWritesApart
conditional-writes-apart setup steps table key expected op apart some done =
    conditionally _ (linearizable-apart setup steps apart some) table key expected op done

pub next-version-suffices : NextVersionSuffices
next-version-suffices sent table key expected op is writes next = record {
  is = is;
  writes = writes;
  above = omega (arith, next);
  next = λ a one above less. absurd (omega (arith, next, above, less));
}
