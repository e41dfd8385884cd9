use Rattle.std.proofs.Common.{◌≡◌, ◌++◌, ◌∷◌, [], nat_eq, sym, ap, ◌∙◌, arith}
use Rattle.std.proofs.lemmas.Grind.{common_steps}
use Rattle.std.specs.Map.{set_value}
use Rattle.rc_ownership.specs.Parts.{undone}
use Rattle.rc_ownership.proofs.Undone.{undone-push, undo-absent, undo-found}
use Rattle.rc_ownership.proofs.touched.undo.Goals as goal

pub loop-term-preserved-in_default-get_mut : goal.loop-term-preserved-in_default-get_mut
loop-term-preserved-in_default-get_mut c =
    let entries = c.loop-term.begun.entries in
    let left = c.pop.new.self.items in
    let popped : c.loop-term.touched.items ≡ left ++ (c.in-Some.term, c.in-Some.before) ∷ [] = grind (arith, common_steps) in (
      ap (λ begun. undone left begun.entries) c.get_mut.follows.holds-at-none
          ∙ ap (undone left) (sym (undo-absent (c.in-Some.term, c.in-Some.before) entries (sym c.in_default-get_mut.ensures.value)))
          ∙ sym (undone-push left (c.in-Some.term, c.in-Some.before) entries)
          ∙ ap (λ touched. undone touched entries) (sym popped)
          ∙ c.loop-term.invariant.0,
      c.pop.ensures.capacity ∙ c.loop-term.invariant.1,
    )

pub loop-term-preserved : goal.loop-term-preserved
loop-term-preserved c =
    let entries = c.loop-term.begun.entries in
    let left = c.pop.new.self.items in
    let popped : c.loop-term.touched.items ≡ left ++ (c.in-Some.term, c.in-Some.before) ∷ [] = grind (arith, common_steps) in (
      ap (λ begun. undone left begun.entries) c.get_mut.follows.holds-at-none
          ∙ ap (undone left) (sym (undo-absent (c.in-Some.term, c.in-Some.before) entries (sym c.in_default-get_mut.ensures.value)))
          ∙ sym (undone-push left (c.in-Some.term, c.in-Some.before) entries)
          ∙ ap (λ touched. undone touched entries) (sym popped)
          ∙ c.loop-term.invariant.0,
      c.pop.ensures.capacity ∙ c.loop-term.invariant.1,
    )

pub loop-term-preserved-in-Some-get_mut : goal.loop-term-preserved-in-Some-get_mut
loop-term-preserved-in-Some-get_mut c =
    let entries = c.loop-term.begun.entries in
    let left = c.pop.new.self.items in
    let popped : c.loop-term.touched.items ≡ left ++ (c.in-Some.term, c.in-Some.before) ∷ [] = grind (arith, common_steps) in (
      ap (undone left)
          ((c.get_mut.follows.holds c.go_back.new.self).0
          ∙ ap (set_value (nat_eq c.in-Some.term) entries) c.go_back.ensures
          ∙ undo-found (c.in-Some.term, c.in-Some.before) entries c.in-Some-get_mut.part.now (sym c.in-Some-get_mut.ensures.value))
          ∙ sym (undone-push left (c.in-Some.term, c.in-Some.before) entries)
          ∙ ap (λ touched. undone touched entries) (sym popped)
          ∙ c.loop-term.invariant.0,
      c.pop.ensures.capacity ∙ c.loop-term.invariant.1,
    )
