-- A drawing, step by step.
use Rattle.std.proofs.Common.{◌≡◌, ℕ, ◌+◌, ◌-◌, ◌<◌, ◌≤◌, Bool, refl, ap, sym, ◌∙◌, add-one, arith}
use Rattle.rand_pcg.specs.Lcg.{Lcg}
use Rattle.rc_model.specs.Model.{Setup, World}
use Rattle.rc_world.specs.Happened.{Happened, opened, replayed}
use Rattle.rc_runs.specs.declared.words.Words.{Words}
use Rattle.rc_runs.specs.Words.{next_words, after_words}
use Rattle.rc_runs.specs.Generator.{generator}
use Rattle.rc_runs.specs.Draw.{drawing_setup, beginning, played, begun, drawn_step, drawn_from, drawn_world, drawn}

-- the world before the first step
pub begun_from : (free : Bool) (setup : Setup) (old new : Happened) → setup ≡ drawing_setup free → old ≡ opened setup
    → replayed new ≡ played (replayed old) beginning → replayed new ≡ begun free
unfolding begun
begun_from free setup old new setup_is begins ran = ran ∙ ap (λ (w : Happened). played (replayed w) beginning) (begins ∙ ap opened setup_is)

-- no step is left
from_none : (number : ℕ) (g : Lcg) (world : World) → drawn_from 0 number g world ≡ world
unfolding drawn_from
from_none number g world = refl

-- one of them
from_more : (left number : ℕ) (g : Lcg) (world : World)
    → drawn_from (left + 1) number g world ≡ drawn_from left (number + 1) (after_words g) (drawn_step world number (next_words g))
unfolding drawn_from
from_more left number g world = ap (λ n. drawn_from n number g world) (add-one left)

pub steps_begin : (steps : ℕ) (g start : Lcg) (world : World) → g ≡ start →
    drawn_from (steps - 0) 0 g world ≡ drawn_from steps 0 start world
steps_begin steps g start world same =
    let all : steps - 0 ≡ steps = omega arith in
    ap (λ n. drawn_from n 0 g world) all ∙ ap (λ h. drawn_from steps 0 h world) same

-- the step is made
step_made : (left number : ℕ) (g after : Lcg) (words : Words) (world next : World) → words ≡ next_words g → after ≡ after_words g
    → next ≡ drawn_step world number words → drawn_from left (number + 1) after next ≡ drawn_from (left + 1) number g world
step_made left number g after words world next words_are rest made =
    ap (λ h. drawn_from left (number + 1) h next) rest
    ∙ ap (λ w. drawn_from left (number + 1) (after_words g) w) (made ∙ ap (λ w. drawn_step world number w) words_are)
    ∙ sym (from_more left number g world)

pub steps_go_on : (steps number : ℕ) (g after : Lcg) (words : Words) (world next end : World) → number < steps
    → words ≡ next_words g → after ≡ after_words g → next ≡ drawn_step world number words
    → drawn_from (steps - number) number g world ≡ end → drawn_from (steps - (number + 1)) (number + 1) after next ≡ end
steps_go_on steps number g after words world next end below words_are rest made left =
    let one : (steps - (number + 1)) + 1 ≡ steps - number = omega arith in
    step_made (steps - (number + 1)) number g after words world next words_are rest made
    ∙ ap (λ n. drawn_from n number g world) one ∙ left

pub steps_end : (steps number : ℕ) (g : Lcg) (world end : World) → steps ≤ number →
    drawn_from (steps - number) number g world ≡ end → world ≡ end
steps_end steps number g world end all left =
    let none : steps - number ≡ 0 = omega arith in
    sym (from_none number g world) ∙ ap (λ n. drawn_from n number g world) (sym none) ∙ left

-- the steps follow the beginning
pub drawn_all : (seed steps : ℕ) (free : Bool) (old new : World) → old ≡ begun free → new ≡ drawn_from steps 0 (generator seed) old
    → new ≡ drawn_world seed steps free
unfolding drawn_world
drawn_all seed steps free old new before steps_made = steps_made ∙ ap (λ w. drawn_from steps 0 (generator seed) w) before

-- and its events are the drawn ones
pub drawn_events : (seed steps : ℕ) (free : Bool) (run : Happened) → (replayed run).events ≡ run.events
    → replayed run ≡ drawn_world seed steps free → run.events ≡ drawn seed steps free
drawn_events seed steps free run taken world = sym taken ∙ ap (λ (w : World). w.events) world
