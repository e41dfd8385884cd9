-- The phase goes on as the definitions' rules say, and in their order.
use Rattle.std.proofs.Common.{◌≡◌, ℕ, ◌-◌, Bool, true, false, cond, not, eqb, ◌&&◌, ◌++◌, List, [], ◌∷◌, filter}
use Rattle.std.proofs.Common.{Option, Some, None}
use Rattle.std.proofs.Common.{is_some, Result, IfOk, OnOk, refl, sym, ap, ◌∙◌, subst}
use Rattle.std.specs.Option.{unwrap_or, option_or}
use Rattle.std.specs.List.{list_any}
use Rattle.std.proofs.lemmas.Bool.{and_parts}
use Rattle.rc_model.specs.Model.{Phase, Opening, Closing, Writing, Message, Free, Config, Segment, has_unclosed, is_ready, all_placed}
use Rattle.rc_model.specs.Model.{Log, head_of, old_head_of, has_old_head, with_segment, is_opening, is_closing, shuts, with_shut}
use Rattle.rc_model.specs.Model.{may_start, may_close, may_write, left_out, with_freed, starts, closes_old, writes_on, Master, with_log}
use Rattle.rc_model.specs.Model.{to_ids, ids_of, not_lost, to_unlost, frees_segments, close_is_due, when, follows_closing, follow_up}
use Rattle.rc_model.specs.Model.{marks_shut}
use Rattle.rc_model.proofs.Tests.{either, true_false}
use Rattle.rc_model.proofs.LogParts.{marked, with_freed-marked, marked-alone}
use Rattle.rc_headroll.specs.Advancing.{next_phase, advanced, advances}
use Rattle.rc_headroll.proofs.LogSteps.{freed-newest, freed-previous}
use Rattle.rc_config.proofs.SegmentTables.{put-at}
use Rattle.rc_master.specs.Rules.{did, or_still, follows_phase, follows_rest, tells_phase}
use Rattle.rc_master.proofs.Notes.{SamePlaces, same-log, same-starts, same-closes, same-writes_on}

-- Phases

opening-is : (phase : Phase) → is_opening phase ≡ true → phase ≡ Opening
opening-is Opening e = refl
opening-is Closing e = true_false (sym e)
opening-is Writing e = true_false (sym e)

closing-is : (phase : Phase) → is_closing phase ≡ true → phase ≡ Closing
closing-is Closing e = refl
closing-is Opening e = true_false (sym e)
closing-is Writing e = true_false (sym e)

may_start-phase : (log : Log) → may_start log ≡ true → log.phase ≡ Opening
may_start-phase log e = opening-is log.phase (and_parts (is_opening log.phase) (eqb log.head 1 && is_ready (head_of log)) e).0

may_close-phase : (log : Log) → may_close log ≡ true → log.phase ≡ Opening
may_close-phase log e =
    opening-is log.phase (and_parts (is_opening log.phase) (has_old_head log && all_placed (head_of log).config) e).0

may_write-phase : (log : Log) → may_write log ≡ true → log.phase ≡ Closing
may_write-phase log e =
    closing-is log.phase
    (and_parts (is_closing log.phase) (has_old_head log && ((old_head_of log).shut && is_ready (head_of log))) e).0

-- a mark leaves the phase
shut-phase : (log : Log) → (with_shut log).phase ≡ log.phase
shut-phase log =
    either (λ (l : Log). l.phase ≡ log.phase) (shuts log)
    (with_segment (log.head - 1) (record (old_head_of log) { shut = true }) log) log (λ _. refl) (λ _. refl)

-- What is told once segments are freed

frees-marked : (segs all : List ℕ) (log : Log) →
    frees_segments (record log { segments = marked segs log.segments }) all ≡ frees_segments log all
frees-marked segs [] log = refl
frees-marked segs (seg ∷ all) log =
    ap (λ (config : Config). to_ids log.own (ids_of (not_lost config.members)) (Free seg)
    ++ frees_segments (record log { segments = marked segs log.segments }) all) (marked-alone segs log.segments seg).parts.config
    ∙ ap (λ (rest : List Message). to_unlost log seg (Free seg) ++ rest) (frees-marked segs all log)

left_out-freed : (segs : List ℕ) (log : Log) → left_out (with_freed segs log) ≡ left_out log
left_out-freed segs log =
    ap (λ (ds : List ℕ). filter (λ seg. not (list_any (eqb seg) ds)) (old_head_of (with_freed segs log)).digest)
    (freed-newest segs log (with_freed segs log) refl)
    ∙ ap (filter (λ seg. not (list_any (eqb seg) (head_of log).digest))) (freed-previous segs log (with_freed segs log) refl)

tells-freed : (log : Log) → tells_phase Closing (writes_on log) ≡ frees_segments log (left_out log)
tells-freed log =
    let next : Log = record log { phase = Writing } in
    ap (frees_segments (writes_on log)) (left_out-freed (left_out log) next)
    ∙ ap (λ (l : Log). frees_segments l (left_out log)) (with_freed-marked (left_out log) next)
    ∙ frees-marked (left_out log) (left_out log) next

-- The first of the three rules that applies

module _ (master : Master) (log : Log) (first second third : Log) (ready frees : List Message) where
  goes : Bool → Bool → Bool → Option Log
  goes s c w = cond s (Some first) (cond c (Some second) (cond w (Some third) None))

  rules : Bool → Bool → Bool → Option (Master × List Message)
  rules s c w = option_or (when s (with_log (with_log master log) first, ready))
      (option_or (when c (with_log (with_log master log) second, [])) (when w (with_log (with_log master log) third, frees)))

  goes-did : (s c w : Bool) → is_some (goes s c w) ≡ did (rules s c w)
  unfolding goes rules
  goes-did true c w = refl
  goes-did false true w = refl
  goes-did false false true = refl
  goes-did false false false = refl

  goes-state : (s c w : Bool) → with_log master (unwrap_or (goes s c w) log) ≡ (or_still (with_log master log) (rules s c w)).0
  unfolding goes rules
  goes-state true c w = refl
  goes-state false true w = refl
  goes-state false false true = refl
  goes-state false false false = refl

  goes-tells : (s c w : Bool) (tells : Log → List Message) → (s ≡ true → tells first ≡ ready) → (c ≡ true → tells second ≡ []) →
      (w ≡ true → tells third ≡ frees) → true ≡ is_some (goes s c w) →
      tells (unwrap_or (goes s c w) log) ≡ (or_still (with_log master log) (rules s c w)).1
  unfolding goes rules
  goes-tells true c w tells one two three e = one refl
  goes-tells false true w tells one two three e = two refl
  goes-tells false false true tells one two three e = three refl
  goes-tells false false false tells one two three e = true_false e

  goes-silent : (s c w : Bool) → false ≡ is_some (goes s c w) → (or_still (with_log master log) (rules s c w)).1 ≡ []
  unfolding goes rules
  goes-silent true c w e = true_false (sym e)
  goes-silent false true w e = true_false (sym e)
  goes-silent false false true e = true_false (sym e)
  goes-silent false false false e = refl

module _ (master : Master) where
  pub phase-did : advances master.log ≡ did (follows_phase (marks_shut master))
  unfolding goes rules
  phase-did =
      goes-did master (with_shut master.log) (starts (with_shut master.log)) (closes_old (with_shut master.log))
      (writes_on (with_shut master.log)) (tells_phase Opening (starts (with_shut master.log)))
      (frees_segments (with_shut master.log) (left_out (with_shut master.log)))
      (may_start (with_shut master.log)) (may_close (with_shut master.log)) (may_write (with_shut master.log))

  pub phase-state : with_log master (advanced master.log) ≡ (or_still (marks_shut master) (follows_phase (marks_shut master))).0
  unfolding goes rules
  phase-state =
      goes-state master (with_shut master.log) (starts (with_shut master.log)) (closes_old (with_shut master.log))
      (writes_on (with_shut master.log)) (tells_phase Opening (starts (with_shut master.log)))
      (frees_segments (with_shut master.log) (left_out (with_shut master.log)))
      (may_start (with_shut master.log)) (may_close (with_shut master.log)) (may_write (with_shut master.log))

  pub phase-tells : true ≡ advances master.log →
      tells_phase master.log.phase (advanced master.log) ≡ (or_still (marks_shut master) (follows_phase (marks_shut master))).1
  unfolding goes rules
  phase-tells went =
      let was : master.log.phase ≡ (with_shut master.log).phase = sym (shut-phase master.log) in
      goes-tells master (with_shut master.log) (starts (with_shut master.log)) (closes_old (with_shut master.log))
      (writes_on (with_shut master.log)) (tells_phase Opening (starts (with_shut master.log)))
      (frees_segments (with_shut master.log) (left_out (with_shut master.log)))
      (may_start (with_shut master.log)) (may_close (with_shut master.log)) (may_write (with_shut master.log))
      (tells_phase master.log.phase)
      (λ may. ap (λ (phase : Phase). tells_phase phase (starts (with_shut master.log)))
      (was ∙ may_start-phase (with_shut master.log) may))
      (λ may. ap (λ (phase : Phase). tells_phase phase (closes_old (with_shut master.log)))
      (was ∙ may_close-phase (with_shut master.log) may))
      (λ may. ap (λ (phase : Phase). tells_phase phase (writes_on (with_shut master.log)))
      (was ∙ may_write-phase (with_shut master.log) may) ∙ tells-freed (with_shut master.log))
      went

  pub phase-silent : false ≡ advances master.log → (or_still (marks_shut master) (follows_phase (marks_shut master))).1 ≡ []
  unfolding goes rules
  phase-silent stays =
      goes-silent master (with_shut master.log) (starts (with_shut master.log)) (closes_old (with_shut master.log))
      (writes_on (with_shut master.log)) (tells_phase Opening (starts (with_shut master.log)))
      (frees_segments (with_shut master.log) (left_out (with_shut master.log)))
      (may_start (with_shut master.log)) (may_close (with_shut master.log)) (may_write (with_shut master.log)) stays

-- the places stay
pub same-next : (log : Log) → SamePlaces log (unwrap_or (next_phase log) log)
same-next log =
    either (λ (o : Option Log). SamePlaces log (unwrap_or o log)) (may_start log) (Some (starts log))
    (cond (may_close log) (Some (closes_old log)) (cond (may_write log) (Some (writes_on log)) None))
    (λ may. same-starts log may)
    (λ _. either (λ (o : Option Log). SamePlaces log (unwrap_or o log)) (may_close log) (Some (closes_old log))
    (cond (may_write log) (Some (writes_on log)) None)
    (λ _. same-closes log)
    (λ _. either (λ (o : Option Log). SamePlaces log (unwrap_or o log)) (may_write log) (Some (writes_on log)) None
    (λ may. same-writes_on log may) (λ _. same-log log)))

-- The order of the rules

-- whether a Close is due doesn't depend on the mark
pub due-marked : (log : Log) → close_is_due (with_shut log) ≡ close_is_due log
due-marked log =
    let x : Segment = record (old_head_of log) { shut = true } in
    either (λ (l : Log). close_is_due l ≡ close_is_due log) (shuts log) (with_segment (log.head - 1) x log) log
    (λ _. ap (λ (s : Segment). is_closing log.phase && (has_old_head log && (s.config.committed && has_unclosed s)))
    (put-at log.segments (log.head - 1) x))
    (λ _. refl)

closing-not_opening : (phase : Phase) → is_closing phase ≡ true → is_opening phase ≡ false
closing-not_opening Closing e = refl
closing-not_opening Opening e = true_false (sym e)
closing-not_opening Writing e = true_false (sym e)

third-first : (s c d : Bool) (one two three : Master × List Message) (rest : Option (Master × List Message)) →
    s ≡ false → c ≡ false → d ≡ true →
    option_or (when s one) (option_or (when c two) (option_or (when d three) rest)) ≡ when d three
third-first false false true one two three rest a b e = refl
third-first true c d one two three rest a b e = true_false a
third-first false true d one two three rest a b e = true_false b
third-first false false false one two three rest a b e = true_false (sym e)

-- where a Close is due, no rule before that one applies
pub due-first : (master : Master) → close_is_due master.log ≡ true → follow_up master ≡ follows_closing master
due-first master due =
    let log : Log = master.log in
    let closing = (and_parts (is_closing master.log.phase)
    (has_old_head log && ((old_head_of log).config.committed && has_unclosed (old_head_of log))) due).0 in
    let opening : is_opening master.log.phase ≡ false = closing-not_opening master.log.phase closing in
    third-first (may_start log) (may_close log) (close_is_due log) _ _ _ _
    (ap (λ (b : Bool). b && (eqb log.head 1 && is_ready (head_of log))) opening)
    (ap (λ (b : Bool). b && (has_old_head log && all_placed (head_of log).config)) opening) due

without-third : (s c d w : Bool) (one two three four : Master × List Message) (rest : Option (Master × List Message)) →
    d ≡ false →
    option_or (when s one) (option_or (when c two) (option_or (when d three) (option_or (when w four) rest)))
    ≡ option_or (option_or (when s one) (option_or (when c two) (when w four))) rest
without-third true c false w one two three four rest e = refl
without-third false true false w one two three four rest e = refl
without-third false false false true one two three four rest e = refl
without-third false false false false one two three four rest e = refl
without-third s c true w one two three four rest e = true_false e

-- where none is due, the rules of the phase come before the others
pub undue-rules : (master : Master) → close_is_due master.log ≡ false →
    follow_up master ≡ option_or (follows_phase master) (follows_rest master)
undue-rules master undue =
    without-third (may_start master.log) (may_close master.log) (close_is_due master.log) (may_write master.log) _ _ _ _
    (follows_rest master) undue

-- What one rule, or another, did

pub done-first : (master : Master) (all one rest : Option (Master × List Message)) → all ≡ option_or one rest → true ≡ did one →
    (did all ≡ did one) × (or_still master all ≡ or_still master one)
done-first master all None rest is applied = true_false applied
done-first master all (Some done) rest is applied = (ap did is, ap (or_still master) is)

pub done-rest : (master : Master) (all one rest : Option (Master × List Message)) → all ≡ option_or one rest → false ≡ did one →
    (one ≡ None) × (all ≡ rest)
done-rest master all None rest is applied = (refl, is)
done-rest master all (Some done) rest is applied = true_false (sym applied)

-- Rules that are all that is left to do

module _ {E : Type 0} (r : Result Bool E) (rule : Master → Option (Master × List Message)) (master now : Master)
    (same : now ≡ marks_shut master) (all : rule (marks_shut master) ≡ follow_up (marks_shut master)) where
  same-did : did (rule now) ≡ did (follow_up (marks_shut master))
  same-did = ap (λ (m : Master). did (rule m)) same ∙ ap did all

  same-still : or_still now (rule now) ≡ or_still (marks_shut master) (follow_up (marks_shut master))
  same-still = ap (λ (m : Master). or_still m (rule m)) same ∙ ap (or_still (marks_shut master)) all

  pub all-applied : IfOk r (λ applied. applied ≡ did (rule now)) →
      IfOk r (λ applied. applied ≡ did (follow_up (marks_shut master)))
  all-applied is = subst (λ (b : Bool). IfOk r (λ applied. applied ≡ b)) same-did is

  pub all-state : (next : Master) → OnOk r (next ≡ (or_still now (rule now)).0) →
      OnOk r (next ≡ (or_still (marks_shut master) (follow_up (marks_shut master))).0)
  all-state next is = subst (λ (done : Master × List Message). OnOk r (next ≡ done.0)) same-still is

  pub all-sends : (before sent more : List Message) → sent ≡ before →
      OnOk r (more ≡ sent ++ (or_still now (rule now)).1) →
      OnOk r (more ≡ before ++ (or_still (marks_shut master) (follow_up (marks_shut master))).1)
  all-sends before sent more unsent is =
      subst (λ (messages : List Message). OnOk r (more ≡ messages ++ (or_still (marks_shut master) (follow_up (marks_shut master))).1))
      unsent (subst (λ (done : Master × List Message). OnOk r (more ≡ sent ++ done.1)) same-still is)

-- where a Close is due, that is the third rule
pub due-all : (master : Master) → close_is_due master.log ≡ true →
    follows_closing (marks_shut master) ≡ follow_up (marks_shut master)
due-all master due = sym (due-first (marks_shut master) (due-marked master.log ∙ due))

-- where none is due, and the phase went on
module _ (master : Master) (undue : close_is_due master.log ≡ false) where
  all-rules : follow_up (marks_shut master) ≡ option_or (follows_phase (marks_shut master)) (follows_rest (marks_shut master))
  all-rules = undue-rules (marks_shut master) (due-marked master.log ∙ undue)

  pub went-did : true ≡ did (follows_phase (marks_shut master)) → true ≡ did (follow_up (marks_shut master))
  went-did went = went ∙ sym (done-first (marks_shut master) _ _ _ all-rules went).0

  pub went-still : true ≡ did (follows_phase (marks_shut master)) →
      or_still (marks_shut master) (follows_phase (marks_shut master)) ≡ or_still (marks_shut master) (follow_up (marks_shut master))
  went-still went = sym (done-first (marks_shut master) _ _ _ all-rules went).1

  -- where it did not, the others are left
  pub stays-all : false ≡ did (follows_phase (marks_shut master)) →
      follows_rest (marks_shut master) ≡ follow_up (marks_shut master)
  stays-all stays = sym (done-rest (marks_shut master) _ _ _ all-rules stays).1

  pub stays-still : false ≡ did (follows_phase (marks_shut master)) →
      or_still (marks_shut master) (follows_phase (marks_shut master)) ≡ (marks_shut master, [])
  stays-still stays = ap (or_still (marks_shut master)) (done-rest (marks_shut master) _ _ _ all-rules stays).0
