-- Which commands come of lines without options alone.
use Rattle.std.proofs.Common.{◌≡◌, ◌∙◌, ◌&&◌, ◌||◌, ⊎_elim, ℕ, Bool, true, false, not, List, [], ◌∷◌}
use Rattle.std.proofs.Common.{Option, Some, None}
use Rattle.std.proofs.Common.{codes, refl, sym, ap, ap₂, subst, true≢false, option_map, is_some, cond}
use Rattle.std.specs.Option.{option_map_or}
use Rattle.std.specs.Prelude.{option_and_then, if◌then◌else◌}
use Rattle.std.specs.Str.{bytes_eq}
use Rattle.clap.specs.Kinds.{Kinds}
use Rattle.clap.specs.Walk.{Row, Text, first_of}
use Rattle.clap.specs.Simple.{rows_at}
use Rattle.clap.specs.Faults.{fault_of}
use Rattle.clap.proofs.OnLiterals.{clap_on_literals}
use Rattle.clap.proofs.WalkLemmas.{both}
use Rattle.rc_commands.specs.declared.asking.Asked.{Asked}
use Rattle.rc_commands.specs.declared.asking.Asked.TheVariants as asked
use Rattle.rc_commands.specs.Asking.{asked_in, begins_with_help, command_in, drawn_by, explore_by, is_alone, is_end}
use Rattle.rc_commands.specs.Asking.{drawing_in, has_flag, has_option, is_sized, number_given, number_or, seed_given}
use Rattle.rc_commands.specs.Asking.{seeds_given, seeds_or_first, stops_in, where_taken}
use Rattle.rc_commands.specs.Numbers.{decimal_in}
use Rattle.rc_commands.specs.Commands.{ramseg}
use Rattle.rc_commands.proofs.EachCommand as each
use Rattle.rc_commands.proofs.EachCommand.{Command, name_of, shape_of}
use Rattle.rc_commands.proofs.Words.{asks, leaf, tells, text_tells}
use Rattle.rc_commands.proofs.Lines.{by_command, empty_told, faults_at, found, line, told}
use Rattle.rc_commands.proofs.AfterOptions.{HasOptions, none_first, run_given, run_options, value_given}
use Rattle.rc_commands.proofs.Texts.{After, after, agrees, ended, no_options}

-- ---- the command, by its words

abbrev asked_by : Kinds → Option (Text × List Row) → Option Asked
asked_by faults found = where_taken faults (option_and_then (λ p. command_in p.0 p.1) found)

-- what a command makes of the words after it, where `clap` takes them
abbrev made : Command → List Text → Option Asked
made c rest = command_in (leaf (shape_of c)).name (rows_at (leaf (shape_of c)) rest).1

asked_is : (c : Command) (rest : List Text) → asked_in (name_of c ∷ rest) ≡ where_taken (faults_at (shape_of c) rest) (made c rest)
asked_is c rest = ap₂ asked_by (line c rest) (found c rest)

-- ---- the word of an answer

abbrev word_of : Asked → Text
word_of (asked.Run heap) = codes "run"
word_of asked.Trace = codes "trace"
word_of asked.Audit = codes "audit"
word_of asked.History = codes "history"
word_of asked.Check = codes "check"
word_of (asked.Fuzz seed steps free) = codes "fuzz"
word_of (asked.Stops seed steps) = codes "stops"
word_of (asked.StopsExplored drawing) = codes "stops"
word_of (asked.Threads hosts writes) = codes "threads"
word_of (asked.Shrink keep) = codes "shrink"
word_of asked.Log = codes "log"
word_of (asked.Heal power_cycle) = codes "heal"
word_of (asked.Tell text) = []
word_of (asked.Wrong text) = []
word_of _ = codes "explore"

-- an answer, if there is one, has this word
record IsNamed (name : Text) (o : Option Asked) : Type 0 where
  is : (a : Asked) → o ≡ Some a → word_of a ≡ name

module _ (name : Text) where
  nothing : IsNamed name None
  nothing = record { is = λ a e. absurd (cc) }

  answer : (a : Asked) → word_of a ≡ name → IsNamed name (Some a)
  answer a is = record { is = λ b e. ap (λ o. option_map_or word_of o name) (sym e) ∙ is }

  chain : {X : Type 0} (f : X → Option Asked) (o : Option X) → ((x : X) → IsNamed name (f x)) → IsNamed name (option_and_then f o)
  chain f None each_is = nothing
  chain f (Some x) each_is = each_is x

  with : {X : Type 0} (f : X → Asked) (o : Option X) → ((x : X) → word_of (f x) ≡ name) → IsNamed name (option_map f o)
  with f None each_is = nothing
  with f (Some x) each_is = answer (f x) (each_is x)

  either : (b : Bool) (x y : Option Asked) → IsNamed name x → IsNamed name y → IsNamed name (cond b x y)
  either true x y e f = e
  either false x y e f = f

stops_named : (rows : List Row) → IsNamed (codes "stops") (stops_in rows)
stops_named rows = either _ (has_flag (codes "explored") rows) _ _
    (chain _ _ (number_or 1 (codes "seed") 0 18446744073709551615 rows) (λ seed.
    with _ _ (drawing_in seed 300 1000 rows) (λ drawing. refl)))
    (either _ (is_sized rows) _ _ (nothing _) (chain _ _ (seed_given rows) (λ seed.
    with _ _ (number_given (codes "steps") 0 1000 rows) (λ steps. refl))))

drawn_named : (seeds : Option (ℕ × ℕ)) (rows : List Row) → IsNamed (codes "explore") (drawn_by seeds rows)
drawn_named None rows = chain _ _ (number_or 1 (codes "seed") 0 18446744073709551615 rows) (λ seed.
    with _ _ (drawing_in seed 2000 100000 rows) (λ drawing. refl))
drawn_named (Some seeds) rows = either _ (has_option (codes "seed") rows || has_flag (codes "save") rows) _ _ (nothing _)
    (with _ _ (drawing_in seeds.0 2000 100000 rows) (λ drawing. refl))

explore_named : (goal : Option Text) (rows : List Row) → IsNamed (codes "explore") (explore_by goal rows)
explore_named None rows = chain _ _ (seeds_given rows) (λ seeds. drawn_named seeds rows)
explore_named (Some goal) rows = either _ (has_option (codes "seed") rows) _ _ (nothing _)
    (chain _ _ (seeds_or_first rows) (λ seeds.
    with _ _ (drawing_in seeds.0 2000 100000 rows) (λ drawing. refl)))

named : (c : Command) (rows : List Row) → IsNamed (name_of c) (command_in (leaf (shape_of c)).name rows)
named each.run rows = with _ _ (number_given (codes "heap") 16 1048576 rows) (λ heap. refl)
named each.trace rows = answer _ _ refl
named each.audit rows = answer _ _ refl
named each.fuzz rows = chain _ _ (seed_given rows) (λ seed.
    with _ _ (number_given (codes "steps") 0 100000 rows) (λ steps. refl))
named each.stops rows = stops_named rows
named each.threads rows = chain _ _ (number_or 4 (codes "hosts") 3 16 rows) (λ hosts.
    with _ _ (number_or 10 (codes "writes") 0 1000 rows) (λ writes. refl))
named each.explore rows = explore_named (first_of (codes "until") rows) rows
named each.log rows = answer _ _ refl
named each.shrink rows = with _ _ (first_of (codes "keep") rows) (λ keep. refl)
named each.heal rows = answer _ _ refl
named each.history rows = answer _ _ refl
named each.check rows = answer _ _ refl

-- ---- the word of an answer is the line's first

faulty : (faults : Kinds) (x : Option Asked) (t : Bool) → tells t faults ≡ true → where_taken faults x ≡ None
faulty [] x t e = absurd (true≢false (sym e))
faulty (k ∷ ks) x t e = refl

of_help : (rest : List Text) → asked_in (codes "help" ∷ rest) ≡ None
unfolding clap_on_literals
of_help rest = refl

of_none : asked_in [] ≡ None
of_none = faulty (fault_of ramseg []) _ false empty_told

begins : (a : Asked) (word : Text) (rest : List Text) → asked_in (word ∷ rest) ≡ Some a → word_of a ≡ word
begins a word rest = by_command (λ w. asked_in (w ∷ rest) ≡ Some a → word_of a ≡ w)
    (λ c e. by_faults (name_of c) (faults_at (shape_of c) rest) (made c rest) (named c (rows_at (leaf (shape_of c)) rest).1)
    (sym (asked_is c rest) ∙ e))
    (λ e. no_answer (sym (of_help rest) ∙ e))
    (λ w no_name no_help e. no_answer (sym (faulty (fault_of ramseg (w ∷ rest)) _ (asks true w)
    (told w rest no_name no_help)) ∙ e)) word
  where
    no_answer : {X : Type 0} → None ≡ Some a → X
    no_answer e = absurd (cc)

    by_faults : (name : Text) (faults : Kinds) (x : Option Asked) → IsNamed name x → where_taken faults x ≡ Some a
        → word_of a ≡ name
    by_faults name [] x named_is e = named_is.is a e
    by_faults name (k ∷ ks) x named_is e = no_answer e

-- ---- commands that come of their words alone

-- where no fault comes, nothing stands after the command
clean : (a : Asked) (alone text : Bool) (faults : Kinds) (x : Option Asked) → agrees alone text faults ≡ true →
    where_taken faults x ≡ Some a → alone ≡ true
clean a alone text [] x e h = (both alone (not text) e).0
clean a alone text (k ∷ ks) x e h = absurd (cc)

only : (c : Command) (a : Asked) → word_of a ≡ name_of c → bytes_eq (name_of c) (name_of c) ≡ true →
    ((rest : List Text) → where_taken (faults_at (shape_of c) rest) (made c rest) ≡ Some a → is_end rest ≡ true) →
    (words : List Text) → asked_in words ≡ Some a → is_alone (name_of c) words ≡ true
only c a is same ends [] e = absurd (let bad = sym of_none ∙ e in cc)
only c a is same ends (word ∷ rest) e =
    subst (λ w. asked_in (w ∷ rest) ≡ Some a → is_alone (name_of c) (w ∷ rest) ≡ true) (sym is ∙ begins a word rest e)
    (λ h. ap (λ b. b && is_end rest) same ∙ ends rest (sym (asked_is c rest) ∙ h)) e

pub trace_only : (words : List Text) → asked_in words ≡ Some asked.Trace → is_alone (codes "trace") words ≡ true
trace_only = only each.trace asked.Trace refl refl
    (λ rest h. clean asked.Trace (is_end rest) (begins_with_help rest) _ _ (after each.trace rest (no_options rest)) h)

pub audit_only : (words : List Text) → asked_in words ≡ Some asked.Audit → is_alone (codes "audit") words ≡ true
audit_only = only each.audit asked.Audit refl refl
    (λ rest h. clean asked.Audit (is_end rest) (begins_with_help rest) _ _ (after each.audit rest (no_options rest)) h)

-- options with values do not come of the words alone
module _ (c : Command) (given : List Row → Bool) (has : HasOptions (leaf (shape_of c)) given) (a : Asked)
    (bare : (rows : List Row) → given rows ≡ true → command_in (leaf (shape_of c)).name rows ≡ Some a → ⊥) where
  no_value : (word : Text) (rest : List Text) → bytes_eq word (codes "--") ≡ false → (faults : Kinds) →
      faults_at (shape_of c) (word ∷ rest) ≡ faults → where_taken faults (made c (word ∷ rest)) ≡ Some a → ⊥
  no_value word rest other [] e h = bare _ (value_given (leaf (shape_of c)) given has word rest other (none_first _ [] e).0) h
  no_value word rest other (k ∷ ks) e h = cc

  alone_ends : (rest : List Text) → where_taken (faults_at (shape_of c) rest) (made c rest) ≡ Some a → is_end rest ≡ true
  alone_ends [] h = refl
  alone_ends (word ∷ rest) h = ⊎_elim {C = is_end (word ∷ rest) ≡ true}
      (λ e. clean a (is_end (word ∷ rest)) _ _ _ (subst (λ w. After (shape_of c) (w ∷ rest)) (sym e.1) (ended c rest)) h)
      (λ other. absurd (no_value word rest other _ refl h)) (text_tells word (codes "--"))

-- a heap that was given is a number, or refused
pub run_only : (words : List Text) → asked_in words ≡ Some (asked.Run None) → is_alone (codes "run") words ≡ true
run_only = only each.run (asked.Run None) refl refl (alone_ends each.run run_given run_options (asked.Run None)
    (λ rows. bare (first_of (codes "heap") rows)))
  where
    bare : (heap : Option Text) → is_some heap ≡ true → option_map asked.Run
        (option_map_or (λ t. option_map Some (decimal_in 16 1048576 t)) heap (Some None)) ≡ Some (asked.Run None) → ⊥
    bare None some e = true≢false (sym some)
    bare (Some t) some e = go (decimal_in 16 1048576 t) e
      where
        go : (n : Option ℕ) → option_map asked.Run (option_map Some n) ≡ Some (asked.Run None) → ⊥
        go None e = cc
        go (Some bytes) e = cc
