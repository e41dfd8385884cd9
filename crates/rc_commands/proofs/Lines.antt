-- What `clap` makes of a command line.
use Rattle.std.proofs.Common.{◌≡◌, ◌∙◌, ⊎_elim, is_some, map, option_map, ◌||◌, true, false, List, [], ◌∷◌}
use Rattle.std.proofs.Common.{Option, Some, None, codes}
use Rattle.std.proofs.Common.{refl, sym, ap, ap₂, subst, true≢false}
use Rattle.std.specs.List.{fold, list_any}
use Rattle.std.specs.Prelude.{find}
use Rattle.std.specs.Str.{bytes_eq}
use Rattle.clap.specs.Kinds.{Kinds, or_else}
use Rattle.clap.specs.Lexer.{long_of}
use Rattle.std.specs.Option.{option_map_or}
use Rattle.clap.specs.Walk.{answers_to, Row, finished, settled, walked, Names, Text, Walk, nothing_held, walk_from, idle, subcommand_met}
use Rattle.clap.specs.Simple.{Shape, entered, label_of, names_of, built, is_simple, rows_at, subcommand_of}
use Rattle.clap.specs.Faults.{check_fault, defaults_fault, settle_fault, fault_of, is_simple_and_free, turn_fault, walk_fault}
use Rattle.clap.specs.Faults.{level_fault, entered_fault}
use Rattle.clap.proofs.FaultLemmas.{stopped_fault}
use Rattle.clap.proofs.WalkLemmas.{walk_stopped}
use Rattle.clap.proofs.OnLiterals.{clap_on_literals}
use Rattle.rc_commands.specs.Asking.{is_command, is_option}
use Rattle.rc_commands.specs.Commands.{ramseg}
use Rattle.rc_commands.proofs.EachCommand as each
use Rattle.rc_commands.proofs.EachCommand.{Command, commands, name_of, shape_of}
use Rattle.rc_commands.proofs.Words.{asks, leaf, line_told, tells, text_tells, top, top_is}

pub is_plain : is_simple_and_free ramseg ≡ true
unfolding clap_on_literals
is_plain = refl

pub is_known : is_simple ramseg ≡ true
unfolding clap_on_literals
is_known = refl

-- ---- a line that begins with a command

-- after a command the words are for it
abbrev pub faults_at : Shape → List Text → Kinds
faults_at s words = or_else (level_fault (leaf s) [] nothing_held words false []) []

abbrev top_names : Names
top_names = names_of (built ramseg)

abbrev fault_at : Kinds → Walk → Kinds
fault_at faults end = or_else faults
    (or_else (entered_fault (built ramseg) end.stopped)
    (or_else (settle_fault top.rules top.args_override_self end.held)
    (or_else (defaults_fault (settled top.rules end.held).rows top.rules)
    (check_fault top (finished top.rules end.held) (is_some (entered (built ramseg) end.stopped))))))

abbrev found_at : Walk → Option (Text × List Row)
found_at end = entered (built ramseg) end.stopped

-- the program's walk stops at the command's name
record IsMet (name : Text) (s : Shape) : Type 0 where
  is_listed : is_command name ≡ true
  no_fault : turn_fault top top_names (walk_from nothing_held) name ≡ []
  stopped : walked top.rules top_names (walk_from nothing_held) name ≡ record (walk_from nothing_held) { stopped = Some (name, []) }
  found : find (λ s. answers_to name (label_of s)) (built ramseg).subs ≡ Some (leaf s)

met : (c : Command) → IsMet (name_of c) (shape_of c)
unfolding walked
met each.run = record { is_listed = refl; no_fault = refl; stopped = refl; found = refl }
met each.trace = record { is_listed = refl; no_fault = refl; stopped = refl; found = refl }
met each.audit = record { is_listed = refl; no_fault = refl; stopped = refl; found = refl }
met each.fuzz = record { is_listed = refl; no_fault = refl; stopped = refl; found = refl }
met each.stops = record { is_listed = refl; no_fault = refl; stopped = refl; found = refl }
met each.threads = record { is_listed = refl; no_fault = refl; stopped = refl; found = refl }
met each.explore = record { is_listed = refl; no_fault = refl; stopped = refl; found = refl }
met each.log = record { is_listed = refl; no_fault = refl; stopped = refl; found = refl }
met each.shrink = record { is_listed = refl; no_fault = refl; stopped = refl; found = refl }
met each.heal = record { is_listed = refl; no_fault = refl; stopped = refl; found = refl }
met each.history = record { is_listed = refl; no_fault = refl; stopped = refl; found = refl }
met each.check = record { is_listed = refl; no_fault = refl; stopped = refl; found = refl }

pub listed : (c : Command) → is_command (name_of c) ≡ true
listed c = (met c).is_listed

module _ (c : Command) (words : List Text) where
  abbrev entered_at : Option Shape → Kinds
  entered_at found = or_else (option_map_or (λ s. level_fault s [] nothing_held words false []) found [])
      (check_fault top (finished top.rules nothing_held) (is_some (option_map (λ s. rows_at s words) found)))

  pub line : fault_of ramseg (name_of c ∷ words) ≡ faults_at (shape_of c) words
  unfolding walk_fault defaults_fault
  line = ap₂ (λ now w. fault_at (or_else now (walk_fault top top_names w words)) (fold (walked top.rules top_names) w words))
      (met c).no_fault (met c).stopped
      ∙ ap₂ fault_at (stopped_fault top top_names (walk_from nothing_held) (name_of c, []) words)
      (sym (walk_stopped top.rules top_names (walk_from nothing_held) (name_of c) [] words))
      ∙ ap entered_at (met c).found

  pub found : subcommand_of ramseg (name_of c ∷ words) ≡ Some (rows_at (leaf (shape_of c)) words)
  found = ap (λ w. found_at (fold (walked top.rules top_names) w words)) (met c).stopped
      ∙ ap found_at (sym (walk_stopped top.rules top_names (walk_from nothing_held) (name_of c) [] words))
      ∙ ap (option_map (λ s. rows_at s words)) (met c).found

-- ---- other lines

-- what `clap` tells of a line that begins with no command, and not with `help`
abbrev Told : Text → List Text → Type 0
Told word rest = tells (asks true word) (fault_of ramseg (word ∷ rest)) ≡ true

ended : (rest : List Text) → Told (codes "--") rest
unfolding clap_on_literals
ended [] = refl
ended (word ∷ rest) = refl

pub empty_told : tells false (fault_of ramseg []) ≡ true
unfolding clap_on_literals
empty_told = refl

pub no_option : (word : Text) → is_option [] word ≡ false
no_option word = go (long_of word)
  where
    go : (o : Option (Text × Option Text)) → option_map_or (λ (flag : Text × Option Text). false) o false ≡ false
    go None = refl
    go (Some flag) = refl

module _ (word : Text) (rest : List Text) (none : is_command word ≡ false) (no_help : bytes_eq (codes "help") word ≡ false) where
  no_name : (c : Command) → bytes_eq (name_of c) word ≡ false
  no_name c =
      ⊎_elim (λ it. absurd (true≢false (sym (listed c) ∙ ap is_command it.1 ∙ none))) (λ e. e)
      (text_tells (name_of c) word)

  no_command : subcommand_met top_names idle word ≡ None
  no_command = rw (
    no_name each.run,
    no_name each.trace,
    no_name each.audit,
    no_name each.fuzz,
    no_name each.stops,
    no_name each.threads,
    no_name each.explore,
    no_name each.log,
    no_name each.shrink,
    no_name each.heal,
    no_name each.history,
    no_name each.check,
    no_help,
  ) refl

  pub told : Told word rest
  told = ⊎_elim {C = Told word rest} (λ h. subst (λ w. Told w rest) (sym h.1) (ended rest))
      (λ other. line_told top true [] top_is top_names word rest _ _ no_command (no_option word) other) (text_tells word (codes "--"))

-- ---- by the first word

-- what holds of a line by its first word, if it holds of each command's, of those of `help`, and of those of neither
pub by_command : (P : Text → Type 0) → ((c : Command) → P (name_of c)) → P (codes "help") →
    ((word : Text) → is_command word ≡ false → bytes_eq (codes "help") word ≡ false → P word) → (word : Text) → P word
by_command P each_is help other word = go commands (λ none.
    ⊎_elim (λ it. subst P it.1 help) (λ no_help. other word none no_help) (text_tells (codes "help") word))
  where
    go : (cs : List Command) → (list_any (λ name. bytes_eq name word) (map name_of cs) ≡ false → P word) → P word
    go [] none = none refl
    go (c ∷ cs) none = ⊎_elim (λ it. subst P it.1 (each_is c))
        (λ no_name. go cs (λ more. none (ap (λ b. b || list_any (λ name. bytes_eq name word) (map name_of cs)) no_name ∙ more)))
        (text_tells (name_of c) word)
