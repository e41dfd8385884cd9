-- A line that goes on past a command whose options all have values is refused, or gives one of them a value.
use Rattle.std.proofs.Common.{◌≡◌, ◌∙◌, ◌⊎◌, inl, inr, ⊎_elim, ◌||◌, ◌==◌, ℕ, Bool, true, false, List}
use Rattle.std.proofs.Common.{[], ◌∷◌, ◌++◌, length, drop}
use Rattle.std.proofs.Common.{Option, Some, None, codes, is_some, nat_lt, refl, sym, ap, subst, true≢false, option_map}
use Rattle.std.specs.List.{fold, list_all}
use Rattle.std.specs.Option.{option_map_or}
use Rattle.std.specs.Prelude.{encode_utf8, slice_get, if◌then◌else◌}
use Rattle.std.specs.Str.{bytes_eq, chars}
use Rattle.clap.specs.Lexer.{long_of, short_of}
use Rattle.clap.specs.Kinds.{Kinds, or_else}
use Rattle.clap.specs.declared.parser.matches.ValueSource.{ValueSource}
use Rattle.clap.specs.declared.parser.matches.ValueSource.TheVariants.{CommandLine}
use Rattle.clap.specs.declared.builder.value_parser.Reading.{Reading}
use Rattle.clap.specs.Walk.{Held, Outcome, Row, Rule, Step, Text, Waiting, Walk, after_flag, after_step, arg_by_id, arg_by_long, bundle_met}
use Rattle.clap.specs.Walk.{bundle_step, default_rows, done, finished, first_of, has_row, idle, long_met, long_or_other}
use Rattle.clap.specs.Walk.{most_values, next, nothing_held, option, option_word, pending_count, plain, plain_word, reading_by, settled}
use Rattle.clap.specs.Walk.{short_met, short_or_plain, trailing, used, used_by_id, value, walk, walk_from, walked, with_default}
use Rattle.clap.specs.Walk.{with_values, without}
use Rattle.clap.specs.Simple.{Shape, filled}
use Rattle.clap.specs.Faults.{bundle_fault, bundle_step_fault, flag_word_fault, flags_fault, level_fault, long_fault, stray_fault}
use Rattle.clap.specs.Faults.{positional_fault, settle_fault, short_fault, step_fault, turn_fault, use_fault, walk_fault}
use Rattle.clap.proofs.OnLiterals.{clap_on_literals}
use Rattle.clap.proofs.WalkLemmas.{both}
use Rattle.rc_commands.specs.Commands as command
use Rattle.rc_commands.proofs.EachCommand as each
use Rattle.rc_commands.proofs.Words.{IsLevel, flag_of, help, leaf, level_of, tells}

-- ---- the level of such a command

abbrev rule : Text → Rule
rule name = filled (command.option name)

-- an option of this name: its value is one that is given
record IsOption (s : Shape) (given : List Row → Bool) (name : Text) : Type 0 where
  same : bytes_eq name name ≡ true
  found : arg_by_id s.rules name ≡ Some (rule name)
  gives : (rows : List Row) → is_some (first_of name rows) ≡ true → given rows ≡ true

-- what a long name finds: nothing, the flag for help, or an option
abbrev Finds : Shape → (List Row → Bool) → Option Rule → Type 0
Finds s given found = (found ≡ None) ⊎ ((found ≡ Some help)
    ⊎ ((name : Text) × IsOption s given name × (found ≡ Some (rule name))))

abbrev is_none : List Text → Bool
is_none [] = true
is_none (x ∷ xs) = false

-- options with values, of which `given` says whether one was given, and the flag for help
pub record HasOptions (s : Shape) (given : List Row → Bool) : Type 0 where
  options : List Text
  level : IsLevel s false options
  one : Text
  is_one : IsOption s given one
  long : (name : Text) → Finds s given (arg_by_long s.rules name)
  bare : list_all (λ a. is_none a.defaults) s.rules ≡ true

-- ---- where the walk stands

abbrev waiting : Text → Bool → Waiting
waiting name waits = if waits then option name else idle

abbrev held : Text → List Row → Option (List Text) → Held
held name rows values = record { rows = rows; pending = option_map (λ v. (name, v)) values; skip = 0 }

abbrev at : Text → List Row → Option (List Text) → Bool → Bool → Walk
at name rows values waits is_trailing = record {
  held = held name rows values;
  waiting = waiting name waits;
  position = 1;
  is_trailing = is_trailing;
  stopped = None;
}

-- an option has a value, or waits for one
record State (s : Shape) (given : List Row → Bool) (w : Walk) : Type 0 where
  name : Text
  is_option : IsOption s given name
  rows : List Row
  values : Option (List Text)
  waits : Bool
  is_trailing : Bool
  is : w ≡ at name rows values waits is_trailing
  has : (is_some values || given rows) ≡ true

abbrev fails : Kinds → Bool
fails [] = false
fails (k ∷ ks) = true

fails_later : (a b : Kinds) → fails b ≡ true → fails (or_else a b) ≡ true
fails_later [] b e = e
fails_later (k ∷ ks) b e = refl

fails_first : (a b : Kinds) → fails a ≡ true → fails (or_else a b) ≡ true
fails_first [] b e = absurd (true≢false (sym e))
fails_first (k ∷ ks) b e = refl

told_fails : (kinds : Kinds) → tells false kinds ≡ true → fails kinds ≡ true
told_fails [] e = absurd (true≢false (sym e))
told_fails (k ∷ ks) e = refl

pub none_first : (a b : Kinds) → or_else a b ≡ [] → (a ≡ []) × (b ≡ [])
none_first [] b e = (refl, e)
none_first (k ∷ ks) b e = absurd (true≢false (ap fails e))

-- a value that was written is there
first_more : (values rest : List Text) (v : Text) → is_some (slice_get (values ++ v ∷ rest) 0) ≡ true
first_more [] rest v = refl
first_more (x ∷ xs) rest v = refl

has_value : (name : Text) → bytes_eq name name ≡ true → (how : Reading) (source : ValueSource) (v : Text)
    (vs : List Text) (rows : List Row) → is_some (first_of name (with_values name how source (v ∷ vs) rows)) ≡ true
has_value name same how source v vs [] = rw same refl
has_value name same how source v vs (r ∷ rs) = go (bytes_eq r.id name) refl (has_value name same how source v vs rs)
  where
    go : (b : Bool) → b ≡ bytes_eq r.id name → is_some (first_of name (with_values name how source (v ∷ vs) rs)) ≡ true
        → is_some (first_of name (with_values name how source (v ∷ vs) (r ∷ rs))) ≡ true
    go true e more = rw (← e, ← e) (first_more r.values vs v)
    go false e more = rw (← e, ← e) more

-- options without defaults add no rows
no_defaults : (rules : List Rule) → list_all (λ a. is_none a.defaults) rules ≡ true → (rows : List Row) →
    fold with_default rows rules ≡ rows
no_defaults [] e rows = refl
no_defaults (a ∷ rest) e rows =
    let parts = both (is_none a.defaults) (list_all (λ a. is_none a.defaults) rest) e in
    ap (λ r. fold with_default r rest) (same (has_row a.id rows) a.defaults parts.0) ∙ no_defaults rest parts.1 rows
  where
    same : (b : Bool) (defaults : List Text) → is_none defaults ≡ true →
        (if b then rows else default_rows a.id (reading_by a) defaults rows) ≡ rows
    same true defaults e = refl
    same false [] e = refl
    same false (x ∷ xs) e = absurd (true≢false (sym e))

module _ (s : Shape) (given : List Row → Bool) (has : HasOptions s given) where
  abbrev Out : Kinds × Walk → Type 0
  Out p = (fails p.0 ≡ true) ⊎ State s given p.1

  abbrev again : Bool
  again = s.args_override_self

  -- no word stands by itself
  strays : (h : Held) → fails (step_fault s 1 h value) ≡ true
  strays h = ap (λ found. fails (option_map_or (λ a. positional_fault s.rules again a h) found (stray_fault s))) has.level.positional
      ∙ told_fails (stray_fault s) has.level.strays

  -- a value that was written is given
  has_used : (n : Text) → IsOption s given n → (v : Text) (vs : List Text) (rows : List Row)
      → given (used (rule n) (v ∷ vs) rows) ≡ true
  has_used n is v vs rows = is.gives (used (rule n) (v ∷ vs) rows)
      (has_value n is.same (reading_by (rule n)) CommandLine v vs (without n rows))

  -- ---- one word

  module _ (name : Text) (is : IsOption s given name) (rows : List Row) (word : Text) where
    module _ (waits : Bool) (values : Option (List Text)) where
      abbrev here : Held
      here = held name rows values

      abbrev by_step : Kinds → Held × Step → Kinds × Walk
      by_step faults met =
          (or_else faults (step_fault s 1 met.0 met.1), after_step s.rules word (at name rows values waits false) met.0 met.1)

      abbrev by_flag : Option (Text × Option Text) → Kinds × Walk
      by_flag o = by_step (flag_word_fault s.rules again o word here) (long_or_other s.rules (waiting name waits) word o here)

      abbrev by_dashes : Bool → Kinds × Walk
      by_dashes b = by_step (if b then [] else flag_word_fault s.rules again (long_of word) word here)
          (if b then (here, trailing 1) else long_or_other s.rules (waiting name waits) word (long_of word) here)

      abbrev by_met : Kinds → Held × Outcome → Kinds × Walk
      by_met faults met = by_step faults (after_flag s.rules (waiting name waits) word met.0 met.1)

      abbrev by_found : Option Text → Option Rule → Kinds × Walk
      by_found v found = by_met (long_fault s.rules again found v here) (long_met s.rules found v here)

      abbrev by_letters : Option Text → Kinds × Walk
      by_letters o = by_step (option_map_or (λ flags. bundle_fault s.rules again flags here) o [])
          (short_or_plain s.rules (waiting name waits) word o here)

      abbrev by_first : Text → ℕ → Option ℕ → Kinds × Walk
      by_first flags n o = by_met (bundle_step_fault s.rules again o flags 0 here (flags_fault s.rules again n))
          (bundle_step s.rules o flags 0 plain here (bundle_met s.rules n))

      abbrev by_short : Text → ℕ → Option Rule → Kinds × Walk
      by_short rest n found = by_met (short_fault s.rules again found rest here (flags_fault s.rules again n rest 0))
          (short_met s.rules found rest here (bundle_met s.rules n rest 0 done))

      out_named : (n : Text) → IsOption s given n → (v : Option Text) → Out (by_found v (Some (rule n)))
      out_named n is_n (Some v) = inr (record {
        name = n;
        is_option = is_n;
        rows = used (rule n) (v ∷ []) (settled s.rules here).rows;
        values = None;
        waits = false;
        is_trailing = false;
        is = refl;
        has = has_used n is_n v [] (settled s.rules here).rows;
      })
      out_named n is_n None = inr (record {
        name = n;
        is_option = is_n;
        rows = (settled s.rules here).rows;
        values = Some [];
        waits = true;
        is_trailing = false;
        is = refl;
        has = refl;
      })

      out_help : (v : Option Text) → Out (by_found v (Some help))
      out_help (Some v) = inl refl
      out_help None = inl (fails_first _ _ (fails_later (settle_fault s.rules again here) _ refl))

      out_found : (v : Option Text) (found : Option Rule) → Finds s given found → Out (by_found v found)
      out_found v found finds =
          ⊎_elim (λ e. subst (λ f. Out (by_found v f)) (sym e) (inl refl))
          (λ more. ⊎_elim (λ e. subst (λ f. Out (by_found v f)) (sym e) (out_help v))
          (λ t. subst (λ f. Out (by_found v f)) (sym t.2) (out_named t.0 t.1 v)) more) finds

      taken : (vs : List Text) → Out (by_step [] (
        held name rows (Some (vs ++ word ∷ [])),
        next (waiting name (nat_lt (pending_count (rule name) (Some (name, vs ++ word ∷ []))) (most_values (rule name)))),
      ))
      taken vs = inr (record {
        name = name;
        is_option = is;
        rows = rows;
        values = Some (vs ++ word ∷ []);
        waits = nat_lt (pending_count (rule name) (Some (name, vs ++ word ∷ []))) (most_values (rule name));
        is_trailing = false;
        is = refl;
        has = refl;
      })

      -- the option that waits for a value takes the word
      out_value : (vs : Option (List Text)) → Out (by_step [] (
        (option_word (Some (rule name)) name word (held name rows vs)).0,
        next (option_word (Some (rule name)) name word (held name rows vs)).1,
      ))
      out_value None = taken []
      out_value (Some vs) = taken vs

      -- a word that is no flag
      out_plain : Out (by_step [] (plain_word s.rules (waiting name waits) word here))
      out_plain = go waits
        where
          go : (b : Bool) → Out (by_step [] (plain_word s.rules (waiting name b) word here))
          go true = subst (λ found. Out (by_step [] ((option_word found name word here).0, next (option_word found name word here).1)))
              (sym is.found) (out_value values)
          go false = inl (strays here)

      out_short : (rest : Text) (n : ℕ) (is_help : Bool) → Out (by_short rest n (flag_of is_help false))
      out_short rest n true = inl (fails_first _ _ (fails_first _ _ (fails_later (settle_fault s.rules again here) _ refl)))
      out_short rest n false = inl refl

      out_first : (flags : Text) (n : ℕ) (o : Option ℕ) → Out (by_first flags n o)
      out_first flags n None = out_plain
      out_first flags n (Some x) =
          let rest = drop (length (encode_utf8 x)) flags in
          subst (λ f. Out (by_short rest n f)) (sym (has.level.short x)) (out_short rest n (104 == x))

      out_letters : (o : Option Text) → Out (by_letters o)
      unfolding flags_fault bundle_met chars
      out_letters None = out_plain
      out_letters (Some []) = out_plain
      out_letters (Some (y ∷ ys)) = out_first (y ∷ ys) (length ys) (slice_get (chars (y ∷ ys)) 0)

      out_flag : (o : Option (Text × Option Text)) → Out (by_flag o)
      out_flag None = out_letters (short_of word)
      out_flag (Some p) = out_found p.1 (arg_by_long s.rules p.0) (has.long p.0)

    abbrev turn : Walk → Kinds × Walk
    turn w = (turn_fault s [] w word, walked s.rules [] w word)

    turn_is : (waits : Bool) (values : Option (List Text)) →
        turn (at name rows values waits false) ≡ by_dashes waits values (bytes_eq word (codes "--"))
    unfolding walked
    turn_is true values = refl
    turn_is false values = refl

    -- a word other than `--`
    out_word : (waits : Bool) (values : Option (List Text)) → bytes_eq word (codes "--") ≡ false →
        Out (turn (at name rows values waits false))
    out_word waits values other =
        subst Out (sym (turn_is waits values ∙ ap (by_dashes waits values) other)) (out_flag waits values (long_of word))

    -- any word, once an option was there
    out_turn : (waits : Bool) (values : Option (List Text)) (is_trailing : Bool) → (is_some values || given rows) ≡ true
        → Out (turn (at name rows values waits is_trailing))
    out_turn waits values true there = inl (strays (held name rows values))
    out_turn waits values false there = go (bytes_eq word (codes "--")) refl
      where
        go : (b : Bool) → b ≡ bytes_eq word (codes "--") → Out (turn (at name rows values waits false))
        go false e = out_word waits values (sym e)
        go true e = subst Out (sym (turn_is waits values ∙ ap (by_dashes waits values) (sym e))) (inr (record {
          name = name;
          is_option = is;
          rows = rows;
          values = values;
          waits = waits;
          is_trailing = true;
          is = refl;
          has = there;
        }))

  step : (word : Text) (w : Walk) → State s given w → Out (turn_fault s [] w word, walked s.rules [] w word)
  step word w st = subst (λ v. Out (turn_fault s [] v word, walked s.rules [] v word)) (sym st.is)
      (out_turn st.name st.is_option st.rows word st.waits st.values st.is_trailing st.has)

  -- ---- all words

  goes_on : (words : List Text) (w : Walk) → State s given w → walk_fault s [] w words ≡ []
      → State s given (fold (walked s.rules []) w words)
  unfolding walk_fault
  goes_on [] w st e = st
  goes_on (x ∷ xs) w st e =
      let parts = none_first (turn_fault s [] w x) (walk_fault s [] (walked s.rules [] w x) xs) e in
      ⊎_elim (λ f. absurd (true≢false (sym f ∙ ap fails parts.0)))
      (λ on. goes_on xs (walked s.rules [] w x) on parts.1) (step x w st)

  begins : (word : Text) (rest : List Text) → bytes_eq word (codes "--") ≡ false →
      walk_fault s [] (walk_from nothing_held) (word ∷ rest) ≡ []
      → State s given (fold (walked s.rules []) (walk_from nothing_held) (word ∷ rest))
  unfolding walk_fault
  begins word rest other e =
      let w = walk_from nothing_held in
      let parts = none_first (turn_fault s [] w word) (walk_fault s [] (walked s.rules [] w word) rest) e in
      ⊎_elim (λ f. absurd (true≢false (sym f ∙ ap fails parts.0))) (λ on. goes_on rest (walked s.rules [] w word) on parts.1)
      (out_word has.one has.is_one [] word false None other)

  ends : (w : Walk) → State s given w → settle_fault s.rules again w.held ≡ [] → given (finished s.rules w.held) ≡ true
  ends w st e = subst (λ v. settle_fault s.rules again v.held ≡ [] → given (finished s.rules v.held) ≡ true) (sym st.is)
      (λ none. ap given (no_defaults s.rules has.bare (settled s.rules (held st.name st.rows st.values)).rows)
      ∙ go st.values st.has none) e
    where
      go : (values : Option (List Text)) → (is_some values || given st.rows) ≡ true →
          settle_fault s.rules again (held st.name st.rows values) ≡ []
          → given (settled s.rules (held st.name st.rows values)).rows ≡ true
      go None there none = there
      go (Some []) there none = absurd (true≢false
          (ap (λ found. fails (option_map_or (λ a. use_fault again a [] st.rows) found [])) (sym st.is_option.found) ∙ ap fails none))
      go (Some (v ∷ vs)) there none =
          ap (λ found. given (used_by_id found (v ∷ vs) st.rows)) st.is_option.found
          ∙ has_used st.name st.is_option v vs st.rows

  pub value_given : (word : Text) (rest : List Text) → bytes_eq word (codes "--") ≡ false →
      level_fault s [] nothing_held (word ∷ rest) false [] ≡ []
      → given (finished s.rules (walk s.rules [] nothing_held (word ∷ rest)).held) ≡ true
  value_given word rest other e =
      let w = walk s.rules [] nothing_held (word ∷ rest) in
      let parts = none_first (walk_fault s [] (walk_from nothing_held) (word ∷ rest)) _ e in
      ends w (begins word rest other parts.0) (none_first (settle_fault s.rules again w.held) _ parts.1).0

-- ---- the command

abbrev pub run_given : List Row → Bool
run_given rows = is_some (first_of (codes "heap") rows)

pub run_options : HasOptions (leaf command.run.top) run_given
unfolding clap_on_literals
run_options = record {
  options = codes "heap" ∷ [];
  level = level_of each.run;
  one = codes "heap";
  is_one = heap;
  long = λ name. go (bytes_eq (codes "heap") name) (bytes_eq (codes "help") name);
  bare = refl;
}
  where
    heap : IsOption (leaf command.run.top) run_given (codes "heap")
    heap = record { same = refl; found = refl; gives = λ rows e. e }

    go : (is_heap is_help : Bool) → Finds (leaf command.run.top) run_given
        (if is_heap || false then Some (rule (codes "heap")) else (if is_help || false then Some help else None))
    go true is_help = inr (inr (codes "heap", heap, refl))
    go false true = inr (inl refl)
    go false false = inl refl
