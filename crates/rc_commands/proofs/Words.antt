-- What `clap` makes of one word that names no command.
use Rattle.std.proofs.Common.{◌≡◌, ◌∙◌, ◌⊎◌, inl, inr, ⊎_elim, is_some, eqb, ◌==◌, ◌&&◌, ◌||◌, ℕ, Bool, true, false, not, cond, suc}
use Rattle.std.proofs.Common.{arith, ◌+◌, map, take, List, [], ◌∷◌, Option, Some, None, codes, length, refl, sym}
use Rattle.std.proofs.Common.{ap, ap₂, subst, true≢false}
use Rattle.std.proofs.Math.Bool.{or-false}
use Rattle.std.proofs.lemmas.Bool.Decides.{eqb_tells}
use Rattle.std.specs.List.{list_all, list_any, before_first, after_first, prefix_len}
use Rattle.std.specs.Prelude.{drop, encode_utf8, slice_get, if◌then◌else◌}
use Rattle.std.specs.Option.{option_map_or}
use Rattle.std.specs.Str.{bytes_eq, chars}
use Rattle.std.specs.Cmp.Lexicographic.{same_text}
use Rattle.clap.specs.Lexer.{long_of, short_of, has_byte}
use Rattle.clap.specs.Kinds.{Kinds, or_else}
use Rattle.clap.specs.Walk.{arg_by_index, done, short_met, Held, Names, Rule, Step, Text, nothing_held, walk_from}
use Rattle.clap.specs.Walk.{idle, subcommand_met, long_or_other, short_or_plain, after_flag, subcommand_or_other}
use Rattle.clap.specs.Walk.{arg_by_long, arg_by_short, bundle_step, bundle_met, long_met, plain, trailing, value}
use Rattle.clap.specs.Simple.{Shape, built, built_leaf, filled, help_rule, version_rule}
use Rattle.clap.specs.Faults.{positional_fault, short_fault, turn_fault, walk_fault, flag_word_fault, other_fault, step_fault}
use Rattle.clap.specs.Faults.{stray_fault, level_fault, flags_fault, bundle_step_fault, bundle_fault, long_fault}
use Rattle.clap.proofs.OnLiterals.{clap_on_literals}
use Rattle.rc_commands.specs.Asking.{is_help, is_option, is_request, is_version, options_of}
use Rattle.rc_commands.specs.Commands as command
use Rattle.rc_commands.specs.Commands.{ramseg}
use Rattle.rc_commands.proofs.EachCommand as each
use Rattle.rc_commands.proofs.EachCommand.{Command, name_of, shape_of}

-- ---- kinds of errors that all are requests, or none is

abbrev pub same : Bool → Bool → Bool
same true b = b
same false b = not b

abbrev pub tells : Bool → Kinds → Bool
tells t [] = false
tells t (k ∷ ks) = same t (is_request k) && list_all (λ k. same t (is_request k)) ks

pub tells_first : (t : Bool) (now later : Kinds) → tells t now ≡ true → tells t (or_else now later) ≡ true
tells_first t [] later h = absurd (true≢false (sym h))
tells_first t (k ∷ ks) later h = h

-- ---- one word that is no subcommand, and not `--`

module _ (s : Shape) (word : Text) where
  abbrev met : Held × Step → Kinds
  met p = step_fault s 1 p.0 p.1

  abbrev by_name : Option Text → Kinds
  by_name o = or_else (other_fault s o word nothing_held) (met (subcommand_or_other s.rules o idle 1 word nothing_held))

  abbrev by_flag : Option (Text × Option Text) → Kinds
  by_flag o = or_else (flag_word_fault s.rules s.args_override_self o word nothing_held)
      (met (long_or_other s.rules idle word o nothing_held))

  abbrev by_letters : Option Text → Kinds
  by_letters o = or_else (option_map_or (λ flags. bundle_fault s.rules s.args_override_self flags nothing_held) o [])
      (met (short_or_plain s.rules idle word o nothing_held))

  abbrev by_dashes : Bool → Kinds
  by_dashes b = or_else (if b then [] else flag_word_fault s.rules s.args_override_self (long_of word) word nothing_held)
      (met (if b then (nothing_held, trailing 1) else long_or_other s.rules idle word (long_of word) nothing_held))

  turn_is : (names : Names) → subcommand_met names idle word ≡ None → bytes_eq word (45 ∷ 45 ∷ []) ≡ false
      → turn_fault s names (walk_from nothing_held) word ≡ by_flag (long_of word)
  turn_is names none other = ap by_name none ∙ ap by_dashes other

-- ---- the flags of the two levels

abbrev pub help : Rule
help = filled help_rule

abbrev pub version : Rule
version = filled version_rule

abbrev pub top : Shape
top = (built ramseg).top

-- a command below it
abbrev pub leaf : Shape → Shape
leaf s = built_leaf (record s { no_binary_name = true })

-- the flag that has the name: `--help`, else `--version`, else none
abbrev pub flag_of : Bool → Bool → Option Rule
flag_of is_help is_version = if is_help || false then Some help else (if is_version || false then Some version else None)

top_long : (name : Text) → arg_by_long top.rules name ≡ flag_of (bytes_eq (codes "help") name) (bytes_eq (codes "version") name)
unfolding clap_on_literals
top_long name = refl

top_short : (x : ℕ) → arg_by_short top.rules x ≡ flag_of (104 == x) (86 == x)
unfolding clap_on_literals
top_short x = refl

pub or_parts : (a b : Bool) → (a || b) ≡ false → (a ≡ false) × (b ≡ false)
or_parts true b e = absurd (true≢false e)
or_parts false b e = (refl, e)

-- a level of these options and `--help`, and perhaps of `--version`
pub record IsLevel (s : Shape) (has_version : Bool) (options : List Text) : Type 0 where
  pub long : (name : Text) → list_any (λ option. bytes_eq option name) options ≡ false
      → arg_by_long s.rules name ≡ flag_of (bytes_eq (codes "help") name) (has_version && bytes_eq (codes "version") name)
  pub short : (x : ℕ) → arg_by_short s.rules x ≡ flag_of (104 == x) (has_version && (86 == x))
  pub strays : tells false (stray_fault s) ≡ true
  pub positional : arg_by_index s.rules 1 ≡ None

pub top_is : IsLevel top true []
unfolding clap_on_literals
top_is = record { long = λ name _. top_long name; short = top_short; strays = refl; positional = refl }

-- an option that hasn't the name is passed over
passed : (b : Bool) (here past : Option Rule) → b ≡ false → cond (b || false) here past ≡ past
passed b here past e = ap (λ c. cond (c || false) here past) e

-- options and flags of these names, and the flag for help
abbrev rule_by : Bool → Text → Rule
rule_by true name = command.flag name
rule_by false name = command.option name

abbrev rules_by : List (Text × Bool) → List Rule
rules_by [] = help ∷ []
rules_by (x ∷ xs) = filled (rule_by x.1 x.0) ∷ rules_by xs

passes : (xs : List (Text × Bool)) (name : Text) → list_any (λ option. bytes_eq option name) (map (λ x. x.0) xs) ≡ false
    → arg_by_long (rules_by xs) name ≡ flag_of (bytes_eq (codes "help") name) false
unfolding clap_on_literals
passes [] name e = refl
passes (x ∷ xs) name e = here x.1 ∙ passes xs name (or_parts _ _ e).1
  where
    here : (is_flag : Bool) → arg_by_long (filled (rule_by is_flag x.0) ∷ rules_by xs) name ≡ arg_by_long (rules_by xs) name
    here true = passed (bytes_eq x.0 name) _ _ (or_parts _ _ e).0
    here false = passed (bytes_eq x.0 name) _ _ (or_parts _ _ e).0

level_by : (s : Shape) (xs : List (Text × Bool)) → s.rules ≡ rules_by xs
    → ((x : ℕ) → arg_by_short s.rules x ≡ flag_of (104 == x) false)
    → tells false (stray_fault s) ≡ true → arg_by_index s.rules 1 ≡ None → IsLevel s false (map (λ x. x.0) xs)
level_by s xs is short strays positional = record {
  long = λ name e. ap (λ rules. arg_by_long rules name) is ∙ passes xs name e;
  short = short;
  strays = strays;
  positional = positional;
}

-- the name of an option, or of a flag
abbrev an_option : Text → Text × Bool
an_option name = (name, false)

abbrev a_flag : Text → Text × Bool
a_flag name = (name, true)

-- the options of `stops` and `explore` that say how large the drawn runs are, and those after them
abbrev sizes_and : List (Text × Bool) → List (Text × Bool)
sizes_and more = an_option (codes "seed") ∷ an_option (codes "steps") ∷ an_option (codes "hosts")
    ∷ an_option (codes "factor") ∷ an_option (codes "segment") ∷ a_flag (codes "free") ∷ more

pub level_of : (c : Command) → IsLevel (leaf (shape_of c)) false (options_of (name_of c))
unfolding clap_on_literals
level_of each.run = level_by _ (an_option (codes "heap") ∷ []) refl (λ x. refl) refl refl
level_of each.trace = level_by _ [] refl (λ x. refl) refl refl
level_of each.audit = level_by _ ([]) refl (λ x. refl) refl refl
level_of each.fuzz = level_by _ (an_option (codes "seed") ∷ an_option (codes "steps")
    ∷ a_flag (codes "free") ∷ []) refl (λ x. refl) refl refl
level_of each.stops = level_by _ (sizes_and (a_flag (codes "explored") ∷ [])) refl (λ x. refl) refl refl
level_of each.threads = level_by _ (an_option (codes "hosts") ∷ an_option (codes "writes") ∷ []) refl (λ x. refl) refl refl
level_of each.explore = level_by _ (sizes_and (a_flag (codes "save") ∷ an_option (codes "seeds") ∷ a_flag (codes "progress")
    ∷ an_option (codes "until") ∷ [])) refl (λ x. refl) refl refl
level_of each.log = level_by _ (a_flag (codes "json") ∷ []) refl (λ x. refl) refl refl
level_of each.shrink = level_by _ (an_option (codes "keep") ∷ []) refl (λ x. refl) refl refl
level_of each.heal = level_by _ (a_flag (codes "power-cycle") ∷ []) refl (λ x. refl) refl refl
level_of each.history = level_by _ [] refl (λ x. refl) refl refl
level_of each.check = level_by _ [] refl (λ x. refl) refl refl

-- whether the word asks for help, or where there is one for the version
abbrev pub asks : Bool → Text → Bool
asks v word = is_help word || (v && is_version word)

abbrev is_first : ℕ → Option ℕ → Bool
is_first letter = λ o. option_map_or (λ first. letter == first) o false

abbrev is_letter : ℕ → Option Text → Bool
is_letter letter = λ o. option_map_or (λ letters. is_first letter (slice_get (chars letters) 0)) o false

and-false : (b : Bool) → (b && false) ≡ false
and-false true = refl
and-false false = refl

module _ (s : Shape) (v : Bool) (options : List Text) (level : IsLevel s v options) (word : Text) where
  untold : (k : Kinds) → tells false k ≡ true → tells (false || (v && false)) k ≡ true
  untold k e = ap (λ b. tells b k) (and-false v) ∙ e

  stray : tells false (met s word (nothing_held, value)) ≡ true
  stray = ap (λ o. tells false (option_map_or (λ a. positional_fault s.rules s.args_override_self a nothing_held) o
      (stray_fault s))) level.positional ∙ level.strays

  -- ---- `--name` and `--name=value`

  abbrev by_long : Option Rule → Option Text → Kinds
  by_long found given = or_else (long_fault s.rules s.args_override_self found given nothing_held)
      (met s word (after_flag s.rules idle word (long_met s.rules found given nothing_held).0
      (long_met s.rules found given nothing_held).1))

  -- a flag with a value is wrong
  valued : (b1 b2 : Bool) (given : Text) → tells false (by_long (flag_of b1 b2) (Some given)) ≡ true
  unfolding clap_on_literals
  valued true b2 given = refl
  valued false true given = refl
  valued false false given = refl

  -- a flag alone is a request, if it is there
  alone : (b1 b2 : Bool) → tells (b1 || b2) (by_long (flag_of b1 b2) None) ≡ true
  unfolding clap_on_literals
  alone true b2 = refl
  alone false true = refl
  alone false false = refl

  -- ---- `-letters`

  abbrev by_letter : Text → ℕ → Option Rule → Kinds
  by_letter rest n found = or_else (short_fault s.rules s.args_override_self found rest nothing_held
      (flags_fault s.rules s.args_override_self n rest 0))
      (met s word (after_flag s.rules idle word (short_met s.rules found rest nothing_held (bundle_met s.rules n rest 0 done)).0
      (short_met s.rules found rest nothing_held (bundle_met s.rules n rest 0 done)).1))

  pressed : (rest : Text) (n : ℕ) (b1 b2 : Bool) → tells (b1 || b2) (by_letter rest n (flag_of b1 b2)) ≡ true
  unfolding clap_on_literals
  pressed rest n true b2 = refl
  pressed rest n false true = refl
  pressed rest n false false = refl

  abbrev by_first : Text → ℕ → Option ℕ → Kinds
  by_first flags n o = or_else (bundle_step_fault s.rules s.args_override_self o flags 0 nothing_held
      (flags_fault s.rules s.args_override_self n))
      (met s word (after_flag s.rules idle word (bundle_step s.rules o flags 0 plain nothing_held (bundle_met s.rules n)).0
      (bundle_step s.rules o flags 0 plain nothing_held (bundle_met s.rules n)).1))

  first_told : (flags : Text) (n : ℕ) (o : Option ℕ) → tells (is_first 104 o || (v && is_first 86 o)) (by_first flags n o) ≡ true
  first_told flags n None = untold _ stray
  first_told flags n (Some x) =
      let rest = drop (length (encode_utf8 x)) flags in
      ap (λ f. tells ((104 == x) || (v && (86 == x))) (by_letter rest n f)) (level.short x) ∙ pressed rest n (104 == x) (v && (86 == x))

  letters_told : (o : Option Text) → tells (is_letter 104 o || (v && is_letter 86 o)) (by_letters s word o) ≡ true
  unfolding flags_fault bundle_met chars
  letters_told None = untold _ stray
  letters_told (Some []) = untold _ stray
  letters_told (Some (y ∷ ys)) = first_told (y ∷ ys) (length ys) (slice_get (chars (y ∷ ys)) 0)

  -- ---- every word but `--`

  no_long : bytes_eq (codes "--help") word ≡ false → bytes_eq (codes "--version") word ≡ false → long_of word ≡ None
      → tells (asks v word) (by_flag s word (long_of word)) ≡ true
  no_long not_help not_version short =
      ap₂ (λ b1 b2. tells ((b1 || is_letter 104 (short_of word)) || (v && (b2 || is_letter 86 (short_of word))))
      (by_flag s word (long_of word))) not_help not_version
      ∙ ap (λ o. tells (is_letter 104 (short_of word) || (v && is_letter 86 (short_of word))) (by_flag s word o)) short
      ∙ letters_told (short_of word)

-- ---- the words by their first characters

pub text_tells : (a b : Text) → ((bytes_eq a b ≡ true) × (a ≡ b)) ⊎ (bytes_eq a b ≡ false)
text_tells a b = go (bytes_eq a b) refl
  where
    go : (r : Bool) → r ≡ bytes_eq a b → ((bytes_eq a b ≡ true) × (a ≡ b)) ⊎ (bytes_eq a b ≡ false)
    go true e = inl (sym e, same_text a b e)
    go false e = inr (sym e)

-- a word with a long name is none of those without
not_named : (a word : Text) → is_some (long_of a) ≡ true → long_of word ≡ None → bytes_eq a word ≡ false
not_named a word long none =
    ⊎_elim (λ h. absurd (true≢false (sym long ∙ ap (λ w. is_some (long_of w)) h.1 ∙ ap is_some none))) (λ e. e)
    (text_tells a word)

-- a word other than `--` has no long name, or is two hyphens and more
word_forms : (word : Text) → bytes_eq word (45 ∷ 45 ∷ []) ≡ false →
    (long_of word ≡ None) ⊎ ((zzs : ℕ × Text) × (word ≡ 45 ∷ 45 ∷ zzs.0 ∷ zzs.1))
word_forms [] e = inl refl
word_forms (x ∷ []) e = ⊎_elim (λ h. inl (rw h.0 refl)) (λ h. inl (rw h.0 refl)) (eqb_tells x 45)
word_forms (x ∷ y ∷ ys) e = ⊎_elim (λ h. ⊎_elim (λ g. go ys h g e) (λ g. inl (rw (h.0, g.0) refl)) (eqb_tells y 45))
    (λ h. inl (rw h.0 refl)) (eqb_tells x 45)
  where
    go : (ys : Text) → ((eqb x 45 ≡ true) × (x ≡ 45)) → ((eqb y 45 ≡ true) × (y ≡ 45)) → bytes_eq (x ∷ y ∷ ys) (45 ∷ 45 ∷ []) ≡ false
        → (long_of (x ∷ y ∷ ys) ≡ None) ⊎ ((zzs : ℕ × Text) × (x ∷ y ∷ ys ≡ 45 ∷ 45 ∷ zzs.0 ∷ zzs.1))
    go [] h g e = let bad : true ≡ false = rw (h.0, g.0) at e in absurd (true≢false bad)
    go (z ∷ zs) h g e = inr ((z, zs), ap₂ (λ a b. a ∷ b ∷ z ∷ zs) h.1 g.1)

-- where no `=` stands, all stands before it
before_none : (xs : Text) → has_byte 61 xs ≡ false → before_first (λ x. x == 61) xs ≡ xs
before_none [] e = refl
before_none (x ∷ xs) e =
    let p = or_parts (x == 61) (has_byte 61 xs) e in
    let n = prefix_len (λ y. not (y == 61)) xs in
    let more : 1 + n ≡ suc n = omega arith in
    ap (λ b. take (cond (not b) (1 + n) 0) (x ∷ xs)) p.0 ∙ ap (λ k. take k (x ∷ xs)) more ∙ ap (λ t. x ∷ t) (before_none xs p.1)

without_equals : (a word : Text) → has_byte 61 a ≡ false → has_byte 61 word ≡ true → bytes_eq a word ≡ false
without_equals a word lacks has =
    ⊎_elim (λ h. absurd (true≢false (sym has ∙ ap (has_byte 61) (sym h.1) ∙ lacks))) (λ e. e) (text_tells a word)

module _ (s : Shape) (v : Bool) (options : List Text) (level : IsLevel s v options) where
  module _ (z : ℕ) (zs : Text) where
    abbrev dashed : Text
    dashed = 45 ∷ 45 ∷ z ∷ zs

    abbrev name : Text
    name = before_first (λ x. x == 61) (z ∷ zs)

    abbrev given : Text
    given = after_first (λ x. x == 61) (z ∷ zs)

    abbrev found : Text → Option Rule
    found t = flag_of (bytes_eq (codes "help") t) (v && bytes_eq (codes "version") t)

    abbrev NoOption : Type 0
    NoOption = list_any (λ option. bytes_eq option name) options ≡ false

    abbrev by_given : Bool → Kinds
    by_given b = by_long s v options level dashed (arg_by_long s.rules name) (if b then Some given else None)

    valued_word : NoOption → has_byte 61 (z ∷ zs) ≡ true → tells (asks v dashed) (by_flag s dashed (long_of dashed)) ≡ true
    valued_word none e =
        ap (λ b. tells (asks v dashed) (by_given b)) e
        ∙ ap (λ f. tells (asks v dashed) (by_long s v options level dashed f (Some given))) (level.long name none)
        ∙ ap₂ (λ b1 b2. tells ((b1 || false) || (v && (b2 || false))) (by_long s v options level dashed (found name) (Some given)))
        (without_equals (codes "help") (z ∷ zs) refl e) (without_equals (codes "version") (z ∷ zs) refl e)
        ∙ untold s v options level dashed _ (valued s v options level dashed (bytes_eq (codes "help") name)
        (v && bytes_eq (codes "version") name) given)

    bare_word : NoOption → has_byte 61 (z ∷ zs) ≡ false → tells (asks v dashed) (by_flag s dashed (long_of dashed)) ≡ true
    bare_word none e =
        ap (λ b. tells (asks v dashed) (by_given b)) e
        ∙ ap (λ f. tells (asks v dashed) (by_long s v options level dashed f None)) (level.long name none)
        ∙ ap (λ t. tells (asks v dashed) (by_long s v options level dashed (found t) None)) (before_none (z ∷ zs) e)
        ∙ ap₂ (λ b1 b2. tells (b1 || (v && b2)) (by_long s v options level dashed (found (z ∷ zs)) None))
        (or-false (bytes_eq (codes "help") (z ∷ zs))) (or-false (bytes_eq (codes "version") (z ∷ zs)))
        ∙ alone s v options level dashed (bytes_eq (codes "help") (z ∷ zs)) (v && bytes_eq (codes "version") (z ∷ zs))

    long_told : NoOption → tells (asks v dashed) (by_flag s dashed (long_of dashed)) ≡ true
    long_told none = go (has_byte 61 (z ∷ zs)) refl
      where
        go : (b : Bool) → b ≡ has_byte 61 (z ∷ zs) → tells (asks v dashed) (by_flag s dashed (long_of dashed)) ≡ true
        go true e = valued_word none (sym e)
        go false e = bare_word none (sym e)

  word_told : (word : Text) → is_option options word ≡ false → bytes_eq word (45 ∷ 45 ∷ []) ≡ false →
      tells (asks v word) (by_flag s word (long_of word)) ≡ true
  word_told word none other =
      ⊎_elim (λ e. no_long s v options level word (not_named (codes "--help") word refl e) (not_named (codes "--version") word refl e) e)
      (λ h. subst (λ w. tells (asks v w) (by_flag s w (long_of w)) ≡ true) (sym h.1)
      (long_told h.0.0 h.0.1 (ap (is_option options) (sym h.1) ∙ none))) (word_forms word other)

  -- a line whose first word is no subcommand and not `--` is told of that word
  pub line_told : (names : Names) (word : Text) (rest : List Text) (has_subcommand : Bool) (below : Kinds) →
      subcommand_met names idle word ≡ None
      → is_option options word ≡ false → bytes_eq word (45 ∷ 45 ∷ []) ≡ false
      → tells (asks v word) (level_fault s names nothing_held (word ∷ rest) has_subcommand below) ≡ true
  unfolding walk_fault
  line_told names word rest has_subcommand below none no_option other =
      let now = ap (tells (asks v word)) (turn_is s word names none other) ∙ word_told word no_option other in
      tells_first (asks v word) _ _ (tells_first (asks v word) (turn_fault s names (walk_from nothing_held) word) _ now)
