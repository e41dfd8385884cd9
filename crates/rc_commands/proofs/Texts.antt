-- Which lines ask for help or the version, by their words.
use Rattle.std.proofs.Common.{◌≡◌, ◌∙◌, ◌&&◌, ◌||◌, ⊎_elim, Bool, true, false, not, List, [], ◌∷◌, codes, refl, sym}
use Rattle.std.proofs.Common.{ap, ap₂, subst, true≢false}
use Rattle.std.proofs.Math.Bool.{or-false}
use Rattle.std.specs.Prelude.{⊤, if◌then◌else◌}
use Rattle.std.specs.List.{list_all}
use Rattle.std.specs.Str.{bytes_eq}
use Rattle.clap.specs.declared.error.kind.ErrorKind.{ErrorKind}
use Rattle.clap.specs.Kinds.{IsAmong, Kinds}
use Rattle.clap.specs.Walk.{Text}
use Rattle.clap.specs.Simple.{Shape}
use Rattle.clap.specs.Faults.{fault_of}
use Rattle.clap.proofs.OnLiterals.{clap_on_literals}
use Rattle.clap.proofs.WalkLemmas.{both}
use Rattle.rc_commands.specs.declared.asking.Asked.{Asked}
use Rattle.rc_commands.specs.Asking.{Tells, asks_for_text, begins_with_help, is_command, is_end, is_help, is_option, is_plain}
use Rattle.rc_commands.specs.Asking.{is_request, is_text, is_version, options_of}
use Rattle.rc_commands.specs.Commands.{ramseg}
use Rattle.rc_commands.proofs.EachCommand as each
use Rattle.rc_commands.proofs.EachCommand.{Command, name_of, shape_of}
use Rattle.rc_commands.proofs.Words.{asks, leaf, level_of, line_told, same, tells, tells_first, text_tells}
use Rattle.rc_commands.proofs.Lines.{by_command, faults_at, line, listed, no_option, told}
use Rattle.rc_commands.specs.Commands as command

-- no error comes exactly where a command stands alone; else each is a request exactly where a text is asked for
abbrev pub agrees : Bool → Bool → Kinds → Bool
agrees alone text [] = alone && not text
agrees alone text (k ∷ ks) = not alone && tells text (k ∷ ks)

agrees_told : (text : Bool) (kinds : Kinds) → tells text kinds ≡ true → agrees false text kinds ≡ true
agrees_told text [] e = absurd (true≢false (sym e))
agrees_told text (k ∷ ks) e = e

-- ---- the words after a command

abbrev pub After : Shape → List Text → Type 0
After s words = agrees (is_end words) (begins_with_help words) (faults_at s words) ≡ true

abbrev NoOption : List Text → List Text → Type 0
NoOption options [] = ⊤
NoOption options (word ∷ rest) = is_option options word ≡ false

-- nothing comes after a command, or what comes after `--`
record Ends (s : Shape) : Type 0 where
  alone : After s []
  dashes : After s (codes "--" ∷ [])
  more : (word : Text) (rest : List Text) → After s (codes "--" ∷ word ∷ rest)

ends : (c : Command) → Ends (shape_of c)
unfolding clap_on_literals
ends each.run = record { alone = refl; dashes = refl; more = λ word rest. refl }
ends each.trace = record { alone = refl; dashes = refl; more = λ word rest. refl }
ends each.audit = record { alone = refl; dashes = refl; more = λ word rest. refl }
ends each.fuzz = record { alone = refl; dashes = refl; more = λ word rest. refl }
ends each.stops = record { alone = refl; dashes = refl; more = λ word rest. refl }
ends each.threads = record { alone = refl; dashes = refl; more = λ word rest. refl }
ends each.explore = record { alone = refl; dashes = refl; more = λ word rest. refl }
ends each.log = record { alone = refl; dashes = refl; more = λ word rest. refl }
ends each.shrink = record { alone = refl; dashes = refl; more = λ word rest. refl }
ends each.heal = record { alone = refl; dashes = refl; more = λ word rest. refl }
ends each.history = record { alone = refl; dashes = refl; more = λ word rest. refl }
ends each.check = record { alone = refl; dashes = refl; more = λ word rest. refl }

module _ (c : Command) where
  pub ended : (rest : List Text) → After (shape_of c) (codes "--" ∷ rest)
  ended [] = (ends c).dashes
  ended (word ∷ rest) = (ends c).more word rest

  goes_on : (word : Text) (rest : List Text) → is_option (options_of (name_of c)) word ≡ false → bytes_eq word (codes "--") ≡ false
      → After (shape_of c) (word ∷ rest)
  goes_on word rest none other =
      ap₂ (λ b t. agrees b t (faults_at (shape_of c) (word ∷ rest))) (no_end rest) (sym (or-false (is_help word)))
      ∙ agrees_told (asks false word) (faults_at (shape_of c) (word ∷ rest))
      (tells_first (asks false word) _ [] (line_told (leaf (shape_of c)) false (options_of (name_of c)) (level_of c) [] word rest
      false [] refl none other))
    where
      no_end : (rest : List Text) → is_end (word ∷ rest) ≡ false
      no_end [] = other
      no_end (next ∷ more) = refl

  pub after : (words : List Text) → NoOption (options_of (name_of c)) words → After (shape_of c) words
  after [] none = (ends c).alone
  after (word ∷ rest) none = ⊎_elim {C = After (shape_of c) (word ∷ rest)}
      (λ h. subst (λ w. After (shape_of c) (w ∷ rest)) (sym h.1) (ended rest)) (λ other. goes_on word rest none other)
      (text_tells word (codes "--"))

pub no_options : (words : List Text) → NoOption [] words
no_options [] = tt
no_options (word ∷ rest) = no_option word

-- ---- whole lines

abbrev any_alone : List Text → Bool
any_alone [] = false
any_alone (word ∷ rest) = is_command word && is_end rest

abbrev Agrees : List Text → Type 0
Agrees words = agrees (any_alone words) (asks_for_text words) (fault_of ramseg words) ≡ true

empty_agrees : Agrees []
unfolding clap_on_literals
empty_agrees = refl

not_true : (b : Bool) → not b ≡ true → b ≡ false
not_true true e = absurd (true≢false (sym e))
not_true false e = refl

plain_after : (name : Text) (rest : List Text) → is_plain (name ∷ rest) ≡ true → NoOption (options_of name) rest
plain_after name [] e = tt
plain_after name (w ∷ more) e =
    not_true _ (both (not (bytes_eq (codes "help") name)) (not (is_option (options_of name) w)) e).1

after_plain : (c : Command) (rest : List Text) → is_plain (name_of c ∷ rest) ≡ true → After (shape_of c) rest
after_plain c rest e = after c rest (plain_after (name_of c) rest e)

line_agrees : (word : Text) (rest : List Text) → is_plain (word ∷ rest) ≡ true → Agrees (word ∷ rest)
line_agrees word rest plain = by_command (λ w. is_plain (w ∷ rest) ≡ true → Agrees (w ∷ rest))
    (λ c e. ap₂ (λ b faults. agrees (b && is_end rest) (if b then begins_with_help rest
    else (is_help (name_of c) || is_version (name_of c))) faults) (listed c) (line c rest) ∙ after_plain c rest e)
    (λ e. absurd (true≢false (sym e ∙ about rest)))
    (λ w none no_help e.
    ap (λ b. agrees (b && is_end rest) (if b then begins_with_help rest else (is_help w || is_version w)) (fault_of ramseg (w ∷ rest))) none
    ∙ agrees_told (asks true w) (fault_of ramseg (w ∷ rest)) (told w rest none no_help)) word plain
  where
    about : (rest : List Text) → is_plain (codes "help" ∷ rest) ≡ false
    about [] = refl
    about (w ∷ more) = refl

agreed : (words : List Text) → is_plain words ≡ true → Agrees words
agreed [] e = empty_agrees
agreed (word ∷ rest) e = line_agrees word rest e

-- a text is told exactly where one is asked for
text_agrees : (alone text : Bool) (kinds : Kinds) (a : Asked) → agrees alone text kinds ≡ true → Tells kinds a → is_text a ≡ text
text_agrees alone text [] a e told = told ∙ sym (not_true text (both alone (not text) e).1)
text_agrees alone text (k ∷ ks) a e told = sym told.2 ∙ all_told (k ∷ ks) (both (not alone) (tells text (k ∷ ks)) e).1 told.0 told.1
  where
    same_told : (b : Bool) (text : Bool) → same text b ≡ true → b ≡ text
    same_told b true h = h
    same_told true false h = absurd (true≢false (sym h))
    same_told false false h = refl

    all_told : (kinds : Kinds) → list_all (λ k. same text (is_request k)) kinds ≡ true → (one : ErrorKind) →
        IsAmong one kinds → is_request one ≡ text
    all_told [] h one among = absurd among
    all_told (x ∷ xs) h one among =
        let parts = both (same text (is_request x)) (list_all (λ k. same text (is_request k)) xs) h in
        ⊎_elim (λ e. ap is_request e ∙ same_told (is_request x) text parts.0) (all_told xs parts.1 one) among

pub texts_told : (words : List Text) (a : Asked) → Tells (fault_of ramseg words) a → is_plain words ≡ true → is_text a ≡ asks_for_text words
texts_told words a told plain = text_agrees _ _ (fault_of ramseg words) a (agreed words plain) told
