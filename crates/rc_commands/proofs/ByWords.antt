-- What lines ask for, by their words.
use Rattle.std.proofs.Common.{◌≡◌, ◌∙◌, ◌↔◌, ℕ, true, false, List, [], ◌∷◌, Option, Some, None, codes, refl}
use Rattle.std.proofs.Common.{sym, ap, subst, true≢false, option_map}
use Rattle.std.specs.Prelude.{option_and_then, unwrap_or}
use Rattle.std.specs.Str.{bytes_eq}
use Rattle.std.specs.Cmp.Lexicographic.{same_text}
use Rattle.clap.specs.Walk.{Text}
use Rattle.clap.proofs.OnLiterals.{clap_on_literals}
use Rattle.clap.proofs.WalkLemmas.{both}
use Rattle.rc_commands.specs.declared.asking.Asked.{Asked}
use Rattle.rc_commands.specs.Asking.{as_command, asked_in, drawing_in, is_alone, is_end, heap_line, option_zip_with}
use Rattle.rc_commands.proofs.Words.{asks}
use Rattle.rc_commands.specs.Numbers.{decimal_in}
use Rattle.rc_commands.specs.declared.asking.Asked.TheVariants as asked
use Rattle.rc_commands.specs.Asking as line_of
use Rattle.rc_commands.proofs.EachCommand as each
use Rattle.rc_commands.proofs.EachCommand.{Command, name_of}
use Rattle.rc_commands.proofs.Only.{trace_only, run_only, audit_only}

-- ---- a command alone

-- what comes of a command's name alone
abbrev bare : Command → Option Asked
bare each.run = Some (asked.Run None)
bare each.trace = Some asked.Trace
bare each.audit = Some asked.Audit
bare each.fuzz = Some (asked.Fuzz 1 1000 false)
bare each.stops = Some (asked.Stops 1 300)
bare each.threads = Some (asked.Threads 4 10)
bare each.explore = Some (asked.Explore (record { seed = 1; steps = 2000; hosts = 5; factor = 2; segment = 2; free = false })
    false false)
bare each.log = Some asked.Log
bare each.shrink = None
bare each.heal = Some (asked.Heal false)
bare each.history = Some asked.History
bare each.check = Some asked.Check

alone_gives : (c : Command) → asked_in (name_of c ∷ []) ≡ bare c → asked_in (name_of c ∷ codes "--" ∷ []) ≡ bare c
    → (words : List Text) → is_alone (name_of c) words ≡ true → asked_in words ≡ bare c
alone_gives c here ended [] h = absurd (true≢false (sym h))
alone_gives c here ended (word ∷ rest) h =
    let parts = both (bytes_eq (name_of c) word) (is_end rest) h in
    subst (λ w. asked_in (w ∷ rest) ≡ bare c) (same_text (name_of c) word (sym parts.0)) (go rest parts.1)
  where
    go : (rest : List Text) → is_end rest ≡ true → asked_in (name_of c ∷ rest) ≡ bare c
    go [] e = here
    go (w ∷ []) e = subst (λ v. asked_in (name_of c ∷ v ∷ []) ≡ bare c) (sym (same_text w (codes "--") (sym e))) ended
    go (w ∷ other ∷ more) e = absurd (true≢false (sym e))

gives : (c : Command) (words : List Text) → is_alone (name_of c) words ≡ true → asked_in words ≡ bare c
unfolding clap_on_literals drawing_in
gives each.run = alone_gives each.run refl refl
gives each.trace = alone_gives each.trace refl refl
gives each.audit = alone_gives each.audit refl refl
gives each.fuzz = alone_gives each.fuzz refl refl
gives each.stops = alone_gives each.stops refl refl
gives each.threads = alone_gives each.threads refl refl
gives each.explore = alone_gives each.explore refl refl
gives each.log = alone_gives each.log refl refl
gives each.shrink = alone_gives each.shrink refl refl
gives each.heal = alone_gives each.heal refl refl
gives each.history = alone_gives each.history refl refl
gives each.check = alone_gives each.check refl refl

-- ---- lines with each option once

heap_asked : (bytes : Text) → asked_in (heap_line bytes) ≡ option_map (λ n. asked.Run (Some n)) (decimal_in 16 1048576 bytes)
unfolding clap_on_literals
heap_asked bytes = go (decimal_in 16 1048576 bytes)
  where
    go : (o : Option ℕ) → option_map asked.Run (option_map Some o) ≡ option_map (λ n. asked.Run (Some n)) o
    go None = refl
    go (Some n) = refl

fuzz_asked : (seed steps : Text) → asked_in (line_of.fuzz_line seed steps)
    ≡ option_zip_with (λ s n. asked.Fuzz s n true) (decimal_in 0 18446744073709551615 seed) (decimal_in 0 100000 steps)
unfolding clap_on_literals
fuzz_asked seed steps = go (decimal_in 0 18446744073709551615 seed) (decimal_in 0 100000 steps)
  where
    go : (o p : Option ℕ) → option_and_then (λ s. option_map (λ n. asked.Fuzz (unwrap_or s 1) (unwrap_or n 1000) true)
        (option_map Some p)) (option_map Some o)
        ≡ option_zip_with (λ s n. asked.Fuzz s n true) o p
    go None p = refl
    go (Some s) None = refl
    go (Some s) (Some n) = refl

stops_asked : (seed steps : Text) → asked_in (line_of.stops_line seed steps)
    ≡ option_zip_with (λ s n. asked.Stops s n) (decimal_in 0 18446744073709551615 seed) (decimal_in 0 1000 steps)
unfolding clap_on_literals
stops_asked seed steps = go (decimal_in 0 18446744073709551615 seed) (decimal_in 0 1000 steps)
  where
    go : (o p : Option ℕ) → option_and_then (λ s. option_map (λ n. asked.Stops (unwrap_or s 1) (unwrap_or n 300))
        (option_map Some p)) (option_map Some o)
        ≡ option_zip_with (λ s n. asked.Stops s n) o p
    go None p = refl
    go (Some s) None = refl
    go (Some s) (Some n) = refl

-- ---- of an answer

-- an answer that is this command
pub is_answer : (a b : Asked) → as_command a ≡ Some b → a ≡ b
is_answer (asked.Tell text) b e = cc
is_answer (asked.Wrong text) b e = cc
is_answer a b e = ap (λ o. unwrap_or o b) e

-- a command that comes of its name alone
pub alone_told : (c : Command) (b : Asked) → bare c ≡ Some b → (words : List Text) (a : Asked) → as_command a ≡ asked_in words →
    is_alone (name_of c) words ≡ true → a ≡ b
alone_told c b is words a asks h = is_answer a b (asks ∙ gives c words h ∙ is)

module _ (words : List Text) (a : Asked) (asks : as_command a ≡ asked_in words) where
  pub trace_told : (a ≡ asked.Trace) ↔ (is_alone (codes "trace") words ≡ true)
  trace_told = (λ e. trace_only words (sym asks ∙ ap as_command e), alone_told each.trace asked.Trace refl words a asks)

  pub run_told : (a ≡ asked.Run None) ↔ (is_alone (codes "run") words ≡ true)
  run_told = (λ e. run_only words (sym asks ∙ ap as_command e), alone_told each.run (asked.Run None) refl words a asks)

  pub audit_told : (a ≡ asked.Audit) ↔ (is_alone (codes "audit") words ≡ true)
  audit_told = (λ e. audit_only words (sym asks ∙ ap as_command e), alone_told each.audit asked.Audit refl words a asks)

  pub heap_told : (bytes : Text) → words ≡ heap_line bytes →
      as_command a ≡ option_map (λ n. asked.Run (Some n)) (decimal_in 16 1048576 bytes)
  heap_told bytes e = asks ∙ ap asked_in e ∙ heap_asked bytes

  pub drawn_told : (seed steps : Text) → words ≡ line_of.fuzz_line seed steps
      → as_command a ≡ option_zip_with (λ s n. asked.Fuzz s n true) (decimal_in 0 18446744073709551615 seed)
      (decimal_in 0 100000 steps)
  drawn_told seed steps e = asks ∙ ap asked_in e ∙ fuzz_asked seed steps

  pub cut_told : (seed steps : Text) → words ≡ line_of.stops_line seed steps
      → as_command a ≡ option_zip_with (λ s n. asked.Stops s n) (decimal_in 0 18446744073709551615 seed) (decimal_in 0 1000 steps)
  cut_told seed steps e = asks ∙ ap asked_in e ∙ stops_asked seed steps
