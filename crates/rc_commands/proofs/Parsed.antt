-- What a parse of the program's command line tells.
use Rattle.std.proofs.Common.{◌≡◌, ◌∙◌, ◌≢◌, ⊎_elim, true, List, [], ◌∷◌, Option, None, refl, sym, ap, subst}
use Rattle.std.specs.Prelude.{option_and_then}
use Rattle.clap.specs.declared.error.kind.ErrorKind.{ErrorKind}
use Rattle.clap.specs.declared.error.kind.ErrorKind.TheVariants.{OutOfMemory}
use Rattle.clap.specs.declared.error.Error.{Error}
use Rattle.clap.specs.declared.parser.matches.ArgMatches.{ArgMatches}
use Rattle.clap.specs.Values.{kind_of}
use Rattle.clap.specs.Kinds.{HasKind, IsAmong, Kinds}
use Rattle.clap.specs.Walk.{Row, Text}
use Rattle.clap.specs.Simple.{App, HasMatchesOf, is_simple, subcommand_of, subcommand_rows_of}
use Rattle.clap.specs.Faults.{fault_of, is_simple_and_free}
use Rattle.rc_commands.specs.declared.asking.Asked.{Asked}
use Rattle.rc_commands.specs.Asking.{Tells, asked_in, command_in, is_request, is_text, where_taken}
use Rattle.rc_commands.specs.Commands.{ramseg}
use Rattle.rc_commands.proofs.Lines.{is_known, is_plain}

-- ---- the answer by the faults

abbrev asked_by : Kinds → Option (Text × List Row) → Option Asked
asked_by faults found = where_taken faults (option_and_then (λ p. command_in p.0 p.1) found)

pub none_asked : (faults : Kinds) (k : ErrorKind) (found : Option (Text × List Row)) → IsAmong k faults → None ≡ asked_by faults found
none_asked [] k found among = absurd among
none_asked (x ∷ xs) k found among = refl

pub told_among : (faults : Kinds) (k : ErrorKind) (a : Asked) → IsAmong k faults → is_request k ≡ is_text a → Tells faults a
told_among [] k a among same = absurd among
told_among (x ∷ xs) k a among same = (k, among, same)

-- ---- of a parse

module _ (a : App) (words : List Text) (is : a ≡ ramseg) where
  pub taken : (is_simple_and_free a ≡ true → fault_of a words ≡ []) → fault_of ramseg words ≡ []
  taken none = ap (λ b. fault_of b words) (sym is) ∙ none (ap is_simple_and_free is ∙ is_plain)

  pub refused : (e : Error) → (is_simple_and_free a ≡ true → HasKind (fault_of a words) e) → kind_of e ≢ OutOfMemory →
      IsAmong (kind_of e) (fault_of ramseg words)
  refused e kinds had_memory =
      subst (λ b. IsAmong (kind_of e) (fault_of b words)) is
      (⊎_elim (λ h. absurd (had_memory h)) (λ h. h) (kinds (ap is_simple_and_free is ∙ is_plain)))

  module _ (m : ArgMatches) (has : HasMatchesOf a words m) where
    rows_are : subcommand_rows_of m ≡ subcommand_of ramseg words
    rows_are = (has (ap is_simple is ∙ is_known)).1 ∙ ap (λ b. subcommand_of b words) is

    module _ (none : fault_of ramseg words ≡ []) where
      pub gives_command : option_and_then (λ p. command_in p.0 p.1) (subcommand_rows_of m) ≡ asked_in words
      gives_command =
          ap (option_and_then (λ (p : Text × List Row). command_in p.0 p.1)) rows_are ∙
          sym (ap (λ faults. asked_by faults (subcommand_of ramseg words)) none)
