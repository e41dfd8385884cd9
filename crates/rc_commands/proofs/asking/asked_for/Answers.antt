-- Each clause speaks of the command that the words ask for, or of the texts that `clap` tells.
use Rattle.std.proofs.Common.{◌≡◌, ◌∙◌, map, string_bytes, sym, subst, refl}
use Rattle.std.specs.Prelude.{IfOk}
use Rattle.std.proofs.lemmas.Result.{IfOk-weaker}
use Rattle.clap.specs.Faults.{fault_of}
use Rattle.clap.specs.Simple.{subcommand_of}
use Rattle.clap.proofs.WalkLemmas.{IfOk-both}
use Rattle.rc_commands.specs.declared.asking.Asked.{Asked}
use Rattle.rc_commands.specs.Asking.{Tells, as_command, asked_in}
use Rattle.rc_commands.specs.Commands.{ramseg}
use Rattle.rc_commands.proofs.EachCommand as each
use Rattle.rc_commands.proofs.Parsed.{gives_command, none_asked, refused, taken, told_among}
use Rattle.rc_commands.proofs.ByWords.{alone_told, audit_told, cut_told, drawn_told, heap_told, run_told, trace_told}
use Rattle.rc_commands.proofs.Texts.{texts_told}
use Rattle.rc_commands.proofs.asking.asked_for.Goals as goal

pub returns-in-Ok : goal.returns-in-Ok
returns-in-Ok c =
    let words = map string_bytes c.args.words.now in
    let none = taken _ words c.in_ok-program.ensures c.in-Ok.ensures.kinds in
    let command : IfOk c.found.result (λ a. as_command a ≡ asked_in words) = IfOk-weaker c.found.result _ _
    (λ a h. h ∙ gives_command _ words c.in_ok-program.ensures c.in-Ok.matches c.in-Ok.ensures.matches none) c.found.ensures.command in
    let tells : IfOk c.found.result (Tells (fault_of ramseg words)) = IfOk-weaker c.found.result _ _
    (λ a h. subst (λ faults. Tells faults a) (sym none) h) c.found.ensures.text in
    let by : (P : Asked → Type 0) → ((a : Asked) → as_command a ≡ asked_in words → P a) → IfOk c.found.result P =
    λ P f. IfOk-weaker c.found.result _ P f command in
    record {
      command = command;
      tells = tells;
      ranges = c.found.ensures.ranges;
      run = by _ (run_told words);
      trace = by _ (trace_told words);
      audit = by _ (audit_told words);
      fuzz = by _ (alone_told each.fuzz _ refl words);
      stops = by _ (alone_told each.stops _ refl words);
      threads = by _ (alone_told each.threads _ refl words);
      explore = by _ (alone_told each.explore _ refl words);
      log = by _ (alone_told each.log _ refl words);
      heal = by _ (alone_told each.heal _ refl words);
      history = by _ (alone_told each.history _ refl words);
      check = by _ (alone_told each.check _ refl words);
      texts = IfOk-weaker c.found.result _ _ (texts_told words) tells;
      heap = by _ (heap_told words);
      drawn = by _ (drawn_told words);
      cut = by _ (cut_told words);
    }

pub returns-in-Err : goal.returns-in-Err
returns-in-Err c =
    let words = map string_bytes c.args.words.now in
    let is_refused = refused _ words c.in_ok-program.ensures c.in-Err.error c.in-Err.ensures.kinds in
    let command : IfOk c.refused.result (λ a. as_command a ≡ asked_in words) = IfOk-weaker c.refused.result _ _
    (λ a h. h.0 ∙ none_asked (fault_of ramseg words) _ (subcommand_of ramseg words) (is_refused h.1.0))
    (IfOk-both c.refused.result _ _ c.refused.ensures.command c.refused.ensures.kind) in
    let tells : IfOk c.refused.result (Tells (fault_of ramseg words)) = IfOk-weaker c.refused.result _ _
    (λ a h. told_among (fault_of ramseg words) _ a (is_refused h.0) h.1) c.refused.ensures.kind in
    let by : (P : Asked → Type 0) → ((a : Asked) → as_command a ≡ asked_in words → P a) → IfOk c.refused.result P =
    λ P f. IfOk-weaker c.refused.result _ P f command in
    record {
      command = command;
      tells = tells;
      ranges = c.refused.ensures.ranges;
      run = by _ (run_told words);
      trace = by _ (trace_told words);
      audit = by _ (audit_told words);
      fuzz = by _ (alone_told each.fuzz _ refl words);
      stops = by _ (alone_told each.stops _ refl words);
      threads = by _ (alone_told each.threads _ refl words);
      explore = by _ (alone_told each.explore _ refl words);
      log = by _ (alone_told each.log _ refl words);
      heal = by _ (alone_told each.heal _ refl words);
      history = by _ (alone_told each.history _ refl words);
      check = by _ (alone_told each.check _ refl words);
      texts = IfOk-weaker c.refused.result _ _ (texts_told words) tells;
      heap = by _ (heap_told words);
      drawn = by _ (drawn_told words);
      cut = by _ (cut_told words);
    }
