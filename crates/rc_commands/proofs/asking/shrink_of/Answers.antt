use Rattle.std.proofs.Common.{◌≡◌, ◌∙◌, Some, None, ap, codes, sym}
use Rattle.std.proofs.lemmas.Result.{IfOk-weaker}
use Rattle.clap.specs.Words.{found_of}
use Rattle.rc_commands.specs.declared.asking.Asked.TheVariants as asked
use Rattle.rc_commands.proofs.Decimals.{as_mapped}
use Rattle.rc_commands.proofs.asking.shrink_of.Goals as goal

pub returns-in_default-clause-command : goal.returns-in_default-clause-command
returns-in_default-clause-command c =
    IfOk-weaker c.wrong.result _ _
    (λ a h. h ∙ sym (as_mapped asked.Shrink (found_of c.args.given.now) (codes "keep") None c.in_default.ensures)) c.wrong.ensures.command

pub returns-clause-command : goal.returns-clause-command
returns-clause-command c =
    let kept : c.from_vec-keep.result ≡ c.in-Some.text.now =
    c.from_vec-keep.ensures ∙ c.in_ok-to_vec.ensures.items_if_clones_equal (λ x y h. h) ∙ c.as_bytes.ensures.value in
    ap (λ keep. Some (asked.Shrink keep)) kept
    ∙ sym (as_mapped asked.Shrink (found_of c.args.given.now) (codes "keep") (Some c.in-Some.text) c.in-Some.ensures)
