use Rattle.std.proofs.Common.{◌≡◌, ◌∙◌, ap, codes, true}
use Rattle.clap.specs.Words.{app_of, new_app}
use Rattle.clap.specs.Simple.{app_of_fields, on_top}
use Rattle.rc_commands.proofs.commands.alone.Goals as goal

pub returns : goal.returns
returns c =
    let named : app_of c.in_ok-named.named ≡ new_app (codes "ramseg") =
    ap app_of_fields c.in_ok-named.ensures.0 ∙ c.new.ensures.app in
    let versioned = ap app_of_fields c.version.ensures ∙ ap (on_top (λ top. record top { has_version = true })) named in
    let told = ap app_of_fields c.about.ensures ∙ versioned in
    let unnamed = ap app_of_fields c.no_binary_name.ensures ∙ ap (on_top (λ top. record top { no_binary_name = true })) told in
    ap app_of_fields c.subcommand_required.ensures ∙ ap (on_top (λ top. record top { subcommand_required = true })) unnamed
