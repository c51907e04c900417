-- Each setting adds to the command.
use Rattle.std.proofs.Common.{ap, ◌≡◌, ◌∙◌, true}
use Rattle.std.proofs.lemmas.Result.{IfOk-weaker}
use Rattle.clap.specs.Simple.{App, app_of, app_of_fields, on_top}
use Rattle.kc_wishes.specs.Wishes.{bare_command}
use Rattle.kc_wishes.proofs.words.bare_command.Goals as goal

-- the settings, the later ones first
abbrev told : App → App
told a = on_top (λ top. record top { has_version = true }) a

abbrev bare : App → App
bare a = on_top (λ top. record top { no_binary_name = true }) a

abbrev some : App → App
some a = on_top (λ top. record top { subcommand_required = true }) a

abbrev helped : App → App
helped a = on_top (λ top. record top { arg_required_else_help = true }) a

abbrev flagged : App → App
flagged a = on_top (λ top. record top { disable_help_subcommand = true }) a

pub returns : goal.returns
returns c =
    let plain : app_of c.disable_help_subcommand-command.result ≡ bare_command =
    ap app_of_fields c.disable_help_subcommand-command.ensures
    ∙ ap flagged (ap app_of_fields c.arg_required_else_help.ensures
    ∙ ap helped (ap app_of_fields c.subcommand_required.ensures
    ∙ ap some (ap app_of_fields c.no_binary_name.ensures
    ∙ ap bare (ap app_of_fields c.version.ensures
    ∙ ap told (ap app_of_fields c.about.ensures ∙ c.new.ensures.app))))) in
    IfOk-weaker c.bin_name.result _ _ (λ made h. ap app_of_fields h.0 ∙ plain) c.bin_name.ensures
