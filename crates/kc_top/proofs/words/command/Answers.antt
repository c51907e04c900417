-- Each option adds its rule to the command.
use Rattle.std.proofs.Common.{ap, ap₂, ◌≡◌, ◌∙◌, codes, true}
use Rattle.std.proofs.lemmas.Result.{IfOk-weaker}
use Rattle.clap.specs.Simple.{App, app_of, app_of_fields, new_app, on_top, with_rule}
use Rattle.kc_top.proofs.words.command.Goals as goal

pub returns : goal.returns
returns c =
    let plain : app_of c.disable_version_flag.result ≡ on_top
    (λ top. record top { no_binary_name = true; disable_help_flag = true; disable_version_flag = true }) (new_app (codes "kcore")) =
    ap app_of_fields c.disable_version_flag.ensures ∙ ap (λ (a : App). on_top (λ top. record top { disable_version_flag = true }) a)
    (ap app_of_fields c.disable_help_flag.ensures)
    ∙ ap (λ (a : App). on_top (λ top. record top { disable_help_flag = true; disable_version_flag = true }) a) (ap app_of_fields c.no_binary_name.ensures)
    ∙ ap (λ (a : App). on_top (λ top. record top { no_binary_name = true; disable_help_flag = true; disable_version_flag = true }) a) c.new.ensures.app in
    IfOk-weaker c.arg-5.result _ _ (λ made h. h.shape c.option_named-5.ensures.local
    ∙ ap₂ with_rule (c.in_ok-arg-4.ensures.shape c.option_named-4.ensures.local
    ∙ ap₂ with_rule (c.in_ok-arg-3.ensures.shape c.option_named-3.ensures.local
    ∙ ap₂ with_rule (c.in_ok-arg-2.ensures.shape c.option_named-2.ensures.local
    ∙ ap₂ with_rule (c.in_ok-arg.ensures.shape c.option_named.ensures.local ∙ ap₂ with_rule plain c.option_named.ensures.rule)
    c.option_named-2.ensures.rule) c.option_named-3.ensures.rule) c.option_named-4.ensures.rule) c.option_named-5.ensures.rule) c.arg-5.ensures
