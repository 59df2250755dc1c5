use Rattle.std.proofs.Common.{◌∙◌, ap, true}
use Rattle.std.proofs.lemmas.Result.{IfOk-weaker}
use Rattle.clap.specs.Simple.{app_of_fields, on_top}
use Rattle.lusdist_shell.proofs.command.bare.Goals as goal

pub returns : goal.returns
returns c =
    let version = ap app_of_fields c.version.ensures ∙ ap (on_top (λ top. record top { has_version = true })) c.named.ensures.app in
    let required = ap app_of_fields c.subcommand_required.ensures ∙ ap (on_top (λ top. record top { subcommand_required = true })) version in
    IfOk-weaker c.bin_name.result _ _ (λ r called. ap app_of_fields called.0 ∙ required) c.bin_name.ensures
