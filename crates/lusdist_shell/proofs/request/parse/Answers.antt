use Rattle.std.proofs.Common.{◌∙◌, ap, subst, map, List, string_bytes}
use Rattle.std.proofs.lemmas.Result.{IfErr-weaker, IfOk-weaker}
use Rattle.clap.specs.Faults.{fault_of, is_simple_and_free}
use Rattle.clap.specs.Kinds.{FailsBy}
use Rattle.clap.specs.Simple.{App, is_simple, subcommand_of}
use Rattle.clap.specs.Takes.{takes}
use Rattle.clap.specs.Walk.{Text}
use Rattle.lusdist_shell.proofs.CommandLemmas.{command_from, lusdist_is_free, lusdist_is_simple}
use Rattle.lusdist_shell.proofs.request.parse.Goals as goal

pub returns-clause-taken : goal.returns-clause-taken
returns-clause-taken c =
    let words : List Text = map string_bytes c.args.words.now in
    let parse = c.try_get_matches_from in
    IfErr-weaker parse.result _ _ (λ e h taken. h (ap (λ (a : App). takes a words) c.in_ok-lusdist.ensures ∙ taken)) parse.ensures.passes

pub returns-clause-matches : goal.returns-clause-matches
returns-clause-matches c =
    let words : List Text = map string_bytes c.args.words.now in
    let parse = c.try_get_matches_from in
    IfOk-weaker parse.result _ _
    (λ m h. (h (ap is_simple c.in_ok-lusdist.ensures ∙ lusdist_is_simple)).1 ∙ ap (λ (a : App). subcommand_of a words) c.in_ok-lusdist.ensures) parse.ensures.matches

pub returns-clause-refused : goal.returns-clause-refused
returns-clause-refused c =
    let words : List Text = map string_bytes c.args.words.now in
    let parse = c.try_get_matches_from in
    let P : App → Type 0 = λ a. FailsBy (fault_of a words) parse.result in
    subst P c.in_ok-lusdist.ensures (parse.ensures.kinds (ap is_simple_and_free c.in_ok-lusdist.ensures ∙ lusdist_is_free))

pub returns-clause-command : goal.returns-clause-command
returns-clause-command c =
    command_from (map string_bytes c.args.words.now) c.try_get_matches_from.result (returns-clause-refused c) (returns-clause-matches c)
