use Rattle.std.proofs.Common.{◌∙◌, sym, ap₂}
use Rattle.std.proofs.lemmas.Bool.{or_from}
use Rattle.std.proofs.lemmas.List.Sums.{fold_more}
use Rattle.clap.specs.Simple.{new_app, with_rule}
use Rattle.lusdist_shell.specs.Arguments.{with_argument}
use Rattle.lusdist_shell.proofs.command.command_of.Goals as goal

pub loop-argument-preserved : goal.loop-argument-preserved
loop-argument-preserved c =
    let inv = c.loop-argument.invariant in
    let more = c.argument_of.ensures in
    record {
      app = c.in_ok-command.ensures.shape more.local ∙ ap₂ with_rule inv.app more.rule ∙ sym (fold_more with_argument (new_app c.args.task.now.name.now) c.args.task.now.arguments.now c.loop-argument.argument-index _ c.loop-argument-test.true);
      local = c.in_ok-command.ensures.globals ∙ or_from _ _ inv.local more.local;
    }
