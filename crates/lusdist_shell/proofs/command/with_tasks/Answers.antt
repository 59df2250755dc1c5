use Rattle.std.proofs.Common.{◌∙◌, sym, ap, ap₂}
use Rattle.std.proofs.lemmas.List.Sums.{fold_more}
use Rattle.clap.specs.Simple.{App, app_of, with_subcommand}
use Rattle.lusdist_shell.specs.Arguments.{with_task}
use Rattle.lusdist_shell.proofs.command.with_tasks.Goals as goal

pub loop-task-preserved : goal.loop-task-preserved
loop-task-preserved c =
    let top : App → _ = λ a. a.top in
    c.in_ok-top.ensures.shape c.in_ok-command_of.ensures.local ∙ ap₂ with_subcommand c.loop-task.invariant (ap top c.in_ok-command_of.ensures.app) ∙ sym (fold_more with_task (app_of c.args.top) c.args.tasks.now c.loop-task.task-index _ c.loop-task-test.true)
