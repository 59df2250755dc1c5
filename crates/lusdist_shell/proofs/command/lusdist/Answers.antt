use Rattle.std.proofs.Common.{◌≡◌, ◌∙◌, ap, List}
use Rattle.std.specs.List.{fold}
use Rattle.std.proofs.lemmas.Result.{IfOk-weaker}
use Rattle.clap.specs.Simple.{App}
use Rattle.lusdist_shell.specs.declared.command.Task.{Task}
use Rattle.lusdist_shell.specs.Arguments.{HasTasks, with_task}
use Rattle.lusdist_shell.proofs.command.lusdist.Goals as goal

over : (top same whole : App) (tasks : List Task) → HasTasks top tasks whole → top ≡ same → whole ≡ fold with_task same tasks
over top same whole tasks has e = has.is ∙ ap (λ (a : App). fold with_task a tasks) e

pub returns : goal.returns
returns c = IfOk-weaker c.with_tasks.result _ _ (λ r has. over _ _ _ _ has c.in_ok-bare.ensures) c.with_tasks.ensures
