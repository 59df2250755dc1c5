use Rattle.std.proofs.Common.{◌≡◌, take}
use Rattle.std.specs.List.{fold}
use Rattle.clap.specs.Simple.{app_of}
use Rattle.lusdist_shell.specs.Arguments.{with_task}
use Rattle.lusdist_shell.proofs.command.with_tasks.Given as goal

-- the command line has the commands so far
abbrev pub invariant-loop-task : goal.invariant-loop-task
invariant-loop-task l = app_of l.top ≡ fold with_task (app_of l.fn.top) (take l.task-index l.tasks)
