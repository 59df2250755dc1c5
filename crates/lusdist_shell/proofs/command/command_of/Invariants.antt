use Rattle.std.proofs.Common.{◌≡◌, false, take}
use Rattle.std.specs.List.{fold}
use Rattle.clap.specs.Simple.{app_of, new_app}
use Rattle.clap.specs.declared.builder.command.Command.TheViews.{out-Command}
use Rattle.lusdist_shell.specs.Arguments.{with_argument}
use Rattle.lusdist_shell.proofs.command.command_of.Given as goal

-- the command has the arguments so far
abbrev pub invariant-loop-argument : goal.invariant-loop-argument
invariant-loop-argument l = record {
  app : app_of l.command ≡ fold with_argument (new_app l.task.name.now) (take l.argument-index l.task.arguments.now);
  local : (out-Command l.command).has_globals ≡ false;
}
