-- The commands and their arguments, as they stand in a table.
use Rattle.std.specs.Prelude.{◌≡◌, List}
use Rattle.std.specs.List.{fold}
use Rattle.clap.specs.Walk.{Rule}
use Rattle.clap.specs.Simple.{App, new_app, with_rule, with_subcommand}
use Rattle.lusdist_shell.specs.CommandLine.{path_rule, main_rule, flag_rule, instant_rule, vcd_rule}
use Rattle.lusdist_shell.specs.CommandLine.{workers_rule, code_rule, always_rule, table_rule, optional_rule}
use Rattle.lusdist_shell.specs.CommandLine.{number_rule}
use Rattle.lusdist_shell.specs.declared.argument.Argument.{Argument}
use Rattle.lusdist_shell.specs.declared.argument.Argument.TheVariants.{Main, Path, Flag, Instant, Vcd}
use Rattle.lusdist_shell.specs.declared.argument.Argument.TheVariants.{Workers, Code, Always, Instants}
use Rattle.lusdist_shell.specs.declared.argument.Argument.TheVariants.{Optional, Number}
use Rattle.lusdist_shell.specs.declared.command.Task.{Task}

-- an argument, as the parser takes it
abbrev pub rule_in : Argument → Rule
rule_in Main = main_rule
rule_in (Path name help) = path_rule name.now
rule_in (Optional name help) = optional_rule name.now
rule_in (Flag name help) = flag_rule name.now
rule_in (Instant name help) = instant_rule name.now
rule_in (Number name value greatest help) = number_rule name.now greatest
rule_in (Vcd help) = vcd_rule
rule_in Workers = workers_rule
rule_in Code = code_rule
rule_in Always = always_rule
rule_in Instants = table_rule

-- a command with one argument more
abbrev pub with_argument : App → Argument → App
with_argument app argument = with_rule app (rule_in argument)

-- a command with all its arguments
abbrev pub app_in : Task → App
app_in task = fold with_argument (new_app task.name.now) task.arguments.now

-- a command line with one command more
abbrev pub with_task : App → Task → App
with_task app task = with_subcommand app (app_in task).top

-- a command line, and the same with these commands more
pub record HasTasks (top : App) (tasks : List Task) (whole : App) : Type 0 where
  pub is : whole ≡ fold with_task top tasks
