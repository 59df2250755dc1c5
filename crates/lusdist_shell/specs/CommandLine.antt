-- The command line of the program, in the words of the crate that parses it.
use Rattle.std.specs.Prelude.{ℕ, [], ◌∷◌, true, codes, Some}
use Rattle.lubase.specs.Limits.{longest_schedule, most_instants}
use Rattle.clap.specs.Walk.{Rule, Text}
use Rattle.clap.specs.Simple.{App, new_app, new_rule, on_top, with_rule, with_subcommand}
use Rattle.clap.specs.declared.builder.action.ArgAction.TheVariants.{Set, SetTrue, Append}
use Rattle.clap.specs.declared.builder.value_parser.ValueParser.TheVariants.{Unsigned}

-- a path that must be given
abbrev pub path_rule : Text → Rule
path_rule name = record (new_rule name) { required = true; action = Some Set }

-- a path that may be left out
abbrev pub optional_rule : Text → Rule
optional_rule name = record (new_rule name) { action = Some Set }

-- `--main NAME`, which is `main` where it isn't given
abbrev pub main_rule : Rule
main_rule = record (new_rule (codes "main")) {
  long = Some (codes "main");
  value_names = 1;
  defaults = codes "main" ∷ [];
}

-- a flag, which is given or not
abbrev pub flag_rule : Text → Rule
flag_rule name = record (new_rule name) { long = Some name; action = Some SetTrue }

-- a command that checks a program: `[--main NAME] [--explain] [--short]`
abbrev pub judging : Text → App
judging name =
    with_rule (with_rule (with_rule (new_app name) main_rule) (flag_rule (codes "explain")))
    (flag_rule (codes "short"))

-- `check PROGRAM [--main NAME] [--explain] [--short] [--all] [--warn]`
abbrev pub check : App
check =
    with_rule (with_rule (with_rule (judging (codes "check")) (flag_rule (codes "all")))
    (flag_rule (codes "warn"))) (path_rule (codes "PROGRAM"))

-- the last instant that a table may have
abbrev pub last_instant : ℕ
last_instant = 999999

-- `--from T` or `--to T`, an instant, counted from 0
abbrev pub instant_rule : Text → Rule
instant_rule name = record (new_rule name) {
  long = Some name;
  value_names = 1;
  parser = Some (Unsigned 0 last_instant);
}

-- `--vcd FILE`
abbrev pub vcd_rule : Rule
vcd_rule = record (new_rule (codes "vcd")) { long = Some (codes "vcd"); value_names = 1 }

-- `--always NAME`, which may be given more than once
abbrev pub always_rule : Rule
always_rule = record (new_rule (codes "always")) {
  long = Some (codes "always");
  value_names = 1;
  action = Some Append;
}

-- `eval PROGRAM TABLE [--main NAME] [--explain] [--short] [--all] [--deep] [--text] [--chronogram] [--from T]
-- [--to T] [--vcd FILE] [--always NAME]..`
abbrev pub eval : App
eval =
    with_rule (with_rule (with_rule (with_rule
    (with_rule (with_rule (with_rule (with_rule (with_rule (with_rule (judging (codes "eval"))
    (flag_rule (codes "all"))) (flag_rule (codes "deep"))) (flag_rule (codes "text")))
    (flag_rule (codes "chronogram")))
    (instant_rule (codes "from"))) (instant_rule (codes "to"))) vcd_rule) always_rule)
    (path_rule (codes "PROGRAM")))
    (path_rule (codes "TABLE"))

-- `--table N`, as many instants as a table may have
abbrev pub table_rule : Rule
table_rule = record (new_rule (codes "table")) {
  long = Some (codes "table");
  value_names = 1;
  parser = Some (Unsigned 0 most_instants);
}

-- `new PROGRAM [--main NAME] [--explain] [--short] [--table N]`
abbrev pub start : App
start = with_rule (with_rule (judging (codes "new")) table_rule) (path_rule (codes "PROGRAM"))

-- `plan PROGRAM PLACE [--main NAME] [--explain] [--short] [--warn] [--text] [--dot]`
abbrev pub plan : App
plan =
    with_rule (with_rule (with_rule (with_rule (with_rule (judging (codes "plan")) (flag_rule (codes "warn")))
    (flag_rule (codes "text"))) (flag_rule (codes "dot"))) (path_rule (codes "PROGRAM")))
    (path_rule (codes "PLACE"))

-- the greatest seed of random turns
abbrev pub greatest_seed : ℕ
greatest_seed = 4294967295

-- a number, from 0 to a greatest one
abbrev pub number_rule : Text → ℕ → Rule
number_rule name greatest = record (new_rule name) {
  long = Some name;
  value_names = 1;
  parser = Some (Unsigned 0 greatest);
}

-- `replay PROGRAM PLACE TABLE [SCHEDULE] [--main NAME] [--explain] [--short] [--random SEED] [--turns N]
-- [--finish] [--trace] [--chart] [--messages] [--blocked] [--from T] [--to T] [--vcd FILE] [--always NAME]..`
abbrev pub replay : App
replay =
    with_rule (with_rule (with_rule (with_rule (with_rule (with_rule (with_rule (with_rule (with_rule
    (with_rule (with_rule (with_rule (with_rule (with_rule (with_rule (judging (codes "replay"))
    (number_rule (codes "random") greatest_seed)) (number_rule (codes "turns") longest_schedule))
    (flag_rule (codes "finish"))) (flag_rule (codes "trace"))) (flag_rule (codes "chart")))
    (flag_rule (codes "messages"))) (flag_rule (codes "blocked"))) (instant_rule (codes "from")))
    (instant_rule (codes "to"))) vcd_rule) always_rule)
    (path_rule (codes "PROGRAM"))) (path_rule (codes "PLACE"))) (path_rule (codes "TABLE")))
    (optional_rule (codes "SCHEDULE"))

-- `--workers W`
abbrev pub workers_rule : Rule
workers_rule = record (new_rule (codes "workers")) { long = Some (codes "workers"); value_names = 1 }

-- `run PROGRAM PLACE TABLE [--main NAME] [--explain] [--short] [--workers W] [--progress] [--items] [--stats]
-- [--vcd FILE] [--always NAME]..`
abbrev pub run : App
run =
    with_rule (with_rule (with_rule
    (with_rule (with_rule (with_rule (with_rule (with_rule (with_rule (judging (codes "run")) workers_rule)
    (flag_rule (codes "progress"))) (flag_rule (codes "items"))) (flag_rule (codes "stats"))) vcd_rule)
    always_rule)
    (path_rule (codes "PROGRAM"))) (path_rule (codes "PLACE"))) (path_rule (codes "TABLE"))

-- a code, which may be left out
abbrev pub code_rule : Rule
code_rule = record (new_rule (codes "CODE")) { action = Some Set }

-- `explain [CODE]`
abbrev pub explain : App
explain = with_rule (new_app (codes "explain")) code_rule

-- `lusdist --version`, and that there has to be a command
abbrev pub bare : App
bare = on_top (λ top. record top { has_version = true; subcommand_required = true })
    (new_app (codes "lusdist"))

-- `lusdist` and one of its commands, or `lusdist --version`
abbrev pub lusdist : App
lusdist =
    with_subcommand
    (with_subcommand
    (with_subcommand
    (with_subcommand (with_subcommand (with_subcommand (with_subcommand bare check.top) eval.top) start.top)
    plan.top) replay.top) run.top) explain.top
