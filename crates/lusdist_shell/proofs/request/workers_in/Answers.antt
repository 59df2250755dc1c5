use Rattle.std.proofs.Common.{◌∙◌, codes}
use Rattle.clap.specs.declared.parser.matches.ArgMatches.TheViews.{out-ArgMatches}
use Rattle.clap.proofs.WalkLemmas.{first_value-rows}
use Rattle.lusdist_shell.proofs.request.workers_in.Goals as goal

pub returns : goal.returns
returns c = c.get_str.ensures ∙ first_value-rows (out-ArgMatches c.args.matches.now).found (codes "workers")
