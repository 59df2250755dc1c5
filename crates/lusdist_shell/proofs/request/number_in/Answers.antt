use Rattle.std.proofs.Common.{◌∙◌, subst, ℕ, List, Option}
use Rattle.clap.specs.declared.parser.matches.ArgMatches.TheViews.{out-ArgMatches}
use Rattle.clap.proofs.WalkLemmas.{first_value-rows}
use Rattle.lusdist_shell.specs.Request.{IsNumberIn}
use Rattle.lusdist_shell.proofs.request.number_in.Goals as goal

pub returns : goal.returns
returns c =
    subst (λ (o : Option (List ℕ)). IsNumberIn o c.number_of.result) (c.get_str.ensures ∙ first_value-rows (out-ArgMatches c.args.matches.now).found c.args.argument.now) c.number_of.ensures
