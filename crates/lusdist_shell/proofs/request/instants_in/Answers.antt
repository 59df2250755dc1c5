use Rattle.std.proofs.Common.{◌∙◌, subst, codes, ℕ, List, Option}
use Rattle.clap.specs.declared.parser.matches.ArgMatches.TheViews.{out-ArgMatches}
use Rattle.clap.proofs.WalkLemmas.{first_value-rows}
use Rattle.lusdist_shell.specs.Request.{AreInstantsIn}
use Rattle.lusdist_shell.proofs.request.instants_in.Goals as goal

pub returns : goal.returns
returns c =
    subst (λ (o : Option (List ℕ)). AreInstantsIn o c.instants_of.result) (c.get_str.ensures ∙ first_value-rows (out-ArgMatches c.args.matches.now).found (codes "table")) c.instants_of.ensures
