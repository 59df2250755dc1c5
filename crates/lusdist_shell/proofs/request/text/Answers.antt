use Rattle.std.proofs.Common.{◌∙◌, ap, ℕ, List, [], Option}
use Rattle.std.specs.Prelude.{unwrap_or}
use Rattle.clap.specs.declared.parser.matches.ArgMatches.TheViews.{out-ArgMatches}
use Rattle.clap.proofs.WalkLemmas.{first_value-rows}
use Rattle.lusdist_shell.proofs.request.text.Goals as goal

pub returns-in-Some : goal.returns-in-Some
returns-in-Some c =
    ap (λ (o : Option (List ℕ)). unwrap_or o []) (c.in-Some.ensures ∙ first_value-rows (out-ArgMatches c.args.matches.now).found c.args.argument.now)

pub returns-in-None : goal.returns-in-None
returns-in-None c =
    ap (λ (o : Option (List ℕ)). unwrap_or o []) (c.in-None.ensures ∙ first_value-rows (out-ArgMatches c.args.matches.now).found c.args.argument.now)
