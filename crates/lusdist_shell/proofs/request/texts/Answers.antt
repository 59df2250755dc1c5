use Rattle.std.proofs.Common.{◌∙◌, ap, ℕ, List, [], Option}
use Rattle.std.specs.Prelude.{unwrap_or}
use Rattle.clap.specs.declared.parser.matches.ArgMatches.TheViews.{out-ArgMatches}
use Rattle.clap.proofs.WalkLemmas.{raw_values-rows}
use Rattle.lusdist_shell.proofs.request.texts.Goals as goal

pub returns : goal.returns
returns c =
    ap (λ (o : Option (List (List ℕ))). unwrap_or o []) (c.in-Some.ensures ∙ raw_values-rows (out-ArgMatches c.args.matches.now).found c.args.argument.now)

pub returns-in_default : goal.returns-in_default
returns-in_default c =
    ap (λ (o : Option (List (List ℕ))). unwrap_or o []) (c.in_default.ensures ∙ raw_values-rows (out-ArgMatches c.args.matches.now).found c.args.argument.now)
