use Rattle.std.proofs.Common.{◌∙◌, refl, codes}
use Rattle.clap.specs.Words.{found_of, rows_of}
use Rattle.clap.specs.declared.parser.matches.ArgMatches.TheViews.{out-ArgMatches}
use Rattle.clap.proofs.WalkLemmas.{first_value-rows}
use Rattle.lusdist_shell.proofs.request.explain_in.Goals as goal

pub returns : goal.returns
returns c =
    record {
      matches = rows_of (found_of c.args.matches.now);
      named = refl;
      code = c.get_str.ensures ∙ first_value-rows (out-ArgMatches c.args.matches.now).found (codes "CODE");
    }
