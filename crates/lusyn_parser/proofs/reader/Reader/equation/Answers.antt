use Rattle.std.proofs.Common.{◌∙◌}
use Rattle.lusyn_grammar.specs.declared.token.Fixed.TheVariants as f
use Rattle.lusyn_parser.proofs.PlacingPieces.{sign_first, if_placed}
use Rattle.lusyn_parser.proofs.reader.Reader.equation.Goals as goal

pub returns-in-Some-clause-place : goal.returns-in-Some-clause-place
returns-in-Some-clause-place c =
    if_placed _ _ _ (c.byte.ensures ∙ sign_first f.Open c.args.self.now.tokens.now c.args.at c.in-Some.next c.args.self.now.end c.in-Some.ensures.after) c.tuple.ensures.place
