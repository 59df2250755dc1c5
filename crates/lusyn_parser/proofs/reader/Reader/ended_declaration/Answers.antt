use Rattle.std.proofs.Common.{refl}
use Rattle.lusyn_grammar.specs.declared.token.Fixed.TheVariants as f
use Rattle.lusyn_parser.proofs.PlacingPieces.{declares_after}
use Rattle.lusyn_parser.proofs.reader.Reader.ended_declaration.Goals as goal

pub returns-clause-places : goal.returns-clause-places
returns-clause-places c = declares_after f.Semicolon c.args.self.now.tokens.now c.args.at c.in_ok-next.next _ _ _ refl refl c.in_ok-next.ensures.places c.after.ensures.after
