use Rattle.lusyn_parser.proofs.PlacingPieces.{name_first}
use Rattle.lusyn_parser.proofs.reader.Reader.name_alone.Goals as goal

pub returns-clause-place : goal.returns-clause-place
returns-clause-place c = name_first c.args.self.now.tokens.now c.args.at c.in_ok-name.next c.args.self.now.end c.in_ok-name.name c.in_ok-name.ensures.name
