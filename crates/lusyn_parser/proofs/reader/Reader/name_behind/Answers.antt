use Rattle.lusyn_parser.proofs.PlacingPieces.{lists_name}
use Rattle.lusyn_parser.proofs.reader.Reader.name_behind.Goals as goal

pub returns-clause-places : goal.returns-clause-places
returns-clause-places c =
    lists_name c.args.self.now.tokens.now c.args.at c.in_ok-name.next c.args.self.now.end _ _ _ _ c.in_ok-push.ensures.items c.byte-byte.ensures c.in_ok-name.ensures.name
