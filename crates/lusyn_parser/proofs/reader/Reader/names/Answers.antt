use Rattle.std.proofs.Common.{[], List}
use Rattle.lutree.specs.declared.program.DeclaredName.{DeclaredName}
use Rattle.lusyn_parser.proofs.PlacingPieces.{lists_name, lists_along}
use Rattle.lusyn_parser.proofs.reader.Reader.names.Goals as goal

pub returns-clause-places : goal.returns-clause-places
returns-clause-places c =
    let none : List DeclaredName = [] in
    lists_along _ _ _ _ _ _ _
    (lists_name c.args.self.now.tokens.now c.args.at c.in_ok-name.next c.args.self.now.end none _ _ _ c.in_ok-found.ensures.items c.byte-byte.ensures c.in_ok-name.ensures.name) c.in_ok-next.ensures.places
