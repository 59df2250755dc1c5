use Rattle.std.proofs.Common.{◌≡◌, ◌++◌}
use Rattle.lutree.specs.Places.{name_places, declaration_places}
use Rattle.lusyn_parser.proofs.PlacingPieces.{declares_listed, declares_row}
use Rattle.lusyn_parser.proofs.reader.Reader.declaration.Goals as goal

pub returns-clause-places : goal.returns-clause-places
returns-clause-places c =
    let more : declaration_places c.declare.new.found.items ≡ declaration_places c.args.found.now.items ++ name_places c.in_ok-names.names.items = c.in_ok-declare.ensures.places in
    declares_row c.args.self.now.tokens.now c.args.at c.in_ok-names.next c.in_ok-next.next c.in_ok-written.next c.in_ok-clock.next (name_places c.in_ok-names.names.items) _ _
    (declaration_places c.args.found.now.items) (declaration_places c.declare.new.found.items)
    (declares_listed _ _ _ _ _ c.in_ok-names.ensures.places) c.in_ok-next.ensures.after c.in_ok-written.ensures.kind c.in_ok-clock.ensures.clock more
