use Rattle.std.proofs.Common.{suc, length}
use Rattle.lusyn_parser.proofs.PlacingNodes.{body_places}
use Rattle.lusyn_parser.proofs.reader.Reader.body.Goals as goal

pub returns-clause-places : goal.returns-clause-places
returns-clause-places c =
    body_places c.args.self.now.tokens.now c.args.at c.in_ok-next.next c.in_ok-equations.next c.in_ok-next-2.next c.past_semicolon.result (suc (length c.args.self.now.tokens.now)) _ _
    c.in_ok-next.ensures.after c.in_ok-equations.ensures.equations c.in_ok-equations.ensures.places c.in_ok-next-2.ensures.after c.past_semicolon.ensures.past
