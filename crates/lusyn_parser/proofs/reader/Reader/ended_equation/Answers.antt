use Rattle.lusyn_parser.proofs.PlacingPieces.{defines_ended}
use Rattle.std.proofs.Common.{suc, length}
use Rattle.lusyn_parser.proofs.reader.Reader.ended_equation.Goals as goal

pub returns-clause-places : goal.returns-clause-places
returns-clause-places c =
    defines_ended (suc (length c.args.self.now.tokens.now)) c.args.self.now.tokens.now c.args.at c.in_ok-equation.next c.after.result _ _ _ _
    c.in_ok-equation.ensures.equation c.after.ensures.after c.in_ok-push.ensures.items c.in_ok-equation.ensures.place
