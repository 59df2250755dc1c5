use Rattle.lusyn_grammar.specs.Reading.{heading}
use Rattle.std.proofs.Common.{arith}
use Rattle.std.proofs.lemmas.Grind.{common_steps}
use Rattle.std.proofs.Common.{suc, length}
use Rattle.lusyn_parser.proofs.PlacingNodes.{heading_places}
use Rattle.lusyn_parser.proofs.reader.Reader.heading.Goals as goal

pub returns-clause-places : goal.returns-clause-places
returns-clause-places c =
    heading_places c.args.self.now.tokens.now c.args.at c.in_ok-next.next c.in_ok-name.next c.in_ok-next-2.next c.in_ok-inputs.next c.in_ok-next-3.next c.in_ok-next-4.next
    c.in_ok-next-5.next c.in_ok-outputs.next c.in_ok-next-6.next c.past_semicolon.result (suc (length c.args.self.now.tokens.now)) c.args.self.now.end c.in_ok-name.name _ _ _
    c.in_ok-next.ensures.within c.in_ok-next.ensures.after c.byte-byte.ensures c.in_ok-name.ensures.name
    c.in_ok-next-2.ensures.after c.in_ok-inputs.ensures.declarations c.in_ok-inputs.ensures.places
    c.in_ok-next-3.ensures.after c.in_ok-next-4.ensures.after c.in_ok-next-5.ensures.after
    c.in_ok-outputs.ensures.declarations c.in_ok-outputs.ensures.places c.in_ok-next-6.ensures.after
    c.past_semicolon.ensures.past

pub returns-clause-heading : goal.returns-clause-heading
unfolding heading
returns-clause-heading c = grind (arith, common_steps)
