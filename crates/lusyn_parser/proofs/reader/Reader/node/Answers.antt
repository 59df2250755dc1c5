use Rattle.std.proofs.Common.{refl, suc, length}
use Rattle.lusyn_parser.specs.Gives.{ahead}
use Rattle.lusyn_parser.proofs.PlacingNodes.{node_at, node_types, body_begins}
use Rattle.lusyn_parser.proofs.reader.Reader.node.Goals as goal

pub returns-clause-places : goal.returns-clause-places
returns-clause-places c = record {
  same = node_at c.args.self.now.tokens.now c.args.at c.in_ok-heading.next c.in_ok-locals.next c.in_ok-equations.next c.in_ok-heading.heading c.in_ok-locals.locals.items c.in_ok-equations.equations.items
      (record { name = c.in_ok-heading.heading.name; byte = c.in_ok-heading.heading.byte; inputs = c.new.result; outputs = c.new-2.result; locals = c.new-3.result; equations = c.new-4.result })
      refl c.new.ensures c.new-2.ensures c.new-3.ensures c.new-4.ensures
      c.in_ok-heading.ensures.places
      (c.in_ok-locals.ensures.places (body_begins (suc (length c.args.self.now.tokens.now)) (ahead c.args.self.now.tokens.now c.in_ok-locals.next) _ c.in_ok-equations.ensures.body))
      c.in_ok-equations.ensures.places;
  types = node_types c.args.self.now.tokens.now c.args.at c.in_ok-heading.next c.in_ok-locals.next c.in_ok-equations.next c.in_ok-heading.heading c.in_ok-locals.locals.items c.in_ok-equations.equations.items
      c.in_ok-heading.ensures.places
      (c.in_ok-locals.ensures.places (body_begins (suc (length c.args.self.now.tokens.now)) (ahead c.args.self.now.tokens.now c.in_ok-locals.next) _ c.in_ok-equations.ensures.body))
      c.in_ok-equations.ensures.places;
}
