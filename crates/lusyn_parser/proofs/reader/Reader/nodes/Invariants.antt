use Rattle.std.proofs.Common.{suc, ◌-◌, length, map, []}
use Rattle.lusyn_grammar.specs.declared.token.Fixed.TheVariants as f
use Rattle.lusyn_grammar.specs.Reading.{many, begins, further_node}
use Rattle.lusyn_parser.specs.Gives.{ahead, nodes_view}
use Rattle.lusyn_parser.specs.Places.{Grows}
use Rattle.lutree.specs.Places.{node_places}
use Rattle.lusyn_parser.proofs.Loops.{Continues}
use Rattle.lusyn_parser.proofs.reader.Reader.nodes.Given as goal

abbrev pub invariant-loop-found : goal.invariant-loop-found
invariant-loop-found l =
    record {
      continues : Continues (begins f.Node) (further_node (suc (length l.self.tokens.now)))
          (many (begins f.Node) (further_node (suc (length l.self.tokens.now))) (suc (length l.self.tokens.now)) (nodes_view l.initial.found.items) (ahead l.self.tokens.now l.initial.next))
          (nodes_view l.found.items) l.self.tokens.now l.next;
      places : Grows l.self.tokens.now l.at l.next [] (map node_places l.found.items);
    }

abbrev pub decreases-loop-found : goal.decreases-loop-found
decreases-loop-found l = length l.self.tokens.now - l.next
