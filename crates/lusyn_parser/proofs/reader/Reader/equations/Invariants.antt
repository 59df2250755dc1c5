use Rattle.std.proofs.Common.{suc, ◌-◌, ◌≤◌, length, []}
use Rattle.lusyn_grammar.specs.Reading.{many, begins_equation, ended_equation}
use Rattle.lusyn_parser.specs.Gives.{ahead, equations_view}
use Rattle.lusyn_parser.specs.Places.{Defines}
use Rattle.lutree.specs.Places.{equation_places}
use Rattle.lusyn_parser.proofs.Loops.{Continues}
use Rattle.lusyn_parser.proofs.reader.Reader.equations.Given as goal

abbrev pub invariant-loop-found : goal.invariant-loop-found
invariant-loop-found l =
    record {
      continues : Continues begins_equation (ended_equation (suc (length l.self.tokens.now)))
          (many begins_equation (ended_equation (suc (length l.self.tokens.now))) (suc (length l.self.tokens.now)) [] (ahead l.self.tokens.now l.at))
          (equations_view l.found.items) l.self.tokens.now l.next;
      more : l.at ≤ l.next;
      places : Defines l.self.tokens.now l.at l.next [] (equation_places l.found.items);
    }

abbrev pub decreases-loop-found : goal.decreases-loop-found
decreases-loop-found l = length l.self.tokens.now - l.next
