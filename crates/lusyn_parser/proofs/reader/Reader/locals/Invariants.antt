use Rattle.std.proofs.Common.{suc, ◌-◌, ◌≤◌, length, []}
use Rattle.lutree.specs.Tree.{declarations_view}
use Rattle.lusyn_grammar.specs.Reading.{many, begins_name, ended_declaration}
use Rattle.lusyn_parser.specs.Gives.{ahead}
use Rattle.lusyn_parser.specs.Places.{Declares}
use Rattle.lutree.specs.Places.{declaration_places}
use Rattle.lusyn_parser.proofs.Loops.{Continues}
use Rattle.lusyn_parser.proofs.reader.Reader.locals.Given as goal

abbrev pub invariant-loop-found : goal.invariant-loop-found
invariant-loop-found l =
    record {
      continues : Continues begins_name (ended_declaration (suc (length l.self.tokens.now)))
          (many begins_name (ended_declaration (suc (length l.self.tokens.now))) (suc (length l.self.tokens.now)) (declarations_view l.initial.found.items) (ahead l.self.tokens.now l.initial.next))
          (declarations_view l.found.items) l.self.tokens.now l.next;
      more : l.fn.at ≤ l.next;
      places : Declares l.self.tokens.now l.after l.next [] (declaration_places l.found.items);
    }

abbrev pub decreases-loop-found : goal.decreases-loop-found
decreases-loop-found l = length l.self.tokens.now - l.next
