use Rattle.std.proofs.Common.{suc, ◌-◌, ◌≤◌, length, []}
use Rattle.lutree.specs.Tree.{declarations_view}
use Rattle.lusyn_grammar.specs.declared.token.Fixed.TheVariants as f
use Rattle.lusyn_grammar.specs.Reading.{many, begins, further_declaration}
use Rattle.lusyn_parser.specs.Gives.{ahead}
use Rattle.lusyn_parser.specs.Places.{Declares}
use Rattle.lutree.specs.Places.{declaration_places}
use Rattle.lusyn_parser.proofs.Loops.{Continues}
use Rattle.lusyn_parser.proofs.reader.Reader.declarations.Given as goal

abbrev pub invariant-loop-after : goal.invariant-loop-after
invariant-loop-after l =
    record {
      continues : Continues (begins f.Semicolon) (further_declaration (suc (length l.self.tokens.now)))
          (many (begins f.Semicolon) (further_declaration (suc (length l.self.tokens.now))) (suc (length l.self.tokens.now)) (declarations_view l.initial.found.items) (ahead l.self.tokens.now l.initial.next))
          (declarations_view l.found.items) l.self.tokens.now l.next;
      more : l.fn.at ≤ l.next;
      places : Declares l.self.tokens.now l.fn.at l.next [] (declaration_places l.found.items);
    }

abbrev pub decreases-loop-after : goal.decreases-loop-after
decreases-loop-after l = length l.self.tokens.now - l.next
