use Rattle.std.proofs.Common.{suc, ◌-◌, ◌≤◌, length}
use Rattle.lusyn_grammar.specs.declared.token.Fixed.TheVariants as f
use Rattle.lusyn_grammar.specs.Reading.{many, begins, further_name}
use Rattle.lusyn_parser.specs.Gives.{ahead, names_view}
use Rattle.lutree.specs.Places.{name_places}
use Rattle.lusyn_parser.specs.Places.{Lists}
use Rattle.lusyn_parser.proofs.Loops.{Continues}
use Rattle.lusyn_parser.proofs.reader.Reader.further_names.Given as goal

abbrev pub invariant-loop-after : goal.invariant-loop-after
invariant-loop-after l =
    record {
      continues : Continues (begins f.Comma) further_name
          (many (begins f.Comma) further_name (suc (length l.self.tokens.now)) (names_view l.initial.found.items) (ahead l.self.tokens.now l.initial.next))
          (names_view l.found.items) l.self.tokens.now l.next;
      more : l.fn.at ≤ l.next;
      places : Lists l.self.tokens.now l.fn.at l.next (name_places l.initial.found.items) (name_places l.found.items);
    }

abbrev pub decreases-loop-after : goal.decreases-loop-after
decreases-loop-after l = length l.self.tokens.now - l.next
