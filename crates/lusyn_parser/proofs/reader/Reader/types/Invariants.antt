use Rattle.std.proofs.Common.{suc, ◌-◌, length, map, []}
use Rattle.lusyn_grammar.specs.declared.token.Fixed.TheVariants as f
use Rattle.lusyn_grammar.specs.Reading.{many, begins, type_declaration}
use Rattle.lusyn_parser.specs.Gives.{ahead, types_view}
use Rattle.lusyn_parser.specs.Places.{TypesGrow}
use Rattle.lutree.specs.Places.{type_places}
use Rattle.lusyn_parser.proofs.Loops.{Continues}
use Rattle.lusyn_parser.proofs.reader.Reader.types.Given as goal

abbrev pub invariant-loop-found : goal.invariant-loop-found
invariant-loop-found l =
    record {
      continues : Continues (begins f.Type) (type_declaration (suc (length l.self.tokens.now)))
          (many (begins f.Type) (type_declaration (suc (length l.self.tokens.now))) (suc (length l.self.tokens.now)) [] (ahead l.self.tokens.now l.at))
          (types_view l.found.items) l.self.tokens.now l.next;
      places : TypesGrow l.self.tokens.now l.at l.next [] (map type_places l.found.items);
    }

abbrev pub decreases-loop-found : goal.decreases-loop-found
decreases-loop-found l = length l.self.tokens.now - l.next
