use Rattle.std.proofs.Common.{◌≡◌, ◌++◌, map, length}
use Rattle.std.specs.Vec.Iter.{into_iter_items, into_iter_len}
use Rattle.lutree.specs.Tree.{declarations_view}
use Rattle.lutree.specs.Places.{name_places, declaration_places}
use Rattle.lusyn_grammar.specs.Grammar.{declared}
use Rattle.lusyn_parser.specs.Gives.{names_view, type_view}
use Rattle.lusyn_parser.proofs.reader.Reader.declare.Given as goal

abbrev pub invariant-loop-placed : goal.invariant-loop-placed
invariant-loop-placed l =
    record {
      trees : declarations_view l.found.items ++ map (declared (type_view l.written) l.clock) (names_view (into_iter_items l.placed-iterator)) ≡ declarations_view l.initial.found.items ++ map (declared (type_view l.written) l.clock) (names_view l.fn.names.items);
      places : declaration_places l.found.items ++ name_places (into_iter_items l.placed-iterator) ≡ declaration_places l.initial.found.items ++ name_places l.fn.names.items;
      long : into_iter_len l.placed-iterator ≡ length (into_iter_items l.placed-iterator);
    }
