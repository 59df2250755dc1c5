-- The types whose names a table has.
use Rattle.std.specs.Prelude.{List}
use Rattle.lutree.specs.Tree.{TypeTree}
use Rattle.lusyn_parser.specs.declared.labels.Labels.{Labels}
use Rattle.lusyn_parser.specs.Tables.{types_view}

abbrev pub types_of : Labels → List TypeTree
types_of labels = types_view labels.types.now
