use Rattle.lutree.specs.Tree.{node_view}
use Rattle.lucore_build.proofs.Named.{clock_placed}
use Rattle.lucore_build.proofs.context.clock_by_place.Goals as goal

pub returns-in-On : goal.returns-in-On
returns-in-On c = clock_placed (node_view c.args.scope.now) c.args.clock c.in-On._name c.in-On.pattern c.place_or_end.result c.pattern_value.result c.requires c.in-On.is c.place_or_end.ensures c.pattern_value.ensures
