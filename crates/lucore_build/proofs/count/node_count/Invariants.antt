use Rattle.std.proofs.Common.{◌≡◌, ◌+◌, take, map, length}
use Rattle.lutree.specs.Tree.{equation_view, node_view, program_view}
use Rattle.lusource.specs.Names.{variables_of}
use Rattle.lucore_laws.specs.Sizes.{equations_size}
use Rattle.lucore_build.specs.Counted.{capped}
use Rattle.lucore_build.proofs.count.node_count.Given as goal

abbrev pub invariant-loop-equation : goal.invariant-loop-equation
invariant-loop-equation l =
    l.count ≡ capped (length (variables_of (node_view l.node)) + equations_size (program_view l.catalog) l.counts (map equation_view (take l.equation-index l.equation-items)))
