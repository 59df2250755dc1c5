use Rattle.std.specs.Prelude.{◌≡◌, ◌+◌, ◌-◌, ◌<◌, ◌≤◌, List, length, map}
use Rattle.std.proofs.Common.{arith, subst, sym}
use Rattle.lutree.specs.declared.program.Equation.{Equation}
use Rattle.lutree.specs.Tree.{view, equation_view, node_view, program_view}
use Rattle.lucore_laws.specs.Sizes.{made_size, root_size, equations_size}
use Rattle.lusource.specs.Names.{variables_of}
use Rattle.luinside.proofs.Pushing.{equation_fits, passed_more, root_within}
use Rattle.luinside.proofs.starts.call_starts.Goals as goal

pub push_starts-requires : goal.push_starts-requires
push_starts-requires c =
    let items = c.as_slice-equation-items.result.now in
    let lt : c.loop-equation.equation-index < length items = omega arith in
    let fits = equation_fits (program_view c.args.catalog.now) c.args.counts.now items c.loop-equation.equation-index c.equation-item.result (length (variables_of (node_view c.args.node.now)))
    c.loop-equation.found.items c.loop-equation.at 4096 lt c.equation-item.is c.loop-equation.invariant
    (subst (λ (qs : List Equation). length (variables_of (node_view c.args.node.now)) + equations_size (program_view c.args.catalog.now) c.args.counts.now (map equation_view qs) ≤ 4096)
    (sym c.as_slice-equation-items.ensures) c.requires) in
    omega (arith, fits)

pub loop-equation-preserved : goal.loop-equation-preserved
loop-equation-preserved c =
    let p = program_view c.args.catalog.now in
    let s = c.args.counts.now in
    let items = c.as_slice-equation-items.result.now in
    let q = c.equation-item.result in
    let lt : c.loop-equation.equation-index < length items = omega arith in
    let within = root_within p s (view q.right) in
    let here = c.in_ok-behind.ensures.behind in
    let root = c.root.ensures in
    let next : c.in_ok-behind.behind - c.root.result ≡ c.loop-equation.at + (made_size p s (view q.right) - root_size (view q.right)) = omega (arith, within, here, root) in
    passed_more p s items c.loop-equation.equation-index q (length (variables_of (node_view c.args.node.now)))
    c.loop-equation.found.items c.push_starts.new.found.items c.loop-equation.at (c.in_ok-behind.behind - c.root.result) lt c.equation-item.is c.loop-equation.invariant next c.in_ok-behind.ensures.found
