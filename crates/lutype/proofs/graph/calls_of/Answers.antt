use Rattle.std.specs.Prelude.{◌≡◌, ◌<◌, length, flat_map}
use Rattle.std.proofs.Common.{arith, ap, ◌∙◌, take}
use Rattle.std.specs.List.{filter_map}
use Rattle.std.proofs.lemmas.List.{take_all}
use Rattle.lutree.specs.declared.program.Equation.{Equation}
use Rattle.lutree.specs.Tree.{view, program_view}
use Rattle.lustat_rules.specs.Naming.{node_place}
use Rattle.lutype.specs.CallGraph.{names_called}
use Rattle.lutype.proofs.CallsPushed.{equation_pushed, all_pushed}
use Rattle.lutype.proofs.graph.calls_of.Goals as goal

pub loop-q-preserved : goal.loop-q-preserved
loop-q-preserved c =
    let lt : c.loop-q.q-index < length c.as_slice-q-items.result.now = omega arith in
    equation_pushed (node_place (program_view c.args.catalog.now)) c.loop-q.row.items c.push_calls.new.row.items c.as_slice-q-items.result.now c.loop-q.q-index c.q-item.result lt c.q-item.is
    c.loop-q.invariant c.in_ok-push_calls.ensures

pub returns : goal.returns
returns c =
    let look = node_place (program_view c.args.catalog.now) in
    let whole : take c.loop-q.q-index c.as_slice-q-items.result.now ≡ c.args.node.now.equations = take_all c.loop-q.q-index c.as_slice-q-items.result.now (omega arith) ∙ c.as_slice-q-items.ensures in
    c.loop-q.invariant ∙ ap (λ qs. filter_map look (flat_map (λ (q : Equation). names_called (view q.right)) qs)) whole ∙ all_pushed look c.args.node.now
