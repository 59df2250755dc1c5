use Rattle.std.proofs.Common.{◌∙◌, ◌<◌, ap, map, length, rules}
use Rattle.lutree.specs.declared.expr.Expr.{Expr}
use Rattle.lutree.specs.Tree.{view, trees_of}
use Rattle.lusyn_parser.specs.Resolved.{resolved_tree}
use Rattle.lusyn_parser.specs.Known.{types_of}
use Rattle.lusyn_parser.proofs.Changed.{changed-next, changed-whole}
use Rattle.lusyn_parser.proofs.Operands.{trees-resolved}
use Rattle.lusyn_parser.proofs.trees.+resolving.Goals as goal

pub resolve_all-loop-i-preserved : goal.resolve_all-loop-i-preserved
resolve_all-loop-i-preserved t c =
    let old = c.args.es.now.items in
    let new = c.loop-i.es.items in
    let i = c.loop-i.i in
    let here : i < length old = search rules in
    let there : i < length new = search rules in
    record {
      trees = changed-next view (resolved_tree (types_of c.args.labels.now)) old new i c.index_mut.result.now c.resolve_expr.new.e c.loop-i.invariant.trees here there
          (c.in_ok-resolve_expr.ensures ∙ ap (λ (e : Expr). resolved_tree (types_of c.args.labels.now) (view e)) c.index_mut.ensures.value);
      unvisited = search rules;
    }

pub resolve_all-returns : goal.resolve_all-returns
resolve_all-returns t c =
    let types = types_of c.args.labels.now in
    ap trees_of (changed-whole view (resolved_tree types) c.args.es.now.items c.loop-i.es.items c.loop-i.i c.loop-i.invariant.trees (search rules)) ∙ trees-resolved types (map view c.args.es.now.items)
