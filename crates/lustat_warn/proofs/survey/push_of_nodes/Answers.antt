use Rattle.std.proofs.Common.{◌≤◌, length, refl, arith}
use Rattle.std.proofs.lemmas.Option.{slice_get_read}
use Rattle.lustat_warn.specs.Warnings.{InNode}
use Rattle.lustat_warn.proofs.Adding.{adds_more, adds_all}
use Rattle.lustat_warn.proofs.Parts.{nodes_ascend}
use Rattle.lustat_warn.proofs.survey.push_of_nodes.Goals as goal

pub loop-i-preserved : goal.loop-i-preserved
loop-i-preserved c =
    let ns = c.args.nodes.now in
    let i = c.loop-i.i in
    let n = c.index-nodes-i.result in
    let here = slice_get_read ns (length ns) i n refl c.loop-i-test.true c.index-nodes-i.is in
    adds_more ns (InNode c.args.called.now c.args.main.now) i n c.args.found.now.items c.loop-i.found.items c.push_in_node.new.found.items (nodes_ascend c.args.called.now c.args.main.now) here c.loop-i.invariant c.in_ok-push_in_node.ensures

pub returns : goal.returns
returns c =
    let ns = c.args.nodes.now in
    let end : length ns ≤ c.loop-i.i = (let e = c.loop-i-test.false in omega (arith, e)) in
    adds_all ns (InNode c.args.called.now c.args.main.now) c.loop-i.i c.args.found.now.items c.loop-i.found.items end c.loop-i.invariant
