use Rattle.std.proofs.Common.{◌<◌, length, refl, rules, arith}
use Rattle.luflow.specs.Tables.{outputs_view, output_view}
use Rattle.std.proofs.lemmas.List.{length-map}
use Rattle.lurun.proofs.Lists.{got_at}
use Rattle.lurun.proofs.Columns.{past_filled, one_filled}
use Rattle.lurun.proofs.collecting.fill.Goals as goal

pub returns-then-k-len : goal.returns-then-k-len
returns-then-k-len c =
    let l : c.args.k < length c.args.columns.now.items = search rules in
    let some : 0 < length c.args.statuses.items = search rules in
    let x = c.index_mut.result.now in
    one_filled c.args.columns.now.items c.args.k x (x.0, c.args.statuses) (got_at c.args.columns.now.items c.args.k x l c.index_mut.ensures.value) refl some

pub returns-else-k-len : goal.returns-else-k-len
returns-else-k-len c = past_filled (outputs_view c.args.columns.now.items) c.args.k c.args.statuses.items (let n = length-map c.args.columns.now.items output_view in let l = c.if-k-len.false in let m = c.len.ensures in omega (arith, n, l, m))
