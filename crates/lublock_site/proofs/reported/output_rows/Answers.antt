use Rattle.std.proofs.Common.{rules, ◌≡◌, get_or, length, ap, ◌∙◌, Some, None}
use Rattle.std.specs.Prelude.{slice_get}
use Rattle.std.proofs.lemmas.Option.{slice_get-get_or}
use Rattle.lublock_site.proofs.Reporting.{less_same, less_more, rows_more, rows_none}
use Rattle.lublock_site.proofs.reported.output_rows.Goals as goal

pub loop-k-init : goal.loop-k-init
loop-k-init c = record {
  less = less_same c.args.columns.items;
  rows = rows_none c.args.columns.items c.args.instants c.args.outputs.now c.args.rows.items c.requires.empty;
  len = search rules;
  room = search rules;
}

pub loop-k-preserved : goal.loop-k-preserved
loop-k-preserved c =
    let inv = c.loop-k.invariant in
    let outputs = c.args.outputs.now in
    let at : slice_get outputs (length c.loop-k.rows.items) ≡ Some (get_or outputs c.loop-k.k None) = ap (slice_get outputs) inv.len ∙ slice_get-get_or outputs c.loop-k.k None c.loop-k-test.true in
    record {
      less = less_more c.args.columns.items c.loop-k.columns.items c.output_row.new.columns.items inv.less c.in_ok-row.ensures.less;
      rows = rows_more c.args.columns.items c.loop-k.columns.items c.args.instants outputs c.loop-k.rows.items c.push_reserved.new.self.items _ c.in_ok-row.row at c.push_reserved.ensures.items inv.less c.in_ok-row.ensures.row inv.rows;
      len = search rules;
      room = search rules;
    }
