use Rattle.std.proofs.Common.{◌≡◌, add-one, ◌∙◌, sym, length, map}
use Rattle.std.proofs.lemmas.Bool.{eqb-true}
use Rattle.std.proofs.lemmas.List.{length-map}
use Rattle.luflow.specs.Tables.{column_view, columns_view}
use Rattle.lutab.specs.Table.{sorts_in}
use Rattle.lutab.proofs.Fields.{as_many}
use Rattle.lutab.proofs.Reached.{no_lines, same_count, one_more_line, all_read}
use Rattle.lutab.proofs.rows.read_rows.Goals as goal

pub loop-rest-init : goal.loop-rest-init
loop-rest-init c = no_lines (sorts_in c.args.types.now c.args.kinds.now) c.args.bytes.now (columns_view c.args.columns.now) c.requires.empty

pub read_line-requires : goal.read_line-requires
read_line-requires c = sym (length-map c.loop-rest.columns column_view) ∙ same_count c.loop-rest.instants (sorts_in c.args.types.now c.args.kinds.now) (columns_view c.loop-rest.columns) c.loop-rest.invariant.filled ∙ as_many c.args.types.now c.args.kinds.now

pub loop-rest-preserved : goal.loop-rest-preserved
loop-rest-preserved c =
    let h = c.in-Ok.ensures in
    rw (add-one, h.3) (one_more_line (sorts_in c.args.types.now c.args.kinds.now) (map (λ c. c.name) (columns_view c.args.columns.now)) c.args.bytes.now c.loop-rest.instants c.loop-rest.rest.now (columns_view c.loop-rest.columns) h.0 c.in-Ok.after.now c.loop-rest.invariant h.1 h.2)

pub returns : goal.returns
returns c =
    let none : length c.loop-rest.rest.now ≡ 0 = eqb-true _ _ (sym c.is_empty.ensures ∙ c.loop-rest-test.false) in
    all_read (sorts_in c.args.types.now c.args.kinds.now) (map (λ c. c.name) (columns_view c.args.columns.now)) c.args.bytes.now c.loop-rest.instants c.loop-rest.rest.now (columns_view c.loop-rest.columns) c.loop-rest.invariant none
