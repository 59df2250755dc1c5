use Rattle.std.proofs.Common.{List, map, sym, ap, ◌∙◌, subst}
use Rattle.luflow.specs.Program.{Column}
use Rattle.luflow.specs.Tables.{IsTable}
use Rattle.luchart.specs.Cut.{cut_column}
use Rattle.luchart.proofs.CutLaws.{is_table, long_enough}
use Rattle.luchart.proofs.cutting.cut.Goals as goal

pub unreachable-requires : goal.unreachable-requires
unreachable-requires c =
    let n = c.args.instants in
    let is = c.in_ok-columns.ensures ∙ ap (map (cut_column n)) c.columns.ensures in
    let clash = c.in-None.ensures.when.1 (subst (λ (cs : List Column). IsTable (record { instants = n; columns = cs })) (sym is) (is_table n c.args.inputs.now c.requires c.recall_invariant.ensures)) in
    cc

pub cut_columns-requires : goal.cut_columns-requires
cut_columns-requires c = long_enough c.args.instants c.args.inputs.now c.columns.result.now c.columns.ensures c.requires c.recall_invariant.ensures
