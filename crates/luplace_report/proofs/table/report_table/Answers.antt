use Rattle.std.proofs.Common.{List, Bool, ap, ◌∙◌}
use Rattle.std.proofs.lemmas.Result.{IfOk-weaker}
use Rattle.luplace_report.specs.Table.{table_text}
use Rattle.luplace_report.proofs.table.report_table.Goals as goal

pub returns : goal.returns
returns c =
    let plan = c.args.plan.now in
    let way = c.in_ok-way.way in
    IfOk-weaker c.text_of.result _ _ (λ text e. record {
      way = way;
      way_is = c.in_ok-way.ensures;
      fed = c.in_ok-fed.fed.items;
      fed_is = c.in_ok-fed.ensures;
      text_is = e ∙ ap (λ (f : List (List Bool)). table_text plan way f) c.as_slice.ensures.value;
    }) c.text_of.ensures
