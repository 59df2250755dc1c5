use Rattle.std.proofs.Common.{ap, ◌∙◌, subst, arith}
use Rattle.std.proofs.lemmas.List.{take_all}
use Rattle.luflow.specs.declared.variable.Variable.{Variable}
use Rattle.luflow.specs.Tables.{columns_view}
use Rattle.lutab.specs.Filling.{AreEmptyOf}
use Rattle.lutab.proofs.Headers.{one_more_column}
use Rattle.lutab.proofs.reading.empty_columns.Goals as goal

pub loop-input-preserved : goal.loop-input-preserved
loop-input-preserved c types =
    one_more_column types c.args.inputs.now c.loop-input.input-index c.input-item.result c.loop-input.columns.items c.push.new.self.items (c.in_ok-name.name, c.in_ok-values.values) c.loop-input-test.true (c.loop-input.invariant types)
    (c.in_ok-name.ensures.ok ∙ c.as_str.ensures ∙ ap (λ (x : Variable). x.name) c.input-item.is) c.in_ok-values.ensures c.in_ok-push.ensures.items

pub returns : goal.returns
returns c types =
    subst (λ xs. AreEmptyOf types xs (columns_view c.loop-input.columns.items)) (take_all c.loop-input.input-index c.args.inputs.now (omega arith)) (c.loop-input.invariant types)
