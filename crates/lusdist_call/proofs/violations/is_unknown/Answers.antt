use Rattle.std.proofs.Common.{Bool, ap, ap₂, sym, ◌∙◌}
use Rattle.std.specs.Prelude.{◌||◌}
use Rattle.std.proofs.lemmas.List.Folds.{list_any_more}
use Rattle.luflow.specs.declared.variable.Variable.{Variable}
use Rattle.lusdist_call.specs.Violations.{is_observable}
use Rattle.lusdist_call.proofs.violations.is_unknown.Goals as goal

pub loop-x-preserved : goal.loop-x-preserved
loop-x-preserved c =
    let p = is_observable c.args.name.now in
    c.either-found.ensures ∙ ap₂ (λ (a b : Bool). a || b) c.loop-x.invariant (c.is_observable.ensures ∙ ap (λ (x : Variable). p x) c.x-item.is) ∙ sym (list_any_more p c.args.variables.now c.loop-x.x-index c.x-item.result c.loop-x-test.true)
