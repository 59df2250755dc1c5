use Rattle.std.proofs.Common.{◌∙◌, List, subst, sym, ap}
use Rattle.luflow.specs.declared.variable.Variable.{Variable}
use Rattle.luflow.specs.Tables.{AreOutputs}
use Rattle.lueval_lines.specs.Columns.{lists_of}
use Rattle.lueval_lines.specs.Outputs.{outputs_in}
use Rattle.lublock.proofs.Answered.{reported_outputs, reported_sound}
use Rattle.lublock.proofs.run.reported.Goals as goal

pub unreachable-requires : goal.unreachable-requires
unreachable-requires c =
    let flat = c.args.flat.now in
    let inputs = c.args.inputs.now in
    let columns = c.args.columns.items in
    let is = c.in_ok-outputs.ensures ∙ ap (λ (xs : List Variable). outputs_in xs (lists_of columns)) c.variables.ensures in
    let clash = c.in-None.ensures.when.1 (subst AreOutputs (sym is) (reported_sound flat inputs columns c.recall_invariant.ensures c.requires.fit c.requires.run c.requires.whole c.requires.some)) in
    cc

pub returns-clause-outputs : goal.returns-clause-outputs
returns-clause-outputs c =
    let flat = c.args.flat.now in
    let inputs = c.args.inputs.now in
    let columns = c.args.columns.items in
    let is = c.in_ok-outputs.ensures ∙ ap (λ (xs : List Variable). outputs_in xs (lists_of columns)) c.variables.ensures in
    reported_outputs flat inputs columns c.recall_invariant.ensures c.requires.fit c.requires.run c.requires.whole c.in-Some.outputs (c.in-Some.ensures.outputs ∙ is)
