use Rattle.std.proofs.Common.{subst, sym}
use Rattle.luflow.specs.Program.{InputsView}
use Rattle.luflow.specs.Sound.{IsFit}
use Rattle.lueval_lines.specs.declared.error.EvalError.TheVariants.{Fault}
use Rattle.lueval.specs.Whole.{IsAnswer}
use Rattle.luchart.proofs.CutLaws.{fit}
use Rattle.lusdist_call.specs.Evaluated.{AreEvaluated}
use Rattle.lusdist_answers.proofs.Outcomes.{are_before, cut_fine}
use Rattle.lusdist_answers.proofs.evaluating.columns_before.Goals as goal

pub columns_of-requires-clause-fit : goal.columns_of-requires-clause-fit
columns_of-requires-clause-fit c =
    let flat = c.args.flat.now in
    let inputs = c.args.inputs.now in
    let n = c.args.instant in
    subst (λ (t : InputsView). IsFit flat t) (sym c.in_ok-before.ensures) (fit n inputs c.requires.early flat c.requires.fit)

pub unreachable-requires : goal.unreachable-requires
unreachable-requires c =
    let flat = c.args.flat.now in
    let inputs = c.args.inputs.now in
    let n = c.args.instant in
    let reported : IsAnswer flat c.in_ok-before.before (Fault c.in-Err-Fault._variable c.in-Err-Fault._instant c.in-Err-Fault._kind) = subst (IsAnswer flat c.in_ok-before.before) c.in-Err-Fault.field-0-is c.in-Err-Fault.ensures.fault in
    cut_fine flat inputs n c.in-Err-Fault._variable c.in-Err-Fault._instant c.in-Err-Fault._kind c.recall_invariant.ensures c.requires.early c.requires.no_fault
    (subst (λ (t : InputsView). IsAnswer flat t (Fault c.in-Err-Fault._variable c.in-Err-Fault._instant c.in-Err-Fault._kind)) c.in_ok-before.ensures reported)

pub returns-in-Ok : goal.returns-in-Ok
returns-in-Ok c =
    let flat = c.args.flat.now in
    let inputs = c.args.inputs.now in
    let n = c.args.instant in
    let list = c.args.list.now in
    are_before c.args.request.deep c.args.request.all flat inputs list n c.in-Ok.columns c.recall_invariant.ensures c.requires.list c.requires.early
    (subst (λ (t : InputsView). AreEvaluated flat t list t.instants c.in-Ok.columns) c.in_ok-before.ensures c.in-Ok.ensures.columns)
