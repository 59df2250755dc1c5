use Rattle.std.proofs.Common.{subst}
use Rattle.lueval.specs.Whole.{IsAnswer}
use Rattle.lusdist_answers.proofs.evaluating.evaluation.Goals as goal

pub returns-in_ok-reply-in-Ok-clause-shown : goal.returns-in_ok-reply-in-Ok-clause-shown
returns-in_ok-reply-in-Ok-clause-shown c =
    let shown = c.in_ok-reply-in-Ok.ensures in
    record { columns = c.in-Ok.columns; are_columns = c.in-Ok.ensures.columns; no_fault = c.in-Ok.ensures.no_fault; text_is = shown.text; dump_is = shown.dump; notes_are = shown.notes }

pub faulted-requires-clause-reported : goal.faulted-requires-clause-reported
faulted-requires-clause-reported c = subst (IsAnswer c.args.flat.now c.args.inputs.now) c.in-Err-Fault.field-0-is c.in-Err-Fault.ensures.fault
