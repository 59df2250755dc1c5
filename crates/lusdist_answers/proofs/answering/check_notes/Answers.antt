use Rattle.std.proofs.Common.{sym, subst}
use Rattle.std.proofs.lemmas.Result.{IfOk-weaker}
use Rattle.lustat_warn.specs.Warnings.{AreWarnings}
use Rattle.lusdist_call.specs.Answers.AreCheckNotes.{warned}
use Rattle.lusdist_answers.proofs.answering.check_notes.Goals as goal

pub returns : goal.returns
returns c =
    let p = c.args.program.now in
    let found = c.in_ok-found.ensures in
    let all = subst (AreWarnings p c.args.request.main.now) (sym c.deref.ensures.value) (record { only = found.only; all = found.all; in_order = found.in_order }) in
    IfOk-weaker c.of_warnings.result _ _ (λ notes h. warned p c.deref.result.now c.if-not-request.false c.requires.spelled c.requires.places all h) c.of_warnings.ensures
