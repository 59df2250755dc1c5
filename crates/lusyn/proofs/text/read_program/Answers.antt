use Rattle.std.proofs.lemmas.Result.{err_from_is_err_and}
use Rattle.lusyn.proofs.Whole.{refused-only, resolved-only, resolved-spelled}
use Rattle.lusyn.proofs.text.read_program.Goals as goal

pub returns-in_err-written-clause-only : goal.returns-in_err-written-clause-only
returns-in_err-written-clause-only c =
    let p = err_from_is_err_and c.from_residual.result c.from_residual.ensures.1 in
    rw (p.1, p.2) (λ tree s. refused-only c.args.text.now c.in_err-written.field-0.0 tree c.in_err-written.ensures.only s)

pub returns-clause-spelled : goal.returns-clause-spelled
returns-clause-spelled c = resolved-spelled c.args.text.now c.in_ok-written.written c.in_ok-resolve.field-0 c.in_ok-written.ensures.spelled c.in_ok-written.ensures.small c.in_ok-resolve.ensures.program

pub returns-clause-only : goal.returns-clause-only
returns-clause-only c = λ tree s. resolved-only c.args.text.now c.in_ok-written.written c.in_ok-resolve.field-0 tree c.in_ok-written.ensures.only c.in_ok-resolve.ensures.program s
