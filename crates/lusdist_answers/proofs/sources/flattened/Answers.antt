use Rattle.std.proofs.lemmas.Result.{err_from_is_err_and}
use Rattle.lusdist_answers.proofs.sources.flattened.Goals as goal

pub returns-in_err-flat-clause-reported : goal.returns-in_err-flat-clause-reported
returns-in_err-flat-clause-reported c =
    let p = err_from_is_err_and c.from_residual.result c.from_residual.ensures.1 in
    rw (p.1, p.2) c.in_err-flat.ensures.reported
