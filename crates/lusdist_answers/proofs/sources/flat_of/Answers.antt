use Rattle.lutree.specs.Places.{places_view}
use Rattle.lutree.specs.Tree.{program_view}
use Rattle.std.proofs.lemmas.Result.{err_from_is_err_and, IfOk-weaker, IfErr-weaker}
use Rattle.lusdist_call.specs.Stopped.HasNoFlat.{unspelled, unruled}
use Rattle.lusdist_answers.proofs.sources.flat_of.Goals as goal

pub returns-clause-flat : goal.returns-clause-flat
returns-clause-flat c =
    IfOk-weaker c.flattened.result _ _
    (λ flat h. record { tree = program_view c.in_ok-program.program; spelled = c.in_ok-program.ensures.spelled; flat_is = h }) c.flattened.ensures.flat

pub returns-clause-refused : goal.returns-clause-refused
returns-clause-refused c =
    IfErr-weaker c.flattened.result _ _
    (λ stop h. unruled (program_view c.in_ok-program.program) (places_view c.in_ok-program.program) c.in_ok-program.ensures.spelled c.in_ok-program.ensures.places h) c.flattened.ensures.reported

pub returns-in_err-program-clause-refused : goal.returns-in_err-program-clause-refused
returns-in_err-program-clause-refused c =
    let p = err_from_is_err_and c.from_residual.result c.from_residual.ensures.1 in
    rw (p.1, p.2) (unspelled c.in_err-program.ensures.refused)
