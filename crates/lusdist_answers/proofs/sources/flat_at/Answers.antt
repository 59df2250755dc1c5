use Rattle.std.proofs.Common.{Some, List, ℕ, sym, subst}
use Rattle.std.proofs.lemmas.Result.{err_from_is_err_and, IfOk-weaker, IfErr-weaker}
use Rattle.lusdist_call.specs.Stopped.StopsAtProgram.{program_unread, program_refused}
use Rattle.lusdist_answers.proofs.sources.flat_at.Goals as goal

pub returns-clause-flat : goal.returns-clause-flat
returns-clause-flat g c =
    let gives = g.F.Files.gives c.args.files.now in
    let given = subst (λ (b : List ℕ). gives c.args.path.now (Some b)) (sym c.deref.ensures.value) c.in_ok-bytes.ensures.given in
    IfOk-weaker c.flat_of.result _ _ (λ flat h. record { program = c.deref.result.now; given = given; flat_is = h }) c.flat_of.ensures.flat

pub returns-clause-stopped : goal.returns-clause-stopped
returns-clause-stopped g c =
    let gives = g.F.Files.gives c.args.files.now in
    let given = subst (λ (b : List ℕ). gives c.args.path.now (Some b)) (sym c.deref.ensures.value) c.in_ok-bytes.ensures.given in
    IfErr-weaker c.flat_of.result _ _ (λ stop h. program_refused c.deref.result.now given h) c.flat_of.ensures.refused

pub returns-in_err-bytes-clause-stopped : goal.returns-in_err-bytes-clause-stopped
returns-in_err-bytes-clause-stopped g c =
    let p = err_from_is_err_and c.from_residual.result c.from_residual.ensures.1 in
    rw (p.1, p.2) (program_unread c.in_err-bytes.ensures.unread)
