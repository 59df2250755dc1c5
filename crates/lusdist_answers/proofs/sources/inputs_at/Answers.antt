use Rattle.std.proofs.Common.{Some, List, ℕ, sym, subst}
use Rattle.std.proofs.lemmas.Result.{err_from_is_err_and, IfErr-weaker}
use Rattle.lusdist_call.specs.Stopped.StopsAtTable.{no_table, bad_table}
use Rattle.lusdist_answers.proofs.Stops.{table_found}
use Rattle.lusdist_answers.proofs.sources.inputs_at.Goals as goal

pub returns-clause-table : goal.returns-clause-table
returns-clause-table g c =
    let gives = g.F.Files.gives c.args.files.now in
    let given = subst (λ (b : List ℕ). gives c.args.path.now (Some b)) (sym c.deref.ensures.value) c.in_ok-bytes.ensures.given in
    let found = c.inputs_in.ensures in
    table_found gives c.args.path.now c.args.flat.now c.deref.result.now given c.inputs_in.result found.text found.short found.utf8 found.fits

pub returns-clause-stopped : goal.returns-clause-stopped
returns-clause-stopped g c =
    let gives = g.F.Files.gives c.args.files.now in
    let given = subst (λ (b : List ℕ). gives c.args.path.now (Some b)) (sym c.deref.ensures.value) c.in_ok-bytes.ensures.given in
    IfErr-weaker c.inputs_in.result _ _ (λ stop h. bad_table c.deref.result.now given h) c.inputs_in.ensures.refused

pub returns-in_err-bytes-clause-stopped : goal.returns-in_err-bytes-clause-stopped
returns-in_err-bytes-clause-stopped g c =
    let p = err_from_is_err_and c.from_residual.result c.from_residual.ensures.1 in
    rw (p.1, p.2) (no_table c.in_err-bytes.ensures.unread)
