use Rattle.std.proofs.Common.{Some, List, ℕ, sym, subst, inl, inr}
use Rattle.std.proofs.lemmas.Result.{err_from_is_err_and, IfOk-weaker, IfErr-weaker}
use Rattle.lusdist_call.specs.Stopped.StopsAtProgram.{program_unread, program_refused}
use Rattle.lusdist_answers.proofs.sources.shown_at.Goals as goal

pub returns-clause-shown : goal.returns-clause-shown
returns-clause-shown g c =
    let gives = g.F.Files.gives c.args.files.now in
    let given = subst (λ (b : List ℕ). gives c.args.request.program.now (Some b)) (sym c.deref.ensures.value) c.in_ok-bytes.ensures.given in
    IfOk-weaker c.shown_of.result _ _ (λ x h. record { program = c.deref.result.now; given = given; has = h }) c.shown_of.ensures.shown

pub returns-clause-stopped : goal.returns-clause-stopped
returns-clause-stopped g c =
    let gives = g.F.Files.gives c.args.files.now in
    let given = subst (λ (b : List ℕ). gives c.args.request.program.now (Some b)) (sym c.deref.ensures.value) c.in_ok-bytes.ensures.given in
    IfErr-weaker c.shown_of.result _ _ (λ stop h. elim h [ inl memory ↦ inl memory | inr none ↦ inr (program_refused c.deref.result.now given none) ]) c.shown_of.ensures.refused

pub returns-in_err-bytes-clause-stopped : goal.returns-in_err-bytes-clause-stopped
returns-in_err-bytes-clause-stopped g c =
    let p = err_from_is_err_and c.from_residual.result c.from_residual.ensures.1 in
    rw (p.1, p.2) (inr (program_unread c.in_err-bytes.ensures.unread))
