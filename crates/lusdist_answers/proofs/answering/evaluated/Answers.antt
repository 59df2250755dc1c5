use Rattle.std.proofs.Common.{List, subst, sym}
use Rattle.luinside.specs.declared.variables.DeepVariable.{DeepVariable}
use Rattle.lusdist_call.specs.Evaluated.{IsPosedWith}
use Rattle.std.proofs.lemmas.Result.{IfErr-weaker, err_from_is_err_and}
use Rattle.lusdist_answers.proofs.Outcomes.{eval_stop, evaluated_before, evaluated_reply, none_dumped}
use Rattle.lusdist_answers.proofs.answering.evaluated.Goals as goal

pub returns-clause-reply : goal.returns-clause-reply
returns-clause-reply g c =
    evaluated_reply (g.F.Files.gives c.args.files.now) c.args.request c.in_ok-flat.flat c.in_ok-flat.inputs c.deref.result.now c.requires (subst (λ (l : List DeepVariable). IsPosedWith (g.F.Files.gives c.args.files.now) c.args.request c.in_ok-flat.flat c.in_ok-flat.inputs l) (sym c.deref.ensures.value) c.in_ok-flat.ensures.posed) c.in_ok-flat.ensures.observed c.evaluation.result c.evaluation.ensures.shown c.evaluation.ensures.violated

pub returns-clause-stopped : goal.returns-clause-stopped
returns-clause-stopped g c =
    IfErr-weaker c.evaluation.result _ _ (λ refusal h. eval_stop (g.F.Files.gives c.args.files.now) c.args.request c.in_ok-flat.flat c.in_ok-flat.inputs c.in_ok-flat.ensures.posed.posed c.in_ok-flat.ensures.observed refusal.error h) c.evaluation.ensures.stopped

pub returns-clause-before : goal.returns-clause-before
returns-clause-before g c =
    evaluated_before (g.F.Files.gives c.args.files.now) c.args.request c.in_ok-flat.flat c.in_ok-flat.inputs c.deref.result.now (subst (λ (l : List DeepVariable). IsPosedWith (g.F.Files.gives c.args.files.now) c.args.request c.in_ok-flat.flat c.in_ok-flat.inputs l) (sym c.deref.ensures.value) c.in_ok-flat.ensures.posed) c.evaluation.result c.evaluation.ensures.stopped c.evaluation.ensures.before

pub returns-in_err-flat-clause-stopped : goal.returns-in_err-flat-clause-stopped
returns-in_err-flat-clause-stopped g c =
    let p = err_from_is_err_and c.from_residual.result c.from_residual.ensures.1 in
    rw (p.1, p.2.0) c.in_err-flat.ensures.stopped

pub returns-in_err-flat-clause-before : goal.returns-in_err-flat-clause-before
returns-in_err-flat-clause-before g c =
    let p = err_from_is_err_and c.from_residual.result c.from_residual.ensures.1 in
    rw (p.1, p.2.0, p.2.1) (none_dumped (g.F.Files.gives c.args.files.now) c.args.request _ c.in_err-flat.ensures.no_fault)
