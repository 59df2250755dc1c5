use Rattle.std.proofs.Common.{String, Global, ap, sym, subst, ◌∙◌, option_map, string_bytes}
use Rattle.std.proofs.lemmas.Result.{err_from_is_err_and}
use Rattle.lusdist_call.specs.Stopped.IsPlanStopped.{plan_files, plan_memory}
use Rattle.lusdist_call.specs.Answers.{IsPlanText}
use Rattle.lusdist_answers.proofs.answering.plan_answer.Goals as goal

pub returns-in_err-text-clause-stopped : goal.returns-in_err-text-clause-stopped
returns-in_err-text-clause-stopped g c =
    let p = err_from_is_err_and c.from_residual-in_err-text.result c.from_residual-in_err-text.ensures.1 in
    rw (p.1, p.2) (plan_memory c.in_err-text.ensures.memory)

pub returns-in_err-plan-clause-stopped : goal.returns-in_err-plan-clause-stopped
returns-in_err-plan-clause-stopped g c =
    let p = err_from_is_err_and c.from_residual.result c.from_residual.ensures.1 in
    rw (p.1, p.2) (plan_files c.in_err-plan.ensures.stopped)

pub returns-clause-reply : goal.returns-clause-reply
returns-clause-reply g c =
    let made = c.noted.ensures in (
      record {
        plan = c.in_ok-plan.plan;
        asked_for = c.in_ok-plan.ensures.plan;
        text_is = subst (λ (t : String Global). IsPlanText c.args.request.form c.in_ok-plan.plan (string_bytes t)) (sym made.text) c.in_ok-text.ensures.text;
        notes_are = ap string_bytes made.notes ∙ c.in_ok-notes.ensures;
      },
      (made.violated, ap (option_map string_bytes) made.dump),
    )
