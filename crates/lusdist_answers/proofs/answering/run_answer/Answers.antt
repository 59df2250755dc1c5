use Rattle.std.proofs.Common.{Some, None, ap, sym, ◌∙◌, refl}
use Rattle.std.proofs.lemmas.Result.{IfErr-weaker}
use Rattle.lusdist_call.specs.Mistakes.{unclear_workers}
use Rattle.lusdist_call.specs.declared.mistake.Mistake.TheVariants.{UnclearWorkers}
use Rattle.lusdist_call.specs.Stopped.IsRunRefused.{run_mistaken, run_stopped}
use Rattle.lusdist_answers.proofs.answering.run_answer.Goals as goal

pub ran-requires-clause-meant : goal.ran-requires-clause-meant
ran-requires-clause-meant g c κs within = ap unclear_workers (sym c.workers_in.ensures.asked ∙ c.in-Some.is)

pub returns-in-Some-clause-stopped : goal.returns-in-Some-clause-stopped
returns-in-Some-clause-stopped g c =
    IfErr-weaker c.ran.result _ _ (λ stop h. run_stopped (ap unclear_workers (sym c.workers_in.ensures.asked ∙ c.in-Some.is)) h) c.ran.ensures.stopped

pub returns-in-None-clause-stopped : goal.returns-in-None-clause-stopped
returns-in-None-clause-stopped g c =
    run_mistaken UnclearWorkers (ap unclear_workers (sym c.workers_in.ensures.asked ∙ c.in-None.is)) refl
