-- What a run of stations answers, by what is collected of their reports.
use Rattle.std.proofs.Common.{◌≡◌, ◌⊎◌, List, Ok, Err, map, sym, ◌∙◌, subst, inl, inr}
use Rattle.std.specs.Prelude.{IfOk, IfErr}
use Rattle.std.specs.declared.result.Result.{Result}
use Rattle.std.proofs.lemmas.Bool.{false≢true}
use Rattle.luflow.specs.Tables.{OutputColumn}
use Rattle.luworld.specs.Jobs.{JobView}
use Rattle.lusite.specs.Sites.{SiteView}
use Rattle.lurun.specs.declared.error.RunError.{RunError}
use Rattle.lurun.specs.declared.error.RunError.TheVariants.{Fault, OutOfMemory, LinkLost, NoThread, WrongReports}
use Rattle.lurun.specs.Answers.{IsRunAnswer, IsStop}
use Rattle.lurun.specs.Runs.{IsStopOfJob}
use Rattle.lurun.specs.Reports.{AreReportsOfJob, AreComplete, AreOutputsOf, IsCollected}
use Rattle.lurun.specs.Stations.{StationView, ReportView, AllGoBy, AreLeft, AreOf, AreReportsOf, sites_at}
use Rattle.lurun.specs.declared.engine.Engine.TheVariants.{Items}
use Rattle.lusite.specs.Machine.{IsFaultAt}
use Rattle.lurun.proofs.Lists.{all_at}
use Rattle.lurun.proofs.Rearranged.{reported_of, complete_as, engine_of_reports}

-- what is collected of the stations' reports is what their run may answer
module _ (job : JobView) (stations : List StationView) (told : List ReportView) (reports : List SiteView) (of : AreOf job stations) (reported : AreReportsOf stations told) (are : AreLeft told reports) where
  here : AreComplete job reports → AreComplete job (sites_at stations)
  here complete = sym (complete_as job stations told reports reported are) ∙ complete

  answer : (result : Result (List OutputColumn) RunError) → IsCollected job reports result → IsRunAnswer job stations result
  answer (Ok columns) is = (here is.complete, is.are_outputs)
  answer (Err (Fault v t k)) is =
      let l = is.1.1 in
      (here is.0, (is.1.0, subst (λ (j : JobView). IsFaultAt j is.1.0 (record { variable = v; instant = t; kind = k })) (all_at (λ (q : SiteView). q.job ≡ job) reports l.place l.report (reported_of job stations told reports reported are of) l.there) l.fault_is))
  answer (Err OutOfMemory) is = tt
  answer (Err LinkLost) is = λ _. here is.0
  answer (Err NoThread) is = absurd is
  answer (Err WrongReports) (inl not) = inl (sym (complete_as job stations told reports reported are) ∙ not)
  answer (Err WrongReports) (inr none) = inr (none.no_fault, none.no_output)

  pub run_answer : (result : Result (List OutputColumn) RunError) → ((j : JobView) → AreReportsOfJob j reports → IsCollected j reports result) → IsRunAnswer job stations result
  run_answer result collected = answer result (collected job (reported_of job stations told reports reported are of))

-- a run of which a station left nothing may answer that a link was lost
pub lost : (job : JobView) (stations : List StationView) (reports : List ReportView) → AreReportsOf stations reports → (AllGoBy Items (map (λ (r : ReportView). r.of) reports) → ⊥) → IsRunAnswer job stations (Err LinkLost)
lost job stations reports are none = λ all. absurd (none (engine_of_reports Items stations reports are all))

-- what a run of all stations of a job says of the job
pub run_outputs : (job : JobView) (stations : List StationView) (result : Result (List OutputColumn) RunError) → IsRunAnswer job stations result → IfOk result (AreOutputsOf job)
run_outputs job stations (Ok columns) is = is.1
run_outputs job stations (Err error) is = tt

stop_of : (job : JobView) (stations : List StationView) → AreComplete job (sites_at stations) → (error : RunError) → IsStop job stations error → IsStopOfJob job error
stop_of job stations complete (Fault v t k) is = is.1
stop_of job stations complete OutOfMemory is = tt
stop_of job stations complete LinkLost is = tt
stop_of job stations complete NoThread is = tt
stop_of job stations complete WrongReports (inl not) = absurd (false≢true (sym not ∙ complete))
stop_of job stations complete WrongReports (inr none) = none

pub run_stopped : (job : JobView) (stations : List StationView) (result : Result (List OutputColumn) RunError) → AreComplete job (sites_at stations) → IsRunAnswer job stations result → IfErr result (IsStopOfJob job)
run_stopped job stations (Ok columns) complete is = tt
run_stopped job stations (Err error) complete is = stop_of job stations complete error is
