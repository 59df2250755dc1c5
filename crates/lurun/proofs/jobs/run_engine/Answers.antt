use Rattle.std.proofs.Common.{subst}
use Rattle.std.specs.Prelude.{Option, IfSome, Vec}
use Rattle.std.specs.declared.alloc.Global.{Global}
use Rattle.std.specs.declared.result.Result.{Result}
use Rattle.lurun.specs.declared.error.RunError.{RunError}
use Rattle.luflow.specs.Tables.{OutputColumn}
use Rattle.std.specs.Prelude.{List, IfOk}
use Rattle.lurun.specs.Reports.{AreOutputsOf}
use Rattle.lurun.specs.Stations.{StationView, AreStations}
use Rattle.lurun.proofs.Answers.{run_outputs}
use Rattle.lurun.proofs.Rearranged.{stations_of}
use Rattle.lurun.proofs.jobs.run_engine.Goals as goal

pub returns-in-Ok-clause-outputs : goal.returns-in-Ok-clause-outputs
returns-in-Ok-clause-outputs g c =
    let job = c.args.job.now in
    let all = c.in-Some.stations.items in
    let are : AreStations job c.args.engine all = subst (λ (o : Option (Vec StationView Global)). IfSome o (λ stations. AreStations job c.args.engine stations.items)) c.in-Some.is c.in_ok-made.ensures.new in
    let outputs = run_outputs job all c.run_crew.result (c.run_crew.ensures job (stations_of job c.args.engine all are)) in
    subst (λ (r : Result (List OutputColumn) RunError). IfOk r (AreOutputsOf job)) c.in-Ok.is outputs
