use Rattle.std.proofs.Common.{subst}
use Rattle.std.specs.Prelude.{Option, IfSome, Vec}
use Rattle.std.specs.declared.alloc.Global.{Global}
use Rattle.lurun.specs.declared.engine.Engine.TheVariants.{Items}
use Rattle.lurun.specs.Stations.{StationView, AreStations}
use Rattle.lurun.proofs.Rearranged.{stations_of, stations_complete}
use Rattle.lurun.proofs.making.stations.Goals as goal

pub returns : goal.returns
returns c =
    let job = c.args.job.now in
    let all = c.in-Some.stations.items in
    let are : AreStations job Items all = subst (λ (o : Option (Vec StationView Global)). IfSome o (λ stations. AreStations job Items stations.items)) c.in-Some.is c.in_ok-stations.ensures.new in
    record {
      new = are;
      of = stations_of job Items all are;
      complete = stations_complete job Items all are c.recall_invariant.ensures.plan_is.some_sites;
    }
