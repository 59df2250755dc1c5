-- What the workers of a crew promise.
use Rattle.std.specs.Prelude.{List, flat_map}
use Rattle.std.proofs.Common.{Vec, Global}
use Rattle.std.specs.declared.thread.PromisedHandle.{PromisedHandle}
use Rattle.lurun.specs.Stations.{StationView, ReportView}
use Rattle.lurun.specs.declared.crew.ReportsOf.{ReportsOf}

-- the stations of which the workers promise reports
abbrev pub promised : List (PromisedHandle (Vec ReportView Global) ReportsOf) → List StationView
promised workers = flat_map (λ h. h.promise.0.value.items) workers
