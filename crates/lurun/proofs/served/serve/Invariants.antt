use Rattle.lurun.specs.Crew.{HasRoom, AreReportedSoFar}
use Rattle.lurun.proofs.served.serve.Given as goal

abbrev pub invariant-loop : goal.invariant-loop
invariant-loop g l = record {
  room : HasRoom l.share;
  so_far : AreReportedSoFar l.fn.share.served.items l.share.reports.items l.share.served.items;
}
