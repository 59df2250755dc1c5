use Rattle.lublock_site.specs.Stations.{HasBrought}
use Rattle.lublock_site.proofs.sources.take_all.Given as goal

abbrev pub invariant-loop-n : goal.invariant-loop-n
invariant-loop-n l = record { brought : HasBrought l.flat l.fn.source.flow l.fn.board l.fn.source l.board l.source }
