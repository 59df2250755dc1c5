use Rattle.lucore_laws.proofs.Stepping.{IsSearching}
use Rattle.lucore_laws.proofs.ranking.rank.Given as goal

abbrev pub invariant-loop : goal.invariant-loop
invariant-loop l = IsSearching l.rows l.missing.items l.ready l.order.items l.counter
