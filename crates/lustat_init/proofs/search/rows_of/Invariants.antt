use Rattle.lustat_init.specs.Rows.{plain, GiveLeastBelow}
use Rattle.lustat_init.proofs.search.rows_of.Given as goal

abbrev pub invariant-loop-scope : goal.invariant-loop-scope
invariant-loop-scope l = GiveLeastBelow l.scope-index l.scopes (plain l.rows.items)
