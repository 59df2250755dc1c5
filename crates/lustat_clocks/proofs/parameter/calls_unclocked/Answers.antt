use Rattle.std.proofs.Common.{sym, ◌∙◌, true≢false}
use Rattle.lutree.specs.Tree.{view}
use Rattle.lustat_clocks.proofs.Uncalled.{uncalled}
use Rattle.lustat_clocks.proofs.parameter.calls_unclocked.Goals as goal

pub returns-else-unclocked : goal.returns-else-unclocked
returns-else-unclocked c =
    λ p same. uncalled p c.args.main.now (view c.args.equation.now.right) c.calls_no.result (λ h. true≢false (sym (same.1 h) ∙ c.if-unclocked.false)) c.calls_no.ensures
