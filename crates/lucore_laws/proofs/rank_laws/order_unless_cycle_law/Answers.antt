use Rattle.lucore_laws.proofs.Orders.{straight}
use Rattle.lucore_laws.proofs.RankWalks.{order_from_none}
use Rattle.lucore_laws.proofs.rank_laws.order_unless_cycle_law.Goals as goal

pub returns : goal.returns
returns c = λ rows closed. (λ some x chain. straight rows some.0 some.1 x chain, λ none. order_from_none rows closed none)
