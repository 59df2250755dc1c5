use Rattle.std.proofs.Common.{refl}
use Rattle.luworld.specs.Systems.{Compute}
use Rattle.lurun.proofs.Moves.{senders_kept, receivers_kept}
use Rattle.lurun.proofs.tries.work_one.Goals as goal

pub returns-clause-senders : goal.returns-clause-senders
returns-clause-senders c = λ txs. senders_kept c.args.site.now c.work.new.self (c.work.ensures.job, c.work.ensures.site) c.work.ensures.done txs (Compute c.requires.0 c.requires.1) c.requires.2 (λ l. refl)

pub returns-clause-receivers : goal.returns-clause-receivers
returns-clause-receivers c = λ rxs. receivers_kept c.args.site.now c.work.new.self (c.work.ensures.job, c.work.ensures.site) c.work.ensures.done rxs (Compute c.requires.0 c.requires.1) c.requires.2 (λ l. refl)
