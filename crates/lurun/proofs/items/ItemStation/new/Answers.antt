use Rattle.lurun.proofs.Moves.{new_fits}
use Rattle.lurun.proofs.items.ItemStation.new.Goals as goal

pub invariant_of-result : goal.invariant_of-result
invariant_of-result c = new_fits c.args.site c.args.txs.items c.args.rxs.items c.requires
