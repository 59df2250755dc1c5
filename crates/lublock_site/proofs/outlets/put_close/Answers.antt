use Rattle.lublock_site.proofs.Passing.{may_close}
use Rattle.lublock_site.proofs.outlets.put_close.Goals as goal

pub offer-requires : goal.offer-requires
offer-requires c = may_close c.args.flat.now c.args.outlet.now c.requires
