use Rattle.std.proofs.Common.{rules}
use Rattle.lublock.proofs.closing.is_shifted.Goals as goal

pub loop-m-preserved : goal.loop-m-preserved
loop-m-preserved c = search rules
