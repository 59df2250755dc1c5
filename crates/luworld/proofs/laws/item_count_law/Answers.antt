use Rattle.luworld.proofs.Items.{items}
use Rattle.luworld.proofs.laws.item_count_law.Goals as goal

pub returns : goal.returns
returns c = items
