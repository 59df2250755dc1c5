use Rattle.luworld.proofs.Parts.{script_parts}
use Rattle.luworld.proofs.laws.parts_law.Goals as goal

pub returns : goal.returns
returns c = script_parts
