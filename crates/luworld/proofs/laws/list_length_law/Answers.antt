use Rattle.luworld.proofs.Outlines.{list_long}
use Rattle.luworld.proofs.laws.list_length_law.Goals as goal

pub returns : goal.returns
returns c = λ job ok link listed. list_long job ok link listed
