use Rattle.luinside.proofs.Deep as deep
use Rattle.luinside.proofs.laws.deep_columns_law.Goals as goal

pub returns : goal.returns
returns c = deep.deep_columns
