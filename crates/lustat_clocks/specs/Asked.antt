-- The rules that the search of the second stage asks for.
use Rattle.std.specs.Prelude.{Bool, nat_eq}
use Rattle.lustat_rules.specs.Accepted.{Rule, stage}

abbrev pub is_asked : Rule → Bool
is_asked rule = nat_eq (stage rule) 2
