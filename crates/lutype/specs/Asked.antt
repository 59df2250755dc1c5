-- The rules that the search of the first stage asks for.
use Rattle.std.specs.Prelude.{Bool, false, nat_eq}
use Rattle.lustat_rules.specs.Accepted.{Rule, stage, recursive_node}

-- all of the first stage but that of recursion, which has an order of all nodes to find
abbrev pub is_asked : Rule → Bool
is_asked recursive_node = false
is_asked rule = nat_eq (stage rule) 1
