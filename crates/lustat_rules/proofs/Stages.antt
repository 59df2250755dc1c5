-- The stages of the rules.
use Rattle.std.proofs.Common.{◌≤◌, arith}
use Rattle.lustat_rules.specs.Accepted.{Rule, stage}

-- no stage is before the first
pub stage_least : (rule : Rule) → 1 ≤ stage rule
stage_least Rule.duplicate_name = omega arith
stage_least Rule.unknown_name = omega arith
stage_least Rule.unknown_node = omega arith
stage_least Rule.type_mismatch = omega arith
stage_least Rule.wrong_arity = omega arith
stage_least Rule.undefined = omega arith
stage_least Rule.defined_twice = omega arith
stage_least Rule.recursive_node = omega arith
stage_least Rule.no_main = omega arith
stage_least Rule.bad_merge = omega arith
stage_least Rule.clock_mismatch = omega arith
stage_least Rule.not_a_clock = omega arith
stage_least Rule.clocked_parameter = omega arith
stage_least Rule.hidden_clock = omega arith
stage_least Rule.maybe_nil = omega arith
stage_least Rule.current_may_be_nil = omega arith
