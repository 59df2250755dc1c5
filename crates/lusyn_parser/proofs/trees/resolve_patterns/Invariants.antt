use Rattle.std.proofs.Common.{◌≡◌}
use Rattle.lusyn_parser.specs.Resolved.{resolved_pattern}
use Rattle.lusyn_parser.specs.Known.{types_of}
use Rattle.lusyn_parser.proofs.Changed.{changed}
use Rattle.lusyn_parser.proofs.trees.resolve_patterns.Given as goal

abbrev pub invariant-loop-pattern : goal.invariant-loop-pattern
invariant-loop-pattern l = l.pattern-items ≡ changed (resolved_pattern (types_of l.labels)) l.pattern-index l.initial.pattern-items
