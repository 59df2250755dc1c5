use Rattle.std.proofs.Common.{◌≡◌, take}
use Rattle.lusyn_parser.specs.Gives.{names_view}
use Rattle.lusyn_parser.proofs.pieces.plain.Given as goal

abbrev pub invariant-loop-placed : goal.invariant-loop-placed
invariant-loop-placed l = l.found.items ≡ names_view (take l.placed-index l.names)
