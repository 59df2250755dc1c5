use Rattle.std.proofs.Common.{◌≡◌, ◌+◌, ◌++◌, map, take}
use Rattle.luplace.proofs.layers.put_raised.Given as goal

abbrev pub invariant-loop-number : goal.invariant-loop-number
invariant-loop-number l = l.row.items ≡ l.initial.row.items ++ map (λ r. l.by + r) (take l.number-index l.numbers)
