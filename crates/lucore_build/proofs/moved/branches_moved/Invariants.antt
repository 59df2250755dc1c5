use Rattle.std.proofs.Common.{◌≡◌, ◌+◌, map, take}
use Rattle.lucore_build.proofs.moved.branches_moved.Given as goal

abbrev pub invariant-loop-branch : goal.invariant-loop-branch
invariant-loop-branch l = l.moved.items ≡ map (λ x. l.base + x) (take l.branch-index l.branches)
