use Rattle.std.proofs.Common.{◌≡◌, ◌+◌, take, map}
use Rattle.std.specs.Prelude.{length}
use Rattle.lutree.specs.Tree.{equation_view}
use Rattle.luinside.specs.Calls.{calls_of}
use Rattle.luinside.proofs.texts.call_at.Given as goal

abbrev pub invariant-loop-equation : goal.invariant-loop-equation
invariant-loop-equation l = l.number ≡ length (calls_of (take l.equation (map equation_view l.q-items))) + l.left
