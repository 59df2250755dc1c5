use Rattle.std.proofs.Common.{◌≡◌, ℕ, List, ◌++◌, take}
use Rattle.lusdist_call.specs.Reasons.{AreTold}
use Rattle.lusdist_answers.proofs.refusals.put_each.Given as goal

abbrev pub invariant-loop-j : goal.invariant-loop-j
invariant-loop-j g l = (told : List ℕ) × AreTold (g.F.Files.gives l.files) l.request (take l.j l.faults) told × (l.text.items ≡ l.initial.text.items ++ told)
