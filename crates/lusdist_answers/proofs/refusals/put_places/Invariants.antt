use Rattle.std.proofs.Common.{◌≡◌, ◌++◌, take}
use Rattle.lusdist_call.specs.Reasons.{all_told}
use Rattle.lusdist_answers.proofs.refusals.put_places.Given as goal

abbrev pub invariant-loop-refusal : goal.invariant-loop-refusal
invariant-loop-refusal l = l.text.items ≡ l.initial.text.items ++ all_told l.request (take l.refusal-index l.refusals)
