use Rattle.std.proofs.Common.{◌≡◌, ◌++◌, map, take, drop}
use Rattle.lusyn_grammar.specs.Tokens.{tok}
use Rattle.luinside.proofs.Signing.{signs_among, branches_among}
use Rattle.luinside.proofs.signs.+signs.Given as goal

abbrev pub invariant-push_all_signs-loop-e : goal.invariant-push_all_signs-loop-e
invariant-push_all_signs-loop-e l = map tok l.signs.items ≡ map tok l.fn.signs.items ++ signs_among (take l.e-index l.all)

abbrev pub invariant-push_branches-loop-i : goal.invariant-push_branches-loop-i
invariant-push_branches-loop-i l = map tok l.signs.items ++ branches_among (drop l.i l.patterns) (drop l.i l.branches) ≡ map tok l.fn.signs.items ++ branches_among l.patterns l.branches
