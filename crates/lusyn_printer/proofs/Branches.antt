-- The branches of a merge, one after another.
use Rattle.std.proofs.Common.{ℕ, List, drop, map}
use Rattle.lutree.specs.declared.expr.Expr.{Expr}
use Rattle.lutree.specs.declared.expr.Pattern.{Pattern}
use Rattle.lutree.specs.Tree.{views, trees_of}
use Rattle.lusyn_grammar.specs.Printing.{writtens, bare_pattern}
use Rattle.lusyn_printer.specs.Canonical.{branches}

-- all of these
abbrev pub all_branches : List Expr → List Pattern → List ℕ
all_branches vs ps = branches (writtens (trees_of (views vs))) (map bare_pattern ps)

-- those from a place on
abbrev pub branches_from : List Expr → List Pattern → ℕ → List ℕ
branches_from vs ps i = all_branches (drop i vs) (drop i ps)
