-- Fitting, by its cases and form by form.
use Rattle.std.proofs.Common.{ℕ, List, [], ◌∷◌, refl, sym, subst}
use Rattle.lutree.specs.declared.expr.Pattern.{Pattern}
use Rattle.lutree.specs.Tree.{Tree, Trees, NodeTree}
use Rattle.lutree.specs.Tree as tree
use Rattle.lustat_rules.specs.Scope.{Clock}
use Rattle.lustat_rules.specs.Clocks.{on, FitsClock, AllFit, BranchesFit, FitsClockInside, AllFitInside, BranchesFitInside}

mutual
  pub inside : {n : NodeTree} {e : Tree} {k : Clock} → FitsClock n e k → FitsClockInside n e k
  inside (FitsClock.number a k) = tt
  inside (FitsClock.truth b k) = tt
  inside (FitsClock.label l k) = tt
  inside (FitsClock.variable x k h) = h
  inside (FitsClock.unary op a k f) = inside f
  inside (FitsClock.binary op a b k f g) = (inside f, inside g)
  inside (FitsClock.choice c a b k e f g) = (inside e, inside f, inside g)
  inside (FitsClock.when a c j h f) = (refl, (j, h, inside f))
  inside (FitsClock.current x c k h g) = (c, h, g)
  inside (FitsClock.merge c ps all k h g) = (h, branches_inside g)
  inside (FitsClock.call f all k g) = all_inside g

  pub all_inside : {n : NodeTree} {all : Trees} {k : Clock} → AllFit n all k → AllFitInside n all k
  all_inside (AllFit.none k) = tt
  all_inside (AllFit.more a all k f g) = (inside f, all_inside g)

  pub branches_inside : {n : NodeTree} {c : List ℕ} {ps : List Pattern} {all : Trees} → BranchesFit n c ps all → BranchesFitInside n c ps all
  branches_inside (BranchesFit.no_branch c) = tt
  branches_inside (BranchesFit.branch c p ps a all f g) = (inside f, branches_inside g)

mutual
  pub outside : (n : NodeTree) (e : Tree) (k : Clock) → FitsClockInside n e k → FitsClock n e k
  outside n (tree.number a) k f = FitsClock.number a k
  outside n (tree.truth b) k f = FitsClock.truth b k
  outside n (tree.label l) k f = FitsClock.label l k
  outside n (tree.variable x) k f = FitsClock.variable x k f
  outside n (tree.unary op a) k f = FitsClock.unary op a k (outside n a k f)
  outside n (tree.binary op a b) k f = FitsClock.binary op a b k (outside n a k f.0) (outside n b k f.1)
  outside n (tree.choice c a b) k f = FitsClock.choice c a b k (outside n c k f.0) (outside n a k f.1) (outside n b k f.2)
  outside n (tree.when a c) k f =
      subst (λ i. FitsClock n (tree.when a c) i) (sym f.0) (FitsClock.when a c f.1.0 f.1.1 (outside n a f.1.0 f.1.2))
  outside n (tree.current x) k f = FitsClock.current x f.0 k f.1 f.2
  outside n (tree.merge c ps all) k f = FitsClock.merge c ps all k f.0 (branches_outside n c ps all f.1)
  outside n (tree.call g all) k f = FitsClock.call g all k (all_outside n all k f)

  pub all_outside : (n : NodeTree) (all : Trees) (k : Clock) → AllFitInside n all k → AllFit n all k
  all_outside n tree.none k f = AllFit.none k
  all_outside n (tree.more a all) k f = AllFit.more a all k (outside n a k f.0) (all_outside n all k f.1)

  pub branches_outside : (n : NodeTree) (c : List ℕ) (ps : List Pattern) (all : Trees) → BranchesFitInside n c ps all → BranchesFit n c ps all
  branches_outside n c [] tree.none f = BranchesFit.no_branch c
  branches_outside n c [] (tree.more a all) f = absurd f
  branches_outside n c (p ∷ ps) tree.none f = absurd f
  branches_outside n c (p ∷ ps) (tree.more a all) f = BranchesFit.branch c p ps a all (outside n a (on c p) f.0) (branches_outside n c ps all f.1)
